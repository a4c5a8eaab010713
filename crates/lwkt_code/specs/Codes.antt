-- Expressions and conditions as lists of numbers that give them back (own, version 3). Only the kit asks for them.
use Rattle.std.specs.Prelude.{◌≡◌, ℕ, ◌==◌, List, [], ◌∷◌, ◌++◌, if◌then◌else◌}
use Rattle.std.specs.Coded.{Coded, code_by, coded_ℕ, coded_list, coded×}
use Rattle.std.proofs.Common.{refl, sym, ap, ◌∙◌}
use Rattle.std.proofs.lemmas.List.{append_assoc, append-nil}
use Rattle.lwkt_code.specs.declared.exprs.Operator.{Operator}
use Rattle.lwkt_code.specs.declared.exprs.Operator.TheVariants.{Plus, Minus, Times, Over, Rest}
use Rattle.lwkt_code.specs.declared.exprs.Comparison.{Comparison}
use Rattle.lwkt_code.specs.declared.exprs.Comparison.TheVariants.{Equal, Unequal, Less, AtMost, More, AtLeast}
use Rattle.lwkt_code.specs.Terms.{Term, number, variable, both, Formula, compare, each_of, one_of, none_of}

-- an operator as a number, and back
abbrev of_operator : Operator → ℕ
of_operator Plus = 0
of_operator Minus = 1
of_operator Times = 2
of_operator Over = 3
of_operator Rest = 4

abbrev to_operator : ℕ → Operator
to_operator n = if n == 0 then Plus else (if n == 1 then Minus else (if n == 2 then Times else (if n == 3 then Over else Rest)))

same_operator : (op : Operator) → to_operator (of_operator op) ≡ op
same_operator Plus = refl
same_operator Minus = refl
same_operator Times = refl
same_operator Over = refl
same_operator Rest = refl

-- a comparison as a number, and back
abbrev of_comparison : Comparison → ℕ
of_comparison Equal = 0
of_comparison Unequal = 1
of_comparison Less = 2
of_comparison AtMost = 3
of_comparison More = 4
of_comparison AtLeast = 5

abbrev to_comparison : ℕ → Comparison
to_comparison n = if n == 0 then Equal else (if n == 1 then Unequal else (if n == 2 then Less else (if n == 3 then AtMost else (if n == 4 then More else AtLeast))))

same_comparison : (by : Comparison) → to_comparison (of_comparison by) ≡ by
same_comparison Equal = refl
same_comparison Unequal = refl
same_comparison Less = refl
same_comparison AtMost = refl
same_comparison More = refl
same_comparison AtLeast = refl

-- an expression, its operators before what they take: pairs of a kind and a number
abbrev of_term : Term → List (ℕ × ℕ)
of_term (number n) = (0, n) ∷ []
of_term (variable v) = (1, v) ∷ []
of_term (both op a b) = (2, of_operator op) ∷ of_term a ++ of_term b

-- two expressions under an operator
abbrev joined : Operator → List Term → List Term
joined op [] = []
joined op (a ∷ []) = []
joined op (a ∷ b ∷ terms) = both op a b ∷ terms

-- a pair, before the expressions behind it
abbrev before : ℕ × ℕ → List Term → List Term
before p terms = if p.0 == 0 then number p.1 ∷ terms else (if p.0 == 1 then variable p.1 ∷ terms else joined (to_operator p.1) terms)

abbrev to_terms : List (ℕ × ℕ) → List Term
to_terms [] = []
to_terms (p ∷ ps) = before p (to_terms ps)

abbrev first_term : List Term → Term
first_term [] = number 0
first_term (t ∷ terms) = t

abbrev to_term : List (ℕ × ℕ) → Term
to_term ps = first_term (to_terms ps)

same_terms : (t : Term) (ps : List (ℕ × ℕ)) → to_terms (of_term t ++ ps) ≡ t ∷ to_terms ps
same_terms (number n) ps = refl
same_terms (variable v) ps = refl
same_terms (both op a b) ps =
    ap (λ qs. joined (to_operator (of_operator op)) (to_terms qs)) (append_assoc (of_term a) (of_term b) ps)
    ∙ ap (joined (to_operator (of_operator op))) (same_terms a (of_term b ++ ps) ∙ ap (λ ts. a ∷ ts) (same_terms b ps))
    ∙ ap (λ o. both o a b ∷ to_terms ps) (same_operator op)

pub same_term : (t : Term) → to_term (of_term t) ≡ t
same_term t = ap (λ ps. first_term (to_terms ps)) (sym (append-nil (of_term t))) ∙ ap first_term (same_terms t [])

abbrev pub term_code : Coded Term
term_code = code_by (List (ℕ × ℕ)) (coded_list (coded× coded_ℕ coded_ℕ)) of_term to_term same_term

-- a condition so: a kind, and the two expressions of a comparison
abbrev of_formula : Formula → List (ℕ × (List (ℕ × ℕ) × List (ℕ × ℕ)))
of_formula (compare by a b) = (of_comparison by, (of_term a, of_term b)) ∷ []
of_formula (none_of a) = (6, ([], [])) ∷ of_formula a
of_formula (each_of a b) = (7, ([], [])) ∷ of_formula a ++ of_formula b
of_formula (one_of a b) = (8, ([], [])) ∷ of_formula a ++ of_formula b

abbrev on_one : (Formula → Formula) → List Formula → List Formula
on_one f [] = []
on_one f (a ∷ formulas) = f a ∷ formulas

abbrev on_two : (Formula → Formula → Formula) → List Formula → List Formula
on_two f [] = []
on_two f (a ∷ []) = []
on_two f (a ∷ b ∷ formulas) = f a b ∷ formulas

abbrev ahead : ℕ × (List (ℕ × ℕ) × List (ℕ × ℕ)) → List Formula → List Formula
ahead p formulas =
    if p.0 == 6 then on_one none_of formulas else (
    if p.0 == 7 then on_two each_of formulas else (
    if p.0 == 8 then on_two one_of formulas else compare (to_comparison p.0) (to_term p.1.0) (to_term p.1.1) ∷ formulas))

abbrev to_formulas : List (ℕ × (List (ℕ × ℕ) × List (ℕ × ℕ))) → List Formula
to_formulas [] = []
to_formulas (p ∷ ps) = ahead p (to_formulas ps)

abbrev first_formula : List Formula → Formula
first_formula [] = compare Equal (number 0) (number 0)
first_formula (f ∷ formulas) = f

abbrev to_formula : List (ℕ × (List (ℕ × ℕ) × List (ℕ × ℕ))) → Formula
to_formula ps = first_formula (to_formulas ps)

same_compare : (by : Comparison) (x y : List (ℕ × ℕ)) (formulas : List Formula) → ahead (of_comparison by, (x, y)) formulas ≡ compare by (to_term x) (to_term y) ∷ formulas
same_compare Equal x y formulas = refl
same_compare Unequal x y formulas = refl
same_compare Less x y formulas = refl
same_compare AtMost x y formulas = refl
same_compare More x y formulas = refl
same_compare AtLeast x y formulas = refl

same_formulas : (f : Formula) (ps : List (ℕ × (List (ℕ × ℕ) × List (ℕ × ℕ)))) → to_formulas (of_formula f ++ ps) ≡ f ∷ to_formulas ps
same_formulas (compare by a b) ps =
    same_compare by (of_term a) (of_term b) (to_formulas ps)
    ∙ ap (λ x. compare by x (to_term (of_term b)) ∷ to_formulas ps) (same_term a) ∙ ap (λ y. compare by a y ∷ to_formulas ps) (same_term b)
same_formulas (none_of a) ps = ap (on_one none_of) (same_formulas a ps)
same_formulas (each_of a b) ps =
    ap (λ qs. on_two each_of (to_formulas qs)) (append_assoc (of_formula a) (of_formula b) ps)
    ∙ ap (on_two each_of) (same_formulas a (of_formula b ++ ps) ∙ ap (λ fs. a ∷ fs) (same_formulas b ps))
same_formulas (one_of a b) ps =
    ap (λ qs. on_two one_of (to_formulas qs)) (append_assoc (of_formula a) (of_formula b) ps)
    ∙ ap (on_two one_of) (same_formulas a (of_formula b ++ ps) ∙ ap (λ fs. a ∷ fs) (same_formulas b ps))

pub same_formula : (f : Formula) → to_formula (of_formula f) ≡ f
same_formula f = ap (λ ps. first_formula (to_formulas ps)) (sym (append-nil (of_formula f))) ∙ ap first_formula (same_formulas f [])

abbrev pub formula_code : Coded Formula
formula_code = code_by (List (ℕ × (List (ℕ × ℕ) × List (ℕ × ℕ)))) (coded_list (coded× coded_ℕ (coded× (coded_list (coded× coded_ℕ coded_ℕ)) (coded_list (coded× coded_ℕ coded_ℕ))))) of_formula to_formula same_formula
