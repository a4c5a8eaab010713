-- Claims as lists that give them back (own). Only the kit asks for them.
use Rattle.std.specs.Prelude.{◌≡◌, ℕ, ◌==◌, List, [], ◌∷◌, ◌++◌, ◌⊎◌, if◌then◌else◌}
use Rattle.std.specs.Coded.{Coded, code_by, coded_ℕ, coded_list, coded⊎}
use Rattle.std.proofs.Common.{inl, inr, refl, sym, ap, ◌∙◌}
use Rattle.std.proofs.lemmas.List.{append_assoc, append-nil}
use Rattle.lwkt_text.specs.declared.claims.Fact.{Fact}
use Rattle.lwkt_text.specs.declared.claims.Fact.TheVariants.{Ended}
use Rattle.lwkt_text.specs.Statements.{Statement, fact, each_of, one_of, none_of}

-- a claim, its signs before what they take: 0 for `not`, 1 for `and`, 2 for `or`
abbrev of_statement : Statement → List (ℕ ⊎ Fact)
of_statement (fact f) = inr f ∷ []
of_statement (none_of a) = inl 0 ∷ of_statement a
of_statement (each_of a b) = inl 1 ∷ of_statement a ++ of_statement b
of_statement (one_of a b) = inl 2 ∷ of_statement a ++ of_statement b

abbrev on_one : (Statement → Statement) → List Statement → List Statement
on_one f [] = []
on_one f (a ∷ claims) = f a ∷ claims

abbrev on_two : (Statement → Statement → Statement) → List Statement → List Statement
on_two f [] = []
on_two f (a ∷ []) = []
on_two f (a ∷ b ∷ claims) = f a b ∷ claims

-- a fact or a sign, before the claims behind it
abbrev ahead : ℕ ⊎ Fact → List Statement → List Statement
ahead (inr f) claims = fact f ∷ claims
ahead (inl sign) claims = if sign == 0 then on_one none_of claims else (if sign == 1 then on_two each_of claims else on_two one_of claims)

abbrev to_statements : List (ℕ ⊎ Fact) → List Statement
to_statements [] = []
to_statements (p ∷ ps) = ahead p (to_statements ps)

abbrev first_statement : List Statement → Statement
first_statement [] = fact Ended
first_statement (c ∷ claims) = c

abbrev to_statement : List (ℕ ⊎ Fact) → Statement
to_statement ps = first_statement (to_statements ps)

same_statements : (c : Statement) (ps : List (ℕ ⊎ Fact)) → to_statements (of_statement c ++ ps) ≡ c ∷ to_statements ps
same_statements (fact f) ps = refl
same_statements (none_of a) ps = ap (on_one none_of) (same_statements a ps)
same_statements (each_of a b) ps =
    ap (λ qs. on_two each_of (to_statements qs)) (append_assoc (of_statement a) (of_statement b) ps)
    ∙ ap (on_two each_of) (same_statements a (of_statement b ++ ps) ∙ ap (λ cs. a ∷ cs) (same_statements b ps))
same_statements (one_of a b) ps =
    ap (λ qs. on_two one_of (to_statements qs)) (append_assoc (of_statement a) (of_statement b) ps)
    ∙ ap (on_two one_of) (same_statements a (of_statement b ++ ps) ∙ ap (λ cs. a ∷ cs) (same_statements b ps))

pub same_statement : (c : Statement) → to_statement (of_statement c) ≡ c
same_statement c = ap (λ ps. first_statement (to_statements ps)) (sym (append-nil (of_statement c))) ∙ ap first_statement (same_statements c [])

abbrev pub statement_code : Coded Fact → Coded Statement
statement_code facts = code_by (List (ℕ ⊎ Fact)) (coded_list (coded⊎ coded_ℕ facts)) of_statement to_statement same_statement
