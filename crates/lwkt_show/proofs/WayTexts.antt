-- Words before an ask have no character that ends them: what a thread computed.
use Rattle.std.proofs.Common.{◌≡◌, ◌≢◌, ◌==◌, ℕ, Bool, true, false, nat_lt, not, List, [], ◌∷◌, ◌++◌, Option, Some, None, length, refl, arith, take, codes, slice_get}
use Rattle.std.specs.Fmt.{decimal}
use Rattle.std.specs.List.{list_all}
use Rattle.lwkt_base.specs.declared.names.ThreadId.{ThreadId}
use Rattle.lwkt_code.specs.declared.exprs.Comparison.{Comparison}
use Rattle.lwkt_code.specs.declared.exprs.Comparison.TheVariants.{Equal, Unequal, Less, AtMost, More, AtLeast}
use Rattle.lwkt_code.specs.declared.exprs.Operator.{Operator}
use Rattle.lwkt_code.specs.declared.exprs.Operator.TheVariants.{Plus, Minus, Times, Over, Rest}
use Rattle.lwkt_code.specs.declared.steps.Step.{Step}
use Rattle.lwkt_code.specs.declared.steps.Step.TheVariants.{Unless, Assert}
use Rattle.lwkt_code.specs.Terms.{Term, number, variable, both, Formula, compare, each_of, one_of, none_of}
use Rattle.lwkt_show.specs.declared.walks.Made.{Made}
use Rattle.lwkt_show.specs.declared.walks.Made.TheVariants.{Assigned, Decided}
use Rattle.lwkt_show.specs.declared.walks.Way.{Way}
use Rattle.lwkt_show.specs.Computed.{operator_text, comparison_text, opening_text, closing_text, term_text, formula_text, decision_text, outcome_text, made_text, all_text, cut_text, way_text}
use Rattle.lwkt_show.proofs.Splits.{Each, IsDigit, each_append, each_if, none_of as lacks, decimal_none}

-- a character that doesn't end the words before an ask
abbrev pub Before : ℕ → Type 0
Before c = c ≢ 58

no_digit_parts : IsDigit 58 → ⊥
no_digit_parts digit = omega (arith, digit.1)

-- a number, and texts behind texts
pub decimal_before : (n : ℕ) → Each Before (decimal n)
decimal_before n = decimal_none 58 n no_digit_parts

words_before : (words : List ℕ) → list_all (λ c. not (c == 58)) words ≡ true → Each Before words
words_before words never = lacks 58 refl words never

then_before : (xs ys : List ℕ) → Each Before xs → Each Before ys → Each Before (xs ++ ys)
then_before xs ys a b = each_append Before xs ys a b

between_before : (a b c : List ℕ) → Each Before a → Each Before b → Each Before c → Each Before (a ++ b ++ c)
between_before a b c first second third = then_before (a ++ b) c (then_before a b first second) third

both_before : (a b c d e : List ℕ) → Each Before a → Each Before b → Each Before c → Each Before d → Each Before e → Each Before (a ++ b ++ c ++ d ++ e)
both_before a b c d e first second third fourth fifth =
    then_before (a ++ b ++ c ++ d) e (then_before (a ++ b ++ c) d (between_before a b c first second third) fourth) fifth

operator_before : (op : Operator) → Each Before (operator_text op)
operator_before Plus = words_before (codes " + ") refl
operator_before Minus = words_before (codes " - ") refl
operator_before Times = words_before (codes " * ") refl
operator_before Over = words_before (codes " / ") refl
operator_before Rest = words_before (codes " % ") refl

comparison_before : (by : Comparison) → Each Before (comparison_text by)
comparison_before Equal = words_before (codes " = ") refl
comparison_before Unequal = words_before (codes " != ") refl
comparison_before Less = words_before (codes " < ") refl
comparison_before AtMost = words_before (codes " <= ") refl
comparison_before More = words_before (codes " > ") refl
comparison_before AtLeast = words_before (codes " >= ") refl

opening_before : (inner : Bool) → Each Before (opening_text inner)
opening_before inner = each_if Before inner (codes "(") [] (words_before (codes "(") refl) tt

closing_before : (inner : Bool) → Each Before (closing_text inner)
closing_before inner = each_if Before inner (codes ")") [] (words_before (codes ")") refl) tt

term_before : (id : ThreadId) (inner : Bool) (term : Term) → Each Before (term_text None id inner term)
term_before id inner (number n) = decimal_before n
term_before id inner (variable v) = then_before (codes "v") (decimal v) (words_before (codes "v") refl) (decimal_before v)
term_before id inner (both op a b) =
    both_before (opening_text inner) (term_text None id true a) (operator_text op) (term_text None id true b) (closing_text inner)
    (opening_before inner) (term_before id true a) (operator_before op) (term_before id true b) (closing_before inner)

formula_before : (id : ThreadId) (inner : Bool) (formula : Formula) → Each Before (formula_text None id inner formula)
formula_before id inner (compare by a b) =
    between_before (term_text None id false a) (comparison_text by) (term_text None id false b) (term_before id false a) (comparison_before by) (term_before id false b)
formula_before id inner (each_of a b) =
    both_before (opening_text inner) (formula_text None id true a) (codes " and ") (formula_text None id true b) (closing_text inner)
    (opening_before inner) (formula_before id true a) (words_before (codes " and ") refl) (formula_before id true b) (closing_before inner)
formula_before id inner (one_of a b) =
    both_before (opening_text inner) (formula_text None id true a) (codes " or ") (formula_text None id true b) (closing_text inner)
    (opening_before inner) (formula_before id true a) (words_before (codes " or ") refl) (formula_before id true b) (closing_before inner)
formula_before id inner (none_of a) =
    between_before (codes "not (") (formula_text None id false a) (codes ")") (words_before (codes "not (") refl) (formula_before id false a) (words_before (codes ")") refl)

decision_before : (id : ThreadId) (step : Option Step) → Each Before (decision_text None id step)
decision_before id (Some (Unless test c to)) = formula_before id false c
decision_before id (Some (Assert c n)) = formula_before id false c
decision_before id _ = tt

outcome_before : (holds : Bool) → Each Before (outcome_text holds)
outcome_before holds = each_if Before holds (codes "? yes; ") (codes "? no; ") (words_before (codes "? yes; ") refl) (words_before (codes "? no; ") refl)

made_before : (id : ThreadId) (steps : List Step) (made : Made) → Each Before (made_text None id steps made)
made_before id steps (Assigned v n) =
    between_before (codes "v" ++ decimal v) (codes " = " ++ decimal n) (codes "; ")
    (then_before (codes "v") (decimal v) (words_before (codes "v") refl) (decimal_before v))
    (then_before (codes " = ") (decimal n) (words_before (codes " = ") refl) (decimal_before n)) (words_before (codes "; ") refl)
made_before id steps (Decided at holds) =
    then_before (decision_text None id (slice_get steps at)) (outcome_text holds) (decision_before id (slice_get steps at)) (outcome_before holds)

all_before : (id : ThreadId) (steps : List Step) (made : List Made) → Each Before (all_text None id steps made)
all_before id steps [] = tt
all_before id steps (one ∷ more) = then_before (made_text None id steps one) (all_text None id steps more) (made_before id steps one) (all_before id steps more)

cut_before : (made : List Made) → Each Before (cut_text made)
cut_before made = each_if Before (nat_lt 32 (length made)) (codes "...; ") [] (words_before (codes "...; ") refl) tt

pub way_before : (id : ThreadId) (way : Way) → Each Before (way_text None id way)
way_before id way = then_before (all_text None id way.steps.now (take 32 way.made.now)) (cut_text way.made.now) (all_before id way.steps.now (take 32 way.made.now)) (cut_before way.made.now)
