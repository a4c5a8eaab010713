-- What may be wrong with a step by itself (own, version 3).
use Rattle.std.specs.Prelude.{ℕ, ◌+◌, nat_lt, nat_le, Bool, true, ◌&&◌, List, [], ◌∷◌, replicate, Option, Some, None, is_none, if◌then◌else◌}
use Rattle.std.specs.Option.{option_or}
use Rattle.lwkt_base.specs.declared.steps.Verb.{Verb}
use Rattle.lwkt_base.specs.declared.steps.Verb.TheVariants as verbs
use Rattle.lwkt_code.specs.Terms.{Term, number, variable, both, Formula, compare, each_of, one_of, none_of}
use Rattle.lwkt_code.specs.declared.checks.Flaw.{Flaw}
use Rattle.lwkt_code.specs.declared.checks.Flaw.TheVariants.{NoVariable, NoCount, Outside, Large, StepParts, Places as TooManyPlaces}
use Rattle.lwkt_code.specs.declared.steps.Operand.{Operand}
use Rattle.lwkt_code.specs.declared.steps.Operand.TheVariants.{Token, Cell, Value, Record, Message, Target, Call, Flags, Code, Outcome}
use Rattle.lwkt_code.specs.declared.steps.Places.{Places}
use Rattle.lwkt_code.specs.declared.steps.Places.TheVariants.{Nowhere, One, Two, Three}
use Rattle.lwkt_code.specs.declared.steps.Wish.{Wish}
use Rattle.lwkt_code.specs.declared.steps.Step.{Step}
use Rattle.lwkt_code.specs.declared.steps.Step.TheVariants.{Fixed, Make, Set, Fault, Unless, Goto, Count, Again, Assert}
use Rattle.lwkt_code.specs.Wishes.{made}

-- how many operators an expression has, and a condition with its expressions
abbrev pub operators : Term → ℕ
operators (number n) = 0
operators (variable v) = 0
operators (both op a b) = operators a + operators b + 1

abbrev pub operators_of_cond : Formula → ℕ
operators_of_cond (compare by a b) = operators a + operators b + 1
operators_of_cond (each_of a b) = operators_of_cond a + operators_of_cond b + 1
operators_of_cond (one_of a b) = operators_of_cond a + operators_of_cond b + 1
operators_of_cond (none_of a) = operators_of_cond a + 1

-- whether an expression names variables that are there
abbrev pub has_variables : Term → Bool
has_variables (number n) = true
has_variables (variable v) = nat_lt v 8
has_variables (both op a b) = has_variables a && has_variables b

abbrev pub has_variables_of_cond : Formula → Bool
has_variables_of_cond (compare by a b) = has_variables a && has_variables b
has_variables_of_cond (each_of a b) = has_variables_of_cond a && has_variables_of_cond b
has_variables_of_cond (one_of a b) = has_variables_of_cond a && has_variables_of_cond b
has_variables_of_cond (none_of a) = has_variables_of_cond a

-- what is wrong with a variable, a count, and the place that a step leads to
abbrev pub flaw_of_variable : ℕ → Option Flaw
flaw_of_variable v = if nat_lt v 8 then None else Some NoVariable

abbrev pub flaw_of_counter : ℕ → Option Flaw
flaw_of_counter k = if nat_lt k 8 then None else Some NoCount

abbrev pub flaw_of_jump : ℕ → ℕ → Option Flaw
flaw_of_jump count to = if nat_le to count then None else Some Outside

-- what is wrong with an expression, and with a condition
abbrev pub flaw_of_expr : Term → Option Flaw
flaw_of_expr e = if has_variables e then (if nat_lt 16 (operators e) then Some Large else None) else Some NoVariable

abbrev pub flaw_of_cond : Formula → Option Flaw
flaw_of_cond c = if has_variables_of_cond c then (if nat_lt 16 (operators_of_cond c) then Some Large else None) else Some NoVariable

-- what is wrong with an operand: with its first expression, or else with the second
abbrev pub flaw_of_operand : Operand → Option Flaw
flaw_of_operand (Token tok) = flaw_of_expr tok
flaw_of_operand (Cell tok cell) = option_or (flaw_of_expr tok) (flaw_of_expr cell)
flaw_of_operand (Value x) = flaw_of_expr x
flaw_of_operand (Record blob) = None
flaw_of_operand (Message msg) = flaw_of_expr msg
flaw_of_operand (Target cpu thread) = option_or (flaw_of_expr cpu) (flaw_of_expr thread)
flaw_of_operand (Call op arg) = option_or (flaw_of_expr op) (flaw_of_expr arg)
flaw_of_operand (Flags flags) = None
flaw_of_operand (Code error) = flaw_of_expr error
flaw_of_operand (Outcome outcome) = flaw_of_expr outcome

abbrev pub flaw_of_operands : List Operand → Option Flaw
flaw_of_operands [] = None
flaw_of_operands (o ∷ operands) = option_or (flaw_of_operand o) (flaw_of_operands operands)

-- how many numbers the answer to an ask of a kind holds at most
abbrev pub most_places : Verb → ℕ
most_places verbs.Read = 1
most_places verbs.IsAborted = 1
most_places verbs.TryGet = 1
most_places verbs.Do = 2
most_places verbs.WaitPort = 3
most_places verbs.GetPort = 3
most_places _ = 0

-- what is wrong with places, if there may be so many
abbrev pub flaw_of_places : ℕ → Places → Option Flaw
flaw_of_places most Nowhere = None
flaw_of_places most (One u) = if nat_lt most 1 then Some TooManyPlaces else flaw_of_variable u
flaw_of_places most (Two u v) = if nat_lt most 2 then Some TooManyPlaces else option_or (flaw_of_variable u) (flaw_of_variable v)
flaw_of_places most (Three u v w) = if nat_lt most 3 then Some TooManyPlaces else option_or (option_or (flaw_of_variable u) (flaw_of_variable v)) (flaw_of_variable w)

-- what is wrong with a wish: whether it makes an ask doesn't depend on what its variables hold
abbrev pub flaw_of_wish : Wish → Places → Option Flaw
flaw_of_wish wish places = if is_none (made wish (replicate 8 0)) then Some StepParts else option_or (flaw_of_operands wish.operands) (flaw_of_places (most_places wish.verb) places)

-- what is wrong with a step of a program of so many
abbrev pub flaw_of : ℕ → Step → Option Flaw
flaw_of count (Fixed ask) = None
flaw_of count (Make wish places) = flaw_of_wish wish places
flaw_of count (Set v e) = option_or (flaw_of_variable v) (flaw_of_expr e)
flaw_of count (Fault v) = flaw_of_variable v
flaw_of count (Unless test c to) = option_or (flaw_of_cond c) (flaw_of_jump count to)
flaw_of count (Goto jump to) = flaw_of_jump count to
flaw_of count (Count k n) = flaw_of_counter k
flaw_of count (Again k to) = option_or (flaw_of_counter k) (flaw_of_jump count to)
flaw_of count (Assert c n) = flaw_of_cond c
