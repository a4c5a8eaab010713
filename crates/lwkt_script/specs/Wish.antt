-- The steps of a thread of version 3 that hold no others (own): asks with expressions, and what their answers are put into.
use Rattle.std.specs.Prelude.{ℕ, ◌+◌, ◌-◌, ◌==◌, List, [], ◌∷◌, codes, Bool, is_some, bytes_eq, if◌then◌else◌, Option, Some, None}
use Rattle.std.specs.Option.{option_or}
use Rattle.serde_json.specs.Data.{Data}
use Rattle.serde_json.specs.Find.{get, at, as_str, as_object}
use Rattle.lwkt_base.specs.declared.steps.PartKind.{PartKind}
use Rattle.lwkt_base.specs.declared.steps.PartKind.TheVariants as kinds
use Rattle.lwkt_base.specs.declared.steps.Verb.{Verb}
use Rattle.lwkt_base.specs.Step.{part_kinds}
use Rattle.lwkt_code.specs.Terms.{Term, Formula}
use Rattle.lwkt_code.specs.declared.steps.Operand.{Operand}
use Rattle.lwkt_code.specs.declared.steps.Operand.TheVariants.{Token, Cell, Value, Record, Message, Target, Call, Flags, Code, Outcome}
use Rattle.lwkt_code.specs.declared.steps.Places.{Places}
use Rattle.lwkt_code.specs.declared.steps.Places.TheVariants.{Nowhere, One, Two, Three}
use Rattle.lwkt_code.specs.declared.steps.Step.{Step}
use Rattle.lwkt_code.specs.declared.steps.Step.TheVariants.{Fixed, Make, Set, Fault, Assert}
use Rattle.lwkt_script.specs.declared.versions.Version.TheVariants.{Third}
use Rattle.lwkt_script.specs.Field.{has_members, item_count, has_items, number}
use Rattle.lwkt_script.specs.Formulas.{◌>>=◌, term_in, formula_in}
use Rattle.lwkt_script.specs.Record.{blob_in}
use Rattle.lwkt_script.specs.Step.{code_at, whole_at, flags_by_number, width_of, verb_in, ask_in}

-- item i, an expression: at most 16 operators may stand in one another
abbrev pub expr_item : ℕ → Data → Option Term
expr_item i d = at i d >>= term_in 16

-- item i, the number of a variable
abbrev pub variable_at : ℕ → Data → Option ℕ
variable_at i d = at i d >>= number 0 7

-- item i, a condition
abbrev pub formula_at : ℕ → Data → Option Formula
formula_at i d = at i d >>= formula_in 16

-- items i and i + 1, two expressions
abbrev pub pair_at : ℕ → Data → Option (Term × Term)
pair_at i d = expr_item i d >>= λ x. expr_item (i + 1) d >>= λ y. Some (x, y)

-- what has one expression, by its kind
abbrev pub single_of : PartKind → Term → Option Operand
single_of kinds.Token e = Some (Token e)
single_of kinds.Value e = Some (Value e)
single_of kinds.Message e = Some (Message e)
single_of kinds.Code e = Some (Code e)
single_of kinds.Outcome e = Some (Outcome e)
single_of _ e = None

abbrev pub single_at : PartKind → ℕ → Data → Option Operand
single_at kind i d = expr_item i d >>= single_of kind

-- what has two
abbrev pub double_of : PartKind → Term × Term → Option Operand
double_of kinds.Cell p = Some (Cell p.0 p.1)
double_of kinds.Target p = Some (Target p.0 p.1)
double_of kinds.Call p = Some (Call p.0 p.1)
double_of _ p = None

abbrev pub double_at : PartKind → ℕ → Data → Option Operand
double_at kind i d = pair_at i d >>= double_of kind

-- what stands behind the word of an ask, of a kind, from item i on
abbrev pub operand_at : PartKind → ℕ → Data → Option Operand
operand_at kinds.Record i d = (at i d >>= blob_in 65) >>= λ blob. Some (Record blob)
operand_at kinds.Flags i d = (whole_at i d >>= flags_by_number Third) >>= λ flags. Some (Flags flags)
operand_at kinds.Cell i d = double_at kinds.Cell i d
operand_at kinds.Target i d = double_at kinds.Target i d
operand_at kinds.Call i d = double_at kinds.Call i d
operand_at kinds.Token i d = single_at kinds.Token i d
operand_at kinds.Value i d = single_at kinds.Value i d
operand_at kinds.Message i d = single_at kinds.Message i d
operand_at kinds.Code i d = single_at kinds.Code i d
operand_at kinds.Outcome i d = single_at kinds.Outcome i d

-- the operands of kinds from item i on, and nothing more before item count
abbrev pub operands_at : List PartKind → ℕ → ℕ → Data → Option (List Operand)
operands_at [] i count d = if i == count then Some [] else None
operands_at (kind ∷ kinds) i count d = operand_at kind i d >>= λ o. operands_at kinds (i + width_of kind) count d >>= λ os. Some (o ∷ os)

-- the variables of a list of one to three
abbrev pub listed_places : ℕ → Data → Option Places
listed_places count d =
    if count == 1 then (variable_at 0 d >>= λ u. Some (One u)) else (
    if count == 2 then (variable_at 0 d >>= λ u. variable_at 1 d >>= λ v. Some (Two u v)) else (
    if count == 3 then (variable_at 0 d >>= λ u. variable_at 1 d >>= λ v. variable_at 2 d >>= λ w. Some (Three u v w)) else None))

-- one variable, or a list of them
abbrev pub places_of : Data → Option Places
places_of d = option_or (number 0 7 d >>= λ v. Some (One v)) (item_count d >>= λ count. listed_places count d)

-- what an answer is put into: an object with the one member `to`
abbrev pub places_in : Data → Option Places
places_in d = if has_members 1 d then get (codes "to") d >>= places_of else None

abbrev pub places_at : ℕ → Data → Option Places
places_at i d = at i d >>= places_in

-- whether item i is an object
abbrev pub has_object : ℕ → Data → Bool
has_object i d = is_some (at i d >>= as_object)

-- the wish of a kind whose operands end before item count
abbrev pub wish_with : Verb → ℕ → Places → Data → Option Step
wish_with verb count places d = operands_at (part_kinds verb) 1 count d >>= λ operands. Some (Make (record { verb = verb; operands = operands }) places)

-- the wish of a kind, with places at its end if the last of so many items is an object
abbrev pub wish_ending : Verb → ℕ → Data → Option Step
wish_ending verb count d =
    if has_object (count - 1) d then (places_at (count - 1) d >>= λ places. wish_with verb (count - 1) places d) else wish_with verb count Nowhere d

-- the kind of ask that the first item names
abbrev pub verb_at : Data → Option Verb
verb_at d = (at 0 d >>= as_str) >>= verb_in Third

-- an ask with expressions, or places
abbrev pub wish_step : Data → Option Step
wish_step d = item_count d >>= λ count. verb_at d >>= λ verb. wish_ending verb count d

-- an ask: as in version 2 where it could stand there, and else a wish
abbrev pub ask_step : Data → Option Step
ask_step d = option_or (ask_in Third d >>= λ ask. Some (Fixed ask)) (wish_step d)

-- a variable's assignment
abbrev pub set_step : Data → Option Step
set_step d = if has_items 3 d then (variable_at 1 d >>= λ v. expr_item 2 d >>= λ e. Some (Set v e)) else None

-- the assignment of the last refusal
abbrev pub fault_step : Data → Option Step
fault_step d = if has_items 2 d then (variable_at 1 d >>= λ v. Some (Fault v)) else None

-- an assertion, with its number
abbrev pub assert_step : Data → Option Step
assert_step d = if has_items 3 d then (formula_at 1 d >>= λ c. code_at 2 d >>= λ n. Some (Assert c n)) else None

-- a step of this word that holds no others, and is no `break`
abbrev pub simple_step : List ℕ → Data → Option Step
simple_step word d =
    if bytes_eq word (codes "set") then set_step d else (
    if bytes_eq word (codes "fault") then fault_step d else (
    if bytes_eq word (codes "assert") then assert_step d else ask_step d))
