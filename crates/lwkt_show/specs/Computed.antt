-- What a thread computed on its way to an ask, in words (own).
use Rattle.std.specs.Prelude.{ℕ, Bool, true, false, nat_lt, List, [], ◌++◌, length, take, codes, Option, Some, None, slice_get, slice_index, if◌then◌else◌}
use Rattle.std.specs.Fmt.{decimal}
use Rattle.std.specs.List.{flat_map}
use Rattle.lwkt_base.specs.declared.names.ThreadId.{ThreadId}
use Rattle.lwkt_code.specs.declared.exprs.Comparison.{Comparison}
use Rattle.lwkt_code.specs.declared.exprs.Comparison.TheVariants.{Equal, Unequal, Less, AtMost, More, AtLeast}
use Rattle.lwkt_code.specs.declared.exprs.Operator.{Operator}
use Rattle.lwkt_code.specs.declared.exprs.Operator.TheVariants.{Plus, Minus, Times, Over, Rest}
use Rattle.lwkt_code.specs.declared.steps.Step.{Step}
use Rattle.lwkt_code.specs.declared.steps.Step.TheVariants.{Set, Fault, Unless, Assert}
use Rattle.lwkt_code.specs.Terms.{Term, number, variable, both, Formula, compare, each_of, one_of, none_of}
use Rattle.lwkt_code.specs.Values.{holds_in}
use Rattle.lwkt_text.specs.declared.tables.Names.{Names}
use Rattle.lwkt_told.specs.Called.{variable_called}
use Rattle.lwkt_show.specs.declared.walks.Made.{Made}
use Rattle.lwkt_show.specs.declared.walks.Made.TheVariants.{Assigned, Decided}
use Rattle.lwkt_show.specs.declared.walks.Way.{Way}

-- an operator, between blanks
abbrev pub operator_text : Operator → List ℕ
operator_text Plus = codes " + "
operator_text Minus = codes " - "
operator_text Times = codes " * "
operator_text Over = codes " / "
operator_text Rest = codes " % "

-- a comparison, between blanks
abbrev pub comparison_text : Comparison → List ℕ
comparison_text Equal = codes " = "
comparison_text Unequal = codes " != "
comparison_text Less = codes " < "
comparison_text AtMost = codes " <= "
comparison_text More = codes " > "
comparison_text AtLeast = codes " >= "

-- the brackets of what stands in another one
abbrev pub opening_text : Bool → List ℕ
opening_text inner = if inner then codes "(" else []

abbrev pub closing_text : Bool → List ℕ
closing_text inner = if inner then codes ")" else []

-- a variable of a thread: its name, if names are given, or `v` and its number
abbrev pub variable_said : Option Names → ThreadId → ℕ → List ℕ
variable_said None id v = codes "v" ++ decimal v
variable_said (Some names) id v = variable_called names id v

-- an expression of a thread, in brackets where it has an operator and stands in another one
abbrev pub term_text : Option Names → ThreadId → Bool → Term → List ℕ
term_text names id inner (number n) = decimal n
term_text names id inner (variable v) = variable_said names id v
term_text names id inner (both op a b) = opening_text inner ++ term_text names id true a ++ operator_text op ++ term_text names id true b ++ closing_text inner

-- a condition of a thread, in brackets where it has two parts and stands in another one
abbrev pub formula_text : Option Names → ThreadId → Bool → Formula → List ℕ
formula_text names id inner (compare by a b) = term_text names id false a ++ comparison_text by ++ term_text names id false b
formula_text names id inner (each_of a b) = opening_text inner ++ formula_text names id true a ++ codes " and " ++ formula_text names id true b ++ closing_text inner
formula_text names id inner (one_of a b) = opening_text inner ++ formula_text names id true a ++ codes " or " ++ formula_text names id true b ++ closing_text inner
formula_text names id inner (none_of a) = codes "not (" ++ formula_text names id false a ++ codes ")"

-- what the step at a place makes, which asks nothing and leaves these variables; nothing if it only leads on
abbrev pub made_by : Option Step → ℕ → List ℕ → Option Made
made_by (Some (Set v e)) at vars = Some (Assigned v (slice_index vars v))
made_by (Some (Fault v)) at vars = Some (Assigned v (slice_index vars v))
made_by (Some (Unless test c to)) at vars = Some (Decided at (holds_in c vars))
made_by (Some (Assert c n)) at vars = Some (Decided at (holds_in c vars))
made_by _ at vars = None

-- the condition that a step decides
abbrev pub decision_text : Option Names → ThreadId → Option Step → List ℕ
decision_text names id (Some (Unless test c to)) = formula_text names id false c
decision_text names id (Some (Assert c n)) = formula_text names id false c
decision_text names id _ = []

-- whether it holds
abbrev pub outcome_text : Bool → List ℕ
outcome_text holds = if holds then codes "? yes; " else codes "? no; "

-- what a thread made by one of its steps: a variable and what it holds now, or a condition and whether it holds
abbrev pub made_text : Option Names → ThreadId → List Step → Made → List ℕ
made_text names id steps (Assigned v n) = variable_said names id v ++ (codes " = " ++ decimal n) ++ codes "; "
made_text names id steps (Decided at holds) = decision_text names id (slice_get steps at) ++ outcome_text holds

-- what it made by several, one after another
abbrev pub all_text : Option Names → ThreadId → List Step → List Made → List ℕ
all_text names id steps made = flat_map (made_text names id steps) made

-- that it made more than is said
abbrev pub cut_text : List Made → List ℕ
cut_text made = if nat_lt 32 (length made) then codes "...; " else []

-- what a thread made on its way to an ask: the first 32 of it
abbrev pub way_text : Option Names → ThreadId → Way → List ℕ
way_text names id way = all_text names id way.steps.now (take 32 way.made.now) ++ cut_text way.made.now
