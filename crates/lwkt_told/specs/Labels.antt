-- Which cell an entry of a log was read from, as far as the thread's program and the entries before tell (own).
use Rattle.std.specs.Prelude.{ℕ, ◌%◌, ◌==◌, ◌&&◌, not, Bool, true, false, if◌then◌else◌, List, count_by, filter, slice_get, take, Option, Some, None}
use Rattle.std.specs.List.{list_all, list_any}
use Rattle.lwkt_base.specs.declared.asks.Ask.{Ask}
use Rattle.lwkt_base.specs.declared.asks.Ask.TheVariants as asks
use Rattle.lwkt_base.specs.declared.entries.Entry.{Entry}
use Rattle.lwkt_base.specs.declared.entries.Entry.TheVariants as entries
use Rattle.lwkt_code.specs.declared.steps.Step.{Step}
use Rattle.lwkt_code.specs.declared.steps.Step.TheVariants as steps
use Rattle.lwkt_told.specs.declared.labels.Cell.{Cell}

-- an ask whose answer the log has, unless it is refused
abbrev pub is_logged : Ask → Bool
is_logged (asks.Read tok cell) = true
is_logged (asks.ReadBlob tok) = true
is_logged (asks.Do message target call) = true
is_logged (asks.IsAborted message) = true
is_logged (asks.DropMsg message) = true
is_logged asks.GetPort = true
is_logged asks.WaitPort = true
is_logged _ = false

-- a step that is the same ask each time
abbrev pub is_fixed : Step → Bool
is_fixed (steps.Fixed ask) = true
is_fixed _ = false

abbrev pub is_step_logged : Step → Bool
is_step_logged (steps.Fixed ask) = is_logged ask
is_step_logged _ = false

abbrev pub is_refusal : Entry → Bool
is_refusal (entries.Refused number) = true
is_refusal _ = false

-- the cell that a step reads
abbrev pub cell_read : Option Step → Option Cell
cell_read (Some (steps.Fixed (asks.Read tok cell))) = Some (record { tok = tok; number = cell })
cell_read _ = None

-- the steps whose answers the log has
abbrev pub logged_steps : List Step → List Step
logged_steps program = filter is_step_logged program

-- whether entry i of a log is known to be that of a step: the program has asks alone, and no entry before is a refusal
abbrev pub is_known : List Step → List Entry → ℕ → Bool
is_known program log i = list_all is_fixed program && not (list_any is_refusal (take i log))

-- the step of entry i: the log has one entry for each of them in turn, again from the first where the program is repeated
abbrev pub step_of_entry : List Step → ℕ → Option Step
step_of_entry program i = if count_by is_step_logged program == 0 then None else slice_get (logged_steps program) (i % count_by is_step_logged program)

-- the cell that entry i was read from
abbrev pub label_of : List Step → List Entry → ℕ → Option Cell
label_of program log i = if is_known program log i then cell_read (step_of_entry program i) else None
