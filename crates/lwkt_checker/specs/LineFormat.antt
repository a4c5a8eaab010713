-- A trace in lines, version 1 (own): what it says, and the place of its first bad part.
use Rattle.std.specs.Prelude.{ℕ, ◌+◌, ◌&&◌, min, nat_lt, List, [], ◌∷◌, length, codes, Bool, not, is_some, if◌then◌else◌, Option, Some, None, Result, Ok}
use Rattle.serde_json.specs.Data.{Data}
use Rattle.serde_json.specs.Find.{get, as_object}
use Rattle.lwkt_base.specs.declared.limits.TheConstants.{MOST_CPUS}
use Rattle.lwkt_script.specs.Field.{has_members, number_in, list_in}
use Rattle.lwkt_script.specs.Outcome.{◌>>=◌, ◌>>◌, part, demand, each}
use Rattle.lwkt_trace.specs.declared.traces.Trace.{Trace}
use Rattle.lwkt_trace.specs.Format.{message_behind, closing_at, there}
use Rattle.lwkt_trace.specs.Guard.{guarded}
use Rattle.lwkt_trace.specs.Words.{event_of}
use Rattle.lwkt_checker.specs.Stages.{with_stated, with_last}
use Rattle.lwkt_checker.specs.Line.{lines_of, value_of}

-- an object with exactly the four members
abbrev pub is_opening : Data → Bool
is_opening d = has_members 4 d && is_some (get (codes "version") d) && is_some (get (codes "cpus") d)

-- the opening: the shape of the whole first, then the parts in their order; no event has happened yet
unfoldable pub opened : Data → Result Trace ℕ
opened d = do
  demand 1 (is_opening d)
  token_items ← part 1 (list_in (codes "tokens") d)
  message_items ← part 1 (list_in (codes "messages") d)
  version ← part 2 (number_in (codes "version") 1 1 d)
  cpus ← part 3 (number_in (codes "cpus") 1 MOST_CPUS d)
  tokens ← each guarded [] token_items
  messages ← each (message_behind cpus) [] message_items
  Ok (record { cpus = cpus; tokens = tokens; messages = messages; events = []; last = None })

-- the place of the event of an index
abbrev pub event_place : ℕ → ℕ
event_place index = 1000000 + min index 50000000

-- the event behind those of a trace, of which there are at most 10^15
abbrev pub with_event : Trace → Data → Result Trace ℕ
with_event trace d = do
  demand (event_place (length trace.events)) (nat_lt (length trace.events) 1000000000000000)
  event ← part (event_place (length trace.events)) (event_of d)
  Ok (with_stated trace event)

-- the closing values of a trace
abbrev pub with_closing : Trace → Data → Result Trace ℕ
with_closing trace d = do
  closing ← closing_at d
  Ok (with_last trace closing)

-- what stands behind the opening: an object is the closing values, all else is an event
abbrev pub with_rest : Trace → Data → Result Trace ℕ
with_rest trace d = if is_some (as_object d) then with_closing trace d else with_event trace d

-- a line behind the opening, which may not be behind the closing values
unfoldable pub with_line : Trace → List ℕ → Result Trace ℕ
with_line trace line = do
  demand 6 (not (is_some trace.last))
  d ← part (event_place (length trace.events)) (value_of line)
  with_rest trace d

-- the trace with one line more: without an opening the line is that
abbrev pub next : Option Trace → List ℕ → Result (Option Trace) ℕ
next None line = (part 0 (value_of line) >>= opened) >>= there
next (Some trace) line = with_line trace line >>= there

-- the trace with some lines more, each with those before it
abbrev pub with_lines : Option Trace → List (List ℕ) → Result (Option Trace) ℕ
with_lines before [] = Ok before
with_lines before (line ∷ lines) = next before line >>= λ trace. with_lines trace lines

-- the trace that the lines of the bytes are
unfoldable pub lined_trace_of : List ℕ → Result Trace ℕ
lined_trace_of bytes = with_lines None (lines_of bytes) >>= part 0
