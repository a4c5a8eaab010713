-- A trace, version 1 (own): what it says, and the place of its first bad part.
use Rattle.std.specs.Prelude.{ℕ, ◌+◌, ◌&&◌, nat_lt, nat_le, List, [], length, replicate, codes, Bool, is_some, if◌then◌else◌, Option, Some, None, Result, Ok}
use Rattle.std.specs.Str.{is_utf8}
use Rattle.serde_json.specs.Data.{Data, Items}
use Rattle.serde_json.specs.Find.{get, as_null, as_array}
use Rattle.serde_json.specs.Read.{read}
use Rattle.lwkt_base.specs.declared.opening_specs.MsgSpec.{MsgSpec}
use Rattle.lwkt_base.specs.declared.owners.MsgEnd.{MsgEnd}
use Rattle.lwkt_base.specs.declared.limits.TheConstants.{MESSAGE_LIMIT, MOST_CPUS, TOKEN_LIMIT, TRACE_BYTES, TRACE_EVENTS}
use Rattle.lwkt_script.specs.Field.{has_members, number_in, list_in}
use Rattle.lwkt_script.specs.Format.{cell, message_at}
use Rattle.lwkt_script.specs.Outcome.{◌>>=◌, ◌>>◌, part, demand, each}
use Rattle.lwkt_trace.specs.declared.traces.Closing.{Closing}
use Rattle.lwkt_trace.specs.declared.traces.Stated.{Stated}
use Rattle.lwkt_trace.specs.declared.traces.Trace.{Trace}
use Rattle.lwkt_script.specs.Record.{guard_in}
use Rattle.lwkt_trace.specs.Guard.{guarded}
use Rattle.lwkt_trace.specs.Words.{event_of, message_end_of}

-- the message after those: there are at most 64
abbrev pub message_behind : ℕ → List MsgSpec → Data → Result MsgSpec ℕ
message_behind cpus before d = do
  demand 2064 (nat_lt (length before) MESSAGE_LIMIT)
  message_at cpus (2000 + length before) d

-- the event after those, of which there are at most 50000000
abbrev pub event : List Stated → Data → Result Stated ℕ
event before d = do
  demand 51000000 (nat_lt (length before) TRACE_EVENTS)
  part (1000000 + length before) (event_of d)

-- a list of whole numbers that stands at a place
abbrev pub numbers : ℕ → Data → Result (List ℕ) ℕ
numbers place d = part place (as_array d) >>= each (cell place) []

-- the row after those: there are at most 64
abbrev pub row_behind : List (List ℕ) → Data → Result (List ℕ) ℕ
row_behind before d = do
  demand 3064 (nat_lt (length before) TOKEN_LIMIT)
  numbers (3000 + length before) d

-- the tallies after those: there are at most 64 lists of them
abbrev pub tally : List (List ℕ) → Data → Result (List ℕ) ℕ
tally before d = do
  demand 4064 (nat_lt (length before) TOKEN_LIMIT)
  numbers (4000 + length before) d

-- the end of a message after those: there are at most 64
abbrev pub end : List MsgEnd → Data → Result MsgEnd ℕ
end before d = do
  demand 5064 (nat_lt (length before) MESSAGE_LIMIT)
  part (5000 + length before) (message_end_of d)

-- the record of a token after those: there are at most 64
abbrev pub record_behind : List (Option (List ℕ)) → Data → Result (Option (List ℕ)) ℕ
record_behind before d = do
  demand 6064 (nat_lt (length before) TOKEN_LIMIT)
  part (6000 + length before) (guard_in d)

-- the records of so many tokens; where they are left out, no token has one
abbrev pub blobs : ℕ → Option Data → Result (List (Option (List ℕ))) ℕ
blobs count None = Ok (replicate count None)
blobs count (Some d) = part 4 (as_array d) >>= each record_behind []

-- how many members closing values have that name records, or don't
abbrev pub members_of : Data → ℕ
members_of d = if is_some (get (codes "records") d) then 5 else 4

-- the closing values by their parts, in their order
unfoldable pub closing_of_parts : Data → Items → Items → Items → Items → Result Closing ℕ
closing_of_parts d row_items gen_items tally_items end_items = do
  rows ← each row_behind [] row_items
  gens ← each (cell 5) [] gen_items
  tallies ← each tally [] tally_items
  ends ← each end [] end_items
  records ← blobs (length rows) (get (codes "records") d)
  Ok (record { rows = rows; gens = gens; tallies = tallies; messages = ends; blobs = records })

-- the closing values: the shape of the whole first, then the parts
unfoldable pub closing_at : Data → Result Closing ℕ
closing_at d = do
  demand 4 (has_members (members_of d) d)
  row_items ← part 4 (list_in (codes "rows") d)
  gen_items ← part 4 (list_in (codes "gens") d)
  tally_items ← part 4 (list_in (codes "tallies") d)
  end_items ← part 4 (list_in (codes "messages") d)
  closing_of_parts d row_items gen_items tally_items end_items

-- what is there
abbrev pub there : {A : Type 0} → A → Result (Option A) ℕ
there x = Ok (Some x)

-- the closing values, or null for none
abbrev pub closing : Data → Result (Option Closing) ℕ
closing d = if is_some (as_null d) then Ok None else (closing_at d >>= there)

-- an object with exactly the six members
abbrev pub has_six_members : Data → Bool
has_six_members d = has_members 6 d && is_some (get (codes "version") d) && is_some (get (codes "cpus") d) && is_some (get (codes "last") d)

-- how many processors there are, in a trace of version 1
unfoldable pub cpus_in : Data → Result ℕ ℕ
cpus_in d = do
  version ← part 2 (number_in (codes "version") 1 1 d)
  part 3 (number_in (codes "cpus") 1 MOST_CPUS d)

-- a trace of so many processors by its parts, in their order
unfoldable pub trace_of_parts : ℕ → Items → Items → Items → Data → Result Trace ℕ
trace_of_parts cpus token_items message_items event_items last_part = do
  tokens ← each guarded [] token_items
  messages ← each (message_behind cpus) [] message_items
  events ← each event [] event_items
  last ← closing last_part
  Ok (record { cpus = cpus; tokens = tokens; messages = messages; events = events; last = last })

-- a trace: the shape of the whole first, then the parts
unfoldable pub trace : Data → Result Trace ℕ
trace d = do
  demand 1 (has_six_members d)
  token_items ← part 1 (list_in (codes "tokens") d)
  message_items ← part 1 (list_in (codes "messages") d)
  event_items ← part 1 (list_in (codes "events") d)
  last_part ← part 1 (get (codes "last") d)
  cpus ← cpus_in d
  trace_of_parts cpus token_items message_items event_items last_part

-- the trace that the bytes are: at most 268435456 of them, and one JSON text
unfoldable pub trace_of : List ℕ → Result Trace ℕ
trace_of bytes = part 0 (if nat_le (length bytes) TRACE_BYTES && is_utf8 bytes then read bytes else None) >>= trace
