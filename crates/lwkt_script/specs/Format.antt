-- A script, of version 1, 2 or 3 (own): what it says, and the place of its first bad part.
use Rattle.std.specs.Prelude.{ℕ, ◌+◌, ◌-◌, ◌*◌, ◌==◌, ◌&&◌, nat_lt, nat_le, List, [], length, count_by, codes, Bool, is_some, if◌then◌else◌, None, Result, Ok}
use Rattle.std.specs.Str.{is_utf8}
use Rattle.serde_json.specs.Data.{Data, Items}
use Rattle.serde_json.specs.Events.{items_len}
use Rattle.serde_json.specs.Find.{get}
use Rattle.serde_json.specs.Read.{read}
use Rattle.lwkt_base.specs.declared.asks.Ask.{Ask}
use Rattle.lwkt_base.specs.declared.opening_specs.MsgSpec.{MsgSpec}
use Rattle.lwkt_base.specs.declared.opening_specs.TokSpec.{TokSpec}
use Rattle.lwkt_base.specs.declared.limits.TheConstants.{LAST_GENERATION, LAST_ROUND, MESSAGE_LIMIT, MOST_CPUS, MOST_IDLE, MOST_REPEATS, MOST_TURNS, SCRIPT_BYTES, STEP_LIMIT, THREAD_LIMIT, TOKEN_LIMIT}
use Rattle.lwkt_code.specs.Programs.{Program, listed_program}
use Rattle.lwkt_script.specs.declared.scripts.Script.{Script}
use Rattle.lwkt_script.specs.declared.scripts.ThreadSpec.{ThreadSpec}
use Rattle.lwkt_script.specs.declared.versions.Version.{Version}
use Rattle.lwkt_script.specs.declared.versions.Version.TheVariants.{First, Second, Third}
use Rattle.lwkt_script.specs.Version.{version_of, has_law, token_members, thread_members}
use Rattle.lwkt_script.specs.Record.{record_in, may_guard}
use Rattle.lwkt_script.specs.Field.{has_members, whole, number_in, list_in}
use Rattle.lwkt_script.specs.Member.{law_in, allows, origin_in}
use Rattle.lwkt_script.specs.Outcome.{◌>>=◌, ◌>>◌, part, demand, each}
use Rattle.lwkt_script.specs.Sentences.{program}
use Rattle.lwkt_script.specs.Step.{ask_in}
use Rattle.lwkt_script.specs.Variables.{vars_in, service_in}

-- a cell, any whole number of 64 bits
abbrev pub cell : ℕ → List ℕ → Data → Result ℕ ℕ
cell place before d = part place (whole d)

-- a token: its cells, law, parameter and generation, and in the second version its record
unfoldable pub token_read : Version → ℕ → Data → Result TokSpec ℕ
token_read version place d = do
  demand place (has_members (token_members version) d)
  items ← part place (list_in (codes "cells") d)
  law ← part place (law_in d)
  demand place (has_law version law && allows law (items_len items))
  param ← part place (number_in (codes "param") 0 18446744073709551615 d)
  generation ← part place (number_in (codes "gen") 0 LAST_GENERATION d)
  blob ← part place (record_in version d)
  demand place (may_guard law blob)
  cells ← each (cell place) [] items
  Ok (record { cells = cells; law = law; param = param; generation = generation; blob = blob })

-- the token after those: there are at most 64
abbrev pub token : Version → List TokSpec → Data → Result TokSpec ℕ
token version before d = do
  demand 1064 (nat_lt (length before) TOKEN_LIMIT)
  token_read version (1000 + length before) d

-- a message: the thread that it is of, and its round
unfoldable pub message_at : ℕ → ℕ → Data → Result MsgSpec ℕ
message_at cpus place d = do
  demand place (has_members 2 d)
  origin ← part place (origin_in cpus d)
  round ← part place (number_in (codes "round") 0 LAST_ROUND d)
  Ok (record { round = round; origin = origin })

-- the message after those: there are at most 64
abbrev pub message : ℕ → List MsgSpec → Data → Result MsgSpec ℕ
message cpus before d = do
  demand 2064 (nat_lt (length before) MESSAGE_LIMIT)
  message_at cpus (2000 + length before) d

-- step j of thread n stands at 100000 + 1000*n + j
abbrev pub step : Version → ℕ → List Ask → Data → Result Ask ℕ
step version n before d = part (100000 + 1000 * n + length before) (ask_in version d)

-- how many of these threads are of a processor
abbrev pub threads_on : ℕ → List ThreadSpec → ℕ
threads_on cpu threads = count_by (λ t. t.cpu.0 == cpu) threads

-- a thread of a processor has at most 256 steps, and comes after fewer than 16 threads of its processor
abbrev pub has_room : List ThreadSpec → ℕ → ℕ → Bool
has_room before cpu steps = nat_le steps STEP_LIMIT && nat_lt (threads_on cpu before) THREAD_LIMIT

-- the program of a list of asks of thread n
abbrev pub listed_code : Version → ℕ → ℕ → Items → Result Program ℕ
listed_code version n repeat items = each (step version n) [] items >>= λ asks. Ok (listed_program asks repeat)

-- the program of thread n: before version 3 a list of asks
abbrev pub code : Version → ℕ → ℕ → List ℕ → Items → Result Program ℕ
code First n repeat vars items = listed_code First n repeat items
code Second n repeat vars items = listed_code Second n repeat items
code Third n repeat vars items = program n repeat vars items

-- the thread after those: its members first, then its steps
unfoldable pub thread : Version → ℕ → List ThreadSpec → Data → Result ThreadSpec ℕ
thread version cpus before d = do
  let place = 3000 + length before
  demand place (has_members (thread_members version) d)
  cpu ← part place (number_in (codes "cpu") 0 (cpus - 1) d)
  repeat ← part place (number_in (codes "repeat") 1 MOST_REPEATS d)
  service ← part place (service_in version d)
  vars ← part place (vars_in version d)
  items ← part place (list_in (codes "steps") d)
  demand place (has_room before cpu (items_len items))
  made ← code version (length before) repeat vars items
  Ok (record { cpu = record { 0 = cpu }; service = service; code = made })

-- an object with exactly the seven members
abbrev pub is_whole : Data → Bool
is_whole d = has_members 7 d && is_some (get (codes "version") d) && is_some (get (codes "turns") d) && is_some (get (codes "idle") d) && is_some (get (codes "cpus") d)

-- a script: the shape of the whole first, then the parts in their order
unfoldable pub script : Data → Result Script ℕ
script d = do
  demand 1 (is_whole d)
  token_items ← part 1 (list_in (codes "tokens") d)
  message_items ← part 1 (list_in (codes "messages") d)
  thread_items ← part 1 (list_in (codes "threads") d)
  number ← part 2 (number_in (codes "version") 1 3 d)
  let version = version_of number
  turns ← part 3 (number_in (codes "turns") 1 MOST_TURNS d)
  idle ← part 4 (number_in (codes "idle") 1 MOST_IDLE d)
  cpus ← part 5 (number_in (codes "cpus") 1 MOST_CPUS d)
  tokens ← each (token version) [] token_items
  messages ← each (message cpus) [] message_items
  threads ← each (thread version cpus) [] thread_items
  Ok (record { turns = turns; idle = idle; cpus = cpus; tokens = tokens; messages = messages; threads = threads })

-- the script that the bytes are: at most 1048576 of them, and one JSON text
unfoldable pub script_of : List ℕ → Result Script ℕ
script_of bytes = part 0 (if nat_le (length bytes) SCRIPT_BYTES && is_utf8 bytes then read bytes else None) >>= script
