-- The steps of a thread (own): a word of the table of steps, and what stands behind it.
use Rattle.std.specs.Prelude.{ℕ, ◌+◌, List, [], ◌∷◌, codes, if◌then◌else◌, Option, Result, Ok}
use Rattle.std.specs.Option.{ok_or}
use Rattle.lwkt_base.specs.declared.asks.Ask.{Ask}
use Rattle.lwkt_base.specs.declared.names.ThreadId.{ThreadId}
use Rattle.lwkt_base.specs.declared.records.Call.{Call as CallOf}
use Rattle.lwkt_base.specs.declared.records.Flags.{Flags as FlagsOf}
use Rattle.lwkt_base.specs.declared.steps.Part.{Part}
use Rattle.lwkt_base.specs.declared.steps.Part.TheVariants.{Token, Cell, Value, Record, Message, Target, Call, Flags, Code, Outcome}
use Rattle.lwkt_base.specs.declared.steps.PartKind.{PartKind}
use Rattle.lwkt_base.specs.declared.steps.PartKind.TheVariants as kinds
use Rattle.lwkt_base.specs.declared.limits.TheConstants.{MOST_CODE}
use Rattle.lwkt_base.specs.Step.{verb_written, part_kinds, ask_of}
use Rattle.lwkt_text.specs.declared.tables.Names.{Names}
use Rattle.lwkt_text.specs.declared.words.Word.{Word}
use Rattle.lwkt_text.specs.declared.wrongs.Wanted.TheVariants.{Arrow}
use Rattle.lwkt_text.specs.declared.wrongs.What.TheVariants as whats
use Rattle.lwkt_text.specs.declared.wrongs.Wrong.{Wrong}
use Rattle.lwkt_text.specs.Looking.{text_at, is_at, demand_at, ends_at, wrong_at, number_at, bytes_at, optional, past_key, past}
use Rattle.lwkt_text.specs.Naming.{token_id_at, message_id_at, cell_by_words, thread_id_at, thread_length}
use Rattle.lwkt_text.specs.Outcome.{◌>>=◌, ◌>>◌}

-- `op N arg N` from word i on, each of them 0 where it is left out
unfoldable pub call_at : List Word → ℕ → Result CallOf Wrong
call_at ws i = do
  op ← optional ws i (codes "op") 0 MOST_CODE 0
  arg ← optional ws (past_key ws i (codes "op")) (codes "arg") 0 18446744073709551615 0
  Ok (record { arg = arg; op = op })

-- the place behind them
abbrev pub call_end : List Word → ℕ → ℕ
call_end ws i = past_key ws (past_key ws i (codes "op")) (codes "arg")

-- the place behind `dropable`, and behind `dropable abortable`, as they are there from word i on
abbrev pub past_dropable : List Word → ℕ → ℕ
past_dropable ws i = past ws i (codes "dropable")

abbrev pub past_abortable : List Word → ℕ → ℕ
past_abortable ws i = past ws (past_dropable ws i) (codes "abortable")

-- `dropable abortable priority` from word i on, as they are there
abbrev pub flags_at : List Word → ℕ → FlagsOf
flags_at ws i = record { dropable = is_at ws i (codes "dropable"); abortable = is_at ws (past_dropable ws i) (codes "abortable"); priority = is_at ws (past_abortable ws i) (codes "priority") }

-- the place behind them
abbrev pub flags_end : List Word → ℕ → ℕ
flags_end ws i = past ws (past_abortable ws i) (codes "priority")

-- a number that may stand at the end, at word i, and else 0
abbrev pub last_number : List Word → ℕ → ℕ → Result ℕ Wrong
last_number ws i high = if is_at ws i (codes "") then Ok 0 else number_at ws i 0 high

-- `-> THREAD` from word i on
abbrev pub target_at : Names → List Word → ℕ → Result ThreadId Wrong
target_at names ws i = demand_at ws i (whats.Word Arrow) (is_at ws i (codes "->")) >> thread_id_at names ws (i + 1)

-- the part of a kind from word i on; an error or a result that is left out is 0
abbrev pub part_by_words : Names → PartKind → List Word → ℕ → Result Part Wrong
part_by_words names kinds.Token ws i = token_id_at names ws i >>= λ tok. Ok (Token tok)
part_by_words names kinds.Cell ws i = cell_by_words names ws i >>= λ p. Ok (Cell p.tok p.cell)
part_by_words names kinds.Value ws i = number_at ws i 0 18446744073709551615 >>= λ n. Ok (Value n)
part_by_words names kinds.Record ws i = bytes_at ws i 65 >>= λ blob. Ok (Record blob)
part_by_words names kinds.Message ws i = message_id_at names ws i >>= λ msg. Ok (Message msg)
part_by_words names kinds.Target ws i = target_at names ws i >>= λ to. Ok (Target to)
part_by_words names kinds.Call ws i = call_at ws i >>= λ call. Ok (Call call)
part_by_words names kinds.Flags ws i = Ok (Flags (flags_at ws i))
part_by_words names kinds.Code ws i = last_number ws i MOST_CODE >>= λ n. Ok (Code n)
part_by_words names kinds.Outcome ws i = last_number ws i 18446744073709551615 >>= λ n. Ok (Outcome n)

-- the place behind such a part
abbrev pub part_end : PartKind → List Word → ℕ → ℕ
part_end kinds.Cell ws i = i + 3
part_end kinds.Target ws i = i + 1 + thread_length ws (i + 1)
part_end kinds.Call ws i = call_end ws i
part_end kinds.Flags ws i = flags_end ws i
part_end _ ws i = i + 1

-- the parts of kinds from word i on, and nothing more
abbrev pub parts_at : Names → List PartKind → List Word → ℕ → Result (List Part) Wrong
parts_at names [] ws i = ends_at ws i >> Ok []
parts_at names (kind ∷ kinds) ws i = part_by_words names kind ws i >>= λ part. parts_at names kinds ws (part_end kind ws i) >>= λ parts. Ok (part ∷ parts)

-- what word 0 makes known, if it is the word of a step
abbrev pub known : {A : Type 0} → List Word → Option A → Result A Wrong
known ws found = ok_or found (wrong_at ws 0 whats.Keyword)

-- the ask of a step: a word of the table of steps, and what stands behind it
abbrev pub step_ask : Names → List Word → Result Ask Wrong
step_ask names ws = known ws (verb_written (text_at ws 0)) >>= λ verb. parts_at names (part_kinds verb) ws 1 >>= λ parts. known ws (ask_of verb parts)
