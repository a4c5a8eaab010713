-- Keys by which parts of states are found again: what most often tells them apart, mixed (own).
use Rattle.std.specs.Prelude.{ℕ, if◌then◌else◌, List, [], ◌∷◌, length}
use Rattle.std.specs.Option.{option_map_or}
use Rattle.lwkt_base.specs.declared.entries.Entry.{Entry}
use Rattle.lwkt_base.specs.declared.entries.Entry.TheVariants.{Value, Bytes, Aborted, Request, Reply, NoMessage, Dropped, Refused, Failed}
use Rattle.lwkt_base.specs.declared.holdings.Held.{Held}
use Rattle.lwkt_base.specs.declared.names.Ref.{Ref}
use Rattle.lwkt_base.specs.Holding.{references_in}
use Rattle.lwkt_base.specs.MessageWord.{state_number}
use Rattle.lwkt_core.specs.declared.tokens.Token.{Token}
use Rattle.lwkt_search.specs.Codes.{mixed}
use Rattle.lwkt_plain.specs.declared.letters.Lane.{Lane}
use Rattle.lwkt_plain.specs.declared.letters.Letter.{Letter}
use Rattle.lwkt_plain.specs.declared.letters.Note.{Note}
use Rattle.lwkt_plain.specs.declared.letters.Port.{Port}
use Rattle.lwkt_plain.specs.declared.states.Mail.{Mail}
use Rattle.lwkt_plain.specs.declared.states.Phase.{Phase}
use Rattle.lwkt_plain.specs.declared.states.Phase.TheVariants.{Live, AwaitsItem, AwaitsReply, Exited, Faulted}
use Rattle.lwkt_plain.specs.declared.states.Processor.{Processor}
use Rattle.lwkt_plain.specs.declared.states.Thread.{Thread}

-- the key of parts, each with its own
abbrev pub key_of_all : {P : Type 0} → (ℕ → P → ℕ) → ℕ → List P → ℕ
key_of_all each key [] = key
key_of_all each key (p ∷ parts) = key_of_all each (each key p) parts

abbrev pub held_key : ℕ → Held → ℕ
held_key key held = mixed key (references_in held)

abbrev pub token_key : Token → ℕ
token_key tok = key_of_all held_key (key_of_all mixed (mixed (mixed 0 tok.generation) (if tok.mark then 1 else 0)) tok.row) tok.holders

abbrev pub letter_key : Letter → ℕ
letter_key l = mixed (mixed (mixed (mixed 0 l.word.round) (state_number l.word.state)) l.rec.arg) l.rec.result

-- the number of what a thread is doing
abbrev pub phase_number : Phase → ℕ
phase_number Live = 0
phase_number AwaitsItem = 1
phase_number (AwaitsReply msg) = 2
phase_number Exited = 3
phase_number (Faulted fault) = 4

-- a number that an entry of a log has
abbrev pub entry_number : Entry → ℕ
entry_number (Value n) = n
entry_number (Bytes blob) = length blob
entry_number (Aborted is_to_be) = if is_to_be then 1 else 2
entry_number (Request msg call) = msg.0
entry_number (Reply msg error result) = result
entry_number NoMessage = 3
entry_number (Dropped msg call) = 4
entry_number (Refused number) = number
entry_number (Failed number) = number

abbrev pub entry_key : ℕ → Entry → ℕ
entry_key key entry = mixed key (entry_number entry)

abbrev pub ref_key : ℕ → Ref → ℕ
ref_key key r = mixed key r.tok.0

abbrev pub thread_key : ℕ → Thread → ℕ
thread_key key t = key_of_all entry_key (key_of_all ref_key (key_of_all mixed (mixed (mixed (mixed key (phase_number t.phase)) t.local.at) t.local.left) t.local.vars) t.list) t.log

abbrev pub note_key : ℕ → Note → ℕ
note_key key note = mixed key note.msg.0

abbrev pub lane_key : ℕ → Lane → ℕ
lane_key key lane = key_of_all note_key (mixed key (length lane.queue)) lane.queue

abbrev pub port_key : ℕ → Port → ℕ
port_key key port = key_of_all note_key (mixed (key_of_all note_key (mixed key (length port.urgent)) port.urgent) (length port.ordinary)) port.ordinary

abbrev pub mail_key : Mail → ℕ
mail_key mail = key_of_all port_key (key_of_all lane_key 0 mail.lanes) mail.ports

abbrev pub processor_key : Processor → ℕ
processor_key cpu = key_of_all thread_key (mixed (mixed 0 cpu.cursor) (option_map_or (mixed 1) cpu.running 0)) cpu.threads
