-- The parts of a state by number, and a state with one of them changed.
use Rattle.std.specs.Prelude.{ℕ, ◌+◌, nat_lt, is_none, Bool, if◌then◌else◌, List, [], ◌∷◌, ◌++◌, length, Option, Some, None, slice_get, slice_index_or}
use Rattle.std.specs.Option.{option_map_or}
use Rattle.lwkt_core.specs.declared.tokens.Token.{Token}
use Rattle.lwkt_core.specs.Machine.{changed}
use Rattle.lwkt_plain.specs.declared.letters.Lane.{Lane}
use Rattle.lwkt_plain.specs.declared.letters.Letter.{Letter}
use Rattle.lwkt_plain.specs.declared.letters.Note.{Note}
use Rattle.lwkt_plain.specs.declared.letters.Port.{Port}
use Rattle.lwkt_plain.specs.declared.letters.TheConstants.{LANE_QUEUE}
use Rattle.lwkt_plain.specs.declared.states.Mail.{Mail}
use Rattle.lwkt_plain.specs.declared.states.Plain.{Plain}
use Rattle.lwkt_plain.specs.declared.states.Processor.{Processor}
use Rattle.lwkt_plain.specs.declared.states.Thread.{Thread}

-- a lane, a port, mail and a processor without anything
abbrev pub empty_lane : Lane
empty_lane = record { kept = None; queue = []; hand = None }

abbrev pub empty_port : Port
empty_port = record { urgent = []; ordinary = [] }

abbrev pub no_mail : Mail
no_mail = record { lanes = []; ports = [] }

abbrev pub no_processor : Processor
no_processor = record { threads = []; running = None; cursor = 0 }

-- the parts by number
abbrev pub cpu_at : Plain → ℕ → Processor
cpu_at p c = slice_index_or p.cpus c no_processor

-- the mail of a processor
abbrev pub mail_at : Plain → ℕ → Mail
mail_at p c = slice_index_or p.mails c no_mail

abbrev pub thread_at : Plain → ℕ → ℕ → Option Thread
thread_at p c k = slice_get (cpu_at p c).threads k

abbrev pub port_at : Plain → ℕ → ℕ → Port
port_at p c k = slice_index_or (mail_at p c).ports k empty_port

-- the lane from a processor to another
abbrev pub lane_at : Plain → ℕ → ℕ → Lane
lane_at p from to = slice_index_or (mail_at p to).lanes from empty_lane

-- one part changed
abbrev pub with_cpu : (Processor → Processor) → ℕ → Plain → Plain
with_cpu f c p = record p { cpus = changed f p.cpus c }

abbrev pub with_mail : (Mail → Mail) → ℕ → Plain → Plain
with_mail f c p = record p { mails = changed f p.mails c }

abbrev pub with_thread : (Thread → Thread) → ℕ → ℕ → Plain → Plain
with_thread f c k p = with_cpu (λ (cpu : Processor). record cpu { threads = changed f cpu.threads k }) c p

abbrev pub with_port : (Port → Port) → ℕ → ℕ → Plain → Plain
with_port f c k p = with_mail (λ (mail : Mail). record mail { ports = changed f mail.ports k }) c p

abbrev pub with_lane : (Lane → Lane) → ℕ → ℕ → Plain → Plain
with_lane f from to p = with_mail (λ (mail : Mail). record mail { lanes = changed f mail.lanes from }) to p

abbrev pub with_letter : (Letter → Letter) → ℕ → Plain → Plain
with_letter f m p = record p { letters = changed f p.letters m }

abbrev pub with_tokens : List Token → Plain → Plain
with_tokens tokens p = record p { tokens = tokens }

-- the note in a sender's hand moves into the queue, if that has room (own)
abbrev pub moved : Lane → Lane
moved l = option_map_or (λ note. if nat_lt (length l.queue) LANE_QUEUE then record l { queue = l.queue ++ note ∷ []; hand = None } else l) l.hand l

-- whether a note can be sent over a lane: none is in hand then
abbrev pub has_room : Lane → Bool
has_room l = is_none (moved l).hand

-- a note is sent: into the queue if that has room, else it stays in hand (own)
abbrev pub pushed : Note → Lane → Lane
pushed note l = if nat_lt (length l.queue) LANE_QUEUE then record l { queue = l.queue ++ note ∷ [] } else record l { hand = Some note }
