-- States by their forms: only such words are kept as can refuse a list again.
use Rattle.std.specs.Prelude.{◌≡◌, ℕ, ◌<◌, ◌/◌, ◌==◌, ◌&&◌, nat_lt, Bool, false, if◌then◌else◌, List, length, map, All, Option, Some, None, option_and_then, slice_get}
use Rattle.std.specs.List.{list_all}
use Rattle.std.specs.Option.{option_map_or}
use Rattle.lwkt_base.specs.declared.names.Ref.{Ref}
use Rattle.lwkt_core.specs.declared.tokens.Token.{Token}
use Rattle.lwkt_core.specs.Opening.{AllOpenLawfully}
use Rattle.lwkt_script.specs.declared.scripts.Script.{Script}
use Rattle.lwkt_script.specs.Limits.{IsWithinLimits}
use Rattle.lwkt_plain.specs.declared.states.BusyAt.{BusyAt}
use Rattle.lwkt_plain.specs.declared.states.Plain.{Plain}
use Rattle.lwkt_plain.specs.declared.states.Processor.{Processor}
use Rattle.lwkt_plain.specs.declared.states.Thread.{Thread}
use Rattle.lwkt_plain.specs.Intakes.{has_ended, takes_mail}
use Rattle.lwkt_plain.specs.Turns.{turn, run}
use Rattle.lwkt_plain.specs.Openings.{opened}

-- the generation that a word shows
abbrev pub generation_in : ℕ → ℕ
generation_in word = word / 262144

-- whether a word that refused a list at a place can still match: not at the first place, where a try that is refused again changes nothing;
-- and else only while its token is at the word's generation, since generations never fall (own)
abbrev pub can_match : List Token → List Ref → BusyAt → Bool
can_match tokens refs b =
    nat_lt 0 b.at && option_map_or (λ r. option_map_or (λ tok. tok.generation == generation_in b.word) (slice_get tokens r.tok.0) false) (slice_get refs b.at) false

-- the word that refused a list, if it can still match
abbrev pub kept_word : List Token → List Ref → Option BusyAt → Option BusyAt
kept_word tokens refs busy = option_and_then (λ b. if can_match tokens refs b then Some b else None) busy

-- a state whose threads have other words, which their lists and their words determine
abbrev pub thread_by : (List Ref → Option BusyAt → Option BusyAt) → Thread → Thread
thread_by g t = record t { busy = g t.list t.busy }

abbrev pub cpu_by : (List Ref → Option BusyAt → Option BusyAt) → Processor → Processor
cpu_by g cpu = record cpu { threads = map (thread_by g) cpu.threads }

abbrev pub plain_by : (List Ref → Option BusyAt → Option BusyAt) → Plain → Plain
plain_by g p = record p { cpus = map (cpu_by g) p.cpus }

-- the form of a state: words that can't match are forgotten
abbrev pub form : Plain → Plain
form p = plain_by (kept_word p.tokens) p

-- a law: a form is its own form
abbrev pub FormsAreTheirOwn : Type 0
FormsAreTheirOwn = (p : Plain) → form (form p) ≡ form p

-- a law: the state in which a script is opened is a form
abbrev pub OpenedStatesAreForms : Type 0
OpenedStatesAreForms = (script : Script) → form (opened script) ≡ opened script

-- a law: the intake of mail, the first part of a turn, doesn't tell states of one form apart
abbrev pub MailRespectsForms : Type 0
MailRespectsForms = (p : Plain) (c : ℕ) → takes_mail c (form p) ≡ form (takes_mail c p)

-- a law: turns don't tell apart the states of one form that a script comes to: forms are a bisimulation
abbrev pub FormsRespectTurns : Type 0
FormsRespectTurns = (script : Script) (order : List ℕ) (c : ℕ) → IsWithinLimits script → AllOpenLawfully script.tokens → All (λ cpu. cpu < script.cpus) order → c < script.cpus
    → form (turn script (form (run script (opened script) order)) c) ≡ form (turn script (run script (opened script) order) c)

-- every thread has ended
abbrev pub all_ended : Plain → Bool
all_ended p = list_all (λ (cpu : Processor). list_all (λ (t : Thread). has_ended t.phase) cpu.threads) p.cpus

-- no turn changes the state's form
abbrev pub IsQuiet : Script → Plain → Type 0
IsQuiet script p = (c : ℕ) → c < length p.cpus → form (turn script p c) ≡ form p
