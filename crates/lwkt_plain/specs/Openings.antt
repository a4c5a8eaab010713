-- The state in which a script's machine is opened.
use Rattle.std.specs.Prelude.{ℕ, ◌==◌, ◌<◌, ◌≤◌, List, [], map, filter, replicate, None}
use Rattle.lwkt_base.specs.declared.asks.Answer.TheVariants.{Begin}
use Rattle.lwkt_code.specs.Programs.{start}
use Rattle.lwkt_base.specs.declared.limits.TheConstants.{THREAD_LIMIT}
use Rattle.lwkt_core.specs.Opening.{opened_token, AllOpenLawfully, AreWithin}
use Rattle.lwkt_script.specs.Format.{threads_on}
use Rattle.lwkt_script.specs.declared.scripts.Script.{Script}
use Rattle.lwkt_script.specs.declared.scripts.ThreadSpec.{ThreadSpec}
use Rattle.lwkt_plain.specs.declared.letters.TheConstants.{PORTS}
use Rattle.lwkt_plain.specs.declared.states.Phase.TheVariants.{Live}
use Rattle.lwkt_plain.specs.declared.states.Mail.{Mail}
use Rattle.lwkt_plain.specs.declared.states.Plain.{Plain}
use Rattle.lwkt_plain.specs.declared.states.Processor.{Processor}
use Rattle.lwkt_plain.specs.declared.states.Thread.{Thread}
use Rattle.lwkt_plain.specs.Letters.{opened_letter}
use Rattle.lwkt_plain.specs.Places.{empty_lane, empty_port}
use Rattle.lwkt_plain.specs.Intakes.{below}
use Rattle.lwkt_plain.specs.Sound.{IsSound}

-- a thread that was never polled
abbrev pub opened_thread : ThreadSpec → Thread
opened_thread spec = record { phase = Live; list = []; last = Begin; busy = None; local = start spec.code; asked = None; log = [] }

-- the threads of a processor
abbrev pub threads_of : Script → ℕ → List ThreadSpec
threads_of script c = filter (λ (spec : ThreadSpec). spec.cpu.0 == c) script.threads

-- the mail of a processor, which has none yet
abbrev pub opened_mail : ℕ → Mail
opened_mail cpus = record { lanes = replicate cpus empty_lane; ports = replicate PORTS empty_port }

abbrev pub opened_cpu : Script → ℕ → Processor
opened_cpu script c = record { threads = map opened_thread (threads_of script c); running = None; cursor = 0 }

abbrev pub opened : Script → Plain
opened script = record { tokens = map opened_token script.tokens; letters = map opened_letter script.messages; mails = replicate script.cpus (opened_mail script.cpus); cpus = map (opened_cpu script) (below script.cpus) }

-- a script whose machine is opened: it is within the limits of the model, no processor has too many threads, and each opening row obeys
-- its law
pub record IsOpenable (script : Script) : Type 0 where
  pub within : AreWithin script.cpus script.tokens script.messages
  pub few : (cpu : ℕ) → cpu < script.cpus → threads_on cpu script.threads ≤ THREAD_LIMIT
  pub lawful : AllOpenLawfully script.tokens

-- a law: such a script opens in a sound state
abbrev pub OpenedScriptsAreSound : Type 0
OpenedScriptsAreSound = (script : Script) → IsOpenable script → IsSound (opened script)
