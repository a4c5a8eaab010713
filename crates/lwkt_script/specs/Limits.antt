-- The limits that a script keeps (own).
use Rattle.std.specs.Prelude.{◌≡◌, ◌≢◌, ℕ, ◌<◌, ◌≤◌, List, length, count_by, All, Bool, true, false, IfSome, None}
use Rattle.lwkt_base.specs.declared.names.ThreadId.{ThreadId}
use Rattle.lwkt_base.specs.declared.opening_specs.MsgSpec.{MsgSpec}
use Rattle.lwkt_base.specs.declared.laws.Law.TheVariants.{Tally, Len}
use Rattle.lwkt_base.specs.declared.opening_specs.TokSpec.{TokSpec}
use Rattle.lwkt_base.specs.declared.limits.TheConstants.{CELL_LIMIT, LAST_GENERATION, RECORD_LIMIT, LAST_ROUND, MOST_REPEATS, MOST_TURNS, MOST_IDLE, CPU_LIMIT, TOKEN_LIMIT, MESSAGE_LIMIT, STEP_LIMIT, THREAD_LIMIT}
use Rattle.lwkt_code.specs.declared.circles.TheConstants.{MOST_STEPS}
use Rattle.lwkt_code.specs.declared.steps.Jump.TheVariants.{Else, Back, End}
use Rattle.lwkt_code.specs.declared.steps.Step.{Step}
use Rattle.lwkt_code.specs.declared.steps.Step.TheVariants.{Goto, Again}
use Rattle.lwkt_script.specs.declared.scripts.Script.{Script}
use Rattle.lwkt_script.specs.declared.scripts.ThreadSpec.{ThreadSpec}
use Rattle.lwkt_script.specs.Format.{threads_on}

-- a token that a script may open
pub record IsToken (t : TokSpec) : Type 0 where
  pub few_cells : length t.cells ≤ CELL_LIMIT
  pub one_cell : t.law ≡ Tally → length t.cells ≡ 1
  pub generation : t.generation ≤ LAST_GENERATION
  pub short : IfSome t.blob (λ blob. length blob ≤ RECORD_LIMIT)
  pub some_cell : t.law ≡ Len → 0 < length t.cells
  pub guarded : t.law ≡ Len → t.blob ≢ None
  pub unguarded : t.law ≡ Tally → t.blob ≡ None

-- a thread that a script of so many processors may name as an origin
pub record IsOrigin (cpus : ℕ) (t : ThreadId) : Type 0 where
  pub cpu : t.cpu.0 < cpus
  pub thread : t.thread ≤ 15

-- a message that a script of so many processors may have
pub record IsMessage (cpus : ℕ) (m : MsgSpec) : Type 0 where
  pub origin : IsOrigin cpus m.origin
  pub round : m.round ≤ LAST_ROUND

-- whether a step is a sentence: an `else` and an end only belong to one
abbrev pub is_sentence : Step → Bool
is_sentence (Goto Else to) = false
is_sentence (Goto Back to) = false
is_sentence (Goto End to) = false
is_sentence (Again k to) = false
is_sentence _ = true

-- how many sentences a list of steps has; of a list of asks each is one
abbrev pub sentences_in : List Step → ℕ
sentences_in steps = count_by is_sentence steps

-- steps with no more sentences than were counted, of at most 256
abbrev pub AreCounted : List Step → ℕ → Type 0
AreCounted steps said = (sentences_in steps ≤ said) × (said ≤ STEP_LIMIT)

-- a thread that a script of so many processors may have
pub record IsThread (cpus : ℕ) (t : ThreadSpec) : Type 0 where
  pub cpu : t.cpu.0 < cpus
  pub some_repeats : 1 ≤ t.code.repeat
  pub few_repeats : t.code.repeat ≤ MOST_REPEATS
  pub few_steps : length t.code.steps ≤ MOST_STEPS
  pub few_sentences : sentences_in t.code.steps ≤ STEP_LIMIT

-- a script within its limits
pub record IsWithinLimits (s : Script) : Type 0 where
  pub some_turns : 1 ≤ s.turns
  pub few_turns : s.turns ≤ MOST_TURNS
  pub some_idle : 1 ≤ s.idle
  pub few_idle : s.idle ≤ MOST_IDLE
  pub some_cpus : 1 ≤ s.cpus
  pub few_cpus : s.cpus ≤ CPU_LIMIT
  pub few_tokens : length s.tokens ≤ TOKEN_LIMIT
  pub tokens : All IsToken s.tokens
  pub few_messages : length s.messages ≤ MESSAGE_LIMIT
  pub messages : All (IsMessage s.cpus) s.messages
  pub threads : All (IsThread s.cpus) s.threads
  pub few_threads : (cpu : ℕ) → threads_on cpu s.threads ≤ THREAD_LIMIT
