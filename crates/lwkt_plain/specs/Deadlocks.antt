-- What threads wait for where no turn changes anything (token(9); that a mark refuses lone readers is own).
--
-- A thread may go round for ever and change nothing, as in `loop; yield; end`. It spins: turns go on polling it, and yet no turn changes the
-- state. It may keep tokens from others, and its processor from the threads behind it. So the laws speak of processors whose turn polls no
-- thread, and of states in which none does.
use Rattle.std.specs.Prelude.{◌≡◌, ◌≢◌, ◌⊎◌, ℕ, ◌<◌, List, [], All, Option, Some, None}
use Rattle.lwkt_base.specs.declared.faults.Fault.TheVariants.{Broken, Worn}
use Rattle.lwkt_base.specs.declared.limits.TheConstants.{CPU_LIMIT}
use Rattle.lwkt_base.specs.declared.names.Mode.{Mode}
use Rattle.lwkt_base.specs.declared.names.Mode.TheVariants.{Exclusive}
use Rattle.lwkt_base.specs.declared.names.Ref.{Ref}
use Rattle.lwkt_base.specs.Refs.{first_mode}
use Rattle.lwkt_core.specs.FreeTokens.{IsLoneReaderAtMark}
use Rattle.lwkt_core.specs.Machine.{machine}
use Rattle.lwkt_core.specs.Tokens.{IsFree}
use Rattle.lwkt_script.specs.declared.scripts.Script.{Script}
use Rattle.lwkt_search.specs.Runs.{CanReach, IsQuiet}
use Rattle.lwkt_plain.specs.declared.states.Phase.TheVariants.{Live, Faulted}
use Rattle.lwkt_plain.specs.declared.states.Plain.{Plain}
use Rattle.lwkt_plain.specs.declared.states.Thread.{Thread}
use Rattle.lwkt_plain.specs.Intakes.{takes_mail}
use Rattle.lwkt_plain.specs.Openings.{opened}
use Rattle.lwkt_plain.specs.Places.{thread_at}
use Rattle.lwkt_plain.specs.Sound.{IsSound}
use Rattle.lwkt_plain.specs.Stores.{form_turn}
use Rattle.lwkt_plain.specs.Turns.{chooses, IsRunning}

-- a state that an order of a script's turns leads to, and that no turn changes
pub record IsStandstill (script : Script) (p : Plain) : Type 0 where
  pub reached : CanReach (form_turn script) script.cpus (opened script) p
  pub quiet : IsQuiet (form_turn script) script.cpus p

-- the thread that the turn of a processor polls, if it polls one
abbrev pub polled_in_turn : Plain → ℕ → Option ℕ
polled_in_turn p c = (chooses c (takes_mail c p)).place

-- the turn of the processor polls no thread; and that of no processor does
abbrev pub PollsNone : Plain → ℕ → Type 0
PollsNone p c = polled_in_turn p c ≡ None

abbrev pub NonePolls : Script → Plain → Type 0
NonePolls script p = (c : ℕ) → c < script.cpus → PollsNone p c

-- a thread can run as soon as its tokens can be held, and this is its list
pub record IsReady (p : Plain) (c : ℕ) (refs : List Ref) : Type 0 where
  pub number : ℕ
  pub thread : Thread
  pub there : thread_at p c number ≡ Some thread
  pub live : thread.phase ≡ Live
  pub list : thread.list ≡ refs

-- a list waits for a thread that runs on another processor: that has a token of the list, and one of both has it exclusively (token(9))
pub record WaitsForRunning (p : Plain) (c : ℕ) (refs : List Ref) : Type 0 where
  pub cpu : ℕ
  pub number : ℕ
  pub thread : Thread
  pub tok : ℕ
  pub own : Mode
  pub other : Mode
  pub apart : cpu ≢ c
  pub runs : IsRunning p cpu number
  pub there : thread_at p cpu number ≡ Some thread
  pub wants : first_mode refs tok ≡ Some own
  pub holds : first_mode thread.list tok ≡ Some other
  pub conflict : (own ≡ Exclusive) ⊎ (other ≡ Exclusive)

-- all references of a list are to one token, the first of them shared, and that token is marked (own)
abbrev pub WaitsAtMark : Plain → List Ref → Type 0
WaitsAtMark p refs = IsLoneReaderAtMark (machine CPU_LIMIT p.tokens []) refs

-- a thread was ended by fault 19, as its section broke its law, or by 20, as a token of its list came to its last generation (token(9); own)
pub record HasFaulted (p : Plain) : Type 0 where
  pub cpu : ℕ
  pub number : ℕ
  pub thread : Thread
  pub there : thread_at p cpu number ≡ Some thread
  pub fault : (thread.phase ≡ Faulted Broken) ⊎ (thread.phase ≡ Faulted Worn)

-- what ready threads wait for in a state: each one of a processor whose turn polls none for one that runs, or at a mark, as a lone reader; and
-- where no turn polls a thread each at a mark, while nobody holds a token, and then some thread was ended by 19 or 20
pub record ReadyThreadsWait (script : Script) (p : Plain) : Type 0 where
  pub each : (c : ℕ) (refs : List Ref) → c < script.cpus → PollsNone p c → IsReady p c refs → WaitsForRunning p c refs ⊎ WaitsAtMark p refs
  pub free : NonePolls script p → All IsFree p.tokens
  pub marks : NonePolls script p → (c : ℕ) (refs : List Ref) → c < script.cpus → IsReady p c refs → WaitsAtMark p refs
  pub faults : NonePolls script p → (c : ℕ) (refs : List Ref) → c < script.cpus → IsReady p c refs → HasFaulted p

-- a law: so it is at each standstill
abbrev pub StandstillsAreWaits : Type 0
StandstillsAreWaits = (script : Script) (p : Plain) → IsSound (opened script) → IsStandstill script p → ReadyThreadsWait script p
