use Rattle.std.specs.Prelude.{◌≡◌, ◌≢◌, ◌⊎◌, ℕ, ◌+◌, ◌*◌, ◌<◌, ◌≤◌, true, false, List, [], ◌∷◌, ◌++◌, length, All, IsSomeAnd, fold, slice_get, Vec}
use Rattle.std.specs.declared.alloc.Global.{Global}
use Rattle.lwkt_base.specs.declared.asks.Ask.{Ask}
use Rattle.lwkt_base.specs.declared.asks.Answer.{Answer}
use Rattle.lwkt_base.specs.Holding.{Holding, holds_nothing}
use Rattle.lwkt_core.specs.declared.events.Event.{Event}
use Rattle.lwkt_bank.specs.Seats.{BankId}
use Rattle.lwkt_hold.specs.Runs.{Ran as Runs}
use Rattle.lwkt_cpu.specs.declared.answers.Turned.{Turned}
use Rattle.lwkt_cpu.specs.declared.answers.Turned.TheVariants.{Ran, Idle, AllExited}
use Rattle.lwkt_cpu.specs.declared.answers.Drove.{Drove}
use Rattle.lwkt_cpu.specs.declared.threads.Thread.{Thread}
use Rattle.lwkt_cpu.specs.declared.turns.TheConstants.{TURN_EVENTS}
use Rattle.lwkt_cpu.specs.Processors.{Processor}
use Rattle.lwkt_cpu.specs.Searches.{IsOfOne}
use Rattle.lwkt_cpu.specs.Turning.{HasSameEvents, LacksRoom, MakesTurn}

-- turns made one after the other
abbrev pub Made : {B : Type 0} → (B → Answer → Ask → B → Type 0) → BankId → Processor B → Processor B → Vec Event Global → Vec Event Global → List Turned → Type 0
Made polled bank old new t u [] = (new ≡ old) × (u ≡ t)
Made {B} polled bank old new t u (turned ∷ turns) = (mid : Processor B) × ((v : Vec Event Global) × (MakesTurn polled bank old mid t v turned × Made polled bank mid new v u turns))

-- what the threads were before each of these turns, and after the last
abbrev pub stood : {B : Type 0} (polled : B → Answer → Ask → B → Type 0) (bank : BankId) (old new : Processor B) (t u : Vec Event Global) (turns : List Turned) → Made polled bank old new t u turns → List (List Thread)
stood polled bank old new t u [] made = old.threads ∷ []
stood polled bank old new t u (turned ∷ turns) made = old.threads ∷ stood polled bank made.0 new made.1.0 u turns made.1.1.1

-- a holding is nothing, or that of a front of some thread's list, as the lists stood at one of these points
abbrev pub IsOfSome : List (List Thread) → Holding → Type 0
IsOfSome points h = (h ≡ holds_nothing) ⊎ ((k : ℕ) × IsSomeAnd (slice_get points k) (λ threads. IsOfOne threads h))

-- one turn more, counted by its answer
abbrev pub with_turn : Drove → Turned → Drove
with_turn drove (Ran thread) = record drove { ran = drove.ran + 1 }
with_turn drove Idle = record drove { idle = drove.idle + 1 }
with_turn drove AllExited = record drove { idle = drove.idle + 1; all_exited = true }

abbrev pub none_driven : Drove
none_driven = record { ran = 0; idle = 0; all_exited = false }

-- a processor driven: its turns, counted; so many, or up to the first at which every thread had ended; each event is one of the
-- seat's steps, and after it the seat holds nothing or what a front of one thread's list holds, as it stood between two turns
pub record Drives {B : Type 0} (polled : B → Answer → Ask → B → Type 0) (bank : BankId) (old new : Processor B) (t u : Vec Event Global) (limit : ℕ) (drove : Drove) : Type 0 where
  pub turns : List Turned
  pub made : Made polled bank old new t u turns
  pub ran : Runs (IsOfSome (stood polled bank old new t u turns made)) (TURN_EVENTS * length turns) old.seat new.seat t u
  pub counts : drove ≡ fold with_turn none_driven turns
  pub stops : (All (λ turned. turned ≢ AllExited) turns × (length turns ≡ limit))
      ⊎ ((earlier : List Turned) × (All (λ turned. turned ≢ AllExited) earlier × (turns ≡ earlier ++ AllExited ∷ []) × (length turns ≤ limit)))

-- a processor driven until a turn was refused, for which the trace had no room: the turns made so far stand, fewer than the limit, at
-- none of which every thread had ended, and nothing else was done
pub record DrivesShort {B : Type 0} (polled : B → Answer → Ask → B → Type 0) (bank : BankId) (old new : Processor B) (t u : Vec Event Global) (limit : ℕ) : Type 0 where
  pub turns : List Turned
  pub v : Vec Event Global
  pub made : Made polled bank old new t v turns
  pub same : HasSameEvents v u
  pub ran : Runs (IsOfSome (stood polled bank old new t v turns made)) (TURN_EVENTS * length turns) old.seat new.seat t u
  pub few : length turns < limit
  pub going : All (λ turned. turned ≢ AllExited) turns
  pub full : LacksRoom u
