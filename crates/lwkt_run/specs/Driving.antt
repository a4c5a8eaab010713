-- How the machine of a script is driven: turn by turn, each of which is kept, and followed by a check (own).
--
-- Where nothing is kept, the code has no list of the turns so far. So what a driver did is said of each run that it may have begun with.
use Rattle.std.specs.Prelude.{◌≡◌, ◌⊎◌, ℕ, ◌+◌, ◌<◌, ◌≤◌, Bool, true, false, List, length, All, Option, Some, None, IfSome}
use Rattle.lwkt_core.specs.declared.events.Event.{Event}
use Rattle.lwkt_port.specs.Chains.{Chain}
use Rattle.lwkt_cpu.specs.declared.answers.Turned.{Turned}
use Rattle.lwkt_machine.specs.Bodies.{Scripted}
use Rattle.lwkt_machine.specs.Ended.{AreOver}
use Rattle.lwkt_machine.specs.Machines.{Rig}
use Rattle.lwkt_script.specs.declared.scripts.Script.{Script}
use Rattle.lwkt_verdict.specs.declared.turns.Pace.{Pace}
use Rattle.lwkt_verdict.specs.declared.turns.Pace.TheVariants.{Rounds as InRounds, Named}
use Rattle.lwkt_verdict.specs.Follow.{Follow, GoesOnByPoll, DeclinesPoll, GoesOnUnasked, DeclinesUnasked}
use Rattle.lwkt_verdict.specs.Run.{whose}
use Rattle.lwkt_run.specs.Judging.{CountsBefore, events_of}
use Rattle.lwkt_run.specs.Keeping.{Story}
use Rattle.lwkt_run.specs.Running.{Scene, MakesKeptTurn, says_over, both}
use Rattle.lwkt_run.specs.declared.polled.Polled.{Polled}
use Rattle.lwkt_run.specs.declared.rounds.Course.{Course}
use Rattle.lwkt_run.specs.declared.rounds.Course.TheVariants.{Rounds, Along}

-- a scene of a run, and the check that follows it
pub record Pair : Type 0 where
  pub at : Scene
  pub follow : Follow

abbrev pub pair : Scene → Follow → Pair
pair at follow = record { at = at; follow = follow }

-- the check goes on by a turn that asked this, or nothing
abbrev pub GoesOnBy : ℕ → Option Polled → List Event → Follow → Follow → Type 0
GoesOnBy cpu None part old new = GoesOnUnasked cpu part old new
GoesOnBy cpu (Some p) part old new = GoesOnByPoll cpu p.thread p.heard p.asked part old new

-- the check doesn't go on by a turn that asked this, or nothing
abbrev pub DeclinesBy : ℕ → Option Polled → List Event → Follow → Type 0
DeclinesBy cpu None part f = DeclinesUnasked cpu part f
DeclinesBy cpu (Some p) part f = DeclinesPoll cpu p.thread p.heard p.asked part f

-- the processor of this number makes a turn, which says this and is kept; and the check goes on by what it asked and by its events
pub record FollowsTurn (cpu : ℕ) (turned : Turned) (x y : Pair) : Type 0 where
  pub turn : MakesKeptTurn cpu turned x.at y.at
  pub goes : GoesOnBy cpu turn.asks turn.part.items x.follow y.follow

abbrev pub FollowsTurnAt : ℕ → Pair → Pair → Type 0
FollowsTurnAt cpu x y = (turned : Turned) × FollowsTurn cpu turned x y

-- the processor of this number makes a turn, which is kept; and the check doesn't go on by it
pub record DeclinesTurn (cpu : ℕ) (x : Pair) (y : Scene) : Type 0 where
  pub turned : Turned
  pub turn : MakesKeptTurn cpu turned x.at y
  pub declines : DeclinesBy cpu turn.asks turn.part.items x.follow

-- the turns of an order are made and followed, one after another
abbrev pub FollowsTurns : List ℕ → Pair → Pair → Type 0
FollowsTurns order x y = Chain Pair (λ k. FollowsTurnAt (whose order k)) (length order) x y

-- a pair within a round, and whether every processor that made its turn in it said that all its threads have ended
pub record Walk : Type 0 where
  pub at : Pair
  pub over : Bool

abbrev pub walk : Pair → Bool → Walk
walk x over = record { at = x; over = over }

-- the processor of this number makes a turn, which is followed
abbrev pub FollowsStep : ℕ → Walk → Walk → Type 0
FollowsStep cpu x y = (turned : Turned) × (FollowsTurn cpu turned x.at y.at × (y.over ≡ both x.over (says_over turned)))

-- a round that is followed: each processor makes one turn, by rising number; it is over exactly if each of these turns says that every
-- thread of its processor has ended
abbrev pub FollowsRound : Bool → ℕ → Pair → Pair → Type 0
FollowsRound over number x y = Chain Walk FollowsStep (length x.at.machine.cpus) (walk x true) (walk y over)

-- a round was followed, and said whether it was over; if it was, every thread of each processor has ended
pub record RoundFollowed (x y : Pair) (over : Bool) : Type 0 where
  pub round : FollowsRound over 0 x y
  pub over_is : over ≡ true → AreOver y.at.machine.cpus

-- so many rounds that weren't over, and then one that was: every thread of each processor has ended
pub record EndFollowed (count : ℕ) (x y : Pair) : Type 0 where
  pub mid : Pair
  pub earlier : Chain Pair (FollowsRound false) count x mid
  pub last : FollowsRound true count mid y
  pub over : AreOver y.at.machine.cpus

-- rounds were made and followed up to the first that was over, or so many as the limit says, none of which was over
abbrev pub HasFollowed : ℕ → Pair → Pair → Type 0
HasFollowed limit x y = ((count : ℕ) × ((count < limit) × EndFollowed count x y)) ⊎ Chain Pair (FollowsRound false) limit x y

-- of a round the processors up to one made their turns, from 0 on, which were followed; and the one after them made a turn that the check
-- doesn't go on by
abbrev pub StopsInRound : Pair → Scene → Type 0
StopsInRound x y = (n : ℕ) × ((n < length x.at.machine.cpus) × ((w : Walk) × (Chain Walk FollowsStep n (walk x true) w × DeclinesTurn n w.at y)))

-- fewer rounds than the limit says were made and followed, none of which was over, and then the check said no in one more
abbrev pub StopsInRounds : ℕ → Pair → Scene → Type 0
StopsInRounds limit x y = (count : ℕ) × ((count < limit) × ((mid : Pair) × (Chain Pair (FollowsRound false) count x mid × StopsInRound mid y)))

-- some turns of an order were made and followed, and then one more that the check doesn't go on by
abbrev pub StopsAlong : List ℕ → Pair → Scene → Type 0
StopsAlong order x y = (n : ℕ) × ((n < length order) × ((mid : Pair) × (Chain Pair (λ k. FollowsTurnAt (whose order k)) n x mid × DeclinesTurn (whose order n) mid y)))

-- where a driver stands: its machine, what is kept of the run, if anything is, how many events it has counted, and the check
pub record DriverState : Type 0 where
  pub machine : Rig Scripted
  pub kept : Option Story
  pub events : ℕ
  pub follow : Follow

abbrev pub driver_state : Rig Scripted → Option Story → ℕ → Follow → DriverState
driver_state machine kept events follow = record { machine = machine; kept = kept; events = events; follow = follow }

-- a scene has the machine of a driver, and what that keeps, if it keeps anything
pub record IsOf (s : DriverState) (x : Scene) : Type 0 where
  pub machine : x.machine ≡ s.machine
  pub kept : IfSome s.kept (λ story. (x.trace ≡ story.trace) × (x.kept ≡ story.kept))

-- the same, where the events of all turns are counted
pub record IsAt (s : DriverState) (x : Scene) : Type 0 where
  pub of : IsOf s x
  pub counted : s.events ≡ events_of x.kept.turns

-- the same, where the check said no to the last turn, whose events aren't counted
pub record IsStopped (s : DriverState) (x : Scene) : Type 0 where
  pub of : IsOf s x
  pub stood : CountsBefore s.events x.kept.turns

-- a driver made a turn, which the check said no to; or which it followed, and whether the turn says that every thread of its processor has
-- ended
abbrev pub TurnDriven : ℕ → Option Bool → DriverState → DriverState → Type 0
TurnDriven cpu None s t = (x : Scene) → IsAt s x → (y : Scene) × (IsStopped t y × DeclinesTurn cpu (pair x s.follow) y)
TurnDriven cpu (Some over) s t = (x : Scene) → IsAt s x → (y : Scene) × (IsAt t y × ((turned : Turned) × (FollowsTurn cpu turned (pair x s.follow) (pair y t.follow) × (over ≡ says_over turned))))

-- a driver made a round, up to a turn that the check said no to; or a whole one, and whether it was over
abbrev pub RoundDriven : Option Bool → DriverState → DriverState → Type 0
RoundDriven None s t = (x : Scene) → IsAt s x → (y : Scene) × (IsStopped t y × StopsInRound (pair x s.follow) y)
RoundDriven (Some over) s t = (x : Scene) → IsAt s x → (y : Scene) × (IsAt t y × RoundFollowed (pair x s.follow) (pair y t.follow) over)

-- a driver made rounds, up to a turn that the check said no to; or all
abbrev pub RoundsDriven : ℕ → Bool → DriverState → DriverState → Type 0
RoundsDriven limit false s t = (x : Scene) → IsAt s x → (y : Scene) × (IsStopped t y × StopsInRounds limit (pair x s.follow) y)
RoundsDriven limit true s t = (x : Scene) → IsAt s x → (y : Scene) × (IsAt t y × HasFollowed limit (pair x s.follow) (pair y t.follow))

-- a driver made the turns of an order, up to one that the check said no to; or all
abbrev pub TurnsDriven : List ℕ → Bool → DriverState → DriverState → Type 0
TurnsDriven order false s t = (x : Scene) → IsAt s x → (y : Scene) × (IsStopped t y × StopsAlong order (pair x s.follow) y)
TurnsDriven order true s t = (x : Scene) → IsAt s x → (y : Scene) × (IsAt t y × FollowsTurns order (pair x s.follow) (pair y t.follow))

-- the same by the course of a run
abbrev pub IsDriven : Course → Bool → DriverState → DriverState → Type 0
IsDriven (Rounds limit) fits s t = RoundsDriven limit fits s t
IsDriven (Along order) fits s t = TurnsDriven order.now fits s t

-- a course has processors of so many alone
abbrev pub IsWithin : ℕ → Course → Type 0
IsWithin cpus (Rounds limit) = Unit {0}
IsWithin cpus (Along order) = All (λ x. x < cpus) order.now

-- a course has fewer turns than 32 bits count rounds, or 64 bits turns
abbrev pub IsShort : Course → Type 0
IsShort (Rounds limit) = limit ≤ 4294967295
IsShort (Along order) = length order.now ≤ 18446744073709551615

-- a course may be that of a lawful run: rounds are some
abbrev pub HasTurns : Course → Type 0
HasTurns (Rounds limit) = 0 < limit
HasTurns (Along order) = Unit {0}

-- a course is one of a script: its rounds, or an order of its processors
abbrev pub IsCourseOf : Script → Course → Type 0
IsCourseOf script (Rounds limit) = limit ≡ script.turns
IsCourseOf script (Along order) = All (λ x. x < script.cpus) order.now

-- the pace of a course
abbrev pub pace_of : Course → Pace
pace_of (Rounds limit) = InRounds limit
pace_of (Along order) = Named
