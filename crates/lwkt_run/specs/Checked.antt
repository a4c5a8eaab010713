-- A run of a script that was driven and checked (own).
use Rattle.std.specs.Prelude.{◌≡◌, ℕ, Bool, List, ◌++◌, length, map, Option, IfSome}
use Rattle.lwkt_core.specs.declared.events.Event.{Event}
use Rattle.lwkt_core.specs.Opening.{AreWithin, AllOpenLawfully}
use Rattle.lwkt_core.specs.Trace.{Closes}
use Rattle.lwkt_machine.specs.Bodies.{Scripted}
use Rattle.lwkt_machine.specs.Ended.{IsRoomFor}
use Rattle.lwkt_machine.specs.declared.closings.CloseRoom.{CloseRoom}
use Rattle.lwkt_report.specs.declared.closings.Verdict.{Verdict}
use Rattle.lwkt_script.specs.declared.scripts.Script.{Script}
use Rattle.lwkt_verdict.specs.declared.progress.Piece.{Piece}
use Rattle.lwkt_verdict.specs.Follow.{Follow, AllAllow, AreShown, none_answered, Begins, EndsHere}
use Rattle.lwkt_verdict.specs.TurnParts.{after_all}
use Rattle.lwkt_verdict.specs.Run.{AreListed, EndsRun}
use Rattle.lwkt_run.specs.Driving.{DriverState, IsDriven, pace_of}
use Rattle.lwkt_run.specs.Judging.{ids_of, IsVerdict}
use Rattle.lwkt_run.specs.Keeping.{Story}
use Rattle.lwkt_run.specs.Run.{opening_of_script, RunsBy, AreMadeOf}
use Rattle.lwkt_run.specs.Values.{AreValuesOf}
use Rattle.lwkt_run.specs.declared.endings.Left.{Left}
use Rattle.lwkt_run.specs.declared.rounds.Course.{Course}
use Rattle.lwkt_run.specs.declared.rounds.Course.TheVariants.{Rounds, Along}

-- a new check of a script followed the turns of a course that a machine made, or up to the one that it says no to; and the machine has room
-- for its close
pub record FollowsCourse (course : Course) (script : Script) (s t : DriverState) (fits : Bool) (room : CloseRoom Scripted) : Type 0 where
  pub begins : Begins script.threads (opening_of_script script) s.follow
  pub driven : IsDriven course fits s t
  pub room_enough : IsRoomFor s.machine.bank s.machine.book (length s.machine.cpus) room

-- a check that has followed a run says that it ends so: with what is left, and with these events of the stop
pub record EndsSo (f : Follow) (left : Left) (stop : List Event) : Type 0 where
  pub ends : EndsHere f left.threads.items stop
  pub closes : Closes (after_all f.machine stop) left.last

-- such a check says that the run doesn't end so: whatever its turns were, their end isn't one of a run of the script, or it doesn't lead to
-- these closing values
abbrev pub DeclinesSo : Follow → Left → List Event → Type 0
DeclinesSo f left stop = (before : List Piece) → AllAllow f.table none_answered left.threads.items → AreShown before f.table none_answered → AreListed f.machine.cpus 0 left.threads.items → EndsRun f.plans left.threads.items f.machine before stop → ¬ Closes (after_all f.machine stop) left.last

-- these are the processors of the turns that were made of a course, by the verdict on them
abbrev pub IsMadeOf : Verdict → Course → List ℕ → Type 0
IsMadeOf verdict (Rounds limit) made = Unit {0}
IsMadeOf verdict (Along order) made = AreMadeOf verdict order.now made

-- a run of a script left this, and the check of it says this verdict: the opening was accepted, each thread has its line, and there is a
-- story, which is what was kept, if anything was, of a run that leaves this, and on which that is the verdict
pub record LeavesChecked (course : Course) (script : Script) (kept : Option Story) (left : Left) (stops : List Event) (verdict : Verdict) : Type 0 where
  pub within : AreWithin script.cpus script.tokens script.messages
  pub lawful_opening : AllOpenLawfully script.tokens
  pub values : AreValuesOf script.tokens left.last
  pub threads : map (λ line. line.id) left.threads.items ≡ ids_of script.cpus script.threads
  pub story : Story
  pub shown : IfSome kept (λ s. s ≡ story)
  pub made : IsMadeOf verdict course story.kept.order
  pub runs : RunsBy verdict (pace_of course) script story.kept.order left.threads.items story.kept (story.trace ++ stops) left.last
  pub by : IsVerdict verdict (opening_of_script script) (pace_of course) story.kept.order script.threads left.threads.items left.last (story.trace ++ stops) story.kept.polls story.kept.turns
