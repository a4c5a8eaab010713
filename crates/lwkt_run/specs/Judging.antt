-- What a run says of itself: the threads that it shows, and the verdict on its trace and its turns (own).
use Rattle.std.specs.Prelude.{◌≡◌, ◌⊎◌, ℕ, zero, suc, min, sum_by, List, [], ◌∷◌, ◌++◌, Option}
use Rattle.lwkt_base.specs.declared.names.ThreadId.{ThreadId}
use Rattle.lwkt_core.specs.declared.events.Event.{Event}
use Rattle.lwkt_core.specs.declared.finals.Final.{Final}
use Rattle.lwkt_core.specs.Machine.{Machine}
use Rattle.lwkt_core.specs.Trace.{IsLawfulTrace}
use Rattle.lwkt_base.specs.declared.threads.ThreadLine.{ThreadLine}
use Rattle.lwkt_report.specs.declared.closings.Verdict.{Verdict}
use Rattle.lwkt_report.specs.declared.closings.Verdict.TheVariants.{Closed, Lawful, Unlawful}
use Rattle.lwkt_script.specs.declared.scripts.ThreadSpec.{ThreadSpec}
use Rattle.lwkt_script.specs.Format.{threads_on}
use Rattle.lwkt_verdict.specs.declared.turns.Poll.{Poll}
use Rattle.lwkt_verdict.specs.declared.turns.Turn.{Turn}
use Rattle.lwkt_verdict.specs.declared.turns.Pace.{Pace}
use Rattle.lwkt_verdict.specs.declared.turns.Pace.TheVariants.{Rounds}
use Rattle.lwkt_verdict.specs.Run.{BeginRun, KeepsPace, IsScriptRun}
use Rattle.lwkt_run.specs.Keeping.{polls_after}
use Rattle.lwkt_run.specs.declared.polled.Polled.{Polled}

-- so many threads of a processor, by number
abbrev pub ids_on : ℕ → ℕ → List ThreadId
ids_on cpu zero = []
ids_on cpu (suc n) = ids_on cpu n ++ record { cpu = record { 0 = cpu }; thread = n } ∷ []

-- the threads of a script on so many processors, by processor, then number
abbrev pub ids_of : ℕ → List ThreadSpec → List ThreadId
ids_of zero threads = []
ids_of (suc cpu) threads = ids_of cpu threads ++ ids_on cpu (threads_on cpu threads)

-- how many events some turns have, or the largest number of 64 bits, where they have more
abbrev pub events_of : List Turn → ℕ
events_of turns = min (sum_by (λ turn. turn.events) turns) 18446744073709551615

-- so many events have the turns before the last one
pub record CountsBefore (index : ℕ) (turns : List Turn) : Type 0 where
  pub before : List Turn
  pub last : Turn
  pub turns_are : turns ≡ before ++ last ∷ []
  pub counted : index ≡ events_of before

-- some turns begin a run of the script, with its polls as they were then: the turn after them made one more, if it made one, and with it told
-- its thread the answer to the poll before
pub record FitBefore (opening : Machine) (order : List ℕ) (threads : List ThreadSpec) (trace : List Event) (polls : List Poll) (before : List Turn) : Type 0 where
  pub asks : Option Polled
  pub earlier : List Poll
  pub polls_are : polls ≡ polls_after asks earlier
  pub lines : List ThreadLine
  pub begin : BeginRun threads lines earlier order opening [] before trace

-- the last turn is wrong: the turns before it, which have so many events, begin a run of the script; but with it none begins, whatever its
-- threads' lines are
pub record StoodAtTurn (index : ℕ) (opening : Machine) (order : List ℕ) (threads : List ThreadSpec) (trace : List Event) (polls : List Poll) (turns : List Turn) : Type 0 where
  pub stood : CountsBefore index turns
  pub fits : FitBefore opening order threads trace polls stood.before
  pub misfits : (lines : List ThreadLine) → ¬ BeginRun threads lines polls order opening [] turns trace

-- the end is wrong: all turns were made that the pace asks for, which may ask for none, and so many events they have; but these turns aren't
-- a run of the script over this trace with these lines, or the trace doesn't lead to these closing values
pub record StoodAtEnd (index : ℕ) (opening : Machine) (pace : Pace) (order : List ℕ) (threads : List ThreadSpec) (lines : List ThreadLine) (last : Final) (trace : List Event) (polls : List Poll) (turns : List Turn) : Type 0 where
  pub whole : (pace ≡ Rounds 0) ⊎ KeepsPace pace polls opening.cpus order turns lines
  pub counted : index ≡ events_of turns
  pub misfits : ¬ (IsLawfulTrace opening trace last × IsScriptRun threads pace order opening polls turns trace lines)

-- the verdict on a trace and the turns of an order that made it. It is lawful if the trace leads from the opening to the closing values, and
-- the turns are a run of the script along the order, at this pace, over it. It is unlawful if no run of the script begins with these turns,
-- though one does with those before the last; or if all turns were made, and one of the two isn't so
abbrev pub IsVerdict : Verdict → Machine → Pace → List ℕ → List ThreadSpec → List ThreadLine → Final → List Event → List Poll → List Turn → Type 0
IsVerdict Closed opening pace order threads lines last trace polls turns = ⊥
IsVerdict Lawful opening pace order threads lines last trace polls turns = IsLawfulTrace opening trace last × IsScriptRun threads pace order opening polls turns trace lines
IsVerdict (Unlawful index) opening pace order threads lines last trace polls turns = StoodAtTurn index opening order threads trace polls turns ⊎ StoodAtEnd index opening pace order threads lines last trace polls turns
