use Rattle.std.proofs.Common.{◌≡◌, subst, ℕ, List}
use Rattle.lwkt_core.specs.declared.events.Event.{Event}
use Rattle.lwkt_core.specs.declared.finals.Final.{Final}
use Rattle.lwkt_core.specs.Machine.{Machine}
use Rattle.lwkt_core.specs.Opening.{AreWithin, AllOpenLawfully}
use Rattle.lwkt_report.specs.declared.closings.Closing.{Closing}
use Rattle.lwkt_report.specs.declared.closings.Verdict.{Verdict}
use Rattle.lwkt_script.specs.declared.scripts.Script.{Script}
use Rattle.lwkt_verdict.specs.declared.turns.Poll.{Poll}
use Rattle.lwkt_verdict.specs.declared.turns.Turn.{Turn}
use Rattle.lwkt_verdict.specs.declared.turns.Pace.{Pace}
use Rattle.lwkt_run.proofs.ChainMoves.{trace_chains}
use Rattle.lwkt_run.specs.Keeping.{kept_as}
use Rattle.lwkt_run.specs.Judging.{IsVerdict}
use Rattle.lwkt_run.specs.Run.{opening_of_script, ShowsClosing, RunsBy, IsJudgedBy}

-- what was kept of a run is judged, whatever it is
pub judged : (script : Script) (closing : Closing) (m : Machine) (pace : Pace) (order : List ℕ) (last : Final) (trace : List Event) (polls : List Poll) (turns : List Turn) → m ≡ opening_of_script script → ShowsClosing closing last → RunsBy closing.verdict pace script order closing.threads.items (kept_as order turns polls) trace last → IsVerdict closing.verdict m pace order script.threads closing.threads.items last trace polls turns → AreWithin script.cpus script.tokens script.messages → AllOpenLawfully script.tokens → IsJudgedBy pace script closing order trace polls turns
judged script closing m pace order last trace polls turns same shown runs by within lawful = record {
  last = last;
  shows = shown;
  runs = runs;
  by = judges;
  chains = λ good. trace_chains script.cpus script.tokens script.messages trace last within lawful (subst (λ (verdict : Verdict). IsVerdict verdict (opening_of_script script) pace order script.threads closing.threads.items last trace polls turns) good judges).0;
}
  where
    judges : IsVerdict closing.verdict (opening_of_script script) pace order script.threads closing.threads.items last trace polls turns
    judges = subst (λ x. IsVerdict closing.verdict x pace order script.threads closing.threads.items last trace polls turns) same by
