use Rattle.std.proofs.Common.{◌≡◌, ℕ, List, refl, sym, subst}
use Rattle.lwkt_base.specs.declared.faults.Fault.{Fault}
use Rattle.lwkt_base.specs.declared.faults.Fault.TheVariants.{NoPort, Limits, LawBroken, Unlawful}
use Rattle.lwkt_report.specs.declared.closings.Verdict.{Verdict}
use Rattle.lwkt_report.specs.declared.closings.Verdict.TheVariants.{Closed, Lawful, Unlawful as UnlawfulVerdict}
use Rattle.lwkt_script.specs.declared.scripts.Script.{Script}
use Rattle.lwkt_run.specs.declared.runs.TurnsRun.{TurnsRun}
use Rattle.lwkt_run.specs.Run.{AreThere, DeclinesAlong, DeclinesRun, IsOrderRun}
use Rattle.lwkt_explore.specs.Outcomes.{RefusesSearch}
use Rattle.lwkt_explore.specs.Verdicts.{IsOfVerdict}

-- why a run along an order is refused whose processors are there
pub refused_along : (script : Script) (order : List ℕ) (fault : Fault) → AreThere script order → DeclinesAlong script order fault → RefusesSearch script fault
refused_along script order NoPort there why = absurd (why there)
refused_along script order Limits there why = why.1
refused_along script order LawBroken there why = why.1
refused_along script order (Unlawful index) there why = absurd why
refused_along script order _ there why = why

-- why a run in rounds is refused
pub refused_run : (script : Script) (fault : Fault) → DeclinesRun script fault → RefusesSearch script fault
refused_run script (Unlawful index) why = absurd why
refused_run script _ why = why

-- what the verdict of a run along an order of its script's processors says
judged_as : (script : Script) (order : List ℕ) (run : TurnsRun) (fault : Fault) (verdict : Verdict) → run.closing.verdict ≡ verdict → IsOrderRun script order run → IsOfVerdict verdict fault → RefusesSearch script fault
judged_as script order run fault Closed is so why = absurd why
judged_as script order run fault Lawful is so why = absurd why
judged_as script order run fault (UnlawfulVerdict index) is so why =
    let F : Fault → Type 0 = RefusesSearch script in
    subst F (sym why) record { order = order; run = run; is_run = so; unlawful = is }

-- a run whose verdict isn't `lawful`
pub refused_verdict : (script : Script) (order : List ℕ) (run : TurnsRun) (fault : Fault) → IsOrderRun script order run → IsOfVerdict run.closing.verdict fault → RefusesSearch script fault
refused_verdict script order run fault so why = judged_as script order run fault run.closing.verdict refl so why
