-- Verdicts as faults, and in words (own).
use Rattle.std.specs.Prelude.{◌≡◌, ℕ, List, codes}
use Rattle.lwkt_base.specs.declared.faults.Fault.{Fault}
use Rattle.lwkt_base.specs.declared.faults.Fault.TheVariants.{Unlawful as UnlawfulFault}
use Rattle.lwkt_report.specs.declared.closings.Verdict.{Verdict}
use Rattle.lwkt_report.specs.declared.closings.Verdict.TheVariants.{Closed, Lawful, Unlawful}
use Rattle.lwkt_explore.specs.declared.truths.Truth.{Truth}
use Rattle.lwkt_explore.specs.declared.truths.Truth.TheVariants.{Yes, No, Open}

-- the fault of a run with this verdict, which isn't `lawful`
abbrev pub IsOfVerdict : Verdict → Fault → Type 0
IsOfVerdict Closed fault = ⊥
IsOfVerdict Lawful fault = ⊥
IsOfVerdict (Unlawful index) fault = fault ≡ UnlawfulFault index

-- whether an expectation holds, in words
abbrev pub truth_text : Truth → List ℕ
truth_text Yes = codes "holds"
truth_text No = codes "doesn't hold"
truth_text Open = codes "not decided"
