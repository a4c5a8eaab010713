-- Outcomes of a script (own).
use Rattle.std.specs.Prelude.{◌≡◌, ◌≢◌, ℕ, ◌<◌, ◌≤◌, List, ◌++◌, All, length, string_bytes, vec_len, vec_capacity}
use Rattle.std.specs.List.{AllPairs, Any, flat_map}
use Rattle.lwkt_base.specs.declared.faults.Fault.{Fault}
use Rattle.lwkt_base.specs.declared.faults.Fault.TheVariants.{Unlawful}
use Rattle.lwkt_report.specs.declared.closings.Closing.{Closing}
use Rattle.lwkt_report.specs.declared.closings.Verdict.TheVariants.{Lawful, Unlawful as UnlawfulVerdict}
use Rattle.lwkt_report.specs.Report.{front_text, numbered_lines, token_line, thread_line}
use Rattle.lwkt_run.specs.declared.runs.End.{End}
use Rattle.lwkt_run.specs.declared.runs.End.TheVariants.{Ended as EndedRun, TurnsOut}
use Rattle.lwkt_run.specs.declared.runs.TurnsRun.{TurnsRun}
use Rattle.lwkt_run.specs.Run.{DeclinesRun, IsOrderRun, end_of_closing}
use Rattle.lwkt_script.specs.declared.scripts.Script.{Script}
use Rattle.lwkt_explore.specs.declared.outcomes.Kind.{Kind}
use Rattle.lwkt_explore.specs.declared.outcomes.Kind.TheVariants.{Ended, Stuck, Cut}
use Rattle.lwkt_explore.specs.declared.outcomes.Outcome.{Outcome}
use Rattle.lwkt_explore.specs.declared.outcomes.Outcomes.{Outcomes}

-- a run that ended so gives an outcome of this kind: where it is ended every thread had ended, where it is stuck one hadn't
abbrev pub IsKind : Kind → End → Type 0
IsKind Ended end = end ≡ EndedRun
IsKind Stuck end = end ≡ TurnsOut
IsKind Cut end = Unit {0}

-- the token and thread lines of a report
abbrev pub settled_text : Closing → List ℕ
settled_text closing = numbered_lines token_line 0 closing.tokens.items ++ flat_map thread_line closing.threads.items

-- an outcome of a script is the report, without its verdict, of the run along its order, and that verdict is `lawful`
pub record IsOutcome (script : Script) (outcome : Outcome) : Type 0 where
  pub run : TurnsRun
  pub is_run : IsOrderRun script outcome.order.items run
  pub is_closing : outcome.closing ≡ run.closing
  pub lawful : run.closing.verdict ≡ Lawful
  pub shows : string_bytes outcome.text ≡ front_text run.closing
  pub settled : string_bytes outcome.settled ≡ settled_text run.closing
  pub kind : IsKind outcome.kind (end_of_closing run.closing)

-- each of these is one
abbrev pub AreOutcomes : Script → Outcomes → Type 0
AreOutcomes script outcomes = All (IsOutcome script) outcomes.all.items

-- two are of one kind, and have one text
pub record AreAlike (one other : Outcome) : Type 0 where
  pub kind : one.kind ≡ other.kind
  pub text : string_bytes one.text ≡ string_bytes other.text

-- each of these is there once
abbrev pub AreOnce : Outcomes → Type 0
AreOnce outcomes = AllPairs (λ one other. AreAlike one other → ⊥) outcomes.all.items

-- there is room for one more
abbrev pub HasRoom : Outcomes → Type 0
HasRoom outcomes = (vec_len outcomes.all < vec_capacity outcomes.all) × (vec_len outcomes.counts < vec_capacity outcomes.counts)

-- the order of each of these has at most so many turns
abbrev pub AreShort : ℕ → Outcomes → Type 0
AreShort turns outcomes = All (λ outcome. length outcome.order.items ≤ turns) outcomes.all.items

-- none of these was cut off
abbrev pub AreWhole : Outcomes → Type 0
AreWhole outcomes = All (λ outcome. outcome.kind ≢ Cut) outcomes.all.items

-- one of these is ended
abbrev pub HasEnded : Outcomes → Type 0
HasEnded outcomes = Any (λ outcome. outcome.kind ≡ Ended) outcomes.all.items

-- a run of the script along some order was stopped with the verdict `unlawful` at this index: the check said no there
pub record HasUnlawfulRun (script : Script) (index : ℕ) : Type 0 where
  pub order : List ℕ
  pub run : TurnsRun
  pub is_run : IsOrderRun script order run
  pub unlawful : run.closing.verdict ≡ UnlawfulVerdict index

-- why a search of a script is refused: the check of a run along some order said no, or its machine isn't opened
abbrev pub RefusesSearch : Script → Fault → Type 0
RefusesSearch script (Unlawful index) = HasUnlawfulRun script index
RefusesSearch script fault = DeclinesRun script fault

-- an outcome has the text of the report of the run along an order
pub record IsReportAlong (script : Script) (order : List ℕ) (outcome : Outcome) : Type 0 where
  pub run : TurnsRun
  pub is_run : IsOrderRun script order run
  pub shows : string_bytes outcome.text ≡ front_text run.closing

-- the report of the run along an order is among these
abbrev pub HasReport : Script → List ℕ → Outcomes → Type 0
HasReport script order outcomes = Any (IsReportAlong script order) outcomes.all.items
