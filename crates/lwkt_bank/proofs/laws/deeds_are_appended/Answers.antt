use Rattle.std.proofs.Common.{ap, ◌∙◌}
use Rattle.lwkt_base.specs.declared.names.CpuId.{CpuId}
use Rattle.lwkt_table.specs.History.{steps_by, events_by}
use Rattle.lwkt_table.proofs.HistoryLemmas.{steps_by-grows, events_by-grows}
use Rattle.lwkt_bank.specs.Seats.{past_of}
use Rattle.lwkt_bank.proofs.laws.deeds_are_appended.Goals as goal

pub returns : goal.returns
returns c = λ s t deeds cpu grows own. (
  ap (λ (k : CpuId). steps_by k.0 (past_of t)) cpu ∙ steps_by-grows s.cpu.0 (past_of s) deeds (past_of t) grows own,
  ap (λ (k : CpuId). events_by k.0 (past_of t)) cpu ∙ events_by-grows s.cpu.0 (past_of s) deeds (past_of t) grows own,
)
