use Rattle.std.proofs.Common.{ℕ, rules}
use Rattle.std.proofs.lemmas.List.Sorted.{answers_always}
use Rattle.lwkt_base.specs.declared.sections.Section.{Section}
use Rattle.lwkt_run.proofs.written_sections.sections_in_order.Goals as goal

pub returns-clause-sorted : goal.returns-clause-sorted
returns-clause-sorted c =
    let key : Section → ℕ × ℕ = λ s. (s.tok.0, s.generation) in
    c.sort_unstable_by_key.ensures.sorted key (answers_always _ _ _ (λ f a r g h. search rules))
