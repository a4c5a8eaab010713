use Rattle.std.proofs.Common.{◌≡◌, ◌<◌, length, slice_index_or, rules, arith, List, subst, sym}
use Rattle.lwkt_explore.specs.declared.outcomes.Kind.TheVariants.{Ended}
use Rattle.lwkt_explore.specs.declared.outcomes.Outcome.{Outcome}
use Rattle.lwkt_explore.proofs.outcomes.Outcomes.have_ended.Goals as goal

pub returns-then-eq : goal.returns-then-eq
returns-then-eq c =
    let one = c.outcome-item.result in
    let at = c.loop-outcome.outcome-index in
    let kind : one.kind ≡ Ended = search rules in
    let F : List Outcome → Type 0 = λ xs. one ≡ slice_index_or xs at one in
    let G : List Outcome → Type 0 = λ xs. at < length xs in
    λ yes. (at, one, subst G c.deref-outcome-items.ensures.value (omega arith), sym (subst F c.deref-outcome-items.ensures.value c.outcome-item.is), kind)
