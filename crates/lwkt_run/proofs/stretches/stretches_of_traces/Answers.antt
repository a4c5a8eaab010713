use Rattle.std.proofs.Common.{◌≡◌, ◌∙◌, ℕ, ◌+◌, ◌<◌, List, [], ◌++◌, length, take, get_or, flat_map, ap, sym, subst, arith}
use Rattle.std.specs.Prelude.{IfOk}
use Rattle.lwkt_base.specs.declared.sections.Section.{Section}
use Rattle.lwkt_core.specs.RunSections.{sections_named}
use Rattle.lwkt_drive.specs.ShortEvents.{KeptTrace}
use Rattle.lwkt_drive.specs.declared.stretches.Stretch.{Stretch}
use Rattle.lwkt_drive.specs.Stretches.{StandFor}
use Rattle.lwkt_run.proofs.StretchLemmas.{stand_both, traces_more}
use Rattle.lwkt_run.proofs.stretches.stretches_of_traces.Goals as goal

pub loop-at-preserved : goal.loop-at-preserved
loop-at-preserved g c =
    let traces : List KeptTrace = c.args.traces.now in
    let at : ℕ = c.loop-at.at in
    let none : KeptTrace = record { items = []; capacity = 0 } in
    let named : List Section = sections_named (get_or traces at none).items in
    let all : List Stretch = c.loop-at.all.items in
    let low : at < length traces = omega (arith, c.loop-at-test.true, c.loop-at.auto.at-end, c.len-at-end.ensures, c.in_ok-found.ensures.len) in
    let own : StandFor c.in-Ok.stretches.items named = subst (λ r. IfOk r (λ s. StandFor s.items named)) (sym c.index.ensures ∙ c.in-Ok.is) (c.in_ok-found.ensures.each at c.index.result.now none low) in
    let more = stand_both all c.in-Ok.stretches.items (flat_map (λ (t : KeptTrace). sections_named t.items) (take at traces)) named c.loop-at.invariant own in
    let items : c.extend_from_slice.new.list.items ≡ all ++ c.in-Ok.stretches.items = c.in_ok-extend_from_slice-in-Ok.ensures.items ∙ ap (λ (l : List Stretch). all ++ l) c.as_slice.ensures.value in
    subst (λ (l : List Stretch). StandFor l (flat_map (λ (t : KeptTrace). sections_named t.items) (take (at + 1) traces))) (sym items)
    (subst (StandFor (all ++ c.in-Ok.stretches.items)) (sym (traces_more traces at none low)) more)
