use Rattle.std.proofs.Common.{◌≡◌, ◌≤◌, length, arith, None, rules, ◌∙◌}
use Rattle.lwkt_search.specs.Graphs.{nodes_of}
use Rattle.lwkt_search.proofs.NodeLemmas.{nodes_long}
use Rattle.lwkt_search.proofs.searches.Task.grow.Goals as goal

pub loop-growth-preserved : goal.loop-growth-preserved
loop-growth-preserved g c =
    let none : c.in_ok-bound.field-0 ≡ None = search rules in
    record {
      sound = c.in_ok-bound.ensures.sound;
      growth = c.in_ok-bound.ensures.growth;
      met = c.step.ensures.met ∙ c.loop-growth.invariant.met;
      few = c.in_ok-bound.ensures.few none c.loop-growth.invariant.few;
    }

pub returns-clause-complete : goal.returns-clause-complete
returns-clause-complete g c = λ none.
    let kept = g.M.Machine.kept c.loop-growth.growth.store in
    let links = c.loop-growth.growth.links in
    let long : length links ≡ length kept = c.loop-growth.invariant.growth.long in
    let few : length links ≤ length kept = omega arith in
    let within : c.loop-growth.growth.gone_on ≤ length (nodes_of kept links) = c.loop-growth.invariant.growth.grown.search.within in
    let count : length (nodes_of kept links) ≡ length links = nodes_long kept links few in
    omega arith
