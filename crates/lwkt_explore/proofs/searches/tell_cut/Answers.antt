use Rattle.std.proofs.Common.{◌≡◌, ◌<◌, ◌≤◌, length, arith}
use Rattle.lwkt_plain.specs.Stores.{kept}
use Rattle.lwkt_search.specs.Graphs.{nodes_of}
use Rattle.lwkt_search.proofs.NodeLemmas.{nodes_long}
use Rattle.lwkt_explore.proofs.searches.tell_cut.Goals as goal

pub order-requires-clause-long : goal.order-requires-clause-long
order-requires-clause-long g c =
    let is = c.requires.searched in
    let noted : length c.args.found.now.growth.links ≡ length (kept c.args.found.now.growth.store) = is.noted in
    omega arith

pub order-requires-clause-there : goal.order-requires-clause-there
order-requires-clause-there g c =
    let is = c.requires.searched in
    let states = kept c.args.found.now.growth.store in
    let links = c.args.found.now.growth.links in
    let noted : length links ≡ length states = is.noted in
    let few : length links ≤ length states = omega arith in
    let count : length (nodes_of states links) ≡ length links = nodes_long states links few in
    let within : c.args.found.now.growth.gone_on ≤ length (nodes_of states links) = is.grown.search.within in
    let end : c.loop-at.at < c.args.found.now.growth.gone_on = omega (arith) in
    omega (arith, count, within, end)

pub loop-at-preserved : goal.loop-at-preserved
loop-at-preserved g c = record {
  found = c.in_ok-add.ensures.found;
  short = c.in_ok-add.ensures.short c.args.task.now.turns (omega arith) c.loop-at.invariant.short;
  once = λ once. c.in_ok-add.ensures.once (c.loop-at.invariant.once once);
}
