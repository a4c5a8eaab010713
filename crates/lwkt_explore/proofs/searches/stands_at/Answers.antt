use Rattle.std.proofs.Common.{◌≡◌, ◌≤◌, length, arith}
use Rattle.lwkt_plain.specs.Stores.{kept}
use Rattle.lwkt_search.specs.Graphs.{nodes_of}
use Rattle.lwkt_search.proofs.NodeLemmas.{nodes_long}
use Rattle.lwkt_explore.proofs.searches.stands_at.Goals as goal

pub order-requires-clause-there : goal.order-requires-clause-there
order-requires-clause-there g c =
    let is = c.requires.way.searched in
    let states = kept c.args.found.now.growth.store in
    let links = c.args.found.now.growth.links in
    let same : length links ≡ length states = is.noted in
    let few : length links ≤ length states = omega arith in
    let count : length (nodes_of states links) ≡ length links = nodes_long states links few in
    let noted : length links ≡ length states = is.noted in
    let within : c.args.found.now.growth.gone_on ≤ length (nodes_of states links) = is.grown.search.within in
    omega (arith, count, within, c.requires.there, noted)

pub order-requires-clause-long : goal.order-requires-clause-long
order-requires-clause-long g c =
    let is = c.requires.way.searched in
    let noted : length c.args.found.now.growth.links ≡ length (kept c.args.found.now.growth.store) = is.noted in
    omega arith

pub returns-in_ok-add-clause-short : goal.returns-in_ok-add-clause-short
returns-in_ok-add-clause-short g c = c.add.ensures.short c.args.task.now.turns (omega arith) c.requires.way.short
