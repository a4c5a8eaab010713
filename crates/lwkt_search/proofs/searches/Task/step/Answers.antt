use Rattle.std.proofs.Common.{◌≡◌, ◌<◌, ◌≤◌, length, arith}
use Rattle.lwkt_search.specs.Graphs.{nodes_of}
use Rattle.lwkt_search.proofs.NodeLemmas.{nodes_long}
use Rattle.lwkt_search.proofs.RowLemmas.{layer_moved, layer_small}
use Rattle.lwkt_search.proofs.searches.Task.step.Goals as goal

pub layer_at-layer-requires : goal.layer_at-layer-requires
layer_at-layer-requires g c =
    let turn = g.M.Machine.turn_of c.args.self.now.machine in
    let ended = g.M.Machine.ended_of c.args.self.now.machine in
    let start = g.M.Machine.start_of c.args.self.now.machine in
    let cpus = c.args.self.now.cpus in
    let turns = c.args.self.now.turns in
    let was = c.requires.growth in
    let kept = g.M.Machine.kept c.args.growth.now.store in
    let links = c.args.growth.now.links in
    let nodes = nodes_of kept links in
    let long : length links ≡ length kept = was.long in
    let few : length links ≤ length kept = omega arith in
    let count : length nodes ≡ length links = nodes_long kept links few in
    let at = c.args.growth.now.gone_on in
    let there : at < length links = c.requires.there in
    let here : at < length nodes = omega arith in
    let depth = c.args.growth.now.layer.depth in
    let end = c.args.growth.now.layer.end in
    layer_small turn start cpus nodes depth end at was.grown.search was.grown.small was.layer here

pub go_on-requires-clause-growth : goal.go_on-requires-clause-growth
go_on-requires-clause-growth g c =
    let turn = g.M.Machine.turn_of c.args.self.now.machine in
    let ended = g.M.Machine.ended_of c.args.self.now.machine in
    let start = g.M.Machine.start_of c.args.self.now.machine in
    let cpus = c.args.self.now.cpus in
    let turns = c.args.self.now.turns in
    let was = c.requires.growth in
    let kept = g.M.Machine.kept c.args.growth.now.store in
    let links = c.args.growth.now.links in
    let nodes = nodes_of kept links in
    let long : length links ≡ length kept = was.long in
    let few : length links ≤ length kept = omega arith in
    let count : length nodes ≡ length links = nodes_long kept links few in
    let at = c.args.growth.now.gone_on in
    let there : at < length links = c.requires.there in
    let here : at < length nodes = omega arith in
    let depth = c.args.growth.now.layer.depth in
    let end = c.args.growth.now.layer.end in
    let counted : c.len-count.result ≡ length nodes = omega (arith, c.len-count.ensures) in
    let moved = layer_moved start nodes c.args.growth.now.layer c.layer_at-layer.result at c.len-count.result was.layer here counted c.layer_at-layer.ensures.same c.layer_at-layer.ensures.next in
    record { long = was.long; grown = was.grown; layer = moved.0; deep = was.deep }

pub go_on-requires-clause-inside : goal.go_on-requires-clause-inside
go_on-requires-clause-inside g c =
    let turn = g.M.Machine.turn_of c.args.self.now.machine in
    let ended = g.M.Machine.ended_of c.args.self.now.machine in
    let start = g.M.Machine.start_of c.args.self.now.machine in
    let cpus = c.args.self.now.cpus in
    let turns = c.args.self.now.turns in
    let was = c.requires.growth in
    let kept = g.M.Machine.kept c.args.growth.now.store in
    let links = c.args.growth.now.links in
    let nodes = nodes_of kept links in
    let long : length links ≡ length kept = was.long in
    let few : length links ≤ length kept = omega arith in
    let count : length nodes ≡ length links = nodes_long kept links few in
    let at = c.args.growth.now.gone_on in
    let there : at < length links = c.requires.there in
    let here : at < length nodes = omega arith in
    let depth = c.args.growth.now.layer.depth in
    let end = c.args.growth.now.layer.end in
    let counted : c.len-count.result ≡ length nodes = omega (arith, c.len-count.ensures) in
    let moved = layer_moved start nodes c.args.growth.now.layer c.layer_at-layer.result at c.len-count.result was.layer here counted c.layer_at-layer.ensures.same c.layer_at-layer.ensures.next in
    moved.1

pub go_on-requires-clause-few : goal.go_on-requires-clause-few
go_on-requires-clause-few g c =
    let turn = g.M.Machine.turn_of c.args.self.now.machine in
    let ended = g.M.Machine.ended_of c.args.self.now.machine in
    let start = g.M.Machine.start_of c.args.self.now.machine in
    let cpus = c.args.self.now.cpus in
    let turns = c.args.self.now.turns in
    let was = c.requires.growth in
    let kept = g.M.Machine.kept c.args.growth.now.store in
    let links = c.args.growth.now.links in
    let nodes = nodes_of kept links in
    let long : length links ≡ length kept = was.long in
    let few : length links ≤ length kept = omega arith in
    let count : length nodes ≡ length links = nodes_long kept links few in
    let at = c.args.growth.now.gone_on in
    let there : at < length links = c.requires.there in
    let here : at < length nodes = omega arith in
    let depth = c.args.growth.now.layer.depth in
    let end = c.args.growth.now.layer.end in
    omega (arith, was.grown.small)
