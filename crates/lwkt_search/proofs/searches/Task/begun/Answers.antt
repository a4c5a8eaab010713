use Rattle.std.proofs.Common.{◌≡◌, ◌+◌, ◌≤◌, List, [], ◌∷◌, ◌++◌, length, arith, ap, subst, true}
use Rattle.lwkt_search.specs.Links.{Link, link_by}
use Rattle.lwkt_search.specs.Graphs.{nodes_of, IsGrown}
use Rattle.lwkt_search.proofs.NodeLemmas.{nodes_long}
use Rattle.lwkt_search.proofs.RowLemmas.{begin_grown, layer_begun}
use Rattle.lwkt_search.proofs.searches.Task.begun.Goals as goal

pub returns-clause-growth : goal.returns-clause-growth
returns-clause-growth g c =
    let turn = g.M.Machine.turn_of c.args.self.now.machine in
    let ended = g.M.Machine.ended_of c.args.self.now.machine in
    let start = g.M.Machine.start_of c.args.self.now.machine in
    let cpus = c.args.self.now.cpus in
    let kept = g.M.Machine.kept c.args.store in
    let links = c.push.new.self in
    let G : List Link → Type 0 = λ ls. links ≡ ls ++ link_by ls 0 0 ∷ [] in
    let one : links ≡ (record { parent = 0; cpu = 0; depth = 0 }) ∷ [] = subst G c.none-links.ensures c.in_ok-push.ensures in
    let single : length kept ≡ 1 = ap length c.requires.first in
    let count : length links ≡ 1 = ap length one in
    let grown : IsGrown turn ended start cpus (nodes_of kept links) c.new.result.items true 0 = begin_grown turn ended start cpus kept links c.new.result.items true c.requires.first one c.new.ensures.items in
    let few : length links ≤ length kept = omega arith in
    let nodes : length (nodes_of kept links) ≡ length links = nodes_long kept links few in
    let size : length (nodes_of kept links) ≡ 1 = omega arith in
    record {
      long = omega arith;
      grown = grown;
      layer = layer_begun start (nodes_of kept links) size grown.search.graph.level;
      deep = λ k h. absurd (omega arith);
    }

pub returns-clause-one : goal.returns-clause-one
returns-clause-one g c =
    let links = c.push.new.self in
    let G : List Link → Type 0 = λ ls. links ≡ ls ++ link_by ls 0 0 ∷ [] in
    let one : links ≡ (record { parent = 0; cpu = 0; depth = 0 }) ∷ [] = subst G c.none-links.ensures c.in_ok-push.ensures in
    ap length one
