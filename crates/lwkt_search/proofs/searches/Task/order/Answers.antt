use Rattle.std.proofs.Common.{◌≡◌, ℕ, ◌+◌, ◌<◌, ◌≤◌, List, [], ◌∷◌, ◌++◌, length, arith, ap, sym, subst, ◌∙◌, reverse}
use Rattle.std.proofs.lemmas.List.{length-append, length-reverse}
use Rattle.lwkt_search.specs.Links.{Link}
use Rattle.lwkt_search.specs.Runs.{run, IsOrder}
use Rattle.lwkt_search.specs.Graphs.{node_at, nodes_of, IsLink}
use Rattle.lwkt_search.proofs.NodeLemmas.{node_cpu, node_parent, node_state, nodes_long}
use Rattle.lwkt_search.proofs.RunLemmas.{back}
use Rattle.lwkt_search.proofs.searches.Task.order.Goals as goal

pub loop-number-smaller : goal.loop-number-smaller
loop-number-smaller g c =
    let turn = g.M.Machine.turn_of c.args.self.now.machine in
    let start = g.M.Machine.start_of c.args.self.now.machine in
    let cpus = c.args.self.now.cpus in
    let kept = g.M.Machine.kept c.args.growth.now.store in
    let links = c.args.growth.now.links in
    let nodes = nodes_of kept links in
    let number = c.loop-number.number in
    let first : Link = record { parent = 0; cpu = 0; depth = 0 } in
    let by = c.cpu-by.result in
    let from = c.parent-from.result in
    let few : length links ≤ length kept = c.requires.long in
    let there : number < length links = c.loop-number.invariant.there in
    let in_nodes : number < length nodes = omega (arith, nodes_long kept links few) in
    let some : 0 < number = omega arith in
    let link : IsLink turn cpus number (node_at start nodes number) (node_at start nodes ((node_at start nodes number).parent)) = c.requires.graph.links number in_nodes some in
    let parent : from ≡ (node_at start nodes number).parent = c.parent-from.ensures first ∙ sym (node_parent start kept links number first few there) in
    let before : (node_at start nodes number).parent < number = link.before in
    omega arith

pub loop-number-preserved : goal.loop-number-preserved
loop-number-preserved g c =
    let turn = g.M.Machine.turn_of c.args.self.now.machine in
    let start = g.M.Machine.start_of c.args.self.now.machine in
    let cpus = c.args.self.now.cpus in
    let kept = g.M.Machine.kept c.args.growth.now.store in
    let links = c.args.growth.now.links in
    let nodes = nodes_of kept links in
    let number = c.loop-number.number in
    let first : Link = record { parent = 0; cpu = 0; depth = 0 } in
    let by = c.cpu-by.result in
    let from = c.parent-from.result in
    let few : length links ≤ length kept = c.requires.long in
    let there : number < length links = c.loop-number.invariant.there in
    let in_nodes : number < length nodes = omega (arith, nodes_long kept links few) in
    let some : 0 < number = omega arith in
    let link : IsLink turn cpus number (node_at start nodes number) (node_at start nodes ((node_at start nodes number).parent)) = c.requires.graph.links number in_nodes some in
    let parent : from ≡ (node_at start nodes number).parent = c.parent-from.ensures first ∙ sym (node_parent start kept links number first few there) in
    let before : (node_at start nodes number).parent < number = link.before in
    let cpu : by ≡ (node_at start nodes number).cpu = c.cpu-by.ensures first ∙ sym (node_cpu start kept links number first few there) in
    let below : by < cpus = omega (arith, link.cpu) in
    let state = (node_at start nodes from).state in
    let P : ℕ → Type 0 = λ p. (node_at start nodes number).state ≡ turn (node_at start nodes p).state by in
    let C : ℕ → Type 0 = λ p. (node_at start nodes number).state ≡ turn (node_at start nodes ((node_at start nodes number).parent)).state p in
    let leads : (node_at start nodes number).state ≡ turn state by = subst P (sym parent) (subst C (sym cpu) link.leads) in
    let D : ℕ → Type 0 = λ p. (node_at start nodes number).depth ≡ (node_at start nodes p).depth + 1 in
    let deep : (node_at start nodes number).depth ≡ (node_at start nodes from).depth + 1 = subst D (sym parent) link.depth in
    let pushed : c.push.new.list.items ≡ c.loop-number.order.items ++ by ∷ [] = c.in_ok-push.ensures.items in
    let more : length c.push.new.list.items ≡ length c.loop-number.order.items + 1 = ap length pushed ∙ length-append c.loop-number.order.items (by ∷ []) in
    let all : (run turn state (reverse c.push.new.list.items) ≡ (node_at start nodes c.args.at).state) × IsOrder cpus (reverse c.push.new.list.items) = back turn cpus state (node_at start nodes number).state (node_at start nodes c.args.at).state c.loop-number.order.items c.push.new.list.items by pushed below leads c.loop-number.invariant.leads c.loop-number.invariant.order in
    let was : length c.loop-number.order.items + (node_at start nodes number).depth ≡ (node_at start nodes c.args.at).depth = c.loop-number.invariant.long in
    record {
      there = omega arith;
      leads = all.0;
      order = all.1;
      long = omega arith;
    }

pub returns : goal.returns
returns g c =
    let turn = g.M.Machine.turn_of c.args.self.now.machine in
    let start = g.M.Machine.start_of c.args.self.now.machine in
    let cpus = c.args.self.now.cpus in
    let kept = g.M.Machine.kept c.args.growth.now.store in
    let links = c.args.growth.now.links in
    let nodes = nodes_of kept links in
    let number = c.loop-number.number in
    let none : number ≡ 0 = omega arith in
    let at = c.args.at in
    let few : length links ≤ length kept = c.requires.long in
    let order = c.loop-number.order.items in
    let told : c.reverse.new.self.items ≡ reverse order = c.reverse.ensures.items in
    let N : ℕ → Type 0 = λ n. run turn (node_at start nodes n).state (reverse order) ≡ (node_at start nodes at).state in
    let S : g.row.M-State.Denot → Type 0 = λ s. run turn s (reverse order) ≡ (node_at start nodes at).state in
    let R : List ℕ → Type 0 = λ xs. run turn start xs ≡ (node_at start nodes at).state in
    let O : List ℕ → Type 0 = λ xs. IsOrder cpus xs in
    let L : ℕ → Type 0 = λ n. length order + (node_at start nodes n).depth ≡ (node_at start nodes at).depth in
    let count : length order + (node_at start nodes 0).depth ≡ (node_at start nodes at).depth = subst L none c.loop-number.invariant.long in
    let level : (node_at start nodes 0).depth ≡ 0 = c.requires.graph.level in
    let same : length c.reverse.new.self.items ≡ length order = ap length told ∙ length-reverse order in
    record {
      state = sym (node_state start kept links at few c.requires.there);
      order = subst O (sym told) c.loop-number.invariant.order;
      leads = subst R (sym told) (subst S c.requires.graph.first (subst N none c.loop-number.invariant.leads));
      long = omega arith;
    }
