use Rattle.std.proofs.Common.{◌≡◌, ◌↔◌, ◌+◌, ◌<◌, ◌≤◌, length, IsTrue, sym, subst, slice_index_or, arith, refl, ap, length-append, ◌∙◌, ◌∷◌, []}
use Rattle.lwkt_search.specs.Graphs.{nodes_of, node_at}
use Rattle.lwkt_search.proofs.NodeLemmas.{nodes_long, node_state}
use Rattle.lwkt_search.proofs.LossLemmas.{ends_more, ends_all}
use Rattle.lwkt_search.proofs.losses.ends_of.Goals as goal

pub has_ended-ends-requires-clause-there : goal.has_ended-ends-requires-clause-there
has_ended-ends-requires-clause-there g c =
    let start = g.M.Machine.start_of c.args.task.now.machine in
    let ended = g.M.Machine.ended_of c.args.task.now.machine in
    let turn = g.M.Machine.turn_of c.args.task.now.machine in
    let cpus = c.args.task.now.cpus in
    let kept = g.M.Machine.kept c.args.store.now in
    let links = c.args.links.now in
    let nodes = nodes_of kept links in
    let few : length links ≤ length kept = c.requires.room in
    let count : length nodes ≡ length links = nodes_long kept links few in
    let at = c.loop-at.at in
    omega (arith, c.loop-at.invariant.end)

pub loop-at-preserved : goal.loop-at-preserved
loop-at-preserved g c =
    let start = g.M.Machine.start_of c.args.task.now.machine in
    let ended = g.M.Machine.ended_of c.args.task.now.machine in
    let turn = g.M.Machine.turn_of c.args.task.now.machine in
    let cpus = c.args.task.now.cpus in
    let kept = g.M.Machine.kept c.args.store.now in
    let links = c.args.links.now in
    let nodes = nodes_of kept links in
    let few : length links ≤ length kept = c.requires.room in
    let count : length nodes ≡ length links = nodes_long kept links few in
    let at = c.loop-at.at in
    let there : at < length links = omega (arith, c.loop-at.invariant.end) in
    let same : (node_at start nodes at).state ≡ slice_index_or kept at start = node_state start kept links at few there in
    let said : IsTrue c.has_ended-ends.result ↔ ended (node_at start nodes at).state = ((λ (so : IsTrue c.has_ended-ends.result). subst ended (sym same) (c.has_ended-ends.ensures.0 so)), (λ (over : ended (node_at start nodes at).state). c.has_ended-ends.ensures.1 (subst ended same over))) in
    record {
      end = c.loop-at.invariant.end;
      same = ap length c.in_ok-push.ensures.items ∙ (length-append c.loop-at.reaches.items (c.has_ended-ends.result ∷ []) ∙ ap (λ n. n + 1) c.loop-at.invariant.same);
      exact = ends_more turn ended start cpus nodes c.loop-at.reaches.items c.push.new.list.items at c.has_ended-ends.result (node_at start nodes at).state c.loop-at.invariant.same c.loop-at.invariant.exact refl said c.in_ok-push.ensures.items;
    }

pub returns-clause-same : goal.returns-clause-same
returns-clause-same g c = omega (arith, c.loop-at.invariant.same, c.loop-at.invariant.end)

pub returns-clause-reaching : goal.returns-clause-reaching
returns-clause-reaching g c =
    let start = g.M.Machine.start_of c.args.task.now.machine in
    let ended = g.M.Machine.ended_of c.args.task.now.machine in
    let turn = g.M.Machine.turn_of c.args.task.now.machine in
    let cpus = c.args.task.now.cpus in
    let kept = g.M.Machine.kept c.args.store.now in
    let links = c.args.links.now in
    let nodes = nodes_of kept links in
    let few : length links ≤ length kept = c.requires.room in
    let count : length nodes ≡ length links = nodes_long kept links few in
    let at = c.loop-at.at in
    let all : at ≡ length nodes = omega (arith, c.loop-at.invariant.end) in
    ends_all turn ended start cpus nodes c.loop-at.reaches.items at all c.loop-at.invariant.exact
