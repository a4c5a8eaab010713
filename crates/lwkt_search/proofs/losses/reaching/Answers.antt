use Rattle.std.proofs.Common.{Bool, List, length, sym, subst}
use Rattle.lwkt_search.specs.Graphs.{Node, nodes_of, IsGrown}
use Rattle.lwkt_search.specs.Losses.{IsReaching}
use Rattle.lwkt_search.proofs.LossLemmas.{again_none}
use Rattle.lwkt_search.proofs.losses.reaching.Goals as goal

pub loop-reaches-init : goal.loop-reaches-init
loop-reaches-init g c = record {
  sound = c.requires.sound;
  again = again_none c.args.links.now c.args.is_whole (g.M.Machine.kept c.args.store.now) c.requires.room c.requires.exact;
  same = c.in_ok-reaches.ensures.same;
  reaching = c.in_ok-reaches.ensures.reaching;
}

pub go_back-requires-clause-room : goal.go_back-requires-clause-room
go_back-requires-clause-room g c = c.loop-reaches.invariant.again.room

pub go_back-requires-clause-exact : goal.go_back-requires-clause-exact
go_back-requires-clause-exact g c = c.loop-reaches.invariant.again.exact

pub go_back-requires-clause-grown : goal.go_back-requires-clause-grown
go_back-requires-clause-grown g c =
    let turn = g.M.Machine.turn_of c.args.task.now.machine in
    let ended = g.M.Machine.ended_of c.args.task.now.machine in
    let start = g.M.Machine.start_of c.args.task.now.machine in
    let cpus = c.args.task.now.cpus in
    let links = c.args.links.now in
    let is_whole = c.args.is_whole in
    let nodes = nodes_of (g.M.Machine.kept c.args.store.now) links in
    let kept' = g.M.Machine.kept c.loop-reaches.store in
    let again = c.loop-reaches.invariant.again in
    let F : List (Node g.row.M-State.Denot) → Type 0 = λ ns. IsGrown turn ended start cpus ns c.args.onward.now is_whole (length ns) in
    subst F (sym again.same) c.requires.grown

pub go_back-requires-clause-reaching : goal.go_back-requires-clause-reaching
go_back-requires-clause-reaching g c =
    let turn = g.M.Machine.turn_of c.args.task.now.machine in
    let ended = g.M.Machine.ended_of c.args.task.now.machine in
    let start = g.M.Machine.start_of c.args.task.now.machine in
    let cpus = c.args.task.now.cpus in
    let links = c.args.links.now in
    let is_whole = c.args.is_whole in
    let nodes = nodes_of (g.M.Machine.kept c.args.store.now) links in
    let kept' = g.M.Machine.kept c.loop-reaches.store in
    let again = c.loop-reaches.invariant.again in
    let F : List (Node g.row.M-State.Denot) → Type 0 = λ ns. IsReaching turn ended start cpus ns c.loop-reaches.reaches.items in
    let R : List Bool → Type 0 = λ xs. IsReaching turn ended start cpus (nodes_of kept' links) xs in
    subst R (sym c.as_mut_slice.ensures.value) (subst F (sym again.same) c.loop-reaches.invariant.reaching)
