use Rattle.std.proofs.Common.{◌≡◌, ◌<◌, ◌≤◌, length, arith}
use Rattle.lwkt_search.specs.Graphs.{nodes_of}
use Rattle.lwkt_search.proofs.NodeLemmas.{nodes_long}
use Rattle.lwkt_search.proofs.LossLemmas.{again_none, set_reaching}
use Rattle.lwkt_search.proofs.losses.step_back.Goals as goal

pub returns-then-reaches-at-clause-again : goal.returns-then-reaches-at-clause-again
returns-then-reaches-at-clause-again g c = again_none c.args.links.now c.args.is_whole (g.M.Machine.kept c.args.store.now) c.requires.room c.requires.exact

pub returns-clause-reaching : goal.returns-clause-reaching
returns-clause-reaching g c =
    let turn = g.M.Machine.turn_of c.args.task.now.machine in
    let ended = g.M.Machine.ended_of c.args.task.now.machine in
    let start = g.M.Machine.start_of c.args.task.now.machine in
    let cpus = c.args.task.now.cpus in
    let kept = g.M.Machine.kept c.args.store.now in
    let links = c.args.links.now in
    let nodes = nodes_of kept links in
    let few : length links ≤ length kept = c.requires.room in
    let count : length nodes ≡ length links = nodes_long kept links few in
    let is_whole = c.args.is_whole in
    let same : length c.args.reaches.now ≡ length links = c.requires.same in
    let here : c.args.at < length links = c.requires.there in
    let there : c.args.at < length c.args.reaches.now = omega arith in
    set_reaching turn ended start cpus nodes c.args.reaches.now c.args.at c.requires.reaching (c.in_ok-leads_on.ensures.some c.if-not-branch.false) there
