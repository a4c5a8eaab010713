use Rattle.std.proofs.Common.{◌≡◌, ◌+◌, ◌-◌, ◌≤◌, List, length, arith, refl, sym, subst, true, false}
use Rattle.lwkt_search.specs.Graphs.{Node, nodes_of, IsGrown}
use Rattle.lwkt_search.specs.Losses.{IsReaching, IsStable}
use Rattle.lwkt_search.proofs.NodeLemmas.{nodes_long}
use Rattle.lwkt_search.proofs.LossLemmas.{again_none, again_on, pass_begun, pass_new, pass_same, pass_done}
use Rattle.lwkt_search.proofs.losses.go_back.Goals as goal

pub loop-up-init : goal.loop-up-init
loop-up-init g c =
    let turn = g.M.Machine.turn_of c.args.task.now.machine in
    let ended = g.M.Machine.ended_of c.args.task.now.machine in
    let start = g.M.Machine.start_of c.args.task.now.machine in
    let cpus = c.args.task.now.cpus in
    let kept = g.M.Machine.kept c.args.store.now in
    let links = c.args.links.now in
    let nodes = nodes_of kept links in
    let few : length links ≤ length kept = c.requires.room in
    let count : length nodes ≡ length links = nodes_long kept links few in
    let is_whole = c.args.is_whole in
    let all : c.len-up.result ≡ length links = omega (arith, c.len-up.ensures) in
    let end : length nodes ≤ c.len-up.result = omega arith in
    let same : length c.args.reaches.now ≡ length nodes = omega (arith, c.requires.same) in
    record {
      within = omega arith;
      sound = c.requires.sound;
      again = again_none links is_whole kept c.requires.room c.requires.exact;
      passed = pass_begun turn ended start cpus nodes is_whole c.args.reaches.now false c.len-up.result same c.requires.reaching refl end;
    }

pub step_back-requires-clause-room : goal.step_back-requires-clause-room
step_back-requires-clause-room g c = c.loop-up.invariant.again.room

pub step_back-requires-clause-exact : goal.step_back-requires-clause-exact
step_back-requires-clause-exact g c = c.loop-up.invariant.again.exact

pub step_back-requires-clause-grown : goal.step_back-requires-clause-grown
step_back-requires-clause-grown g c =
    let turn = g.M.Machine.turn_of c.args.task.now.machine in
    let ended = g.M.Machine.ended_of c.args.task.now.machine in
    let start = g.M.Machine.start_of c.args.task.now.machine in
    let cpus = c.args.task.now.cpus in
    let kept = g.M.Machine.kept c.args.store.now in
    let links = c.args.links.now in
    let nodes = nodes_of kept links in
    let few : length links ≤ length kept = c.requires.room in
    let count : length nodes ≡ length links = nodes_long kept links few in
    let is_whole = c.args.is_whole in
    let onward = c.args.onward.now in
    let kept' = g.M.Machine.kept c.loop-up.store in
    let nodes' = nodes_of kept' links in
    let again = c.loop-up.invariant.again in
    let F : List (Node g.row.M-State.Denot) → Type 0 = λ ns. IsGrown turn ended start cpus ns onward is_whole (length ns) in
    subst F (sym again.same) c.requires.grown

pub step_back-requires-clause-there : goal.step_back-requires-clause-there
step_back-requires-clause-there g c = omega (arith, c.loop-up.invariant.within)

pub step_back-requires-clause-same : goal.step_back-requires-clause-same
step_back-requires-clause-same g c =
    let turn = g.M.Machine.turn_of c.args.task.now.machine in
    let ended = g.M.Machine.ended_of c.args.task.now.machine in
    let start = g.M.Machine.start_of c.args.task.now.machine in
    let cpus = c.args.task.now.cpus in
    let kept = g.M.Machine.kept c.args.store.now in
    let links = c.args.links.now in
    let nodes = nodes_of kept links in
    let few : length links ≤ length kept = c.requires.room in
    let count : length nodes ≡ length links = nodes_long kept links few in
    let is_whole = c.args.is_whole in
    let onward = c.args.onward.now in
    let kept' = g.M.Machine.kept c.loop-up.store in
    let nodes' = nodes_of kept' links in
    let again = c.loop-up.invariant.again in
    omega (arith, c.loop-up.invariant.passed.same)

pub step_back-requires-clause-reaching : goal.step_back-requires-clause-reaching
step_back-requires-clause-reaching g c =
    let turn = g.M.Machine.turn_of c.args.task.now.machine in
    let ended = g.M.Machine.ended_of c.args.task.now.machine in
    let start = g.M.Machine.start_of c.args.task.now.machine in
    let cpus = c.args.task.now.cpus in
    let kept = g.M.Machine.kept c.args.store.now in
    let links = c.args.links.now in
    let nodes = nodes_of kept links in
    let few : length links ≤ length kept = c.requires.room in
    let count : length nodes ≡ length links = nodes_long kept links few in
    let is_whole = c.args.is_whole in
    let onward = c.args.onward.now in
    let kept' = g.M.Machine.kept c.loop-up.store in
    let nodes' = nodes_of kept' links in
    let again = c.loop-up.invariant.again in
    let F : List (Node g.row.M-State.Denot) → Type 0 = λ ns. IsReaching turn ended start cpus ns c.loop-up.reaches in
    subst F (sym again.same) c.loop-up.invariant.passed.reaching

pub loop-up-preserved-then-branch : goal.loop-up-preserved-then-branch
loop-up-preserved-then-branch g c =
    let turn = g.M.Machine.turn_of c.args.task.now.machine in
    let ended = g.M.Machine.ended_of c.args.task.now.machine in
    let start = g.M.Machine.start_of c.args.task.now.machine in
    let cpus = c.args.task.now.cpus in
    let kept = g.M.Machine.kept c.args.store.now in
    let links = c.args.links.now in
    let nodes = nodes_of kept links in
    let few : length links ≤ length kept = c.requires.room in
    let count : length nodes ≡ length links = nodes_long kept links few in
    let is_whole = c.args.is_whole in
    let onward = c.args.onward.now in
    let kept' = g.M.Machine.kept c.loop-up.store in
    let nodes' = nodes_of kept' links in
    let again = c.loop-up.invariant.again in
    let was = c.loop-up.reaches in
    let now = c.step_back.new.reaches in
    let up = c.loop-up.up in
    let at = c.loop-up.up - 1 in
    let p = c.loop-up.invariant.passed in
    let long : length now ≡ length was = c.step_back.ensures.long in
    let R : List (Node g.row.M-State.Denot) → Type 0 = λ ns. IsReaching turn ended start cpus ns now in
    let on = again_on links is_whole nodes kept' (g.M.Machine.kept c.step_back.new.store) again c.in_ok-step_back.ensures.again in
    record {
      within = omega (arith, c.loop-up.invariant.within);
      sound = c.in_ok-step_back.ensures.sound;
      again = on;
      passed = pass_new turn ended start cpus nodes is_whole c.args.reaches.now was now c.loop-up.is_new true up at p long (subst R again.same c.in_ok-step_back.ensures.reaching) (c.in_ok-step_back.ensures.fewer c.if-branch.true) refl;
    }

pub loop-up-preserved : goal.loop-up-preserved
loop-up-preserved g c =
    let turn = g.M.Machine.turn_of c.args.task.now.machine in
    let ended = g.M.Machine.ended_of c.args.task.now.machine in
    let start = g.M.Machine.start_of c.args.task.now.machine in
    let cpus = c.args.task.now.cpus in
    let kept = g.M.Machine.kept c.args.store.now in
    let links = c.args.links.now in
    let nodes = nodes_of kept links in
    let few : length links ≤ length kept = c.requires.room in
    let count : length nodes ≡ length links = nodes_long kept links few in
    let is_whole = c.args.is_whole in
    let onward = c.args.onward.now in
    let kept' = g.M.Machine.kept c.loop-up.store in
    let nodes' = nodes_of kept' links in
    let again = c.loop-up.invariant.again in
    let was = c.loop-up.reaches in
    let now = c.step_back.new.reaches in
    let up = c.loop-up.up in
    let at = c.loop-up.up - 1 in
    let p = c.loop-up.invariant.passed in
    let long : length now ≡ length was = c.step_back.ensures.long in
    let R : List (Node g.row.M-State.Denot) → Type 0 = λ ns. IsReaching turn ended start cpus ns now in
    let on = again_on links is_whole nodes kept' (g.M.Machine.kept c.step_back.new.store) again c.in_ok-step_back.ensures.again in
    let next : up ≡ at + 1 = omega arith in
    let B : List (Node g.row.M-State.Denot) → Type 0 = λ ns. IsStable turn start cpus ns was at in
    record {
      within = omega (arith, c.loop-up.invariant.within);
      sound = c.in_ok-step_back.ensures.sound;
      again = on;
      passed = pass_same turn ended start cpus nodes is_whole c.args.reaches.now was now c.loop-up.is_new c.loop-up.is_new up at p next (c.in_ok-step_back.ensures.same c.if-branch.false) (λ whole. subst B again.same (c.in_ok-step_back.ensures.stable c.if-branch.false whole)) refl;
    }

pub returns-clause-reaching : goal.returns-clause-reaching
returns-clause-reaching g c = c.loop-up.invariant.passed.reaching

pub returns-clause-settled : goal.returns-clause-settled
returns-clause-settled g c = λ no whole.
    let turn = g.M.Machine.turn_of c.args.task.now.machine in
    let ended = g.M.Machine.ended_of c.args.task.now.machine in
    let start = g.M.Machine.start_of c.args.task.now.machine in
    let cpus = c.args.task.now.cpus in
    let kept = g.M.Machine.kept c.args.store.now in
    let links = c.args.links.now in
    let nodes = nodes_of kept links in
    let few : length links ≤ length kept = c.requires.room in
    let count : length nodes ≡ length links = nodes_long kept links few in
    let is_whole = c.args.is_whole in
    let down : c.loop-up.up ≤ 0 = omega arith in
    pass_done turn ended start cpus nodes is_whole c.args.reaches.now c.loop-up.reaches c.loop-up.is_new c.loop-up.up c.loop-up.invariant.passed down no whole
