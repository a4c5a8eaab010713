use Rattle.std.proofs.Common.{◌≡◌, ◌≢◌, ℕ, ◌<◌, ◌≤◌, List, length, arith, refl, sym, subst, ◌∙◌, below_more, IsTrue, false, true, true≢false}
use Rattle.lwkt_search.specs.Graphs.{Node, nodes_of, AllTried}
use Rattle.lwkt_search.specs.Losses.{IsNext}
use Rattle.lwkt_search.proofs.NodeLemmas.{nodes_long}
use Rattle.lwkt_search.proofs.LossLemmas.{turn_again, next_again, found_again, again_none, again_on}
use Rattle.lwkt_search.proofs.losses.furthest_by.Goals as goal

pub loop-cpu-init : goal.loop-cpu-init
loop-cpu-init g c = record {
  end = refl;
  sound = c.requires.sound;
  again = again_none c.args.links.now c.args.is_whole (g.M.Machine.kept c.args.store.now) c.requires.room c.requires.exact;
  none = λ whole cpu h. absurd (omega arith);
}

pub loop-cpu-preserved-then-not-is_made : goal.loop-cpu-preserved-then-not-is_made
loop-cpu-preserved-then-not-is_made g c = record {
  end = refl;
  sound = c.loop-cpu.invariant.sound;
  again = c.loop-cpu.invariant.again;
  none = λ whole. absurd (true≢false (sym (c.is_made.ensures whole) ∙ c.if-not-is_made.true));
}

pub loop-cpu-preserved : goal.loop-cpu-preserved
loop-cpu-preserved g c =
    let turn = g.M.Machine.turn_of c.args.task.now.machine in
    let start = g.M.Machine.start_of c.args.task.now.machine in
    let cpus = c.args.task.now.cpus in
    let kept = g.M.Machine.kept c.args.store.now in
    let links = c.args.links.now in
    let nodes = nodes_of kept links in
    let few : length links ≤ length kept = c.requires.room in
    let count : length nodes ≡ length links = nodes_long kept links few in
    let is_whole = c.args.is_whole in
    let reaches = c.args.reaches.now in
    let at = c.args.at in
    let kept' = g.M.Machine.kept c.loop-cpu.store in
    let nodes' = nodes_of kept' links in
    let again = c.loop-cpu.invariant.again in
    let N : List (Node g.row.M-State.Denot) → Type 0 = λ ns. AllTried turn start cpus ns (length ns) in
    let tried : IsTrue is_whole → N nodes' = λ whole. subst N (sym again.same) (c.requires.tried whole) in
    let cpu = c.loop-cpu.cpu in
    let below : cpu < cpus = omega (arith, c.loop-cpu.invariant.end) in
    let new = g.M.Machine.kept c.turn.new.store in
    let next = c.in_ok-next.next in
    let turned = c.in_ok-next.ensures.turned in
    let on = again_on links is_whole nodes kept' new again (turn_again turn start cpus links is_whole kept' new at cpu next again.room again.exact tried c.requires.there below turned) in
    let P : ℕ → Type 0 = λ cpu. IsNext turn start nodes reaches at cpu false in
    let M : List (Node g.row.M-State.Denot) → Type 0 = λ ns. IsNext turn start ns reaches at cpu false in
    record {
      end = refl;
      sound = c.in_ok-next.ensures.sound;
      again = on;
      none = λ whole.
          let exact : length links ≡ length kept' = again.exact whole in
          let found : next < length links = found_again turn start cpus links kept' new at cpu next exact (tried whole) c.requires.there below turned in
          let inside : next < length reaches = omega (arith, c.requires.same) in
          let here : P cpu = subst M again.same (next_again turn start links kept' new at cpu next reaches false again.room c.requires.there found turned (c.is_noted.ensures.noted inside ∙ c.if-is_noted.false)) in
          below_more P cpu (c.loop-cpu.invariant.none whole) here;
    }

pub returns-then-is_noted-clause-again : goal.returns-then-is_noted-clause-again
returns-then-is_noted-clause-again g c =
    let turn = g.M.Machine.turn_of c.args.task.now.machine in
    let start = g.M.Machine.start_of c.args.task.now.machine in
    let cpus = c.args.task.now.cpus in
    let kept = g.M.Machine.kept c.args.store.now in
    let links = c.args.links.now in
    let nodes = nodes_of kept links in
    let few : length links ≤ length kept = c.requires.room in
    let count : length nodes ≡ length links = nodes_long kept links few in
    let is_whole = c.args.is_whole in
    let reaches = c.args.reaches.now in
    let at = c.args.at in
    let kept' = g.M.Machine.kept c.loop-cpu.store in
    let nodes' = nodes_of kept' links in
    let again = c.loop-cpu.invariant.again in
    let N : List (Node g.row.M-State.Denot) → Type 0 = λ ns. AllTried turn start cpus ns (length ns) in
    let tried : IsTrue is_whole → N nodes' = λ whole. subst N (sym again.same) (c.requires.tried whole) in
    let cpu = c.loop-cpu.cpu in
    let below : cpu < cpus = omega (arith, c.loop-cpu.invariant.end) in
    let new = g.M.Machine.kept c.turn.new.store in
    let next = c.in_ok-next.next in
    let turned = c.in_ok-next.ensures.turned in
    let on = again_on links is_whole nodes kept' new again (turn_again turn start cpus links is_whole kept' new at cpu next again.room again.exact tried c.requires.there below turned) in
    on

pub returns-then-is_noted-clause-some : goal.returns-then-is_noted-clause-some
returns-then-is_noted-clause-some g c = λ so.
    let turn = g.M.Machine.turn_of c.args.task.now.machine in
    let start = g.M.Machine.start_of c.args.task.now.machine in
    let cpus = c.args.task.now.cpus in
    let kept = g.M.Machine.kept c.args.store.now in
    let links = c.args.links.now in
    let nodes = nodes_of kept links in
    let few : length links ≤ length kept = c.requires.room in
    let count : length nodes ≡ length links = nodes_long kept links few in
    let is_whole = c.args.is_whole in
    let reaches = c.args.reaches.now in
    let at = c.args.at in
    let kept' = g.M.Machine.kept c.loop-cpu.store in
    let nodes' = nodes_of kept' links in
    let again = c.loop-cpu.invariant.again in
    let N : List (Node g.row.M-State.Denot) → Type 0 = λ ns. AllTried turn start cpus ns (length ns) in
    let tried : IsTrue is_whole → N nodes' = λ whole. subst N (sym again.same) (c.requires.tried whole) in
    let cpu = c.loop-cpu.cpu in
    let below : cpu < cpus = omega (arith, c.loop-cpu.invariant.end) in
    let new = g.M.Machine.kept c.turn.new.store in
    let next = c.in_ok-next.next in
    let turned = c.in_ok-next.ensures.turned in
    let on = again_on links is_whole nodes kept' new again (turn_again turn start cpus links is_whole kept' new at cpu next again.room again.exact tried c.requires.there below turned) in
    let inside : next < length reaches = c.is_noted.ensures.found c.if-is_noted.true in
    let found : next < length links = omega (arith, c.requires.same) in
    let M : List (Node g.row.M-State.Denot) → Type 0 = λ ns. IsNext turn start ns reaches at cpu true in
    record { cpu = cpu; below = below; next = subst M again.same (next_again turn start links kept' new at cpu next reaches true again.room c.requires.there found turned (c.is_noted.ensures.noted inside ∙ c.if-is_noted.true)) }
