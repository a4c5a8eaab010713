use Rattle.std.proofs.Common.{◌≡◌, ◌<◌, ◌≤◌, length, arith, refl, IsTrue, rules}
use Rattle.lwkt_search.specs.Graphs.{nodes_of}
use Rattle.lwkt_search.proofs.NodeLemmas.{nodes_long}
use Rattle.lwkt_search.proofs.RowLemmas.{grows_none, grows_on}
use Rattle.lwkt_search.proofs.searches.Task.try_set.Goals as goal

pub loop-cpu-init : goal.loop-cpu-init
loop-cpu-init g c = record {
  end = refl;
  sound = c.requires.sound;
  long = c.requires.long;
  within = c.requires.within;
  there = c.requires.there;
  grows = grows_none (g.M.Machine.start_of c.args.self.now.machine) c.args.at (nodes_of (g.M.Machine.kept c.args.store.now) c.args.links.now);
  few = λ h. h;
}

pub loop-cpu-preserved : goal.loop-cpu-preserved
loop-cpu-preserved g c =
    let start = g.M.Machine.start_of c.args.self.now.machine in
    let kept = g.M.Machine.kept c.args.store.now in
    let kept' = g.M.Machine.kept c.loop-cpu.store in
    let kept'' = g.M.Machine.kept c.try_one.new.store in
    let links = c.args.links.now in
    let links' = c.loop-cpu.links in
    let links'' = c.try_one.new.links in
    let one = nodes_of kept links in
    let two = nodes_of kept' links' in
    let three = nodes_of kept'' links'' in
    let at = c.args.at in
    let long : length links ≡ length kept = c.requires.long in
    let few : length links ≤ length kept = omega arith in
    let count : length one ≡ length links = nodes_long kept links few in
    let there : at < length links = c.requires.there in
    let here : at < length one = omega arith in
    let grows = grows_on start at one two three here c.loop-cpu.invariant.grows c.in_ok-try_one.ensures.grows in
    let long'' : length links'' ≡ length kept'' = c.in_ok-try_one.ensures.long in
    let few'' : length links'' ≤ length kept'' = omega arith in
    let count'' : length three ≡ length links'' = nodes_long kept'' links'' few'' in
    let longer : length one ≤ length three = grows.grows.longer in
    let yes : IsTrue c.in_ok-try_one.field-0 = search rules in
    record {
      end = refl;
      sound = c.in_ok-try_one.ensures.sound;
      long = c.in_ok-try_one.ensures.long;
      within = c.in_ok-try_one.ensures.within;
      there = omega arith;
      grows = grows;
      few = λ h. c.in_ok-try_one.ensures.few yes (c.loop-cpu.invariant.few h);
    }

pub returns-then-not-branch-clause-grows : goal.returns-then-not-branch-clause-grows
returns-then-not-branch-clause-grows g c =
    let start = g.M.Machine.start_of c.args.self.now.machine in
    let kept = g.M.Machine.kept c.args.store.now in
    let kept' = g.M.Machine.kept c.loop-cpu.store in
    let kept'' = g.M.Machine.kept c.try_one.new.store in
    let links = c.args.links.now in
    let links' = c.loop-cpu.links in
    let links'' = c.try_one.new.links in
    let one = nodes_of kept links in
    let two = nodes_of kept' links' in
    let three = nodes_of kept'' links'' in
    let at = c.args.at in
    let long : length links ≡ length kept = c.requires.long in
    let few : length links ≤ length kept = omega arith in
    let count : length one ≡ length links = nodes_long kept links few in
    let there : at < length links = c.requires.there in
    let here : at < length one = omega arith in
    let grows = grows_on start at one two three here c.loop-cpu.invariant.grows c.in_ok-try_one.ensures.grows in
    grows
