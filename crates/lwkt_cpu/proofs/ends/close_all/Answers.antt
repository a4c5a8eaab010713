use Rattle.std.proofs.Common.{◌≡◌, ◌<◌, length, get_or, refl, ◌∙◌, subst, arith, Some}
use Rattle.std.specs.Prelude.{Bool, slice_get}
use Rattle.std.proofs.lemmas.Option.{slice_get-get_or}
use Rattle.lwkt_port.specs.Posts.{Post}
use Rattle.lwkt_port.proofs.Chaining.{chain_none, chain_more}
use Rattle.lwkt_cpu.specs.Ending.{includes, ClosesIf, ClosesAt}
use Rattle.lwkt_cpu.proofs.WakeMoves.{post_none, post_then}
use Rattle.lwkt_cpu.proofs.ends.close_all.Goals as goal

pub loop-at-init : goal.loop-at-init
loop-at-init c = record {
  closes = chain_none Post (ClosesAt (includes c.args.which) c.args.threads.now) c.args.ports.now;
  same = post_none c.args.ports.now;
  seat = refl;
}

pub loop-at-preserved : goal.loop-at-preserved
loop-at-preserved c =
    let l = c.loop-at in
    let q = c.close_if.new.ports in
    let d = c.index-threads-at.result in
    let threads = c.args.threads.now in
    let within : l.at < length threads = omega (arith, c.loop-at-test.true) in
    let is : slice_get threads l.at ≡ Some (get_or threads l.at d) = slice_get-get_or threads l.at d within in
    let F : Bool → Type 0 = λ b. ClosesIf b l.at l.ports q in
    record {
      closes = chain_more Post (ClosesAt (includes c.args.which) threads) l.at c.args.ports.now l.ports q l.invariant.closes (get_or threads l.at d, (is, subst F c.includes.ensures c.close_if.ensures.closes));
      same = post_then c.args.ports.now l.ports q l.invariant.same c.close_if.ensures.same;
      seat = c.close_if.ensures.seat ∙ l.invariant.seat;
    }
