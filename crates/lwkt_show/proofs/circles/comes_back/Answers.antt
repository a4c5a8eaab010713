use Rattle.std.proofs.Common.{◌≡◌, ◌∙◌, ◌<◌, length, sym, false}
use Rattle.std.specs.Prelude.{Some}
use Rattle.lwkt_told.specs.Called.{is_thread}
use Rattle.lwkt_show.specs.Circles.{next_of}
use Rattle.lwkt_show.proofs.CircleLemmas.{comes_on}
use Rattle.lwkt_show.proofs.circles.comes_back.Goals as goal

pub loop-wait-preserved : goal.loop-wait-preserved
loop-wait-preserved c =
    let next = next_of c.args.waits.now in
    let below : c.loop-wait._wait < length c.args.waits.now = c.loop-wait-test.true in
    let is : next c.loop-wait.now ≡ Some c.in-Some.to = cc in
    let other : is_thread c.in-Some.to c.args.first ≡ false = cc in
    sym (comes_on next c.args.first c.loop-wait.now c.in-Some.to c.loop-wait._wait (length c.args.waits.now) below is other) ∙ c.loop-wait.invariant
