use Rattle.std.proofs.Common.{◌≡◌, ◌+◌, ◌*◌, ◌<◌, length, get_or, set, refl, ap, arith, Some}
use Rattle.std.specs.Prelude.{slice_get}
use Rattle.std.proofs.lemmas.Option.{slice_get-get_or}
use Rattle.lwkt_msg.specs.Desks.{desk_cpu, messages_of}
use Rattle.lwkt_port.proofs.Chaining.{chain_none, chain_more}
use Rattle.lwkt_port.proofs.Growing.{grew_none}
use Rattle.lwkt_port.proofs.Tracing.{deeds_none, deeds_then}
use Rattle.lwkt_cpu.specs.Waking.{Ward, WakesAt, ward}
use Rattle.lwkt_cpu.proofs.WakeMoves.{post_none, post_then, grew_wider, grew_more, woken_none, woken_more, woken_awaits}
use Rattle.lwkt_cpu.proofs.wakes.wake_all.Goals as goal

pub loop-at-init : goal.loop-at-init
loop-at-init c = record {
  wakes = chain_none Ward WakesAt (ward c.args.ports.now c.args.threads.now c.args.trace.now);
  woken = woken_none c.args.threads.now;
  same = post_none c.args.ports.now;
  grew = grew_wider (desk_cpu c.args.ports.now.seat) 0 (128 * 0) c.args.trace.now c.args.trace.now (omega arith) (grew_none (desk_cpu c.args.ports.now.seat) c.args.trace.now);
  traced = deeds_none c.args.ports.now.seat c.args.trace.now.items;
}

pub wake_one-requires-clause-awaits : goal.wake_one-requires-clause-awaits
wake_one-requires-clause-awaits c =
    let l = c.loop-at in
    let d = c.index-threads-at.result in
    let within : l.at < length l.threads = omega (arith, c.loop-at-test.true, l.auto.threads) in
    let is : slice_get l.threads l.at ≡ Some (get_or l.threads l.at d) = slice_get-get_or l.threads l.at d within in
    woken_awaits (messages_of c.args.ports.now.seat) (messages_of l.ports.seat) c.args.threads.now l.threads (ap length l.invariant.same.seat.specs) l.invariant.woken c.requires.awaits l.at (get_or l.threads l.at d) is

pub loop-at-preserved : goal.loop-at-preserved
loop-at-preserved c =
    let l = c.loop-at in
    let w = c.wake_one in
    let d = c.index-threads-at.result in
    let within : l.at < length l.threads = omega (arith, c.loop-at-test.true, l.auto.threads) in
    let mid = get_or l.threads l.at d in
    let is : slice_get l.threads l.at ≡ Some mid = slice_get-get_or l.threads l.at d within in
    record {
      wakes = chain_more Ward WakesAt l.at (ward c.args.ports.now c.args.threads.now c.args.trace.now) (ward l.ports l.threads l.trace) (ward w.new.ports (set l.threads l.at w.new.thread) w.new.trace) l.invariant.wakes (mid, (w.new.thread, (is, refl, w.ensures.wakes)));
      woken = woken_more c.args.threads.now l.threads l.at mid w.new.thread within is l.invariant.woken w.ensures.woken w.ensures.live;
      same = post_then c.args.ports.now l.ports w.new.ports l.invariant.same w.ensures.same;
      grew = grew_more c.args.ports.now l.ports (128 * l.at) 128 (128 * (l.at + 1)) c.args.trace.now l.trace w.new.trace (omega arith) l.invariant.same l.invariant.grew w.ensures.grew;
      traced = deeds_then c.args.ports.now.seat l.ports.seat w.new.ports.seat c.args.trace.now.items l.trace.items w.new.trace.items l.invariant.traced w.ensures.traced;
    }
