use Rattle.std.proofs.Common.{arith, add_assoc, ◌∙◌}
use Rattle.lwkt_report.proofs.StreamLemmas.{Appends-more, length-rest}
use Rattle.lwkt_report.proofs.sinks.write_whole.Goals as goal

pub loop-turn-preserved : goal.loop-turn-preserved
loop-turn-preserved g c = record {
  stands = Appends-more _ (g.K.Sink.contents c.loop-turn.sink) _ c.args.bytes.now c.loop-turn.done c.in_ok-done.field-0 c.loop-turn.invariant.stands c.in_ok-done.ensures.bytes;
  grown = omega (arith, c.in_ok-done.ensures.some, length-rest c.args.bytes.now c.loop-turn.done);
  within = omega (arith, c.in_ok-done.ensures.bound, length-rest c.args.bytes.now c.loop-turn.done);
  unfailed = c.in_ok-done.ensures.ok ∙ c.loop-turn.invariant.unfailed;
  room = λ more room. c.in_ok-done.ensures.room more (c.loop-turn.invariant.room _ (rw (← add_assoc c.loop-turn.done c.in_ok-done.field-0 more) room));
}
