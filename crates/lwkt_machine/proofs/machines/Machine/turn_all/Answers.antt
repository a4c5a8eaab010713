use Rattle.std.proofs.Common.{◌∙◌}
use Rattle.lwkt_machine.proofs.RoundMoves.{turning_more}
use Rattle.lwkt_machine.proofs.machines.Machine.turn_all.Goals as goal

pub loop-number-preserved : goal.loop-number-preserved
loop-number-preserved g c =
    let l = c.loop-number in
    record {
      bank = c.turn_at.ensures.bank ∙ l.invariant.bank;
      book = c.turn_at.ensures.book ∙ l.invariant.book;
      so_far = turning_more {B = g.row.B.Denot} g.B.Body.polled c.args.self.now l.self c.turn_at.new.self l.number l.over c.is_still_over-over.result c.in_ok-turned.turned l.invariant.so_far c.in_ok-turned.ensures.ok c.is_still_over-over.ensures.yes c.is_still_over-over.ensures.no c.turn_at.ensures.as_many;
    }
