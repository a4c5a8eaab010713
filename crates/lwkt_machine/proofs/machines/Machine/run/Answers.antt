use Rattle.std.proofs.Common.{◌∙◌}
use Rattle.lwkt_machine.proofs.RoundMoves.{running_more, runs_over}
use Rattle.lwkt_machine.proofs.machines.Machine.run.Goals as goal

pub returns-then-branch-clause-ok : goal.returns-then-branch-clause-ok
returns-then-branch-clause-ok g c =
    let l = c.loop-made in
    runs_over {B = g.row.B.Denot} g.B.Body.polled c.args.self.now l.self c.turn_all.new.self l._made c.args.rounds c.in_ok-turn_all.field-0 c.if-branch.true c.loop-made-test.true l.invariant.so_far c.in_ok-turn_all.ensures.ok

pub loop-made-preserved : goal.loop-made-preserved
loop-made-preserved g c =
    let l = c.loop-made in
    record {
      bank = c.turn_all.ensures.bank ∙ l.invariant.bank;
      book = c.turn_all.ensures.book ∙ l.invariant.book;
      so_far = running_more {B = g.row.B.Denot} g.B.Body.polled c.args.self.now l.self c.turn_all.new.self l._made c.in_ok-turn_all.field-0 c.if-branch.false l.invariant.so_far c.in_ok-turn_all.ensures.ok c.turn_all.ensures.as_many;
    }
