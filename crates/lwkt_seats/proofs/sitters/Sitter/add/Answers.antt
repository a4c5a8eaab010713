use Rattle.std.proofs.Common.{sym, ◌∙◌}
use Rattle.lwkt_seats.proofs.BriefMoves as brief
use Rattle.lwkt_seats.proofs.CountMoves as count
use Rattle.lwkt_seats.proofs.sitters.Sitter.add.Goals as goal

pub invariant_of-self : goal.invariant_of-self
invariant_of-self c =
    let old = c.args.self.now in
    record {
      of = c.add.ensures.same.0 ∙ old.of;
      counted = old.counted ∙ sym (count.adds c.args.token c.args.amount old.seat c.add.new.seat c.add.result c.add.ensures.does);
      brief = brief.adds c.args.token c.args.amount old.seat c.add.new.seat c.add.result c.add.ensures.does old.brief;
    }
