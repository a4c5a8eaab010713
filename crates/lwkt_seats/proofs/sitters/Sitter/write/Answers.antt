use Rattle.std.proofs.Common.{sym, ◌∙◌}
use Rattle.lwkt_seats.proofs.BriefMoves as brief
use Rattle.lwkt_seats.proofs.CountMoves as count
use Rattle.lwkt_seats.proofs.sitters.Sitter.write.Goals as goal

pub invariant_of-self : goal.invariant_of-self
invariant_of-self c =
    let old = c.args.self.now in
    record {
      of = c.write.ensures.same.0 ∙ old.of;
      counted = old.counted ∙ sym (count.writes c.args.token c.args.bytes.now old.seat c.write.new.seat c.write.result c.write.ensures.does);
      brief = brief.writes c.args.token c.args.bytes.now old.seat c.write.new.seat c.write.result c.write.ensures.does old.brief;
    }
