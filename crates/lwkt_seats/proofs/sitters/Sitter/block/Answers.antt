use Rattle.std.proofs.Common.{sym, ◌∙◌}
use Rattle.lwkt_seats.proofs.BriefMoves as brief
use Rattle.lwkt_seats.proofs.ListMoves.{idle_counts}
use Rattle.lwkt_seats.proofs.sitters.Sitter.block.Goals as goal

pub invariant_of-self : goal.invariant_of-self
invariant_of-self c =
    let old = c.args.self.now in
    record {
      of = c.block-first.ensures.same.0 ∙ old.of;
      counted = sym (idle_counts c.block-first.new.seat c.block-first.ensures.does.0);
      brief = brief.blocks old.seat c.block-first.new.seat c.block-first.result c.block-first.ensures.does old.brief;
    }
