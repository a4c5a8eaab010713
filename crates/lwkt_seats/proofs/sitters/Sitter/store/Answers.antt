use Rattle.std.proofs.Common.{sym, ◌∙◌}
use Rattle.lwkt_seats.proofs.BriefMoves as brief
use Rattle.lwkt_seats.proofs.CountMoves as count
use Rattle.lwkt_seats.proofs.sitters.Sitter.store.Goals as goal

pub invariant_of-self : goal.invariant_of-self
invariant_of-self c =
    let old = c.args.self.now in
    record {
      of = c.store.ensures.same.0 ∙ old.of;
      counted = old.counted ∙ sym (count.stores c.args.token c.args.cell c.args.value old.seat c.store.new.seat c.store.result c.store.ensures.does);
      brief = brief.stores c.args.token c.args.cell c.args.value old.seat c.store.new.seat c.store.result c.store.ensures.does old.brief;
    }
