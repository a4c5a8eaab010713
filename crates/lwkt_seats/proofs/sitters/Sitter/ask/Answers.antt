use Rattle.std.proofs.Common.{ℕ, ap, sym, ◌∙◌}
use Rattle.lwkt_seats.specs.Counts.{count_asked}
use Rattle.lwkt_seats.proofs.BriefMoves as brief
use Rattle.lwkt_seats.proofs.CountMoves as count
use Rattle.lwkt_seats.proofs.sitters.Sitter.ask.Goals as goal

pub invariant_of-self : goal.invariant_of-self
invariant_of-self c =
    let old = c.args.self.now in
    record {
      of = c.ask-asked.ensures.same.0 ∙ old.of;
      counted = c.count_in.ensures ∙ ap (λ (n : ℕ). count_asked c.ask-asked.result n) old.counted ∙ sym (count.asks c.args.mode c.args.token old.seat c.ask-asked.new.seat c.ask-asked.result c.ask-asked.ensures.does);
      brief = brief.asks c.args.mode c.args.token old.seat c.ask-asked.new.seat c.ask-asked.result c.ask-asked.ensures.does old.brief;
    }
