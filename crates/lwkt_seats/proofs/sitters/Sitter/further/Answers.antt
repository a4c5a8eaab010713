use Rattle.std.proofs.Common.{ℕ, ap, sym, ◌∙◌}
use Rattle.lwkt_seats.specs.Counts.{count_furthered}
use Rattle.lwkt_seats.proofs.BriefMoves as brief
use Rattle.lwkt_seats.proofs.CountMoves as count
use Rattle.lwkt_seats.proofs.sitters.Sitter.further.Goals as goal

pub invariant_of-self : goal.invariant_of-self
invariant_of-self c =
    let old = c.args.self.now in
    record {
      of = c.further-furthered.ensures.same.0 ∙ old.of;
      counted = c.count_in.ensures ∙ ap (λ (n : ℕ). count_furthered c.further-furthered.result n) old.counted ∙ sym (count.furthers c.args.token old.seat c.further-furthered.new.seat c.further-furthered.result c.further-furthered.ensures.does);
      brief = brief.furthers c.args.token old.seat c.further-furthered.new.seat c.further-furthered.result c.further-furthered.ensures.does old.brief;
    }
