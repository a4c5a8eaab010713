use Rattle.std.proofs.Common.{◌∙◌}
use Rattle.lwkt_seats.proofs.BriefMoves as brief
use Rattle.lwkt_seats.proofs.sitters.Sitter.resume.Goals as goal

pub invariant_of-self : goal.invariant_of-self
invariant_of-self c =
    let old = c.args.self.now in
    record {
      of = c.resume-resumed.ensures.same.0 ∙ old.of;
      counted = c.count-self.ensures;
      brief = brief.resumes c.args.refs.now old.seat c.resume-resumed.new.seat c.resume-resumed.result c.resume-resumed.ensures.does old.brief;
    }
