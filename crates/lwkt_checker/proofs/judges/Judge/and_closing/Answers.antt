use Rattle.lwkt_checker.specs.Judgement.{AreValues}
use Rattle.lwkt_checker.proofs.Knowing.{closing_known}
use Rattle.lwkt_checker.proofs.judges.Judge.and_closing.Goals as goal

pub returns-clause-knows : goal.returns-clause-knows
returns-clause-knows c = λ trace knows.
    let last = c.into_final-last in
    let values : AreValues c.args.closing last.result = record { rows = last.ensures.rows; gens = last.ensures.gens; tallies = last.ensures.tallies; messages = last.ensures.messages; blobs = last.ensures.blobs } in
    closing_known trace c.args.closing last.result c.args.self c.in_ok-and_closing.field-0 c.requires values knows c.in_ok-and_closing.ensures
