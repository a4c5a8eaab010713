use Rattle.std.proofs.Common.{◌≡◌, ◌∙◌, ℕ, List, subst}
use Rattle.lwkt_report.specs.Complaint.{IsSaid}
use Rattle.lwkt.specs.Counting.{count_line}
use Rattle.lwkt.proofs.folders.put_count.Goals as goal

pub returns-clause-said : goal.returns-clause-said
returns-clause-said g c =
    let Said : List ℕ → Type 0 = λ text. IsSaid (g.K.Sink.has_failed c.put.new.sink) (g.K.Sink.contents c.args.sink.now) (g.K.Sink.contents c.put.new.sink) text in
    let is : c.as_str.result.now ≡ count_line c.args.passed c.args.failed = c.as_str.ensures.value ∙ c.in_ok-line.ensures in
    subst Said is c.put.ensures.said
