use Rattle.std.proofs.Common.{◌∙◌, sym, arith}
use Rattle.lwkt_refusals.proofs.Adding.{adds_twice}
use Rattle.lwkt.proofs.folders.tried_all.Goals as goal
use Rattle.lwkt.proofs.folders.tried_all.Goals.{then-not-branch, else-not-branch}

pub returns-in_err-try_one-clause-more : goal.returns-in_err-try_one-clause-more
returns-in_err-try_one-clause-more g c = adds_twice c.loop-file.invariant.more c.try_one.ensures.more

pub loop-file-preserved : goal.loop-file-preserved
loop-file-preserved g c = record {
  within = elim c.if-not-branch.branch [ then-not-branch w ↦ omega arith | else-not-branch w ↦ omega arith ];
  quiet = elim c.if-not-branch.branch [
    | then-not-branch w ↦ λ none. absurd (omega arith)
    | else-not-branch w ↦ λ none. c.in_ok-try_one.ensures.quiet w.if-not-branch.false ∙ c.loop-file.invariant.quiet (sym w.failed-is ∙ none)
  ];
  more = adds_twice c.loop-file.invariant.more c.try_one.ensures.more;
}
