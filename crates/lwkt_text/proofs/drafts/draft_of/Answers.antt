use Rattle.lwkt_text.proofs.Keeping.{closed_within}
use Rattle.lwkt_text.proofs.drafts.draft_of.Goals as goal

pub returns-clause-limits : goal.returns-clause-limits
returns-clause-limits c = rw c.in_ok-close.ensures (closed_within c.args.names.now.cpus c.loop-sentence.draft c.loop-sentence.invariant.1)
