use Rattle.std.proofs.Common.{◌≡◌, drop}
use Rattle.lwkt_text.specs.Drafting.{all_added, no_draft}
use Rattle.lwkt_text.specs.Within.{IsDraft}
use Rattle.lwkt_text.proofs.drafts.draft_of.Given as goal

abbrev pub invariant-loop-sentence : goal.invariant-loop-sentence
invariant-loop-sentence l = (all_added l.names (drop l.sentence-index l.sentences) l.draft ≡ all_added l.names l.sentences (no_draft l.fn.faults)) × IsDraft l.names.cpus l.draft
