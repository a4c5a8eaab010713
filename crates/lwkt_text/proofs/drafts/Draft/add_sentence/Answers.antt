use Rattle.lwkt_text.proofs.Keeping.{wrong_kept}
use Rattle.lwkt_text.proofs.drafts.Draft.add_sentence.Goals as goal

pub returns-in-Err-Wrong-clause-keeps : goal.returns-in-Err-Wrong-clause-keeps
returns-in-Err-Wrong-clause-keeps c = wrong_kept c.blame.result c.args.names.now.cpus c.in-Err-Wrong.wrong c.args.words.now c.args.self.now c.blame.new.self (rw c.in-Err-Wrong.wrong-is at c.blame.ensures)
