use Rattle.lwkt_core.proofs.RunLemmas.{answers_match}
use Rattle.lwkt_core.proofs.headline.answers_are_of_their_send.Goals as goal

pub returns : goal.returns
returns c = answers_match
