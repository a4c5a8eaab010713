use Rattle.lwkt_code.proofs.Walks.{ask_here, ask_on}
use Rattle.lwkt_code.proofs.laws.first_ask.Goals as goal

pub returns : goal.returns
returns c = λ steps s h. (λ ask e. ask_here steps s ask e, λ e. ask_on steps s h e)
