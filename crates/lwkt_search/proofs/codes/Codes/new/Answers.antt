use Rattle.lwkt_search.proofs.CodeLemmas.{codes_none}
use Rattle.lwkt_search.proofs.codes.Codes.new.Goals as goal

pub returns-clause-codes : goal.returns-clause-codes
returns-clause-codes c = codes_none c.args.width c.new.result.items c.in_ok-index.index.heads.items c.in_ok-index.index.links.items c.new.ensures.items (c.in_ok-index.ensures.empty) c.in_ok-index.ensures.index
