use Rattle.lwkt_plain.proofs.TableLemmas.{table_none}
use Rattle.lwkt_plain.proofs.tables.Table.new.Goals as goal

pub returns-clause-table : goal.returns-clause-table
returns-clause-table g c = table_none g.P.Part.hash_of c.new.result.items c.in_ok-index.index.heads.items c.in_ok-index.index.links.items c.new.ensures.items c.in_ok-index.ensures.index
