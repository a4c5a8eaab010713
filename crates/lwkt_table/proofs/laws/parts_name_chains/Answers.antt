use Rattle.lwkt_table.proofs.SectionParts.{parts_name}
use Rattle.lwkt_table.proofs.laws.parts_name_chains.Goals as goal

pub returns : goal.returns
returns c = parts_name
