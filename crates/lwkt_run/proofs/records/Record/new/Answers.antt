use Rattle.lwkt_run.proofs.KeepMoves.{places_none}
use Rattle.lwkt_run.proofs.records.Record.new.Goals as goal

pub invariant_of-result : goal.invariant_of-result
invariant_of-result c = record { places = places_none c.new-3.result.items c.new-3.ensures.items }
