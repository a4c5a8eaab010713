use Rattle.std.proofs.Common.{take}
use Rattle.lwkt_drive.specs.Stretches.{Lead}
use Rattle.lwkt_drive.proofs.chains.lead.Given as goal

abbrev pub invariant-loop-stretch : goal.invariant-loop-stretch
invariant-loop-stretch l = Lead l.initial.rows.items (take l.stretch-index l.stretches) l.rows.items
