use Rattle.std.proofs.Common.{◌≡◌, take}
use Rattle.std.specs.Prelude.{zip}
use Rattle.lwkt_run.proofs.written_sections.rows_closed.Given as goal

abbrev pub invariant-loop-i : goal.invariant-loop-i
invariant-loop-i l = l.rows.items ≡ zip (take l.i l.last.rows.items) (take l.i l.last.gens.items)
