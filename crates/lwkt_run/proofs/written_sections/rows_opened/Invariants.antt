use Rattle.std.proofs.Common.{◌≡◌, take}
use Rattle.lwkt_run.specs.NamedSections.{opening_rows}
use Rattle.lwkt_run.proofs.written_sections.rows_opened.Given as goal

abbrev pub invariant-loop-spec : goal.invariant-loop-spec
invariant-loop-spec l = l.rows.items ≡ opening_rows (take l.spec-index l.specs)
