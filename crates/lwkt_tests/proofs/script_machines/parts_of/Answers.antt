use Rattle.std.proofs.Common.{◌∙◌}
use Rattle.lwkt_machine.proofs.TableMoves.{rest_first}
use Rattle.lwkt_tests.proofs.script_machines.parts_of.Goals as goal

pub seat_all-requires-clause-rest : goal.seat_all-requires-clause-rest
seat_all-requires-clause-rest c =
    let t = c.in_ok-tables.tables in
    let lanes = c.in_ok-outs.field-0 in
    rest_first c.from-cpus.result c.as_slice.result.now c.as_slice-2.result.now t.bank t.book (record { seats = t.seats; mails = t.mails; outs = lanes.outs; ins = lanes.ins }) c.in_ok-tables.ensures.bank c.in_ok-tables.ensures.book c.in_ok-outs.ensures

pub seat_all-requires-clause-specs : goal.seat_all-requires-clause-specs
seat_all-requires-clause-specs c = c.in_ok-tables.ensures.book.specs_is ∙ c.as_slice-2.ensures
