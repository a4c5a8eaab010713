use Rattle.std.proofs.Common.{◌≡◌, List, get_or, set, sym, subst, arith, Some}
use Rattle.std.specs.Prelude.{slice_get}
use Rattle.std.proofs.lemmas.Option.{slice_get-get_or}
use Rattle.lwkt_bank.specs.Seats.{id_of, cpus_of}
use Rattle.lwkt_cpu.specs.Processors.{Processor}
use Rattle.lwkt_cpu.proofs.TurnMoves.{turn_from_room}
use Rattle.lwkt_drive.specs.declared.driven.Driven.{Driven}
use Rattle.lwkt_machine.specs.Machines.{processors, AreOneMachine}
use Rattle.lwkt_machine.specs.Sights.{KeepsLog}
use Rattle.lwkt_machine.proofs.DrivenMoves.{logs_set, processor_at, processors_set}
use Rattle.lwkt_machine.proofs.ListMoves.{zip_there}
use Rattle.lwkt_machine.proofs.SameMoves.{same_of}
use Rattle.lwkt_machine.proofs.SightMoves.{looked_same, sent_looked}
use Rattle.lwkt_machine.proofs.TurnMoves.{turned_at, turned_whole}
use Rattle.lwkt_machine.proofs.turns.turn_traced.Goals as goal

pub turn_in_room-requires-clause-of : goal.turn_in_room-requires-clause-of
turn_in_room-requires-clause-of g c =
    let olds : List (Driven g.row.B.Denot) = c.args.cpus.now in
    let mids : List (Driven g.row.B.Denot) = c.see_sent.new.cpus in
    let k = c.args.number in
    let d = c.index-cpus-number.result in
    let m : Driven g.row.B.Denot = get_or mids k d in
    let at = processor_at mids k m (slice_get-get_or mids k d (omega (arith, c.see_sent.ensures.as_many, c.requires.there))) in
    (same_of (id_of c.args.bank.now) c.args.book.now (processors olds) (processors mids) k m.cpu at (looked_same (processors olds) (processors mids) (sent_looked k (processors olds) (processors mids) c.see_sent.ensures.sees)) c.requires.whole.each).bank_is

pub turn_in_room-requires-clause-table : goal.turn_in_room-requires-clause-table
turn_in_room-requires-clause-table g c =
    let olds : List (Driven g.row.B.Denot) = c.args.cpus.now in
    let mids : List (Driven g.row.B.Denot) = c.see_sent.new.cpus in
    let k = c.args.number in
    let d = c.index-cpus-number.result in
    let m : Driven g.row.B.Denot = get_or mids k d in
    let at = processor_at mids k m (slice_get-get_or mids k d (omega (arith, c.see_sent.ensures.as_many, c.requires.there))) in
    (same_of (id_of c.args.bank.now) c.args.book.now (processors olds) (processors mids) k m.cpu at (looked_same (processors olds) (processors mids) (sent_looked k (processors olds) (processors mids) c.see_sent.ensures.sees)) c.requires.whole.each).table_is

pub returns-clause-turns : goal.returns-clause-turns
returns-clause-turns g c =
    let olds : List (Driven g.row.B.Denot) = c.args.cpus.now in
    let mids : List (Driven g.row.B.Denot) = c.see_sent.new.cpus in
    let k = c.args.number in
    let d = c.index-cpus-number.result in
    let m : Driven g.row.B.Denot = get_or mids k d in
    let q = c.turn_in_room.new.self in
    let e : Driven g.row.B.Denot = record m { cpu = q } in
    let at = processor_at mids k m (slice_get-get_or mids k d (omega (arith, c.see_sent.ensures.as_many, c.requires.there))) in
    λ t items len capacity. turned_at g.B.Body.polled g.B.Lasting.kept (cpus_of c.args.bank.now) (id_of c.args.bank.now) c.args.book.now olds (set mids k e) (processors mids) k m.cpu q t c.turn_in_room.new.trace c.turn_in_room.result c.requires.whole c.see_sent.ensures.sees at (turn_from_room g.B.Body.polled (id_of c.args.bank.now) m.cpu q t c.args.trace.now c.turn_in_room.new.trace c.turn_in_room.result items len capacity c.turn_in_room.ensures.makes) (processors_set mids k e)

pub returns-clause-logs : goal.returns-clause-logs
returns-clause-logs g c =
    let olds : List (Driven g.row.B.Denot) = c.args.cpus.now in
    let mids : List (Driven g.row.B.Denot) = c.see_sent.new.cpus in
    let k = c.args.number in
    let d = c.index-cpus-number.result in
    let m : Driven g.row.B.Denot = get_or mids k d in
    let here : slice_get mids k ≡ Some m = slice_get-get_or mids k d (omega (arith, c.see_sent.ensures.as_many, c.requires.there)) in
    logs_set olds mids k m c.turn_in_room.new.self here c.see_sent.ensures.logs (λ x was. zip_there KeepsLog olds mids c.see_sent.ensures.logs k x m was here)

pub returns-clause-whole : goal.returns-clause-whole
returns-clause-whole g c =
    let olds : List (Driven g.row.B.Denot) = c.args.cpus.now in
    let mids : List (Driven g.row.B.Denot) = c.see_sent.new.cpus in
    let k = c.args.number in
    let d = c.index-cpus-number.result in
    let m : Driven g.row.B.Denot = get_or mids k d in
    let q = c.turn_in_room.new.self in
    let e : Driven g.row.B.Denot = record m { cpu = q } in
    let at = processor_at mids k m (slice_get-get_or mids k d (omega (arith, c.see_sent.ensures.as_many, c.requires.there))) in
    let F : List (Processor g.row.B.Denot) → Type 0 = λ xs. AreOneMachine g.B.Lasting.kept (cpus_of c.args.bank.now) (id_of c.args.bank.now) c.args.book.now xs in
    subst F (sym (processors_set mids k e)) (turned_whole g.B.Body.polled g.B.Lasting.kept g.met.B.Lasting.keeps (cpus_of c.args.bank.now) (id_of c.args.bank.now) c.args.book.now (processors olds) (processors mids) k m.cpu q c.args.trace.now c.turn_in_room.new.trace c.turn_in_room.result c.requires.whole c.see_sent.ensures.sees at c.turn_in_room.ensures.makes)
