use Rattle.std.proofs.Common.{◌≡◌, ◌<◌, List, length, length-set, get_or, set, ap, sym, subst, arith, Some}
use Rattle.std.specs.Prelude.{slice_get}
use Rattle.std.proofs.lemmas.Option.{slice_get-get_or}
use Rattle.lwkt_bank.specs.Seats.{id_of, cpus_of}
use Rattle.lwkt_cpu.specs.Processors.{Processor}
use Rattle.lwkt_drive.specs.declared.driven.Driven.{Driven}
use Rattle.lwkt_drive.specs.Appending.{HasTurnRoom}
use Rattle.lwkt_lane.proofs.PlaceMoves.{get_set_same}
use Rattle.lwkt_machine.specs.Machines.{processors, rig_of, AreAllJoined, AreNumbered, AreOneMachine}
use Rattle.lwkt_machine.specs.Sights.{KeepsLog, SeesSent}
use Rattle.lwkt_machine.specs.Turns.{StaysAt}
use Rattle.lwkt_machine.proofs.DrivenMoves.{processor_at, processors_put, processors_set}
use Rattle.lwkt_machine.proofs.ListMoves.{zip_there}
use Rattle.lwkt_machine.proofs.SameMoves.{on_err, same_of}
use Rattle.lwkt_machine.proofs.SightMoves.{looked_same, sent_looked}
use Rattle.lwkt_machine.proofs.TurnMoves.{part_kept, room_stays, stays_at, turned_at, turned_whole}
use Rattle.lwkt_machine.proofs.turns.turn_kept.Goals as goal

pub returns-in_err-make_room-clause-err : goal.returns-in_err-make_room-clause-err
returns-in_err-make_room-clause-err g c =
    let Body = g.row.B.Denot in
    let olds : List (Driven Body) = c.args.cpus.now in
    let k = c.args.number in
    let x = c.index-cpus-number.result in
    let d : Driven Body = get_or olds k x in
    let r : Driven Body = c.make_room.new.self in
    let at : slice_get olds k ≡ Some d = slice_get-get_or olds k x c.requires.there in
    let cpu : r.cpu ≡ d.cpu = ap (λ (y : Driven Body). y.cpu) c.make_room.ensures.rest in
    let same : processors (set olds k r) ≡ processors olds = processors_put olds k d r at cpu in
    on_err c.from_residual.result (StaysAt k (rig_of (id_of c.args.bank.now) c.args.book.now olds) (rig_of (id_of c.args.bank.now) c.args.book.now (set olds k r)))
    (stays_at (id_of c.args.bank.now) c.args.book.now olds k d r at (room_stays d r c.make_room.ensures.rest c.make_room.ensures.items c.make_room.ensures.capacity))

pub returns-in_err-make_room-clause-whole : goal.returns-in_err-make_room-clause-whole
returns-in_err-make_room-clause-whole g c =
    let Body = g.row.B.Denot in
    let olds : List (Driven Body) = c.args.cpus.now in
    let k = c.args.number in
    let x = c.index-cpus-number.result in
    let d : Driven Body = get_or olds k x in
    let r : Driven Body = c.make_room.new.self in
    let at : slice_get olds k ≡ Some d = slice_get-get_or olds k x c.requires.there in
    let cpu : r.cpu ≡ d.cpu = ap (λ (y : Driven Body). y.cpu) c.make_room.ensures.rest in
    let same : processors (set olds k r) ≡ processors olds = processors_put olds k d r at cpu in
    let F : List (Processor Body) → Type 0 = λ xs. AreOneMachine g.B.Lasting.kept (cpus_of c.args.bank.now) (id_of c.args.bank.now) c.args.book.now xs in
    subst F (sym same) c.requires.whole

pub see_sent-requires-clause-numbered : goal.see_sent-requires-clause-numbered
see_sent-requires-clause-numbered g c =
    let Body = g.row.B.Denot in
    let olds : List (Driven Body) = c.args.cpus.now in
    let k = c.args.number in
    let x = c.index-cpus-number.result in
    let d : Driven Body = get_or olds k x in
    let r : Driven Body = c.make_room.new.self in
    let at : slice_get olds k ≡ Some d = slice_get-get_or olds k x c.requires.there in
    let cpu : r.cpu ≡ d.cpu = ap (λ (y : Driven Body). y.cpu) c.make_room.ensures.rest in
    let same : processors (set olds k r) ≡ processors olds = processors_put olds k d r at cpu in
    let F : List (Processor Body) → Type 0 = λ xs. AreNumbered xs in
    subst F (sym same) c.requires.whole.numbered

pub see_sent-requires-clause-joined : goal.see_sent-requires-clause-joined
see_sent-requires-clause-joined g c =
    let Body = g.row.B.Denot in
    let olds : List (Driven Body) = c.args.cpus.now in
    let k = c.args.number in
    let x = c.index-cpus-number.result in
    let d : Driven Body = get_or olds k x in
    let r : Driven Body = c.make_room.new.self in
    let at : slice_get olds k ≡ Some d = slice_get-get_or olds k x c.requires.there in
    let cpu : r.cpu ≡ d.cpu = ap (λ (y : Driven Body). y.cpu) c.make_room.ensures.rest in
    let same : processors (set olds k r) ≡ processors olds = processors_put olds k d r at cpu in
    let F : List (Processor Body) → Type 0 = λ xs. AreAllJoined xs in
    subst F (sym same) c.requires.whole.joined

pub turn_in_room-requires-clause-at : goal.turn_in_room-requires-clause-at
turn_in_room-requires-clause-at g c =
    let Body = g.row.B.Denot in
    let olds : List (Driven Body) = c.args.cpus.now in
    let k = c.args.number in
    let x = c.index-cpus-number.result in
    let d : Driven Body = get_or olds k x in
    let r : Driven Body = c.make_room.new.self in
    let at : slice_get olds k ≡ Some d = slice_get-get_or olds k x c.requires.there in
    let cpu : r.cpu ≡ d.cpu = ap (λ (y : Driven Body). y.cpu) c.make_room.ensures.rest in
    let same : processors (set olds k r) ≡ processors olds = processors_put olds k d r at cpu in
    let mids : List (Driven Body) = c.see_sent.new.cpus in
    let y = c.index-cpus-number-2.result in
    let m : Driven Body = get_or mids k y in
    let less : k < length mids = omega (arith, c.see_sent.ensures.as_many, length-set olds k r, c.requires.there) in
    let here : slice_get mids k ≡ Some m = slice_get-get_or mids k y less in
    let there = processor_at mids k m here in
    let S : List (Processor Body) → Type 0 = λ xs. SeesSent k xs (processors mids) in
    let sees : SeesSent k (processors olds) (processors mids) = subst S same c.see_sent.ensures.sees in
    let log : KeepsLog r m = zip_there KeepsLog (set olds k r) mids c.see_sent.ensures.logs k r m (get_set_same olds k r c.requires.there) here in
    let o = same_of (id_of c.args.bank.now) c.args.book.now (processors olds) (processors mids) k m.cpu there (looked_same (processors olds) (processors mids) (sent_looked k (processors olds) (processors mids) sees)) c.requires.whole.each in
    record { bank_is = o.bank_is; book_is = o.table_is }

pub turn_in_room-requires-clause-room : goal.turn_in_room-requires-clause-room
turn_in_room-requires-clause-room g c =
    let Body = g.row.B.Denot in
    let olds : List (Driven Body) = c.args.cpus.now in
    let k = c.args.number in
    let x = c.index-cpus-number.result in
    let d : Driven Body = get_or olds k x in
    let r : Driven Body = c.make_room.new.self in
    let at : slice_get olds k ≡ Some d = slice_get-get_or olds k x c.requires.there in
    let cpu : r.cpu ≡ d.cpu = ap (λ (y : Driven Body). y.cpu) c.make_room.ensures.rest in
    let same : processors (set olds k r) ≡ processors olds = processors_put olds k d r at cpu in
    let mids : List (Driven Body) = c.see_sent.new.cpus in
    let y = c.index-cpus-number-2.result in
    let m : Driven Body = get_or mids k y in
    let less : k < length mids = omega (arith, c.see_sent.ensures.as_many, length-set olds k r, c.requires.there) in
    let here : slice_get mids k ≡ Some m = slice_get-get_or mids k y less in
    let there = processor_at mids k m here in
    let S : List (Processor Body) → Type 0 = λ xs. SeesSent k xs (processors mids) in
    let sees : SeesSent k (processors olds) (processors mids) = subst S same c.see_sent.ensures.sees in
    let log : KeepsLog r m = zip_there KeepsLog (set olds k r) mids c.see_sent.ensures.logs k r m (get_set_same olds k r c.requires.there) here in
    let room : HasTurnRoom r = c.in_ok-make_room.ensures.room in
    let F : Driven Body → Type 0 = λ z. HasTurnRoom z in
    subst F (sym log) (record { none = room.none; room = room.room; trace = room.trace })

pub returns-clause-ok : goal.returns-clause-ok
returns-clause-ok g c =
    let Body = g.row.B.Denot in
    let olds : List (Driven Body) = c.args.cpus.now in
    let k = c.args.number in
    let x = c.index-cpus-number.result in
    let d : Driven Body = get_or olds k x in
    let r : Driven Body = c.make_room.new.self in
    let at : slice_get olds k ≡ Some d = slice_get-get_or olds k x c.requires.there in
    let cpu : r.cpu ≡ d.cpu = ap (λ (y : Driven Body). y.cpu) c.make_room.ensures.rest in
    let same : processors (set olds k r) ≡ processors olds = processors_put olds k d r at cpu in
    let mids : List (Driven Body) = c.see_sent.new.cpus in
    let y = c.index-cpus-number-2.result in
    let m : Driven Body = get_or mids k y in
    let less : k < length mids = omega (arith, c.see_sent.ensures.as_many, length-set olds k r, c.requires.there) in
    let here : slice_get mids k ≡ Some m = slice_get-get_or mids k y less in
    let there = processor_at mids k m here in
    let S : List (Processor Body) → Type 0 = λ xs. SeesSent k xs (processors mids) in
    let sees : SeesSent k (processors olds) (processors mids) = subst S same c.see_sent.ensures.sees in
    let log : KeepsLog r m = zip_there KeepsLog (set olds k r) mids c.see_sent.ensures.logs k r m (get_set_same olds k r c.requires.there) here in
    let e : Driven Body = c.turn_in_room.new.self in
    let turned = c.turn_in_room.result in
    let made = c.turn_in_room.ensures.makes in
    record {
      room = made.room;
      part = made.part;
      none = made.none;
      makes = turned_at g.B.Body.polled g.B.Lasting.kept (cpus_of c.args.bank.now) (id_of c.args.bank.now) c.args.book.now olds (set mids k e) (processors mids) k m.cpu e.cpu made.room made.part turned c.requires.whole sees there made.does (processors_set mids k e);
      keeps = part_kept olds mids k d r m e made.part.items at (room_stays d r c.make_room.ensures.rest c.make_room.ensures.items c.make_room.ensures.capacity) c.see_sent.ensures.logs here made.grown c.turn_in_room.ensures.rest;
    }

pub returns-clause-whole : goal.returns-clause-whole
returns-clause-whole g c =
    let Body = g.row.B.Denot in
    let olds : List (Driven Body) = c.args.cpus.now in
    let k = c.args.number in
    let x = c.index-cpus-number.result in
    let d : Driven Body = get_or olds k x in
    let r : Driven Body = c.make_room.new.self in
    let at : slice_get olds k ≡ Some d = slice_get-get_or olds k x c.requires.there in
    let cpu : r.cpu ≡ d.cpu = ap (λ (y : Driven Body). y.cpu) c.make_room.ensures.rest in
    let same : processors (set olds k r) ≡ processors olds = processors_put olds k d r at cpu in
    let mids : List (Driven Body) = c.see_sent.new.cpus in
    let y = c.index-cpus-number-2.result in
    let m : Driven Body = get_or mids k y in
    let less : k < length mids = omega (arith, c.see_sent.ensures.as_many, length-set olds k r, c.requires.there) in
    let here : slice_get mids k ≡ Some m = slice_get-get_or mids k y less in
    let there = processor_at mids k m here in
    let S : List (Processor Body) → Type 0 = λ xs. SeesSent k xs (processors mids) in
    let sees : SeesSent k (processors olds) (processors mids) = subst S same c.see_sent.ensures.sees in
    let log : KeepsLog r m = zip_there KeepsLog (set olds k r) mids c.see_sent.ensures.logs k r m (get_set_same olds k r c.requires.there) here in
    let e : Driven Body = c.turn_in_room.new.self in
    let made = c.turn_in_room.ensures.makes in
    let F : List (Processor Body) → Type 0 = λ xs. AreOneMachine g.B.Lasting.kept (cpus_of c.args.bank.now) (id_of c.args.bank.now) c.args.book.now xs in
    subst F (sym (processors_set mids k e)) (turned_whole g.B.Body.polled g.B.Lasting.kept g.met.B.Lasting.keeps (cpus_of c.args.bank.now) (id_of c.args.bank.now) c.args.book.now (processors olds) (processors mids) k m.cpu e.cpu made.room made.part c.turn_in_room.result c.requires.whole sees there made.does)
