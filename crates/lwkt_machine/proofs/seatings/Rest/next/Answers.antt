use Rattle.std.proofs.Common.{◌≡◌, ◌<◌, ◌∙◌, length, refl, arith}
use Rattle.std.proofs.lemmas.Option.{slice_get_read}
use Rattle.std.proofs.lemmas.Result.{IfOk-weaker}
use Rattle.lwkt_bank.specs.Seats.{id_of}
use Rattle.lwkt_cpu.specs.Wiring.{HasLines}
use Rattle.lwkt_machine.proofs.SeatMoves.{first_seat, first_desk, first_within, left_first, rest_more}
use Rattle.lwkt_machine.proofs.seatings.Rest.next.Goals as goal

pub open_ports-requires-clause-mail : goal.open_ports-requires-clause-mail
open_ports-requires-clause-mail g c =
    let some : 0 < length c.args.self.now.mails.items = omega (arith, c.requires.some, c.requires.rest.mails_are) in
    first_desk c.args.book.now c.args.number c.args.self.now.mails.items c.remove-mail.result some c.remove-mail.ensures.value c.requires.rest.desks

pub open_ports-requires-clause-within : goal.open_ports-requires-clause-within
open_ports-requires-clause-within g c =
    first_within (id_of c.args.bank.now) c.args.book.now c.args.number c.args.self.now c.remove-mail.result c.remove-outs.result c.remove-ins.result c.args.origins.now c.len.result c.requires.some (open_ports-requires-clause-mail g c) c.remove-outs.ensures.value c.remove-ins.ensures.value c.requires.origins (omega (arith, c.requires.few, c.len.ensures, c.args.bodies.ok)) c.requires.rest

pub seat_one-requires-clause-seat : goal.seat_one-requires-clause-seat
seat_one-requires-clause-seat g c = first_seat (id_of c.args.bank.now) c.args.number c.args.self.now.seats.items c.remove-seat.result c.requires.some c.remove-seat.ensures.value c.requires.rest.seats

pub returns-in_err-ports-clause-rest : goal.returns-in_err-ports-clause-rest
returns-in_err-ports-clause-rest g c = rest_more (id_of c.args.bank.now) c.args.book.now c.args.number c.args.self.now (record { seats = c.remove-seat.new.self; mails = c.remove-mail.new.self; outs = c.remove-outs.new.self; ins = c.remove-ins.new.self }) c.requires.some c.remove-seat.ensures.items c.remove-mail.ensures.items c.remove-outs.ensures.items c.remove-ins.ensures.items c.requires.rest

pub returns-clause-rest : goal.returns-clause-rest
returns-clause-rest g c = rest_more (id_of c.args.bank.now) c.args.book.now c.args.number c.args.self.now (record { seats = c.remove-seat.new.self; mails = c.remove-mail.new.self; outs = c.remove-outs.new.self; ins = c.remove-ins.new.self }) c.requires.some c.remove-seat.ensures.items c.remove-mail.ensures.items c.remove-outs.ensures.items c.remove-ins.ensures.items c.requires.rest

pub returns-in_err-ports-clause-left : goal.returns-in_err-ports-clause-left
returns-in_err-ports-clause-left g c = left_first c.args.self.now (record { seats = c.remove-seat.new.self; mails = c.remove-mail.new.self; outs = c.remove-outs.new.self; ins = c.remove-ins.new.self }) c.remove-outs.ensures.items c.remove-ins.ensures.items

pub returns-clause-left : goal.returns-clause-left
returns-clause-left g c = left_first c.args.self.now (record { seats = c.remove-seat.new.self; mails = c.remove-mail.new.self; outs = c.remove-outs.new.self; ins = c.remove-ins.new.self }) c.remove-outs.ensures.items c.remove-ins.ensures.items

pub returns-clause-lines : goal.returns-clause-lines
returns-clause-lines g c =
    let outs = c.args.self.now.outs.items in
    let ins = c.args.self.now.ins.items in
    let some_out : 0 < length outs = omega (arith, c.requires.some, c.requires.rest.outs_are) in
    let some_in : 0 < length ins = omega (arith, c.requires.some, c.requires.rest.ins_are) in
    IfOk-weaker c.seat_one.result (λ cpu. cpu.post.lanes ≡ c.in_ok-ports.ports.lanes) (λ cpu. HasLines outs ins 0 cpu) (λ cpu same. record {
      out = c.remove-outs.result;
      into = c.remove-ins.result;
      out_at = slice_get_read outs (length outs) 0 c.remove-outs.result refl some_out c.remove-outs.ensures.value;
      in_at = slice_get_read ins (length ins) 0 c.remove-ins.result refl some_in c.remove-ins.ensures.value;
      lines = same ∙ c.in_ok-ports.ensures.lines;
    }) c.seat_one.ensures.lines
