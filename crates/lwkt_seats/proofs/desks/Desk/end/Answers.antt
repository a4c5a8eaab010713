use Rattle.std.proofs.Common.{◌≤◌, ap, sym, ◌∙◌, subst}
use Rattle.std.specs.Prelude.{IfOk, All}
use Rattle.lwkt_bank.specs.declared.banks.Bank.{Bank}
use Rattle.lwkt_bank.specs.Seats.{id_of, cpus_of, tokens_of}
use Rattle.lwkt_bank.specs.Closing.{IsReady}
use Rattle.lwkt_bank.specs.Gathered.{IsClosed}
use Rattle.lwkt_seats.specs.Closes.{IsEndingWith}
use Rattle.lwkt_seats.proofs.CloseMoves.{all_ready, as_many, ended}
use Rattle.lwkt_seats.proofs.desks.Desk.end.Goals as goal

pub finish-closed-requires-clause-ready : goal.finish-closed-requires-clause-ready
finish-closed-requires-clause-ready c =
    let desk = c.args.self.now in
    let e = c.into_inner-bank.result in
    let whole : IsEndingWith desk e = subst (IsEndingWith desk) (sym c.into_inner-bank.ensures) c.requires.ending in
    let F : Bank → Type 0 = λ b. All (IsReady (id_of b)) c.seats_of.result.items in
    subst F (sym whole.is_bank) (all_ready desk e.sitters.items whole.free c.seats_of.result.items c.seats_of.ensures)

pub finish-closed-requires-clause-all : goal.finish-closed-requires-clause-all
finish-closed-requires-clause-all c =
    let desk = c.args.self.now in
    let e = c.into_inner-bank.result in
    let whole : IsEndingWith desk e = subst (IsEndingWith desk) (sym c.into_inner-bank.ensures) c.requires.ending in
    as_many desk e.sitters.items whole.free c.seats_of.result.items c.seats_of.ensures whole.all ∙ ap (λ (b : Bank). cpus_of b) (sym whole.is_bank)

pub returns-clause-ok : goal.returns-clause-ok
returns-clause-ok c =
    let desk = c.args.self.now in
    let e = c.into_inner-bank.result in
    let seats = c.seats_of.result.items in
    let came = c.finish-closed.result in
    let whole : IsEndingWith desk e = subst (IsEndingWith desk) (sym c.into_inner-bank.ensures) c.requires.ending in
    let fits = subst (λ (b : Bank). tokens_of (id_of b) ≤ c.args.places) c.requires.ending.is_bank c.requires.fits in
    let closed = subst (λ (b : Bank). IfOk came (λ closed. IsClosed (id_of b) (cpus_of b) seats closed)) whole.is_bank c.finish-closed.ensures.closed in
    ended desk e.sitters.items whole.free seats c.args.places came c.seats_of.ensures whole.all fits closed
