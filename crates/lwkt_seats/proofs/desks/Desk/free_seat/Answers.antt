use Rattle.std.proofs.Common.{ap, ◌∙◌}
use Rattle.lwkt_bank.specs.Seats.{holding}
use Rattle.lwkt_seats.specs.declared.sitters.Sitter.{Sitter}
use Rattle.lwkt_seats.proofs.CloseMoves.{holds_there}
use Rattle.lwkt_seats.proofs.desks.Desk.free_seat.Goals as goal

pub returns-clause-holds : goal.returns-clause-holds
returns-clause-holds c = λ is.
    let same = ap (λ (s : Sitter). holding s.seat) c.deref.ensures in
    holds_there c.args.self.now c.args.number c.lift-taken.result c.lift-taken.ensures (λ idle. c.is_idle.ensures.no c.if-is_idle.false (same ∙ idle))
