use Rattle.std.proofs.Common.{ℕ, length, ap, sym, subst}
use Rattle.std.specs.Prelude.{Option, Err, IsSomeAnd}
use Rattle.lwkt_seats.specs.declared.desks.Desk.{Desk}
use Rattle.lwkt_seats.specs.Closes.{SomeHolds, IsWide, ClosesDesk}
use Rattle.lwkt_seats.proofs.CloseMoves.{refuses}
use Rattle.lwkt_seats.proofs.close_calls.lwkt_bank_close.Goals as goal

pub returns-in-Ok-clause-closed : goal.returns-in-Ok-clause-closed
returns-in-Ok-clause-closed c = λ is.
    let room = length c.args.closings.now in
    let F : Option Desk → Type 0 = λ bank. IsSomeAnd bank (λ desk. ClosesDesk desk room c.in-Ok.closed) in
    (c.in-Ok.closed, (subst F (sym c.in-Some.ensures) c.in-Ok.ensures.ok, c.put_closings.ensures))

pub returns-in-Err-clause-closed : goal.returns-in-Err-clause-closed
returns-in-Err-clause-closed c = λ is. absurd (refuses c.in-Err.answer c.in-Err.ensures.only is)

pub returns-in-Err-clause-holds : goal.returns-in-Err-clause-holds
returns-in-Err-clause-holds c = λ is.
    let F : Option Desk → Type 0 = λ bank. IsSomeAnd bank (λ desk. SomeHolds desk) in
    subst F (sym c.in-Some.ensures) (c.in-Err.ensures.holds (ap (λ (n : ℕ). Err n) is))

pub returns-in-Err-clause-wide : goal.returns-in-Err-clause-wide
returns-in-Err-clause-wide c = λ is.
    let room = length c.args.closings.now in
    let F : Option Desk → Type 0 = λ bank. IsSomeAnd bank (λ desk. IsWide desk room) in
    subst F (sym c.in-Some.ensures) (c.in-Err.ensures.short (ap (λ (n : ℕ). Err n) is))
