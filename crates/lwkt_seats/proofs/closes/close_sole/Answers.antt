use Rattle.std.proofs.Common.{◌≡◌, ℕ, sym, refl, subst}
use Rattle.std.specs.Prelude.{Option, Result, Ok, Err, MatchOption}
use Rattle.lwkt_bank.specs.declared.banks.Bank.{Bank}
use Rattle.lwkt_bank.specs.declared.closed.Closed.{Closed}
use Rattle.lwkt_bank.specs.Seats.{id_of, cpus_of}
use Rattle.lwkt_bank.specs.Gathered.{IsClosed}
use Rattle.lwkt_seats.proofs.closes.close_sole.Goals as goal

pub returns-in-Some : goal.returns-in-Some
returns-in-Some c =
    let came : Result Closed ℕ = Ok c.close_in.result in
    let F : Option Bank → Type 0 = λ sole. MatchOption sole (came ≡ Err 53) (λ bank. (closed : Closed) × ((came ≡ Ok closed) × IsClosed (id_of bank) (cpus_of bank) c.args.seats.items closed)) in
    subst F (sym c.in-Some.is) (c.close_in.result, (refl, c.close_in.ensures))
