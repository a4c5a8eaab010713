use Rattle.std.proofs.Common.{◌≡◌, ap, sym, ◌∙◌, arith}
use Rattle.lwkt_bank.specs.Seats.{BankId, bank_of, tokens_of}
use Rattle.lwkt_seats.proofs.QuietMoves.{given_quietly}
use Rattle.lwkt_seats.proofs.asks.give_quietly.Goals as goal

pub returns-clause-gives : goal.returns-clause-gives
returns-clause-gives c = λ yes.
    let many : c.tokens.result ≡ tokens_of (bank_of c.args.seat.now) = c.tokens.ensures.is ∙ ap (λ (b : BankId). tokens_of b) (sym c.requires.of) in
    let below = c.if-token-tokens.false in
    given_quietly c.args.token c.args.seat.now c.give_quietly.new.self (omega (arith, many, below)) (c.give_quietly.ensures.nothing yes) (c.give_quietly.ensures.lawful yes) (c.give_quietly.ensures.gave yes)
