use Rattle.lwkt_seats.proofs.OpeningMoves.{within_of_each, each_of_within}
use Rattle.lwkt_seats.proofs.bank_opens.are_within.Goals as goal

pub returns-then-are_few : goal.returns-then-are_few
returns-then-are_few c = (
  (λ yes. within_of_each c.args.seats c.args.tokens.now (c.are_few.ensures.0 c.if-are_few.true) (c.each_is_within.ensures.0 yes)),
  (λ within. c.each_is_within.ensures.1 (each_of_within c.args.seats c.args.tokens.now within)),
)
