use Rattle.std.proofs.Common.{inl}
use Rattle.lwkt_seats.proofs.ListMoves.{gave_unwritten}
use Rattle.lwkt_seats.proofs.resumes.give_one.Goals as goal

pub give-requires-clause-lawful : goal.give-requires-clause-lawful
give-requires-clause-lawful c = λ last. inl (c.requires.clean c.args.tok.0 c.requires.held)

pub returns-clause-gives : goal.returns-clause-gives
returns-clause-gives c = gave_unwritten c.args.seat.now c.give.new.self c.args.tok.0 c.give.result (c.requires.clean c.args.tok.0 c.requires.held) c.give.ensures
