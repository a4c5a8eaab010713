use Rattle.lwkt_seats.proofs.resumes.take_all.Goals as goal

pub returns-in-Err-clause-none : goal.returns-in-Err-clause-none
returns-in-Err-clause-none c = (c.take_each.new.seat, (c.in-Err.ensures.missed, c.give_front.ensures.gives))
