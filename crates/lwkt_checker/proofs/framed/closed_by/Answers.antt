use Rattle.lwkt_checker.proofs.framed.closed_by.Goals as goal

pub returns-in_ok-and_last-in-Some : goal.returns-in_ok-and_last-in-Some
returns-in_ok-and_last-in-Some c = (c.in-Some.fed, (c.in-Some.is, c.in_ok-and_last-in-Some.ensures))
