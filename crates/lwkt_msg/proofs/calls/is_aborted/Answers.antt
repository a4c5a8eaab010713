use Rattle.std.proofs.Common.{refl}
use Rattle.lwkt_msg.proofs.Moves.{never}
use Rattle.lwkt_msg.proofs.Calling.{unreplied}
use Rattle.lwkt_msg.proofs.Withdrawing.{request_read}
use Rattle.lwkt_msg.proofs.calls.is_aborted.Goals as goal

pub returns-then-not-is_taken-clause-sat : goal.returns-then-not-is_taken-clause-sat
returns-then-not-is_taken-clause-sat c = c.parts.ensures.sat c.args.cpu c.requires.sat

pub returns-then-not-is_taken-clause-answer : goal.returns-then-not-is_taken-clause-answer
returns-then-not-is_taken-clause-answer c = unreplied c.args.place.now c.parts.new.place c.args.cpu c.args.m c.parts.result.1 c.requires.sat c.parts.ensures.looked (λ h. never (c.if-not-is_taken.ensures.1 h))

pub returns-clause-sat : goal.returns-clause-sat
returns-clause-sat c = c.parts.ensures.sat c.args.cpu c.requires.sat

pub returns-clause-answer : goal.returns-clause-answer
returns-clause-answer c = request_read c.args.place.now c.parts.new.place c.args.cpu c.args.m c.parts.result.1 c.requires.sat c.parts.ensures.looked (c.if-not-is_taken.ensures.0 refl)
