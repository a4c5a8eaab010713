use Rattle.std.proofs.Common.{refl}
use Rattle.lwkt_msg.proofs.Moves.{never}
use Rattle.lwkt_msg.proofs.Calling.{unreplied, reply_ready, reply_held, reply_done}
use Rattle.lwkt_msg.proofs.calls.reply.Goals as goal

pub returns-then-not-is_taken-clause-sat : goal.returns-then-not-is_taken-clause-sat
returns-then-not-is_taken-clause-sat c = c.parts.ensures.sat c.args.cpu c.requires.sat

pub returns-then-not-is_taken-clause-answer : goal.returns-then-not-is_taken-clause-answer
returns-then-not-is_taken-clause-answer c =
    unreplied c.args.place.now c.parts.new.place c.args.cpu c.args.m c.parts.result.1 c.requires.sat c.parts.ensures.looked (λ h. never (c.if-not-is_taken.ensures.1 h))

pub answer-requires-clause-sat : goal.answer-requires-clause-sat
answer-requires-clause-sat c = c.parts.ensures.sat c.args.cpu c.requires.sat

pub answer-requires-clause-taken : goal.answer-requires-clause-taken
answer-requires-clause-taken c = reply_ready c.args.place.now c.parts.new.place c.args.cpu c.args.m c.parts.result.1 c.requires.sat c.parts.ensures.looked (c.if-not-is_taken.ensures.0 refl)

pub answer-requires-clause-held : goal.answer-requires-clause-held
answer-requires-clause-held c = reply_held c.args.place.now c.parts.new.place c.args.cpu c.args.m c.parts.result.1 c.requires.sat c.parts.ensures.looked c.requires.exists (c.if-not-is_taken.ensures.0 refl)

pub returns-clause-answer : goal.returns-clause-answer
returns-clause-answer c =
    reply_done c.args.place.now c.parts.new.place c.args.cpu c.args.m c.parts.result.1 c.requires.sat c.parts.ensures.looked c.args.error c.args.outcome c.answer.ensures.view.0 c.answer.new.place.me.0 (c.if-not-is_taken.ensures.0 refl) c.answer.ensures.view.1
