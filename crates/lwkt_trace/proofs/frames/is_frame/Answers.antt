use Rattle.std.proofs.Common.{rules}
use Rattle.lwkt_trace.proofs.FramedTexts.{framed_so}
use Rattle.lwkt_trace.proofs.frames.is_frame.Goals as goal

pub returns-then-branch : goal.returns-then-branch
returns-then-branch c =
    framed_so c.is_back.result c.args.front.now c.args.back.now c.args.trace.now (search rules) c.words_of_opening.ensures.cpus c.words_of_opening.ensures.tokens c.words_of_opening.ensures.messages c.is_back.ensures
