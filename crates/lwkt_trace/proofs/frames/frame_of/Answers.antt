use Rattle.std.proofs.Common.{rules}
use Rattle.lwkt_trace.proofs.FramedTexts.{kept_so}
use Rattle.lwkt_trace.proofs.frames.frame_of.Goals as goal

pub returns-in-Ok : goal.returns-in-Ok
returns-in-Ok c = kept_so c.trace_if.result c.in-Some.trace c.in-Ok.framed c.args.front.now c.args.back.now c.trace_if.ensures c.in-Ok.ensures (search rules)
