use Rattle.std.specs.Prelude.{◌≡◌, Ok}
use Rattle.lwkt_trace.specs.Format.{trace_of}
use Rattle.lwkt_trace.specs.declared.traces.Trace.{Trace}
use Rattle.lwkt_checker.specs.Knows.{Knows}
use Rattle.lwkt_checker.specs.declared.judges.Judge.{Judge}
use Rattle.lwkt_checker.proofs.Framing.{at_some, refuses}
use Rattle.lwkt_checker.proofs.framed.found_written.Goals as goal

pub returns-in-Err-finding-clause-refused : goal.returns-in-Err-finding-clause-refused
returns-in-Err-finding-clause-refused c =
    let Reads : Judge → Type 0 = λ j. (t : Trace) × ((trace_of c.args.bytes.now ≡ Ok t) × Knows t j) in
    refuses c.args.bytes.now c.in-Ok-Some.judge c.in-Err-finding.fault (at_some Reads c.in-Ok-Some.field-0 c.in-Ok-Some.judge c.in-Ok-Some.field-0-is c.in-Ok-Some.ensures) c.in-Err-finding.ensures.refused
