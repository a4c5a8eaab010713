use Rattle.std.proofs.Common.{arith}
use Rattle.lwkt_bank.specs.Seats.{id_of}
use Rattle.lwkt_hold.specs.Misses.{exclusive}
use Rattle.lwkt_hold.specs.Outcomes.{IsMissed}
use Rattle.lwkt_cpu.proofs.AskMoves.{ran_right, tried_holds, there_tried}
use Rattle.lwkt_cpu.proofs.calls.try_get.Goals as goal

pub returns-clause-ran : goal.returns-clause-ran
returns-clause-ran c = let t = c.try_get-came in ran_right c.args.list.now t.new.list 1 c.args.hold.now.seat t.new.self.seat c.args.trace.now t.new.trace (omega arith) t.ensures.ran

pub returns-clause-held : goal.returns-clause-held
returns-clause-held c = let t = c.try_get-came in tried_holds c.args.list.now t.new.list (exclusive c.args.tok) c.args.hold.now.seat t.new.self.seat c.args.trace.now t.new.trace t.result c.requires.held t.ensures.ok t.ensures.err

pub returns-clause-there : goal.returns-clause-there
returns-clause-there c =
    let t = c.try_get-came in
    let new = exclusive c.args.tok in
    there_tried (id_of c.args.bank.now) c.args.list.now t.new.list new c.args.hold.now.seat t.new.self.seat c.args.trace.now t.new.trace (IsMissed c.args.list.now new c.args.hold.now.seat t.new.self.seat) t.result c.requires.of_bank t.ensures.refused t.ensures.ok t.ensures.err
