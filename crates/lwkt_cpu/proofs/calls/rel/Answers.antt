use Rattle.std.proofs.Common.{arith}
use Rattle.lwkt_bank.specs.Seats.{bank_of, tokens_of}
use Rattle.lwkt_cpu.proofs.AskMoves.{ran_left, there_released}
use Rattle.lwkt_cpu.proofs.calls.rel.Goals as goal

pub returns-clause-ran : goal.returns-clause-ran
returns-clause-ran c = let t = c.rel-came in ran_left c.args.list.now t.new.list 6 c.args.hold.now.seat t.new.self.seat c.args.trace.now t.new.trace (omega arith) t.ensures.ran

pub returns-clause-there : goal.returns-clause-there
returns-clause-there c = let t = c.rel-came in there_released (tokens_of (bank_of c.args.hold.now.seat)) c.args.hold.now t.new.self c.args.list.now t.new.list c.args.tok c.args.trace.now t.new.trace t.result t.ensures.ok t.ensures.err
