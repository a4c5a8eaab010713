use Rattle.lwkt_hold.proofs.ReadMoves.{ran_still}
use Rattle.lwkt_cpu.specs.Searches.{IsOfOne}
use Rattle.lwkt_cpu.proofs.WakeMoves.{post_none}
use Rattle.lwkt_cpu.proofs.cpus.Cpu.halt_running.Goals as goal

pub returns-in-None-clause-ran : goal.returns-in-None-clause-ran
returns-in-None-clause-ran g c = ran_still (IsOfOne c.args.self.now.threads) 194 c.args.self.now.seat c.args.trace.now

pub returns-in-None-clause-same : goal.returns-in-None-clause-same
returns-in-None-clause-same g c = post_none c.args.self.now.post
