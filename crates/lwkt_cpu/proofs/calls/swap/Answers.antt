use Rattle.lwkt_cpu.proofs.AskMoves.{there_swapped}
use Rattle.lwkt_cpu.proofs.calls.swap.Goals as goal

pub returns-clause-there : goal.returns-clause-there
returns-clause-there c = λ n. there_swapped n c.args.list.now c.swap-came.new.self c.swap-came.result c.swap-came.ensures.ok c.swap-came.ensures.err
