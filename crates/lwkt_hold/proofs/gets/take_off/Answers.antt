use Rattle.lwkt_hold.proofs.LastMoves.{popped}
use Rattle.lwkt_hold.proofs.gets.take_off.Goals as goal

pub returns : goal.returns
returns c = λ front is. popped c.args.list.now c.pop.new.self c.args.new c.pop.result front is c.pop.ensures.ok c.pop.ensures.not_held c.pop.ensures.not_last c.pop.ensures.only
