use Rattle.std.proofs.Common.{◌<◌, subst}
use Rattle.lwkt_bank.specs.Seats.{BankId, tokens_of}
use Rattle.lwkt_hold.proofs.gives.give.Goals as goal

pub cells-requires : goal.cells-requires
cells-requires c = let F : BankId → Type 0 = λ b. c.args.tok.0 < tokens_of b in subst F c.requires.of (c.cpu-cpu.ensures.within c.args.tok.0 c.requires.held)
