use Rattle.std.proofs.Common.{◌≡◌, map, take}
use Rattle.lwkt_seats.specs.BankOpens.{spec_of}
use Rattle.lwkt_seats.proofs.bank_opens.specs_of.Given as goal

abbrev pub invariant-loop-token : goal.invariant-loop-token
invariant-loop-token l = l.specs.items ≡ map spec_of (take l.token-index l.tokens)
