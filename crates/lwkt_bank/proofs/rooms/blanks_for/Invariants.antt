use Rattle.std.proofs.Common.{◌≡◌, length}
use Rattle.lwkt_bank.proofs.rooms.blanks_for.Given as goal

abbrev pub invariant-loop-token : goal.invariant-loop-token
invariant-loop-token l = length l.blanks.items ≡ l._token
