use Rattle.std.proofs.Common.{◌≡◌, take}
use Rattle.std.specs.Prelude.{sum_by}
use Rattle.lwkt_bank.specs.Closing.{kept_tally}
use Rattle.lwkt_bank.proofs.closings.added.Given as goal

abbrev pub invariant-loop-one : goal.invariant-loop-one
invariant-loop-one l = l.sum ≡ sum_by (kept_tally l.tok l.cpu) (take l.one-index l.kept)
