use Rattle.std.proofs.Common.{◌≡◌, ◌≢◌, ℕ, ◌+◌, true, false}
use Rattle.lwkt_base.specs.Holding.{references_in, is_held}
use Rattle.lwkt_bank.specs.Seats.{entry, holding}
use Rattle.lwkt_seats.specs.Asks.{ObeysItsLaw}
use Rattle.lwkt_seats.specs.Cells.{IsMine}
use Rattle.lwkt_seats.specs.Lists.{EndsEach, BreaksLaw}
use Rattle.lwkt_seats.specs.Brief.{KeepsBankAndCpu}
use Rattle.lwkt_seats.proofs.BlockMoves.{IsSameSection}
use Rattle.lwkt_seats.proofs.blocks.give_up.Given as goal

abbrev pub invariant-loop-given : goal.invariant-loop-given
invariant-loop-given l = record {
  each : EndsEach l.initial.seat l.seat;
  left : references_in (holding l.seat l.tok.0) + l._given ≡ references_in (holding l.initial.seat l.tok.0);
  kept : is_held (holding l.seat l.tok.0) ≡ true → IsSameSection l.initial.seat l.seat l.tok.0;
  broken : l.restored ≡ true → BreaksLaw l.initial.seat l.tok.0;
  lawful : l.restored ≡ false → is_held (holding l.seat l.tok.0) ≡ false → IsMine l.initial.seat l.tok.0 → ObeysItsLaw l.initial.seat l.tok.0;
  others : (other : ℕ) → other ≢ l.tok.0 → entry l.seat other ≡ entry l.initial.seat other;
  same : KeepsBankAndCpu l.initial.seat l.seat;
}
