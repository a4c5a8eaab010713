use Rattle.std.proofs.Common.{◌≡◌, ◌⊎◌, ℕ, ◌<◌, ◌≤◌}
use Rattle.lwkt_base.specs.declared.holdings.Held.TheVariants.{Nothing}
use Rattle.lwkt_bank.specs.Seats.{bank_of, tokens_of, entry, holding}
use Rattle.lwkt_seats.specs.Lists.{EndsEach, IsFirstToBreak}
use Rattle.lwkt_seats.specs.Brief.{KeepsBankAndCpu}
use Rattle.lwkt_seats.proofs.blocks.block.Given as goal

abbrev pub invariant-loop-tok : goal.invariant-loop-tok
invariant-loop-tok l = record {
  each : EndsEach l.initial.seat l.seat;
  free : (tok : ℕ) → (tok < l.tok) ⊎ (tokens_of (bank_of l.initial.seat) ≤ tok) → holding l.seat tok ≡ Nothing;
  named : IsFirstToBreak l.initial.seat l.tok l.first;
  rest : (tok : ℕ) → l.tok ≤ tok → entry l.seat tok ≡ entry l.initial.seat tok;
  same : KeepsBankAndCpu l.initial.seat l.seat;
}
