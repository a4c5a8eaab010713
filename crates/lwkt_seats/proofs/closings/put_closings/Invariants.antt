use Rattle.std.proofs.Common.{◌≡◌, ℕ, ◌<◌, ◌≤◌, length}
use Rattle.std.specs.Prelude.{slice_get, Some}
use Rattle.lwkt_seats.specs.Closings.{closing_of}
use Rattle.lwkt_seats.proofs.closings.put_closings.Given as goal

abbrev pub invariant-loop-tok : goal.invariant-loop-tok
invariant-loop-tok l = record {
  as_many : length l.closings ≡ length l.initial.closings;
  put : (tok : ℕ) → tok < l.tok → slice_get l.closings tok ≡ Some (closing_of l.closed tok);
  kept : (place : ℕ) → l.tok ≤ place → slice_get l.closings place ≡ slice_get l.initial.closings place;
}
