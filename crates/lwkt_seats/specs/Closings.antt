-- The closing values of tokens, as C gets them (own).
use Rattle.std.specs.Prelude.{◌≡◌, ℕ, ◌-◌, ◌<◌, ◌≤◌, List, [], ◌++◌, length, replicate, None, Some, slice_get, slice_index, slice_index_or}
use Rattle.lwkt_base.specs.declared.limits.TheConstants.{CELL_LIMIT, CPU_LIMIT, RECORD_LIMIT}
use Rattle.lwkt_bank.specs.declared.closed.Closed.{Closed}
use Rattle.lwkt_bank.specs.Views.{RecordOf}
use Rattle.lwkt_seats.specs.declared.closings.LwktClosing.{LwktClosing}

-- values with as many of 0 behind them as there is room for
abbrev pub zero_padded : ℕ → List ℕ → List ℕ
zero_padded room values = values ++ replicate (room - length values) 0

-- the bytes of a record, and how many records it is
abbrev pub bytes_in : RecordOf → List ℕ
bytes_in None = []
bytes_in (Some bytes) = bytes

abbrev pub count_in : RecordOf → ℕ
count_in None = 0
count_in (Some bytes) = 1

-- what a token came to at a close: cells, tallies and record are put with their numbers
abbrev pub closing_of : Closed → ℕ → LwktClosing
closing_of closed tok = record {
  row = zero_padded CELL_LIMIT (slice_index_or closed.rows.items tok []);
  generation = slice_index closed.gens.items tok;
  tallies = zero_padded CPU_LIMIT (slice_index_or closed.tallies.items tok []);
  cells = length (slice_index_or closed.rows.items tok []);
  seats = length (slice_index_or closed.tallies.items tok []);
  bytes = zero_padded RECORD_LIMIT (bytes_in (slice_index_or closed.blobs.items tok None));
  length = length (bytes_in (slice_index_or closed.blobs.items tok None));
  records = count_in (slice_index_or closed.blobs.items tok None);
}

-- each token's place gets what it came to, and every other place stays as it was
pub record PutsClosings (closed : Closed) (before after : List LwktClosing) : Type 0 where
  pub as_many : length after ≡ length before
  pub put : (tok : ℕ) → tok < length closed.gens.items → slice_get after tok ≡ Some (closing_of closed tok)
  pub kept : (place : ℕ) → length closed.gens.items ≤ place → slice_get after place ≡ slice_get before place
