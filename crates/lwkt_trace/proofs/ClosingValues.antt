-- Closing values are read as they are written.
use Rattle.std.proofs.Common.{◌≡◌, ℕ, ◌+◌, ◌≤◌, ◌<◌, List, [], ◌∷◌, length, map, replicate, Bool, true, false, Option, Some, None, Result, Ok, All, refl, sym, ap, ap₂, arith, lt-ltb}
use Rattle.std.specs.Prelude.{unwrap_or, is_some, IfSome, codes, if◌then◌else◌}
use Rattle.std.specs.List.{list_any}
use Rattle.std.proofs.lemmas.Bool.{or_parts}
use Rattle.serde_json.specs.Data.{Data, array, object, member}
use Rattle.lwkt_base.specs.declared.owners.MsgEnd.{MsgEnd}
use Rattle.lwkt_report.specs.declared.closings.TokenLine.{TokenLine}
use Rattle.lwkt_script.specs.Outcome.{◌>>=◌, each}
use Rattle.lwkt_trace.specs.Format.{row_behind, tally, record_behind, closing_of_parts, closing_at, there}
use Rattle.lwkt_trace.specs.Written.{has_record}
use Rattle.lwkt_trace.specs.Readback.{items_as, ends_data, AreWritableEnds}
use Rattle.lwkt_trace.specs.Values.{row_data, generation_data, tallies_data, tally_data, last_blob_data, record_data, rows_members, HasGuard, IsGuard, ClosingIsReadBack}
use Rattle.lwkt_trace.specs.declared.traces.Closing.{Closing}
use Rattle.lwkt_trace.proofs.ListReads.{list_read, numbers_read, cells_read}
use Rattle.lwkt_trace.proofs.MessageLists.{ends_read_back}
use Rattle.lwkt_trace.proofs.TokenLists.{guard_read}

abbrev cells_of : TokenLine → List ℕ
cells_of line = line.cells

abbrev generation_of : TokenLine → ℕ
generation_of line = line.generation

abbrev tallies_of : TokenLine → List ℕ
tallies_of line = unwrap_or line.tallies []

abbrev blob_of : TokenLine → Option (List ℕ)
blob_of line = line.blob

abbrev IsAny : TokenLine → Type 0
IsAny line = Unit {0}

next_row : (before : List (List ℕ)) (line : TokenLine) → IsAny line → length before < 64 → row_behind before (row_data line) ≡ Ok (cells_of line)
next_row before line any room = rw (lt-ltb (length before) 64 room, cells_read (3000 + length before) line.cells) refl

tally_read : (before : List (List ℕ)) (tallies : Option (List ℕ)) → length before < 64 → tally before (tallies_data tallies) ≡ Ok (unwrap_or tallies [])
tally_read before None room = rw (lt-ltb (length before) 64 room) refl
tally_read before (Some tallies) room = rw (lt-ltb (length before) 64 room, cells_read (4000 + length before) tallies) refl

next_tally : (before : List (List ℕ)) (line : TokenLine) → IsAny line → length before < 64 → tally before (tally_data line) ≡ Ok (tallies_of line)
next_tally before line any room = tally_read before line.tallies room

record_read : (before : List (Option (List ℕ))) (record_of : Option (List ℕ)) → IfSome record_of IsGuard → length before < 64 → record_behind before (last_blob_data record_of) ≡ Ok record_of
record_read before None is room = rw (lt-ltb (length before) 64 room) refl
record_read before (Some bytes) is room = rw (lt-ltb (length before) 64 room, guard_read bytes is.0 is.1) refl

next_record : (before : List (Option (List ℕ))) (line : TokenLine) → HasGuard line → length before < 64 → record_behind before (record_data line) ≡ Ok (blob_of line)
next_record before line is room = record_read before line.blob is room

module _ (lines : List TokenLine) (few : length lines ≤ 64) where
  rows_are : each row_behind [] (items_as row_data lines) ≡ Ok (map cells_of lines)
  rows_are = list_read row_behind row_data cells_of IsAny 64 next_row [] lines (λ k d l. tt) (omega (arith, few))

  tallies_are : each tally [] (items_as tally_data lines) ≡ Ok (map tallies_of lines)
  tallies_are = list_read tally tally_data tallies_of IsAny 64 next_tally [] lines (λ k d l. tt) (omega (arith, few))

  records_are : All HasGuard lines → each record_behind [] (items_as record_data lines) ≡ Ok (map blob_of lines)
  records_are all = list_read record_behind record_data blob_of HasGuard 64 next_record [] lines all (omega (arith, few))

-- where no token has a record, the records are none of any
no_record : (o : Option (List ℕ)) → is_some o ≡ false → o ≡ None
no_record None h = refl
no_record (Some bytes) h = absurd (cc)

none_recorded : (lines : List TokenLine) → list_any has_record lines ≡ false → replicate (length (map cells_of lines)) None ≡ map blob_of lines
none_recorded [] h = refl
none_recorded (line ∷ lines) h =
    let both = or_parts (has_record line) (list_any has_record lines) h in
    ap₂ (λ (o : Option (List ℕ)) (os : List (Option (List ℕ))). o ∷ os) (sym (no_record line.blob both.0)) (none_recorded lines both.1)

-- the closing values, with the records or without them
abbrev pub closing_by : Bool → List TokenLine → List MsgEnd → Data
closing_by recorded lines ends =
    object (member (codes "gens") (array (items_as generation_data lines)) (member (codes "messages") (array (ends_data ends)) (if recorded then member (codes "records") (array (items_as record_data lines)) (rows_members lines) else rows_members lines)))

abbrev closing_with : List TokenLine → List MsgEnd → List (Option (List ℕ)) → Closing
closing_with lines ends blobs = record { rows = map cells_of lines; gens = map generation_of lines; tallies = map tallies_of lines; messages = ends; blobs = blobs }

closing_is : (recorded : Bool) (lines : List TokenLine) (ends : List MsgEnd) → list_any has_record lines ≡ recorded → length lines ≤ 64 → All HasGuard lines → length ends ≤ 64 → AreWritableEnds ends
    → closing_at (closing_by recorded lines ends) ≡ Ok (closing_with lines ends (map blob_of lines))
unfolding closing_at closing_of_parts
closing_is true lines ends is few all few_ends writable =
    rw (rows_are lines few, numbers_read 5 generation_of [] lines, tallies_are lines few, ends_read_back ends writable few_ends, records_are lines few all) refl
closing_is false lines ends is few all few_ends writable =
    rw (rows_are lines few, numbers_read 5 generation_of [] lines, tallies_are lines few, ends_read_back ends writable few_ends)
    (ap (λ (blobs : List (Option (List ℕ))). Ok (closing_with lines ends blobs)) (none_recorded lines is))

pub closing_read_back : ClosingIsReadBack
closing_read_back c is =
    ap (λ (r : Result Closing ℕ). r >>= there) (closing_is (list_any has_record c.tokens.items) c.tokens.items c.messages.items refl is.few_tokens is.records is.few_messages is.messages)
