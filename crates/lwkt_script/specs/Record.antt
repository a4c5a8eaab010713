-- The records that tokens guard, as they are written (own).
use Rattle.std.specs.Prelude.{ℕ, ◌+◌, ◌-◌, ◌*◌, ◌&&◌, nat_le, List, [], ◌∷◌, ◌++◌, length, Bool, true, not, is_some, codes, if◌then◌else◌, Option, Some, None, option_map, option_and_then}
use Rattle.serde_json.specs.Data.{Data}
use Rattle.serde_json.specs.Find.{get, as_null, as_str}
use Rattle.lwkt_base.specs.Blob.{kept_of}
use Rattle.lwkt_base.specs.declared.laws.Law.{Law}
use Rattle.lwkt_base.specs.declared.laws.Law.TheVariants.{Any, Sum, Order, Cap, Tally, Len}
use Rattle.lwkt_base.specs.declared.limits.TheConstants.{RECORD_LIMIT}
use Rattle.lwkt_script.specs.declared.versions.Version.{Version}
use Rattle.lwkt_script.specs.declared.versions.Version.TheVariants.{First, Second, Third}

-- the value of a hexadecimal digit, of which letters are small
abbrev pub digit_of : ℕ → Option ℕ
digit_of c = if nat_le 48 c && nat_le c 57 then Some (c - 48) else (if nat_le 97 c && nat_le c 102 then Some (c - 87) else None)

-- a byte by its two digits
abbrev pub byte_of : ℕ → ℕ → Option ℕ
byte_of a b = option_and_then (λ high. option_map (λ low. 16 * high + low) (digit_of b)) (digit_of a)

-- the bytes of a text, behind those before them: two digits for each
abbrev pub bytes_behind : List ℕ → List ℕ → Option (List ℕ)
bytes_behind before [] = Some before
bytes_behind before (a ∷ []) = None
bytes_behind before (a ∷ b ∷ digits) = option_and_then (λ byte. bytes_behind (before ++ byte ∷ []) digits) (byte_of a b)

-- a record of at most so many bytes, as it is written
abbrev pub blob_of : ℕ → List ℕ → Option (List ℕ)
blob_of most text = if nat_le (length text) (2 * most) then option_map kept_of (bytes_behind [] text) else None

-- a record of at most so many bytes
abbrev pub blob_in : ℕ → Data → Option (List ℕ)
blob_in most d = option_and_then (blob_of most) (as_str d)

-- a record of at most 64 bytes, or null for none
abbrev pub guard_in : Data → Option (Option (List ℕ))
guard_in d = if is_some (as_null d) then Some None else option_map Some (blob_in RECORD_LIMIT d)

-- what a token of a version says of its record: in the first nothing
abbrev pub record_in : Version → Data → Option (Option (List ℕ))
record_in First d = Some None
record_in Second d = option_and_then guard_in (get (codes "record") d)
record_in Third d = option_and_then guard_in (get (codes "record") d)

-- whether a token under this law may have a record, or none: under Len it has one, under Tally none
abbrev pub may_guard : Law → Option (List ℕ) → Bool
may_guard Len blob = is_some blob
may_guard Tally blob = not (is_some blob)
may_guard Any blob = true
may_guard Sum blob = true
may_guard Order blob = true
may_guard Cap blob = true
