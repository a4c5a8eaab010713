-- The fields of a script's parts, in the values of the JSON reader.
use Rattle.std.specs.Prelude.{ℕ, ◌==◌, ◌&&◌, nat_le, List, Bool, false, if◌then◌else◌, Option, Some, None, option_map, option_and_then, unwrap_or}
use Rattle.serde_json.specs.Data.{Data, Items}
use Rattle.serde_json.specs.Events.{items_len, members_len}
use Rattle.serde_json.specs.Find.{get, as_array, as_object, as_number, as_u64}

-- an object with so many members
abbrev pub has_members : ℕ → Data → Bool
has_members count d = unwrap_or (option_map (λ ms. members_len ms == count) (as_object d)) false

-- how many items a list has
abbrev pub item_count : Data → Option ℕ
item_count d = option_map items_len (as_array d)

-- whether a value is a list of so many items
abbrev pub has_items : ℕ → Data → Bool
has_items count d = unwrap_or (option_map (λ n. n == count) (item_count d)) false

-- a whole number of 64 bits, written without a fraction or an exponent
abbrev pub whole : Data → Option ℕ
whole d = option_and_then as_u64 (as_number d)

-- n, if it is within the limits
abbrev pub within : ℕ → ℕ → ℕ → Option ℕ
within low high n = if nat_le low n && nat_le n high then Some n else None

-- a whole number within limits
abbrev pub number : ℕ → ℕ → Data → Option ℕ
number low high d = option_and_then (within low high) (whole d)

-- the member of a name, a whole number within limits
abbrev pub number_in : List ℕ → ℕ → ℕ → Data → Option ℕ
number_in name low high d = option_and_then (number low high) (get name d)

-- the member of a name, a list
abbrev pub list_in : List ℕ → Data → Option Items
list_in name d = option_and_then as_array (get name d)
