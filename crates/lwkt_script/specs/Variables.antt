-- The members that only a thread of version 3 has (own): what its variables hold first, and whether it serves others.
use Rattle.std.specs.Prelude.{ℕ, ◌+◌, nat_le, List, replicate, slice_set, Bool, false, codes, if◌then◌else◌, Option, Some, None}
use Rattle.serde_json.specs.Data.{Data, Items, no_items, item}
use Rattle.serde_json.specs.Events.{items_len}
use Rattle.serde_json.specs.Find.{get, as_array, as_bool}
use Rattle.lwkt_script.specs.declared.versions.Version.{Version}
use Rattle.lwkt_script.specs.declared.versions.Version.TheVariants.{First, Second, Third}
use Rattle.lwkt_script.specs.Field.{whole}
use Rattle.lwkt_script.specs.Formulas.{◌>>=◌}

-- numbers put into variables one after another, from variable i on
abbrev pub vars_from : ℕ → List ℕ → Items → Option (List ℕ)
vars_from i vars no_items = Some vars
vars_from i vars (item d ds) = whole d >>= λ n. vars_from (i + 1) (slice_set vars i n) ds

-- the first variables by a list of at most 8 numbers; the others hold 0
abbrev pub listed_vars : Items → Option (List ℕ)
listed_vars ds = if nat_le (items_len ds) 8 then vars_from 0 (replicate 8 0) ds else None

-- what the variables of a thread hold first: before version 3 each holds 0
abbrev pub vars_in : Version → Data → Option (List ℕ)
vars_in First d = Some (replicate 8 0)
vars_in Second d = Some (replicate 8 0)
vars_in Third d = (get (codes "vars") d >>= as_array) >>= listed_vars

-- whether a thread serves others: before version 3 none does
abbrev pub service_in : Version → Data → Option Bool
service_in First d = Some false
service_in Second d = Some false
service_in Third d = get (codes "service") d >>= as_bool
