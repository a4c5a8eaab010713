-- What the members of tokens and messages stand for.
use Rattle.std.specs.Prelude.{ℕ, ◌-◌, ◌==◌, ◌&&◌, nat_lt, nat_le, List, codes, Bool, bytes_eq, if◌then◌else◌, Option, Some, None, option_and_then}
use Rattle.serde_json.specs.Data.{Data}
use Rattle.serde_json.specs.Find.{get, at, as_str}
use Rattle.lwkt_base.specs.declared.laws.Law.{Law}
use Rattle.lwkt_base.specs.declared.laws.Law.TheVariants.{Any, Sum, Order, Cap, Tally, Len}
use Rattle.lwkt_base.specs.declared.names.ThreadId.{ThreadId}
use Rattle.lwkt_base.specs.declared.limits.TheConstants.{CELL_LIMIT}
use Rattle.lwkt_script.specs.Field.{item_count, number}

infixl 10 ◌>>=◌
abbrev pub ◌>>=◌ : {A B : Type 0} → Option A → (A → Option B) → Option B
o >>= f = option_and_then f o

-- the law of a name, in any version
abbrev pub law_of : List ℕ → Option Law
law_of name =
    if bytes_eq name (codes "any") then Some Any else (
    if bytes_eq name (codes "sum") then Some Sum else (
    if bytes_eq name (codes "order") then Some Order else (
    if bytes_eq name (codes "cap") then Some Cap else (
    if bytes_eq name (codes "tally") then Some Tally else (
    if bytes_eq name (codes "len") then Some Len else None)))))

-- the law that a token names
abbrev pub law_in : Data → Option Law
law_in d = (get (codes "law") d >>= as_str) >>= law_of

-- how many cells a token may have: at most 4, exactly 1 under Tally, and at least 1 under Len
abbrev pub allows : Law → ℕ → Bool
allows Any count = nat_le count CELL_LIMIT
allows Sum count = nat_le count CELL_LIMIT
allows Order count = nat_le count CELL_LIMIT
allows Cap count = nat_le count CELL_LIMIT
allows Tally count = count == 1
allows Len count = nat_lt 0 count && nat_le count CELL_LIMIT

-- the processor and the thread that are written as a list of two numbers
unfoldable pub thread_of : ℕ → Data → Option ThreadId
thread_of cpus d = do
  count ← item_count d
  cpu ← at 0 d >>= number 0 (cpus - 1)
  thread ← at 1 d >>= number 0 15
  if count == 2 then Some (record { cpu = record { 0 = cpu }; thread = thread }) else None

-- the thread that a message names
abbrev pub origin_in : ℕ → Data → Option ThreadId
origin_in cpus d = get (codes "of") d >>= thread_of cpus
