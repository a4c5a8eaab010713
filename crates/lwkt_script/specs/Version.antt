-- The versions of the format of scripts (own).
use Rattle.std.specs.Prelude.{ℕ, ◌==◌, Bool, true, false, if◌then◌else◌}
use Rattle.lwkt_base.specs.declared.laws.Law.{Law}
use Rattle.lwkt_base.specs.declared.laws.Law.TheVariants.{Any, Sum, Order, Cap, Tally, Len}
use Rattle.lwkt_script.specs.declared.versions.Version.{Version}
use Rattle.lwkt_script.specs.declared.versions.Version.TheVariants.{First, Second, Third}

-- the version of a number: 1, 2 or 3
abbrev pub version_of : ℕ → Version
version_of n = if n == 3 then Third else (if n == 2 then Second else First)

-- whether a version is later than the first: it has records of tokens, a law of them, steps on them, and messages sent with priority
abbrev pub is_later : Version → Bool
is_later First = false
is_later Second = true
is_later Third = true

-- whether a version has a law
abbrev pub has_law : Version → Law → Bool
has_law version Len = is_later version
has_law version Any = true
has_law version Sum = true
has_law version Order = true
has_law version Cap = true
has_law version Tally = true

-- how many members a thread of a version has
abbrev pub thread_members : Version → ℕ
thread_members First = 3
thread_members Second = 3
thread_members Third = 5

-- how many members a token of a version has
abbrev pub token_members : Version → ℕ
token_members First = 4
token_members Second = 5
token_members Third = 5
