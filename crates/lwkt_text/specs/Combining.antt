-- Claims with `and`, `or`, `not` and brackets, as words of a sentence (own).
use Rattle.std.specs.Prelude.{ℕ, zero, suc, ◌+◌, ◌-◌, ◌==◌, ◌||◌, nat_le, List, [], ◌∷◌, length, drop, codes, Bool, is_some, bytes_eq, if◌then◌else◌, Option, Some, None, option_and_then, Result, Ok, Err, ⊤}
use Rattle.std.specs.List.{slice_range}
use Rattle.lwkt_code.specs.declared.checks.Flaw.TheVariants as flaws
use Rattle.lwkt_code.specs.declared.checks.TheConstants.{MOST_OPERATORS}
use Rattle.lwkt_text.specs.declared.combining.FoundClaim.{FoundClaim}
use Rattle.lwkt_text.specs.declared.combining.Joint.{Joint}
use Rattle.lwkt_text.specs.declared.combining.Joint.TheVariants.{Or, And}
use Rattle.lwkt_text.specs.declared.tables.Names.{Names}
use Rattle.lwkt_text.specs.declared.words.Word.{Word}
use Rattle.lwkt_text.specs.declared.wrongs.Wanted.TheVariants as wanted
use Rattle.lwkt_text.specs.declared.wrongs.What.TheVariants as whats
use Rattle.lwkt_text.specs.declared.wrongs.Wrong.{Wrong}
use Rattle.lwkt_text.specs.Claiming.{fact_of}
use Rattle.lwkt_text.specs.Looking.{text_at, is_at, demand_at, ends_at, wrong_at}
use Rattle.lwkt_text.specs.Outcome.{◌>>=◌, ◌>>◌}
use Rattle.lwkt_text.specs.Phrasing.{closed_at}
use Rattle.lwkt_text.specs.Statements.{Statement, fact, each_of, one_of, none_of}

-- how closely `and` and `or` bind; `not` binds as 3
abbrev pub level : Joint → ℕ
level Or = 1
level And = 2

abbrev pub joint_of : List ℕ → Option Joint
joint_of text = if bytes_eq text (codes "or") then Some Or else (if bytes_eq text (codes "and") then Some And else None)

-- the `and` or `or` that word i is, if it binds so closely
abbrev pub joint_at : List Word → ℕ → ℕ → Option Joint
joint_at ws low i = option_and_then (λ joint. if nat_le low (level joint) then Some joint else None) (joint_of (text_at ws i))

-- what they make of the claims on their sides
abbrev pub joined : Joint → Statement → Statement → Statement
joined Or a b = one_of a b
joined And a b = each_of a b

-- whether a word can't be one of a fact: `and`, `or` or `)`
abbrev pub ends_fact : List ℕ → Bool
ends_fact text = is_some (joint_of text) || bytes_eq text (codes ")")

-- how many words stand before the first such one
abbrev pub fact_length : List Word → ℕ
fact_length [] = 0
fact_length (w ∷ ws) = if ends_fact w.text then 0 else suc (fact_length ws)

-- the place behind the fact that word i begins
abbrev pub fact_end : List Word → ℕ → ℕ
fact_end ws i = i + fact_length (drop i ws)

-- a claim, and the place behind it
abbrev pub found : Statement → ℕ → FoundClaim
found claim end = record { claim = claim; end = end }

-- the fact that word i begins and that ends at a place: it is read with the word before it
abbrev pub fact_between : Names → List Word → ℕ → ℕ → Result FoundClaim Wrong
fact_between names ws i end =
    if end == i then Err (wrong_at ws i whats.Claim) else
    (fact_of names (slice_range ws (i - 1) end) >>= λ f. Ok (found (fact f) end))

abbrev pub fact_at : Names → List Word → ℕ → Result FoundClaim Wrong
fact_at names ws i = fact_between names ws i (fact_end ws i)

-- the `and` or `or` at word i, if there is one that binds so, with the claim behind it
abbrev pub joined_behind : (ℕ → Option Statement → ℕ → Result FoundClaim Wrong) → List Word → ℕ → Statement → ℕ → Option Joint → Result FoundClaim Wrong
joined_behind read ws low left i None = Ok (found left i)
joined_behind read ws low left i (Some joint) = read (level joint + 1) None (i + 1) >>= λ right. read low (Some (joined joint left right.claim)) right.end

abbrev pub claim_behind : (ℕ → Option Statement → ℕ → Result FoundClaim Wrong) → List Word → ℕ → Statement → ℕ → Result FoundClaim Wrong
claim_behind read ws low left i = joined_behind read ws low left i (joint_at ws low i)

-- a claim in brackets, of which word i is the first
abbrev pub bracketed : (ℕ → Option Statement → ℕ → Result FoundClaim Wrong) → List Word → ℕ → ℕ → Result FoundClaim Wrong
bracketed read ws low i = read 1 None (i + 1) >>= λ inner. closed_at ws inner.end (codes ")") wanted.Close >> read low (Some inner.claim) (inner.end + 1)

-- that the claim behind the `not` at word i doesn't hold
abbrev pub denied : (ℕ → Option Statement → ℕ → Result FoundClaim Wrong) → List Word → ℕ → ℕ → Result FoundClaim Wrong
denied read ws low i = read 3 None (i + 1) >>= λ inner. read low (Some (none_of inner.claim)) inner.end

-- the fact that word i begins, with what is behind it
abbrev pub fact_begun : (ℕ → Option Statement → ℕ → Result FoundClaim Wrong) → Names → List Word → ℕ → ℕ → Result FoundClaim Wrong
fact_begun read names ws low i = fact_at names ws i >>= λ said. read low (Some said.claim) said.end

-- the claim that word i begins
abbrev pub claim_begun : (ℕ → Option Statement → ℕ → Result FoundClaim Wrong) → Names → List Word → ℕ → ℕ → Result FoundClaim Wrong
claim_begun read names ws low i =
    if nat_le (length ws) i then Err (wrong_at ws i whats.Claim) else (
    if is_at ws i (codes "(") then bracketed read ws low i else (
    if is_at ws i (codes "not") then denied read ws low i else fact_begun read names ws low i))

abbrev pub claim_step : (ℕ → Option Statement → ℕ → Result FoundClaim Wrong) → Names → List Word → ℕ → Option Statement → ℕ → Result FoundClaim Wrong
claim_step read names ws low None i = claim_begun read names ws low i
claim_step read names ws low (Some left) i = claim_behind read ws low left i

-- the same, as far as so many steps of reading go
unfoldable pub claim_from : ℕ → Names → List Word → ℕ → Option Statement → ℕ → Result FoundClaim Wrong
claim_from zero names ws low left i = Err (wrong_at ws i whats.Large)
claim_from (suc n) names ws low left i = claim_step (claim_from n names ws) names ws low left i

-- how many `and`, `or` and `not` a claim has
abbrev pub operators : Statement → ℕ
operators (fact f) = 0
operators (each_of a b) = operators a + operators b + 1
operators (one_of a b) = operators a + operators b + 1
operators (none_of a) = operators a + 1

-- a claim has at most 16 of them
abbrev pub within_limit : List Word → Statement → Result Statement Wrong
within_limit ws c = demand_at ws 0 (whats.Flawed flaws.Large) (nat_le (operators c) MOST_OPERATORS) >> Ok c

-- the claim from word i on, and nothing more
abbrev pub claim_at : Names → List Word → ℕ → Result Statement Wrong
claim_at names ws i = claim_from 200 names ws 1 None i >>= λ f. ends_at ws f.end >> within_limit ws f.claim
