-- Words behind words.
use Rattle.std.proofs.Common.{ℕ, List, [], ◌++◌, Bool, Option, None, Some, ◌∙◌, ap, append_assoc}
use Rattle.std.specs.Io.KnownBytes.{Appends}
use Rattle.lwkt_refusals.specs.Sayings.{SaysMore}

-- bytes behind what stands, and bytes behind them
pub Appends-twice : (old mid new : Option (List ℕ)) (first second : List ℕ) → Appends old mid first → Appends mid new second → Appends old new (first ++ second)
Appends-twice None mid new first second a b = tt
Appends-twice (Some xs) None new first second a b = absurd a
Appends-twice (Some xs) (Some ys) None first second a b = absurd b
Appends-twice (Some xs) (Some ys) (Some zs) first second a b = b ∙ ap (λ (front : List ℕ). front ++ second) a ∙ append_assoc xs first second

-- words behind words
pub adds_twice : {f g h : Bool} {old mid new : Option (List ℕ)} → SaysMore f g old mid → SaysMore g h mid new → SaysMore f h old new
adds_twice {old = old} {mid = mid} {new = new} a b = record { words = a.words ++ b.words; behind = Appends-twice old mid new a.words b.words a.behind b.behind; stays = λ fine. a.stays (b.stays fine) }
