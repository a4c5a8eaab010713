use Rattle.std.specs.List.{list_any}
use Rattle.std.specs.Prelude.{◌≡◌, ◌==◌, ℕ, ◌<◌, Bool, true, List, ◌∷◌, length, None, Some}
use Rattle.std.specs.Option.{is_some}
use mathlib.Core.Option.{some}
use lib.ListN.{get_elem?}
use Rattle.lwkt_base.specs.Holding.{is_exclusive}
use Rattle.lwkt_bank.specs.declared.views.View.{View}
use Rattle.lwkt_bank.specs.Views.{RecordOf, at}

-- among the records that a seat has in hand there is this one, of this token
abbrev pub Has : List (ℕ × List ℕ) → ℕ → List ℕ → Type 0
Has hands tok bytes = (i : ℕ) × (get_elem? hands i ≡ some (tok, bytes))

-- whether this token's record is among them
abbrev pub is_there : List (ℕ × List ℕ) → ℕ → Bool
is_there hands tok = list_any (λ h. h.0 == tok) hands

-- no token's record is in hand twice
pub record AreApart (hands : List (ℕ × List ℕ)) : Type 0 where
  pub one : (i j tok : ℕ) (bytes other : List ℕ) → get_elem? hands i ≡ some (tok, bytes) → get_elem? hands j ≡ some (tok, other) → i ≡ j

-- the same records, in any order
pub record AreSame (hands others : List (ℕ × List ℕ)) : Type 0 where
  pub there : (tok : ℕ) (bytes : List ℕ) → Has hands tok bytes → Has others tok bytes
  pub back : (tok : ℕ) (bytes : List ℕ) → Has others tok bytes → Has hands tok bytes
  pub apart : AreApart hands → AreApart others

-- the seat with this view has the token's record in hand: it holds the token exclusively, which has one
abbrev pub IsInHand : View → ℕ → Type 0
IsInHand v tok = (is_exclusive (at v.tokens tok).held ≡ true) × (is_some (at v.tokens tok).blob ≡ true)

-- the records that a seat has in hand are those of the tokens that it holds exclusively, as its view says
pub record AreHands (v : View) (hands : List (ℕ × List ℕ)) : Type 0 where
  pub apart : AreApart hands
  pub all : (tok : ℕ) (bytes : List ℕ) → Has hands tok bytes → (tok < length v.plans) × IsInHand v tok × ((at v.tokens tok).blob ≡ Some bytes)
  pub each : (tok : ℕ) → IsInHand v tok → is_there hands tok ≡ true

-- a take takes the record of its token in hand, if there is one; and the give that ends the section puts it back
abbrev pub TakesOut : RecordOf → ℕ → List (ℕ × List ℕ) → List (ℕ × List ℕ) → Type 0
TakesOut None tok hands hands' = hands' ≡ hands
TakesOut (Some bytes) tok hands hands' = hands' ≡ (tok, bytes) ∷ hands

abbrev pub PutsBack : RecordOf → ℕ → List (ℕ × List ℕ) → List (ℕ × List ℕ) → Type 0
PutsBack None tok hands hands' = hands' ≡ hands
PutsBack (Some bytes) tok hands hands' = AreSame hands ((tok, bytes) ∷ hands')

-- an access to the record of a token finds it in hand, and brings it to the front
abbrev pub Brings : ℕ → List (ℕ × List ℕ) → List (ℕ × List ℕ) → Type 0
Brings tok hands hands' = (bytes : List ℕ) × ((others : List (ℕ × List ℕ)) × ((hands' ≡ (tok, bytes) ∷ others) × AreSame hands hands'))
