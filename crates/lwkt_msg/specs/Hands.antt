use Rattle.std.specs.Prelude.{◌≡◌, ◌⊎◌, ℕ, ◌<◌, true, false, List, length}
use mathlib.Core.Option.{some}
use lib.ListN.{get_elem?}
use Rattle.lwkt_base.specs.declared.records.Rec.{Rec}
use Rattle.lwkt_msg.specs.declared.views.View.{View}
use Rattle.lwkt_msg.specs.Views.{slot_at, spec_at, call_of, at}

-- among the records that a seat has in hand there is this one, of this slot
abbrev pub Has : List (ℕ × Rec) → ℕ → Rec → Type 0
Has hands slot rec = (i : ℕ) × (get_elem? hands i ≡ some (slot, rec))

-- no slot is in hand twice
pub record AreApart (hands : List (ℕ × Rec)) : Type 0 where
  pub one : (i j slot : ℕ) (rec other : Rec) → get_elem? hands i ≡ some (slot, rec) → get_elem? hands j ≡ some (slot, other) → i ≡ j

-- the same records, in any order
pub record AreSame (hands others : List (ℕ × Rec)) : Type 0 where
  pub there : (slot : ℕ) (rec : Rec) → Has hands slot rec → Has others slot rec
  pub back : (slot : ℕ) (rec : Rec) → Has others slot rec → Has hands slot rec
  pub apart : AreApart hands → AreApart others

-- the message belongs to this processor
abbrev pub IsOwn : View → ℕ → ℕ → Type 0
IsOwn v cpu m = (spec_at v.specs m).origin.cpu.0 ≡ cpu

-- the seat of this processor has the message's record in hand: as its origin at rest, or as its target once it is taken
abbrev pub IsInHand : View → ℕ → ℕ → Type 0
IsInHand v cpu m = (IsOwn v cpu m × ((at v m).had ≡ true) × ((at v m).away ≡ false)) ⊎ ((at v m).taken ≡ true)

-- the records that the seat of a processor has in hand are those of its own messages at rest and of the messages that it has
-- taken, and these have the calls that it knows
pub record AreHands (v : View) (cpu : ℕ) (hands : List (ℕ × Rec)) : Type 0 where
  pub apart : AreApart hands
  pub all : (slot : ℕ) (rec : Rec) → Has hands slot rec → (m : ℕ) × (m < length v.specs) × (slot ≡ slot_at m) × IsInHand v cpu m
  pub own : (m : ℕ) → m < length v.specs → IsOwn v cpu m → (at v m).had ≡ true → (at v m).away ≡ false → (rec : Rec) × Has hands (slot_at m) rec
  pub taken : (m : ℕ) → m < length v.specs → (at v m).taken ≡ true → (rec : Rec) × (Has hands (slot_at m) rec × (call_of rec ≡ (at v m).got))
