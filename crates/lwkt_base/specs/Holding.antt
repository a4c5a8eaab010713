use Rattle.std.specs.Prelude.{◌≡◌, ℕ, ◌+◌, ◌-◌, ◌==◌, Bool, true, false, if◌then◌else◌, List, [], ◌∷◌, ◌++◌, Option, Some, None, fold}
use Rattle.lwkt_base.specs.declared.names.Mode.{Mode}
use Rattle.lwkt_base.specs.declared.names.Mode.TheVariants.{Exclusive, Shared}
use Rattle.lwkt_base.specs.declared.names.Ref.{Ref}
use Rattle.lwkt_base.specs.declared.holdings.Held.{Held}
use Rattle.lwkt_base.specs.declared.holdings.Held.TheVariants.{Nothing, Holds}
use Rattle.lwkt_base.specs.Refs.{first_mode, references_to}

-- how many references these are
abbrev pub references_in : Held → ℕ
references_in Nothing = 0
references_in (Holds mode further) = further + 1

-- the mode of a holding, which is that of its first reference
abbrev pub mode_of : Held → Option Mode
mode_of Nothing = None
mode_of (Holds mode further) = Some mode

-- whether the token is held exclusively
abbrev pub is_exclusive : Held → Bool
is_exclusive Nothing = false
is_exclusive (Holds Exclusive further) = true
is_exclusive (Holds Shared further) = false

-- whether the token is held at all
abbrev pub is_held : Held → Bool
is_held Nothing = false
is_held (Holds mode further) = true

-- one reference more: a further reference keeps the mode of the first (token(9))
abbrev pub one_more : Held → Mode → Held
one_more Nothing mode = Holds mode 0
one_more (Holds first further) mode = Holds first (further + 1)

-- one reference less: the last one leaves nothing
abbrev pub one_less : Held → Held
one_less Nothing = Nothing
one_less (Holds mode further) = if further == 0 then Nothing else Holds mode (further - 1)

-- what a processor holds of each token, by the token's number
abbrev pub Holding : Type 0
Holding = ℕ → Held

-- nothing of any token
abbrev pub holds_nothing : Holding
holds_nothing tok = Nothing

-- one reference to the token more
abbrev pub added : Holding → ℕ → Mode → Holding
added holding tok mode other = if other == tok then one_more (holding other) mode else holding other

-- one reference to the token less
abbrev pub removed : Holding → ℕ → Holding
removed holding tok other = if other == tok then one_less (holding other) else holding other

-- H(L): what a processor holds that holds exactly the references of a list (own)
abbrev pub holding_of : List Ref → Holding
holding_of refs = fold (λ holding r. added holding r.tok.0 r.mode) holds_nothing refs

-- a law: of each token, a list's holding has the mode of the first reference to it and the number of the references to it
abbrev pub ListsAreHeld : Type 0
ListsAreHeld = (refs : List Ref) (tok : ℕ) → (mode_of (holding_of refs tok) ≡ first_mode refs tok) × (references_in (holding_of refs tok) ≡ references_to refs tok)

-- a law: a reference more at the end of a list is one more in its holding
abbrev pub AcquiringAdds : Type 0
AcquiringAdds = (refs : List Ref) (r : Ref) → holding_of (refs ++ r ∷ []) ≡ added (holding_of refs) r.tok.0 r.mode

-- a law: the last reference of a list taken away is one less in its holding
abbrev pub ReleasingRemoves : Type 0
ReleasingRemoves = (refs : List Ref) (r : Ref) → holding_of refs ≡ removed (holding_of (refs ++ r ∷ [])) r.tok.0

-- a law: one reference more and then one less leave a holding as it was
abbrev pub RemovingUndoesAdding : Type 0
RemovingUndoesAdding = (holding : Holding) (tok : ℕ) (mode : Mode) → removed (added holding tok mode) tok ≡ holding
