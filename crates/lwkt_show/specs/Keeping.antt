-- What a thread makes on its way to its next ask, and what is kept of it (own).
use Rattle.std.specs.Prelude.{◌≡◌, ℕ, zero, suc, ◌+◌, ◌*◌, List, [], ◌∷◌, ◌++◌, length, Option, Some, None, slice_get, if◌then◌else◌}
use Rattle.lwkt_base.specs.declared.asks.Ask.{Ask}
use Rattle.lwkt_code.specs.declared.steps.Step.{Step}
use Rattle.lwkt_code.specs.declared.locals.Local.{Local}
use Rattle.lwkt_code.specs.Next.{ask_at, moved}
use Rattle.lwkt_show.specs.declared.walks.Kept.{Kept}
use Rattle.lwkt_show.specs.declared.walks.Made.{Made}
use Rattle.lwkt_show.specs.Computed.{made_by}

-- what was made, one thing or none
abbrev pub one_or_none : Option Made → List Made
one_or_none (Some made) = made ∷ []
one_or_none None = []

-- what is made by a step that asks nothing, and by those behind it; nothing by one that asks
abbrev pub made_or : Option Ask → Option Made → List Made → List Made
made_or (Some ask) made later = []
made_or None made later = one_or_none made ++ later

-- what a thread makes on its way from there to its next ask; at most n steps are made
unfoldable pub made_within : ℕ → List Step → Local → List Made
made_within zero steps s = []
made_within (suc n) steps s =
    let o = slice_get steps s.at in made_or (ask_at o s) (made_by o s.at (moved o s).vars) (made_within n steps (moved o s))

-- of an accepted program no way without an ask is longer than this
abbrev pub made_from : List Step → Local → List Made
made_from steps s = made_within (suc (2 * length steps + 3)) steps s

-- these things are kept behind those that were, if that is wanted and no memory was refused
pub record KeepsAll (old new : Kept) (made : List Made) : Type 0 where
  pub wanted : new.wanted ≡ old.wanted
  pub lost : new.lost ≡ None → old.lost ≡ None
  pub behind : new.lost ≡ None → new.made.items ≡ old.made.items ++ (if old.wanted then made else [])

abbrev pub Keeps : Kept → Kept → Option Made → Type 0
Keeps old new made = KeepsAll old new (one_or_none made)

-- these things are kept and no other ones
pub record HasMade (old new : Kept) (made : List Made) : Type 0 where
  pub wanted : new.wanted ≡ old.wanted
  pub lost : new.lost ≡ None → old.lost ≡ None
  pub all : new.lost ≡ None → new.made.items ≡ (if old.wanted then made else [])
