-- A text that is made piece by piece (own).
use Rattle.std.specs.Prelude.{◌≡◌, ◌++◌, List, ℕ, None, string_bytes}
use Rattle.lwkt_refusals.specs.declared.pages.Page.{Page}

-- a text stands on a page behind what stood on it, unless memory was refused for a piece of it; then it is refused for the whole
pub record GrowsBy (old new : Page) (text : List ℕ) : Type 0 where
  pub kept : new.lost ≡ None → old.lost ≡ None
  pub behind : new.lost ≡ None → string_bytes new.text ≡ string_bytes old.text ++ text
