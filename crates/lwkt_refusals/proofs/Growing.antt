-- Texts behind texts on a page.
use Rattle.std.proofs.Common.{◌≡◌, ◌++◌, List, ℕ, string_bytes, sym, ◌∙◌, ap, append_assoc, append-nil, []}
use Rattle.lwkt_refusals.specs.declared.pages.Page.{Page}
use Rattle.lwkt_refusals.specs.Pages.{GrowsBy}

-- a text behind a text
pub grows_twice : (old mid new : Page) (first second : List ℕ) → GrowsBy old mid first → GrowsBy mid new second → GrowsBy old new (first ++ second)
grows_twice old mid new first second a b = record {
  kept = λ here. a.kept (b.kept here);
  behind = λ here. b.behind here ∙ ap (λ (front : List ℕ). front ++ second) (a.behind (b.kept here)) ∙ append_assoc (string_bytes old.text) first second;
}

-- no text
pub grows_nothing : (page : Page) → GrowsBy page page []
grows_nothing page = record { kept = λ here. here; behind = λ here. sym (append-nil (string_bytes page.text)) }
