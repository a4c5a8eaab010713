-- Texts that are written one behind the other.
use Rattle.std.proofs.Common.{◌≡◌, ℕ, ◌+◌, List, ◌∷◌, ◌++◌, Result, Ok, Err, OnOk, append_assoc, refl, sym, ap, ◌∙◌}
use Rattle.lwkt_report.specs.Report.{numbered_lines}
use Rattle.lwkt_explore.specs.Jsons.{comma_at, item_json}

-- a text, and behind it another one, are written together
pub then_written : {A E : Type 0} (r : Result A E) (old mid new first rest : List ℕ) → mid ≡ old ++ first → OnOk r (new ≡ mid ++ rest) → OnOk r (new ≡ old ++ (first ++ rest))
then_written (Ok done) old mid new first rest begun ended = ended ∙ ap (λ (xs : List ℕ). xs ++ rest) begun ∙ append_assoc old first rest
then_written (Err fault) old mid new first rest begun ended = tt

-- of a list that is written with commas between, one item more
pub items_on : {A : Type 0} (f : ℕ → A → List ℕ) (old mid new whole : List ℕ) (n next : ℕ) (one : A) (all rest : List A) → next ≡ n + 1 → all ≡ one ∷ rest
    → mid ≡ old ++ comma_at n → new ≡ mid ++ f n one → old ++ numbered_lines (item_json f) n all ≡ whole → new ++ numbered_lines (item_json f) next rest ≡ whole
items_on f old mid new whole n next one all rest after is comma more so =
    rw (more, comma, after) (ap (λ (xs : List ℕ). xs ++ numbered_lines (item_json f) (n + 1) rest) (append_assoc old (comma_at n) (f n one)) ∙ append_assoc old (comma_at n ++ f n one) (numbered_lines (item_json f) (n + 1) rest) ∙ (rw is at so))
