-- Reading the items of a list one after the other, as a loop does.
use Rattle.std.proofs.Common.{◌≡◌, ℕ, ◌+◌, ◌<◌, ◌≤◌, List, [], ◌∷◌, ◌++◌, length, drop, get_or, Result, Ok, Err, sym, ap, ◌∙◌, subst}
use Rattle.std.specs.Prelude.{IsErrAnd}
use Rattle.std.proofs.lemmas.List.{drop_more, drop_all}
use Rattle.serde_json.specs.Data.{Data}
use Rattle.serde_json.specs.View.{view, items_view}
use Rattle.serde_json.specs.declared.value.Value.{Value}
use Rattle.lwkt_base.specs.declared.faults.Fault.{Fault}
use Rattle.lwkt_base.specs.declared.faults.Fault.TheVariants.{Memory, Script}
use Rattle.lwkt_script.specs.Outcome.{◌>>=◌, each, IsFaultOf, Gives}

-- a list with an item at its front, read
front_read : {A : Type 0} (f : List A → Data → Result A ℕ) (out : List A) (items : List Value) (i : ℕ) (v : Value) → i < length items → v ≡ get_or items i v
    → each f out (items_view (drop i items)) ≡ (f out (view v) >>= λ x. each f (out ++ x ∷ []) (items_view (drop (i + 1) items)))
front_read f out items i v within is = ap (λ (vs : List Value). each f out (items_view vs)) (drop_more items i v within ∙ ap (λ (w : Value). w ∷ drop (i + 1) items) (sym is))

-- after an item that was read, the rest is read with it
pub goes_on : {A : Type 0} (f : List A → Data → Result A ℕ) (out : List A) (items : List Value) (i : ℕ) (v : Value) (x : A) (total : Result (List A) ℕ) → i < length items → v ≡ get_or items i v
    → f out (view v) ≡ Ok x → each f out (items_view (drop i items)) ≡ total → each f (out ++ x ∷ []) (items_view (drop (i + 1) items)) ≡ total
goes_on f out items i v x total within is h so_far =
    sym (front_read f out items i v within is ∙ ap (λ r. r >>= λ y. each f (out ++ y ∷ []) (items_view (drop (i + 1) items))) h) ∙ so_far

-- a fault of what is read first is one of the whole
stays : {X Y : Type 0} (fault : Fault) (r : Result X ℕ) (k : X → Result Y ℕ) → IsFaultOf fault r → IsFaultOf fault (r >>= k)
stays {X} {Y} (Script place) r k is = ap (λ (s : Result X ℕ). s >>= k) is
stays (Memory refused) r k is = tt
stays _ r k is = absurd is

-- where an item isn't read, the list isn't
pub refuses : {A : Type 0} (f : List A → Data → Result A ℕ) (out : List A) (items : List Value) (i : ℕ) (v : Value) (fault : Fault) (total : Result (List A) ℕ) → i < length items → v ≡ get_or items i v
    → IsFaultOf fault (f out (view v)) → each f out (items_view (drop i items)) ≡ total → IsFaultOf fault total
refuses {A} f out items i v fault total within is h so_far =
    subst (λ (r : Result (List A) ℕ). IsFaultOf fault r) (sym (front_read f out items i v within is) ∙ so_far) (stays fault (f out (view v)) (λ x. each f (out ++ x ∷ []) (items_view (drop (i + 1) items))) h)

-- behind the last item, what was read is the whole
pub ends : {A : Type 0} (f : List A → Data → Result A ℕ) (out : List A) (items : List Value) (i : ℕ) (total : Result (List A) ℕ) → length items ≤ i → each f out (items_view (drop i items)) ≡ total → total ≡ Ok out
ends f out items i total past so_far = sym so_far ∙ ap (λ (vs : List Value). each f out (items_view vs)) (drop_all i items past)

-- a reader that hands on a fault
pub hands_on : {X Y : Type 0} (r : Result X Fault) (see : X → Y) (fault : Fault) (total : Result Y ℕ) → IsErrAnd r (λ e. e ≡ fault) → IsFaultOf fault total → Gives see r total
hands_on {X} {Y} (Ok x) see fault total is h = absurd is
hands_on {X} {Y} (Err e) see fault total is h = subst (λ (f : Fault). IsFaultOf f total) (sym is) h
