use Rattle.std.proofs.Common.{eqb, eq-eqb, ne_eqb, ◌≡◌, ◌≢◌, ⊎_elim, ℕ, zero, suc, ◌+◌, ◌<◌, ◌≤◌, Bool, true, false, cond, List, [], ◌∷◌, length, get_or, set, refl, ap, sym, ◌∙◌, arith}
use Rattle.std.proofs.lemmas.Bool.{eqb-true, cases_Bool, cases_eq}
use Rattle.std.proofs.lemmas.List.Sums.{sum_by-cons}
use mathlib.Core.Option.{some}
use lib.ListN.{get_elem?}
use Rattle.lwkt_base.specs.Holding.{references_in, Holding}
use Rattle.lwkt_core.specs.declared.tokens.Token.{Token}
use Rattle.lwkt_core.specs.Tokens.{held_by}
use Rattle.lwkt_core.specs.Machine.{references_of}
use Rattle.lwkt_table.proofs.SeatingLemmas.{set_again, at_map, map-set}
use Rattle.lwkt_bank.specs.declared.views.TokenEntry.{TokenEntry}
use Rattle.lwkt_bank.specs.declared.views.View.{View}
use Rattle.lwkt_bank.specs.Views.{at, both_of, merged, count_from}
use Rattle.lwkt_bank.specs.Rule.{seen_by, column, no_token}

cond-true : {A : Type 0} (b : Bool) (x y : A) → b ≡ true → cond b x y ≡ x
cond-true b x y e = ap (λ c. cond c x y) e

cond-false : {A : Type 0} (b : Bool) (x y : A) → b ≡ false → cond b x y ≡ y
cond-false b x y e = ap (λ c. cond c x y) e

-- the first entry counts
pub at-here : (e : TokenEntry) (es : List TokenEntry) (tok : ℕ) → e.tok ≡ tok → at (e ∷ es) tok ≡ e
at-here e es tok is = cond-true (eqb e.tok tok) e (at es tok) (eq-eqb e.tok tok is)

-- an entry of one token says nothing of another
pub at-else : (e : TokenEntry) (es : List TokenEntry) (tok k : ℕ) → e.tok ≡ tok → k ≢ tok → at (e ∷ es) k ≡ at es k
at-else e es tok k is apart = cond-false (eqb e.tok k) e (at es k) (ne_eqb e.tok k (λ h. apart (sym h ∙ is)))

-- what is said of a token is of that token
pub at-tok : (es : List TokenEntry) (tok : ℕ) → (at es tok).tok ≡ tok
at-tok [] tok = refl
at-tok (e ∷ es) tok = ⊎_elim
    (λ is. ap (λ (x : TokenEntry). x.tok) (cond-true (eqb e.tok tok) e (at es tok) is) ∙ eqb-true e.tok tok is)
    (λ isnt. ap (λ (x : TokenEntry). x.tok) (cond-false (eqb e.tok tok) e (at es tok) isnt) ∙ at-tok es tok)
    (cases_Bool (eqb e.tok tok))

-- what two views say together
pub at-merged : (n : ℕ) (ds es : List TokenEntry) (tok : ℕ) → tok < n → at (merged n ds es) tok ≡ both_of tok (at ds tok) (at es tok)
at-merged zero ds es tok h = absurd (omega arith)
at-merged (suc n) ds es tok h = ⊎_elim
    (λ same. at-here (both_of n (at ds n) (at es n)) (merged n ds es) tok (sym same) ∙ ap (λ (k : ℕ). both_of k (at ds k) (at es k)) (sym same))
    (λ apart. at-else (both_of n (at ds n) (at es n)) (merged n ds es) n tok refl apart ∙ at-merged n ds es tok (omega arith))
    (cases_eq tok n)

-- a column after one view has changed
pub column-set : (tok : ℕ) (views : List View) (id : ℕ) (w : View) → column tok (set views id w) ≡ set (column tok views) id (seen_by tok w)
column-set tok views id w = map-set (seen_by tok) views id w

-- a column doesn't change where the view says the same
pub column-same : (tok : ℕ) (views : List View) (id : ℕ) (v w : View) → get_elem? views id ≡ some v → seen_by tok w ≡ seen_by tok v → column tok (set views id w) ≡ column tok views
column-same tok views id v w e same =
    column-set tok views id w ∙ ap (set (column tok views) id) same ∙ set_again (column tok views) id (seen_by tok v) (at_map (seen_by tok) views id v e)

pub seen-same : (tok : ℕ) (v w : View) → w.kind ≡ v.kind → at w.tokens tok ≡ at v.tokens tok → seen_by tok w ≡ seen_by tok v
seen-same tok v w kind entry = λ i. record { kind = kind i; entry = entry i }

-- how many references a processor has of a list of tokens, by what a holding says of each
pub references-from : (tokens : List Token) (cpu k : ℕ) (holding : Holding) → ((i : ℕ) → i < length tokens → held_by (get_or tokens i no_token) cpu ≡ holding (k + i)) → references_of tokens cpu ≡ count_from k (length tokens) holding
references-from [] cpu k holding same = refl
references-from (t ∷ ts) cpu k holding same =
    sum_by-cons (λ (tok : Token). references_in (held_by tok cpu)) t ts
    ∙ ap (λ n. n + references_of ts cpu) (ap references_in (same 0 (omega arith) ∙ ap holding (omega arith)))
    ∙ ap (λ n. references_in (holding k) + n) (references-from ts cpu (suc k) holding (λ i h. same (suc i) (omega arith) ∙ ap holding (omega arith)))

-- what is held of one token is at most what is held of all
pub count-at : (n k tok : ℕ) (holding : Holding) → k ≤ tok → tok < k + n → references_in (holding tok) ≤ count_from k n holding
count-at zero k tok holding low high = absurd (omega arith)
count-at (suc n) k tok holding low high = ⊎_elim
    (λ same. let e : references_in (holding tok) ≡ references_in (holding k) = ap (λ (t : ℕ). references_in (holding t)) same in omega arith)
    (λ apart. let h = count-at n (suc k) tok holding (omega arith) (omega arith) in omega arith)
    (cases_eq tok k)
