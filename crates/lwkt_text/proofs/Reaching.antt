-- Phrases by how far they go.
use Rattle.std.proofs.Common.{◌≡◌, ℕ, suc, ◌-◌, ◌<◌, List, Option, Some, None, Result, Err, refl, sym, subst, ◌∙◌, arith}
use Rattle.lwkt_text.specs.declared.phrases.Found.{Found}
use Rattle.lwkt_text.specs.declared.phrases.Phrase.{Phrase}
use Rattle.lwkt_text.specs.declared.words.Word.{Word}
use Rattle.lwkt_text.specs.declared.wrongs.Slip.{Slip}
use Rattle.lwkt_text.specs.declared.wrongs.What.TheVariants as whats
use Rattle.lwkt_text.specs.declared.wrongs.Wrong.{Wrong}
use Rattle.lwkt_text.specs.Looking.{wrong_at}
use Rattle.lwkt_text.specs.Outcome.{IsAsRead}
use Rattle.lwkt_text.specs.Phrasing.{phrase_behind, phrase_begun, phrase_step, phrase_from}

from_none : (n : ℕ) (vars : List (List ℕ)) (ws : List Word) (low : ℕ) (left : Option Phrase) (i : ℕ) → n ≡ 0 → phrase_from n vars ws low left i ≡ Err (wrong_at ws i whats.Large)
unfolding phrase_from
from_none n vars ws low left i e = rw e refl

from_suc : (n : ℕ) (vars : List (List ℕ)) (ws : List Word) (low : ℕ) (left : Option Phrase) (i : ℕ) → phrase_from (suc n) vars ws low left i ≡ phrase_step (phrase_from n vars ws) vars ws low left i
unfolding phrase_from
from_suc n vars ws low left i = refl

from_later : (n : ℕ) (vars : List (List ℕ)) (ws : List Word) (low : ℕ) (left : Option Phrase) (i : ℕ) → 0 < n → phrase_from n vars ws low left i ≡ phrase_step (phrase_from (n - 1) vars ws) vars ws low left i
from_later n vars ws low left i some =
    let e : suc (n - 1) ≡ n = omega arith in
    subst (λ m. phrase_from m vars ws low left i ≡ phrase_step (phrase_from (n - 1) vars ws) vars ws low left i) e (from_suc (n - 1) vars ws low left i)

-- what is wrong where a reader may go no farther
pub too_far : (n : ℕ) (vars : List (List ℕ)) (ws : List Word) (low : ℕ) (left : Option Phrase) (i : ℕ) (wrong : Wrong) → n ≡ 0 → wrong ≡ wrong_at ws i whats.Large → phrase_from n vars ws low left i ≡ Err wrong
too_far n vars ws low left i wrong e is = subst (λ (w : Wrong). phrase_from n vars ws low left i ≡ Err w) (sym is) (from_none n vars ws low left i e)

-- behind a phrase
pub behind_later : (r : Result Found Slip) (n : ℕ) (vars : List (List ℕ)) (ws : List Word) (low : ℕ) (left : Option Phrase) (p : Phrase) (i : ℕ) → 0 < n → left ≡ Some p
    → IsAsRead r (phrase_behind (phrase_from (n - 1) vars ws) ws low p i) → IsAsRead r (phrase_from n vars ws low left i)
behind_later r n vars ws low left p i some is read =
    subst (λ (o : Option Phrase). IsAsRead r (phrase_from n vars ws low o i)) (sym is)
    (subst (λ (x : Result Found Wrong). IsAsRead r x) (sym (from_later n vars ws low (Some p) i some)) read)

-- behind none
pub begun_later : (r : Result Found Slip) (n : ℕ) (vars : List (List ℕ)) (ws : List Word) (low : ℕ) (left : Option Phrase) (i : ℕ) → 0 < n → left ≡ None
    → IsAsRead r (phrase_begun (phrase_from (n - 1) vars ws) vars ws low i) → IsAsRead r (phrase_from n vars ws low left i)
begun_later r n vars ws low left i some is read =
    subst (λ (o : Option Phrase). IsAsRead r (phrase_from n vars ws low o i)) (sym is)
    (subst (λ (x : Result Found Wrong). IsAsRead r x) (sym (from_later n vars ws low None i some)) read)
