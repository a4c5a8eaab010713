-- Claims by how far they go.
use Rattle.std.proofs.Common.{◌≡◌, ℕ, suc, ◌-◌, ◌<◌, List, Option, Some, None, Result, Err, refl, sym, subst, ◌∙◌, arith}
use Rattle.lwkt_text.specs.declared.combining.FoundClaim.{FoundClaim}
use Rattle.lwkt_text.specs.Statements.{Statement}
use Rattle.lwkt_text.specs.declared.tables.Names.{Names}
use Rattle.lwkt_text.specs.declared.words.Word.{Word}
use Rattle.lwkt_text.specs.declared.wrongs.Slip.{Slip}
use Rattle.lwkt_text.specs.declared.wrongs.What.TheVariants as whats
use Rattle.lwkt_text.specs.declared.wrongs.Wrong.{Wrong}
use Rattle.lwkt_text.specs.Looking.{wrong_at}
use Rattle.lwkt_text.specs.Outcome.{IsAsRead}
use Rattle.lwkt_text.specs.Combining.{claim_behind, claim_begun, claim_step, claim_from}

from_none : (n : ℕ) (names : Names) (ws : List Word) (low : ℕ) (left : Option Statement) (i : ℕ) → n ≡ 0 → claim_from n names ws low left i ≡ Err (wrong_at ws i whats.Large)
unfolding claim_from
from_none n names ws low left i e = rw e refl

from_suc : (n : ℕ) (names : Names) (ws : List Word) (low : ℕ) (left : Option Statement) (i : ℕ) → claim_from (suc n) names ws low left i ≡ claim_step (claim_from n names ws) names ws low left i
unfolding claim_from
from_suc n names ws low left i = refl

from_later : (n : ℕ) (names : Names) (ws : List Word) (low : ℕ) (left : Option Statement) (i : ℕ) → 0 < n → claim_from n names ws low left i ≡ claim_step (claim_from (n - 1) names ws) names ws low left i
from_later n names ws low left i some =
    let e : suc (n - 1) ≡ n = omega arith in
    subst (λ m. claim_from m names ws low left i ≡ claim_step (claim_from (n - 1) names ws) names ws low left i) e (from_suc (n - 1) names ws low left i)

-- what is wrong where a reader may go no farther
pub too_far : (n : ℕ) (names : Names) (ws : List Word) (low : ℕ) (left : Option Statement) (i : ℕ) (wrong : Wrong) → n ≡ 0 → wrong ≡ wrong_at ws i whats.Large → claim_from n names ws low left i ≡ Err wrong
too_far n names ws low left i wrong e is = subst (λ (w : Wrong). claim_from n names ws low left i ≡ Err w) (sym is) (from_none n names ws low left i e)

-- behind a claim
pub behind_later : (r : Result FoundClaim Slip) (n : ℕ) (names : Names) (ws : List Word) (low : ℕ) (left : Option Statement) (p : Statement) (i : ℕ) → 0 < n → left ≡ Some p
    → IsAsRead r (claim_behind (claim_from (n - 1) names ws) ws low p i) → IsAsRead r (claim_from n names ws low left i)
behind_later r n names ws low left p i some is read =
    subst (λ (o : Option Statement). IsAsRead r (claim_from n names ws low o i)) (sym is)
    (subst (λ (x : Result FoundClaim Wrong). IsAsRead r x) (sym (from_later n names ws low (Some p) i some)) read)

-- behind none
pub begun_later : (r : Result FoundClaim Slip) (n : ℕ) (names : Names) (ws : List Word) (low : ℕ) (left : Option Statement) (i : ℕ) → 0 < n → left ≡ None
    → IsAsRead r (claim_begun (claim_from (n - 1) names ws) names ws low i) → IsAsRead r (claim_from n names ws low left i)
begun_later r n names ws low left i some is read =
    subst (λ (o : Option Statement). IsAsRead r (claim_from n names ws low o i)) (sym is)
    (subst (λ (x : Result FoundClaim Wrong). IsAsRead r x) (sym (from_later n names ws low None i some)) read)
