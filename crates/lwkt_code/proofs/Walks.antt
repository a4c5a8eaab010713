-- A thread of an accepted program comes to an ask.
use Rattle.std.proofs.Common.{◌≡◌, ℕ, zero, suc, ◌+◌, ◌*◌, ◌<◌, List, length, Option, Some, None, refl, ap, ◌∙◌, arith}
use Rattle.std.specs.Prelude.{slice_get}
use Rattle.lwkt_code.specs.declared.steps.Step.{Step}
use Rattle.lwkt_code.specs.declared.locals.Local.{Local}
use Rattle.lwkt_base.specs.declared.asks.Ask.{Ask}
use Rattle.lwkt_code.specs.Accepted.{IsAccepted, IsRanked, IsInside}
use Rattle.lwkt_code.specs.Next.{ask_at, moved, ask_or, ask_within, ask_from}
use Rattle.lwkt_code.proofs.Heights.{height, height_few, height_falls}

-- how many steps are made without an ask, at most n
abbrev pub no_ask : Option Ask → ℕ → ℕ
no_ask (Some ask) k = 0
no_ask None k = suc k

unfoldable pub silent : ℕ → List Step → Local → ℕ
silent zero steps s = 0
silent (suc n) steps s = let o = slice_get steps s.at in no_ask (ask_at o s) (silent n steps (moved o s))

-- all steps that a thread makes before it asks
abbrev pub silent_from : List Step → Local → ℕ
silent_from steps s = silent (suc (2 * length steps + 3)) steps s

same_first : (q : Option Ask) (t : Local) (x y : Ask × Local) → (q ≡ None → x ≡ y) → ask_or q t x ≡ ask_or q t y
same_first (Some ask) t x y f = refl
same_first None t x y f = f refl

same_silent : (q : Option Ask) (x y : ℕ) → (q ≡ None → x ≡ y) → no_ask q x ≡ no_ask q y
same_silent (Some ask) x y f = refl
same_silent None x y f = ap suc (f refl)

-- more steps than the height change nothing
enough : (steps : List Step) (rank : ℕ → ℕ) → IsInside steps → IsRanked steps rank → (n m : ℕ) (s : Local) → height steps rank s < n → height steps rank s < m → ask_within n steps s ≡ ask_within m steps s
unfolding ask_within
enough steps rank inside falls zero m s a b = absurd (omega arith)
enough steps rank inside falls (suc n) zero s a b = absurd (omega arith)
enough steps rank inside falls (suc n) (suc m) s a b =
    let o = slice_get steps s.at in
    same_first (ask_at o s) (moved o s) (ask_within n steps (moved o s)) (ask_within m steps (moved o s)) (λ e.
    let k = height_falls steps rank inside falls s e in
    enough steps rank inside falls n m (moved o s) (omega arith) (omega arith))

enough_silent : (steps : List Step) (rank : ℕ → ℕ) → IsInside steps → IsRanked steps rank → (n m : ℕ) (s : Local) → height steps rank s < n → height steps rank s < m → silent n steps s ≡ silent m steps s
unfolding silent
enough_silent steps rank inside falls zero m s a b = absurd (omega arith)
enough_silent steps rank inside falls (suc n) zero s a b = absurd (omega arith)
enough_silent steps rank inside falls (suc n) (suc m) s a b =
    let o = slice_get steps s.at in
    same_silent (ask_at o s) (silent n steps (moved o s)) (silent m steps (moved o s)) (λ e.
    let k = height_falls steps rank inside falls s e in
    enough_silent steps rank inside falls n m (moved o s) (omega arith) (omega arith))

first_none : (q : Option Ask) (t : Local) (r : Ask × Local) → q ≡ None → ask_or q t r ≡ r
first_none q t r e = rw e refl

first_some : (q : Option Ask) (a : Ask) (t : Local) (r : Ask × Local) → q ≡ Some a → ask_or q t r ≡ (a, t)
first_some q a t r e = rw e refl

none_silent : (q : Option Ask) (n : ℕ) → q ≡ None → no_ask q n ≡ suc n
none_silent q n e = rw e refl

-- without an ask, what is asked first is what is asked first from where the step leads
pub ask_on : (steps : List Step) (s : Local) → IsAccepted steps → ask_at (slice_get steps s.at) s ≡ None → ask_from steps s ≡ ask_from steps (moved (slice_get steps s.at) s)
unfolding ask_within
ask_on steps s h e =
    let o = slice_get steps s.at in
    let k = height_falls steps h.rank h.inside h.falls s e in
    let few = height_few steps h.rank s in
    first_none (ask_at o s) (moved o s) (ask_within (2 * length steps + 3) steps (moved o s)) e
    ∙ enough steps h.rank h.inside h.falls (2 * length steps + 3) (suc (2 * length steps + 3)) (moved o s) (omega arith) (omega arith)

-- with one, it is the first
pub ask_here : (steps : List Step) (s : Local) (a : Ask) → ask_at (slice_get steps s.at) s ≡ Some a → ask_from steps s ≡ (a, moved (slice_get steps s.at) s)
unfolding ask_within
ask_here steps s a e = first_some (ask_at (slice_get steps s.at) s) a (moved (slice_get steps s.at) s) (ask_within (2 * length steps + 3) steps (moved (slice_get steps s.at) s)) e

-- without an ask, fewer steps are left
pub silent_falls : (steps : List Step) (s : Local) → IsAccepted steps → ask_at (slice_get steps s.at) s ≡ None → silent_from steps (moved (slice_get steps s.at) s) < silent_from steps s
unfolding silent
silent_falls steps s h e =
    let o = slice_get steps s.at in
    let k = height_falls steps h.rank h.inside h.falls s e in
    let few = height_few steps h.rank s in
    let a : silent (suc (2 * length steps + 3)) steps s ≡ suc (silent (2 * length steps + 3) steps (moved o s)) = none_silent (ask_at o s) (silent (2 * length steps + 3) steps (moved o s)) e in
    let b : silent (2 * length steps + 3) steps (moved o s) ≡ silent (suc (2 * length steps + 3)) steps (moved o s) =
    enough_silent steps h.rank h.inside h.falls (2 * length steps + 3) (suc (2 * length steps + 3)) (moved o s) (omega arith) (omega arith) in
    rw a (rw b (omega arith))
