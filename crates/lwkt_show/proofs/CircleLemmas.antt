-- Waits that lead from one thread to the next.
use Rattle.std.proofs.Common.{◌≡◌, ◌∙◌, ◌+◌, ◌-◌, ◌<◌, ◌++◌, ℕ, suc, List, [], append_assoc, append-nil, ap, sym, true, false, arith, if◌then◌else◌}
use Rattle.std.specs.Prelude.{◌||◌, Bool, Option, Some, None}
use Rattle.std.specs.Option.{option_map_or}
use Rattle.lwkt_base.specs.declared.names.ThreadId.{ThreadId}
use Rattle.lwkt_text.specs.declared.tables.Names.{Names}
use Rattle.lwkt_told.specs.Called.{is_thread}
use Rattle.lwkt_show.specs.Circles.{comes_back, arrow_text, others_text}

-- one wait less is left
one_less : (k n : ℕ) → k < n → n - k ≡ suc (n - (k + 1))
one_less k n below = omega arith

-- whether the waits come back, from the thread that is waited for
pub comes_on : (next : ThreadId → Option ThreadId) (first now to : ThreadId) (k n : ℕ) → k < n → next now ≡ Some to → is_thread to first ≡ false
    → comes_back next first (n - k) now ≡ comes_back next first (n - (k + 1)) to
comes_on next first now to k n below is other =
    let m = n - (k + 1) in
    let back : Option ThreadId → Bool = λ found. option_map_or (λ (one : ThreadId). is_thread one first || comes_back next first m one) found false in
    ap (λ (left : ℕ). comes_back next first left now) (one_less k n below) ∙ ap back is ∙ ap (λ (b : Bool). b || comes_back next first m to) other

-- what is told behind a thread that waits for none, of one that waits for the first, and of one that waits for another
pub others_end : (names : Option Names) (next : ThreadId → Option ThreadId) (first now : ThreadId) (k n : ℕ) → k < n → next now ≡ None → others_text names next first (n - k) now ≡ []
others_end names next first now k n below is =
    let m = n - (k + 1) in
    let told : Option ThreadId → List ℕ = λ found. option_map_or (λ (one : ThreadId). arrow_text names one ++ (if is_thread one first then [] else others_text names next first m one)) found [] in
    ap (λ (left : ℕ). others_text names next first left now) (one_less k n below) ∙ ap told is

pub others_on : (names : Option Names) (next : ThreadId → Option ThreadId) (first now to : ThreadId) (k n : ℕ) → k < n → next now ≡ Some to
    → others_text names next first (n - k) now ≡ arrow_text names to ++ (if is_thread to first then [] else others_text names next first (n - (k + 1)) to)
others_on names next first now to k n below is =
    let m = n - (k + 1) in
    let told : Option ThreadId → List ℕ = λ found. option_map_or (λ (one : ThreadId). arrow_text names one ++ (if is_thread one first then [] else others_text names next first m one)) found [] in
    ap (λ (left : ℕ). others_text names next first left now) (one_less k n below) ∙ ap told is

pub others_last : (names : Option Names) (next : ThreadId → Option ThreadId) (first now to : ThreadId) (k n : ℕ) → k < n → next now ≡ Some to → is_thread to first ≡ true
    → others_text names next first (n - k) now ≡ arrow_text names to
others_last names next first now to k n below is last =
    others_on names next first now to k n below is
    ∙ ap (λ (b : Bool). arrow_text names to ++ (if b then [] else others_text names next first (n - (k + 1)) to)) last ∙ append-nil (arrow_text names to)

-- a piece is written, and the rest stands as before
pub written_on : (out new w rest all whole : List ℕ) → new ≡ out ++ w → all ≡ w ++ rest → out ++ all ≡ whole → new ++ rest ≡ whole
written_on out new w rest all whole one is so =
    let two : (out ++ w) ++ rest ≡ out ++ (w ++ rest) = simp append_assoc in
    rw one (two ∙ ap (λ (x : List ℕ). out ++ x) (sym is) ∙ so)

-- nothing is left to write
pub written_all : (out all whole : List ℕ) → all ≡ [] → out ++ all ≡ whole → out ≡ whole
written_all out all whole is so = sym (append-nil out) ∙ ap (λ (x : List ℕ). out ++ x) (sym is) ∙ so
