-- Calls that lead from one thread to the next.
use Rattle.std.proofs.Common.{◌≡◌, ◌∙◌, ◌+◌, ◌-◌, ◌<◌, ◌++◌, ℕ, suc, List, [], codes, append_assoc, append-nil, ap, sym, refl, arith, false, if◌then◌else◌}
use Rattle.std.specs.Prelude.{◌||◌, Bool, Option, Some, None}
use Rattle.std.specs.Option.{option_map_or}
use Rattle.lwkt_base.specs.declared.names.ThreadId.{ThreadId}
use Rattle.lwkt_text.specs.declared.tables.Names.{Names}
use Rattle.lwkt_told.specs.declared.circles.Call.{Call}
use Rattle.lwkt_told.specs.Called.{is_thread}
use Rattle.lwkt_told.specs.Circles.{comes_back, calls_told, wait_told}

-- one call less is left
one_less : (k n : ℕ) → k < n → n - k ≡ suc (n - (k + 1))
one_less k n below = omega arith

-- whether the calls come back, from the thread that is called on
pub comes_on : (next : ThreadId → Option Call) (first now : ThreadId) (call : Call) (k n : ℕ) → k < n → next now ≡ Some call → is_thread call.target first ≡ false
    → comes_back next first (n - k) now ≡ comes_back next first (n - (k + 1)) call.target
comes_on next first now call k n below is other =
    let m = n - (k + 1) in
    let back : Option Call → Bool = λ found. option_map_or (λ (one : Call). is_thread one.target first || comes_back next first m one.target) found false in
    ap (λ (left : ℕ). comes_back next first left now) (one_less k n below) ∙ ap back is ∙ ap (λ (b : Bool). b || comes_back next first m call.target) other

-- what is told of a thread that waits for no call, and of one that waits for a call
pub calls_end : (names : Names) (next : ThreadId → Option Call) (first now : ThreadId) (k n : ℕ) → k < n → next now ≡ None → calls_told names next first (n - k) now ≡ []
calls_end names next first now k n below is =
    let m = n - (k + 1) in
    let told : Option Call → List ℕ = λ found. option_map_or (λ (one : Call). wait_told names now one ++ (if is_thread one.target first then [] else codes ", " ++ calls_told names next first m one.target)) found [] in
    ap (λ (left : ℕ). calls_told names next first left now) (one_less k n below) ∙ ap told is

pub calls_on : (names : Names) (next : ThreadId → Option Call) (first now : ThreadId) (call : Call) (k n : ℕ) → k < n → next now ≡ Some call → is_thread call.target first ≡ false
    → calls_told names next first (n - k) now ≡ wait_told names now call ++ (codes ", " ++ calls_told names next first (n - (k + 1)) call.target)
calls_on names next first now call k n below is other =
    let m = n - (k + 1) in
    let told : Option Call → List ℕ = λ found. option_map_or (λ (one : Call). wait_told names now one ++ (if is_thread one.target first then [] else codes ", " ++ calls_told names next first m one.target)) found [] in
    ap (λ (left : ℕ). calls_told names next first left now) (one_less k n below) ∙ ap told is
    ∙ ap (λ (b : Bool). wait_told names now call ++ (if b then [] else codes ", " ++ calls_told names next first m call.target)) other

-- two pieces are written, and the rest stands as before
pub written_on : (out mid new w s rest all whole : List ℕ) → mid ≡ out ++ w → new ≡ mid ++ s → all ≡ w ++ (s ++ rest) → out ++ all ≡ whole → new ++ rest ≡ whole
written_on out mid new w s rest all whole one two is so =
    let three : ((out ++ w) ++ s) ++ rest ≡ out ++ (w ++ (s ++ rest)) = simp append_assoc in
    rw (two, one) (three ∙ ap (λ (x : List ℕ). out ++ x) (sym is) ∙ so)

-- nothing is left to write
pub written_all : (out all whole : List ℕ) → all ≡ [] → out ++ all ≡ whole → out ≡ whole
written_all out all whole is so = sym (append-nil out) ∙ ap (λ (x : List ℕ). out ++ x) (sym is) ∙ so
