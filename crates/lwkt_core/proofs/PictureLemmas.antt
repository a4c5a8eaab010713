use Rattle.std.proofs.Common.{eqb, ltb, ◌||◌, ◌&&◌, ◌≡◌, ◌≢◌, ⊎_elim, ℕ, zero, suc, ◌+◌, ◌<◌, ◌≤◌, Bool, true, false, cond, List, [], ◌∷◌, length, get_or, set, refl, ap, sym, ◌∙◌, subst, arith, All, length-set, get_or-set_same}
use Rattle.std.specs.Prelude.{sum_by}
use Rattle.std.specs.List.{list_any}
use Rattle.std.proofs.lemmas.Bool.{eqb-false, ltb-false, le-ltb, ne_eqb, or_parts, or_from, cases_Bool, cases_lt, false≢true}
use Rattle.std.proofs.lemmas.List.{get_or_default}
use Rattle.std.proofs.Math.ListN.{get_or-eq_default}
use Rattle.std.proofs.lemmas.List.Folds.{list_any_at, list_any_none}
use Rattle.std.proofs.lemmas.List.Sums.{sum_by-set, sum_by-le, get_or-le-sum_by}
use Rattle.std.proofs.lemmas.Option.{get_or_from_slice_get, slice_get_within}
use Rattle.lwkt_base.specs.declared.names.CpuId.{CpuId}
use Rattle.lwkt_base.specs.declared.names.TokId.{TokId}
use Rattle.lwkt_base.specs.declared.names.Mode.TheVariants.{Exclusive, Shared}
use Rattle.lwkt_base.specs.declared.holdings.Held.{Held}
use Rattle.lwkt_base.specs.declared.holdings.Held.TheVariants.{Nothing, Holds}
use Rattle.lwkt_base.specs.declared.words.TokWord.{TokWord}
use Rattle.lwkt_base.specs.declared.words.Decision.TheVariants.{Take as TakeTo, Held as IsHeldBack, Marked, Worn}
use Rattle.lwkt_base.specs.declared.limits.TheConstants.{LAST_GENERATION}
use Rattle.lwkt_base.specs.Holding.{references_in, is_exclusive}
use Rattle.lwkt_base.specs.TokenWord.{bit, word_of, decision}
use Rattle.lwkt_core.specs.declared.tokens.Token.{Token}
use Rattle.lwkt_core.specs.declared.events.Event.TheVariants.{Take, Share}
use Rattle.lwkt_core.specs.Tokens.{held_by, IsFree, IsOpen, IsSafeToken, token_after}
use Rattle.lwkt_core.specs.Picture.{count_of_held, picture_of, DecisionsAreEvents, PicturesFit}
use Rattle.lwkt_core.proofs.MachineMoves.{references_le}

-- a bit is 0 or 1
bit-le : (b : Bool) → bit b ≤ 1
bit-le true = omega arith
bit-le false = omega arith

-- a holding counts at most its references
count_of_held-le : (held : Held) → count_of_held held ≤ references_in held
count_of_held-le Nothing = omega arith
count_of_held-le (Holds Shared further) = omega arith
count_of_held-le (Holds Exclusive further) = omega arith

-- what isn't held exclusively and doesn't count isn't held
nothing_of : (held : Held) → is_exclusive held ≡ false → count_of_held held ≡ 0 → held ≡ Nothing
nothing_of Nothing shared none = refl
nothing_of (Holds Shared further) shared none = absurd (omega arith)
nothing_of (Holds Exclusive further) shared none = absurd (false≢true (sym shared))

-- a test of a list stays as it was where an element passes as the one before it did
list_any-set : {A : Type 0} (p : A → Bool) (xs : List A) (i : ℕ) (y d : A) → i < length xs → p y ≡ p (get_or xs i d) → list_any p (set xs i y) ≡ list_any p xs
list_any-set p [] i y d h e = refl
list_any-set p (x ∷ xs) zero y d h e = ap (λ b. b || list_any p xs) e
list_any-set p (x ∷ xs) (suc i) y d h e = ap (λ b. p x || b) (list_any-set p xs i y d (omega arith) e)

-- nobody holds the token exclusively where its picture has no exclusive bit
pub IsOpen-from_picture : (tok : Token) → (picture_of tok).exclusive ≡ false → IsOpen tok
IsOpen-from_picture tok none cpu = ⊎_elim (λ yes'. absurd (held_so cpu yes')) (λ no'. no') (cases_Bool (is_exclusive (held_by tok cpu)))
  where
    held_so : (one : ℕ) → is_exclusive (held_by tok one) ≡ true → ⊥
    held_so one yes' = ⊎_elim
        (λ (inside : one < length tok.holders). false≢true (sym none ∙ list_any_at is_exclusive tok.holders one Nothing inside yes'))
        (λ (beyond : length tok.holders ≤ one). false≢true (sym (ap is_exclusive (get_or-eq_default tok.holders Nothing beyond)) ∙ yes'))
        (cases_lt one (length tok.holders))

-- the picture of a token that nobody holds exclusively has no exclusive bit
pub picture-open : (tok : Token) → IsOpen tok → (picture_of tok).exclusive ≡ false
picture-open tok opened = list_any_none is_exclusive tok.holders (λ k d inside. ap is_exclusive (get_or_default tok.holders k d Nothing inside) ∙ opened k)

-- nobody holds the token where its picture has neither an exclusive bit nor a count
pub IsFree-from_picture : (tok : Token) → (picture_of tok).exclusive ≡ false → (picture_of tok).count ≡ 0 → IsFree tok
IsFree-from_picture tok none no_count cpu = ⊎_elim
    (λ (inside : cpu < length tok.holders). let most = get_or-le-sum_by count_of_held tok.holders cpu Nothing inside in nothing_of (held_by tok cpu) (IsOpen-from_picture tok none cpu) (omega arith))
    (λ (beyond : length tok.holders ≤ cpu). get_or-eq_default tok.holders Nothing beyond)
    (cases_lt cpu (length tok.holders))

-- the picture of a token that nobody holds has no count
pub picture-free : (tok : Token) → IsFree tok → (picture_of tok).count ≡ 0
picture-free tok free =
    let none : All (λ held. count_of_held held ≤ 0) tok.holders = (λ k d inside. let e = ap count_of_held (get_or_default tok.holders k d Nothing inside ∙ free k) in omega arith) in
    let le = sum_by-le count_of_held 0 tok.holders none in omega arith

-- where a processor that holds nothing takes a first reference, the picture gains what that holding counts
pub count-first : (tok : Token) (cpu : ℕ) (held : Held) → cpu < length tok.holders → held_by tok cpu ≡ Nothing → sum_by count_of_held (set tok.holders cpu held) ≡ sum_by count_of_held tok.holders + count_of_held held
count-first tok cpu held inside nothing =
    let grown = sum_by-set count_of_held tok.holders cpu held Nothing inside in
    let none = ap count_of_held nothing in omega (arith, grown, none)

-- the picture after Take has the exclusive bit, no mark, and the same count
pub picture-taken : (tok : Token) (cpu : CpuId) (t : TokId) → cpu.0 < length tok.holders → held_by tok cpu.0 ≡ Nothing → picture_of (token_after tok (Take cpu t)) ≡ record (picture_of tok) { exclusive = true; mark = false }
picture-taken tok cpu t inside nothing = rw nothing (
    let l = length-set tok.holders cpu.0 (Holds Exclusive 0) in
    let bits = list_any_at is_exclusive (set tok.holders cpu.0 (Holds Exclusive 0)) cpu.0 Nothing (omega arith) (ap is_exclusive (get_or-set_same tok.holders cpu.0 (Holds Exclusive 0) Nothing inside)) in
    let same : sum_by count_of_held (set tok.holders cpu.0 (Holds Exclusive 0)) ≡ sum_by count_of_held tok.holders = (let g = count-first tok cpu.0 (Holds Exclusive 0) inside nothing in omega (arith, g)) in
    rw (bits, same) refl)

-- the picture after Share has one more in its count
pub picture-shared : (tok : Token) (cpu : CpuId) (t : TokId) → cpu.0 < length tok.holders → held_by tok cpu.0 ≡ Nothing → picture_of (token_after tok (Share cpu t)) ≡ record (picture_of tok) { count = (picture_of tok).count + 1 }
picture-shared tok cpu t inside nothing = rw nothing (
    let bits = list_any-set is_exclusive tok.holders cpu.0 (Holds Shared 0) Nothing inside (sym (ap is_exclusive nothing)) in
    let more : sum_by count_of_held (set tok.holders cpu.0 (Holds Shared 0)) ≡ sum_by count_of_held tok.holders + 1 = (let g = count-first tok cpu.0 (Holds Shared 0) inside nothing in omega (arith, g)) in
    rw (bits, more) refl)

-- what an exclusive request finds where it takes the token
pub decided-exclusive : (w : TokWord) (alone : Bool) (next : ℕ) → decision w Exclusive alone ≡ TakeTo next → (w.generation ≢ LAST_GENERATION) × (w.exclusive ≡ false) × (w.count ≡ 0)
decided-exclusive w alone next takes =
    let parts = go (eqb w.generation LAST_GENERATION) (w.exclusive || ltb 0 w.count) (word_of (record w { exclusive = true; mark = false })) takes in
    let bits = or_parts w.exclusive (ltb 0 w.count) parts.1 in
    let few = ltb-false 0 w.count bits.1 in
    (eqb-false w.generation LAST_GENERATION parts.0, bits.0, omega arith)
  where
    go : (b c : Bool) (x : ℕ) → cond b Worn (cond c IsHeldBack (TakeTo x)) ≡ TakeTo next → (b ≡ false) × (c ≡ false)
    go true c x e = absurd (let h : Worn ≡ TakeTo next = e in cc)
    go false true x e = absurd (let h : IsHeldBack ≡ TakeTo next = e in cc)
    go false false x e = (refl, refl)

-- what a shared request finds where it takes the token
pub decided-shared : (w : TokWord) (alone : Bool) (next : ℕ) → decision w Shared alone ≡ TakeTo next → (w.exclusive ≡ false) × ((w.mark && alone) ≡ false)
decided-shared w alone next takes = go w.exclusive (w.mark && alone) (word_of (record w { count = w.count + 1 })) takes
  where
    go : (b c : Bool) (x : ℕ) → cond b IsHeldBack (cond c Marked (TakeTo x)) ≡ TakeTo next → (b ≡ false) × (c ≡ false)
    go true c x e = absurd (let h : IsHeldBack ≡ TakeTo next = e in cc)
    go false true x e = absurd (let h : Marked ≡ TakeTo next = e in cc)
    go false false x e = (refl, refl)

-- an exclusive request takes a token that nobody holds and that isn't worn
takes_free : (w : TokWord) (alone : Bool) → w.generation < LAST_GENERATION → w.exclusive ≡ false → w.count ≡ 0 → decision w Exclusive alone ≡ TakeTo (word_of (record w { exclusive = true; mark = false }))
takes_free w alone unworn opened none =
    let gen : eqb w.generation LAST_GENERATION ≡ false = ne_eqb w.generation LAST_GENERATION (λ e. omega arith) in
    let free : (w.exclusive || ltb 0 w.count) ≡ false = or_from w.exclusive (ltb 0 w.count) opened (le-ltb 0 w.count (omega arith)) in
    rw (gen, free) refl

-- a shared request takes a token that nobody holds exclusively, unless the mark stops it
takes_open : (w : TokWord) (alone : Bool) → w.exclusive ≡ false → (w.mark && alone) ≡ false → decision w Shared alone ≡ TakeTo (word_of (record w { count = w.count + 1 }))
takes_open w alone opened unstopped = rw (opened, unstopped) refl

pub decides : DecisionsAreEvents
decides cpus tok cpu t alone few safe here nothing = record {
  takes = λ needs. takes_free (picture_of tok) alone needs.1 (picture-open tok (λ p. ap is_exclusive (needs.0 p))) (picture-free tok needs.0) ∙ ap (λ w. TakeTo (word_of w)) (sym (picture-taken tok cpu t inside nothing));
  takes_only = λ next is. let found = decided-exclusive (picture_of tok) alone next is in (IsFree-from_picture tok found.1 found.2, (let g = safe.in_range in let d = found.0 in omega (arith, g, d)));
  shares = λ needs unstopped. takes_open (picture_of tok) alone (picture-open tok needs.0) unstopped ∙ ap (λ w. TakeTo (word_of w)) (sym (picture-shared tok cpu t inside nothing));
  shares_only = λ next is. let found = decided-shared (picture_of tok) alone next is in ((IsOpen-from_picture tok found.0, nothing), found.1);
}
  where
    inside : cpu.0 < length tok.holders
    inside = let e = safe.eight_holders in omega arith

-- the count has room in its bits
pub count-le : (cpus : ℕ) (tok : Token) → IsSafeToken cpus tok → ((cpu : ℕ) → references_in (held_by tok cpu) ≤ 32) → (picture_of tok).count ≤ 256
count-le cpus tok safe few =
    let most : All (λ held. count_of_held held ≤ 32) tok.holders = (λ k d inside. let c = count_of_held-le (get_or tok.holders k Nothing) in let f = few k in let e = ap count_of_held (get_or_default tok.holders k d Nothing inside) in omega arith) in
    let le = sum_by-le count_of_held 32 tok.holders most in
    let eight = safe.eight_holders in omega arith

-- the word has room for another reference
pub word-room : (cpus : ℕ) (tok : Token) → IsSafeToken cpus tok → ((cpu : ℕ) → references_in (held_by tok cpu) ≤ 32) → word_of (picture_of tok) + 4 < 18446744073709551616
word-room cpus tok safe few =
    let c = count-le cpus tok safe few in
    let g = safe.in_range in
    let a = bit-le (picture_of tok).exclusive in
    let b = bit-le tok.mark in omega arith

pub fit : PicturesFit
fit m i tok safe at =
    let token : IsSafeToken m.cpus tok = subst (IsSafeToken m.cpus) (get_or_from_slice_get m.tokens i tok tok at) (safe.each_token i tok (slice_get_within m.tokens i tok at)) in
    let few : (cpu : ℕ) → references_in (held_by tok cpu) ≤ 32 = (λ cpu. let one = references_le m.tokens cpu i tok at in let all = safe.few cpu in omega (arith, one, all)) in
    let c = count-le m.cpus tok token few in
    let g = token.in_range in
    ((omega arith, omega arith), word-room m.cpus tok token few)
