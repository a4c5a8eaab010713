use Rattle.std.proofs.Common.{eqb, ltb, ◌||◌, ◌&&◌, ◌≡◌, ◌≢◌, ⊎_elim, ℕ, zero, suc, ◌+◌, ◌-◌, ◌*◌, ◌/◌, ◌<◌, ◌≤◌, Bool, true, false, cond, List, [], ◌∷◌, length, get_or, set, refl, ap, sym, ◌∙◌, arith, All, length-set, get_or-set_same}
use Rattle.lwkt_bank.specs.Views.{one_generation}
use Rattle.std.specs.Prelude.{sum_by, bit_or, bit_and}
use Rattle.std.specs.Int.Bits.{or_add_and}
use Rattle.std.specs.Int.{bit_at}
use Rattle.std.specs.List.{list_any}
use Rattle.std.proofs.lemmas.Nat.Bits.{and_pow}
use Rattle.std.proofs.lemmas.Bool.{eqb-true, eqb-false, ltb-false, or_parts, cases_Bool, cases_lt, false≢true}
use Rattle.std.proofs.lemmas.List.{get_or_default}
use Rattle.std.proofs.Math.ListN.{get_or-eq_default}
use Rattle.std.proofs.lemmas.List.Folds.{list_any_at, list_any_none}
use Rattle.std.proofs.lemmas.List.Sums.{sum_by-set, sum_by-le, get_or-le-sum_by}
use Rattle.lwkt_base.specs.declared.names.Mode.TheVariants.{Exclusive, Shared}
use Rattle.lwkt_base.specs.declared.holdings.Held.{Held}
use Rattle.lwkt_base.specs.declared.holdings.Held.TheVariants.{Nothing, Holds}
use Rattle.lwkt_base.specs.declared.words.TokWord.{TokWord}
use Rattle.lwkt_base.specs.declared.words.Decision.TheVariants.{Take, Held as IsHeldBack, Marked, Worn}
use Rattle.lwkt_base.specs.declared.limits.TheConstants.{LAST_GENERATION}
use Rattle.lwkt_base.specs.Holding.{references_in, is_exclusive, is_held, one_more, one_less}
use Rattle.lwkt_base.specs.TokenWord.{bit, word_of, Fits, decision}
use Rattle.lwkt_core.specs.declared.tokens.Token.{Token}
use Rattle.lwkt_core.specs.Tokens.{held_by, IsFree, IsOpen, IsSafeToken, IsNotLastExclusive}
use Rattle.lwkt_core.specs.Picture.{count_of_held, picture_of}

-- a bit is 0 or 1
pub bit-le : (b : Bool) → bit b ≤ 1
bit-le true = omega arith
bit-le false = omega arith

-- a holding counts at most its references
pub count_of_held-le : (held : Held) → count_of_held held ≤ references_in held
count_of_held-le Nothing = omega arith
count_of_held-le (Holds Shared further) = omega arith
count_of_held-le (Holds Exclusive further) = omega arith

-- what isn't held exclusively and doesn't count isn't held
pub nothing_of : (held : Held) → is_exclusive held ≡ false → count_of_held held ≡ 0 → held ≡ Nothing
nothing_of Nothing shared none = refl
nothing_of (Holds Shared further) shared none = absurd (omega arith)
nothing_of (Holds Exclusive further) shared none = absurd (false≢true (sym shared))

-- one reference more counts one more, where something is held already, and where the first is shared
pub count_of_held-more : (held : Held) → is_held held ≡ true → count_of_held (one_more held Shared) ≡ count_of_held held + 1
count_of_held-more Nothing is = absurd (false≢true is)
count_of_held-more (Holds Shared further) is = refl
count_of_held-more (Holds Exclusive further) is = refl

pub exclusive-more : (held : Held) → is_held held ≡ true → is_exclusive (one_more held Shared) ≡ is_exclusive held
exclusive-more Nothing is = absurd (false≢true is)
exclusive-more (Holds Shared further) is = refl
exclusive-more (Holds Exclusive further) is = refl

-- one reference less counts one less, where it doesn't end an exclusive holding
pub count_of_held-less : (held : Held) → IsNotLastExclusive held → count_of_held (one_less held) + 1 ≡ count_of_held held
count_of_held-less Nothing may = absurd may
count_of_held-less (Holds Shared further) may = less further (eqb further 0) refl
  where
    less : (n : ℕ) (b : Bool) → eqb n 0 ≡ b → count_of_held (cond b Nothing (Holds Shared (n - 1))) + 1 ≡ n + 1
    less n true e = let z = eqb-true n 0 e in omega arith
    less n false e = let z = eqb-false n 0 e in omega arith
count_of_held-less (Holds Exclusive further) may = less further (eqb further 0) refl may
  where
    less : (n : ℕ) (b : Bool) → eqb n 0 ≡ b → 0 < n → count_of_held (cond b Nothing (Holds Exclusive (n - 1))) + 1 ≡ n
    less n true e h = absurd (let z = eqb-true n 0 e in omega arith)
    less n false e h = omega arith

pub exclusive-less : (held : Held) → IsNotLastExclusive held → is_exclusive (one_less held) ≡ is_exclusive held
exclusive-less Nothing may = absurd may
exclusive-less (Holds Shared further) may = less further (eqb further 0)
  where
    less : (n : ℕ) (b : Bool) → is_exclusive (cond b Nothing (Holds Shared (n - 1))) ≡ false
    less n true = refl
    less n false = refl
exclusive-less (Holds Exclusive further) may = less further (eqb further 0) refl may
  where
    less : (n : ℕ) (b : Bool) → eqb n 0 ≡ b → 0 < n → is_exclusive (cond b Nothing (Holds Exclusive (n - 1))) ≡ true
    less n true e h = absurd (let z = eqb-true n 0 e in omega arith)
    less n false e h = refl

-- a test of a list doesn't change where its element passes as before
pub list_any-set : {A : Type 0} (p : A → Bool) (xs : List A) (i : ℕ) (y d : A) → i < length xs → p y ≡ p (get_or xs i d) → list_any p (set xs i y) ≡ list_any p xs
list_any-set p [] i y d h e = refl
list_any-set p (x ∷ xs) zero y d h e = ap (λ b. b || list_any p xs) e
list_any-set p (x ∷ xs) (suc i) y d h e = ap (λ b. p x || b) (list_any-set p xs i y d (omega arith) e)

module _ (tok : Token) where
  -- nobody holds the token exclusively where its picture has no exclusive bit
  pub IsOpen-from_picture : (picture_of tok).exclusive ≡ false → IsOpen tok
  IsOpen-from_picture none cpu = ⊎_elim (λ yes'. absurd (held_so cpu yes')) (λ no'. no') (cases_Bool (is_exclusive (held_by tok cpu)))
    where
      held_so : (cpu : ℕ) → is_exclusive (held_by tok cpu) ≡ true → ⊥
      held_so cpu yes' = ⊎_elim
          (λ (inside : cpu < length tok.holders). false≢true (sym none ∙ list_any_at is_exclusive tok.holders cpu Nothing inside yes'))
          (λ (beyond : length tok.holders ≤ cpu). false≢true (sym (ap is_exclusive (get_or-eq_default tok.holders Nothing beyond)) ∙ yes'))
          (cases_lt cpu (length tok.holders))

  -- the picture of a token that nobody holds exclusively has no exclusive bit
  pub picture-open : IsOpen tok → (picture_of tok).exclusive ≡ false
  picture-open opened = list_any_none is_exclusive tok.holders (λ k d inside. ap is_exclusive (get_or_default tok.holders k d Nothing inside) ∙ opened k)

  -- nobody holds the token where its picture has neither an exclusive bit nor a count
  pub IsFree-from_picture : (picture_of tok).exclusive ≡ false → (picture_of tok).count ≡ 0 → IsFree tok
  IsFree-from_picture none zero_count cpu = ⊎_elim
      (λ (inside : cpu < length tok.holders). let most = get_or-le-sum_by count_of_held tok.holders cpu Nothing inside in nothing_of (held_by tok cpu) (IsOpen-from_picture none cpu) (omega arith))
      (λ (beyond : length tok.holders ≤ cpu). get_or-eq_default tok.holders Nothing beyond)
      (cases_lt cpu (length tok.holders))

  -- the count has room in its bits
  pub count-le : (cpus : ℕ) → IsSafeToken cpus tok → ((cpu : ℕ) → references_in (held_by tok cpu) ≤ 32) → (picture_of tok).count ≤ 256
  count-le cpus safe few =
      let most : All (λ h. count_of_held h ≤ 32) tok.holders = (λ k d inside. let c = count_of_held-le (get_or tok.holders k Nothing) in let f = few k in let e = ap count_of_held (get_or_default tok.holders k d Nothing inside) in omega arith) in
      let le = sum_by-le count_of_held 32 tok.holders most in
      let eight = safe.eight_holders in omega arith

  pub Fits-safe : (cpus : ℕ) → IsSafeToken cpus tok → ((cpu : ℕ) → references_in (held_by tok cpu) ≤ 32) → Fits (picture_of tok)
  Fits-safe cpus safe few = let c = count-le cpus safe few in let g = safe.in_range in (omega arith, omega arith)

  -- the word has room for another reference
  pub word-room : (cpus : ℕ) → IsSafeToken cpus tok → ((cpu : ℕ) → references_in (held_by tok cpu) ≤ 32) → word_of (picture_of tok) + 4 < 18446744073709551616
  word-room cpus safe few =
      let c = count-le cpus safe few in
      let g = safe.in_range in
      let a = bit-le (picture_of tok).exclusive in
      let b = bit-le tok.mark in omega arith

  -- and for another generation, where the token isn't at its last
  pub word-room-written : (cpus : ℕ) → IsSafeToken cpus tok → ((cpu : ℕ) → references_in (held_by tok cpu) ≤ 32) → tok.generation < LAST_GENERATION → word_of (picture_of tok) + one_generation < 18446744073709551616
  word-room-written cpus safe few unworn =
      let c = count-le cpus safe few in
      let a = bit-le (picture_of tok).exclusive in
      let b = bit-le tok.mark in omega arith

  -- the picture after a change of one processor's holding that keeps whether it is exclusive
  module _ (cpu : ℕ) (held : Held) (inside : cpu < length tok.holders) where
    pub count-set : sum_by count_of_held (set tok.holders cpu held) + count_of_held (held_by tok cpu) ≡ sum_by count_of_held tok.holders + count_of_held held
    count-set = sum_by-set count_of_held tok.holders cpu held Nothing inside

    pub exclusive-set : is_exclusive held ≡ is_exclusive (held_by tok cpu) → list_any is_exclusive (set tok.holders cpu held) ≡ list_any is_exclusive tok.holders
    exclusive-set same = list_any-set is_exclusive tok.holders cpu held Nothing inside same

    pub exclusive-here : is_exclusive held ≡ true → list_any is_exclusive (set tok.holders cpu held) ≡ true
    exclusive-here is = let l = length-set tok.holders cpu held in list_any_at is_exclusive (set tok.holders cpu held) cpu Nothing (omega arith) (ap is_exclusive (get_or-set_same tok.holders cpu held Nothing inside) ∙ is)

-- the generation in the word of parts that fit
pub generation-word : (w : TokWord) → w.count < 65536 → word_of w / one_generation ≡ w.generation
generation-word w fits = let a = bit-le w.exclusive in let b = bit-le w.mark in omega arith

-- setting the mark by an or
pub or-marked : (w : TokWord) → w.count < 65536 → bit_or (word_of w) 2 ≡ word_of (record w { mark = true })
or-marked w fits =
    let whole = or_add_and (word_of w) 2 in
    let and_two : bit_and (word_of w) 2 ≡ bit_at (word_of w) 1 * 2 = and_pow (word_of w) 1 in
    let middle : bit_at (word_of w) 1 ≡ bit w.mark = (let a = bit-le w.exclusive in let b = bit-le w.mark in omega arith) in
    let one : bit true ≡ 1 = refl in
    omega arith

-- what a word that an exclusive request takes is
pub decided-exclusive : (w : TokWord) (alone : Bool) (next : ℕ) → decision w Exclusive alone ≡ Take next → (w.generation ≢ LAST_GENERATION) × (w.exclusive ≡ false) × (w.count ≡ 0) × (word_of (record w { exclusive = true; mark = false }) ≡ next)
decided-exclusive w alone next takes =
    let parts = go (eqb w.generation LAST_GENERATION) (w.exclusive || ltb 0 w.count) (word_of (record w { exclusive = true; mark = false })) takes in
    let bits = or_parts w.exclusive (ltb 0 w.count) parts.1 in
    let few = ltb-false 0 w.count bits.1 in
    (eqb-false w.generation LAST_GENERATION parts.0, bits.0, omega arith, parts.2)
  where
    go : (b c : Bool) (x : ℕ) → cond b Worn (cond c IsHeldBack (Take x)) ≡ Take next → (b ≡ false) × (c ≡ false) × (x ≡ next)
    go true c x e = absurd (let h : Worn ≡ Take next = e in cc)
    go false true x e = absurd (let h : IsHeldBack ≡ Take next = e in cc)
    go false false x e = (refl, refl, cc)

-- what a word that a shared request takes is
pub decided-shared : (w : TokWord) (alone : Bool) (next : ℕ) → decision w Shared alone ≡ Take next → (w.exclusive ≡ false) × (word_of (record w { count = w.count + 1 }) ≡ next)
decided-shared w alone next takes = go w.exclusive (w.mark && alone) (word_of (record w { count = w.count + 1 })) takes
  where
    go : (b c : Bool) (x : ℕ) → cond b IsHeldBack (cond c Marked (Take x)) ≡ Take next → (b ≡ false) × (x ≡ next)
    go true c x e = absurd (let h : IsHeldBack ≡ Take next = e in cc)
    go false true x e = absurd (let h : Marked ≡ Take next = e in cc)
    go false false x e = (refl, cc)
