-- The steps on a token's word as the token's events.
use Rattle.std.proofs.Common.{eqb, ltb, ◌||◌, ◌&&◌, ◌≡◌, ◌≢◌, ⊎_elim, inl, inr, ◌⊎◌, ℕ, zero, suc, ◌+◌, ◌-◌, ◌<◌, Bool, true, false, cond, List, [], ◌∷◌, length, get_or, set, refl, ap, sym, ◌∙◌, subst, arith, get_or-set_same, Result, Ok, Err}
use Rattle.std.specs.Prelude.{sum_by}
use Rattle.std.specs.List.{list_any}
use Rattle.std.proofs.lemmas.Bool.{eqb-true, eqb-false, ltb-false, lt-ltb, le-ltb, ne_eqb, or_parts, or_from, cases_eq, false≢true}
use Rattle.std.proofs.lemmas.List.{get_or-set_other}
use Rattle.std.proofs.lemmas.List.Folds.{list_any_at}
use Rattle.std.proofs.lemmas.List.Sums.{sum_by-set, get_or-le-sum_by}
use Rattle.std.proofs.lemmas.Option.{get_or_from_slice_get, slice_get_within}
use Rattle.lwkt_base.specs.declared.faults.Fault.{Fault}
use Rattle.lwkt_base.specs.declared.faults.Fault.TheVariants.{Busy, Worn, Limits}
use Rattle.lwkt_base.specs.declared.names.CpuId.{CpuId}
use Rattle.lwkt_base.specs.declared.names.TokId.{TokId}
use Rattle.lwkt_base.specs.declared.names.Mode.TheVariants.{Exclusive, Shared}
use Rattle.lwkt_base.specs.declared.holdings.Held.{Held}
use Rattle.lwkt_base.specs.declared.holdings.Held.TheVariants.{Nothing, Holds}
use Rattle.lwkt_base.specs.declared.sections.Section.{Section}
use Rattle.lwkt_base.specs.declared.words.TokWord.{TokWord}
use Rattle.lwkt_base.specs.declared.limits.TheConstants.{LAST_GENERATION}
use Rattle.lwkt_base.specs.Holding.{is_exclusive, is_held, one_more, one_less}
use Rattle.lwkt_base.specs.TokenWord.{word_of}
use Rattle.lwkt_core.specs.declared.events.Event.TheVariants.{Again, GiveOne, GiveClean, GiveWritten}
use Rattle.lwkt_core.specs.declared.tokens.Token.{Token}
use Rattle.lwkt_core.specs.Tokens.{held_by, IsFree, IsNotLastExclusive, IsSafeToken, TokenNeeds, with_less}
use Rattle.lwkt_core.specs.Picture.{count_of_held, picture_of}
use Rattle.lwkt_core.proofs.MachineMoves.{references_le}
use Rattle.lwkt_core.proofs.PictureLemmas.{IsOpen-from_picture, IsFree-from_picture, picture-open, picture-free, picture-taken, picture-shared, count-le, fit}
use Rattle.lwkt_core.specs.WordSteps.{exclusive_taken, shared_taken, gained, one_given, exclusive_ended, clean_given, written_given}
use Rattle.lwkt_core.specs.WordEvents.{word_after, StepsAreEvents}

-- a test of a list stays as it was where an element passes as the one before it did
list_any-set : {A : Type 0} (p : A → Bool) (xs : List A) (i : ℕ) (y d : A) → i < length xs → p y ≡ p (get_or xs i d) → list_any p (set xs i y) ≡ list_any p xs
list_any-set p [] i y d h e = refl
list_any-set p (x ∷ xs) zero y d h e = ap (λ b. b || list_any p xs) e
list_any-set p (x ∷ xs) (suc i) y d h e = ap (λ b. p x || b) (list_any-set p xs i y d (omega arith) e)

-- a refused step
abbrev refused : Fault → Result ℕ Fault
refused fault = Err fault

or_right : (b c : Bool) → c ≡ true → (b || c) ≡ true
or_right true c e = refl
or_right false c e = e

or_left : (b c : Bool) → b ≡ true → (b || c) ≡ true
or_left b c e = ap (λ x. x || c) e

-- a further reference counts one more, in the mode of the first
count_of_held-more : (held : Held) → is_held held ≡ true → count_of_held (one_more held Shared) ≡ count_of_held held + 1
count_of_held-more Nothing yes' = absurd (false≢true yes')
count_of_held-more (Holds Shared further) yes' = omega arith
count_of_held-more (Holds Exclusive further) yes' = omega arith

exclusive-more : (held : Held) → is_held held ≡ true → is_exclusive (one_more held Shared) ≡ is_exclusive held
exclusive-more Nothing yes' = absurd (false≢true yes')
exclusive-more (Holds Shared further) yes' = refl
exclusive-more (Holds Exclusive further) yes' = refl

-- what is held is exclusive, or counts
exclusive_or_counted : (held : Held) → is_held held ≡ true → (is_exclusive held ≡ true) ⊎ (0 < count_of_held held)
exclusive_or_counted Nothing yes' = absurd (false≢true yes')
exclusive_or_counted (Holds Shared further) yes' = inr (omega arith)
exclusive_or_counted (Holds Exclusive further) yes' = inl refl

-- a reference back that doesn't end an exclusive holding counts one less, in the same mode
count_of_held-less : (held : Held) → IsNotLastExclusive held → count_of_held (one_less held) + 1 ≡ count_of_held held
count_of_held-less Nothing may = absurd may
count_of_held-less (Holds Shared further) may = less further (eqb further 0) refl
  where
    less : (n : ℕ) (b : Bool) → eqb n 0 ≡ b → count_of_held (cond b Nothing (Holds Shared (n - 1))) + 1 ≡ n + 1
    less n true e = let z = eqb-true n 0 e in omega arith
    less n false e = let z = eqb-false n 0 e in omega arith
count_of_held-less (Holds Exclusive further) may = less further (eqb further 0) refl may
  where
    less : (n : ℕ) (b : Bool) → eqb n 0 ≡ b → 0 < n → count_of_held (cond b Nothing (Holds Exclusive (n - 1))) + 1 ≡ n
    less n true e h = absurd (let z = eqb-true n 0 e in omega arith)
    less n false e h = omega arith

exclusive-less : (held : Held) → IsNotLastExclusive held → is_exclusive (one_less held) ≡ is_exclusive held
exclusive-less Nothing may = absurd may
exclusive-less (Holds Shared further) may = less further (eqb further 0)
  where
    less : (n : ℕ) (b : Bool) → is_exclusive (cond b Nothing (Holds Shared (n - 1))) ≡ false
    less n true = refl
    less n false = refl
exclusive-less (Holds Exclusive further) may = less further (eqb further 0) refl may
  where
    less : (n : ℕ) (b : Bool) → eqb n 0 ≡ b → 0 < n → is_exclusive (cond b Nothing (Holds Exclusive (n - 1))) ≡ true
    less n true e h = absurd (let z = eqb-true n 0 e in omega arith)
    less n false e h = refl

-- the picture of a token of which one processor's holding has changed within its mode
picture-set : (tok : Token) (cpu n : ℕ) (held : Held) → cpu < length tok.holders → is_exclusive held ≡ is_exclusive (held_by tok cpu) → n + count_of_held (held_by tok cpu) ≡ (picture_of tok).count + count_of_held held → picture_of (record tok { holders = set tok.holders cpu held }) ≡ record (picture_of tok) { count = n }
picture-set tok cpu n held inside same counts =
    let bits = list_any-set is_exclusive tok.holders cpu held Nothing inside same in
    let grown = sum_by-set count_of_held tok.holders cpu held Nothing inside in
    let sums : sum_by count_of_held (set tok.holders cpu held) ≡ n = omega (arith, grown, counts) in
    rw (bits, sums) refl

-- a refused step gives no word
not_made : (fault : Fault) (next : ℕ) → refused fault ≡ Ok next → ⊥
not_made fault next e = cc

-- what a step that takes the token found of its word
exclusive_taken-found : (w : TokWord) (next : ℕ) → exclusive_taken w ≡ Ok next → (w.generation ≢ LAST_GENERATION) × (w.exclusive ≡ false) × (w.count ≡ 0)
exclusive_taken-found w next takes =
    let parts = go (eqb w.generation LAST_GENERATION) (w.exclusive || ltb 0 w.count) (word_of (record w { exclusive = true; mark = false })) takes in
    let bits = or_parts w.exclusive (ltb 0 w.count) parts.1 in
    let few = ltb-false 0 w.count bits.1 in
    (eqb-false w.generation LAST_GENERATION parts.0, bits.0, omega arith)
  where
    go : (b c : Bool) (x : ℕ) → cond b (Err Worn) (cond c (Err Busy) (Ok x)) ≡ Ok next → (b ≡ false) × (c ≡ false)
    go true c x e = absurd (not_made Worn next e)
    go false true x e = absurd (not_made Busy next e)
    go false false x e = (refl, refl)

shared_taken-found : (w : TokWord) (alone : Bool) (next : ℕ) → shared_taken alone w ≡ Ok next → (w.exclusive ≡ false) × ((w.mark && alone) ≡ false)
shared_taken-found w alone next takes = or_parts w.exclusive (w.mark && alone) (go (w.exclusive || (w.mark && alone)) (cond (eqb w.count 65535) (Err Limits) (Ok (word_of (record w { count = w.count + 1 })))) takes)
  where
    go : (b : Bool) (x : Result ℕ Fault) → cond b (Err Busy) x ≡ Ok next → b ≡ false
    go true x e = absurd (not_made Busy next e)
    go false x e = refl

taken_at : (w : TokWord) → w.generation < LAST_GENERATION → w.exclusive ≡ false → w.count ≡ 0 → exclusive_taken w ≡ Ok (word_of (record w { exclusive = true; mark = false }))
taken_at w unworn opened none =
    let gen : eqb w.generation LAST_GENERATION ≡ false = ne_eqb w.generation LAST_GENERATION (λ e. omega arith) in
    let free : (w.exclusive || ltb 0 w.count) ≡ false = or_from w.exclusive (ltb 0 w.count) opened (le-ltb 0 w.count (omega arith)) in
    rw (gen, free) refl

shared_at : (w : TokWord) (alone : Bool) → w.count < 65535 → w.exclusive ≡ false → (w.mark && alone) ≡ false → shared_taken alone w ≡ Ok (word_of (record w { count = w.count + 1 }))
shared_at w alone few opened unstopped =
    let room : eqb w.count 65535 ≡ false = ne_eqb w.count 65535 (λ e. omega arith) in
    let free : (w.exclusive || (w.mark && alone)) ≡ false = or_from w.exclusive (w.mark && alone) opened unstopped in
    rw (free, room) refl

gained_at : (w : TokWord) → w.count < 65535 → (ltb 0 w.count || w.exclusive) ≡ true → gained w ≡ Ok (word_of (record w { count = w.count + 1 }))
gained_at w few held =
    let room : eqb w.count 65535 ≡ false = ne_eqb w.count 65535 (λ e. omega arith) in
    rw (held, room) refl

one_given_at : (w : TokWord) → 0 < w.count → one_given w ≡ Ok (word_of (record w { count = w.count - 1 }))
one_given_at w some =
    let none : eqb w.count 0 ≡ false = ne_eqb w.count 0 (λ e. omega arith) in
    rw none refl

ended_at : (w : TokWord) (next : ℕ) → w.exclusive ≡ true → w.count ≡ 0 → exclusive_ended w next ≡ Ok next
ended_at w next held none =
    let last : ltb 0 w.count ≡ false = le-ltb 0 w.count (omega arith) in
    rw (held, last) refl

module _ (cpus : ℕ) (tok : Token) (cpu : CpuId) (t : TokId) (safe : IsSafeToken cpus tok) (inside : cpu.0 < length tok.holders) (few : (picture_of tok).count < 65535) where
  gains_at : TokenNeeds tok (Again cpu t) → gained (picture_of tok) ≡ Ok (word_after tok (Again cpu t))
  gains_at holds =
      let held : (ltb 0 (picture_of tok).count || (picture_of tok).exclusive) ≡ true = ⊎_elim
      (λ (yes' : is_exclusive (held_by tok cpu.0) ≡ true). or_right (ltb 0 (picture_of tok).count) (picture_of tok).exclusive (list_any_at is_exclusive tok.holders cpu.0 Nothing inside yes'))
      (λ (some : 0 < count_of_held (held_by tok cpu.0)). or_left (ltb 0 (picture_of tok).count) (picture_of tok).exclusive (lt-ltb 0 (picture_of tok).count (let most = get_or-le-sum_by count_of_held tok.holders cpu.0 Nothing inside in omega arith)))
      (exclusive_or_counted (held_by tok cpu.0) holds) in
      let more = count_of_held-more (held_by tok cpu.0) holds in
      let shown = picture-set tok cpu.0 ((picture_of tok).count + 1) (one_more (held_by tok cpu.0) Shared) inside (exclusive-more (held_by tok cpu.0) holds) (omega (arith, more)) in
      gained_at (picture_of tok) few held ∙ ap (λ w. Ok (word_of w)) (sym shown)

  gives_one_at : TokenNeeds tok (GiveOne cpu t) → one_given (picture_of tok) ≡ Ok (word_after tok (GiveOne cpu t))
  gives_one_at may =
      let less = count_of_held-less (held_by tok cpu.0) may in
      let most = get_or-le-sum_by count_of_held tok.holders cpu.0 Nothing inside in
      let some : 0 < (picture_of tok).count = omega (arith, less, most) in
      let shown = picture-set tok cpu.0 ((picture_of tok).count - 1) (one_less (held_by tok cpu.0)) inside (exclusive-less (held_by tok cpu.0) may) (omega (arith, less, some)) in
      one_given_at (picture_of tok) some ∙ ap (λ w. Ok (word_of w)) (sym shown)

  -- an exclusive holder's last reference back leaves the token free
  freed : held_by tok cpu.0 ≡ Holds Exclusive 0 → IsFree (with_less tok cpu.0)
  freed holds other = ⊎_elim
      (λ (same : other ≡ cpu.0). subst (λ k. held_by (with_less tok cpu.0) k ≡ Nothing) (sym same) (get_or-set_same tok.holders cpu.0 (one_less (held_by tok cpu.0)) Nothing inside ∙ ap one_less holds))
      (λ (differs : other ≡ cpu.0 → ⊥). get_or-set_other tok.holders cpu.0 other (one_less (held_by tok cpu.0)) Nothing differs ∙ safe.compatible cpu.0 other (ap is_exclusive holds) (λ e. differs (sym e)))
      (cases_eq other cpu.0)

  -- and it counts nothing before
  uncounted : held_by tok cpu.0 ≡ Holds Exclusive 0 → (picture_of tok).count ≡ 0
  uncounted holds =
      let after = picture-free (with_less tok cpu.0) (freed holds) in
      let grown = sum_by-set count_of_held tok.holders cpu.0 (one_less (held_by tok cpu.0)) Nothing inside in
      let before = ap count_of_held holds in
      let behind = ap (λ h. count_of_held (one_less h)) holds in
      omega (arith, after, grown, before, behind)

  shown_free : held_by tok cpu.0 ≡ Holds Exclusive 0 → picture_of (with_less tok cpu.0) ≡ record (picture_of tok) { exclusive = false }
  shown_free holds =
      let bits = picture-open (with_less tok cpu.0) (λ k. ap is_exclusive (freed holds k)) in
      let counts = picture-free (with_less tok cpu.0) (freed holds) ∙ sym (uncounted holds) in
      rw (bits, counts) refl

  gives_clean_at : TokenNeeds tok (GiveClean cpu t) → clean_given (picture_of tok) ≡ Ok (word_after tok (GiveClean cpu t))
  gives_clean_at needs =
      let held = list_any_at is_exclusive tok.holders cpu.0 Nothing inside (ap is_exclusive needs.0) in
      ended_at (picture_of tok) (word_of (record (picture_of tok) { exclusive = false })) held (uncounted needs.0) ∙ ap (λ w. Ok (word_of w)) (sym (shown_free needs.0))

  gives_written_at : (section : Section) → TokenNeeds tok (GiveWritten cpu t section) → written_given (picture_of tok) ≡ Ok (word_after tok (GiveWritten cpu t section))
  gives_written_at section needs =
      let held = list_any_at is_exclusive tok.holders cpu.0 Nothing inside (ap is_exclusive needs.0) in
      let less = safe.not_worn cpu.0 (ap is_exclusive needs.0) in
      let unworn : eqb tok.generation LAST_GENERATION ≡ false = ne_eqb tok.generation LAST_GENERATION (λ e. omega (arith, less)) in
      let next = ended_at (picture_of tok) (word_of (record (picture_of tok) { exclusive = false; generation = tok.generation + 1 })) held (uncounted needs.0) in
      let F : TokWord → Result ℕ Fault = (λ w. Ok (word_of (record w { generation = tok.generation + 1 }))) in
      let shown = ap F (sym (shown_free needs.0)) in
      (rw unworn next) ∙ shown

pub steps_by_events : StepsAreEvents
steps_by_events m i tok cpu t safe at here = record {
  fits = (fit m i tok safe at).0;
  takes = λ needs. taken_at (picture_of tok) needs.1 (picture-open tok (λ p. ap is_exclusive (needs.0 p))) (picture-free tok needs.0) ∙ ap (λ w. Ok (word_of w)) (sym (picture-taken tok cpu t inside (needs.0 cpu.0)));
  takes_only = λ next is. let found = exclusive_taken-found (picture_of tok) next is in (IsFree-from_picture tok found.1 found.2, (let g = token.in_range in let d = found.0 in omega (arith, g, d)));
  shares = λ alone needs unstopped. shared_at (picture_of tok) alone few (picture-open tok needs.0) unstopped ∙ ap (λ w. Ok (word_of w)) (sym (picture-shared tok cpu t inside needs.1));
  shares_only = λ alone next nothing is. let found = shared_taken-found (picture_of tok) alone next is in ((IsOpen-from_picture tok found.0, nothing), found.1);
  gains = gains_at m.cpus tok cpu t token inside few;
  marks = refl;
  gives_one = gives_one_at m.cpus tok cpu t token inside few;
  gives_clean = gives_clean_at m.cpus tok cpu t token inside few;
  gives_written = gives_written_at m.cpus tok cpu t token inside few;
}
  where
    token : IsSafeToken m.cpus tok
    token = subst (IsSafeToken m.cpus) (get_or_from_slice_get m.tokens i tok tok at) (safe.each_token i tok (slice_get_within m.tokens i tok at))

    inside : cpu.0 < length tok.holders
    inside = let e = token.eight_holders in let p = safe.processors in omega (arith, e, p, here)

    few : (picture_of tok).count < 65535
    few = let most = count-le m.cpus tok token (λ one. let r = references_le m.tokens one i tok at in let all = safe.few one in omega (arith, r, all)) in omega (arith, most)
