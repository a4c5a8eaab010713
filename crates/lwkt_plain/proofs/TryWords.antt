-- Words that refuse lists are such as threads can have, and one that is still its token's refuses again.
use Rattle.std.proofs.Common.{◌≡◌, ◌<◌, ◌≤◌, ◌+◌, ℕ, zero, suc, List, [], ◌∷◌, ◌++◌, length, take, refl, ap, sym, ◌∙◌, subst, arith, Option, Some, None, Bool, true, false, append_assoc}
use Rattle.std.specs.Prelude.{slice_get, option_and_then, if◌then◌else◌, ◌==◌, ◌&&◌, not, nat_lt}
use Rattle.std.specs.Option.{option_map_or}
use Rattle.std.proofs.lemmas.Bool.{false≢true, and_parts, and_from, eq-eqb, eqb-true, le-leb, ltb-false}
use Rattle.std.proofs.lemmas.Option.{none-some, same_Some}
use Rattle.std.proofs.Math.Seq.{take-append_seam}
use Rattle.lwkt_base.specs.declared.names.CpuId.{CpuId}
use Rattle.lwkt_base.specs.declared.names.Ref.{Ref}
use Rattle.lwkt_base.specs.declared.words.TokWord.{TokWord}
use Rattle.lwkt_base.specs.declared.words.Decision.{Decision}
use Rattle.lwkt_base.specs.declared.words.Decision.TheVariants.{Take as TakeTo, Held as IsHeld, Marked as IsMarked, Worn as IsWorn}
use Rattle.lwkt_base.specs.declared.limits.TheConstants.{CPU_LIMIT}
use Rattle.lwkt_base.specs.TokenWord.{word_of, decision}
use Rattle.lwkt_base.specs.Refs.{names, is_alone}
use Rattle.lwkt_core.specs.declared.tokens.Token.{Token}
use Rattle.lwkt_core.specs.Picture.{picture_of}
use Rattle.lwkt_core.specs.Takings.{taking_event}
use Rattle.lwkt_plain.specs.declared.nexts.Miss.{Miss}
use Rattle.lwkt_plain.specs.declared.nexts.Miss.TheVariants.{Busy, Worn}
use Rattle.lwkt_plain.specs.declared.nexts.Missed.{Missed}
use Rattle.lwkt_plain.specs.declared.states.BusyAt.{BusyAt}
use Rattle.lwkt_plain.specs.Forms.{generation_in, can_match}
use Rattle.lwkt_plain.specs.Sound.{AreSoundTokens, AreHeld, IsSoundList}
use Rattle.lwkt_plain.specs.Tokens.{stepped, refusal, miss_of, Gave, gave, gives, Tried, tried, takes, resume}
use Rattle.lwkt_plain.specs.Turns.{is_still}
use Rattle.lwkt_plain.proofs.TokenSteps.{take_keeps, miss_is, word_fits}
use Rattle.lwkt_plain.proofs.Takings.{after_miss, takes_none, takes_more, fits_as, front_of}
use Rattle.lwkt_plain.proofs.Risings.{gives_rises}
use Rattle.lwkt_plain.proofs.OldWords.{word_parts, parts_are, generation_is, is_word, refuses, has_refused, is_behind, is_old, may_be, behind_on}

-- the word of a refusal is the word that was read
abbrev word_in : Miss → ℕ
word_in (Busy word) = word
word_in Worn = 0

abbrev is_worn : Miss → Bool
is_worn (Busy word) = false
is_worn Worn = true

busy_word : (w : TokWord) (d : Decision) (word : ℕ) → refusal w d ≡ Some (Busy word) → word ≡ word_of w
busy_word w (TakeTo next) word is = absurd (none-some (Busy word) is)
busy_word w IsHeld word is = sym (ap word_in (same_Some (Busy (word_of w)) (Busy word) is))
busy_word w IsMarked word is = sym (ap word_in (same_Some (Busy (word_of w)) (Busy word) is))
busy_word w IsWorn word is = absurd (false≢true (sym (ap is_worn (same_Some Worn (Busy word) is))))

word_is : (o : Option Miss) (word : ℕ) → is_word o word ≡ true → o ≡ Some (Busy word)
word_is None word is = absurd (false≢true is)
word_is (Some Worn) word is = absurd (false≢true is)
word_is (Some (Busy other)) word is = ap (λ (n : ℕ). Some (Busy n)) (eqb-true other word is)

is_it : (o : Option Miss) (word : ℕ) → o ≡ Some (Busy word) → is_word o word ≡ true
is_it o word is = ap (λ (x : Option Miss). is_word x word) is ∙ eq-eqb word word refl

-- what is known of a reference that is missed for a word
pub record MissFacts (tokens : List Token) (refs front : List Ref) (r : Ref) (word : ℕ) : Type 0 where
  pub unnamed : names front r.tok.0 ≡ false
  pub tok : Token
  pub at : slice_get tokens r.tok.0 ≡ Some tok
  pub is : refusal (picture_of tok) (decision (picture_of tok) r.mode (is_alone refs r.tok.0)) ≡ Some (Busy word)

pub miss_facts : (tokens : List Token) (refs front : List Ref) (r : Ref) (word : ℕ) → miss_of tokens refs front r ≡ Some (Busy word) → MissFacts tokens refs front r word
miss_facts tokens refs front r word missed = named (names front r.tok.0) refl missed
  where
    why : Token → Option Miss
    why tok = refusal (picture_of tok) (decision (picture_of tok) r.mode (is_alone refs r.tok.0))

    of_token : names front r.tok.0 ≡ false → (o : Option Token) → slice_get tokens r.tok.0 ≡ o → option_and_then why o ≡ Some (Busy word) → MissFacts tokens refs front r word
    of_token unnamed None at is = absurd (none-some (Busy word) is)
    of_token unnamed (Some tok) at is = record { unnamed = unnamed; tok = tok; at = at; is = is }

    named : (b : Bool) → names front r.tok.0 ≡ b → (if b then None else option_and_then why (slice_get tokens r.tok.0)) ≡ Some (Busy word) → MissFacts tokens refs front r word
    named true unnamed is = absurd (none-some (Busy word) is)
    named false unnamed is = of_token unnamed (slice_get tokens r.tok.0) refl is

-- the reference behind a front
seam : (front : List Ref) (r : Ref) (rest : List Ref) → slice_get (front ++ (r ∷ rest)) (length front) ≡ Some r
seam [] r rest = refl
seam (x ∷ xs) r rest = seam xs r rest

-- a word that refuses a list is such as its thread can have
abbrev pub IsWell : List Token → List Ref → ℕ → Miss → Type 0
IsWell tokens refs at (Busy word) = may_be tokens refs (record { word = word; at = at }) ≡ true
IsWell tokens refs at Worn = Unit {0}

abbrev pub MissesWell : List Ref → Tried → Type 0
MissesWell refs x = (m : Missed) → x.missed ≡ Some m → IsWell x.tokens refs m.at m.why

module _ (cpu : CpuId) (tokens : List Token) (sound : AreSoundTokens tokens) (refs : List Ref) (r : Ref) (rest : List Ref) (word : ℕ) where
  refused_well : (front : List Ref) → refs ≡ front ++ (r ∷ rest) → MissFacts tokens refs front r word → has_refused refs (record { word = word; at = length front }) ≡ true
  refused_well front is f =
      let w = picture_of f.tok in
      let same : word_parts word ≡ w = ap word_parts (busy_word w (decision w r.mode (is_alone refs r.tok.0)) word f.is) ∙ parts_are w (word_fits tokens r.tok.0 f.tok sound f.at) in
      let own : refuses (word_parts word) refs r word ≡ true = ap (λ (x : TokWord). refuses x refs r word) same ∙ is_it _ word f.is in
      let here : slice_get refs (length front) ≡ Some r = ap (λ (xs : List Ref). slice_get xs (length front)) is ∙ seam front r rest in
      let before : take (length front) refs ≡ front = ap (take (length front)) is ∙ take-append_seam front (r ∷ rest) in
      ap (λ (o : Option Ref). option_map_or (λ (q : Ref). not (names (take (length front) refs) q.tok.0) && refuses (word_parts word) refs q word) o false) here
      ∙ and_from (not (names (take (length front) refs) r.tok.0)) (refuses (word_parts word) refs r word) (ap (λ (xs : List Ref). not (names xs r.tok.0)) before ∙ ap not f.unnamed) own

  old_well : (front : List Ref) → refs ≡ front ++ (r ∷ rest) → MissFacts tokens refs front r word → is_old (gives cpu tokens front).tokens refs (record { word = word; at = length front }) ≡ true
  old_well front is f =
      let w = picture_of f.tok in
      let now = (gives cpu tokens front).tokens in
      let same : generation_in word ≡ f.tok.generation =
      ap generation_in (busy_word w (decision w r.mode (is_alone refs r.tok.0)) word f.is) ∙ generation_is w (word_fits tokens r.tok.0 f.tok sound f.at) in
      let before : is_behind word (slice_get tokens r.tok.0) ≡ true = ap (is_behind word) f.at ∙ le-leb (generation_in word) f.tok.generation (omega (arith, same)) in
      ap (λ (xs : List Ref). option_map_or (λ (q : Ref). is_behind word (slice_get now q.tok.0)) (slice_get xs (length front)) true) is
      ∙ ap (λ (o : Option Ref). option_map_or (λ (q : Ref). is_behind word (slice_get now q.tok.0)) o true) (seam front r rest)
      ∙ behind_on word (slice_get tokens r.tok.0) (slice_get now r.tok.0) (gives_rises cpu tokens front r.tok.0) before

  word_well : (front : List Ref) → refs ≡ front ++ (r ∷ rest) → miss_of tokens refs front r ≡ Some (Busy word) → may_be (gives cpu tokens front).tokens refs (record { word = word; at = length front }) ≡ true
  word_well front is missed =
      let f = miss_facts tokens refs front r word missed in
      and_from (has_refused refs (record { word = word; at = length front }))
      (is_old (gives cpu tokens front).tokens refs (record { word = word; at = length front })) (refused_well front is f) (old_well front is f)

why_well : (cpu : CpuId) (tokens : List Token) (sound : AreSoundTokens tokens) (refs front : List Ref) (r : Ref) (rest : List Ref) → refs ≡ front ++ (r ∷ rest) → (why : Miss) → miss_of tokens refs front r ≡ Some why → IsWell (gives cpu tokens front).tokens refs (length front) why
why_well cpu tokens sound refs front r rest is (Busy word) missed = word_well cpu tokens sound refs r rest word front is missed
why_well cpu tokens sound refs front r rest is Worn missed = tt

well_on : (cpu : CpuId) (refs front : List Ref) (r : Ref) (rest : List Ref) (tokens : List Token) → cpu.0 < CPU_LIMIT → AreSoundTokens tokens → AreHeld cpu.0 front tokens → IsSoundList (length tokens) (front ++ (r ∷ rest)) → refs ≡ front ++ (r ∷ rest) → ((next : List Token) → AreSoundTokens next → AreHeld cpu.0 (front ++ r ∷ []) next → IsSoundList (length next) ((front ++ r ∷ []) ++ rest) → MissesWell refs (takes cpu refs next (front ++ r ∷ []) rest)) → (why : Option Miss) → miss_of tokens refs front r ≡ why → MissesWell refs (after_miss cpu refs tokens front r rest why)
well_on cpu refs front r rest tokens here sound held fits is ih None none =
    let next = stepped tokens (taking_event cpu front r) in
    let one = take_keeps tokens cpu refs front r here sound held (front_of (length tokens) front r rest fits) none in
    let split : (front ++ r ∷ []) ++ rest ≡ front ++ (r ∷ rest) = append_assoc front (r ∷ []) rest in
    ih next one.0.sound one.1 (fits_as (length tokens) (length next) ((front ++ r ∷ []) ++ rest) one.0.same (subst (IsSoundList (length tokens)) (sym split) fits))
well_on cpu refs front r rest tokens here sound held fits is ih (Some why) missed =
    λ m same.
    subst (λ (x : Missed). IsWell (gives cpu tokens front).tokens refs x.at x.why) (same_Some (record { at = length front; why = why }) m same) (why_well cpu tokens sound refs front r rest is why missed)

takes_well : (cpu : CpuId) (refs rest front : List Ref) (tokens : List Token) → cpu.0 < CPU_LIMIT → AreSoundTokens tokens → AreHeld cpu.0 front tokens → IsSoundList (length tokens) (front ++ rest) → refs ≡ front ++ rest → MissesWell refs (takes cpu refs tokens front rest)
takes_well cpu refs [] front tokens here sound held fits is = subst (MissesWell refs) (sym (takes_none cpu refs tokens front)) (λ m same. absurd (none-some m same))
takes_well cpu refs (r ∷ rest) front tokens here sound held fits is =
    subst (MissesWell refs) (sym (takes_more cpu refs tokens front r rest))
    (well_on cpu refs front r rest tokens here sound held fits is
    (λ next s h f. takes_well cpu refs rest (front ++ r ∷ []) next here s h f (is ∙ sym (append_assoc front (r ∷ []) rest))) (miss_of tokens refs front r) refl)

pub resume_well : (cpu : CpuId) (refs : List Ref) (tokens : List Token) → cpu.0 < CPU_LIMIT → AreSoundTokens tokens → AreHeld cpu.0 [] tokens → IsSoundList (length tokens) refs → MissesWell refs (resume cpu tokens refs)
resume_well cpu refs tokens here sound held fits = takes_well cpu refs refs [] tokens here sound held fits refl

-- a word that is still its token's
pub record Still (tokens : List Token) (refs : List Ref) (b : BusyAt) : Type 0 where
  pub r : Ref
  pub at : slice_get refs b.at ≡ Some r
  pub tok : Token
  pub there : slice_get tokens r.tok.0 ≡ Some tok
  pub is : word_of (picture_of tok) ≡ b.word

pub still : (tokens : List Token) (refs : List Ref) (b : BusyAt) → is_still tokens refs b ≡ true → Still tokens refs b
still tokens refs b is = of_ref (slice_get refs b.at) refl is
  where
    of_token : (r : Ref) → slice_get refs b.at ≡ Some r → (o : Option Token) → slice_get tokens r.tok.0 ≡ o → option_map_or (λ (tok : Token). word_of (picture_of tok) == b.word) o false ≡ true → Still tokens refs b
    of_token r at None there same = absurd (false≢true same)
    of_token r at (Some tok) there same = record { r = r; at = at; tok = tok; there = there; is = eqb-true (word_of (picture_of tok)) b.word same }

    of_ref : (o : Option Ref) → slice_get refs b.at ≡ o → option_map_or (λ (r : Ref). option_map_or (λ (tok : Token). word_of (picture_of tok) == b.word) (slice_get tokens r.tok.0) false) o false ≡ true → Still tokens refs b
    of_ref None at same = absurd (false≢true same)
    of_ref (Some r) at same = of_token r at (slice_get tokens r.tok.0) refl same

-- it can match, unless it stands at the first place
unmatched : (a b : Bool) → b ≡ true → (a && b) ≡ false → a ≡ false
unmatched true b is isnt = absurd (false≢true (sym isnt ∙ is))
unmatched false b is isnt = refl

pub still_first : (tokens : List Token) (refs : List Ref) (b : BusyAt) → AreSoundTokens tokens → is_still tokens refs b ≡ true → can_match tokens refs b ≡ false → b.at ≡ 0
still_first tokens refs b sound is isnt =
    let s = still tokens refs b is in
    let generation : s.tok.generation ≡ generation_in b.word =
    sym (generation_is (picture_of s.tok) (word_fits tokens s.r.tok.0 s.tok sound s.there)) ∙ ap generation_in s.is in
    let F : Option Ref → Bool = λ o. option_map_or (λ (r : Ref). option_map_or (λ (tok : Token). tok.generation == generation_in b.word) (slice_get tokens r.tok.0) false) o false in
    let yes : F (slice_get refs b.at) ≡ true =
    ap F s.at ∙ ap (λ (o : Option Token). option_map_or (λ (tok : Token). tok.generation == generation_in b.word) o false) s.there ∙ eq-eqb s.tok.generation (generation_in b.word) generation in
    let low = ltb-false 0 b.at (unmatched (nat_lt 0 b.at) (F (slice_get refs b.at)) yes isnt) in
    omega (arith, low)

-- there it refuses its list again, and the tokens stay as they are
gives_none : (cpu : CpuId) (tokens : List Token) → gives cpu tokens [] ≡ gave tokens false
unfolding gives
gives_none cpu tokens = refl

first_ref : (refs : List Ref) (r : Ref) → slice_get refs 0 ≡ Some r → (rest : List Ref) × (refs ≡ r ∷ rest)
first_ref [] r at = absurd (none-some r at)
first_ref (x ∷ xs) r at = (xs, ap (λ (y : Ref). y ∷ xs) (same_Some x r at))

-- it refuses the reference at its place
both_if : (a b : Bool) → (not a && b) ≡ true → (a ≡ false) × (b ≡ true)
both_if true b is = absurd (false≢true is)
both_if false b is = (refl, is)

pub still_refuses : (tokens : List Token) (refs : List Ref) (b : BusyAt) → AreSoundTokens tokens → may_be tokens refs b ≡ true → (s : Still tokens refs b) → MissFacts tokens refs (take b.at refs) s.r b.word
still_refuses tokens refs b sound may s =
    let w = picture_of s.tok in
    let refused : has_refused refs b ≡ true = (and_parts (has_refused refs b) (is_old tokens refs b) may).0 in
    let own = both_if (names (take b.at refs) s.r.tok.0) (refuses (word_parts b.word) refs s.r b.word)
    (sym (ap (λ (o : Option Ref). option_map_or (λ (q : Ref). not (names (take b.at refs) q.tok.0) && refuses (word_parts b.word) refs q b.word) o false) s.at) ∙ refused) in
    let parts : word_parts b.word ≡ w = ap word_parts (sym s.is) ∙ parts_are w (word_fits tokens s.r.tok.0 s.tok sound s.there) in
    record {
      unnamed = own.0;
      tok = s.tok;
      at = s.there;
      is = word_is (refusal w (decision w s.r.mode (is_alone refs s.r.tok.0))) b.word (sym (ap (λ (x : TokWord). refuses x refs s.r b.word) parts) ∙ own.1);
    }

pub still_misses : (cpu : CpuId) (tokens : List Token) (refs : List Ref) (b : BusyAt) → AreSoundTokens tokens → b.at ≡ 0 → is_still tokens refs b ≡ true → may_be tokens refs b ≡ true → resume cpu tokens refs ≡ tried tokens (Some (record { at = 0; why = Busy b.word }))
still_misses cpu tokens refs b sound first is may =
    let s = still tokens refs b is in
    let f = still_refuses tokens refs b sound may s in
    let at : slice_get refs 0 ≡ Some s.r = ap (slice_get refs) (sym first) ∙ s.at in
    let missed : miss_of tokens refs [] s.r ≡ Some (Busy b.word) = miss_is tokens refs [] s.r f.tok f.at refl ∙ f.is in
    let split = first_ref refs s.r at in
    ap (takes cpu refs tokens []) split.1
    ∙ takes_more cpu refs tokens [] s.r split.0
    ∙ ap (after_miss cpu refs tokens [] s.r split.0) missed
    ∙ ap (λ (g : Gave). tried g.tokens (Some (record { at = 0; why = Busy b.word }))) (gives_none cpu tokens)
