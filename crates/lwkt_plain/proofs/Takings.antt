-- Lists that are taken whole, or not at all.
use Rattle.std.proofs.Common.{◌≡◌, ◌<◌, ◌≤◌, ◌+◌, ℕ, suc, List, [], ◌∷◌, ◌++◌, length, get_or, take, drop, refl, ap, sym, ◌∙◌, subst, arith, Option, Some, None, append_assoc}
use Rattle.std.specs.Prelude.{slice_get, All}
use Rattle.std.specs.Option.{option_map_or}
use Rattle.std.proofs.lemmas.List.{append-nil, length-append, get_or_append_left, length-take-le, take_more, drop_all}
use Rattle.std.proofs.lemmas.List.Elements.{All-take}
use Rattle.std.proofs.Math.Seq.{drop-cons}
use Rattle.lwkt_base.specs.declared.names.CpuId.{CpuId}
use Rattle.lwkt_base.specs.declared.names.Ref.{Ref}
use Rattle.lwkt_base.specs.declared.limits.TheConstants.{CPU_LIMIT}
use Rattle.lwkt_core.specs.declared.tokens.Token.{Token}
use Rattle.lwkt_core.specs.Takings.{taking_event}
use Rattle.lwkt_plain.specs.declared.nexts.Miss.{Miss}
use Rattle.lwkt_plain.specs.declared.nexts.Missed.{Missed}
use Rattle.lwkt_plain.specs.Sound.{AreSoundTokens, AreHeld, KeepsTokens, IsSoundList}
use Rattle.lwkt_plain.specs.Tokens.{stepped, miss_of, gives, Tried, tried, takes}
use Rattle.lwkt_plain.proofs.TokenSteps.{take_keeps, keeps_both, keeps_same}
use Rattle.lwkt_plain.proofs.Givings.{gives_keeps}

abbrev pub after_miss : CpuId → List Ref → List Token → List Ref → Ref → List Ref → Option Miss → Tried
after_miss cpu refs tokens front r rest why =
    option_map_or (λ w. tried (gives cpu tokens front).tokens (Some (record { at = length front; why = w }))) why
    (takes cpu refs (stepped tokens (taking_event cpu front r)) (front ++ r ∷ []) rest)

pub takes_none : (cpu : CpuId) (refs : List Ref) (tokens : List Token) (front : List Ref) → takes cpu refs tokens front [] ≡ tried tokens None
unfolding takes
takes_none cpu refs tokens front = refl

pub takes_more : (cpu : CpuId) (refs : List Ref) (tokens : List Token) (front : List Ref) (r : Ref) (rest : List Ref) → takes cpu refs tokens front (r ∷ rest) ≡ after_miss cpu refs tokens front r rest (miss_of tokens refs front r)
unfolding takes
takes_more cpu refs tokens front r rest = refl

-- what is held after a try: the whole list, or nothing
abbrev pub held_of : List Ref → Option Missed → List Ref
held_of refs None = refs
held_of refs (Some missed) = []

pub record Resumes (c : ℕ) (tokens : List Token) (refs : List Ref) (x : Tried) : Type 0 where
  pub keeps : KeepsTokens c tokens x.tokens
  pub held : AreHeld c (held_of refs x.missed) x.tokens

pub fits_as : (n : ℕ) (m : ℕ) (refs : List Ref) → m ≡ n → IsSoundList n refs → IsSoundList m refs
fits_as n m refs same fits = subst (λ (k : ℕ). IsSoundList k refs) (sym same) fits

pub front_of : (n : ℕ) (front : List Ref) (r : Ref) (rest : List Ref) → IsSoundList n (front ++ (r ∷ rest)) → IsSoundList n (front ++ r ∷ [])
front_of n front r rest fits =
    let split : (front ++ r ∷ []) ++ rest ≡ front ++ (r ∷ rest) = append_assoc front (r ∷ []) rest in
    let long = length-append (front ++ r ∷ []) rest in
    let all : IsSoundList n ((front ++ r ∷ []) ++ rest) = subst (IsSoundList n) (sym split) fits in
    let few = all.0 in (
      omega (arith, long, few),
      λ k d inside. subst (λ (q : Ref). q.tok.0 < n) (get_or_append_left (front ++ r ∷ []) rest d k inside) (all.1 k d (omega (arith, long, inside))),
    )

-- one reference more, or all given back
take_on : (cpu : CpuId) (refs front : List Ref) (r : Ref) (rest : List Ref) (tokens : List Token) → cpu.0 < CPU_LIMIT → AreSoundTokens tokens → AreHeld cpu.0 front tokens → IsSoundList (length tokens) (front ++ (r ∷ rest)) → ((next : List Token) → AreSoundTokens next → AreHeld cpu.0 (front ++ r ∷ []) next → IsSoundList (length next) ((front ++ r ∷ []) ++ rest) → Resumes cpu.0 next ((front ++ r ∷ []) ++ rest) (takes cpu refs next (front ++ r ∷ []) rest)) → (why : Option Miss) → miss_of tokens refs front r ≡ why → Resumes cpu.0 tokens (front ++ (r ∷ rest)) (after_miss cpu refs tokens front r rest why)
take_on cpu refs front r rest tokens here sound held fits ih None none =
    let next = stepped tokens (taking_event cpu front r) in
    let one = take_keeps tokens cpu refs front r here sound held (front_of (length tokens) front r rest fits) none in
    let split : (front ++ r ∷ []) ++ rest ≡ front ++ (r ∷ rest) = append_assoc front (r ∷ []) rest in
    let more = ih next one.0.sound one.1 (fits_as (length tokens) (length next) ((front ++ r ∷ []) ++ rest) one.0.same (subst (IsSoundList (length tokens)) (sym split) fits)) in
    let x = takes cpu refs next (front ++ r ∷ []) rest in
    subst (λ (all : List Ref). Resumes cpu.0 tokens all x) split (record { keeps = keeps_both cpu.0 tokens next x.tokens one.0 more.keeps; held = more.held })
take_on cpu refs front r rest tokens here sound held fits ih (Some why) missed =
    let back = gives_keeps tokens cpu [] front here sound held in
    record { keeps = back.0; held = back.1 }

pub takes_keeps : (cpu : CpuId) (refs : List Ref) (rest front : List Ref) (tokens : List Token) → cpu.0 < CPU_LIMIT → AreSoundTokens tokens → AreHeld cpu.0 front tokens → IsSoundList (length tokens) (front ++ rest) → Resumes cpu.0 tokens (front ++ rest) (takes cpu refs tokens front rest)
takes_keeps cpu refs [] front tokens here sound held fits =
    subst (Resumes cpu.0 tokens (front ++ [])) (sym (takes_none cpu refs tokens front)) (record {
      keeps = keeps_same cpu.0 tokens sound;
      held = subst (λ (all : List Ref). AreHeld cpu.0 all tokens) (sym (append-nil front)) held;
    })
takes_keeps cpu refs (r ∷ rest) front tokens here sound held fits =
    subst (Resumes cpu.0 tokens (front ++ (r ∷ rest))) (sym (takes_more cpu refs tokens front r rest))
    (take_on cpu refs front r rest tokens here sound held fits (λ next s h f. takes_keeps cpu refs rest (front ++ r ∷ []) next here s h f) (miss_of tokens refs front r) refl)

-- the references of a list up to a place, and the one there
pub split_at : (refs : List Ref) (at : ℕ) (d : Ref) → at < length refs → (drop at refs ≡ get_or refs at d ∷ drop (at + 1) refs) × (take (at + 1) refs ≡ take at refs ++ get_or refs at d ∷ [])
split_at refs at d inside =
    let e : suc at ≡ at + 1 = omega arith in
    (drop-cons refs at d inside ∙ ap (λ (n : ℕ). get_or refs at d ∷ drop n refs) e, take_more refs at d inside)

pub fits_at : (n : ℕ) (refs : List Ref) (at : ℕ) (d : Ref) → at < length refs → IsSoundList n refs → IsSoundList n (take at refs ++ get_or refs at d ∷ [])
fits_at n refs at d inside fits =
    let few = fits.0 in
    let long = length-take-le (at + 1) refs (omega (arith, inside)) in
    subst (IsSoundList n) (split_at refs at d inside).1 (omega (arith, few, long, inside), All-take (λ (q : Ref). q.tok.0 < n) (at + 1) refs fits.1)

pub resume_step : (cpu : CpuId) (refs : List Ref) (tokens : List Token) (at : ℕ) (d : Ref) → at < length refs → miss_of tokens refs (take at refs) (get_or refs at d) ≡ None → takes cpu refs tokens (take at refs) (drop at refs) ≡ takes cpu refs (stepped tokens (taking_event cpu (take at refs) (get_or refs at d))) (take (at + 1) refs) (drop (at + 1) refs)
resume_step cpu refs tokens at d inside none =
    let r = get_or refs at d in
    let split = split_at refs at d inside in
    ap (takes cpu refs tokens (take at refs)) split.0
    ∙ takes_more cpu refs tokens (take at refs) r (drop (at + 1) refs)
    ∙ ap (after_miss cpu refs tokens (take at refs) r (drop (at + 1) refs)) none
    ∙ ap (λ (front : List Ref). takes cpu refs (stepped tokens (taking_event cpu (take at refs) r)) front (drop (at + 1) refs)) (sym split.1)

pub resume_stop : (cpu : CpuId) (refs : List Ref) (tokens : List Token) (at : ℕ) (d : Ref) (why : Miss) → at < length refs → miss_of tokens refs (take at refs) (get_or refs at d) ≡ Some why → takes cpu refs tokens (take at refs) (drop at refs) ≡ tried (gives cpu tokens (take at refs)).tokens (Some (record { at = at; why = why }))
resume_stop cpu refs tokens at d why inside missed =
    let r = get_or refs at d in
    let split = split_at refs at d inside in
    let long : length (take at refs) ≡ at = length-take-le at refs (omega (arith, inside)) in
    ap (takes cpu refs tokens (take at refs)) split.0
    ∙ takes_more cpu refs tokens (take at refs) r (drop (at + 1) refs)
    ∙ ap (after_miss cpu refs tokens (take at refs) r (drop (at + 1) refs)) missed
    ∙ ap (λ (n : ℕ). tried (gives cpu tokens (take at refs)).tokens (Some (record { at = n; why = why }))) long

pub resume_end : (cpu : CpuId) (refs : List Ref) (tokens : List Token) (at : ℕ) → length refs ≤ at → takes cpu refs tokens (take at refs) (drop at refs) ≡ tried tokens None
resume_end cpu refs tokens at past = ap (takes cpu refs tokens (take at refs)) (drop_all at refs past) ∙ takes_none cpu refs tokens (take at refs)
