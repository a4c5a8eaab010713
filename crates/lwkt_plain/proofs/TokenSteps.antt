-- Events at tokens, as steps of a processor that holds the references of a list.
use Rattle.std.proofs.Common.{◌≡◌, ◌≢◌, ◌<◌, ◌≤◌, ◌+◌, ℕ, zero, suc, List, [], ◌∷◌, ◌++◌, length, get_or, set, refl, ap, sym, ◌∙◌, subst, arith, Option, Some, None, Bool, true, false, length-set}
use Rattle.std.specs.Prelude.{slice_get, All, IsSomeAnd, if◌then◌else◌, ◌==◌, ◌&&◌, option_and_then}
use Rattle.std.specs.Option.{option_map_or}
use Rattle.std.proofs.lemmas.Bool.{eqb-true, ne_eqb, false≢true}
use Rattle.std.proofs.lemmas.List.{get_or-set_same, get_or-set_other, length-append, get_or_append_left}
use Rattle.std.proofs.Math.Seq.{get_or-append_seam}
use Rattle.std.proofs.lemmas.List.Elements.{All-set}
use Rattle.std.proofs.lemmas.Option.{slice_get_within, get_or_from_slice_get, none-some}
use Rattle.lwkt_base.specs.declared.names.CpuId.{CpuId}
use Rattle.lwkt_base.specs.declared.names.TokId.{TokId}
use Rattle.lwkt_base.specs.declared.names.Mode.{Mode}
use Rattle.lwkt_base.specs.declared.names.Mode.TheVariants.{Exclusive, Shared}
use Rattle.lwkt_base.specs.declared.names.Ref.{Ref}
use Rattle.lwkt_base.specs.declared.holdings.Held.{Held}
use Rattle.lwkt_base.specs.declared.holdings.Held.TheVariants.{Nothing, Holds}
use Rattle.lwkt_base.specs.declared.words.TokWord.{TokWord}
use Rattle.lwkt_base.specs.declared.words.Decision.{Decision}
use Rattle.lwkt_base.specs.declared.words.Decision.TheVariants.{Take as TakeTo, Held as IsHeld, Marked as IsMarked, Worn as IsWorn}
use Rattle.lwkt_base.specs.declared.limits.TheConstants.{CPU_LIMIT, LIST_LIMIT}
use Rattle.lwkt_base.specs.TokenWord.{word_of, decision, Fits}
use Rattle.lwkt_base.specs.Holding.{Holding, one_more, one_less, is_held, holding_of}
use Rattle.lwkt_base.specs.Refs.{names, is_alone}
use Rattle.lwkt_base.proofs.HoldingLemmas.{holding_of-push, held_named}
use Rattle.lwkt_core.specs.declared.tokens.Token.{Token}
use Rattle.lwkt_core.specs.declared.events.Event.{Event}
use Rattle.lwkt_core.specs.declared.events.Event.TheVariants.{Load, Take, Share, Again, Mark, GiveOne, GiveClean, GiveWritten, Read, Write, ReadBlob, WriteBlob, Send, TakeMsg, DropMsg, Reply, Reap, Abort}
use Rattle.lwkt_core.specs.declared.events.Place.{Place}
use Rattle.lwkt_core.specs.declared.events.Place.TheVariants.{AtToken}
use Rattle.lwkt_core.specs.Events.{cpu_of, place_of, adds_reference}
use Rattle.lwkt_core.specs.Machine.{Machine, machine, IsSafe, Needs, PlaceNeeds, references_of, changed, after, after_at}
use Rattle.lwkt_core.specs.Picture.{picture_of, DecidesByEvents}
use Rattle.lwkt_core.specs.Takings.{taking_event, taking}
use Rattle.lwkt_core.specs.Tokens.{held_by, IsSafeToken, IsShort, IsHolder, TokenNeeds, token_after}
use Rattle.lwkt_core.proofs.MachineMoves.{changed_at, IsSafe-after}
use Rattle.lwkt_core.proofs.PictureLemmas.{decides, fit}
use Rattle.lwkt_plain.specs.declared.nexts.Miss.{Miss}
use Rattle.lwkt_plain.specs.Sound.{AreSoundTokens, holding_in, AreHeld, KeepsTokens, IsSoundList}
use Rattle.lwkt_plain.specs.Tokens.{stepped, refusal, miss_of}
use Rattle.lwkt_plain.proofs.Holdings.{references_held, eqb_suc, if_not}

-- one token of a list
pub each_at : (P : Token → Type 0) (tokens : List Token) (i : ℕ) (tok : Token) → All P tokens → slice_get tokens i ≡ Some tok → P tok
each_at P tokens i tok all at = subst P (get_or_from_slice_get tokens i tok tok at) (all i tok (slice_get_within tokens i tok at))

pub held_at : (tokens : List Token) (i : ℕ) (tok : Token) (c : ℕ) → slice_get tokens i ≡ Some tok → holding_in tokens c i ≡ held_by tok c
held_at tokens i tok c at = ap (λ o. option_map_or (λ (t : Token). held_by t c) o Nothing) at

pub none_past : (tokens : List Token) (i : ℕ) → slice_get tokens i ≡ None → i < length tokens → ⊥
none_past [] i none inside = omega arith
none_past (x ∷ xs) zero none inside = none-some x (sym none)
none_past (x ∷ xs) (suc i) none inside = none_past xs i none (omega arith)

pub holding_set : (tokens : List Token) (i : ℕ) (tok : Token) (c t : ℕ) → i < length tokens → holding_in (set tokens i tok) c t ≡ (if t == i then held_by tok c else holding_in tokens c t)
holding_set [] i tok c t inside = absurd (omega arith)
holding_set (x ∷ xs) zero tok c zero inside = refl
holding_set (x ∷ xs) zero tok c (suc t) inside = sym (if_not (suc t == 0) (held_by tok c) (holding_in xs c t) (ne_eqb (suc t) 0 (λ same. omega (arith, same))))
holding_set (x ∷ xs) (suc i) tok c zero inside = sym (if_not (0 == suc i) (held_by tok c) (held_by x c) (ne_eqb 0 (suc i) (λ same. omega (arith, same))))
holding_set (x ∷ xs) (suc i) tok c (suc t) inside =
    holding_set xs i tok c t (omega arith) ∙ ap (λ (b : Bool). if b then held_by tok c else holding_in xs c t) (sym (eqb_suc t i))

-- one of two holdings
pub if_same : (b : Bool) (x y : Held) → (b ≡ true → x ≡ y) → (if b then x else y) ≡ y
if_same true x y same = same refl
if_same false x y same = refl

pub if_both : (b : Bool) (x z y : Held) → (b ≡ true → x ≡ z) → (if b then x else y) ≡ (if b then z else y)
if_both true x z y same = same refl
if_both false x z y same = refl

-- what an event at a token leaves
pub step_is : (tokens : List Token) (e : Event) (i : ℕ) (tok : Token) → place_of e ≡ AtToken i → slice_get tokens i ≡ Some tok → stepped tokens e ≡ set tokens i (token_after tok e)
step_is tokens e i tok place at = ap (λ (p : Place). (after_at (machine 0 tokens []) e p).tokens) place ∙ changed_at (λ t. token_after t e) tokens i tok at

machine_is : (tokens : List Token) (e : Event) (i : ℕ) (tok : Token) → place_of e ≡ AtToken i → slice_get tokens i ≡ Some tok → after (machine CPU_LIMIT tokens []) e ≡ machine CPU_LIMIT (set tokens i (token_after tok e)) []
machine_is tokens e i tok place at =
    ap (λ (p : Place). after_at (machine CPU_LIMIT tokens []) e p) place ∙ ap (λ (ts : List Token). machine CPU_LIMIT ts []) (changed_at (λ t. token_after t e) tokens i tok at)

short_after : (tok : Token) (e : Event) → IsShort tok.blob → IsShort tok.first_blob → IsShort (token_after tok e).first_blob
short_after tok (Load cpu t) now first = first
short_after tok (Take cpu t) now first = first
short_after tok (Share cpu t) now first = first
short_after tok (Again cpu t) now first = first
short_after tok (Mark cpu t) now first = first
short_after tok (GiveOne cpu t) now first = first
short_after tok (GiveClean cpu t) now first = first
short_after tok (GiveWritten cpu t section) now first = now
short_after tok (Read cpu t cell value) now first = first
short_after tok (Write cpu t cell value) now first = first
short_after tok (ReadBlob cpu t blob) now first = first
short_after tok (WriteBlob cpu t blob) now first = first
short_after tok (Send cpu msg to round) now first = first
short_after tok (TakeMsg cpu msg round) now first = first
short_after tok (DropMsg cpu msg) now first = first
short_after tok (Reply cpu msg) now first = first
short_after tok (Reap cpu msg) now first = first
short_after tok (Abort cpu msg) now first = first

held_other : (tok : Token) (e : Event) (other : ℕ) → other ≢ cpu_of e → held_by (token_after tok e) other ≡ held_by tok other
held_other tok (Load cpu t) other differ = refl
held_other tok (Take cpu t) other differ = get_or-set_other tok.holders cpu.0 other (one_more (held_by tok cpu.0) Exclusive) Nothing differ
held_other tok (Share cpu t) other differ = get_or-set_other tok.holders cpu.0 other (one_more (held_by tok cpu.0) Shared) Nothing differ
held_other tok (Again cpu t) other differ = get_or-set_other tok.holders cpu.0 other (one_more (held_by tok cpu.0) Shared) Nothing differ
held_other tok (Mark cpu t) other differ = refl
held_other tok (GiveOne cpu t) other differ = get_or-set_other tok.holders cpu.0 other (one_less (held_by tok cpu.0)) Nothing differ
held_other tok (GiveClean cpu t) other differ = get_or-set_other tok.holders cpu.0 other (one_less (held_by tok cpu.0)) Nothing differ
held_other tok (GiveWritten cpu t section) other differ = get_or-set_other tok.holders cpu.0 other (one_less (held_by tok cpu.0)) Nothing differ
held_other tok (Read cpu t cell value) other differ = refl
held_other tok (Write cpu t cell value) other differ = refl
held_other tok (ReadBlob cpu t blob) other differ = refl
held_other tok (WriteBlob cpu t blob) other differ = refl
held_other tok (Send cpu msg to round) other differ = refl
held_other tok (TakeMsg cpu msg round) other differ = refl
held_other tok (DropMsg cpu msg) other differ = refl
held_other tok (Reply cpu msg) other differ = refl
held_other tok (Reap cpu msg) other differ = refl
held_other tok (Abort cpu msg) other differ = refl

-- what its processor holds after an event
abbrev pub held_next : Event → Held → Held
held_next (Take cpu t) h = one_more h Exclusive
held_next (Share cpu t) h = one_more h Shared
held_next (Again cpu t) h = one_more h Shared
held_next (GiveOne cpu t) h = one_less h
held_next (GiveClean cpu t) h = one_less h
held_next (GiveWritten cpu t section) h = one_less h
held_next _ h = h

pub held_own : (tok : Token) (e : Event) → cpu_of e < length tok.holders → held_by (token_after tok e) (cpu_of e) ≡ held_next e (held_by tok (cpu_of e))
held_own tok (Load cpu t) there = refl
held_own tok (Take cpu t) there = get_or-set_same tok.holders cpu.0 (one_more (held_by tok cpu.0) Exclusive) Nothing there
held_own tok (Share cpu t) there = get_or-set_same tok.holders cpu.0 (one_more (held_by tok cpu.0) Shared) Nothing there
held_own tok (Again cpu t) there = get_or-set_same tok.holders cpu.0 (one_more (held_by tok cpu.0) Shared) Nothing there
held_own tok (Mark cpu t) there = refl
held_own tok (GiveOne cpu t) there = get_or-set_same tok.holders cpu.0 (one_less (held_by tok cpu.0)) Nothing there
held_own tok (GiveClean cpu t) there = get_or-set_same tok.holders cpu.0 (one_less (held_by tok cpu.0)) Nothing there
held_own tok (GiveWritten cpu t section) there = get_or-set_same tok.holders cpu.0 (one_less (held_by tok cpu.0)) Nothing there
held_own tok (Read cpu t cell value) there = refl
held_own tok (Write cpu t cell value) there = refl
held_own tok (ReadBlob cpu t blob) there = refl
held_own tok (WriteBlob cpu t blob) there = refl
held_own tok (Send cpu msg to round) there = refl
held_own tok (TakeMsg cpu msg round) there = refl
held_own tok (DropMsg cpu msg) there = refl
held_own tok (Reply cpu msg) there = refl
held_own tok (Reap cpu msg) there = refl
held_own tok (Abort cpu msg) there = refl

-- an event that can happen leaves sound tokens so
pub event_keeps : (tokens : List Token) (e : Event) (i : ℕ) (tok : Token) → AreSoundTokens tokens → Needs (machine CPU_LIMIT tokens []) e → place_of e ≡ AtToken i → slice_get tokens i ≡ Some tok → KeepsTokens (cpu_of e) tokens (stepped tokens e)
event_keeps tokens e i tok sound needs place at =
    let inside = slice_get_within tokens i tok at in
    let S : List Token → Type 0 = λ ts. KeepsTokens (cpu_of e) tokens ts in
    let safe = each_at (IsSafeToken CPU_LIMIT) tokens i tok sound.safe.each_token at in
    let short = each_at (λ (t : Token). IsShort t.first_blob) tokens i tok sound.short at in
    subst S (sym (step_is tokens e i tok place at)) (record {
      sound = record {
        safe = subst IsSafe (machine_is tokens e i tok place at) (IsSafe-after (machine CPU_LIMIT tokens []) e sound.safe needs);
        short = All-set (λ (t : Token). IsShort t.first_blob) tokens i (token_after tok e) (short_after tok e safe.short short) sound.short;
      };
      same = length-set tokens i (token_after tok e);
      others = λ other differ t.
          holding_set tokens i (token_after tok e) other t inside
          ∙ if_same (t == i) (held_by (token_after tok e) other) (holding_in tokens other t)
          (λ is. held_other tok e other differ ∙ sym (held_at tokens i tok other at) ∙ ap (holding_in tokens other) (sym (eqb-true t i is)));
    })

-- and its processor with what it holds then
pub own_after : (tokens : List Token) (e : Event) (i : ℕ) (tok : Token) → cpu_of e < length tok.holders → place_of e ≡ AtToken i → slice_get tokens i ≡ Some tok → (t : ℕ) → holding_in (stepped tokens e) (cpu_of e) t ≡ (if t == i then held_next e (holding_in tokens (cpu_of e) t) else holding_in tokens (cpu_of e) t)
own_after tokens e i tok there place at t =
    ap (λ (ts : List Token). holding_in ts (cpu_of e) t) (step_is tokens e i tok place at)
    ∙ holding_set tokens i (token_after tok e) (cpu_of e) t (slice_get_within tokens i tok at)
    ∙ if_both (t == i) (held_by (token_after tok e) (cpu_of e)) (held_next e (holding_in tokens (cpu_of e) t)) (holding_in tokens (cpu_of e) t)
    (λ is. held_own tok e there ∙ ap (held_next e) (sym (held_at tokens i tok (cpu_of e) at) ∙ ap (holding_in tokens (cpu_of e)) (sym (eqb-true t i is))))

-- one after another
pub keeps_both : (c : ℕ) (old mid new : List Token) → KeepsTokens c old mid → KeepsTokens c mid new → KeepsTokens c old new
keeps_both c old mid new one other = record {
  sound = other.sound;
  same = other.same ∙ one.same;
  others = λ d differ t. other.others d differ t ∙ one.others d differ t;
}

pub keeps_same : (c : ℕ) (tokens : List Token) → AreSoundTokens tokens → KeepsTokens c tokens tokens
keeps_same c tokens sound = record { sound = sound; same = refl; others = λ other differ t. refl }

-- an event that changes no holding
pub held_same : (tokens : List Token) (e : Event) (i : ℕ) (tok : Token) (refs : List Ref) → cpu_of e < length tok.holders → place_of e ≡ AtToken i → slice_get tokens i ≡ Some tok → ((h : Held) → held_next e h ≡ h) → AreHeld (cpu_of e) refs tokens → AreHeld (cpu_of e) refs (stepped tokens e)
held_same tokens e i tok refs there place at same held t =
    own_after tokens e i tok there place at t
    ∙ if_same (t == i) (held_next e (holding_in tokens (cpu_of e) t)) (holding_in tokens (cpu_of e) t) (λ is. same (holding_in tokens (cpu_of e) t))
    ∙ held t

-- the events of taking
taking_cpu : (cpu : CpuId) (tok : TokId) (mode : Mode) → cpu_of (taking cpu tok mode) ≡ cpu.0
taking_cpu cpu tok Exclusive = refl
taking_cpu cpu tok Shared = refl

taking_place : (cpu : CpuId) (tok : TokId) (mode : Mode) → place_of (taking cpu tok mode) ≡ AtToken tok.0
taking_place cpu tok Exclusive = refl
taking_place cpu tok Shared = refl

pub event_cpu : (cpu : CpuId) (front : List Ref) (r : Ref) → cpu_of (taking_event cpu front r) ≡ cpu.0
event_cpu cpu front r = go (names front r.tok.0)
  where
    go : (b : Bool) → cpu_of (if b then Again cpu r.tok else taking cpu r.tok r.mode) ≡ cpu.0
    go true = refl
    go false = taking_cpu cpu r.tok r.mode

pub event_place : (cpu : CpuId) (front : List Ref) (r : Ref) → place_of (taking_event cpu front r) ≡ AtToken r.tok.0
event_place cpu front r = go (names front r.tok.0)
  where
    go : (b : Bool) → place_of (if b then Again cpu r.tok else taking cpu r.tok r.mode) ≡ AtToken r.tok.0
    go true = refl
    go false = taking_place cpu r.tok r.mode

keeps_mode : (h : Held) (one other : Mode) → is_held h ≡ true → one_more h one ≡ one_more h other
keeps_mode Nothing one other is = absurd (false≢true is)
keeps_mode (Holds first further) one other is = refl

taking_next : (cpu : CpuId) (tok : TokId) (mode : Mode) (h : Held) → held_next (taking cpu tok mode) h ≡ one_more h mode
taking_next cpu tok Exclusive h = refl
taking_next cpu tok Shared h = refl

event_next : (cpu : CpuId) (front : List Ref) (r : Ref) (h : Held) → is_held h ≡ names front r.tok.0 → held_next (taking_event cpu front r) h ≡ one_more h r.mode
event_next cpu front r h is = go (names front r.tok.0) is
  where
    go : (b : Bool) → is_held h ≡ b → held_next (if b then Again cpu r.tok else taking cpu r.tok r.mode) h ≡ one_more h r.mode
    go true named = keeps_mode h Shared r.mode named
    go false named = taking_next cpu r.tok r.mode h

-- what is missed of a token that isn't held yet
refused_not : (w : TokWord) (d : Decision) → refusal w d ≡ None → (next : ℕ) × (d ≡ TakeTo next)
refused_not w (TakeTo next) none = (next, refl)
refused_not w IsHeld none = absurd (none-some _ (sym none))
refused_not w IsMarked none = absurd (none-some _ (sym none))
refused_not w IsWorn none = absurd (none-some _ (sym none))

not_held : (h : Held) → is_held h ≡ false → h ≡ Nothing
not_held Nothing is = refl
not_held (Holds mode further) is = absurd (false≢true (sym is))

pub miss_is : (tokens : List Token) (refs front : List Ref) (r : Ref) (tok : Token) → slice_get tokens r.tok.0 ≡ Some tok → names front r.tok.0 ≡ false → miss_of tokens refs front r ≡ refusal (picture_of tok) (decision (picture_of tok) r.mode (is_alone refs r.tok.0))
miss_is tokens refs front r tok at unnamed =
    let F : Bool → Option Token → Option Miss = λ b o. if b then None else option_and_then (λ (t : Token). refusal (picture_of t) (decision (picture_of t) r.mode (is_alone refs r.tok.0))) o in
    ap (λ (b : Bool). F b (slice_get tokens r.tok.0)) unnamed ∙ ap (F false) at

missed_not : (tokens : List Token) (refs front : List Ref) (r : Ref) (tok : Token) → slice_get tokens r.tok.0 ≡ Some tok → names front r.tok.0 ≡ false → miss_of tokens refs front r ≡ None → refusal (picture_of tok) (decision (picture_of tok) r.mode (is_alone refs r.tok.0)) ≡ None
missed_not tokens refs front r tok at unnamed none = sym (miss_is tokens refs front r tok at unnamed) ∙ none

taking_needs : (tok : Token) (cpu : CpuId) (t : TokId) (mode : Mode) (alone : Bool) → cpu.0 < CPU_LIMIT → IsSafeToken CPU_LIMIT tok → held_by tok cpu.0 ≡ Nothing → refusal (picture_of tok) (decision (picture_of tok) mode alone) ≡ None → TokenNeeds tok (taking cpu t mode)
taking_needs tok cpu t Exclusive alone here safe nothing none =
    let next = refused_not (picture_of tok) (decision (picture_of tok) Exclusive alone) none in
    (decides CPU_LIMIT tok cpu t alone (omega arith) safe here nothing).takes_only next.0 next.1
taking_needs tok cpu t Shared alone here safe nothing none =
    let next = refused_not (picture_of tok) (decision (picture_of tok) Shared alone) none in
    ((decides CPU_LIMIT tok cpu t alone (omega arith) safe here nothing).shares_only next.0 next.1).0

-- the reference of a list that isn't missed can be taken
token_needs : (tokens : List Token) (cpu : CpuId) (refs front : List Ref) (r : Ref) (tok : Token) → cpu.0 < CPU_LIMIT → IsSafeToken CPU_LIMIT tok → slice_get tokens r.tok.0 ≡ Some tok → AreHeld cpu.0 front tokens → miss_of tokens refs front r ≡ None → TokenNeeds tok (taking_event cpu front r)
token_needs tokens cpu refs front r tok here safe at held none = go (names front r.tok.0) refl
  where
    holds : is_held (held_by tok cpu.0) ≡ names front r.tok.0
    holds = ap is_held (sym (held_at tokens r.tok.0 tok cpu.0 at) ∙ held r.tok.0) ∙ held_named front r.tok.0

    go : (b : Bool) → names front r.tok.0 ≡ b → TokenNeeds tok (if b then Again cpu r.tok else taking cpu r.tok r.mode)
    go true named = holds ∙ named
    go false unnamed =
        taking_needs tok cpu r.tok r.mode (is_alone refs r.tok.0) here safe (not_held (held_by tok cpu.0) (holds ∙ unnamed))
        (missed_not tokens refs front r tok at unnamed none)

-- the front of a list, and its last reference
pub front_fits : (n : ℕ) (front : List Ref) (r : Ref) → IsSoundList n (front ++ r ∷ []) → (length front < LIST_LIMIT) × All (λ (q : Ref). q.tok.0 < n) front × (r.tok.0 < n)
front_fits n front r fits =
    let long = length-append front (r ∷ []) in
    let few = fits.0 in
    let last : get_or (front ++ r ∷ []) (length front) r ≡ r = get_or-append_seam front r [] r in
    let one = fits.1 (length front) r (omega (arith, long)) in (
      omega (arith, long, few),
      λ k d inside. subst (λ (q : Ref). q.tok.0 < n) (get_or_append_left front (r ∷ []) d k inside) (fits.1 k d (omega (arith, long, inside))),
      subst (λ (q : Ref). q.tok.0 < n) last one,
    )

pub take_needs : (tokens : List Token) (cpu : CpuId) (refs front : List Ref) (r : Ref) (tok : Token) → cpu.0 < CPU_LIMIT → AreSoundTokens tokens → slice_get tokens r.tok.0 ≡ Some tok → AreHeld cpu.0 front tokens → IsSoundList (length tokens) (front ++ r ∷ []) → miss_of tokens refs front r ≡ None → Needs (machine CPU_LIMIT tokens []) (taking_event cpu front r)
take_needs tokens cpu refs front r tok here sound at held fits none =
    let e = taking_event cpu front r in
    let m = machine CPU_LIMIT tokens [] in
    let safe = each_at (IsSafeToken CPU_LIMIT) tokens r.tok.0 tok sound.safe.each_token at in
    let needs : TokenNeeds tok e = token_needs tokens cpu refs front r tok here safe at held none in
    let parts = front_fits (length tokens) front r fits in
    let many = references_held tokens cpu.0 front held parts.1 in
    let few = parts.0 in
    let room : references_of tokens cpu.0 < LIST_LIMIT = omega (arith, many, few) in
    record {
      processor = subst (λ (c : ℕ). c < CPU_LIMIT) (sym (event_cpu cpu front r)) here;
      place = subst (λ (p : Place). PlaceNeeds m e p) (sym (event_place cpu front r)) (subst (λ (o : Option Token). IsSomeAnd o (λ t. TokenNeeds t e)) (sym at) needs);
      room = λ adds. subst (λ (c : ℕ). references_of tokens c < LIST_LIMIT) (sym (event_cpu cpu front r)) room;
    }

-- a reference that isn't missed is taken
pub take_keeps : (tokens : List Token) (cpu : CpuId) (refs front : List Ref) (r : Ref) → cpu.0 < CPU_LIMIT → AreSoundTokens tokens → AreHeld cpu.0 front tokens → IsSoundList (length tokens) (front ++ r ∷ []) → miss_of tokens refs front r ≡ None → KeepsTokens cpu.0 tokens (stepped tokens (taking_event cpu front r)) × AreHeld cpu.0 (front ++ r ∷ []) (stepped tokens (taking_event cpu front r))
take_keeps tokens cpu refs front r here sound held fits none =
    let there = (front_fits (length tokens) front r fits).2 in
    go (slice_get tokens r.tok.0) refl there
  where
    main : (tok : Token) → slice_get tokens r.tok.0 ≡ Some tok → KeepsTokens cpu.0 tokens (stepped tokens (taking_event cpu front r)) × AreHeld cpu.0 (front ++ r ∷ []) (stepped tokens (taking_event cpu front r))
    main tok at =
        let e = taking_event cpu front r in
        let needs = take_needs tokens cpu refs front r tok here sound at held fits none in
        let safe = each_at (IsSafeToken CPU_LIMIT) tokens r.tok.0 tok sound.safe.each_token at in
        let eight = safe.eight_holders in
        let is = event_cpu cpu front r in
        let wide : cpu_of e < length tok.holders = omega (arith, is, here, eight) in (
          subst (λ (c : ℕ). KeepsTokens c tokens (stepped tokens e)) is (event_keeps tokens e r.tok.0 tok sound needs (event_place cpu front r) at),
          λ t.
              subst (λ (c : ℕ). holding_in (stepped tokens e) c t ≡ (if t == r.tok.0 then held_next e (holding_in tokens c t) else holding_in tokens c t)) is (own_after tokens e r.tok.0 tok wide (event_place cpu front r) at t)
              ∙ ap (λ (h : Held). if t == r.tok.0 then held_next e h else h) (held t)
              ∙ if_both (t == r.tok.0) (held_next e (holding_of front t)) (one_more (holding_of front t) r.mode) (holding_of front t)
              (λ same. event_next cpu front r (holding_of front t) (held_named front t ∙ ap (names front) (eqb-true t r.tok.0 same)))
              ∙ sym (ap (λ (h : Holding). h t) (holding_of-push front r)),
        )

    go : (o : Option Token) → slice_get tokens r.tok.0 ≡ o → r.tok.0 < length tokens → KeepsTokens cpu.0 tokens (stepped tokens (taking_event cpu front r)) × AreHeld cpu.0 (front ++ r ∷ []) (stepped tokens (taking_event cpu front r))
    go None at there = absurd (none_past tokens r.tok.0 at there)
    go (Some tok) at there = main tok at

needs_at : (tokens : List Token) (cpu : CpuId) (refs front : List Ref) (r : Ref) (o : Option Token) → slice_get tokens r.tok.0 ≡ o → r.tok.0 < length tokens → cpu.0 < CPU_LIMIT → AreSoundTokens tokens → AreHeld cpu.0 front tokens → IsSoundList (length tokens) (front ++ r ∷ []) → miss_of tokens refs front r ≡ None → Needs (machine CPU_LIMIT tokens []) (taking_event cpu front r)
needs_at tokens cpu refs front r None at there here sound held fits none = absurd (none_past tokens r.tok.0 at there)
needs_at tokens cpu refs front r (Some tok) at there here sound held fits none = take_needs tokens cpu refs front r tok here sound at held fits none

pub may_take : (tokens : List Token) (cpu : CpuId) (refs front : List Ref) (r : Ref) → cpu.0 < CPU_LIMIT → AreSoundTokens tokens → AreHeld cpu.0 front tokens → IsSoundList (length tokens) (front ++ r ∷ []) → miss_of tokens refs front r ≡ None → Needs (machine CPU_LIMIT tokens []) (taking_event cpu front r)
may_take tokens cpu refs front r here sound held fits none =
    needs_at tokens cpu refs front r (slice_get tokens r.tok.0) refl (front_fits (length tokens) front r fits).2 here sound held fits none

-- the word of a sound token has room for its parts
pub word_fits : (tokens : List Token) (i : ℕ) (tok : Token) → AreSoundTokens tokens → slice_get tokens i ≡ Some tok → Fits (picture_of tok)
word_fits tokens i tok sound at = (fit (machine CPU_LIMIT tokens []) i tok sound.safe at).0
