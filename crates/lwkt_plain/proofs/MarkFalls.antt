-- A try of a list marks no token, and where a word refuses it a token is held, or is marked.
use Rattle.std.proofs.Common.{◌≡◌, ◌≢◌, ◌⊎◌, ◌<◌, ◌≤◌, ◌+◌, ℕ, zero, suc, List, [], ◌∷◌, ◌++◌, length, take, drop, refl, ap, sym, ◌∙◌, subst, arith, inl, inr, Option, Some, None, Bool, true, false, append_assoc, get_or}
use Rattle.std.specs.Prelude.{slice_get, if◌then◌else◌, ◌==◌, ◌&&◌, ◌||◌, not, nat_lt, option_and_then, option_map, find}
use Rattle.std.specs.List.{list_any, list_all}
use Rattle.std.specs.Option.{option_map_or}
use Rattle.std.proofs.lemmas.Bool.{false≢true, cases_Bool, and_parts, eqb-true, eq-eqb, or_parts, or_from, le-ltb}
use Rattle.std.proofs.lemmas.Option.{none-some, same_Some, slice_get_within}
use Rattle.lwkt_base.specs.declared.names.CpuId.{CpuId}
use Rattle.lwkt_base.specs.declared.names.TokId.{TokId}
use Rattle.lwkt_base.specs.declared.names.Mode.{Mode}
use Rattle.lwkt_base.specs.declared.names.Mode.TheVariants.{Exclusive, Shared}
use Rattle.lwkt_base.specs.declared.names.Ref.{Ref}
use Rattle.lwkt_base.specs.declared.holdings.Held.{Held}
use Rattle.lwkt_base.specs.declared.holdings.Held.TheVariants.{Nothing, Holds}
use Rattle.lwkt_base.specs.declared.limits.TheConstants.{CPU_LIMIT, LAST_GENERATION}
use Rattle.lwkt_base.specs.Holding.{is_held, holding_of}
use Rattle.lwkt_base.specs.Refs.{is_to, names, is_alone, first_mode}
use Rattle.lwkt_base.proofs.HoldingLemmas.{held_named}
use Rattle.lwkt_core.specs.declared.tokens.Token.{Token}
use Rattle.lwkt_core.specs.declared.events.Event.{Event}
use Rattle.lwkt_core.specs.declared.events.Event.TheVariants.{Load, Take, Share, Again, Mark, GiveOne, GiveClean, GiveWritten, Read, Write, ReadBlob, WriteBlob, Send, TakeMsg, DropMsg, Reply, Reap, Abort}
use Rattle.lwkt_core.specs.Takings.{taking, taking_event}
use Rattle.lwkt_core.specs.Tokens.{held_by, token_after, section_at}
use Rattle.lwkt_plain.specs.declared.nexts.Miss.{Miss}
use Rattle.lwkt_plain.specs.declared.nexts.Miss.TheVariants.{Busy, Worn}
use Rattle.lwkt_plain.specs.declared.nexts.Missed.{Missed}
use Rattle.lwkt_plain.specs.declared.states.BusyAt.{BusyAt}
use Rattle.lwkt_plain.specs.Sound.{AreSoundTokens, AreHeld, KeepsTokens, IsSoundList, holding_in}
use Rattle.lwkt_plain.specs.Tokens.{stepped, miss_of, ends_section, is_clean, is_broken, mended, giving_event, given, gives, Tried, tried, takes, resume}
use Rattle.lwkt_plain.specs.Turns.{is_still}
use Rattle.lwkt_plain.proofs.TokenRelations.{Relates, relates_same, relates_both, step_relates, gives_relates, takes_relates}
use Rattle.lwkt_plain.proofs.TokenSteps.{take_keeps, keeps_both}
use Rattle.lwkt_plain.proofs.Takings.{after_miss, takes_none, takes_more, fits_as, front_of}
use Rattle.lwkt_plain.proofs.OldWords.{may_be}
use Rattle.lwkt_plain.proofs.TryWords.{MissFacts, miss_facts, Still, still, still_refuses}

-- a token that is marked now was marked before
abbrev pub Unmarks : Token → Token → Type 0
Unmarks old new = new.mark ≡ true → old.mark ≡ true

abbrev pub Falls : List Token → List Token → Type 0
Falls old new = Relates Unmarks old new

pub falls_self : (tok : Token) → Unmarks tok tok
falls_self tok is = is

pub falls_through : (a b c : Token) → Unmarks a b → Unmarks b c → Unmarks a c
falls_through a b c one other is = one (other is)

pub falls_same : (tokens : List Token) → Falls tokens tokens
falls_same tokens = relates_same Unmarks falls_self tokens

pub falls_both : (a b c : List Token) → Falls a b → Falls b c → Falls a c
falls_both a b c one other = relates_both Unmarks falls_self falls_through a b c one other

-- by a reference that is taken
first_falls : (cpu : CpuId) (t : TokId) (mode : Mode) (tok : Token) → Unmarks tok (token_after tok (taking cpu t mode))
first_falls cpu t Exclusive tok is = absurd (false≢true is)
first_falls cpu t Shared tok is = is

pub taking_falls : (cpu : CpuId) (front : List Ref) (r : Ref) (tok : Token) → Unmarks tok (token_after tok (taking_event cpu front r))
taking_falls cpu front r tok = go (names front r.tok.0)
  where
    go : (b : Bool) → Unmarks tok (token_after tok (if b then Again cpu r.tok else taking cpu r.tok r.mode))
    go true is = is
    go false is = first_falls cpu r.tok r.mode tok is

-- and by one that is given back
mended_mark : (tok : Token) (b : Bool) → (if b then record tok { row = tok.first; blob = tok.first_blob } else tok).mark ≡ tok.mark
mended_mark tok true = refl
mended_mark tok false = refl

giving_falls : (cpu : CpuId) (t : TokId) (tok : Token) (a b : Bool) → Unmarks tok (token_after tok (if a then GiveOne cpu t else (if b then GiveClean cpu t else GiveWritten cpu t (section_at t tok))))
giving_falls cpu t tok true b is = is
giving_falls cpu t tok false true is = is
giving_falls cpu t tok false false is = is

pub given_falls : (cpu : CpuId) (t : TokId) (tok : Token) → Unmarks tok (given cpu t tok)
given_falls cpu t tok is =
    let m = mended cpu tok in
    sym (mended_mark tok (is_broken cpu tok)) ∙ giving_falls cpu t m (not (ends_section (held_by m cpu.0))) (is_clean m) is

pub gives_fall : (cpu : CpuId) (tokens : List Token) (refs : List Ref) → Falls tokens (gives cpu tokens refs).tokens
gives_fall cpu tokens refs = gives_relates Unmarks falls_self falls_through given_falls cpu tokens refs

pub takes_fall : (cpu : CpuId) (refs rest : List Ref) (tokens : List Token) (front : List Ref) → Falls tokens (takes cpu refs tokens front rest).tokens
takes_fall cpu refs rest tokens front = takes_relates Unmarks falls_self falls_through given_falls taking_falls cpu refs rest tokens front

-- a word refuses a list: in tokens of which the others hold what they held, with no new mark, and of which the processor holds nothing of the one
-- whose word it is
pub record Refuses (c : ℕ) (base : List Token) (refs : List Ref) : Type 0 where
  pub tokens : List Token
  pub keeps : KeepsTokens c base tokens
  pub falls : Falls base tokens
  pub front : List Ref
  pub r : Ref
  pub rest : List Ref
  pub is : refs ≡ front ++ (r ∷ rest)
  pub word : ℕ
  pub facts : MissFacts tokens refs front r word
  pub none : holding_in tokens c r.tok.0 ≡ Nothing

nothing_held : (h : Held) → is_held h ≡ false → h ≡ Nothing
nothing_held Nothing is = refl
nothing_held (Holds mode further) is = absurd (false≢true (sym is))

-- by a try that is missed
module _ (cpu : CpuId) (base : List Token) (refs : List Ref) (here : cpu.0 < CPU_LIMIT) (m : Missed) (word : ℕ) (busy : m.why ≡ Busy word) where
  miss_refuses : (front : List Ref) (r : Ref) (rest : List Ref) (tokens : List Token) → AreSoundTokens tokens → AreHeld cpu.0 front tokens → IsSoundList (length tokens) (front ++ (r ∷ rest)) → refs ≡ front ++ (r ∷ rest) → KeepsTokens cpu.0 base tokens → Falls base tokens
      → ((next : List Token) → AreSoundTokens next → AreHeld cpu.0 (front ++ r ∷ []) next → IsSoundList (length next) ((front ++ r ∷ []) ++ rest) → KeepsTokens cpu.0 base next → Falls base next → (takes cpu refs next (front ++ r ∷ []) rest).missed ≡ Some m → Refuses cpu.0 base refs)
      → (why : Option Miss) → miss_of tokens refs front r ≡ why → (after_miss cpu refs tokens front r rest why).missed ≡ Some m → Refuses cpu.0 base refs
  miss_refuses front r rest tokens sound held fits is keeps falls ih None none missed =
      let next = stepped tokens (taking_event cpu front r) in
      let one = take_keeps tokens cpu refs front r here sound held (front_of (length tokens) front r rest fits) none in
      let split : (front ++ r ∷ []) ++ rest ≡ front ++ (r ∷ rest) = append_assoc front (r ∷ []) rest in
      ih next one.0.sound one.1 (fits_as (length tokens) (length next) ((front ++ r ∷ []) ++ rest) one.0.same (subst (IsSoundList (length tokens)) (sym split) fits)) (keeps_both cpu.0 base tokens next keeps one.0)
      (falls_both base tokens next falls (step_relates Unmarks falls_self tokens (taking_event cpu front r) (taking_falls cpu front r))) missed
  miss_refuses front r rest tokens sound held fits is keeps falls ih (Some why) none missed =
      let same : why ≡ Busy word = ap (λ (x : Missed). x.why) (same_Some (record { at = length front; why = why }) m missed) ∙ busy in
      let facts = miss_facts tokens refs front r word (none ∙ ap (λ (w : Miss). Some w) same) in
      record {
        tokens = tokens;
        keeps = keeps;
        falls = falls;
        front = front;
        r = r;
        rest = rest;
        is = is;
        word = word;
        facts = facts;
        none = held r.tok.0 ∙ nothing_held (holding_of front r.tok.0) (held_named front r.tok.0 ∙ facts.unnamed);
      }

  takes_refuse : (rest front : List Ref) (tokens : List Token) → AreSoundTokens tokens → AreHeld cpu.0 front tokens → IsSoundList (length tokens) (front ++ rest) → refs ≡ front ++ rest → KeepsTokens cpu.0 base tokens → Falls base tokens → (takes cpu refs tokens front rest).missed ≡ Some m → Refuses cpu.0 base refs
  takes_refuse [] front tokens sound held fits is keeps falls missed = absurd (none-some m (sym (ap (λ (x : Tried). x.missed) (takes_none cpu refs tokens front)) ∙ missed))
  takes_refuse (r ∷ rest) front tokens sound held fits is keeps falls missed =
      miss_refuses front r rest tokens sound held fits is keeps falls
      (λ next s h f k u x. takes_refuse rest (front ++ r ∷ []) next s h f (is ∙ sym (append_assoc front (r ∷ []) rest)) k u x) (miss_of tokens refs front r) refl
      (sym (ap (λ (x : Tried). x.missed) (takes_more cpu refs tokens front r rest)) ∙ missed)

  pub resume_refuses : (tokens : List Token) → AreSoundTokens tokens → AreHeld cpu.0 [] tokens → IsSoundList (length tokens) refs → KeepsTokens cpu.0 base tokens → Falls base tokens → (resume cpu tokens refs).missed ≡ Some m → Refuses cpu.0 base refs
  resume_refuses tokens sound held fits keeps falls missed = takes_refuse refs [] tokens sound held fits refl keeps falls missed

-- by a word that is its token's still
pub still_held_back : (c : ℕ) (base tokens : List Token) (refs : List Ref) (b : BusyAt) → AreSoundTokens tokens → AreHeld c [] tokens → KeepsTokens c base tokens → Falls base tokens → may_be tokens refs b ≡ true → is_still tokens refs b ≡ true → Refuses c base refs
still_held_back c base tokens refs b sound held keeps falls may is =
    let s = still tokens refs b is in
    record {
      tokens = tokens;
      keeps = keeps;
      falls = falls;
      front = take b.at refs;
      r = s.r;
      rest = drop (suc b.at) refs;
      is = split_here refs b.at s.r s.at;
      word = b.word;
      facts = still_refuses tokens refs b sound may s;
      none = held s.r.tok.0;
    }
  where
    split_here : (xs : List Ref) (i : ℕ) (x : Ref) → slice_get xs i ≡ Some x → xs ≡ take i xs ++ (x ∷ drop (suc i) xs)
    split_here [] i x at = absurd (none-some x at)
    split_here (y ∷ ys) zero x at = ap (λ (z : Ref). z ∷ ys) (same_Some y x at)
    split_here (y ∷ ys) (suc i) x at = ap (λ (zs : List Ref). y ∷ zs) (split_here ys i x at)
