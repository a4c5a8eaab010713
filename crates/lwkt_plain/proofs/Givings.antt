-- References given back, as events.
use Rattle.std.proofs.Common.{◌≡◌, ◌≢◌, ◌<◌, ◌≤◌, ◌+◌, ℕ, zero, suc, List, [], ◌∷◌, ◌++◌, length, get_or, set, refl, ap, sym, ◌∙◌, subst, arith, Option, Some, None, true, false, length-set, append_assoc, take, drop, ◌-◌, Bool}
use Rattle.std.specs.Prelude.{slice_get, All, IsSomeAnd, if◌then◌else◌, ◌==◌, ◌&&◌, ◌||◌, not, bytes_eq, sum_by}
use Rattle.std.specs.Option.{option_map_or, option_eq}
use Rattle.std.proofs.lemmas.Bool.{eqb-true, eqb-false, false≢true, and_parts}
use Rattle.std.proofs.lemmas.List.{set-set, append-nil, take-append-drop, take_more}
use Rattle.std.proofs.Math.Seq.{drop-cons}
use Rattle.std.proofs.lemmas.List.Elements.{All-set}
use Rattle.std.proofs.lemmas.List.Sums.{sum_by-set}
use Rattle.std.proofs.lemmas.Option.{slice_get_within, get_or_from_slice_get, none-some}
use Rattle.std.proofs.lemmas.Slice.Eq.{bytes_eq-Decides}
use Rattle.lwkt_base.specs.declared.names.CpuId.{CpuId}
use Rattle.lwkt_base.specs.declared.names.TokId.{TokId}
use Rattle.lwkt_base.specs.declared.names.Mode.TheVariants.{Exclusive, Shared}
use Rattle.lwkt_base.specs.declared.names.Ref.{Ref}
use Rattle.lwkt_base.specs.declared.holdings.Held.{Held}
use Rattle.lwkt_base.specs.declared.holdings.Held.TheVariants.{Nothing, Holds}
use Rattle.lwkt_base.specs.declared.limits.TheConstants.{CPU_LIMIT, LIST_LIMIT}
use Rattle.lwkt_base.specs.Holding.{Holding, one_less, is_held, holding_of, removed, references_in}
use Rattle.lwkt_base.proofs.HoldingLemmas.{holding_of-front}
use Rattle.lwkt_core.specs.declared.tokens.Token.{Token}
use Rattle.lwkt_core.specs.declared.events.Event.{Event}
use Rattle.lwkt_core.specs.declared.events.Event.TheVariants.{GiveOne, GiveClean, GiveWritten}
use Rattle.lwkt_core.specs.declared.events.Place.{Place}
use Rattle.lwkt_core.specs.declared.events.Place.TheVariants.{AtToken}
use Rattle.lwkt_core.specs.Events.{cpu_of, place_of, adds_reference}
use Rattle.lwkt_core.specs.Machine.{machine, IsSafe, Needs, PlaceNeeds, references_of, changed}
use Rattle.lwkt_core.specs.Tokens.{held_by, length_of, section_at, IsSafeToken, IsShort, IsHolder, IsClean, IsLawful, IsNotLastExclusive, TokenNeeds, token_after}
use Rattle.lwkt_core.proofs.MachineMoves.{changed_at}
use Rattle.lwkt_plain.specs.Sound.{AreSoundTokens, holding_in, AreHeld, KeepsTokens}
use Rattle.lwkt_plain.specs.Tokens.{stepped, obeys, ends_section, is_broken, mended, is_clean, giving_event, given, gave, Gave, give, gives}
use Rattle.lwkt_plain.proofs.Holdings.{held_there, last_held}
use Rattle.lwkt_plain.proofs.LawTests.{obeys_is, untallied, same_blobs, not_same_blobs}
use Rattle.lwkt_plain.proofs.TokenSteps.{each_at, held_at, none_past, holding_set, if_same, if_both, step_is, held_next, event_keeps, own_after, keeps_both, keeps_same}

-- a token with the first row and record of its section
abbrev back : Token → Token
back tok = record tok { row = tok.first; blob = tok.first_blob }

short_back : (tok : Token) → IsShort tok.first_blob → IsSafeToken CPU_LIMIT tok → obeys tok.law tok.param tok.row (length_of tok.blob) ≡ false → IsSafeToken CPU_LIMIT (back tok)
short_back tok short safe broken = record {
  eight_holders = safe.eight_holders;
  eight_tallies = safe.eight_tallies;
  absent = safe.absent;
  few_cells = (let few = safe.few_cells in let same = safe.same_cells in omega (arith, few, same));
  same_cells = refl;
  compatible = safe.compatible;
  settled = λ free. refl;
  settled_blob = λ free. refl;
  short = short;
  same_guard = refl;
  lawful = safe.lawful;
  tallied = untallied tok.law tok.param tok.row tok.first tok.tallies (length_of tok.blob) broken;
  in_range = safe.in_range;
  not_worn = safe.not_worn;
}

not_true : (b : Bool) → not b ≡ true → b ≡ false
not_true true is = absurd (false≢true is)
not_true false is = refl

-- what is known of a token that is mended, whether it had broken its law or not
pub record IsMended (cpu : CpuId) (tok now : Token) : Type 0 where
  pub safe : IsSafeToken CPU_LIMIT now
  pub short : IsShort now.first_blob
  pub same : now.holders ≡ tok.holders
  pub lawful : ends_section (held_by tok cpu.0) ≡ true → IsLawful now

mended_if : (cpu : CpuId) (tok : Token) (b : Bool) → is_broken cpu tok ≡ b → IsShort tok.first_blob → IsSafeToken CPU_LIMIT tok → IsMended cpu tok (if b then back tok else tok)
mended_if cpu tok true is short safe =
    let parts = and_parts (ends_section (held_by tok cpu.0)) (not (obeys tok.law tok.param tok.row (length_of tok.blob))) is in
    let broken = not_true (obeys tok.law tok.param tok.row (length_of tok.blob)) parts.1 in
    record { safe = short_back tok short safe broken; short = short; same = refl; lawful = λ ends. safe.lawful }
mended_if cpu tok false is short safe =
    record {
      safe = safe;
      short = short;
      same = refl;
      lawful = λ ends. obeys_is tok.law tok.param tok.row (length_of tok.blob) (unbroken (ends_section (held_by tok cpu.0)) (obeys tok.law tok.param tok.row (length_of tok.blob)) is ends);
    }
  where
    unbroken : (a b : Bool) → (a && not b) ≡ false → a ≡ true → b ≡ true
    unbroken true true isnt so = refl
    unbroken true false isnt so = absurd (false≢true (sym isnt))
    unbroken false b isnt so = absurd (false≢true so)

pub mended_so : (cpu : CpuId) (tok : Token) → IsShort tok.first_blob → IsSafeToken CPU_LIMIT tok → IsMended cpu tok (mended cpu tok)
mended_so cpu tok short safe = mended_if cpu tok (is_broken cpu tok) refl short safe

-- the event of giving a reference back can happen
clean_is : (tok : Token) → is_clean tok ≡ true → IsClean tok
clean_is tok is =
    let parts = and_parts (bytes_eq tok.row tok.first) (option_eq bytes_eq tok.blob tok.first_blob) is in
    ((bytes_eq-Decides tok.row tok.first).0 parts.0, same_blobs tok.blob tok.first_blob parts.1)

both_true : (a b : Bool) → (a && b) ≡ false → a ≡ true → b ≡ true → ⊥
both_true true true isnt one other = false≢true (sym isnt)
both_true true false isnt one other = false≢true other
both_true false b isnt one other = false≢true one

not_clean : (tok : Token) → is_clean tok ≡ false → ¬ IsClean tok
not_clean tok isnt clean =
    both_true (bytes_eq tok.row tok.first) (option_eq bytes_eq tok.blob tok.first_blob) isnt ((bytes_eq-Decides tok.row tok.first).1 clean.0)
    (blobs_same (option_eq bytes_eq tok.blob tok.first_blob) (not_same_blobs tok.blob tok.first_blob) clean.1)
  where
    blobs_same : {P : Type 0} (b : Bool) → (b ≡ false → ¬ P) → P → b ≡ true
    blobs_same true no_p p = refl
    blobs_same false no_p p = absurd (no_p refl p)

ending : (cpu : CpuId) (t : TokId) (tok : Token) (b : Bool) → is_clean tok ≡ b → held_by tok cpu.0 ≡ Holds Exclusive 0 → IsLawful tok → TokenNeeds tok (if b then GiveClean cpu t else GiveWritten cpu t (section_at t tok))
ending cpu t tok true is last lawful = (last, clean_is tok is)
ending cpu t tok false is last lawful = (last, not_clean tok is, lawful, refl)

ends_is : (h : Held) → ends_section h ≡ true → h ≡ Holds Exclusive 0
ends_is Nothing is = absurd (false≢true is)
ends_is (Holds Shared further) is = absurd (false≢true is)
ends_is (Holds Exclusive further) is = ap (λ (n : ℕ). Holds Exclusive n) (eqb-true further 0 is)

not_ending : (h : Held) → is_held h ≡ true → ends_section h ≡ false → IsNotLastExclusive h
not_ending Nothing holds isnt = absurd (false≢true holds)
not_ending (Holds Shared further) holds isnt = tt
not_ending (Holds Exclusive further) holds isnt = (let some = eqb-false further 0 isnt in omega (arith, some))

abbrev give_event : CpuId → TokId → Token → Bool → Event
give_event cpu t tok b = if not b then GiveOne cpu t else (if is_clean tok then GiveClean cpu t else GiveWritten cpu t (section_at t tok))

giving_if : (cpu : CpuId) (t : TokId) (tok : Token) (b : Bool) → ends_section (held_by tok cpu.0) ≡ b → is_held (held_by tok cpu.0) ≡ true → (ends_section (held_by tok cpu.0) ≡ true → IsLawful tok) → TokenNeeds tok (give_event cpu t tok b)
giving_if cpu t tok true is holds lawful = ending cpu t tok (is_clean tok) refl (ends_is (held_by tok cpu.0) is) (lawful is)
giving_if cpu t tok false is holds lawful = not_ending (held_by tok cpu.0) holds is

pub giving_needs : (cpu : CpuId) (t : TokId) (tok : Token) → is_held (held_by tok cpu.0) ≡ true → (ends_section (held_by tok cpu.0) ≡ true → IsLawful tok) → TokenNeeds tok (giving_event cpu t tok)
giving_needs cpu t tok holds lawful = giving_if cpu t tok (ends_section (held_by tok cpu.0)) refl holds lawful

-- what that event is
by_two : {A : Type 0} (P : A → Type 0) (a b : Bool) (x y z : A) → P x → P y → P z → P (if not a then x else (if b then y else z))
by_two P true true x y z one two three = two
by_two P true false x y z one two three = three
by_two P false b x y z one two three = one

giving_so : (P : Event → Type 0) (cpu : CpuId) (t : TokId) (tok : Token) → P (GiveOne cpu t) → P (GiveClean cpu t) → P (GiveWritten cpu t (section_at t tok)) → P (giving_event cpu t tok)
giving_so P cpu t tok one two three = by_two P (ends_section (held_by tok cpu.0)) (is_clean tok) (GiveOne cpu t) (GiveClean cpu t) (GiveWritten cpu t (section_at t tok)) one two three

pub giving_cpu : (cpu : CpuId) (t : TokId) (tok : Token) → cpu_of (giving_event cpu t tok) ≡ cpu.0
giving_cpu cpu t tok = giving_so (λ e. cpu_of e ≡ cpu.0) cpu t tok refl refl refl

pub giving_place : (cpu : CpuId) (t : TokId) (tok : Token) → place_of (giving_event cpu t tok) ≡ AtToken t.0
giving_place cpu t tok = giving_so (λ e. place_of e ≡ AtToken t.0) cpu t tok refl refl refl

pub giving_adds : (cpu : CpuId) (t : TokId) (tok : Token) → adds_reference (giving_event cpu t tok) ≡ false
giving_adds cpu t tok = giving_so (λ e. adds_reference e ≡ false) cpu t tok refl refl refl

giving_next : (cpu : CpuId) (t : TokId) (tok : Token) (h : Held) → held_next (giving_event cpu t tok) h ≡ one_less h
giving_next cpu t tok h = giving_so (λ e. held_next e h ≡ one_less h) cpu t tok refl refl refl

-- tokens with one that is mended
mended_tokens : (tokens : List Token) (i : ℕ) (tok now : Token) (cpu : CpuId) → AreSoundTokens tokens → slice_get tokens i ≡ Some tok → IsMended cpu tok now → KeepsTokens cpu.0 tokens (set tokens i now)
mended_tokens tokens i tok now cpu sound at is =
    let inside = slice_get_within tokens i tok at in
    let safe = sound.safe in
    let held : (c : ℕ) → held_by now c ≡ held_by tok c = (λ c. ap (λ (holders : List Held). get_or holders c Nothing) is.same) in
    record {
      sound = record {
        safe = record {
          processors = safe.processors;
          token_limit = (let same = length-set tokens i now in let few = safe.token_limit in omega (arith, same, few));
          each_token = All-set (IsSafeToken CPU_LIMIT) tokens i now is.safe safe.each_token;
          few = λ c.
              (let f : Token → ℕ = λ t. references_in (held_by t c) in
              let moved : sum_by f (set tokens i now) + f (get_or tokens i tok) ≡ sum_by f tokens + f now = sum_by-set f tokens i now tok inside in
              let old : f (get_or tokens i tok) ≡ f tok = ap f (get_or_from_slice_get tokens i tok tok at) in
              let new : f now ≡ f tok = ap references_in (held c) in
              let few = safe.few c in
              omega (arith, moved, old, new, few));
          message_limit = safe.message_limit;
          each_message = safe.each_message;
        };
        short = All-set (λ (t : Token). IsShort t.first_blob) tokens i now is.short sound.short;
      };
      same = length-set tokens i now;
      others = λ other differ t.
          holding_set tokens i now other t inside
          ∙ if_same (t == i) (held_by now other) (holding_in tokens other t)
          (λ same. held other ∙ sym (held_at tokens i tok other at) ∙ ap (holding_in tokens other) (sym (eqb-true t i same)));
    }

mended_held : (tokens : List Token) (i : ℕ) (tok now : Token) (cpu : CpuId) → slice_get tokens i ≡ Some tok → IsMended cpu tok now → (t : ℕ) → holding_in (set tokens i now) cpu.0 t ≡ holding_in tokens cpu.0 t
mended_held tokens i tok now cpu at is t =
    let inside = slice_get_within tokens i tok at in
    holding_set tokens i now cpu.0 t inside
    ∙ if_same (t == i) (held_by now cpu.0) (holding_in tokens cpu.0 t)
    (λ same. ap (λ (holders : List Held). get_or holders cpu.0 Nothing) is.same ∙ sym (held_at tokens i tok cpu.0 at) ∙ ap (holding_in tokens cpu.0) (sym (eqb-true t i same)))

get_set : (tokens : List Token) (i : ℕ) (tok : Token) → i < length tokens → slice_get (set tokens i tok) i ≡ Some tok
get_set [] i tok inside = absurd (omega arith)
get_set (x ∷ xs) zero tok inside = refl
get_set (x ∷ xs) (suc i) tok inside = get_set xs i tok (omega arith)

pub given_is : (tokens : List Token) (cpu : CpuId) (t : TokId) (tok : Token) → slice_get tokens t.0 ≡ Some tok → changed (given cpu t) tokens t.0 ≡ stepped (set tokens t.0 (mended cpu tok)) (giving_event cpu t (mended cpu tok))
given_is tokens cpu t tok at =
    let inside = slice_get_within tokens t.0 tok at in
    let now = mended cpu tok in
    changed_at (given cpu t) tokens t.0 tok at
    ∙ sym (set-set tokens t.0 now (given cpu t tok))
    ∙ sym (step_is (set tokens t.0 now) (giving_event cpu t now) t.0 now (giving_place cpu t now) (get_set tokens t.0 now inside))

-- a list's last reference is given back
pub give_keeps : (tokens : List Token) (cpu : CpuId) (front : List Ref) (r : Ref) → cpu.0 < CPU_LIMIT → AreSoundTokens tokens → AreHeld cpu.0 (front ++ r ∷ []) tokens → KeepsTokens cpu.0 tokens (changed (given cpu r.tok) tokens r.tok.0) × AreHeld cpu.0 front (changed (given cpu r.tok) tokens r.tok.0)
give_keeps tokens cpu front r here sound held = go (slice_get tokens r.tok.0) refl
  where
    there : r.tok.0 < length tokens
    there = held_there tokens cpu.0 r.tok.0 (front ++ r ∷ []) held (last_held front r)

    main : (tok : Token) → slice_get tokens r.tok.0 ≡ Some tok → KeepsTokens cpu.0 tokens (changed (given cpu r.tok) tokens r.tok.0) × AreHeld cpu.0 front (changed (given cpu r.tok) tokens r.tok.0)
    main tok at =
        let i = r.tok.0 in
        let now = mended cpu tok in
        let e = giving_event cpu r.tok now in
        let mid = set tokens i now in
        let old_safe = each_at (IsSafeToken CPU_LIMIT) tokens i tok sound.safe.each_token at in
        let old_short = each_at (λ (t : Token). IsShort t.first_blob) tokens i tok sound.short at in
        let is = mended_so cpu tok old_short old_safe in
        let kept = mended_tokens tokens i tok now cpu sound at is in
        let here_now : slice_get mid i ≡ Some now = get_set tokens i now there in
        let same_held : held_by now cpu.0 ≡ held_by tok cpu.0 = ap (λ (holders : List Held). get_or holders cpu.0 Nothing) is.same in
        let own : held_by now cpu.0 ≡ holding_of (front ++ r ∷ []) i = same_held ∙ sym (held_at tokens i tok cpu.0 at) ∙ held i in
        let holds : is_held (held_by now cpu.0) ≡ true = ap is_held own ∙ last_held front r in
        let needs : TokenNeeds now e = giving_needs cpu r.tok now holds (λ ends. is.lawful (ap ends_section (sym same_held) ∙ ends)) in
        let eq = giving_cpu cpu r.tok now in
        let all : Needs (machine CPU_LIMIT mid []) e =
        record {
          processor = subst (λ (c : ℕ). c < CPU_LIMIT) (sym eq) here;
          place = subst (λ (p : Place). PlaceNeeds (machine CPU_LIMIT mid []) e p) (sym (giving_place cpu r.tok now)) (subst (λ (o : Option Token). IsSomeAnd o (λ t. TokenNeeds t e)) (sym here_now) needs);
          room = λ adds. absurd (false≢true (sym (giving_adds cpu r.tok now) ∙ adds));
        } in
        let eight = is.safe.eight_holders in
        let wide : cpu_of e < length now.holders = omega (arith, eq, here, eight) in
        let S : List Token → Type 0 = λ ts. KeepsTokens cpu.0 tokens ts × AreHeld cpu.0 front ts in
        subst S (sym (given_is tokens cpu r.tok tok at)) (
          keeps_both cpu.0 tokens mid (stepped mid e) kept (subst (λ (c : ℕ). KeepsTokens c mid (stepped mid e)) eq (event_keeps mid e i now kept.sound all (giving_place cpu r.tok now) here_now)),
          λ t.
              subst (λ (c : ℕ). holding_in (stepped mid e) c t ≡ (if t == i then held_next e (holding_in mid c t) else holding_in mid c t)) eq (own_after mid e i now wide (giving_place cpu r.tok now) here_now t)
              ∙ ap (λ (h : Held). if t == i then held_next e h else h) (mended_held tokens i tok now cpu at is t ∙ held t)
              ∙ if_both (t == i) (held_next e (holding_of (front ++ r ∷ []) t)) (one_less (holding_of (front ++ r ∷ []) t)) (holding_of (front ++ r ∷ []) t) (λ same. giving_next cpu r.tok now (holding_of (front ++ r ∷ []) t))
              ∙ sym (ap (λ (h : Holding). h t) (holding_of-front front r)),
        )

    go : (o : Option Token) → slice_get tokens r.tok.0 ≡ o → KeepsTokens cpu.0 tokens (changed (given cpu r.tok) tokens r.tok.0) × AreHeld cpu.0 front (changed (given cpu r.tok) tokens r.tok.0)
    go None at = absurd (none_past tokens r.tok.0 at there)
    go (Some tok) at = main tok at

pub gives_none : (cpu : CpuId) (tokens : List Token) → gives cpu tokens [] ≡ gave tokens false
unfolding gives
gives_none cpu tokens = refl

pub gives_more : (cpu : CpuId) (tokens : List Token) (r : Ref) (refs : List Ref) → gives cpu tokens (r ∷ refs) ≡ give cpu (gives cpu tokens refs) r
unfolding gives
gives_more cpu tokens r refs = refl

-- the references behind a front are given back
pub gives_keeps : (tokens : List Token) (cpu : CpuId) (front refs : List Ref) → cpu.0 < CPU_LIMIT → AreSoundTokens tokens → AreHeld cpu.0 (front ++ refs) tokens → KeepsTokens cpu.0 tokens (gives cpu tokens refs).tokens × AreHeld cpu.0 front (gives cpu tokens refs).tokens
gives_keeps tokens cpu front [] here sound held =
    let S : Gave → Type 0 = λ g. KeepsTokens cpu.0 tokens g.tokens × AreHeld cpu.0 front g.tokens in
    subst S (sym (gives_none cpu tokens)) (keeps_same cpu.0 tokens sound, subst (λ (refs : List Ref). AreHeld cpu.0 refs tokens) (append-nil front) held)
gives_keeps tokens cpu front (r ∷ refs) here sound held =
    let S : Gave → Type 0 = λ g. KeepsTokens cpu.0 tokens g.tokens × AreHeld cpu.0 front g.tokens in
    let rest = gives_keeps tokens cpu (front ++ r ∷ []) refs here sound (subst (λ (all : List Ref). AreHeld cpu.0 all tokens) (sym (append_assoc front (r ∷ []) refs)) held) in
    let mid = (gives cpu tokens refs).tokens in
    let last = give_keeps mid cpu front r here rest.0.sound rest.1 in
    subst S (sym (gives_more cpu tokens r refs)) (keeps_both cpu.0 tokens mid (changed (given cpu r.tok) mid r.tok.0) rest.0 last.0, last.1)

-- as references are given back, from the last one on
pub give_state : (cpu : CpuId) (old now : List Token) (refs : List Ref) (left : ℕ) (broken : Bool) → cpu.0 < CPU_LIMIT → AreSoundTokens old → AreHeld cpu.0 refs old → gave now broken ≡ gives cpu old (drop left refs) → KeepsTokens cpu.0 old now × AreHeld cpu.0 (take left refs) now
give_state cpu old now refs left broken here sound held is =
    let kept = gives_keeps old cpu (take left refs) (drop left refs) here sound (subst (λ (all : List Ref). AreHeld cpu.0 all old) (sym (take-append-drop left refs)) held) in
    subst (λ (ts : List Token). KeepsTokens cpu.0 old ts × AreHeld cpu.0 (take left refs) ts) (sym (ap (λ (g : Gave). g.tokens) is)) kept

pub give_holds : (c : ℕ) (now : List Token) (refs : List Ref) (left : ℕ) (d : Ref) → AreHeld c (take left refs) now → 0 < left → left ≤ length refs → is_held (holding_in now c (get_or refs (left - 1) d).tok.0) ≡ true
give_holds c now refs left d held some within =
    let e : left - 1 + 1 ≡ left = omega arith in
    let split : take left refs ≡ take (left - 1) refs ++ get_or refs (left - 1) d ∷ [] =
    ap (λ (n : ℕ). take n refs) (sym e) ∙ take_more refs (left - 1) d (omega arith) in
    ap is_held (held (get_or refs (left - 1) d).tok.0)
    ∙ ap (λ (all : List Ref). is_held (holding_of all (get_or refs (left - 1) d).tok.0)) split
    ∙ last_held (take (left - 1) refs) (get_or refs (left - 1) d)

pub give_step : (cpu : CpuId) (old now : List Token) (refs : List Ref) (left : ℕ) (broken : Bool) (d : Ref) → 0 < left → left ≤ length refs → gave now broken ≡ gives cpu old (drop left refs) → gives cpu old (drop (left - 1) refs) ≡ give cpu (gave now broken) (get_or refs (left - 1) d)
give_step cpu old now refs left broken d some within is =
    let e : suc (left - 1) ≡ left = omega arith in
    let split : drop (left - 1) refs ≡ get_or refs (left - 1) d ∷ drop left refs =
    drop-cons refs (left - 1) d (omega arith) ∙ ap (λ (n : ℕ). get_or refs (left - 1) d ∷ drop n refs) e in
    ap (gives cpu old) split ∙ gives_more cpu old (get_or refs (left - 1) d) (drop left refs) ∙ ap (λ (g : Gave). give cpu g (get_or refs (left - 1) d)) (sym is)
