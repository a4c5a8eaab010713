-- The search for a thread doesn't tell states of one form apart.
use Rattle.std.proofs.Common.{◌≡◌, ◌<◌, ◌≤◌, ◌+◌, ℕ, zero, suc, List, [], ◌∷◌, ◌++◌, length, refl, ap, sym, ◌∙◌, subst, arith, Option, Some, None, Bool, true, false}
use Rattle.std.specs.Prelude.{slice_get, option_map, option_and_then, if◌then◌else◌, ◌==◌, not, is_some}
use Rattle.std.specs.Option.{option_map_or}
use Rattle.std.proofs.lemmas.Bool.{false≢true}
use Rattle.std.proofs.lemmas.Option.{none-some, same_Some}
use Rattle.lwkt_base.specs.declared.names.CpuId.{CpuId}
use Rattle.lwkt_base.specs.declared.names.Ref.{Ref}
use Rattle.lwkt_base.specs.declared.faults.Fault.TheVariants.{Worn as WornOut}
use Rattle.lwkt_base.specs.declared.limits.TheConstants.{CPU_LIMIT}
use Rattle.lwkt_core.specs.declared.tokens.Token.{Token}
use Rattle.lwkt_plain.specs.declared.nexts.Miss.{Miss}
use Rattle.lwkt_plain.specs.declared.nexts.Miss.TheVariants.{Busy, Worn}
use Rattle.lwkt_plain.specs.declared.nexts.Missed.{Missed}
use Rattle.lwkt_plain.specs.declared.states.BusyAt.{BusyAt}
use Rattle.lwkt_plain.specs.declared.states.Phase.{Phase}
use Rattle.lwkt_plain.specs.declared.states.Phase.TheVariants.{Live, AwaitsItem, AwaitsReply, Exited, Faulted}
use Rattle.lwkt_plain.specs.declared.states.Plain.{Plain}
use Rattle.lwkt_plain.specs.declared.states.Processor.{Processor}
use Rattle.lwkt_plain.specs.declared.states.Thread.{Thread}
use Rattle.lwkt_plain.specs.Forms.{can_match, kept_word, thread_by, plain_by, form}
use Rattle.lwkt_plain.specs.Places.{cpu_at, thread_at, with_cpu, with_thread, with_tokens}
use Rattle.lwkt_plain.specs.Sound.{IsSound}
use Rattle.lwkt_plain.specs.Tokens.{Tried, tried, resume}
use Rattle.lwkt_plain.specs.Turns.{list_at, is_still, is_still_busy, may_try_in, may_try, Found, found, missed_by, after_try, tries, finds, round_from, runs_at, chooses, IsIdle}
use Rattle.lwkt_plain.proofs.Soundness.{cpu_got, held_idle, list_fits}
use Rattle.lwkt_plain.proofs.TurnSound.{StaysIdle, may_there, Comes, try_comes, finds_none, find_on, finds_more}
use Rattle.lwkt_plain.proofs.ChosenSound.{run_on}
use Rattle.lwkt_plain.proofs.TurnMoves.{thread_there}
use Rattle.lwkt_plain.proofs.Risings.{Rises, takes_rises}
use Rattle.lwkt_plain.proofs.OldWords.{sift, may_be, AreOld, fixed_at}
use Rattle.lwkt_plain.proofs.TryWords.{IsWell, MissesWell, resume_well, still_first, still_misses}
use Rattle.lwkt_plain.proofs.Alikes.{Alike, alike_self, alike_sym, same_tokens, same_running, same_cursor, same_count, same_list, same_thread, alike_tokens, alike_cpu, alike_ends, set_busy, old_busy, alike_busy, forgotten, old_at}

-- searches that found the same
pub record SameFound (x y : Found) : Type 0 where
  pub place : x.place ≡ y.place
  pub alike : Alike x.plain y.plain

found_sym : (x y : Found) → SameFound x y → SameFound y x
found_sym x y s = record { place = sym s.place; alike = alike_sym x.plain y.plain s.alike }

-- a processor of a sound state that runs nothing
pub record Rests (c : ℕ) (p : Plain) : Type 0 where
  pub inside : c < length p.cpus
  pub sound : IsSound p
  pub idle : IsIdle p c
  pub here : c < CPU_LIMIT

-- a list that is tried in both states
why_alike : (c k : ℕ) (p q : Plain) (at : ℕ) (why : Miss) → IsWell p.tokens (list_at p c k) at why → Alike p q → Alike (missed_by c k p at why) (missed_by c k q at why)
why_alike c k p q at (Busy word) well a = alike_busy (record { word = word; at = at }) c k p q well a
why_alike c k p q at Worn well a = alike_ends c k (Faulted WornOut) p q a

tried_alike : (c k : ℕ) (p q : Plain) (x : Tried) → Alike p q → Rises p.tokens x.tokens → MissesWell (list_at p c k) x → SameFound (after_try c k p x) (after_try c k q x)
tried_alike c k p q x a rises well = go x.missed refl
  where
    go : (o : Option Missed) → x.missed ≡ o → SameFound (option_map_or (λ (m : Missed). found (missed_by c k (with_tokens x.tokens p) m.at m.why) None) o (found (with_tokens x.tokens p) (Some k))) (option_map_or (λ (m : Missed). found (missed_by c k (with_tokens x.tokens q) m.at m.why) None) o (found (with_tokens x.tokens q) (Some k)))
    go None is = record { place = refl; alike = alike_tokens p q x.tokens a rises }
    go (Some m) is = record { place = refl; alike = why_alike c k (with_tokens x.tokens p) (with_tokens x.tokens q) m.at m.why (well m is) (alike_tokens p q x.tokens a rises) }

-- the same list, of the same tokens
same_resume : (c k : ℕ) (p q : Plain) → Alike p q → resume (record { 0 = c }) p.tokens (list_at p c k) ≡ resume (record { 0 = c }) q.tokens (list_at q c k)
same_resume c k p q a =
    ap (λ (tokens : List Token). resume (record { 0 = c }) tokens (list_at p c k)) (same_tokens p q a) ∙ ap (resume (record { 0 = c }) q.tokens) (same_list p q a c k)

both_tried : (c k : ℕ) (p q : Plain) → Rests c p → k < length (cpu_at p c).threads → Alike p q → SameFound (after_try c k p (resume (record { 0 = c }) p.tokens (list_at p c k))) (after_try c k q (resume (record { 0 = c }) q.tokens (list_at q c k)))
both_tried c k p q rests there a =
    let cpu : CpuId = record { 0 = c } in
    let x = resume cpu p.tokens (list_at p c k) in
    let well = resume_well cpu (list_at p c k) p.tokens rests.here rests.sound.tokens (held_idle p c rests.sound rests.here rests.idle) (list_fits p c k rests.sound rests.inside there) in
    subst (λ (y : Tried). SameFound (after_try c k p x) (after_try c k q y)) (same_resume c k p q a) (tried_alike c k p q x a (takes_rises cpu (list_at p c k) (list_at p c k) p.tokens []) well)

-- what is kept of a word is the word
kept_some : (tokens : List Token) (refs : List Ref) (busy : Option BusyAt) (b : BusyAt) → kept_word tokens refs busy ≡ Some b → busy ≡ Some b
kept_some tokens refs None b is = is
kept_some tokens refs (Some x) b is = go (can_match tokens refs x) is
  where
    go : (y : Bool) → (if y then Some x else None) ≡ Some b → Some x ≡ Some b
    go true same = same
    go false same = absurd (none-some b same)

pub may_some : (b : BusyAt) (x : Bool) → (if x then Some b else None) ≡ Some b → x ≡ true
may_some b true is = refl
may_some b false is = absurd (none-some b is)

-- a list that is tried in one state alone: its word stands at the first place there, and refuses it again
module _ (c k : ℕ) (p q : Plain) (a : Alike p q) (sound : IsSound q) (s t : Thread) (at : thread_at p c k ≡ Some s) (at_too : thread_at q c k ≡ Some t) (free : is_still_busy p.tokens s ≡ false) (b : BusyAt) (refused : t.busy ≡ Some b) (same : is_still q.tokens t.list b ≡ true) where
  one_thread : thread_by (kept_word p.tokens) s ≡ thread_by (kept_word q.tokens) t
  one_thread =
      same_Some (thread_by (kept_word p.tokens) s) (thread_by (kept_word q.tokens) t)
      (sym (ap (option_map (thread_by (kept_word p.tokens))) at) ∙ same_thread p q a c k ∙ ap (option_map (thread_by (kept_word q.tokens))) at_too)

  one_list : s.list ≡ t.list
  one_list = ap (λ (x : Thread). x.list) one_thread

  one_kept : kept_word p.tokens s.list s.busy ≡ kept_word q.tokens t.list (Some b)
  one_kept = ap (λ (x : Thread). x.busy) one_thread ∙ ap (kept_word q.tokens t.list) refused

  -- else it would be kept in the other state too
  cannot : (x : Bool) → can_match q.tokens t.list b ≡ x → x ≡ false
  cannot false is = refl
  cannot true is =
      let busy : s.busy ≡ Some b = kept_some p.tokens s.list s.busy b (one_kept ∙ ap (λ (y : Bool). if y then Some b else None) is) in
      let still : is_still_busy p.tokens s ≡ true =
      ap (λ (o : Option BusyAt). option_map_or (is_still p.tokens s.list) o false) busy
      ∙ ap (λ (refs : List Ref). is_still p.tokens refs b) one_list
      ∙ ap (λ (tokens : List Token). is_still tokens t.list b) (same_tokens p q a)
      ∙ same in
      absurd (false≢true (sym free ∙ still))

  cant : can_match q.tokens t.list b ≡ false
  cant = ap (λ (x : Bool). x) (own (can_match q.tokens t.list b) refl)
    where
      own : (x : Bool) → can_match q.tokens t.list b ≡ x → can_match q.tokens t.list b ≡ false
      own x is = is ∙ cannot x is

  first : b.at ≡ 0
  first = still_first q.tokens t.list b sound.tokens same cant

  may : may_be q.tokens t.list b ≡ true
  may =
      let own : thread_by (sift (may_be q.tokens)) t ≡ t = old_at q c k t a.old_too at_too in
      let busy : sift (may_be q.tokens) t.list t.busy ≡ t.busy = ap (λ (x : Thread). x.busy) own in
      may_some b (may_be q.tokens t.list b) (sym (ap (sift (may_be q.tokens) t.list) refused) ∙ busy ∙ refused)

  abbrev at_first : BusyAt
  at_first = record { word = b.word; at = 0 }

  may_here : may_be p.tokens (list_at p c k) at_first ≡ true
  may_here =
      let list : list_at p c k ≡ t.list = ap (λ (o : Option Thread). option_map_or (λ (x : Thread). x.list) o []) at ∙ one_list in
      ap (λ (refs : List Ref). may_be p.tokens refs at_first) list
      ∙ ap (λ (tokens : List Token). may_be tokens t.list at_first) (same_tokens p q a)
      ∙ sym (ap (λ (n : ℕ). may_be q.tokens t.list (record { word = b.word; at = n })) first)
      ∙ may

  resumed : resume (record { 0 = c }) p.tokens (list_at p c k) ≡ tried p.tokens (Some (record { at = 0; why = Busy b.word }))
  resumed =
      let cpu : CpuId = record { 0 = c } in
      let list : list_at q c k ≡ t.list = ap (λ (o : Option Thread). option_map_or (λ (x : Thread). x.list) o []) at_too in
      same_resume c k p q a
      ∙ ap (resume cpu q.tokens) list
      ∙ still_misses cpu q.tokens t.list b sound.tokens first same may
      ∙ ap (λ (tokens : List Token). tried tokens (Some (record { at = 0; why = Busy b.word }))) (sym (same_tokens p q a))

  -- and that word is none that the form keeps
  no_more : (x : Thread) → thread_at p c k ≡ Some x → thread_by (kept_word p.tokens) (set_busy at_first x) ≡ thread_by (kept_word p.tokens) x
  no_more x is =
      let own : s ≡ x = same_Some s x (sym at ∙ is) in
      let none : kept_word p.tokens s.list s.busy ≡ None = one_kept ∙ ap (λ (y : Bool). if y then Some b else None) cant in
      let gone : kept_word p.tokens x.list x.busy ≡ None = ap (λ (y : Thread). kept_word p.tokens y.list y.busy) (sym own) ∙ none in
      ap (λ (busy : Option BusyAt). record x { busy = busy }) (sym gone)

  pub one_tried : SameFound (after_try c k p (resume (record { 0 = c }) p.tokens (list_at p c k))) (found q None)
  one_tried =
      subst (λ (x : Tried). SameFound (after_try c k p x) (found q None)) (sym resumed) (record {
        place = refl;
        alike = record {
          forms = forgotten (set_busy at_first) c k p no_more ∙ a.forms;
          old = old_busy at_first c k p a.old may_here;
          old_too = a.old_too;
        };
      })

-- whether a thread is tried
pub tried_is : (phase : Phase) (tokens : List Token) (t : Thread) → may_try_in phase tokens t ≡ true → (phase ≡ Live) × (is_still_busy tokens t ≡ false)
tried_is Live tokens t is = (refl, off (is_still_busy tokens t) is)
  where
    off : (b : Bool) → not b ≡ true → b ≡ false
    off true isnt = absurd (false≢true isnt)
    off false isnt = refl
tried_is AwaitsItem tokens t is = absurd (false≢true is)
tried_is (AwaitsReply msg) tokens t is = absurd (false≢true is)
tried_is Exited tokens t is = absurd (false≢true is)
tried_is (Faulted fault) tokens t is = absurd (false≢true is)

pub untried_is : (tokens : List Token) (t : Thread) → may_try_in Live tokens t ≡ false → is_still_busy tokens t ≡ true
untried_is tokens t is = on (is_still_busy tokens t) is
  where
    on : (b : Bool) → not b ≡ false → b ≡ true
    on true isnt = refl
    on false isnt = absurd (false≢true (sym isnt))

pub some_word : (tokens : List Token) (t : Thread) → is_still_busy tokens t ≡ true → (b : BusyAt) × (t.busy ≡ Some b) × (is_still tokens t.list b ≡ true)
some_word tokens t is = go t.busy refl is
  where
    go : (o : Option BusyAt) → t.busy ≡ o → option_map_or (is_still tokens t.list) o false ≡ true → (b : BusyAt) × (t.busy ≡ Some b) × (is_still tokens t.list b ≡ true)
    go None at same = absurd (false≢true same)
    go (Some b) at same = (b, at, same)

one_alone : (c k : ℕ) (p q : Plain) → Alike p q → IsSound q → k < length (cpu_at p c).threads → may_try p c k ≡ true → may_try q c k ≡ false → SameFound (after_try c k p (resume (record { 0 = c }) p.tokens (list_at p c k))) (found q None)
one_alone c k p q a sound there tried untried =
    let one = thread_there p c k there in
    let other = thread_there q c k (let same = same_count p q a c in omega (arith, same, there)) in
    let s = one.0 in
    let t = other.0 in
    let may : may_try_in s.phase p.tokens s ≡ true = sym (ap (λ (o : Option Thread). option_map_or (λ (x : Thread). may_try_in x.phase p.tokens x) o false) one.1) ∙ tried in
    let may_not : may_try_in t.phase q.tokens t ≡ false = sym (ap (λ (o : Option Thread). option_map_or (λ (x : Thread). may_try_in x.phase q.tokens x) o false) other.1) ∙ untried in
    let same : s.phase ≡ t.phase =
    ap (λ (x : Thread). x.phase) (same_Some (thread_by (kept_word p.tokens) s) (thread_by (kept_word q.tokens) t)
    (sym (ap (option_map (thread_by (kept_word p.tokens))) one.1) ∙ same_thread p q a c k ∙ ap (option_map (thread_by (kept_word q.tokens))) other.1)) in
    let live = tried_is s.phase p.tokens s may in
    let word = some_word q.tokens t (untried_is q.tokens t (ap (λ (phase : Phase). may_try_in phase q.tokens t) (sym live.0 ∙ same) ∙ may_not)) in
    one_tried c k p q a sound s t one.1 other.1 live.1 word.0 word.1 word.2

-- a try, in both
pub tries_alike : (c k : ℕ) (p q : Plain) → Rests c p → Rests c q → Alike p q → SameFound (tries c k p) (tries c k q)
tries_alike c k p q rests rests_too a = go (may_try p c k) (may_try q c k) refl refl
  where
    go : (x y : Bool) → may_try p c k ≡ x → may_try q c k ≡ y → SameFound (if x then after_try c k p (resume (record { 0 = c }) p.tokens (list_at p c k)) else found p None) (if y then after_try c k q (resume (record { 0 = c }) q.tokens (list_at q c k)) else found q None)
    go true true may too = both_tried c k p q rests (may_there p c k may) a
    go true false may isnt = one_alone c k p q a rests_too.sound (may_there p c k may) may isnt
    go false true isnt may =
        found_sym (after_try c k q (resume (record { 0 = c }) q.tokens (list_at q c k))) (found p None)
        (one_alone c k q p (alike_sym p q a) rests.sound (may_there q c k may) may isnt)
    go false false isnt too = record { place = refl; alike = a }

-- the threads of some numbers
pub rests_on : (c : ℕ) (p q : Plain) → Rests c p → StaysIdle c p q → Rests c q
rests_on c p q rests stays =
    let same = stays.cpus in
    let inside = rests.inside in
    record { inside = omega (arith, same, inside); sound = stays.sound; idle = stays.idle; here = rests.here }

found_alike : (c : ℕ) (ks : List ℕ) (x y : Found) (o : Option ℕ) → x.place ≡ o → SameFound x y → (x.place ≡ None → SameFound (finds c x.plain ks) (finds c y.plain ks)) → SameFound (find_on c ks x) (find_on c ks y)
found_alike c ks x y None is s ih =
    let F : Bool → Bool → Type 0 = λ a b. SameFound (if a then x else finds c x.plain ks) (if b then y else finds c y.plain ks) in
    let isnt : is_some x.place ≡ false = ap is_some is in
    let no_too : is_some y.place ≡ false = ap is_some (sym s.place) ∙ isnt in
    subst (λ (a : Bool). F a (is_some y.place)) (sym isnt) (subst (F false) (sym no_too) (ih is))
found_alike c ks x y (Some k) is s ih =
    let F : Bool → Bool → Type 0 = λ a b. SameFound (if a then x else finds c x.plain ks) (if b then y else finds c y.plain ks) in
    let may : is_some x.place ≡ true = ap is_some is in
    let yes_too : is_some y.place ≡ true = ap is_some (sym s.place) ∙ may in
    subst (λ (a : Bool). F a (is_some y.place)) (sym may) (subst (F true) (sym yes_too) s)

pub finds_alike : (c : ℕ) (ks : List ℕ) (p q : Plain) → Rests c p → Rests c q → Alike p q → SameFound (finds c p ks) (finds c q ks)
finds_alike c [] p q rests rests_too a =
    subst (λ (x : Found). SameFound x (finds c q [])) (sym (finds_none c p)) (subst (λ (y : Found). SameFound (found p None) y) (sym (finds_none c q)) (record { place = refl; alike = a }))
finds_alike c (k ∷ ks) p q rests rests_too a =
    let x = tries c k p in
    let y = tries c k q in
    let s = tries_alike c k p q rests rests_too a in
    let comes = try_comes c k p rests.inside rests.sound rests.idle rests.here in
    let comes_too = try_comes c k q rests_too.inside rests_too.sound rests_too.idle rests_too.here in
    subst (λ (z : Found). SameFound z (finds c q (k ∷ ks))) (sym (finds_more c p k ks)) (subst (λ (z : Found). SameFound (find_on c ks x) z) (sym (finds_more c q k ks))
    (found_alike c ks x y x.place refl s
    (λ none. finds_alike c ks x.plain y.plain (rests_on c p x.plain rests (comes.0 none)) (rests_on c q y.plain rests_too (comes_too.0 (sym s.place ∙ none))) s.alike)))

-- the thread that is found runs
runs_alike : (c : ℕ) (x y : Found) → SameFound x y → SameFound (runs_at c x) (runs_at c y)
runs_alike c x y s =
    subst (λ (o : Option ℕ). SameFound (runs_at c x) (option_map_or (λ k. found (with_cpu (run_on k) c y.plain) (Some k)) o y)) s.place (go x.place)
  where
    go : (o : Option ℕ) → SameFound (option_map_or (λ k. found (with_cpu (run_on k) c x.plain) (Some k)) o x) (option_map_or (λ k. found (with_cpu (run_on k) c y.plain) (Some k)) o y)
    go None = s
    go (Some k) = record { place = refl; alike = alike_cpu (run_on k) (λ g cpu. refl) c x.plain y.plain s.alike }

-- the thread of a turn
pub chooses_alike : (c : ℕ) (p q : Plain) → c < length p.cpus → IsSound p → c < length q.cpus → IsSound q → c < CPU_LIMIT → Alike p q → SameFound (chooses c p) (chooses c q)
chooses_alike c p q inside sound inside_too sound_too here a = go (cpu_at p c).running refl (sym (same_running p q a c))
  where
    searched : Plain → Found
    searched x = finds c x (round_from (cpu_at x c).cursor (length (cpu_at x c).threads))

    same_round : round_from (cpu_at p c).cursor (length (cpu_at p c).threads) ≡ round_from (cpu_at q c).cursor (length (cpu_at q c).threads)
    same_round = ap (λ (n : ℕ). round_from n (length (cpu_at p c).threads)) (same_cursor p q a c) ∙ ap (round_from (cpu_at q c).cursor) (same_count p q a c)

    go : (o : Option ℕ) → (cpu_at p c).running ≡ o → (cpu_at q c).running ≡ (cpu_at p c).running → SameFound (chooses c p) (chooses c q)
    go None idle same =
        let F : Option ℕ → Option ℕ → Type 0 = λ o r. SameFound (option_map_or (λ k. found p (Some k)) o (runs_at c (searched p))) (option_map_or (λ k. found q (Some k)) r (runs_at c (searched q))) in
        let rests : Rests c p = record { inside = inside; sound = sound; idle = idle; here = here } in
        let rests_too : Rests c q = record { inside = inside_too; sound = sound_too; idle = same ∙ idle; here = here } in
        let s : SameFound (searched p) (searched q) =
        subst (λ (ks : List ℕ). SameFound (searched p) (finds c q ks)) same_round (finds_alike c (round_from (cpu_at p c).cursor (length (cpu_at p c).threads)) p q rests rests_too a) in
        subst (λ (o : Option ℕ). F o (cpu_at q c).running) (sym idle) (subst (F None) (sym (same ∙ idle)) (runs_alike c (searched p) (searched q) s))
    go (Some k) running same =
        let F : Option ℕ → Option ℕ → Type 0 = λ o r. SameFound (option_map_or (λ k. found p (Some k)) o (runs_at c (searched p))) (option_map_or (λ k. found q (Some k)) r (runs_at c (searched q))) in
        subst (λ (o : Option ℕ). F o (cpu_at q c).running) (sym running) (subst (F (Some k)) (sym (same ∙ running)) (record { place = refl; alike = a }))
