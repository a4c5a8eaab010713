-- Where no turn changes anything, what each ready thread waits for.
use Rattle.std.proofs.Common.{◌≡◌, ◌≢◌, ◌⊎◌, ◌<◌, ◌≤◌, ◌+◌, ◌-◌, ℕ, zero, suc, List, [], ◌∷◌, ◌++◌, length, map, get_or, refl, ap, sym, ◌∙◌, subst, arith, inl, inr, Option, Some, None, Bool, true, false, All}
use Rattle.std.specs.Prelude.{slice_get, slice_set, if◌then◌else◌, ◌==◌, ◌&&◌, ◌||◌, not, nat_lt, option_map, option_and_then, find, is_some}
use Rattle.std.specs.List.{list_any, list_all, range_with_len}
use Rattle.std.specs.Option.{option_map_or}
use Rattle.std.proofs.lemmas.Bool.{false≢true, cases_Bool, cases_eq, cases_lt, eqb-true, eq-eqb, ne_eqb, or_parts, or_from, le-ltb, lt-ltb}
use Rattle.std.proofs.lemmas.List.{length-map, get_or_past}
use Rattle.std.proofs.lemmas.List.Folds.{list_any-append}
use Rattle.std.proofs.lemmas.List.FromFn.{length-range_with_len}
use Rattle.std.proofs.lemmas.Option.{none-some, same_Some, slice_get_within, slice_get-get_or}
use Rattle.lwkt_base.specs.declared.names.CpuId.{CpuId}
use Rattle.lwkt_base.specs.declared.names.Mode.{Mode}
use Rattle.lwkt_base.specs.declared.names.Mode.TheVariants.{Exclusive, Shared}
use Rattle.lwkt_base.specs.declared.names.Ref.{Ref}
use Rattle.lwkt_base.specs.declared.faults.Fault.TheVariants.{Worn as WornOut}
use Rattle.lwkt_base.specs.declared.holdings.Held.{Held}
use Rattle.lwkt_base.specs.declared.holdings.Held.TheVariants.{Nothing, Holds}
use Rattle.lwkt_base.specs.declared.limits.TheConstants.{CPU_LIMIT, LAST_GENERATION}
use Rattle.lwkt_base.specs.declared.words.TokWord.{TokWord}
use Rattle.lwkt_base.specs.declared.words.Decision.{Decision}
use Rattle.lwkt_base.specs.declared.words.Decision.TheVariants.{Take as TakeTo, Held as IsHeld, Marked as IsMarked, Worn as IsWorn}
use Rattle.lwkt_base.specs.Holding.{is_held, is_exclusive, mode_of, holding_of}
use Rattle.lwkt_base.specs.Refs.{is_to, names, is_alone, first_mode}
use Rattle.lwkt_base.specs.TokenWord.{word_of, decision}
use Rattle.lwkt_base.proofs.HoldingLemmas.{holding_of-known}
use Rattle.lwkt_core.specs.declared.tokens.Token.{Token}
use Rattle.lwkt_core.specs.FreeTokens.{IsLoneReaderAtMark}
use Rattle.lwkt_core.specs.Machine.{machine, changed}
use Rattle.lwkt_core.specs.Opening.{opened_token}
use Rattle.lwkt_core.specs.Picture.{picture_of}
use Rattle.lwkt_core.specs.Tokens.{held_by, IsFree, IsSafeToken}
use Rattle.lwkt_core.proofs.PictureLemmas.{picture-open, picture-free}
use Rattle.lwkt_core.proofs.RunLemmas.{get-set_else}
use Rattle.lwkt_script.specs.declared.scripts.Script.{Script}
use Rattle.lwkt_search.specs.Runs.{run, CanReach, IsQuiet}
use Rattle.lwkt_plain.specs.declared.nexts.Miss.{Miss}
use Rattle.lwkt_plain.specs.declared.nexts.Miss.TheVariants.{Busy, Worn}
use Rattle.lwkt_plain.specs.declared.nexts.Missed.{Missed}
use Rattle.lwkt_plain.specs.declared.states.BusyAt.{BusyAt}
use Rattle.lwkt_plain.specs.declared.states.Phase.{Phase}
use Rattle.lwkt_plain.specs.declared.states.Phase.TheVariants.{Live, AwaitsItem, AwaitsReply, Exited, Faulted}
use Rattle.lwkt_plain.specs.declared.states.Plain.{Plain}
use Rattle.lwkt_plain.specs.declared.states.Processor.{Processor}
use Rattle.lwkt_plain.specs.declared.states.Thread.{Thread}
use Rattle.lwkt_plain.specs.Deadlocks.{IsStandstill, PollsNone, NonePolls, IsReady, WaitsForRunning, WaitsAtMark}
use Rattle.lwkt_plain.specs.Forms.{kept_word, thread_by, cpu_by, form}
use Rattle.lwkt_plain.specs.Intakes.{below, has_ended, takes_mail}
use Rattle.lwkt_plain.specs.Openings.{opened_cpu, opened}
use Rattle.lwkt_plain.specs.Places.{cpu_at, thread_at, no_processor, with_cpu, with_thread, with_tokens}
use Rattle.lwkt_plain.specs.Sound.{AreHeld, KeepsTokens, Frame, Lists, lists_of, no_lists, frame, running_refs, holding_in, IsSound}
use Rattle.lwkt_plain.specs.Stores.{form_turn}
use Rattle.lwkt_plain.specs.Tokens.{refusal, Tried, resume}
use Rattle.lwkt_plain.specs.Turns.{list_at, ended_by, leaves, ends, is_still, is_still_busy, may_try_in, may_try, Found, found, missed_by, after_try, tries, finds, round_from, runs_at, chooses, polls_at, turn, IsRunning, IsIdle}
use Rattle.lwkt_plain.proofs.Changes.{get_or_changed}
use Rattle.lwkt_plain.proofs.Frames.{takes_mail_frame, sound_by}
use Rattle.lwkt_plain.proofs.Soundness.{lists_at, list_same, held_idle, held_running, list_fits, few_cpus, on_thread}
use Rattle.lwkt_plain.proofs.Takings.{Resumes, takes_keeps}
use Rattle.lwkt_plain.proofs.TokenSteps.{each_at, held_at, keeps_same, keeps_both}
use Rattle.lwkt_plain.proofs.TurnSound.{may_there, try_comes, finds_none, find_on, finds_more, leaves_cpus, leaves_tokens}
use Rattle.lwkt_plain.proofs.GoOnSound.{get_changed}
use Rattle.lwkt_plain.proofs.TurnMoves.{mail_inside, same_cpus, thread_there}
use Rattle.lwkt_plain.proofs.FormLaws.{own_form, opened_by, opened_form}
use Rattle.lwkt_plain.proofs.FormMail.{thread_at_by}
use Rattle.lwkt_plain.proofs.OldWords.{sift, may_be, AreOld}
use Rattle.lwkt_plain.proofs.Alikes.{alike_self, alike_form, alike_mail, form_sound, old_at}
use Rattle.lwkt_plain.proofs.TryForms.{Rests, rests_on, tries_alike, untried_is, some_word, may_some}
use Rattle.lwkt_plain.proofs.TurnForms.{Reached, turn_reached}
use Rattle.lwkt_plain.proofs.TokenRelations.{RelatesAt}
use Rattle.lwkt_plain.proofs.MarkFalls.{Unmarks, Falls, falls_same, falls_both, takes_fall, Refuses, resume_refuses, still_held_back}

-- what a word shows that refuses: a holder to an exclusive request, an exclusive one to a shared request, or a mark
abbrev Shows : TokWord → Mode → Bool → Type 0
Shows w mode alone = ((mode ≡ Exclusive) × ((w.exclusive || nat_lt 0 w.count) ≡ true)) ⊎ (((mode ≡ Shared) × (w.exclusive ≡ true)) ⊎ ((mode ≡ Shared) × (w.mark ≡ true) × (alone ≡ true)))

abbrev is_worn : Miss → Bool
is_worn (Busy word) = false
is_worn Worn = true

shows : (w : TokWord) (mode : Mode) (alone : Bool) (word : ℕ) → refusal w (decision w mode alone) ≡ Some (Busy word) → Shows w mode alone
shows w Exclusive alone word is = go (w.generation == LAST_GENERATION) (w.exclusive || nat_lt 0 w.count) refl is
  where
    go : (last held : Bool) → (w.exclusive || nat_lt 0 w.count) ≡ held → refusal w (if last then IsWorn else (if held then IsHeld else TakeTo (word_of (record w { exclusive = true; mark = false })))) ≡ Some (Busy word) → Shows w Exclusive alone
    go true held so is' = absurd (false≢true (sym (ap is_worn (same_Some Worn (Busy word) is'))))
    go false true so is' = inl (refl, so)
    go false false so is' = absurd (none-some (Busy word) is')
shows w Shared alone word is = go w.exclusive w.mark alone refl refl refl is
  where
    go : (held mark lone : Bool) → w.exclusive ≡ held → w.mark ≡ mark → alone ≡ lone → refusal w (if held then IsHeld else (if mark && lone then IsMarked else TakeTo (word_of (record w { count = w.count + 1 })))) ≡ Some (Busy word) → Shows w Shared alone
    go true mark lone so m a is' = inr (inl (refl, so))
    go false true true so m a is' = inr (inr (refl, m, a))
    go false true false so m a is' = absurd (none-some (Busy word) is')
    go false false lone so m a is' = absurd (none-some (Busy word) is')

-- a processor's holding of a token that a test finds
record Holder (P : Held → Bool) (tok : Token) : Type 0 where
  cpu : ℕ
  inside : cpu < length tok.holders
  is : P (held_by tok cpu) ≡ true

abbrev InList : (Held → Bool) → List Held → Type 0
InList P hs = (i : ℕ) × (i < length hs) × (P (get_or hs i Nothing) ≡ true)

one_in : (P : Held → Bool) (h : Held) (hs : List Held) (b : Bool) → P h ≡ b → (list_any P hs ≡ true → InList P hs) → (b || list_any P hs) ≡ true → InList P (h ∷ hs)
one_in P h hs true here rest so = (0, omega arith, here)
one_in P h hs false here rest so = (let one = rest so in let inside = one.1 in (suc one.0, omega (arith, inside), one.2))

find_in : (P : Held → Bool) (hs : List Held) → list_any P hs ≡ true → InList P hs
find_in P [] is = absurd (false≢true is)
find_in P (h ∷ hs) is = one_in P h hs (P h) refl (find_in P hs) is

holder : (P : Held → Bool) (tok : Token) → list_any P tok.holders ≡ true → Holder P tok
holder P tok is = (let one = find_in P tok.holders is in record { cpu = one.0; inside = one.1; is = one.2 })

none_in : (P : Held → Bool) (hs : List Held) (i : ℕ) → P Nothing ≡ false → list_any P hs ≡ false → P (get_or hs i Nothing) ≡ false
none_in P [] i nothing is = ap P (get_or_past [] i Nothing (omega arith)) ∙ nothing
none_in P (h ∷ hs) zero nothing is = (or_parts (P h) (list_any P hs) is).0
none_in P (h ∷ hs) (suc i) nothing is = none_in P hs i nothing (or_parts (P h) (list_any P hs) is).1

nothing_of : (h : Held) → is_held h ≡ false → h ≡ Nothing
nothing_of Nothing is = refl
nothing_of (Holds mode further) is = absurd (false≢true (sym is))

-- a word that shows a holder has one
held_by_some : (tok : Token) → ((picture_of tok).exclusive || nat_lt 0 (picture_of tok).count) ≡ true → Holder is_held tok
held_by_some tok so = go (list_any is_held tok.holders) refl
  where
    go : (b : Bool) → list_any is_held tok.holders ≡ b → Holder is_held tok
    go true is = holder is_held tok is
    go false is =
        let free : IsFree tok = λ cpu. nothing_of (held_by tok cpu) (none_in is_held tok.holders cpu refl is) in
        let none = picture-free tok free in
        let quiet = or_from (picture_of tok).exclusive (nat_lt 0 (picture_of tok).count) (picture-open tok (λ cpu. ap is_exclusive (free cpu))) (le-ltb 0 (picture_of tok).count (omega (arith, none))) in
        absurd (false≢true (sym quiet ∙ so))

-- a mode of what is held
some_mode : (h : Held) → is_held h ≡ true → (mode : Mode) × (mode_of h ≡ Some mode)
some_mode Nothing is = absurd (false≢true is)
some_mode (Holds mode further) is = (mode, refl)

exclusive_mode : (h : Held) → is_exclusive h ≡ true → (is_held h ≡ true) × (mode_of h ≡ Some Exclusive)
exclusive_mode Nothing is = absurd (false≢true is)
exclusive_mode (Holds Exclusive further) is = (refl, refl)
exclusive_mode (Holds Shared further) is = absurd (false≢true is)

-- who holds a token in a sound state: a thread that runs
record Runner (p : Plain) (c tok : ℕ) : Type 0 where
  number : ℕ
  thread : Thread
  runs : IsRunning p c number
  there : thread_at p c number ≡ Some thread
  holds : holding_in p.tokens c tok ≡ holding_of thread.list tok

runner : (p : Plain) (c tok : ℕ) → IsSound p → c < CPU_LIMIT → is_held (holding_in p.tokens c tok) ≡ true → Runner p c tok
runner p c tok sound here held = go (cpu_at p c).running refl
  where
    by_thread : (k : ℕ) → IsRunning p c k → (o : Option Thread) → thread_at p c k ≡ o → Runner p c tok
    by_thread k runs None at =
        let list : list_at p c k ≡ [] = ap (λ (o : Option Thread). option_map_or (λ (t : Thread). t.list) o []) at in
        let nothing : holding_in p.tokens c tok ≡ Nothing = held_running p c k sound here runs tok ∙ ap (λ (refs : List Ref). holding_of refs tok) list in
        absurd (false≢true (sym (ap is_held nothing) ∙ held))
    by_thread k runs (Some t) at =
        let list : list_at p c k ≡ t.list = ap (λ (o : Option Thread). option_map_or (λ (s : Thread). s.list) o []) at in
        record { number = k; thread = t; runs = runs; there = at; holds = held_running p c k sound here runs tok ∙ ap (λ (refs : List Ref). holding_of refs tok) list }

    go : (o : Option ℕ) → (cpu_at p c).running ≡ o → Runner p c tok
    go None idle = absurd (false≢true (sym (ap is_held (held_idle p c sound here idle tok)) ∙ held))
    go (Some k) runs = by_thread k runs (thread_at p c k) refl

-- the mode of the first reference to a token, which stands behind a front that doesn't name it
first_here : (r : Ref) (rest : List Ref) → first_mode (r ∷ rest) r.tok.0 ≡ Some r.mode
first_here r rest = ap (λ (b : Bool). option_map (λ (q : Ref). q.mode) (if b then Some r else find (is_to r.tok.0) rest)) (eq-eqb r.tok.0 r.tok.0 refl)

pub first_behind : (front : List Ref) (r : Ref) (rest : List Ref) → names front r.tok.0 ≡ false → first_mode (front ++ (r ∷ rest)) r.tok.0 ≡ Some r.mode
first_behind [] r rest none = first_here r rest
first_behind (q ∷ front) r rest none =
    let parts = or_parts (is_to r.tok.0 q) (names front r.tok.0) none in
    ap (λ (b : Bool). option_map (λ (x : Ref). x.mode) (if b then Some q else find (is_to r.tok.0) (front ++ (r ∷ rest)))) parts.0 ∙ first_behind front r rest parts.1

-- what a refused list waits for
module _ (p : Plain) (c : ℕ) (refs : List Ref) (sound : IsSound p) (x : Refuses c p.tokens refs) where
  first : first_mode refs x.r.tok.0 ≡ Some x.r.mode
  first = ap (λ (xs : List Ref). first_mode xs x.r.tok.0) x.is ∙ first_behind x.front x.r x.rest x.facts.unnamed

  -- for a thread that runs
  by_holder : (d : ℕ) → d < length x.facts.tok.holders → (other : Mode) → is_held (held_by x.facts.tok d) ≡ true → mode_of (held_by x.facts.tok d) ≡ Some other → (x.r.mode ≡ Exclusive) ⊎ (other ≡ Exclusive) → WaitsForRunning p c refs
  by_holder d inside other held mode conflict =
      let t = x.r.tok.0 in
      let f = x.facts in
      let eight = (each_at (IsSafeToken CPU_LIMIT) x.tokens t f.tok x.keeps.sound.safe.each_token f.at).eight_holders in
      let here : d < CPU_LIMIT = omega (arith, inside, eight) in
      let apart : d ≢ c = λ same. false≢true (sym (ap is_held (sym (held_at x.tokens t f.tok c f.at) ∙ x.none)) ∙ sym (ap (λ (n : ℕ). is_held (held_by f.tok n)) same) ∙ held) in
      let moved : holding_in p.tokens d t ≡ held_by f.tok d = sym (x.keeps.others d apart t) ∙ held_at x.tokens t f.tok d f.at in
      let run = runner p d t sound here (ap is_held moved ∙ held) in
      record {
        cpu = d;
        number = run.number;
        thread = run.thread;
        tok = t;
        own = x.r.mode;
        other = other;
        apart = apart;
        runs = run.runs;
        there = run.there;
        wants = first;
        holds = sym (holding_of-known run.thread.list t).0 ∙ ap mode_of (sym run.holds ∙ moved) ∙ mode;
        conflict = conflict;
      }

  -- or at a mark
  at_mark : (o : Option Token) → slice_get p.tokens x.r.tok.0 ≡ o → (o' : Option Token) → o' ≡ Some x.facts.tok → RelatesAt Unmarks o' o → x.r.mode ≡ Shared → x.facts.tok.mark ≡ true → is_alone refs x.r.tok.0 ≡ true → WaitsAtMark p refs
  at_mark None at None same falls shared mark alone = absurd (none-some x.facts.tok same)
  at_mark None at (Some new) same falls shared mark alone = absurd falls
  at_mark (Some old) at None same falls shared mark alone = absurd (none-some x.facts.tok same)
  at_mark (Some old) at (Some new) same falls shared mark alone =
      (x.r.tok.0, (old, (at, first ∙ ap (λ (m : Mode). Some m) shared, alone, falls (ap (λ (t : Token). t.mark) (same_Some new x.facts.tok same) ∙ mark))))

  waits : WaitsForRunning p c refs ⊎ WaitsAtMark p refs
  waits = go (shows (picture_of x.facts.tok) x.r.mode (is_alone refs x.r.tok.0) x.word x.facts.is)
    where
      go : Shows (picture_of x.facts.tok) x.r.mode (is_alone refs x.r.tok.0) → WaitsForRunning p c refs ⊎ WaitsAtMark p refs
      go (inl so) =
          let h = held_by_some x.facts.tok so.1 in
          let mode = some_mode (held_by x.facts.tok h.cpu) h.is in
          inl (by_holder h.cpu h.inside mode.0 h.is mode.1 (inl so.0))
      go (inr (inl so)) =
          let h = holder is_exclusive x.facts.tok so.1 in
          let mode = exclusive_mode (held_by x.facts.tok h.cpu) h.is in
          inl (by_holder h.cpu h.inside Exclusive mode.0 mode.1 (inr refl))
      go (inr (inr so)) = inr (at_mark (slice_get p.tokens x.r.tok.0) refl (slice_get x.tokens x.r.tok.0) x.facts.at (x.falls x.r.tok.0) so.0 so.1 so.2)

-- whether a number is in a list
abbrev is_in : ℕ → List ℕ → Bool
is_in k ks = list_any (λ (j : ℕ). j == k) ks

in_range : (n a k : ℕ) → a ≤ k → k < a + n → is_in k (range_with_len a n) ≡ true
in_range zero a k low high = absurd (omega (arith, low, high))
in_range (suc n) a k low high = elim (cases_eq a k) [
  | inl same ↦ ap (λ (b : Bool). b || is_in k (range_with_len (a + 1) n)) (eq-eqb a k same)
  | inr differ ↦
      ap (λ (b : Bool). b || is_in k (range_with_len (a + 1) n)) (ne_eqb a k differ)
      ∙ in_range n (a + 1) k (over differ) (omega (arith, high))
]
  where
    over : a ≢ k → a + 1 ≤ k
    over differ = elim (cases_lt a k) [ inl less ↦ omega (arith, less) | inr more ↦ absurd (differ (omega (arith, low, more))) ]

or_last : (a b : Bool) → b ≡ true → (a || b) ≡ true
or_last true b is = refl
or_last false b is = is

or_first : (a b : Bool) → a ≡ true → (a || b) ≡ true
or_first true b is = refl
or_first false b is = absurd (false≢true is)

-- a search tries each thread of its processor
in_round : (cursor count k : ℕ) → k < count → is_in k (round_from cursor count) ≡ true
in_round cursor count k inside =
    let front = range_with_len cursor (count - cursor) in
    let back = range_with_len 0 cursor in
    let one : (is_in k front || is_in k back) ≡ true = elim (cases_lt k cursor) [
      | inl less ↦ or_last (is_in k front) (is_in k back) (in_range cursor 0 k (omega arith) (omega (arith, less)))
      | inr more ↦ or_first (is_in k front) (is_in k back) (in_range (count - cursor) cursor k more (omega (arith, more, inside)))
    ] in
    list_any-append (λ (j : ℕ). j == k) front back ∙ one

-- a search of which this state is on the way: its processor runs nothing, words are old, others hold what they held, and no mark is new
pub record OnTheWay (c : ℕ) (p q : Plain) : Type 0 where
  pub rests : Rests c q
  pub old : AreOld q
  pub keeps : KeepsTokens c p.tokens q.tokens
  pub falls : Falls p.tokens q.tokens

-- a try that found no thread: none was made, or it was missed
abbrev pub trial : ℕ → ℕ → Plain → Tried
trial c j q = resume (record { 0 = c }) q.tokens (list_at q c j)

pub record IsMissed (c j : ℕ) (q : Plain) : Type 0 where
  pub may : may_try q c j ≡ true
  pub missed : Missed
  pub is : (trial c j q).missed ≡ Some missed
  pub leads : (tries c j q).plain ≡ missed_by c j (with_tokens (trial c j q).tokens q) missed.at missed.why

pub record IsUntried (c j : ℕ) (q : Plain) : Type 0 where
  pub may_not : may_try q c j ≡ false
  pub leads : (tries c j q).plain ≡ q

abbrev pub either : ℕ → ℕ → Plain → Bool → Found
either c j q b = if b then after_try c j q (trial c j q) else found q None

abbrev pub left : ℕ → ℕ → Plain → Option Missed → Found
left c j q o = option_map_or (λ (m : Missed). found (missed_by c j (with_tokens (trial c j q).tokens q) m.at m.why) None) o (found (with_tokens (trial c j q).tokens q) (Some j))

pub no_place : (c j : ℕ) (q : Plain) → (tries c j q).place ≡ None → IsUntried c j q ⊎ IsMissed c j q
no_place c j q none = go (may_try q c j) refl none
  where
    tried : may_try q c j ≡ true → (o : Option Missed) → (trial c j q).missed ≡ o → (left c j q o).place ≡ None → IsUntried c j q ⊎ IsMissed c j q
    tried may None is none' = absurd (none-some j (sym none'))
    tried may (Some m) is none' = inr (record { may = may; missed = m; is = is; leads = ap (λ (b : Bool). (either c j q b).plain) may ∙ ap (λ (o : Option Missed). (left c j q o).plain) is })

    go : (b : Bool) → may_try q c j ≡ b → (either c j q b).place ≡ None → IsUntried c j q ⊎ IsMissed c j q
    go false may none' = inl (record { may_not = may; leads = ap (λ (b : Bool). (either c j q b).plain) may })
    go true may none' = tried may (trial c j q).missed refl none'

-- a thread that isn't changed
changed_else : {A : Type 0} (f : A → A) (xs : List A) (j k : ℕ) → k ≢ j → slice_get (changed f xs j) k ≡ slice_get xs k
changed_else {A} f xs j k differ = go (slice_get xs j)
  where
    go : (o : Option A) → slice_get (option_map_or (λ x. slice_set xs j (f x)) o xs) k ≡ slice_get xs k
    go None = refl
    go (Some x) = get-set_else xs j k (f x) differ

thread_else : (f : Thread → Thread) (c j k : ℕ) (q : Plain) → c < length q.cpus → k ≢ j → thread_at (with_thread f c j q) c k ≡ thread_at q c k
thread_else f c j k q inside differ =
    ap (λ (cpu : Processor). slice_get cpu.threads k) (get_or_changed (on_thread f j) q.cpus c no_processor inside) ∙ changed_else f (cpu_at q c).threads j k differ

thread_same : (c k : ℕ) (p q : Plain) → q.cpus ≡ p.cpus → thread_at q c k ≡ thread_at p c k
thread_same c k p q same = ap (λ (cpus : List Processor). slice_get (get_or cpus c no_processor).threads k) same

missed_else : (c j k : ℕ) (q : Plain) (at : ℕ) (why : Miss) → c < length q.cpus → k ≢ j → thread_at (missed_by c j q at why) c k ≡ thread_at q c k
missed_else c j k q at (Busy word) inside differ = thread_else (λ (t : Thread). record t { busy = Some (record { word = word; at = at }) }) c j k q inside differ
missed_else c j k q at Worn inside differ =
    thread_else (ended_by (Faulted WornOut)) c j k (leaves c j q) (subst (λ (cpus : List Processor). c < length cpus) (sym (leaves_cpus c j q)) inside) differ
    ∙ thread_same c k q (leaves c j q) (leaves_cpus c j q)

missed_tokens : (c j : ℕ) (q : Plain) (at : ℕ) (why : Miss) → (missed_by c j q at why).tokens ≡ q.tokens
missed_tokens c j q at (Busy word) = refl
missed_tokens c j q at Worn = leaves_tokens c j q

-- a try leads on
pub on_the_way : (c j : ℕ) (p q : Plain) → OnTheWay c p q → (tries c j q).place ≡ None → OnTheWay c p (tries c j q).plain
on_the_way c j p q w none =
    let y = (tries c j q).plain in
    let comes = try_comes c j q w.rests.inside w.rests.sound w.rests.idle w.rests.here in
    let tokens = go (no_place c j q none) in
    record {
      rests = rests_on c q y w.rests (comes.0 none);
      old = (tries_alike c j q q w.rests w.rests (alike_self q w.old)).alike.old;
      keeps = tokens.0;
      falls = tokens.1;
    }
  where
    go : IsUntried c j q ⊎ IsMissed c j q → KeepsTokens c p.tokens (tries c j q).plain.tokens × Falls p.tokens (tries c j q).plain.tokens
    go (inl u) =
        subst (λ (x : Plain). KeepsTokens c p.tokens x.tokens × Falls p.tokens x.tokens) (sym u.leads) (w.keeps, w.falls)
    go (inr m) =
        let x = trial c j q in
        let cpu : CpuId = record { 0 = c } in
        let there = may_there q c j m.may in
        let r = takes_keeps cpu (list_at q c j) (list_at q c j) [] q.tokens w.rests.here w.rests.sound.tokens (held_idle q c w.rests.sound w.rests.here w.rests.idle) (list_fits q c j w.rests.sound w.rests.inside there) in
        let same : (tries c j q).plain.tokens ≡ x.tokens = ap (λ (z : Plain). z.tokens) m.leads ∙ missed_tokens c j (with_tokens x.tokens q) m.missed.at m.missed.why in
        subst (λ (tokens : List Token). KeepsTokens c p.tokens tokens × Falls p.tokens tokens) (sym same)
        (keeps_both c p.tokens q.tokens x.tokens w.keeps r.keeps, falls_both p.tokens q.tokens x.tokens w.falls (takes_fall cpu (list_at q c j) (list_at q c j) q.tokens []))

pub way_self : (c : ℕ) (p q : Plain) → OnTheWay c p q → OnTheWay c q q
way_self c p q w = record { rests = w.rests; old = w.old; keeps = keeps_same c q.tokens w.rests.sound.tokens; falls = falls_same q.tokens }

-- a search that found no thread went on
abbrev pub on_if : ℕ → List ℕ → Found → Bool → Found
on_if c ks y b = if b then y else finds c y.plain ks

pub none_on : (c : ℕ) (ks : List ℕ) (y : Found) → (find_on c ks y).place ≡ None → (y.place ≡ None) × (find_on c ks y ≡ finds c y.plain ks)
none_on c ks y none = go y.place refl
  where
    go : (o : Option ℕ) → y.place ≡ o → (y.place ≡ None) × (find_on c ks y ≡ finds c y.plain ks)
    go None is = (is, ap (on_if c ks y) (ap is_some is))
    go (Some k) is = absurd (none-some k (sym none ∙ ap (λ (b : Bool). (on_if c ks y b).place) (ap is_some is) ∙ is))

-- a thread that is in a phase in which it isn't tried stays so
abbrev IsLazy : Phase → Type 0
IsLazy phase = (tokens : List Token) (t : Thread) → may_try_in phase tokens t ≡ false

may_is : (c k : ℕ) (q : Plain) (t : Thread) → thread_at q c k ≡ Some t → may_try q c k ≡ may_try_in t.phase q.tokens t
may_is c k q t at = ap (λ (o : Option Thread). option_map_or (λ (s : Thread). may_try_in s.phase q.tokens s) o false) at

lazy_try : (c j k : ℕ) (q : Plain) (t : Thread) → Rests c q → (tries c j q).place ≡ None → thread_at q c k ≡ Some t → (k ≢ j) ⊎ IsLazy t.phase → thread_at (tries c j q).plain c k ≡ Some t
lazy_try c j k q t rests none at so = go (no_place c j q none)
  where
    missed : IsMissed c j q → k ≢ j → thread_at (tries c j q).plain c k ≡ Some t
    missed m differ =
        ap (λ (x : Plain). thread_at x c k) m.leads ∙ missed_else c j k (with_tokens (trial c j q).tokens q) m.missed.at m.missed.why rests.inside differ ∙ at

    go : IsUntried c j q ⊎ IsMissed c j q → thread_at (tries c j q).plain c k ≡ Some t
    go (inl u) = ap (λ (x : Plain). thread_at x c k) u.leads ∙ at
    go (inr m) = elim so [
      | inl differ ↦ missed m differ
      | inr lazy ↦ elim (cases_eq k j) [
        | inl same ↦ absurd (false≢true (sym (may_is c k q t at ∙ lazy q.tokens t) ∙ ap (may_try q c) same ∙ m.may))
        | inr differ ↦ missed m differ
      ]
    ]

lazy_search : (c k : ℕ) (p : Plain) (ks : List ℕ) (q : Plain) (t : Thread) → OnTheWay c p q → (finds c q ks).place ≡ None → thread_at q c k ≡ Some t → IsLazy t.phase → thread_at (finds c q ks).plain c k ≡ Some t
lazy_search c k p [] q t w none at lazy = ap (λ (x : Found). thread_at x.plain c k) (finds_none c q) ∙ at
lazy_search c k p (j ∷ js) q t w none at lazy =
    let y = tries c j q in
    let on = none_on c js y (sym (ap (λ (x : Found). x.place) (finds_more c q j js)) ∙ none) in
    let rest : (finds c y.plain js).place ≡ None = sym (ap (λ (x : Found). x.place) (finds_more c q j js ∙ on.1)) ∙ none in
    ap (λ (x : Found). thread_at x.plain c k) (finds_more c q j js ∙ on.1)
    ∙ lazy_search c k p js y.plain t (on_the_way c j p q w on.0) rest (lazy_try c j k q t w.rests on.0 at (inr lazy)) lazy

-- a thread that has ended
record IsOver (c k : ℕ) (q : Plain) : Type 0 where
  thread : Thread
  there : thread_at q c k ≡ Some thread
  over : has_ended thread.phase ≡ true

lazy_over : (phase : Phase) → has_ended phase ≡ true → IsLazy phase
lazy_over Live over = absurd (false≢true over)
lazy_over AwaitsItem over = λ tokens t. refl
lazy_over (AwaitsReply msg) over = λ tokens t. refl
lazy_over Exited over = λ tokens t. refl
lazy_over (Faulted fault) over = λ tokens t. refl

over_search : (c k : ℕ) (p : Plain) (ks : List ℕ) (q : Plain) → OnTheWay c p q → (finds c q ks).place ≡ None → IsOver c k q → IsOver c k (finds c q ks).plain
over_search c k p ks q w none o = record { thread = o.thread; there = lazy_search c k p ks q o.thread w none o.there (lazy_over o.thread.phase o.over); over = o.over }

-- a ready thread that is tried, or not since its word is still its token's, is refused by a word, or ends
worn_over : (c k : ℕ) (q : Plain) (t : Thread) → c < length q.cpus → thread_at q c k ≡ Some t → IsOver c k (ends c k (Faulted WornOut) q)
worn_over c k q t inside at =
    let f = ended_by (Faulted WornOut) in
    let l = leaves c k q in
    let within : c < length l.cpus = subst (λ (cpus : List Processor). c < length cpus) (sym (leaves_cpus c k q)) inside in
    let here : thread_at l c k ≡ Some t = thread_same c k q l (leaves_cpus c k q) ∙ at in
    record {
      thread = f t;
      there =
          ap (λ (cpu : Processor). slice_get cpu.threads k) (get_or_changed (on_thread f k) l.cpus c no_processor within)
          ∙ get_changed f (cpu_at l c).threads k (slice_get_within (cpu_at l c).threads k t here)
          ∙ ap (λ (o : Option Thread). option_map_or (λ (x : Thread). Some (f x)) o None) here;
      over = refl;
    }

refused_at : (c k : ℕ) (p q : Plain) (t : Thread) → OnTheWay c p q → (tries c k q).place ≡ None → thread_at q c k ≡ Some t → t.phase ≡ Live → Refuses c p.tokens t.list ⊎ IsOver c k (tries c k q).plain
refused_at c k p q t w none at live = go (no_place c k q none)
  where
    nothing : AreHeld c [] q.tokens
    nothing = held_idle q c w.rests.sound w.rests.here w.rests.idle

    list : list_at q c k ≡ t.list
    list = ap (λ (o : Option Thread). option_map_or (λ (s : Thread). s.list) o []) at

    -- not tried
    passed : IsUntried c k q → Refuses c p.tokens t.list
    passed u =
        let still = untried_is q.tokens t (ap (λ (phase : Phase). may_try_in phase q.tokens t) (sym live) ∙ sym (may_is c k q t at) ∙ u.may_not) in
        let word = some_word q.tokens t still in
        let own : sift (may_be q.tokens) t.list t.busy ≡ t.busy = ap (λ (x : Thread). x.busy) (old_at q c k t w.old at) in
        let may : may_be q.tokens t.list word.0 ≡ true = may_some word.0 (may_be q.tokens t.list word.0) (sym (ap (sift (may_be q.tokens) t.list) word.1) ∙ own ∙ word.1) in
        still_held_back c p.tokens q.tokens t.list word.0 w.rests.sound.tokens nothing w.keeps w.falls may word.2

    -- tried
    missed : (m : IsMissed c k q) → (why : Miss) → m.missed.why ≡ why → Refuses c p.tokens t.list ⊎ IsOver c k (tries c k q).plain
    missed m (Busy word) is =
        let cpu : CpuId = record { 0 = c } in
        let fits = list_fits q c k w.rests.sound w.rests.inside (slice_get_within (cpu_at q c).threads k t at) in
        inl (subst (λ (refs : List Ref). Refuses c p.tokens refs) list (resume_refuses cpu p.tokens (list_at q c k) w.rests.here m.missed word is q.tokens w.rests.sound.tokens nothing fits w.keeps w.falls m.is))
    missed m Worn is =
        inr (subst (IsOver c k) (sym (m.leads ∙ ap (missed_by c k (with_tokens (trial c k q).tokens q) m.missed.at) is)) (worn_over c k (with_tokens (trial c k q).tokens q) t w.rests.inside at))

    go : IsUntried c k q ⊎ IsMissed c k q → Refuses c p.tokens t.list ⊎ IsOver c k (tries c k q).plain
    go (inl u) = inl (passed u)
    go (inr m) = missed m m.missed.why refl

refused_in : (c k : ℕ) (p : Plain) (ks : List ℕ) (q : Plain) (t : Thread) → OnTheWay c p q → (finds c q ks).place ≡ None → is_in k ks ≡ true → thread_at q c k ≡ Some t → t.phase ≡ Live → Refuses c p.tokens t.list ⊎ IsOver c k (finds c q ks).plain
refused_in c k p [] q t w none there at live = absurd (false≢true there)
refused_in c k p (j ∷ js) q t w none there at live =
    let y = tries c j q in
    let on = none_on c js y (sym (ap (λ (x : Found). x.place) (finds_more c q j js)) ∙ none) in
    let is : finds c q (j ∷ js) ≡ finds c y.plain js = finds_more c q j js ∙ on.1 in
    let rest : (finds c y.plain js).place ≡ None = sym (ap (λ (x : Found). x.place) is) ∙ none in
    let way = on_the_way c j p q w on.0 in
    subst (λ (x : Found). Refuses c p.tokens t.list ⊎ IsOver c k x.plain) (sym is) (elim (cases_eq k j) [
      | inl same ↦ one j same on.0 way rest
      | inr differ ↦
          refused_in c k p js y.plain t way rest
          (sym (ap (λ (b : Bool). b || is_in k js) (ne_eqb j k (λ e. differ (sym e)))) ∙ there) (lazy_try c j k q t w.rests on.0 at (inl differ)) live
    ])
  where
    own : (tries c k q).place ≡ None → OnTheWay c p (tries c k q).plain → (finds c (tries c k q).plain js).place ≡ None → Refuses c p.tokens t.list ⊎ IsOver c k (finds c (tries c k q).plain js).plain
    own none' way rest = elim (refused_at c k p q t w none' at live) [
      | inl so ↦ inl so
      | inr over ↦ inr (over_search c k p js (tries c k q).plain way rest over)
    ]

    one : (i : ℕ) → k ≡ i → (tries c i q).place ≡ None → OnTheWay c p (tries c i q).plain → (finds c (tries c i q).plain js).place ≡ None → Refuses c p.tokens t.list ⊎ IsOver c k (finds c (tries c i q).plain js).plain
    one i same none' way rest =
        let F : ℕ → Type 0 = λ n. (tries c n q).place ≡ None → OnTheWay c p (tries c n q).plain → (finds c (tries c n q).plain js).place ≡ None → Refuses c p.tokens t.list ⊎ IsOver c k (finds c (tries c n q).plain js).plain in
        subst F same own none' way rest

-- the states that orders of turns lead to, by their forms
pub record ReachedForm (script : Script) (p : Plain) : Type 0 where
  pub state : Reached script p
  pub own : form p ≡ p

pub opened_form_reached : (script : Script) → IsSound (opened script) → ReachedForm script (opened script)
unfolding below
opened_form_reached script sound = record {
  state = record {
    sound = sound;
    old = opened_by (sift (may_be (map opened_token script.tokens))) (λ refs. refl) script;
    cpus = length-map (below script.cpus) (opened_cpu script) ∙ length-range_with_len 0 script.cpus;
  };
  own = opened_form script;
}

form_reached : (script : Script) (p : Plain) → Reached script p → ReachedForm script (form p)
form_reached script p r = record {
  state = record { sound = form_sound p r.sound; old = (alike_form p r.old).old_too; cpus = length-map p.cpus (cpu_by (kept_word p.tokens)) ∙ r.cpus };
  own = own_form p;
}

pub turned_reached : (script : Script) (c : ℕ) (p : Plain) → c < script.cpus → ReachedForm script p → ReachedForm script (form_turn script p c)
turned_reached script c p below_count r = go (nat_lt c (length p.cpus))
  where
    go : (b : Bool) → ReachedForm script (if b then form (turn script p c) else p)
    go true = form_reached script (turn script p c) (turn_reached script c p below_count r.state)
    go false = r

run_form_reached : (script : Script) (all : List ℕ) (p : Plain) → All (λ cpu. cpu < script.cpus) all → ReachedForm script p → ReachedForm script (run (form_turn script) p all)
run_form_reached script [] p there r = r
run_form_reached script (c ∷ rest) p there r =
    run_form_reached script rest (form_turn script p c) (λ k d inside. there (suc k) d (omega (arith, inside))) (turned_reached script c p (there 0 c (omega arith)) r)

pub reached_form : (script : Script) (p : Plain) → IsSound (opened script) → CanReach (form_turn script) script.cpus (opened script) p → ReachedForm script p
reached_form script p sound can = subst (ReachedForm script) can.leads (run_form_reached script can.order (opened script) can.below (opened_form_reached script sound))

-- a processor whose turn polls no thread runs none, and its search finds none
abbrev searched : ℕ → Plain → Found
searched c m = finds c m (round_from (cpu_at m c).cursor (length (cpu_at m c).threads))

record FindsNone (c : ℕ) (m : Plain) : Type 0 where
  idle : IsIdle m c
  none : (searched c m).place ≡ None
  leads : (chooses c m).plain ≡ (searched c m).plain

abbrev chosen_by : ℕ → Plain → Option ℕ → Found
chosen_by c m o = option_map_or (λ k. found m (Some k)) o (runs_at c (searched c m))

abbrev run_by : ℕ → Plain → Option ℕ → Found
run_by c m o = option_map_or (λ k. found (with_cpu (λ (cpu : Processor). record cpu { running = Some k; cursor = k + 1 }) c (searched c m).plain) (Some k)) o (searched c m)

finds_nothing : (c : ℕ) (m : Plain) → (chooses c m).place ≡ None → FindsNone c m
finds_nothing c m none = go (cpu_at m c).running refl none
  where
    runs : (cpu_at m c).running ≡ None → (o : Option ℕ) → (searched c m).place ≡ o → (run_by c m o).place ≡ None → FindsNone c m
    runs idle None is none' = record { idle = idle; none = is; leads = ap (λ (o : Option ℕ). (chosen_by c m o).plain) idle ∙ ap (λ (o : Option ℕ). (run_by c m o).plain) is }
    runs idle (Some k) is none' = absurd (none-some k (sym none'))

    go : (o : Option ℕ) → (cpu_at m c).running ≡ o → (chosen_by c m o).place ≡ None → FindsNone c m
    go None idle none' = runs idle (searched c m).place refl none'
    go (Some k) runs' none' = absurd (none-some k (sym none'))

-- a state that a turn leads to itself, in which that polls no thread
module _ (script : Script) (p : Plain) (c : ℕ) (r : ReachedForm script p) (below_count : c < script.cpus) (quiet : form_turn script p c ≡ p) (none : PollsNone p c) where
  inside : c < length p.cpus
  inside = (let same = r.state.cpus in omega (arith, same, below_count))

  here : c < CPU_LIMIT
  here = (let few = few_cpus p r.state.sound in let there = inside in omega (arith, few, there))

  abbrev mail : Plain
  mail = takes_mail c p

  lists_same : lists_of (cpu_at mail c) ≡ lists_of (cpu_at p c)
  lists_same = sym (lists_at mail c) ∙ ap (λ (f : Frame). get_or f.cpus c no_lists) (takes_mail_frame c p) ∙ lists_at p c

  searching : FindsNone c mail
  searching = finds_nothing c mail none

  abbrev ending : Plain
  ending = (searched c mail).plain

  rests_here : (cpu_at p c).running ≡ None
  rests_here = sym (ap (λ (l : Lists). l.running) lists_same) ∙ searching.idle

  back : form ending ≡ p
  back =
      let turned : turn script p c ≡ ending = ap (λ (o : Option ℕ). option_map_or (polls_at script c (chooses c mail).plain) o (chooses c mail).plain) none ∙ searching.leads in
      ap form (sym turned)
      ∙ sym (ap (λ (b : Bool). if b then form (turn script p c) else p) (lt-ltb c (length p.cpus) inside))
      ∙ quiet

  way : OnTheWay c p mail
  way =
      let tokens : mail.tokens ≡ p.tokens = ap (λ (f : Frame). f.tokens) (takes_mail_frame c p) in
      record {
        rests = record { inside = mail_inside p mail c refl inside; sound = sound_by p mail (takes_mail_frame c p) r.state.sound; idle = searching.idle; here = here };
        old = (alike_mail c p p (alike_self p r.state.old)).old;
        keeps = subst (λ (ts : List Token). KeepsTokens c p.tokens ts) (sym tokens) (keeps_same c p.tokens r.state.sound.tokens);
        falls = subst (λ (ts : List Token). Falls p.tokens ts) (sym tokens) (falls_same p.tokens);
      }

  -- a ready thread
  module _ (k : ℕ) (t : Thread) (at : thread_at p c k ≡ Some t) (live : t.phase ≡ Live) where
    last_phase : (s : Thread) → thread_at ending c k ≡ Some s → s.phase ≡ Live
    last_phase s there =
        let F : Option Thread → Option Phase = λ o. option_map (λ (x : Thread). x.phase) o in
        let same : Some s.phase ≡ Some t.phase =
        sym (ap (λ (o : Option Thread). F (option_map (thread_by (kept_word ending.tokens)) o)) there)
        ∙ sym (ap F (thread_at_by (kept_word ending.tokens) ending c k))
        ∙ ap (λ (x : Plain). F (thread_at x c k)) back
        ∙ ap F at in
        same_Some s.phase t.phase same ∙ live

    not_lazy : (s : Thread) → thread_at mail c k ≡ Some s → IsLazy s.phase → s.phase ≡ Live
    not_lazy s there lazy = last_phase s (lazy_search c k p (round_from (cpu_at mail c).cursor (length (cpu_at mail c).threads)) mail s way searching.none there lazy)

    is_live : (s : Thread) → thread_at mail c k ≡ Some s → (phase : Phase) → s.phase ≡ phase → s.phase ≡ Live
    is_live s there Live is = is
    is_live s there AwaitsItem is = not_lazy s there (subst IsLazy (sym is) (λ tokens x. refl))
    is_live s there (AwaitsReply msg) is = not_lazy s there (subst IsLazy (sym is) (λ tokens x. refl))
    is_live s there Exited is = not_lazy s there (subst IsLazy (sym is) (λ tokens x. refl))
    is_live s there (Faulted fault) is = not_lazy s there (subst IsLazy (sym is) (λ tokens x. refl))

    is_refused : Refuses c p.tokens t.list
    is_refused =
        let within : k < length (cpu_at p c).threads = slice_get_within (cpu_at p c).threads k t at in
        let long = length-map (cpu_at p c).threads (λ (x : Thread). x.list) in
        let long_too = length-map (cpu_at mail c).threads (λ (x : Thread). x.list) in
        let same = ap (λ (l : Lists). length l.lists) lists_same in
        let there : k < length (cpu_at mail c).threads = omega (arith, within, long, long_too, same) in
        let one = thread_there mail c k there in
        let s = one.0 in
        let list : s.list ≡ t.list =
        sym (ap (λ (o : Option Thread). option_map_or (λ (x : Thread). x.list) o []) one.1)
        ∙ sym (list_same (λ (x : Thread). x.list) (cpu_at mail c).threads k [])
        ∙ ap (λ (l : Lists). get_or l.lists k []) lists_same
        ∙ list_same (λ (x : Thread). x.list) (cpu_at p c).threads k []
        ∙ ap (λ (o : Option Thread). option_map_or (λ (x : Thread). x.list) o []) at in
        let ks = round_from (cpu_at mail c).cursor (length (cpu_at mail c).threads) in
        subst (Refuses c p.tokens) list
        (elim (refused_in c k p ks mail s way searching.none (in_round (cpu_at mail c).cursor (length (cpu_at mail c).threads) k there) one.1 (is_live s one.1 s.phase refl)) [
          | inl so ↦ so
          | inr over ↦ absurd (false≢true (sym (ap has_ended (last_phase over.thread over.there)) ∙ over.over))
        ])

-- at a standstill
module _ (script : Script) (p : Plain) (sound : IsSound (opened script)) (still : IsStandstill script p) where
  state : ReachedForm script p
  state = reached_form script p sound still.reached

  pub each_waits : (c : ℕ) (refs : List Ref) → c < script.cpus → PollsNone p c → IsReady p c refs → WaitsForRunning p c refs ⊎ WaitsAtMark p refs
  each_waits c refs below_count none ready =
      subst (λ (xs : List Ref). WaitsForRunning p c xs ⊎ WaitsAtMark p xs) ready.list
      (waits p c ready.thread.list state.state.sound (is_refused script p c state below_count (still.quiet c below_count) none ready.number ready.thread ready.there ready.live))

  -- where no turn polls a thread
  module _ (none : NonePolls script p) where
    idle : (c : ℕ) → (cpu_at p c).running ≡ None
    idle c = elim (cases_lt c script.cpus) [
      | inl below_count ↦ rests_here script p c state below_count (still.quiet c below_count) (none c below_count)
      | inr past ↦ ap (λ (cpu : Processor). cpu.running) (get_or_past p.cpus c no_processor (let same = state.state.cpus in omega (arith, same, past)))
    ]

    pub none_held : All IsFree p.tokens
    none_held i d within =
        λ c. elim (cases_lt c CPU_LIMIT) [
          | inl here ↦ sym (held_at p.tokens i (get_or p.tokens i d) c (slice_get-get_or p.tokens i d within)) ∙ held_idle p c state.state.sound here (idle c) i
          | inr past ↦ (
              let eight = (state.state.sound.tokens.safe.each_token i d within).eight_holders in
              get_or_past (get_or p.tokens i d).holders c Nothing (omega (arith, eight, past)))
        ]

    pub at_marks : (c : ℕ) (refs : List Ref) → c < script.cpus → IsReady p c refs → WaitsAtMark p refs
    at_marks c refs below_count ready = elim (each_waits c refs below_count (none c below_count) ready) [
      | inl w ↦ absurd (none-some w.number (sym (idle w.cpu) ∙ w.runs))
      | inr mark ↦ mark
    ]
