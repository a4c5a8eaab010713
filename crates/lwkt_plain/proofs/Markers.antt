-- A marked token has a ready thread that waits for it exclusively, or a thread was ended by a fault that left its mark.
use Rattle.std.proofs.Common.{◌≡◌, ◌≢◌, ◌⊎◌, ◌<◌, ◌+◌, ◌-◌, ℕ, suc, List, [], ◌∷◌, ◌++◌, length, get_or, refl, ap, sym, ◌∙◌, subst, arith, inl, inr, Option, Some, None, Bool, true, false, All}
use Rattle.std.specs.Prelude.{slice_get, slice_set, if◌then◌else◌, ◌==◌, not, nat_lt, option_map, find, is_some, IfSome, unwrap_or, take}
use Rattle.std.specs.Option.{option_map_or}
use Rattle.std.proofs.lemmas.Bool.{false≢true, cases_Bool, cases_eq, cases_lt, and_parts, eqb-true, or_from}
use Rattle.std.proofs.lemmas.List.Folds.{list_any-append}
use Rattle.std.proofs.lemmas.Option.{none-some, same_Some, slice_get_within, slice_get-map}
use Rattle.lwkt_base.specs.declared.asks.Ask.{Ask}
use Rattle.lwkt_base.specs.declared.asks.Ask.TheVariants.{Get, GetShared, TryGet, Rel, Swap, Read as ReadCell, Write as WriteCell, Add, ReadBlob as ReadRecord, WriteBlob as WriteRecord, Send as SendAsk, Do, Reply as ReplyAsk, Abort as AbortAsk, IsAborted, DropMsg as DropAsk, GetPort, WaitPort, Yield, Exit, Fail}
use Rattle.lwkt_base.specs.declared.asks.Answer.TheVariants.{Done}
use Rattle.lwkt_base.specs.declared.faults.Fault.{Fault}
use Rattle.lwkt_base.specs.declared.faults.Fault.TheVariants.{Broken, NotLast, Worn as WornOut}
use Rattle.lwkt_base.specs.declared.names.CpuId.{CpuId}
use Rattle.lwkt_base.specs.declared.names.Mode.{Mode}
use Rattle.lwkt_base.specs.declared.names.Mode.TheVariants.{Exclusive, Shared}
use Rattle.lwkt_base.specs.declared.names.Ref.{Ref}
use Rattle.lwkt_base.specs.declared.names.TokId.{TokId}
use Rattle.lwkt_base.specs.declared.limits.TheConstants.{CPU_LIMIT}
use Rattle.lwkt_base.specs.declared.opening_specs.TokSpec.{TokSpec}
use Rattle.lwkt_base.specs.Refs.{is_to, names, is_alone, first_mode}
use Rattle.lwkt_core.specs.declared.tokens.Token.{Token}
use Rattle.lwkt_core.specs.declared.events.Event.{Event}
use Rattle.lwkt_core.specs.declared.events.Event.TheVariants.{Take, Again, Mark, Write, WriteBlob}
use Rattle.lwkt_core.specs.Machine.{changed}
use Rattle.lwkt_core.specs.Opening.{opened_token}
use Rattle.lwkt_core.specs.Takings.{taking, taking_event}
use Rattle.lwkt_core.specs.Tokens.{token_after}
use Rattle.lwkt_code.specs.Programs.{Program}
use Rattle.lwkt_script.specs.declared.scripts.Script.{Script}
use Rattle.lwkt_script.specs.declared.scripts.ThreadSpec.{ThreadSpec}
use Rattle.lwkt_plain.specs.declared.nexts.Miss.{Miss}
use Rattle.lwkt_plain.specs.declared.nexts.Miss.TheVariants.{Busy, Worn}
use Rattle.lwkt_plain.specs.declared.nexts.Missed.{Missed}
use Rattle.lwkt_plain.specs.declared.nexts.Next.{Next}
use Rattle.lwkt_plain.specs.declared.nexts.Next.TheVariants.{Runs, Leaves}
use Rattle.lwkt_plain.specs.declared.states.Phase.{Phase}
use Rattle.lwkt_plain.specs.declared.states.Phase.TheVariants.{Live, Faulted}
use Rattle.lwkt_plain.specs.declared.states.Plain.{Plain}
use Rattle.lwkt_plain.specs.declared.states.Processor.{Processor}
use Rattle.lwkt_plain.specs.declared.states.Thread.{Thread}
use Rattle.lwkt_search.specs.Runs.{run, CanReach}
use Rattle.lwkt_plain.specs.Deadlocks.{IsStandstill, NonePolls, IsReady, HasFaulted, WaitsAtMark, StandstillsAreWaits}
use Rattle.lwkt_plain.specs.Openings.{opened}
use Rattle.lwkt_plain.specs.Stores.{form_turn}
use Rattle.lwkt_plain.specs.Forms.{kept_word, thread_by, form}
use Rattle.lwkt_plain.specs.Intakes.{has_ended, takes_mail}
use Rattle.lwkt_plain.specs.Mailing.{Mailed}
use Rattle.lwkt_plain.specs.Places.{cpu_at, thread_at, no_processor, with_cpu, with_thread, with_tokens}
use Rattle.lwkt_plain.specs.Sound.{Frame, Lists, no_lists, IsSound}
use Rattle.lwkt_plain.specs.TokenAsks.{Asked, asked, refused, unless, get_refusal, had, must_switch, get, try_missed, try_get, last_of, front_of, released, rel, swapped, tok_at, are_same, value_of}
use Rattle.lwkt_plain.specs.Tokens.{stepped, miss_of, gave, gives, Tried, takes}
use Rattle.lwkt_plain.specs.Turns.{list_at, ended_by, leaves, ends, may_try_in, may_try, Found, found, missed_by, tries, finds, round_from, runs_at, chooses, token_ask, mail_ask, ref_to, polled, next_of, Performed, performed, with_list, of_tokens, of_mail, phase_for, performs, rests, becomes, gives_up, breaks, goes_on, polls_thread, polls_at, spec_at, turn, IsRunning}
use Rattle.lwkt_plain.proofs.Changes.{get_or_changed, changed_out}
use Rattle.lwkt_plain.proofs.Alikes.{alike_self, alike_mail}
use Rattle.lwkt_plain.proofs.ChosenSound.{chosen}
use Rattle.lwkt_plain.proofs.Frames.{takes_mail_frame, sound_by}
use Rattle.lwkt_plain.proofs.MailSound.{MailsSoundly, mail_soundly}
use Rattle.lwkt_plain.proofs.OldWords.{AreOld}
use Rattle.lwkt_plain.proofs.TokenSteps.{keeps_same}
use Rattle.lwkt_plain.proofs.TurnForms.{Ready, ready_by, ready_polled, Reached}
use Rattle.lwkt_plain.proofs.FormMail.{cpu_at_by, thread_at_by}
use Rattle.lwkt_plain.proofs.GoOnSound.{get_changed}
use Rattle.lwkt_plain.proofs.Soundness.{few_cpus, lists_at, on_thread}
use Rattle.lwkt_plain.proofs.Takings.{after_miss, takes_more}
use Rattle.lwkt_plain.proofs.TokenRelations.{RelatesAt, step_relates, give_relates}
use Rattle.lwkt_plain.proofs.TryForms.{tried_is}
use Rattle.lwkt_plain.proofs.TryWords.{miss_facts}
use Rattle.lwkt_plain.proofs.TurnSound.{find_on, finds_none, finds_more, leaves_cpus, leaves_tokens}
use Rattle.lwkt_plain.proofs.TurnMoves.{mail_inside, thread_there}
use Rattle.lwkt_plain.proofs.MarkFalls.{Unmarks, Falls, falls_self, falls_through, falls_same, falls_both, taking_falls, given_falls, gives_fall, takes_fall}
use Rattle.lwkt_plain.proofs.SteadyThreads.{got_else, cpu_else, inside_of, thread_here, thread_there_else, IsSteady, live_steady, faulted_steady, same_thread_by, mail_stands, mail_leaves}
use Rattle.lwkt_plain.proofs.Waitings.{first_behind, OnTheWay, on_the_way, way_self, trial, IsUntried, IsMissed, no_place, none_on, on_if, either, left, ReachedForm, opened_form_reached, turned_reached, reached_form, each_waits, none_held, at_marks}

-- ended by fault 19 or 20
abbrev pub IsFaulted : Phase → Type 0
IsFaulted phase = (phase ≡ Faulted Broken) ⊎ (phase ≡ Faulted WornOut)

-- a thread that doesn't run is ready, and its list has the token exclusively; or it was ended by such a fault
pub record Marker (p : Plain) (i : ℕ) : Type 0 where
  pub cpu : ℕ
  pub number : ℕ
  pub thread : Thread
  pub there : thread_at p cpu number ≡ Some thread
  pub rest : IsRunning p cpu number → ⊥
  pub is : ((thread.phase ≡ Live) × (first_mode thread.list i ≡ Some Exclusive)) ⊎ IsFaulted thread.phase

abbrev pub AreMarked : List Token → Plain → Type 0
AreMarked tokens p = (i : ℕ) (tok : Token) → slice_get tokens i ≡ Some tok → tok.mark ≡ true → Marker p i

-- what a step leaves of a thread that doesn't run: it is as it was, or ended by 20
abbrev Settled : Phase → Type 0
Settled phase = (phase ≡ Live) ⊎ IsFaulted phase

record Stays (q : Plain) (c k : ℕ) (t : Thread) : Type 0 where
  thread : Thread
  there : thread_at q c k ≡ Some thread
  rest : IsRunning q c k → ⊥
  is : ((thread.phase ≡ t.phase) × (thread.list ≡ t.list)) ⊎ (thread.phase ≡ Faulted WornOut)

abbrev Settles : Plain → Plain → Type 0
Settles p q = (c k : ℕ) (t : Thread) → thread_at p c k ≡ Some t → (IsRunning p c k → ⊥) → Settled t.phase → Stays q c k t

settled_as : (one other : Phase) → one ≡ other → Settled other → Settled one
settled_as one other same settled = subst Settled (sym same) settled

marker_settles : (p q : Plain) (i : ℕ) → Settles p q → Marker p i → Marker q i
marker_settles p q i settles m = go m.is
  where
    of_fault : IsFaulted m.thread.phase → Marker q i
    of_fault fault =
        let s = settles m.cpu m.number m.thread m.there m.rest (inr fault) in
        record { cpu = m.cpu; number = m.number; thread = s.thread; there = s.there; rest = s.rest; is = inr (elim s.is [ inl same ↦ subst IsFaulted (sym same.0) fault | inr worn ↦ inr worn ]) }

    of_wish : m.thread.phase ≡ Live → first_mode m.thread.list i ≡ Some Exclusive → Marker q i
    of_wish live wants =
        let s = settles m.cpu m.number m.thread m.there m.rest (inl live) in
        record {
          cpu = m.cpu;
          number = m.number;
          thread = s.thread;
          there = s.there;
          rest = s.rest;
          is = elim s.is [
            | inl same ↦ inl (same.0 ∙ live, ap (λ (refs : List Ref). first_mode refs i) same.1 ∙ wants)
            | inr worn ↦ inr (inr worn)
          ];
        }

    go : ((m.thread.phase ≡ Live) × (first_mode m.thread.list i ≡ Some Exclusive)) ⊎ IsFaulted m.thread.phase → Marker q i
    go (inl so) = of_wish so.0 so.1
    go (inr fault) = of_fault fault

settles_both : (p q r : Plain) → Settles p q → Settles q r → Settles p r
settles_both p q r one other c k t at rest settled = go s.is
  where
    s : Stays q c k t
    s = one c k t at rest settled

    on : (u : Stays r c k s.thread) → ((s.thread.phase ≡ t.phase) × (s.thread.list ≡ t.list)) ⊎ (s.thread.phase ≡ Faulted WornOut) → Stays r c k t
    on u so = record {
      thread = u.thread;
      there = u.there;
      rest = u.rest;
      is = elim u.is [
        | inl same ↦ elim so [ inl was ↦ inl (same.0 ∙ was.0, same.1 ∙ was.1) | inr worn ↦ inr (same.0 ∙ worn) ]
        | inr worn ↦ inr worn
      ];
    }

    go : ((s.thread.phase ≡ t.phase) × (s.thread.list ≡ t.list)) ⊎ (s.thread.phase ≡ Faulted WornOut) → Stays r c k t
    go (inl same) = on (other c k s.thread s.there s.rest (settled_as s.thread.phase t.phase same.0 settled)) (inl same)
    go (inr worn) = on (other c k s.thread s.there s.rest (inr (inr worn))) (inr worn)

settles_cpus : (p q : Plain) → q.cpus ≡ p.cpus → Settles p q
settles_cpus p q same = λ c k t at rest settled. record {
  thread = t;
  there = same_thread_by p q c k same ∙ at;
  rest = λ runs. rest (sym (ap (λ (cpus : List Processor). (get_or cpus c no_processor).running) same) ∙ runs);
  is = inl (refl, refl);
}

-- marks that were there have markers still
marked_at : (p q : Plain) (i : ℕ) (old new : Option Token) (tok : Token) → RelatesAt Unmarks new old → new ≡ Some tok → tok.mark ≡ true → ((was : Token) → old ≡ Some was → was.mark ≡ true → Marker p i) → Marker p i
marked_at p q i old None tok falls at mark so = absurd (none-some tok at)
marked_at p q i None (Some x) tok falls at mark so = absurd falls
marked_at p q i (Some was) (Some x) tok falls at mark so = so was refl (falls (ap (λ (y : Token). y.mark) (same_Some x tok at) ∙ mark))

pub marked_falls : (p : Plain) (tokens new : List Token) → Falls tokens new → AreMarked tokens p → AreMarked new p
marked_falls p tokens new falls marked i tok at mark = marked_at p p i (slice_get tokens i) (slice_get new i) tok (falls i) at mark (λ was there is. marked i was there is)

marked_settles : (p q : Plain) (tokens : List Token) → Settles p q → AreMarked tokens p → AreMarked tokens q
marked_settles p q tokens settles marked i tok at mark = marker_settles p q i settles (marked i tok at mark)

-- mail
steady_of : (phase : Phase) → Settled phase → IsSteady phase
steady_of phase (inl live) = subst IsSteady (sym live) live_steady
steady_of phase (inr (inl broken)) = subst IsSteady (sym broken) (faulted_steady Broken)
steady_of phase (inr (inr worn)) = subst IsSteady (sym worn) (faulted_steady WornOut)

mail_settles : (c : ℕ) (p : Plain) → Settles p (takes_mail c p)
mail_settles c p = λ d n t at rest settled.
    (let q = takes_mail c p in
    let same : (cpu_at q d).running ≡ (cpu_at p d).running =
    ap (λ (l : Lists). l.running) (sym (lists_at q d) ∙ ap (λ (f : Frame). get_or f.cpus d no_lists) (takes_mail_frame c p) ∙ lists_at p d) in
    record { thread = t; there = mail_stands d n t (steady_of t.phase settled) c p at; rest = λ runs. rest (sym same ∙ runs); is = inl (refl, refl) })

-- a thread changed
running_kept : (f : Processor → Processor) → ((cpu : Processor) → (f cpu).running ≡ cpu.running) → (c d : ℕ) (p : Plain) → (cpu_at (with_cpu f c p) d).running ≡ (cpu_at p d).running
running_kept f same c d p = elim (cases_eq d c) [
  | inr differ ↦ ap (λ (cpu : Processor). cpu.running) (cpu_else f c d p differ)
  | inl is ↦ elim (cases_lt c (length p.cpus)) [
    | inl inside ↦
        subst (λ (e : ℕ). (cpu_at (with_cpu f c p) e).running ≡ (cpu_at p e).running) (sym is)
        (ap (λ (cpu : Processor). cpu.running) (get_or_changed f p.cpus c no_processor inside) ∙ same (cpu_at p c))
    | inr past ↦ ap (λ (cpus : List Processor). (get_or cpus d no_processor).running) (changed_out f p.cpus c past)
  ]
]

abbrev LeavesOrWears : (Thread → Thread) → Type 0
LeavesOrWears f = (t : Thread) → (((f t).phase ≡ t.phase) × ((f t).list ≡ t.list)) ⊎ ((f t).phase ≡ Faulted WornOut)

thread_settles : (f : Thread → Thread) → LeavesOrWears f → (c j : ℕ) (p : Plain) → Settles p (with_thread f c j p)
thread_settles f leaves' c j p d n t at rest settled = elim (cases_eq d c) [
  | inr differ ↦ other (λ e e'. differ e)
  | inl is ↦ elim (cases_eq n j) [
    | inr differ ↦ other (λ e e'. differ e')
    | inl is' ↦ record {
      thread = f t;
      there = (let F : ℕ → ℕ → Type 0 = λ e m. thread_at (with_thread f e m p) d n ≡ Some (f t) in subst (λ (e : ℕ). F e j) is (subst (λ (m : ℕ). F d m) is' (thread_here f d n p t at)));
      rest = λ runs. rest (sym (running_kept (on_thread f j) (λ cpu. refl) c d p) ∙ runs);
      is = leaves' t;
    }
  ]
]
  where
    other : (d ≡ c → n ≡ j → ⊥) → Stays (with_thread f c j p) d n t
    other apart = record { thread = t; there = thread_there_else f c j d n p apart ∙ at; rest = λ runs. rest (sym (running_kept (on_thread f j) (λ cpu. refl) c d p) ∙ runs); is = inl (refl, refl) }

missed_settles : (c j : ℕ) (p : Plain) (at : ℕ) (why : Miss) → Settles p (missed_by c j p at why)
missed_settles c j p at (Busy word) = thread_settles (λ (t : Thread). record t { busy = Some (record { word = word; at = at }) }) (λ t. inl (refl, refl)) c j p
missed_settles c j p at Worn =
    settles_both p (leaves c j p) (ends c j (Faulted WornOut) p) (settles_cpus p (leaves c j p) (leaves_cpus c j p))
    (thread_settles (ended_by (Faulted WornOut)) (λ t. inr refl) c j (leaves c j p))

try_settles : (c j : ℕ) (q : Plain) → (tries c j q).place ≡ None → Settles q (tries c j q).plain
try_settles c j q none = go (no_place c j q none)
  where
    go : IsUntried c j q ⊎ IsMissed c j q → Settles q (tries c j q).plain
    go (inl u) = settles_cpus q (tries c j q).plain (ap (λ (x : Plain). x.cpus) u.leads)
    go (inr m) = subst (Settles q) (sym m.leads) (λ d n t at rest settled. missed_settles c j (with_tokens (trial c j q).tokens q) m.missed.at m.missed.why d n t at rest settled)

-- a list that is taken whole leaves none of its exclusive tokens marked
abbrev Unmarked : ℕ → List Token → Type 0
Unmarked i tokens = (tok : Token) → slice_get tokens i ≡ Some tok → tok.mark ≡ false

unmarked_on : (i : ℕ) (tokens new : List Token) → Falls tokens new → Unmarked i tokens → Unmarked i new
unmarked_on i tokens new falls un tok at = elim (cases_Bool tok.mark) [
  | inr off ↦ off
  | inl on ↦ absurd (was (slice_get tokens i) refl (slice_get new i) at (falls i) on)
]
  where
    was : (o : Option Token) → slice_get tokens i ≡ o → (o' : Option Token) → o' ≡ Some tok → RelatesAt Unmarks o' o → tok.mark ≡ true → ⊥
    was o there None same so on = none-some tok same
    was None there (Some x) same so on = so
    was (Some y) there (Some x) same so on = false≢true (sym (un y there) ∙ so (ap (λ (z : Token). z.mark) (same_Some x tok same) ∙ on))

taken_off : (cpu : CpuId) (t : TokId) (i : ℕ) (tokens : List Token) → t.0 ≡ i → Unmarked i (stepped tokens (Take cpu t))
taken_off cpu t i tokens same = subst (λ (n : ℕ). Unmarked n (stepped tokens (Take cpu t))) same here
  where
    f : Token → Token
    f tok = token_after tok (Take cpu t)

    at_some : (x : Token) → slice_get tokens t.0 ≡ Some x → (tok : Token) → slice_get (changed f tokens t.0) t.0 ≡ Some tok → tok.mark ≡ false
    at_some x there tok at =
        let is : slice_get (changed f tokens t.0) t.0 ≡ Some (f x) = get_changed f tokens t.0 (slice_get_within tokens t.0 x there) ∙ ap (λ (o : Option Token). option_map_or (λ (y : Token). Some (f y)) o None) there in
        ap (λ (y : Token). y.mark) (same_Some tok (f x) (sym at ∙ is))

    by : (o : Option Token) → slice_get tokens t.0 ≡ o → (tok : Token) → slice_get (changed f tokens t.0) t.0 ≡ Some tok → tok.mark ≡ false
    by None there tok at =
        absurd (none-some tok (sym there ∙ sym (ap (λ (xs : List Token). slice_get xs t.0) (ap (λ (o : Option Token). option_map_or (λ (y : Token). slice_set tokens t.0 (f y)) o tokens) there)) ∙ at))
    by (Some x) there tok at = at_some x there tok at

    here : Unmarked t.0 (stepped tokens (Take cpu t))
    here tok at = by (slice_get tokens t.0) refl tok at

module _ (cpu : CpuId) (refs : List Ref) (i : ℕ) where
  whole_here : (r : Ref) (rest front : List Ref) (tokens : List Token) → names front i ≡ false → first_mode (r ∷ rest) i ≡ Some Exclusive → is_to i r ≡ true → Unmarked i (takes cpu refs (stepped tokens (taking_event cpu front r)) (front ++ r ∷ []) rest).tokens
  whole_here r rest front tokens unnamed wants here =
      let same : r.tok.0 ≡ i = eqb-true r.tok.0 i here in
      let mode : r.mode ≡ Exclusive = same_Some r.mode Exclusive (sym (ap (λ (b : Bool). option_map (λ (q : Ref). q.mode) (if b then Some r else find (is_to i) rest)) here) ∙ wants) in
      let event : taking_event cpu front r ≡ Take cpu r.tok =
      ap (λ (b : Bool). if b then Again cpu r.tok else taking cpu r.tok r.mode) (ap (names front) same ∙ unnamed) ∙ ap (taking cpu r.tok) mode in
      let next = stepped tokens (taking_event cpu front r) in
      let off : Unmarked i next = subst (λ (e : Event). Unmarked i (stepped tokens e)) (sym event) (taken_off cpu r.tok i tokens same) in
      unmarked_on i next (takes cpu refs next (front ++ r ∷ []) rest).tokens (takes_fall cpu refs rest next (front ++ r ∷ [])) off

  whole_unmarks : (rest front : List Ref) (tokens : List Token) → (takes cpu refs tokens front rest).missed ≡ None → names front i ≡ false → first_mode rest i ≡ Some Exclusive → Unmarked i (takes cpu refs tokens front rest).tokens
  whole_unmarks [] front tokens none unnamed wants = absurd (none-some Exclusive wants)
  whole_unmarks (r ∷ rest) front tokens none unnamed wants =
      let next = stepped tokens (taking_event cpu front r) in
      subst (λ (x : Tried). Unmarked i x.tokens) (sym (takes_more cpu refs tokens front r rest))
      (on r rest front tokens (λ miss later other. whole_unmarks rest (front ++ r ∷ []) next miss later other) unnamed wants (miss_of tokens refs front r)
      (sym (ap (λ (x : Tried). x.missed) (takes_more cpu refs tokens front r rest)) ∙ none))
    where
      on : (q : Ref) (more front' : List Ref) (ts : List Token)
          → ((takes cpu refs (stepped ts (taking_event cpu front' q)) (front' ++ q ∷ []) more).missed ≡ None → names (front' ++ q ∷ []) i ≡ false → first_mode more i ≡ Some Exclusive → Unmarked i (takes cpu refs (stepped ts (taking_event cpu front' q)) (front' ++ q ∷ []) more).tokens)
          → names front' i ≡ false → first_mode (q ∷ more) i ≡ Some Exclusive → (why : Option Miss) → (after_miss cpu refs ts front' q more why).missed ≡ None → Unmarked i (after_miss cpu refs ts front' q more why).tokens
      on q more front' ts ih none' wish (Some why) miss = absurd (none-some (record { at = length front'; why = why }) (sym miss))
      on q more front' ts ih none' wish None miss = elim (cases_Bool (is_to i q)) [
        | inl here ↦ whole_here q more front' ts none' wish here
        | inr not_here ↦
            ih miss (list_any-append (is_to i) front' (q ∷ []) ∙ or_from (names front' i) (names (q ∷ []) i) none' (or_from (is_to i q) false not_here refl))
            (sym (ap (λ (b : Bool). option_map (λ (x : Ref). x.mode) (if b then Some q else find (is_to i) more)) not_here) ∙ wish)
      ]

-- a search that found a thread
record IsFound (c j k : ℕ) (q : Plain) : Type 0 where
  same : j ≡ k
  may : may_try q c j ≡ true
  whole : (trial c j q).missed ≡ None
  leads : (tries c j q).plain ≡ with_tokens (trial c j q).tokens q

some_place : (c j k : ℕ) (q : Plain) → (tries c j q).place ≡ Some k → IsFound c j k q
some_place c j k q some = go (may_try q c j) refl some
  where
    tried : may_try q c j ≡ true → (o : Option Missed) → (trial c j q).missed ≡ o → (left c j q o).place ≡ Some k → IsFound c j k q
    tried may None is some' = record { same = same_Some j k some'; may = may; whole = is; leads = ap (λ (b : Bool). (either c j q b).plain) may ∙ ap (λ (o : Option Missed). (left c j q o).plain) is }
    tried may (Some m) is some' = absurd (none-some k some')

    go : (b : Bool) → may_try q c j ≡ b → (either c j q b).place ≡ Some k → IsFound c j k q
    go false may some' = absurd (none-some k some')
    go true may some' = tried may (trial c j q).missed refl some'

-- marks whose markers aren't this thread
pub record MarkedElse (c k : ℕ) (p : Plain) (i : ℕ) : Type 0 where
  pub marker : Marker p i
  pub apart : marker.cpu ≡ c → marker.number ≡ k → ⊥

abbrev AreMarkedElse : ℕ → ℕ → Plain → Type 0
AreMarkedElse c k p = (i : ℕ) (tok : Token) → slice_get p.tokens i ≡ Some tok → tok.mark ≡ true → MarkedElse c k p i

faulted_live : (phase : Phase) → phase ≡ Live → IsFaulted phase → ⊥
faulted_live phase live fault = false≢true (sym (ap has_ended live) ∙ over fault)
  where
    over : IsFaulted phase → has_ended phase ≡ true
    over (inl broken) = ap has_ended broken
    over (inr worn) = ap has_ended worn

found_marks : (c j k : ℕ) (q : Plain) → AreMarked q.tokens q → IsFound c j k q → AreMarkedElse c k (tries c j q).plain
found_marks c j k q marked x = subst (AreMarkedElse c k) (sym x.leads) (subst (λ (n : ℕ). AreMarkedElse c n (with_tokens (trial c j q).tokens q)) x.same here)
  where
    cpu : CpuId
    cpu = record { 0 = c }

    here : AreMarkedElse c j (with_tokens (trial c j q).tokens q)
    here i tok at mark =
        let m = marked_falls q q.tokens (trial c j q).tokens (takes_fall cpu (list_at q c j) (list_at q c j) q.tokens []) marked i tok at mark in
        record {
          marker = record { cpu = m.cpu; number = m.number; thread = m.thread; there = m.there; rest = m.rest; is = m.is };
          apart = λ e e'.
              (let got : thread_at q c j ≡ Some m.thread = sym (ap (λ (a : ℕ). thread_at q a m.number) e ∙ ap (thread_at q c) e') ∙ m.there in
              let may : may_try_in m.thread.phase q.tokens m.thread ≡ true = sym (ap (λ (o : Option Thread). option_map_or (λ (s : Thread). may_try_in s.phase q.tokens s) o false) got) ∙ x.may in
              let live = (tried_is m.thread.phase q.tokens m.thread may).0 in
              elim m.is [
                | inl so ↦
                    let list : list_at q c j ≡ m.thread.list = ap (λ (o : Option Thread). option_map_or (λ (s : Thread). s.list) o []) got in
                    let off = whole_unmarks cpu (list_at q c j) i (list_at q c j) [] q.tokens x.whole refl (ap (λ (refs : List Ref). first_mode refs i) list ∙ so.1) in
                    false≢true (sym (off tok at) ∙ mark)
                | inr fault ↦ faulted_live m.thread.phase live fault
              ]);
        }

-- a search: where it finds no thread marks have markers, and where it finds one, others than that
search_none : (c : ℕ) (ks : List ℕ) (q : Plain) → OnTheWay c q q → AreMarked q.tokens q → (finds c q ks).place ≡ None → AreMarked (finds c q ks).plain.tokens (finds c q ks).plain
search_none c [] q w marked none = subst (λ (x : Found). AreMarked x.plain.tokens x.plain) (sym (finds_none c q)) marked
search_none c (j ∷ js) q w marked none =
    let y = (tries c j q).plain in
    let on = none_on c js (tries c j q) (sym (ap (λ (x : Found). x.place) (finds_more c q j js)) ∙ none) in
    let is : finds c q (j ∷ js) ≡ finds c y js = finds_more c q j js ∙ on.1 in
    let w' = on_the_way c j q q w on.0 in
    let now : AreMarked y.tokens y = marked_falls y q.tokens y.tokens w'.falls (marked_settles q y q.tokens (try_settles c j q on.0) marked) in
    subst (λ (x : Found). AreMarked x.plain.tokens x.plain) (sym is) (search_none c js y (way_self c q y w') now (sym (ap (λ (x : Found). x.place) is) ∙ none))

search_some : (c k : ℕ) (ks : List ℕ) (q : Plain) → OnTheWay c q q → AreMarked q.tokens q → (finds c q ks).place ≡ Some k → AreMarkedElse c k (finds c q ks).plain
search_some c k [] q w marked some = absurd (none-some k (sym (ap (λ (x : Found). x.place) (finds_none c q)) ∙ some))
search_some c k (j ∷ js) q w marked some =
    subst (λ (x : Found). AreMarkedElse c k x.plain) (sym (finds_more c q j js))
    (some_on c k j js q w marked (λ y w' now s. search_some c k js y w' now s) (tries c j q).place refl (sym (ap (λ (x : Found). x.place) (finds_more c q j js)) ∙ some))
  where
    some_on : (c' k' j' : ℕ) (js' : List ℕ) (q' : Plain) → OnTheWay c' q' q' → AreMarked q'.tokens q' → ((y : Plain) → OnTheWay c' y y → AreMarked y.tokens y → (finds c' y js').place ≡ Some k' → AreMarkedElse c' k' (finds c' y js').plain) → (o : Option ℕ) → (tries c' j' q').place ≡ o → (find_on c' js' (tries c' j' q')).place ≡ Some k' → AreMarkedElse c' k' (find_on c' js' (tries c' j' q')).plain
    some_on c' k' j' js' q' w' marked' ih None is some' =
        let y = (tries c' j' q').plain in
        let F : Bool → Found = on_if c' js' (tries c' j' q') in
        let on : find_on c' js' (tries c' j' q') ≡ finds c' y js' = ap F (ap is_some is) in
        let way = on_the_way c' j' q' q' w' is in
        let now : AreMarked y.tokens y = marked_falls y q'.tokens y.tokens way.falls (marked_settles q' y q'.tokens (try_settles c' j' q' is) marked') in
        subst (λ (x : Found). AreMarkedElse c' k' x.plain) (sym on) (ih y (way_self c' q' y way) now (sym (ap (λ (x : Found). x.place) on) ∙ some'))
    some_on c' k' j' js' q' w' marked' ih (Some n) is some' =
        let F : Bool → Found = on_if c' js' (tries c' j' q') in
        let on : find_on c' js' (tries c' j' q') ≡ tries c' j' q' = ap F (ap is_some is) in
        subst (λ (x : Found). AreMarkedElse c' k' x.plain) (sym on) (found_marks c' j' k' q' marked' (some_place c' j' k' q' (sym (ap (λ (x : Found). x.place) on) ∙ some')))

-- the thread that is found runs
run_marks : (c k : ℕ) (p : Plain) → AreMarkedElse c k p → AreMarked p.tokens (with_cpu (λ (cpu : Processor). record cpu { running = Some k; cursor = k + 1 }) c p)
run_marks c k p marked i tok at mark =
    let f : Processor → Processor = λ cpu. record cpu { running = Some k; cursor = k + 1 } in
    let x = marked i tok at mark in
    let m = x.marker in
    elim (cases_eq m.cpu c) [
      | inr differ ↦
          let same = cpu_else f c m.cpu p differ in
          record {
            cpu = m.cpu;
            number = m.number;
            thread = m.thread;
            there = ap (λ (cpu : Processor). slice_get cpu.threads m.number) same ∙ m.there;
            rest = λ runs. m.rest (sym (ap (λ (cpu : Processor). cpu.running) same) ∙ runs);
            is = m.is;
          }
      | inl is ↦
          let inside = inside_of p m.cpu m.number m.thread m.there in
          let here : cpu_at (with_cpu f c p) m.cpu ≡ f (cpu_at p m.cpu) =
          subst (λ (e : ℕ). cpu_at (with_cpu f e p) m.cpu ≡ f (cpu_at p m.cpu)) is (get_or_changed f p.cpus m.cpu no_processor inside) in
          record {
            cpu = m.cpu;
            number = m.number;
            thread = m.thread;
            there = ap (λ (cpu : Processor). slice_get cpu.threads m.number) here ∙ m.there;
            rest = λ runs. x.apart is (sym (same_Some k m.number (sym (ap (λ (cpu : Processor). cpu.running) here) ∙ runs)));
            is = m.is;
          }
    ]

-- the thread of a turn
chosen_marks : (c : ℕ) (p : Plain) → OnTheWay c p p ⊎ ((cpu_at p c).running ≡ None → ⊥) → AreMarked p.tokens p → AreMarked (chooses c p).plain.tokens (chooses c p).plain
chosen_marks c p way marked = go (cpu_at p c).running refl
  where
    ks : List ℕ
    ks = round_from (cpu_at p c).cursor (length (cpu_at p c).threads)

    searched_marks : OnTheWay c p p → (o : Option ℕ) → (finds c p ks).place ≡ o → AreMarked (option_map_or (λ k. found (with_cpu (λ (cpu : Processor). record cpu { running = Some k; cursor = k + 1 }) c (finds c p ks).plain) (Some k)) o (finds c p ks)).plain.tokens (option_map_or (λ k. found (with_cpu (λ (cpu : Processor). record cpu { running = Some k; cursor = k + 1 }) c (finds c p ks).plain) (Some k)) o (finds c p ks)).plain
    searched_marks w None is = search_none c ks p w marked is
    searched_marks w (Some k) is = run_marks c k (finds c p ks).plain (search_some c k ks p w marked is)

    go : (o : Option ℕ) → (cpu_at p c).running ≡ o → AreMarked (option_map_or (λ k. found p (Some k)) o (runs_at c (finds c p ks))).plain.tokens (option_map_or (λ k. found p (Some k)) o (runs_at c (finds c p ks))).plain
    go None idle = elim way [ inl w ↦ searched_marks w (finds c p ks).place refl | inr runs ↦ absurd (runs idle) ]
    go (Some k) runs = marked

-- all but one thread is as it was
record Else (c k : ℕ) (p q : Plain) : Type 0 where
  threads : (d n : ℕ) → (d ≡ c → n ≡ k → ⊥) → thread_at q d n ≡ thread_at p d n
  runs : (d n : ℕ) → (d ≡ c → n ≡ k → ⊥) → IsRunning q d n → IsRunning p d n

else_both : (c k : ℕ) (p q r : Plain) → Else c k p q → Else c k q r → Else c k p r
else_both c k p q r one other = record {
  threads = λ d n apart. other.threads d n apart ∙ one.threads d n apart;
  runs = λ d n apart is. one.runs d n apart (other.runs d n apart is);
}

else_cpus : (c k : ℕ) (p q : Plain) → q.cpus ≡ p.cpus → Else c k p q
else_cpus c k p q same = record {
  threads = λ d n apart. same_thread_by p q d n same;
  runs = λ d n apart is. sym (ap (λ (cpus : List Processor). (get_or cpus d no_processor).running) same) ∙ is;
}

else_thread : (f : Thread → Thread) (c k : ℕ) (p : Plain) → Else c k p (with_thread f c k p)
else_thread f c k p = record {
  threads = λ d n apart. thread_there_else f c k d n p apart;
  runs = λ d n apart is. sym (running_kept (on_thread f k) (λ cpu. refl) c d p) ∙ is;
}

abbrev off : Processor → Processor
off cpu = record cpu { running = None }

rests_thread : (c d n : ℕ) (p : Plain) → thread_at (rests c p) d n ≡ thread_at p d n
rests_thread c d n p = elim (cases_eq d c) [
  | inr differ ↦ ap (λ (cpu : Processor). slice_get cpu.threads n) (cpu_else off c d p differ)
  | inl is ↦ elim (cases_lt c (length p.cpus)) [
    | inl inside ↦ subst (λ (e : ℕ). thread_at (rests c p) e n ≡ thread_at p e n) (sym is) (ap (λ (cpu : Processor). slice_get cpu.threads n) (get_or_changed off p.cpus c no_processor inside))
    | inr past ↦ ap (λ (cpus : List Processor). slice_get (get_or cpus d no_processor).threads n) (changed_out off p.cpus c past)
  ]
]

rests_running : (c d n : ℕ) (p : Plain) → IsRunning (rests c p) d n → IsRunning p d n
rests_running c d n p runs = elim (cases_eq d c) [
  | inr differ ↦ sym (ap (λ (cpu : Processor). cpu.running) (cpu_else off c d p differ)) ∙ runs
  | inl is ↦ elim (cases_lt c (length p.cpus)) [
    | inl inside ↦
        let here : (cpu_at (rests c p) d).running ≡ None = ap (λ (e : ℕ). (cpu_at (rests c p) e).running) is ∙ ap (λ (cpu : Processor). cpu.running) (get_or_changed off p.cpus c no_processor inside) in
        absurd (none-some n (sym here ∙ runs))
    | inr past ↦ sym (ap (λ (cpus : List Processor). (get_or cpus d no_processor).running) (changed_out off p.cpus c past)) ∙ runs
  ]
]

rests_off : (c : ℕ) (p : Plain) → c < length p.cpus → (cpu_at (rests c p) c).running ≡ None
rests_off c p inside = ap (λ (cpu : Processor). cpu.running) (get_or_changed off p.cpus c no_processor inside)

else_rests : (c k : ℕ) (p : Plain) → Else c k p (rests c p)
else_rests c k p = record { threads = λ d n apart. rests_thread c d n p; runs = λ d n apart is. rests_running c d n p is }

else_settles : (c k : ℕ) (p q : Plain) → IsRunning p c k → Else c k p q → Settles p q
else_settles c k p q running so d n t at rest settled =
    let apart : d ≡ c → n ≡ k → ⊥ = λ e e'. rest (ap (λ (a : ℕ). (cpu_at p a).running) e ∙ running ∙ ap (λ (m : ℕ). Some m) (sym e')) in
    record { thread = t; there = so.threads d n apart ∙ at; rest = λ runs. rest (so.runs d n apart runs); is = inl (refl, refl) }

-- what comes next
becomes_else : (c k : ℕ) (phase : Phase) (p : Plain) → Else c k p (becomes c k phase p)
becomes_else c k phase p = go (has_ended phase)
  where
    go : (b : Bool) → Else c k p (if b then ends c k phase p else with_thread (λ (t : Thread). record t { phase = phase; last = Done }) c k p)
    go true = else_both c k p (leaves c k p) (ends c k phase p) (else_cpus c k p (leaves c k p) (leaves_cpus c k p)) (else_thread (ended_by phase) c k (leaves c k p))
    go false = else_thread (λ (t : Thread). record t { phase = phase; last = Done }) c k p

becomes_tokens : (c k : ℕ) (phase : Phase) (p : Plain) → (becomes c k phase p).tokens ≡ p.tokens
becomes_tokens c k phase p = go (has_ended phase)
  where
    go : (b : Bool) → (if b then ends c k phase p else with_thread (λ (t : Thread). record t { phase = phase; last = Done }) c k p).tokens ≡ p.tokens
    go true = leaves_tokens c k p
    go false = refl

goes_else : (cpu : CpuId) (k : ℕ) (x : Plain) (next : Next) → Else cpu.0 k x (goes_on cpu k x next)
goes_else cpu k x (Runs answer) = else_thread (λ (t : Thread). record t { last = answer }) cpu.0 k x
goes_else cpu k x (Leaves held phase) =
    let given = with_tokens (gives cpu x.tokens (take held (list_at x cpu.0 k))).tokens x in
    let up = gives_up cpu k held x in
    let next = if breaks cpu k held x then Faulted Broken else phase in
    else_both cpu.0 k x up (becomes cpu.0 k next up)
    (else_both cpu.0 k x given up (else_cpus cpu.0 k x given refl) (else_rests cpu.0 k given)) (becomes_else cpu.0 k next up)

goes_fall : (cpu : CpuId) (k : ℕ) (x : Plain) (next : Next) → Falls x.tokens (goes_on cpu k x next).tokens
goes_fall cpu k x (Runs answer) = falls_same x.tokens
goes_fall cpu k x (Leaves held phase) =
    let up = gives_up cpu k held x in
    let next = if breaks cpu k held x then Faulted Broken else phase in
    subst (λ (tokens : List Token). Falls x.tokens tokens) (sym (becomes_tokens cpu.0 k next up)) (gives_fall cpu x.tokens (take held (list_at x cpu.0 k)))

-- an ask that marks a token: its thread gives its tokens up, and has the token on its list exclusively
record Switches (cpu : CpuId) (tokens : List Token) (a : Asked) : Type 0 where
  r : Ref
  marks : a.tokens ≡ stepped tokens (Mark cpu r.tok)
  held : ℕ
  leaves' : a.next ≡ Leaves held Live
  wants : first_mode a.refs r.tok.0 ≡ Some Exclusive

abbrev Asks : CpuId → List Token → Asked → Type 0
Asks cpu tokens a = Falls tokens a.tokens ⊎ Switches cpu tokens a

asks_stay : (cpu : CpuId) (tokens : List Token) (refs : List Ref) (next : Next) → Asks cpu tokens (asked tokens refs next)
asks_stay cpu tokens refs next = inl (falls_same tokens)

asks_step : (cpu : CpuId) (tokens : List Token) (refs : List Ref) (next : Next) (e : Event) → ((tok : Token) → Unmarks tok (token_after tok e)) → Asks cpu tokens (asked (stepped tokens e) refs next)
asks_step cpu tokens refs next e so = inl (step_relates Unmarks falls_self tokens e so)

unless_asks : (cpu : CpuId) (tokens : List Token) (refs : List Ref) (o : Option Fault) (done : Asked) → Asks cpu tokens done → Asks cpu tokens (unless tokens refs o done)
unless_asks cpu tokens refs None done so = so
unless_asks cpu tokens refs (Some fault) done so = asks_stay cpu tokens _ _

or_asks : {A : Type 0} (cpu : CpuId) (tokens : List Token) (f : A → Asked) (o : Option A) (d : Asked) → ((a : A) → o ≡ Some a → Asks cpu tokens (f a)) → Asks cpu tokens d → Asks cpu tokens (option_map_or f o d)
or_asks cpu tokens f None d some none = none
or_asks cpu tokens f (Some a) d some none = some a refl

if_asks : (cpu : CpuId) (tokens : List Token) (b : Bool) (x y : Asked) → Asks cpu tokens x → Asks cpu tokens y → Asks cpu tokens (if b then x else y)
if_asks cpu tokens true x y one other = one
if_asks cpu tokens false x y one other = other

switch_asks : (cpu : CpuId) (tokens : List Token) (refs : List Ref) (tok : TokId) (mode : Mode) (why : Miss) → miss_of tokens (refs ++ ref_to tok mode ∷ []) refs (ref_to tok mode) ≡ Some why → Asks cpu tokens (must_switch cpu tokens refs (ref_to tok mode) why)
switch_asks cpu tokens refs tok Exclusive (Busy word) missed =
    let r = ref_to tok Exclusive in
    let facts = miss_facts tokens (refs ++ r ∷ []) refs r word missed in
    inr (record { r = r; marks = refl; held = length refs; leaves' = refl; wants = first_behind refs r [] facts.unnamed })
switch_asks cpu tokens refs tok Shared (Busy word) missed = inl (falls_same tokens)
switch_asks cpu tokens refs tok mode Worn missed = asks_stay cpu tokens _ _

missed_asks : (cpu : CpuId) (tokens : List Token) (refs : List Ref) (why : Miss) → Asks cpu tokens (try_missed tokens refs why)
missed_asks cpu tokens refs (Busy word) = asks_stay cpu tokens _ _
missed_asks cpu tokens refs Worn = asks_stay cpu tokens _ _

had_asks : (cpu : CpuId) (tokens : List Token) (refs : List Ref) (r : Ref) → Asks cpu tokens (had cpu tokens refs r)
had_asks cpu tokens refs r = asks_step cpu tokens (refs ++ r ∷ []) (Runs Done) (taking_event cpu refs r) (taking_falls cpu refs r)

get_asks : (cpu : CpuId) (tokens : List Token) (refs : List Ref) (tok : TokId) (mode : Mode) → Asks cpu tokens (get cpu tokens refs (ref_to tok mode))
get_asks cpu tokens refs tok mode =
    let r = ref_to tok mode in
    unless_asks cpu tokens refs (get_refusal tokens refs r) _
    (or_asks cpu tokens (must_switch cpu tokens refs r) (miss_of tokens (refs ++ r ∷ []) refs r) (had cpu tokens refs r) (λ why missed. switch_asks cpu tokens refs tok mode why missed) (had_asks cpu tokens refs r))

try_asks : (cpu : CpuId) (tokens : List Token) (refs : List Ref) (r : Ref) → Asks cpu tokens (try_get cpu tokens refs r)
try_asks cpu tokens refs r =
    unless_asks cpu tokens refs (get_refusal tokens refs r) _
    (or_asks cpu tokens (try_missed tokens refs) (miss_of tokens (refs ++ r ∷ []) refs r) (had cpu tokens refs r) (λ why missed. missed_asks cpu tokens refs why) (had_asks cpu tokens refs r))

rel_asks : (cpu : CpuId) (tokens : List Token) (refs : List Ref) (tok : TokId) → Asks cpu tokens (rel cpu tokens refs tok)
rel_asks cpu tokens refs tok =
    if_asks cpu tokens (not (names refs tok.0)) _ _ (asks_stay cpu tokens _ _)
    (or_asks cpu tokens (λ r. if r.tok.0 == tok.0 then released cpu tokens (front_of refs) r else refused tokens refs NotLast) (last_of refs) _
    (λ r is. if_asks cpu tokens (r.tok.0 == tok.0) _ _ (inl (give_relates Unmarks falls_self falls_through given_falls cpu (gave tokens false) r)) (asks_stay cpu tokens _ _)) (asks_stay cpu tokens _ _))

swap_asks : (cpu : CpuId) (tokens : List Token) (refs : List Ref) → Asks cpu tokens (swapped tokens refs)
swap_asks cpu tokens refs =
    if_asks cpu tokens (nat_lt (length refs) 2) _ _ (asks_stay cpu tokens _ _)
    (if_asks cpu tokens (are_same (tok_at refs (length refs - 1)) (tok_at refs (length refs - 2))) _ _ (asks_stay cpu tokens _ _) (asks_stay cpu tokens _ _))

ask_marks : (cpu : CpuId) (tokens : List Token) (refs : List Ref) (ask : Ask) → IfSome (token_ask cpu tokens refs ask) (Asks cpu tokens)
ask_marks cpu tokens refs (Get tok) = get_asks cpu tokens refs tok Exclusive
ask_marks cpu tokens refs (GetShared tok) = get_asks cpu tokens refs tok Shared
ask_marks cpu tokens refs (TryGet tok) = try_asks cpu tokens refs (ref_to tok Exclusive)
ask_marks cpu tokens refs (Rel tok) = rel_asks cpu tokens refs tok
ask_marks cpu tokens refs Swap = swap_asks cpu tokens refs
ask_marks cpu tokens refs (ReadCell tok cell) = unless_asks cpu tokens refs _ _ (asks_stay cpu tokens _ _)
ask_marks cpu tokens refs (WriteCell tok cell value) = unless_asks cpu tokens refs _ _ (asks_step cpu tokens refs _ (Write cpu tok cell value) (λ x is. is))
ask_marks cpu tokens refs (Add tok more) = unless_asks cpu tokens refs _ _ (asks_step cpu tokens refs _ (Write cpu tok 0 (unwrap_or (value_of tokens tok 0) 0 + more)) (λ x is. is))
ask_marks cpu tokens refs (ReadRecord tok) = unless_asks cpu tokens refs _ _ (asks_stay cpu tokens _ _)
ask_marks cpu tokens refs (WriteRecord tok bytes) = unless_asks cpu tokens refs _ _ (asks_step cpu tokens refs _ (WriteBlob cpu tok bytes) (λ x is. is))
ask_marks cpu tokens refs (SendAsk msg to call flags) = tt
ask_marks cpu tokens refs (Do msg to call) = tt
ask_marks cpu tokens refs (ReplyAsk msg error outcome) = tt
ask_marks cpu tokens refs (AbortAsk msg) = tt
ask_marks cpu tokens refs (IsAborted msg) = tt
ask_marks cpu tokens refs (DropAsk msg) = tt
ask_marks cpu tokens refs GetPort = tt
ask_marks cpu tokens refs WaitPort = tt
ask_marks cpu tokens refs Yield = tt
ask_marks cpu tokens refs Exit = tt
ask_marks cpu tokens refs (Fail number) = tt

-- an ask that was performed: marks fall, or its thread is about to wait for the token that it marks
record Waits (cpu : CpuId) (k : ℕ) (p x : Plain) (next : Next) : Type 0 where
  r : Ref
  marks : x.tokens ≡ stepped p.tokens (Mark cpu r.tok)
  held : ℕ
  leaves' : next ≡ Leaves held Live
  thread : Thread
  there : thread_at x cpu.0 k ≡ Some thread
  wants : first_mode thread.list r.tok.0 ≡ Some Exclusive

record Performs (cpu : CpuId) (k : ℕ) (p : Plain) (y : Performed) : Type 0 where
  others : Else cpu.0 k p y.plain
  marks : Falls p.tokens y.plain.tokens ⊎ Waits cpu k p y.plain y.next

module _ (cpu : CpuId) (k : ℕ) (p : Plain) where
  of_asked : (t : Thread) → thread_at p cpu.0 k ≡ Some t → (a : Asked) → Asks cpu p.tokens a → Performs cpu k p (of_tokens cpu k p a)
  of_asked t at a so =
      let mid = with_tokens a.tokens p in
      let put : Thread → Thread = λ (s : Thread). record s { list = a.refs } in
      record {
        others = else_both cpu.0 k p mid (with_list a.refs cpu.0 k mid) (else_cpus cpu.0 k p mid refl) (else_thread put cpu.0 k mid);
        marks = elim so [
          | inl falls ↦ inl falls
          | inr s ↦ inr (record {
            r = s.r;
            marks = s.marks;
            held = s.held;
            leaves' = s.leaves';
            thread = put t;
            there = thread_here put cpu.0 k mid t at;
            wants = s.wants;
          })
        ];
      }

  of_mailed : (m : Mailed) → m.plain.cpus ≡ p.cpus → m.plain.tokens ≡ p.tokens → Performs cpu k p (of_mail m)
  of_mailed m same tokens = record { others = else_cpus cpu.0 k p m.plain same; marks = inl (subst (λ (ts : List Token). Falls p.tokens ts) (sym tokens) (falls_same p.tokens)) }

  by_mail : (o : Option Mailed) → IfSome o (λ (m : Mailed). m.plain.cpus ≡ p.cpus) → IfSome o (λ (m : Mailed). m.plain.tokens ≡ p.tokens) → (next : Next) → Performs cpu k p (option_map_or of_mail o (performed p next))
  by_mail None same tokens next = record { others = else_cpus cpu.0 k p p refl; marks = inl (falls_same p.tokens) }
  by_mail (Some m) same tokens next = of_mailed m same tokens

  by_tokens : (t : Thread) → thread_at p cpu.0 k ≡ Some t → (o : Option Asked) → IfSome o (Asks cpu p.tokens) → (other : Performed) → Performs cpu k p other → Performs cpu k p (option_map_or (of_tokens cpu k p) o other)
  by_tokens t at None some other so = so
  by_tokens t at (Some a) some other so = of_asked t at a some

mail_tokens_by : (c k : ℕ) (p : Plain) (count : ℕ) (ask : Ask) → IsSound p → IfSome (mail_ask c k p count ask) (λ (m : Mailed). m.plain.tokens ≡ p.tokens)
mail_tokens_by c k p count ask sound = go (mail_ask c k p count ask) (mail_soundly c k p count ask sound)
  where
    go : (o : Option Mailed) → IfSome o (MailsSoundly p count) → IfSome o (λ (m : Mailed). m.plain.tokens ≡ p.tokens)
    go None so = tt {0}
    go (Some m) so = so.keeps.tokens

performs_marks : (cpu : CpuId) (k : ℕ) (p : Plain) (ask : Ask) (t : Thread) → IsSound p → thread_at p cpu.0 k ≡ Some t → Performs cpu k p (performs cpu k p ask)
performs_marks cpu k p ask t sound at =
    let count = length (list_at p cpu.0 k) in
    by_tokens cpu k p t at (token_ask cpu p.tokens (list_at p cpu.0 k) ask) (ask_marks cpu p.tokens (list_at p cpu.0 k) ask) _
    (by_mail cpu k p (mail_ask cpu.0 k p count ask) (mail_leaves cpu.0 k p count ask) (mail_tokens_by cpu.0 k p count ask sound) (Leaves count (phase_for ask)))

-- a thread that gives its tokens up, and waits, marks its token
mark_step : (cpu : CpuId) (t : TokId) (tokens : List Token) (i : ℕ) (tok : Token) → slice_get (stepped tokens (Mark cpu t)) i ≡ Some tok → (i ≡ t.0) ⊎ (slice_get tokens i ≡ Some tok)
mark_step cpu t tokens i tok at = elim (cases_eq i t.0) [
  | inl same ↦ inl same
  | inr differ ↦ inr (sym (got_else (λ (x : Token). token_after x (Mark cpu t)) tokens t.0 i differ) ∙ at)
]

waits_mark : (cpu : CpuId) (k : ℕ) (x : Plain) (held i : ℕ) (t : Thread) → cpu.0 < length x.cpus → thread_at x cpu.0 k ≡ Some t → first_mode t.list i ≡ Some Exclusive → Marker (goes_on cpu k x (Leaves held Live)) i
waits_mark cpu k x held i t inside at wants = go (breaks cpu k held x)
  where
    up : Plain
    up = gives_up cpu k held x

    given : Plain
    given = with_tokens (gives cpu x.tokens (take held (list_at x cpu.0 k))).tokens x

    up_thread : thread_at up cpu.0 k ≡ Some t
    up_thread = rests_thread cpu.0 cpu.0 k given ∙ at

    up_off : (cpu_at up cpu.0).running ≡ None
    up_off = rests_off cpu.0 given inside

    go : (b : Bool) → Marker (becomes cpu.0 k (if b then Faulted Broken else Live) up) i
    go true =
        let f = ended_by (Faulted Broken) in
        let l = leaves cpu.0 k up in
        record {
          cpu = cpu.0;
          number = k;
          thread = f t;
          there = thread_here f cpu.0 k l t (same_thread_by up l cpu.0 k (leaves_cpus cpu.0 k up) ∙ up_thread);
          rest = λ runs. none-some k (sym (running_kept (on_thread f k) (λ y. refl) cpu.0 cpu.0 l ∙ ap (λ (cpus : List Processor). (get_or cpus cpu.0 no_processor).running) (leaves_cpus cpu.0 k up) ∙ up_off) ∙ runs);
          is = inr (inl refl);
        }
    go false =
        let f : Thread → Thread = λ (s : Thread). record s { phase = Live; last = Done } in
        record {
          cpu = cpu.0;
          number = k;
          thread = f t;
          there = thread_here f cpu.0 k up t up_thread;
          rest = λ runs. none-some k (sym (running_kept (on_thread f k) (λ y. refl) cpu.0 cpu.0 up ∙ up_off) ∙ runs);
          is = inl (refl, wants);
        }

-- a thread is polled
poll_marks : (cpu : CpuId) (k : ℕ) (p : Plain) (program : Program) (t : Thread) → Ready cpu.0 k p → thread_at p cpu.0 k ≡ Some t → AreMarked p.tokens p → AreMarked (polls_thread cpu k p program t).tokens (polls_thread cpu k p program t)
poll_marks cpu k p program t r at marked i tok there mark =
    let f = polled program in
    let q = with_thread f cpu.0 k p in
    let ask = (next_of program t).0 in
    let y = performs cpu k q ask in
    let z = goes_on cpu k y.plain y.next in
    let now = ready_polled cpu.0 k program p r in
    let did = performs_marks cpu k q ask (f t) now.sound (thread_here f cpu.0 k p t at) in
    let others : Else cpu.0 k p z =
    else_both cpu.0 k p q z (else_thread f cpu.0 k p) (else_both cpu.0 k q y.plain z did.others (goes_else cpu k y.plain y.next)) in
    let settles : Settles p z = else_settles cpu.0 k p z r.running others in
    let old : (was : Token) → slice_get p.tokens i ≡ Some was → was.mark ≡ true → Marker z i = λ was had is. marker_settles p z i settles (marked i was had is) in
    elim did.marks [
      | inl falls ↦
          marked_at z z i (slice_get p.tokens i) (slice_get z.tokens i) tok (falls_both p.tokens y.plain.tokens z.tokens falls (goes_fall cpu k y.plain y.next) i) there mark old
      | inr w ↦
          marked_at z z i (slice_get y.plain.tokens i) (slice_get z.tokens i) tok (goes_fall cpu k y.plain y.next i) there mark
          (λ was had is. elim (mark_step cpu w.r.tok p.tokens i was (ap (λ (ts : List Token). slice_get ts i) (sym w.marks) ∙ had)) [
            | inl same ↦
                subst (λ (next : Next). Marker (goes_on cpu k y.plain next) i) (sym w.leaves')
                (waits_mark cpu k y.plain w.held i w.thread (inside_of y.plain cpu.0 k w.thread w.there) w.there (ap (first_mode w.thread.list) same ∙ w.wants))
            | inr before ↦ old was before is
          ])
    ]

polls_marks : (script : Script) (c k : ℕ) (p : Plain) → Ready c k p → AreMarked p.tokens p → AreMarked (polls_at script c p k).tokens (polls_at script c p k)
polls_marks script c k p r marked = go (spec_at script c k)
  where
    cpu : CpuId
    cpu = record { 0 = c }

    of_thread : (spec : ThreadSpec) → AreMarked (option_map_or (polls_thread cpu k p spec.code) (thread_at p c k) p).tokens (option_map_or (polls_thread cpu k p spec.code) (thread_at p c k) p)
    of_thread spec =
        let one = thread_there p c k r.there in
        subst (λ (o : Option Thread). AreMarked (option_map_or (polls_thread cpu k p spec.code) o p).tokens (option_map_or (polls_thread cpu k p spec.code) o p)) (sym one.1) (poll_marks cpu k p spec.code one.0 r one.1 marked)

    go : (o : Option ThreadSpec) → AreMarked (option_map_or (λ (spec : ThreadSpec). option_map_or (polls_thread cpu k p spec.code) (thread_at p c k) p) o p).tokens (option_map_or (λ (spec : ThreadSpec). option_map_or (polls_thread cpu k p spec.code) (thread_at p c k) p) o p)
    go None = marked
    go (Some spec) = of_thread spec

-- a turn
turn_marks : (script : Script) (c : ℕ) (p : Plain) → c < script.cpus → Reached script p → AreMarked p.tokens p → AreMarked (turn script p c).tokens (turn script p c)
turn_marks script c p below_count r marked = polled_by (chooses c m).place refl
  where
    m : Plain
    m = takes_mail c p

    inside : c < length p.cpus
    inside = (let same = r.cpus in omega (arith, same, below_count))

    here : c < CPU_LIMIT
    here = (let few = few_cpus p r.sound in let there = inside in omega (arith, few, there))

    within : c < length m.cpus
    within = mail_inside p m c refl inside

    sound : IsSound m
    sound = sound_by p m (takes_mail_frame c p) r.sound

    old : AreOld m
    old = (alike_mail c p p (alike_self p r.old)).old

    tokens : m.tokens ≡ p.tokens
    tokens = ap (λ (f : Frame). f.tokens) (takes_mail_frame c p)

    first : AreMarked m.tokens m
    first = subst (λ (ts : List Token). AreMarked ts m) (sym tokens) (marked_settles p m p.tokens (mail_settles c p) marked)

    way : (o : Option ℕ) → (cpu_at m c).running ≡ o → OnTheWay c m m ⊎ ((cpu_at m c).running ≡ None → ⊥)
    way None idle = inl (record { rests = record { inside = within; sound = sound; idle = idle; here = here }; old = old; keeps = keeps_same c m.tokens sound.tokens; falls = falls_same m.tokens })
    way (Some k) runs = inr (λ idle. none-some k (sym idle ∙ runs))

    marks : AreMarked (chooses c m).plain.tokens (chooses c m).plain
    marks = chosen_marks c m (way (cpu_at m c).running refl) first

    polled_by : (o : Option ℕ) → (chooses c m).place ≡ o → AreMarked (option_map_or (polls_at script c (chooses c m).plain) o (chooses c m).plain).tokens (option_map_or (polls_at script c (chooses c m).plain) o (chooses c m).plain)
    polled_by None is = marks
    polled_by (Some k) is = polls_marks script c k (chooses c m).plain (ready_by c k m (chooses c m).plain within ((chosen c m within sound).1 k is)) marks

-- a form
form_settles : (p : Plain) → Settles p (form p)
form_settles p c k t at rest settled =
    let g = kept_word p.tokens in
    record {
      thread = thread_by g t;
      there = thread_at_by g p c k ∙ ap (option_map (thread_by g)) at;
      rest = λ runs. rest (sym (ap (λ (cpu : Processor). cpu.running) (cpu_at_by g p c)) ∙ runs);
      is = inl (refl, refl);
    }

form_turn_marks : (script : Script) (c : ℕ) (p : Plain) → c < script.cpus → ReachedForm script p → AreMarked p.tokens p → AreMarked (form_turn script p c).tokens (form_turn script p c)
form_turn_marks script c p below_count r marked = go (nat_lt c (length p.cpus))
  where
    go : (b : Bool) → AreMarked (if b then form (turn script p c) else p).tokens (if b then form (turn script p c) else p)
    go true = marked_settles (turn script p c) (form (turn script p c)) (turn script p c).tokens (form_settles (turn script p c)) (turn_marks script c p below_count r.state marked)
    go false = marked

run_marks_on : (script : Script) (all : List ℕ) (p : Plain) → All (λ cpu. cpu < script.cpus) all → ReachedForm script p → AreMarked p.tokens p → AreMarked (run (form_turn script) p all).tokens (run (form_turn script) p all)
run_marks_on script [] p there r marked = marked
run_marks_on script (c ∷ rest) p there r marked =
    run_marks_on script rest (form_turn script p c) (λ k d inside. there (suc k) d (omega (arith, inside))) (turned_reached script c p (there 0 c (omega arith)) r) (form_turn_marks script c p (there 0 c (omega arith)) r marked)

opened_marks : (script : Script) → AreMarked (opened script).tokens (opened script)
opened_marks script i tok at mark = absurd (none (slice_get script.tokens i) (sym (slice_get-map opened_token script.tokens i) ∙ at))
  where
    none : (o : Option TokSpec) → option_map opened_token o ≡ Some tok → ⊥
    none None is = none-some tok is
    none (Some spec) is = false≢true (ap (λ (x : Token). x.mark) (same_Some (opened_token spec) tok is) ∙ mark)

reached_marks : (script : Script) (p : Plain) → IsSound (opened script) → CanReach (form_turn script) script.cpus (opened script) p → AreMarked p.tokens p
reached_marks script p sound can =
    subst (λ (q : Plain). AreMarked q.tokens q) can.leads (run_marks_on script can.order (opened script) can.below (opened_form_reached script sound) (opened_marks script))

-- a lone reader's list has no token exclusively
alone_to : (refs : List Ref) (i j : ℕ) (mode : Mode) → is_alone refs j ≡ true → first_mode refs i ≡ Some mode → i ≡ j
alone_to [] i j mode alone is = absurd (none-some mode is)
alone_to (r ∷ refs) i j mode alone is =
    let parts = and_parts (is_to j r) (is_alone refs j) alone in
    elim (cases_Bool (is_to i r)) [
      | inl here ↦ sym (eqb-true r.tok.0 i here) ∙ eqb-true r.tok.0 j parts.0
      | inr not_here ↦ alone_to refs i j mode parts.1 (sym (ap (λ (b : Bool). option_map (λ (x : Ref). x.mode) (if b then Some r else find (is_to i) refs)) not_here) ∙ is)
    ]

abbrev is_shared : Option Mode → Bool
is_shared (Some Shared) = true
is_shared o = false

-- a ready lone reader at a mark whose marker has ended
module _ (script : Script) (p : Plain) (sound : IsSound (opened script)) (still : IsStandstill script p) (none : NonePolls script p) where
  has_faulted : (c : ℕ) (refs : List Ref) → c < script.cpus → IsReady p c refs → HasFaulted p
  has_faulted c refs below_count ready = go (at_marks script p sound still none c refs below_count ready)
    where
      of_writer : (i : ℕ) (m : Marker p i) → m.thread.phase ≡ Live → first_mode m.thread.list i ≡ Some Exclusive → HasFaulted p
      of_writer i m live wants =
          let inside = inside_of p m.cpu m.number m.thread m.there in
          let count = (reached_form script p sound still.reached).state.cpus in
          let own : IsReady p m.cpu m.thread.list = record { number = m.number; thread = m.thread; there = m.there; live = live; list = refl } in
          let mark = at_marks script p sound still none m.cpu m.thread.list (omega (arith, inside, count)) own in
          let same : i ≡ mark.0 = alone_to m.thread.list i mark.0 Exclusive mark.1.1.2 wants in
          absurd (false≢true (sym (ap is_shared wants) ∙ ap (λ (n : ℕ). is_shared (first_mode m.thread.list n)) same ∙ ap is_shared mark.1.1.1))

      of_marker : (i : ℕ) (m : Marker p i) → ((m.thread.phase ≡ Live) × (first_mode m.thread.list i ≡ Some Exclusive)) ⊎ IsFaulted m.thread.phase → HasFaulted p
      of_marker i m (inl so) = of_writer i m so.0 so.1
      of_marker i m (inr fault) = record { cpu = m.cpu; number = m.number; thread = m.thread; there = m.there; fault = fault }

      go : WaitsAtMark p refs → HasFaulted p
      go mark = (let m = reached_marks script p sound still.reached mark.0 mark.1.0 mark.1.1.0 mark.1.1.3 in of_marker mark.0 m m.is)

pub standstills : StandstillsAreWaits
standstills script p sound still = record {
  each = each_waits script p sound still;
  free = λ none. none_held script p sound still none;
  marks = λ none. at_marks script p sound still none;
  faults = λ none. has_faulted script p sound still none;
}
