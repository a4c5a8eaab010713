-- The intake of mail, and asks about messages, leave each thread that waits for no mail as it is.
use Rattle.std.proofs.Common.{◌≡◌, ◌≢◌, ◌⊎◌, ◌<◌, ◌≤◌, ◌+◌, ℕ, zero, suc, List, [], ◌∷◌, length, get_or, refl, ap, sym, ◌∙◌, subst, arith, inl, inr, Option, Some, None, Bool, true, false}
use Rattle.std.specs.Prelude.{slice_get, slice_set, if◌then◌else◌, ◌==◌, not, fold, IfSome}
use Rattle.std.specs.Option.{option_map_or}
use Rattle.std.proofs.lemmas.Bool.{false≢true, cases_eq, cases_lt}
use Rattle.std.proofs.lemmas.List.{get_or_past, get_or-set_other}
use Rattle.std.proofs.lemmas.Option.{none-some, same_Some, slice_get_within}
use Rattle.lwkt_base.specs.declared.names.MsgId.{MsgId}
use Rattle.lwkt_base.specs.declared.asks.Ask.{Ask}
use Rattle.lwkt_base.specs.declared.asks.Ask.TheVariants.{Get, GetShared, TryGet, Rel, Swap, Read, Write, Add, ReadBlob, WriteBlob, Send, Do, Reply, Abort, IsAborted, DropMsg, GetPort, WaitPort, Yield, Exit, Fail}
use Rattle.lwkt_base.specs.declared.asks.Item.{Item}
use Rattle.lwkt_base.specs.declared.asks.Answer.TheVariants.{Done}
use Rattle.lwkt_base.specs.declared.faults.Fault.{Fault}
use Rattle.lwkt_base.specs.declared.limits.TheConstants.{LAST_ROUND}
use Rattle.lwkt_core.specs.Machine.{changed}
use Rattle.lwkt_core.proofs.RunLemmas.{get-set_else}
use Rattle.lwkt_plain.specs.declared.letters.Lane.{Lane}
use Rattle.lwkt_plain.specs.declared.letters.Letter.{Letter}
use Rattle.lwkt_plain.specs.declared.letters.Note.{Note}
use Rattle.lwkt_plain.specs.declared.letters.TheConstants.{PORTS}
use Rattle.lwkt_plain.specs.declared.mailing.Sending.{Sending}
use Rattle.lwkt_plain.specs.declared.nexts.Next.{Next}
use Rattle.lwkt_plain.specs.declared.nexts.Next.TheVariants.{Runs, Leaves}
use Rattle.lwkt_plain.specs.declared.states.Phase.{Phase}
use Rattle.lwkt_plain.specs.declared.states.Phase.TheVariants.{Live, AwaitsItem, AwaitsReply, Exited, Faulted}
use Rattle.lwkt_plain.specs.declared.states.Plain.{Plain}
use Rattle.lwkt_plain.specs.declared.states.Processor.{Processor}
use Rattle.lwkt_plain.specs.declared.states.Thread.{Thread}
use Rattle.lwkt_plain.specs.declared.states.TheConstants.{TURN_NOTES, CLEARED_AT_ONCE}
use Rattle.lwkt_plain.specs.Letters.{aborted, come_home, owed_by, can_be_reaped}
use Rattle.lwkt_plain.specs.Places.{cpu_at, thread_at, port_at, lane_at, no_processor, with_cpu, with_lane, with_port, with_thread, with_letter, moved, has_room}
use Rattle.lwkt_plain.specs.Intakes.{below, moves_on, replies, pays_at, pays, pays_all, gets, hears_from, hears, is_sync_answer, has_space, queued, queues, comes_in, Intake, intake, without_first, keeps, receives, receives_from, receives_all, is_closed, handles, first_note, clears_port, clears, clears_all, Looked, shown_by, notes_in, looks_within, looks, wakes, wakes_at, wakes_all, takes_mail}
use Rattle.lwkt_plain.specs.Mailing.{Mailed, mailed, refused, plain_flags, send_refusal, sends_over, sends, shown_letter, replies_over, reply, abort_refusal, abort, is_aborted, drop_refusal, drop_msg}
use Rattle.lwkt_plain.specs.Turns.{mail_ask}
use Rattle.lwkt_plain.proofs.Changes.{get_or_changed, changed_out}
use Rattle.lwkt_plain.proofs.Soundness.{on_thread}
use Rattle.lwkt_plain.proofs.GoOnSound.{get_changed}
use Rattle.lwkt_plain.proofs.Receipts.{on_note, on_first, more, receives_zero, on_cleared, cleared, clears_zero, on_shown, on_served, within, within_zero}

-- what a fold keeps
fold_holds : {B : Type 0} (P : B → Type 0) (f : B → ℕ → B) → ((b : B) (n : ℕ) → P b → P (f b n)) → (z : B) (xs : List ℕ) → P z → P (fold f z xs)
fold_holds P f step z [] is = is
fold_holds P f step z (x ∷ xs) is = fold_holds P f step (f z x) xs (step z x is)

-- a list of which another element is changed
pub got_else : {A : Type 0} (f : A → A) (xs : List A) (i j : ℕ) → j ≢ i → slice_get (changed f xs i) j ≡ slice_get xs j
got_else {A} f xs i j differ = go (slice_get xs i)
  where
    go : (o : Option A) → slice_get (option_map_or (λ x. slice_set xs i (f x)) o xs) j ≡ slice_get xs j
    go None = refl
    go (Some x) = get-set_else xs i j (f x) differ

get_else : {A : Type 0} (f : A → A) (xs : List A) (i j : ℕ) (d : A) → j ≢ i → get_or (changed f xs i) j d ≡ get_or xs j d
get_else {A} f xs i j d differ = go (slice_get xs i)
  where
    go : (o : Option A) → get_or (option_map_or (λ x. slice_set xs i (f x)) o xs) j d ≡ get_or xs j d
    go None = refl
    go (Some x) = get_or-set_other xs i j (f x) d differ

-- a thread of another processor, or of another number
pub cpu_else : (f : Processor → Processor) (c d : ℕ) (p : Plain) → d ≢ c → cpu_at (with_cpu f c p) d ≡ cpu_at p d
cpu_else f c d p differ = get_else f p.cpus c d no_processor differ

pub inside_of : (p : Plain) (c k : ℕ) (t : Thread) → thread_at p c k ≡ Some t → c < length p.cpus
inside_of p c k t at = elim (cases_lt c (length p.cpus)) [
  | inl inside ↦ inside
  | inr past ↦ absurd (none-some t (sym (ap (λ (cpu : Processor). slice_get cpu.threads k) (get_or_past p.cpus c no_processor past)) ∙ at))
]

-- a thread changed
pub thread_here : (f : Thread → Thread) (c k : ℕ) (p : Plain) (t : Thread) → thread_at p c k ≡ Some t → thread_at (with_thread f c k p) c k ≡ Some (f t)
thread_here f c k p t at =
    ap (λ (cpu : Processor). slice_get cpu.threads k) (get_or_changed (on_thread f k) p.cpus c no_processor (inside_of p c k t at))
    ∙ get_changed f (cpu_at p c).threads k (slice_get_within (cpu_at p c).threads k t at)
    ∙ ap (λ (o : Option Thread). option_map_or (λ (x : Thread). Some (f x)) o None) at

pub thread_there_else : (f : Thread → Thread) (c k d n : ℕ) (p : Plain) → (d ≡ c → n ≡ k → ⊥) → thread_at (with_thread f c k p) d n ≡ thread_at p d n
thread_there_else f c k d n p else' = elim (cases_eq d c) [
  | inr differ ↦ ap (λ (cpu : Processor). slice_get cpu.threads n) (cpu_else (on_thread f k) c d p differ)
  | inl same ↦ elim (cases_lt c (length p.cpus)) [
    | inl inside ↦ subst (λ (e : ℕ). thread_at (with_thread f c k p) e n ≡ thread_at p e n) (sym same) (here inside (λ e. else' same e))
    | inr past ↦ ap (λ (cpus : List Processor). slice_get (get_or cpus d no_processor).threads n) (changed_out (on_thread f k) p.cpus c past)
  ]
]
  where
    here : c < length p.cpus → n ≢ k → thread_at (with_thread f c k p) c n ≡ thread_at p c n
    here inside differ =
        ap (λ (cpu : Processor). slice_get cpu.threads n) (get_or_changed (on_thread f k) p.cpus c no_processor inside) ∙ got_else f (cpu_at p c).threads k n differ

-- a thread that a change leaves, whichever thread is changed
pub thread_kept : (f : Thread → Thread) (c k d n : ℕ) (p : Plain) (t : Thread) → thread_at p d n ≡ Some t → (d ≡ c → n ≡ k → f t ≡ t) → thread_at (with_thread f c k p) d n ≡ Some t
thread_kept f c k d n p t at same = elim (cases_eq d c) [
  | inr differ ↦ thread_there_else f c k d n p (λ e e'. differ e) ∙ at
  | inl is ↦ elim (cases_eq n k) [
    | inr differ ↦ thread_there_else f c k d n p (λ e e'. differ e') ∙ at
    | inl is' ↦
        let F : ℕ → ℕ → Type 0 = λ e m. thread_at (with_thread f e m p) d n ≡ Some t in
        subst (λ (e : ℕ). F e k) is (subst (λ (m : ℕ). F d m) is' (thread_here f d n p t at ∙ ap (λ (x : Thread). Some x) (same is is')))
  ]
]

-- a thread that waits for no mail
pub record IsSteady (phase : Phase) : Type 0 where
  pub hears : (msg : MsgId) (l : Letter) (t : Thread) → hears_from phase msg l t ≡ t
  pub awake : phase ≡ AwaitsItem → ⊥

abbrev is_item : Phase → Bool
is_item AwaitsItem = true
is_item _ = false

steady_by : (phase : Phase) → is_item phase ≡ false → ((msg : MsgId) (l : Letter) (t : Thread) → hears_from phase msg l t ≡ t) → IsSteady phase
steady_by phase not_item hears' = record { hears = hears'; awake = λ is. false≢true (sym not_item ∙ ap is_item is) }

pub live_steady : IsSteady Live
live_steady = steady_by Live refl (λ msg l t. refl)

pub faulted_steady : (fault : Fault) → IsSteady (Faulted fault)
faulted_steady fault = steady_by (Faulted fault) refl (λ msg l t. refl)

module _ (d n : ℕ) (t : Thread) (steady : IsSteady t.phase) where
  -- it stands in a state
  abbrev Stands : Plain → Type 0
  Stands p = thread_at p d n ≡ Some t

  abbrev StandsIn : Option Plain → Type 0
  StandsIn o = IfSome o Stands

  pick : (b : Bool) (x y : Plain) → Stands x → Stands y → Stands (if b then x else y)
  pick true x y one other = one
  pick false x y one other = other

  pays_stands : (c : ℕ) (p : Plain) (m : ℕ) → Stands p → Stands (pays c p m)
  pays_stands c p m is = of_letter (slice_get p.letters m)
    where
      of_error : (l : Letter) (o : Option ℕ) → Stands (option_map_or (λ error. if has_room (lane_at p c l.origin.cpu.0) then replies c (record { 0 = m }) error 0 l p else p) o p)
      of_error l None = is
      of_error l (Some error) = pick (has_room (lane_at p c l.origin.cpu.0)) (replies c (record { 0 = m }) error 0 l p) p is is

      of_letter : (o : Option Letter) → Stands (option_map_or (pays_at c p (record { 0 = m })) o p)
      of_letter None = is
      of_letter (Some l) = of_error l (owed_by c l)

  hears_stands : (c : ℕ) (note : Note) (l : Letter) (p : Plain) → Stands p → Stands (hears c note l p)
  hears_stands c note l p is =
      let home = with_letter come_home note.msg.0 p in
      pick (can_be_reaped c note l) (with_thread (λ (x : Thread). hears_from x.phase note.msg l x) c note.port home) p
      (thread_kept (λ (x : Thread). hears_from x.phase note.msg l x) c note.port d n home t is (λ e e'. steady.hears note.msg l t)) is

  comes_stands : (c : ℕ) (note : Note) (p : Plain) → Stands p → StandsIn (comes_in c note p)
  comes_stands c note p is = go (slice_get p.letters note.msg.0)
    where
      full : (b : Bool) → StandsIn (if b then Some (with_port (queued note) c note.port p) else None)
      full true = is
      full false = tt {0}

      by : (b : Bool) (l : Letter) → StandsIn (if b then Some (hears c note l p) else queues c note p)
      by true l = hears_stands c note l p is
      by false l = full (has_space note (port_at p c note.port))

      go : (o : Option Letter) → StandsIn (option_map_or (λ l. if is_sync_answer note.kind l then Some (hears c note l p) else queues c note p) o (Some p))
      go None = is
      go (Some l) = by (is_sync_answer note.kind l) l

  note_stands : (c s m : ℕ) (p : Plain) (note : Note) → ((q : Plain) → Stands q → Stands (receives c s m q).plain) → Stands p → (o : Option Plain) → StandsIn o → Stands (on_note c s m p note o).plain
  note_stands c s m p note ih is None so = is
  note_stands c s m p note ih is (Some next) so = ih next so

  first_stands : (c s m : ℕ) (p : Plain) → ((q : Plain) → Stands q → Stands (receives c s m q).plain) → Stands p → (o : Option Note) → Stands (on_first c s m p o).plain
  first_stands c s m p ih is None = is
  first_stands c s m p ih is (Some note) = note_stands c s m p note ih is (comes_in c note (without_first s c p)) (comes_stands c note (without_first s c p) is)

  receives_stand : (m c s : ℕ) (p : Plain) → Stands p → Stands (receives c s m p).plain
  receives_stand zero c s p is = subst (λ (i : Intake). Stands i.plain) (sym (receives_zero c s p)) is
  receives_stand (suc m) c s p is =
      subst (λ (i : Intake). Stands i.plain) (sym (more c s (suc m) m p refl)) (first_stands c s m p (receives_stand m c s) is (slice_get (lane_at p s c).queue 0))

  from_stands : (c : ℕ) (i : Intake) (s : ℕ) → Stands i.plain → Stands (receives_from c i s).plain
  from_stands c i s is = go (lane_at i.plain s c).kept
    where
      after : (note : Note) (o : Option Plain) → StandsIn o → Stands (option_map_or (λ next. receives c s i.left (keeps None s c next)) o i).plain
      after note None so = is
      after note (Some next) so = receives_stand i.left c s (keeps None s c next) so

      go : (o : Option Note) → Stands (option_map_or (λ note. option_map_or (λ next. receives c s i.left (keeps None s c next)) (comes_in c note i.plain) i) o (receives c s i.left i.plain)).plain
      go None = receives_stand i.left c s i.plain is
      go (Some note) = after note (comes_in c note i.plain) (comes_stands c note i.plain is)

  cleared_stands : (c k m : ℕ) (p : Plain) → ((q : Plain) → Stands q → Stands (clears_port c k m q).plain) → Stands p → (o : Option Note) → Stands (on_cleared c k m p o).plain
  cleared_stands c k m p ih is None = is
  cleared_stands c k m p ih is (Some note) = ih (handles c k None note p) is

  clears_port_stands : (m c k : ℕ) (p : Plain) → Stands p → Stands (clears_port c k m p).plain
  clears_port_stands zero c k p is = subst (λ (i : Intake). Stands i.plain) (sym (clears_zero c k p)) is
  clears_port_stands (suc m) c k p is =
      subst (λ (i : Intake). Stands i.plain) (sym (cleared c k (suc m) m p refl)) (cleared_stands c k m p (clears_port_stands m c k) is (first_note (port_at p c k)))

  clears_stands : (c : ℕ) (i : Intake) (k : ℕ) → Stands i.plain → Stands (clears c i k).plain
  clears_stands c i k is = go (is_closed c k i.plain)
    where
      go : (b : Bool) → Stands (if b then clears_port c k i.left i.plain else i).plain
      go true = clears_port_stands i.left c k i.plain is
      go false = is

-- a port that is looked at leaves the processors as they are
shown_cpus : (c k m : ℕ) (p : Plain) (note : Note) → ((q : Plain) → (looks_within m c k q).plain.cpus ≡ q.cpus) → (o : Option Item) → (on_shown c k m p note o).plain.cpus ≡ p.cpus
shown_cpus c k m p note ih None = ih (handles c k (Some k) note p)
shown_cpus c k m p note ih (Some item) = refl

served_cpus : (c k m : ℕ) (p : Plain) → ((q : Plain) → (looks_within m c k q).plain.cpus ≡ q.cpus) → (o : Option Note) → (on_served c k m p o).plain.cpus ≡ p.cpus
served_cpus c k m p ih None = refl
served_cpus c k m p ih (Some note) = shown_cpus c k m p note ih (shown_by c note p)

looks_within_cpus : (m c k : ℕ) (p : Plain) → (looks_within m c k p).plain.cpus ≡ p.cpus
looks_within_cpus zero c k p = ap (λ (x : Looked). x.plain.cpus) (within_zero c k p)
looks_within_cpus (suc m) c k p = ap (λ (x : Looked). x.plain.cpus) (within (suc m) m c k p refl) ∙ served_cpus c k m p (looks_within_cpus m c k) (first_note (port_at p c k))

pub looks_cpus : (c k : ℕ) (p : Plain) → (looks c k p).plain.cpus ≡ p.cpus
looks_cpus c k p = looks_within_cpus (notes_in (port_at p c k)) c k p

pub same_thread_by : (p q : Plain) (d n : ℕ) → q.cpus ≡ p.cpus → thread_at q d n ≡ thread_at p d n
same_thread_by p q d n same = ap (λ (cpus : List Processor). slice_get (get_or cpus d no_processor).threads n) same

module _ (d n : ℕ) (t : Thread) (steady : IsSteady t.phase) where
  item_stands : (c k : ℕ) (p : Plain) → (d ≡ c → n ≡ k → ⊥) → thread_at p d n ≡ Some t → (o : Option Item) → thread_at (option_map_or (λ i. with_thread (gets i) c k p) o p) d n ≡ Some t
  item_stands c k p apart is None = is
  item_stands c k p apart is (Some i) = thread_there_else (gets i) c k d n p apart ∙ is

  woken_stands : (c : ℕ) (p : Plain) (k : ℕ) (x : Thread) → thread_at p d n ≡ Some t → thread_at p c k ≡ Some x → (phase : Phase) → x.phase ≡ phase → thread_at (wakes c k p phase) d n ≡ Some t
  woken_stands c p k x is at Live same = is
  woken_stands c p k x is at (AwaitsReply msg) same = is
  woken_stands c p k x is at Exited same = is
  woken_stands c p k x is at (Faulted fault) same = is
  woken_stands c p k x is at AwaitsItem same =
      let now = (looks c k p).plain in
      let apart : d ≡ c → n ≡ k → ⊥ = λ e e'.
      (let one : Some t ≡ Some x = sym is ∙ ap (λ (a : ℕ). thread_at p a n) e ∙ ap (thread_at p c) e' ∙ at in
      steady.awake (ap (λ (y : Thread). y.phase) (same_Some t x one) ∙ same)) in
      item_stands c k now apart (same_thread_by p now d n (looks_cpus c k p) ∙ is) (looks c k p).item

  wakes_stands : (c : ℕ) (p : Plain) (k : ℕ) → thread_at p d n ≡ Some t → thread_at (wakes_at c p k) d n ≡ Some t
  wakes_stands c p k is = go (thread_at p c k) refl
    where
      go : (o : Option Thread) → thread_at p c k ≡ o → thread_at (option_map_or (λ (x : Thread). wakes c k p x.phase) o p) d n ≡ Some t
      go None at = is
      go (Some x) at = woken_stands c p k x is at x.phase refl

  -- all of it
  moves_on_stand : (c : ℕ) (p : Plain) → thread_at p d n ≡ Some t → thread_at (moves_on c p) d n ≡ Some t
  unfolding moves_on
  moves_on_stand c p is = fold_holds (λ (q : Plain). thread_at q d n ≡ Some t) (λ now to. with_lane moved c to now) (λ now to so. so) p (below (length p.cpus)) is

  pays_all_stand : (c : ℕ) (p : Plain) → thread_at p d n ≡ Some t → thread_at (pays_all c p) d n ≡ Some t
  unfolding pays_all
  pays_all_stand c p is = fold_holds (λ (q : Plain). thread_at q d n ≡ Some t) (pays c) (λ now m so. pays_stands d n t steady c now m so) p (below (length p.letters)) is

  receives_all_stand : (c : ℕ) (p : Plain) → thread_at p d n ≡ Some t → thread_at (receives_all c p) d n ≡ Some t
  unfolding receives_all
  receives_all_stand c p is = fold_holds (λ (i : Intake). thread_at i.plain d n ≡ Some t) (receives_from c) (λ i s so. from_stands d n t steady c i s so) (intake TURN_NOTES p) (below (length p.cpus)) is

  clears_all_stand : (c : ℕ) (p : Plain) → thread_at p d n ≡ Some t → thread_at (clears_all c p) d n ≡ Some t
  unfolding clears_all
  clears_all_stand c p is = fold_holds (λ (i : Intake). thread_at i.plain d n ≡ Some t) (clears c) (λ i k so. clears_stands d n t steady c i k so) (intake CLEARED_AT_ONCE p) (below PORTS) is

  wakes_all_stand : (c : ℕ) (p : Plain) → thread_at p d n ≡ Some t → thread_at (wakes_all c p) d n ≡ Some t
  unfolding wakes_all
  wakes_all_stand c p is = fold_holds (λ (q : Plain). thread_at q d n ≡ Some t) (wakes_at c) (λ now k so. wakes_stands c now k so) p (below (length (cpu_at p c).threads)) is

  pub mail_stands : (c : ℕ) (p : Plain) → thread_at p d n ≡ Some t → thread_at (takes_mail c p) d n ≡ Some t
  mail_stands c p is =
      let a = moves_on c p in
      let b = pays_all c a in
      let e = receives_all c b in
      wakes_all_stand c (clears_all c e) (clears_all_stand c e (receives_all_stand c b (pays_all_stand c a (moves_on_stand c p is))))

-- an ask about messages leaves the processors as they are
abbrev LeavesCpus : Plain → Mailed → Type 0
LeavesCpus p m = m.plain.cpus ≡ p.cpus

if_leaves : (b : Bool) (p : Plain) (x y : Mailed) → LeavesCpus p x → LeavesCpus p y → LeavesCpus p (if b then x else y)
if_leaves true p x y one other = one
if_leaves false p x y one other = other

or_leaves : {A : Type 0} (f : A → Mailed) (o : Option A) (d : Mailed) (p : Plain) → ((a : A) → LeavesCpus p (f a)) → LeavesCpus p d → LeavesCpus p (option_map_or f o d)
or_leaves f None d p some none = none
or_leaves f (Some a) d p some none = some a

sends_leave : (c k : ℕ) (p : Plain) (s : Sending) (next : Next) → LeavesCpus p (sends c k p s next)
sends_leave c k p s next =
    or_leaves (refused p) (send_refusal c k p s) _ p (λ fault. refl)
    (or_leaves (sends_over c p s next) (slice_get p.letters s.msg.0) _ p
    (λ l. if_leaves (not (has_room (lane_at p c s.to.cpu.0))) p _ _ refl (if_leaves (l.word.round == LAST_ROUND) p _ _ refl refl)) refl)

reply_leaves : (c k : ℕ) (p : Plain) (msg : MsgId) (error outcome : ℕ) → LeavesCpus p (reply c k p msg error outcome)
reply_leaves c k p msg error outcome =
    or_leaves (replies_over c p msg error outcome) (shown_letter c k p msg) _ p (λ l. if_leaves (has_room (lane_at p c l.origin.cpu.0)) p _ _ refl refl) refl

abort_leaves : (c k : ℕ) (p : Plain) (msg : MsgId) → LeavesCpus p (abort c k p msg)
abort_leaves c k p msg =
    or_leaves (λ l. option_map_or (refused p) (abort_refusal c k l) (mailed (with_letter aborted msg.0 p) (Runs Done))) (slice_get p.letters msg.0) _ p
    (λ l. or_leaves (refused p) (abort_refusal c k l) _ p (λ fault. refl) refl) refl

hears_leave : (c k : ℕ) (p : Plain) (msg : MsgId) → LeavesCpus p (is_aborted c k p msg)
hears_leave c k p msg = or_leaves _ (shown_letter c k p msg) _ p (λ l. refl) refl

drop_leaves : (c k : ℕ) (p : Plain) (msg : MsgId) → LeavesCpus p (drop_msg c k p msg)
drop_leaves c k p msg = or_leaves _ (slice_get p.letters msg.0) _ p (λ l. or_leaves (refused p) (drop_refusal c k l) _ p (λ fault. refl) refl) refl

pub mail_leaves : (c k : ℕ) (p : Plain) (count : ℕ) (ask : Ask) → IfSome (mail_ask c k p count ask) (LeavesCpus p)
mail_leaves c k p count (Send msg to call flags) = sends_leave c k p (record { msg = msg; to = to; call = call; flags = flags; sync = false }) (Runs Done)
mail_leaves c k p count (Do msg to call) = sends_leave c k p (record { msg = msg; to = to; call = call; flags = plain_flags; sync = true }) (Leaves count (AwaitsReply msg))
mail_leaves c k p count (Reply msg error outcome) = reply_leaves c k p msg error outcome
mail_leaves c k p count (Abort msg) = abort_leaves c k p msg
mail_leaves c k p count (IsAborted msg) = hears_leave c k p msg
mail_leaves c k p count (DropMsg msg) = drop_leaves c k p msg
mail_leaves c k p count GetPort = looks_cpus c k p
mail_leaves c k p count WaitPort = looks_cpus c k p
mail_leaves c k p count (Get tok) = tt
mail_leaves c k p count (GetShared tok) = tt
mail_leaves c k p count (TryGet tok) = tt
mail_leaves c k p count (Rel tok) = tt
mail_leaves c k p count Swap = tt
mail_leaves c k p count (Read tok cell) = tt
mail_leaves c k p count (Write tok cell value) = tt
mail_leaves c k p count (Add tok amount) = tt
mail_leaves c k p count (ReadBlob tok) = tt
mail_leaves c k p count (WriteBlob tok bytes) = tt
mail_leaves c k p count Yield = tt
mail_leaves c k p count Exit = tt
mail_leaves c k p count (Fail number) = tt
