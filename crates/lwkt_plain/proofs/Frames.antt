-- The intake of mail leaves tokens, rounds and lists as they are.
use Rattle.std.proofs.Common.{◌≡◌, ℕ, zero, suc, ◌<◌, ◌≤◌, List, [], ◌∷◌, length, get_or, map, ap, ◌∙◌, refl, sym, subst, arith, inl, inr, Option, Some, None, Bool, true, false}
use Rattle.std.specs.Prelude.{slice_get, drop, IfSome, All, if◌then◌else◌, fold, ◌==◌}
use Rattle.std.specs.Option.{option_map_or}
use Rattle.lwkt_plain.specs.declared.letters.TheConstants.{PORTS}
use Rattle.std.proofs.lemmas.List.{get_or_past, get_or-map, length-map}
use Rattle.std.proofs.lemmas.Bool.{cases_lt}
use Rattle.std.proofs.lemmas.Option.{slice_get_within, get_or_from_slice_get}
use Rattle.lwkt_base.specs.declared.names.MsgId.{MsgId}
use Rattle.lwkt_base.specs.declared.asks.Item.{Item}
use Rattle.lwkt_base.specs.declared.limits.TheConstants.{LAST_ROUND, MESSAGE_LIMIT, THREAD_LIMIT}
use Rattle.lwkt_plain.specs.declared.letters.Lane.{Lane}
use Rattle.lwkt_plain.specs.declared.letters.Letter.{Letter}
use Rattle.lwkt_plain.specs.declared.letters.Note.{Note}
use Rattle.lwkt_plain.specs.declared.letters.NoteKind.{NoteKind}
use Rattle.lwkt_plain.specs.declared.letters.NoteKind.TheVariants.{Request, Answer}
use Rattle.lwkt_plain.specs.declared.letters.Port.{Port}
use Rattle.lwkt_plain.specs.declared.states.Phase.{Phase}
use Rattle.lwkt_plain.specs.declared.states.Phase.TheVariants.{Live, AwaitsItem, AwaitsReply, Exited, Faulted}
use Rattle.lwkt_plain.specs.declared.states.Plain.{Plain}
use Rattle.lwkt_plain.specs.declared.states.Processor.{Processor}
use Rattle.lwkt_plain.specs.declared.states.Thread.{Thread}
use Rattle.lwkt_plain.specs.declared.states.TheConstants.{TURN_NOTES, CLEARED_AT_ONCE}
use Rattle.lwkt_core.specs.Machine.{changed}
use Rattle.lwkt_plain.specs.Letters.{replied, come_home, handled, handled_kind, taken, hands_for, can_be_taken, can_be_reaped, owed_by, answer_note, answer_of}
use Rattle.lwkt_plain.specs.Places.{cpu_at, thread_at, port_at, lane_at, no_processor, with_cpu, with_lane, with_port, with_thread, with_letter, moved, pushed, has_room}
use Rattle.lwkt_plain.specs.Intakes.{below, moves_on, posts, replies, pays_at, pays, pays_all, gets, hears_from, hears, is_sync_answer, has_space, queued, queues, comes_in, Intake, intake, without_first, keeps, receives, receives_from, receives_all, is_closed, without_note, handles, first_note, clears_port, clears, clears_all, Looked, looked, shown_by, notes_in, looks_within, looks, wakes, wakes_at, wakes_all, takes_mail}
use Rattle.lwkt_plain.specs.Sound.{Lists, Frame, lists_of, round_of, frame, no_lists, IsSoundFrame, IsSound, AreSoundLists}
use Rattle.lwkt_plain.proofs.Changes.{map_changed}
use Rattle.lwkt_plain.proofs.Folds.{fold_keeps}
use Rattle.lwkt_plain.proofs.Receipts.{on_note, on_first, more, receives_zero, on_cleared, cleared, clears_zero, on_shown, on_served, within, within_zero}

-- a change of a processor that leaves its lists
frame_cpu : (f : Processor → Processor) (c : ℕ) (p : Plain) → ((cpu : Processor) → lists_of (f cpu) ≡ lists_of cpu) → frame (with_cpu f c p) ≡ frame p
frame_cpu f c p same =
    let F : List Lists → Frame = λ cpus. record { tokens = p.tokens; rounds = map round_of p.letters; cpus = cpus } in
    ap F (map_changed lists_of f p.cpus c same)

pub frame_lane : (f : Lane → Lane) (from to : ℕ) (p : Plain) → frame (with_lane f from to p) ≡ frame p
frame_lane f from to p = refl

pub frame_port : (f : Port → Port) (c k : ℕ) (p : Plain) → frame (with_port f c k p) ≡ frame p
frame_port f c k p = refl

pub frame_thread : (f : Thread → Thread) (c k : ℕ) (p : Plain) → ((t : Thread) → (f t).list ≡ t.list) → frame (with_thread f c k p) ≡ frame p
frame_thread f c k p same =
    frame_cpu (λ (cpu : Processor). record cpu { threads = changed f cpu.threads k }) c p
    (λ cpu. ap (λ lists. record { running = cpu.running; lists = lists }) (map_changed (λ (t : Thread). t.list) f cpu.threads k same))

pub frame_letter : (f : Letter → Letter) (m : ℕ) (p : Plain) → ((l : Letter) → round_of (f l) ≡ round_of l) → frame (with_letter f m p) ≡ frame p
frame_letter f m p same =
    let F : List ℕ → Frame = λ rounds. record { tokens = p.tokens; rounds = rounds; cpus = map lists_of p.cpus } in
    ap F (map_changed round_of f p.letters m same)

-- one of two states
keep_if : (b : Bool) (x y p : Plain) → frame x ≡ frame p → frame y ≡ frame p → frame (if b then x else y) ≡ frame p
keep_if true x y p one other = one
keep_if false x y p one other = other

keep_or : {A : Type 0} (f : A → Plain) (o : Option A) (d p : Plain) → ((a : A) → frame (f a) ≡ frame p) → frame d ≡ frame p → frame (option_map_or f o d) ≡ frame p
keep_or f None d p some none = none
keep_or f (Some a) d p some none = some a

pub moves_on_frame : (c : ℕ) (p : Plain) → frame (moves_on c p) ≡ frame p
unfolding moves_on
moves_on_frame c p = fold_keeps frame (λ now to. with_lane moved c to now) (λ now to. frame_lane moved c to now) p (below (length p.cpus))

pub replies_frame : (c : ℕ) (msg : MsgId) (error outcome : ℕ) (l : Letter) (p : Plain) → frame (replies c msg error outcome l p) ≡ frame p
replies_frame c msg error outcome l p =
    frame_lane (λ lane. pushed (answer_note msg l) (moved lane)) c l.origin.cpu.0 (with_letter (replied error outcome) msg.0 p)
    ∙ frame_letter (replied error outcome) msg.0 p (λ own. refl)

pays_at_frame : (c : ℕ) (p : Plain) (msg : MsgId) (l : Letter) → frame (pays_at c p msg l) ≡ frame p
pays_at_frame c p msg l =
    keep_or (λ error. if has_room (lane_at p c l.origin.cpu.0) then replies c msg error 0 l p else p) (owed_by c l) p p
    (λ error. keep_if (has_room (lane_at p c l.origin.cpu.0)) (replies c msg error 0 l p) p p (replies_frame c msg error 0 l p) refl) refl

pays_frame : (c : ℕ) (p : Plain) (m : ℕ) → frame (pays c p m) ≡ frame p
pays_frame c p m = keep_or (pays_at c p (record { 0 = m })) (slice_get p.letters m) p p (pays_at_frame c p (record { 0 = m })) refl

pub pays_all_frame : (c : ℕ) (p : Plain) → frame (pays_all c p) ≡ frame p
unfolding pays_all
pays_all_frame c p = fold_keeps frame (pays c) (pays_frame c) p (below (length p.letters))

-- a reply that is heard
heard_if : (b : Bool) (item : Item) (t : Thread) → (if b then gets item t else t).list ≡ t.list
heard_if true item t = refl
heard_if false item t = refl

heard_list : (phase : Phase) (msg : MsgId) (l : Letter) (t : Thread) → (hears_from phase msg l t).list ≡ t.list
heard_list Live msg l t = refl
heard_list AwaitsItem msg l t = refl
heard_list (AwaitsReply own) msg l t = heard_if (own.0 == msg.0) (answer_of msg l) t
heard_list Exited msg l t = refl
heard_list (Faulted fault) msg l t = refl

hears_frame : (c : ℕ) (note : Note) (l : Letter) (p : Plain) → frame (hears c note l p) ≡ frame p
hears_frame c note l p =
    let home = with_letter come_home note.msg.0 p in
    keep_if (can_be_reaped c note l) (with_thread (λ t. hears_from t.phase note.msg l t) c note.port home) p p
    (frame_thread (λ t. hears_from t.phase note.msg l t) c note.port home (λ t. heard_list t.phase note.msg l t) ∙ frame_letter come_home note.msg.0 p (λ own. refl))
    refl

-- a note that comes in
abbrev Keeps : Plain → Option Plain → Type 0
Keeps p o = IfSome o (λ q. frame q ≡ frame p)

queued_kept : (b : Bool) (c : ℕ) (note : Note) (p : Plain) → Keeps p (if b then Some (with_port (queued note) c note.port p) else None)
queued_kept true c note p = frame_port (queued note) c note.port p
queued_kept false c note p = tt {0}

came_kept : (b : Bool) (c : ℕ) (note : Note) (l : Letter) (p : Plain) → Keeps p (if b then Some (hears c note l p) else queues c note p)
came_kept true c note l p = hears_frame c note l p
came_kept false c note l p = queued_kept (has_space note (port_at p c note.port)) c note p

comes_kept : (c : ℕ) (note : Note) (p : Plain) → Keeps p (comes_in c note p)
comes_kept c note p = go (slice_get p.letters note.msg.0)
  where
    go : (o : Option Letter) → Keeps p (option_map_or (λ l. if is_sync_answer note.kind l then Some (hears c note l p) else queues c note p) o (Some p))
    go None = refl
    go (Some l) = came_kept (is_sync_answer note.kind l) c note l p

-- notes that are received
note_frame : (c s m : ℕ) (p : Plain) (note : Note) → ((q : Plain) → frame (receives c s m q).plain ≡ frame q) → (o : Option Plain) → Keeps (without_first s c p) o → frame (on_note c s m p note o).plain ≡ frame p
note_frame c s m p note ih None kept =
    frame_lane (λ (lane : Lane). record lane { kept = Some note }) s c (without_first s c p) ∙ frame_lane (λ (lane : Lane). record lane { queue = drop 1 lane.queue }) s c p
note_frame c s m p note ih (Some next) kept = ih next ∙ kept ∙ frame_lane (λ (lane : Lane). record lane { queue = drop 1 lane.queue }) s c p

first_frame : (c s m : ℕ) (p : Plain) → ((q : Plain) → frame (receives c s m q).plain ≡ frame q) → (o : Option Note) → frame (on_first c s m p o).plain ≡ frame p
first_frame c s m p ih None = refl
first_frame c s m p ih (Some note) = note_frame c s m p note ih (comes_in c note (without_first s c p)) (comes_kept c note (without_first s c p))

receives_frame : (n c s : ℕ) (p : Plain) → frame (receives c s n p).plain ≡ frame p
receives_frame zero c s p = ap (λ (i : Intake). frame i.plain) (receives_zero c s p)
receives_frame (suc m) c s p =
    ap (λ (i : Intake). frame i.plain) (more c s (suc m) m p refl) ∙ first_frame c s m p (receives_frame m c s) (slice_get (lane_at p s c).queue 0)

from_frame : (c s : ℕ) (i : Intake) → frame (receives_from c i s).plain ≡ frame i.plain
from_frame c s i = go (lane_at i.plain s c).kept
  where
    after : (note : Note) (o : Option Plain) → Keeps i.plain o → frame (option_map_or (λ next. receives c s i.left (keeps None s c next)) o i).plain ≡ frame i.plain
    after note None kept = refl
    after note (Some next) kept = receives_frame i.left c s (keeps None s c next) ∙ frame_lane (λ (lane : Lane). record lane { kept = None }) s c next ∙ kept

    go : (o : Option Note) → frame (option_map_or (λ note. option_map_or (λ next. receives c s i.left (keeps None s c next)) (comes_in c note i.plain) i) o (receives c s i.left i.plain)).plain ≡ frame i.plain
    go None = receives_frame i.left c s i.plain
    go (Some note) = after note (comes_in c note i.plain) (comes_kept c note i.plain)

pub receives_all_frame : (c : ℕ) (p : Plain) → frame (receives_all c p) ≡ frame p
unfolding receives_all
receives_all_frame c p = fold_keeps (λ (i : Intake). frame i.plain) (receives_from c) (λ i s. from_frame c s i) (intake TURN_NOTES p) (below (length p.cpus))

-- a note that is handled
round_if : (b : Bool) (l own : Letter) → round_of l ≡ round_of own → round_of (if b then l else own) ≡ round_of own
round_if true l own same = same
round_if false l own same = refl

handled_round : (kind : NoteKind) (c : ℕ) (th : Option ℕ) (note : Note) (l : Letter) → round_of (handled_kind kind c th note l) ≡ round_of l
handled_round Request c th note l = round_if (can_be_taken c note l) (taken (hands_for th l.word.aborted) l) l refl
handled_round Answer c th note l = round_if (can_be_reaped c note l) (come_home l) l refl

pub handles_frame : (c k : ℕ) (th : Option ℕ) (note : Note) (p : Plain) → frame (handles c k th note p) ≡ frame p
handles_frame c k th note p =
    frame_letter (handled c th note) note.msg.0 (with_port without_note c k p) (λ l. handled_round note.kind c th note l) ∙ frame_port without_note c k p

-- ports that are cleared
cleared_frame : (c k m : ℕ) (p : Plain) → ((q : Plain) → frame (clears_port c k m q).plain ≡ frame q) → (o : Option Note) → frame (on_cleared c k m p o).plain ≡ frame p
cleared_frame c k m p ih None = refl
cleared_frame c k m p ih (Some note) = ih (handles c k None note p) ∙ handles_frame c k None note p

clears_port_frame : (n c k : ℕ) (p : Plain) → frame (clears_port c k n p).plain ≡ frame p
clears_port_frame zero c k p = ap (λ (i : Intake). frame i.plain) (clears_zero c k p)
clears_port_frame (suc m) c k p =
    ap (λ (i : Intake). frame i.plain) (cleared c k (suc m) m p refl) ∙ cleared_frame c k m p (clears_port_frame m c k) (first_note (port_at p c k))

clears_if : (b : Bool) (c k : ℕ) (i : Intake) → frame (if b then clears_port c k i.left i.plain else i).plain ≡ frame i.plain
clears_if true c k i = clears_port_frame i.left c k i.plain
clears_if false c k i = refl

pub clears_all_frame : (c : ℕ) (p : Plain) → frame (clears_all c p) ≡ frame p
unfolding clears_all
clears_all_frame c p =
    fold_keeps (λ (i : Intake). frame i.plain) (clears c) (λ i k. clears_if (is_closed c k i.plain) c k i) (intake CLEARED_AT_ONCE p) (below PORTS)

-- a port that is looked at
shown_frame : (c k m : ℕ) (p : Plain) (note : Note) → ((q : Plain) → frame (looks_within m c k q).plain ≡ frame q) → (o : Option Item) → frame (on_shown c k m p note o).plain ≡ frame p
shown_frame c k m p note ih None = ih (handles c k (Some k) note p) ∙ handles_frame c k (Some k) note p
shown_frame c k m p note ih (Some item) = handles_frame c k (Some k) note p

served_frame : (c k m : ℕ) (p : Plain) → ((q : Plain) → frame (looks_within m c k q).plain ≡ frame q) → (o : Option Note) → frame (on_served c k m p o).plain ≡ frame p
served_frame c k m p ih None = refl
served_frame c k m p ih (Some note) = shown_frame c k m p note ih (shown_by c note p)

looks_within_frame : (n c k : ℕ) (p : Plain) → frame (looks_within n c k p).plain ≡ frame p
looks_within_frame zero c k p = ap (λ (x : Looked). frame x.plain) (within_zero c k p)
looks_within_frame (suc m) c k p =
    ap (λ (x : Looked). frame x.plain) (within (suc m) m c k p refl) ∙ served_frame c k m p (looks_within_frame m c k) (first_note (port_at p c k))

pub looks_frame : (c k : ℕ) (p : Plain) → frame (looks c k p).plain ≡ frame p
looks_frame c k p = looks_within_frame (notes_in (port_at p c k)) c k p

-- a thread that is woken up
wakes_frame : (phase : Phase) (c k : ℕ) (p : Plain) → frame (wakes c k p phase) ≡ frame p
wakes_frame Live c k p = refl
wakes_frame AwaitsItem c k p =
    let now = looks c k p in
    keep_or (λ item. with_thread (gets item) c k now.plain) now.item now.plain p
    (λ item. frame_thread (gets item) c k now.plain (λ t. refl) ∙ looks_frame c k p) (looks_frame c k p)
wakes_frame (AwaitsReply msg) c k p = refl
wakes_frame Exited c k p = refl
wakes_frame (Faulted fault) c k p = refl

wakes_at_frame : (c : ℕ) (p : Plain) (k : ℕ) → frame (wakes_at c p k) ≡ frame p
wakes_at_frame c p k = keep_or (λ (t : Thread). wakes c k p t.phase) (thread_at p c k) p p (λ t. wakes_frame t.phase c k p) refl

pub wakes_all_frame : (c : ℕ) (p : Plain) → frame (wakes_all c p) ≡ frame p
unfolding wakes_all
wakes_all_frame c p = fold_keeps frame (wakes_at c) (wakes_at_frame c) p (below (length (cpu_at p c).threads))

pub takes_mail_frame : (c : ℕ) (p : Plain) → frame (takes_mail c p) ≡ frame p
takes_mail_frame c p =
    wakes_all_frame c (clears_all c (receives_all c (pays_all c (moves_on c p))))
    ∙ clears_all_frame c (receives_all c (pays_all c (moves_on c p)))
    ∙ receives_all_frame c (pays_all c (moves_on c p))
    ∙ pays_all_frame c (moves_on c p)
    ∙ moves_on_frame c p

-- a state with the same frame as a sound one
pub sound_by : (p q : Plain) → frame q ≡ frame p → IsSound p → IsSound q
sound_by p q same sound = subst IsSoundFrame (sym same) sound

-- what is known of a sound state
pub few_letters : (p : Plain) → IsSound p → length p.letters ≤ 64
few_letters p sound = (let few = sound.messages in let same = length-map p.letters round_of in omega (arith, few, same))

pub round_in : (p : Plain) (m : ℕ) (l : Letter) → IsSound p → slice_get p.letters m ≡ Some l → l.word.round ≤ LAST_ROUND
round_in p m l sound at =
    let inside = slice_get_within p.letters m l at in
    let long = length-map p.letters round_of in
    let there : m < length (map round_of p.letters) = omega (arith, inside, long) in
    let here : get_or (map round_of p.letters) m l.word.round ≡ l.word.round = get_or-map round_of p.letters m l l.word.round inside ∙ ap round_of (get_or_from_slice_get p.letters m l l at) in
    let most : get_or (map round_of p.letters) m l.word.round ≤ LAST_ROUND = sound.rounds m l.word.round there in
    omega (arith, here, most)

threads_there : (p : Plain) (c : ℕ) → IsSound p → c < length p.cpus → length (cpu_at p c).threads ≤ 16
threads_there p c sound inside =
    let long = length-map p.cpus lists_of in
    let there : c < length (map lists_of p.cpus) = omega (arith, inside, long) in
    let here : get_or (map lists_of p.cpus) c no_lists ≡ lists_of (cpu_at p c) = get_or-map lists_of p.cpus c no_processor no_lists inside in
    let few : length (lists_of (cpu_at p c)).lists ≤ 16 = subst (λ (l : Lists). length l.lists ≤ 16) here (sound.each c no_lists there).few in
    let same = length-map (cpu_at p c).threads (λ (t : Thread). t.list) in
    omega (arith, few, same)

threads_past : (p : Plain) (c : ℕ) → length p.cpus ≤ c → length (cpu_at p c).threads ≤ 16
threads_past p c past =
    let none : cpu_at p c ≡ no_processor = get_or_past p.cpus c no_processor past in
    subst (λ (cpu : Processor). length cpu.threads ≤ 16) (sym none) (omega arith)

pub few_threads : (p : Plain) (c : ℕ) → IsSound p → length (cpu_at p c).threads ≤ 16
few_threads p c sound = elim (cases_lt c (length p.cpus)) [ inl inside ↦ threads_there p c sound inside | inr past ↦ threads_past p c past ]
