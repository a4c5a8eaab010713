-- The intake of mail doesn't tell states of one form apart.
use Rattle.std.proofs.Common.{◌≡◌, ℕ, zero, suc, List, [], ◌∷◌, length, get_or, set, map, ap, ◌∙◌, refl, sym, Option, Some, None, Bool, true, false}
use Rattle.std.specs.Prelude.{slice_get, slice_set, drop, if◌then◌else◌, fold, ◌==◌, option_map}
use Rattle.std.specs.Option.{option_map_or}
use Rattle.std.proofs.lemmas.List.{length-map, map-set}
use Rattle.std.proofs.lemmas.Option.{slice_get-map}
use Rattle.lwkt_base.specs.declared.names.MsgId.{MsgId}
use Rattle.lwkt_base.specs.declared.names.Ref.{Ref}
use Rattle.lwkt_base.specs.declared.asks.Item.{Item}
use Rattle.lwkt_core.specs.declared.tokens.Token.{Token}
use Rattle.lwkt_core.specs.Machine.{changed}
use Rattle.lwkt_plain.specs.declared.letters.Lane.{Lane}
use Rattle.lwkt_plain.specs.declared.letters.Letter.{Letter}
use Rattle.lwkt_plain.specs.declared.letters.Note.{Note}
use Rattle.lwkt_plain.specs.declared.letters.Port.{Port}
use Rattle.lwkt_plain.specs.declared.letters.TheConstants.{PORTS}
use Rattle.lwkt_plain.specs.declared.states.BusyAt.{BusyAt}
use Rattle.lwkt_plain.specs.declared.states.Phase.{Phase}
use Rattle.lwkt_plain.specs.declared.states.Phase.TheVariants.{Live, AwaitsItem, AwaitsReply, Exited, Faulted}
use Rattle.lwkt_plain.specs.declared.states.Plain.{Plain}
use Rattle.lwkt_plain.specs.declared.states.Processor.{Processor}
use Rattle.lwkt_plain.specs.declared.states.Thread.{Thread}
use Rattle.lwkt_plain.specs.declared.states.TheConstants.{TURN_NOTES, CLEARED_AT_ONCE}
use Rattle.lwkt_plain.specs.Forms.{kept_word, thread_by, cpu_by, plain_by, form, MailRespectsForms}
use Rattle.lwkt_plain.specs.Letters.{replied, come_home, handled, can_be_reaped, owed_by, answer_note, answer_of}
use Rattle.lwkt_plain.specs.Places.{cpu_at, thread_at, port_at, lane_at, no_processor, empty_lane, empty_port, with_cpu, with_lane, with_port, with_thread, with_letter, moved, pushed, has_room}
use Rattle.lwkt_plain.specs.Intakes.{below, moves_on, replies, pays_at, pays, pays_all, gets, hears_from, hears, is_sync_answer, has_space, queued, queues, comes_in, Intake, intake, without_first, keeps, receives, receives_from, receives_all, has_ended, is_closed, without_note, handles, first_note, clears_port, clears, clears_all, Looked, looked, shown_by, notes_in, looks_within, looks, wakes, wakes_at, wakes_all, takes_mail}
use Rattle.lwkt_plain.specs.Sound.{Frame}
use Rattle.lwkt_plain.proofs.Frames.{takes_mail_frame}
use Rattle.lwkt_plain.proofs.Receipts.{on_note, on_first, more, receives_zero, on_cleared, cleared, clears_zero, on_shown, on_served, within, within_zero}

-- other words for those of threads
abbrev pub Words : Type 0
Words = List Ref → Option BusyAt → Option BusyAt

-- what is done to a part, and to the part with other words
changed_map_at : {A : Type 0} (h f : A → A) → ((x : A) → h (f x) ≡ f (h x)) → (xs : List A) (i : ℕ) (o : Option A) → option_map_or (λ x. slice_set (map h xs) i (f x)) (option_map h o) (map h xs) ≡ map h (option_map_or (λ x. slice_set xs i (f x)) o xs)
changed_map_at h f same xs i None = refl
changed_map_at h f same xs i (Some x) = ap (λ y. set (map h xs) i y) (sym (same x)) ∙ sym (map-set h xs i (f x))

pub changed_map : {A : Type 0} (h f : A → A) → ((x : A) → h (f x) ≡ f (h x)) → (xs : List A) (i : ℕ) → changed f (map h xs) i ≡ map h (changed f xs i)
changed_map h f same xs i = ap (λ o. option_map_or (λ x. slice_set (map h xs) i (f x)) o (map h xs)) (slice_get-map h xs i) ∙ changed_map_at h f same xs i (slice_get xs i)

pub cpu_with : (g : Words) (f : Processor → Processor) → ((cpu : Processor) → cpu_by g (f cpu) ≡ f (cpu_by g cpu)) → (c : ℕ) (p : Plain) → with_cpu f c (plain_by g p) ≡ plain_by g (with_cpu f c p)
cpu_with g f same c p = ap (λ (cpus : List Processor). record p { cpus = cpus }) (changed_map (cpu_by g) f same p.cpus c)

pub lane_with : (g : Words) (f : Lane → Lane) (from to : ℕ) (p : Plain) → with_lane f from to (plain_by g p) ≡ plain_by g (with_lane f from to p)
lane_with g f from to p = refl

pub port_with : (g : Words) (f : Port → Port) (c k : ℕ) (p : Plain) → with_port f c k (plain_by g p) ≡ plain_by g (with_port f c k p)
port_with g f c k p = refl

pub thread_with : (g : Words) (f : Thread → Thread) → ((t : Thread) → thread_by g (f t) ≡ f (thread_by g t)) → (c k : ℕ) (p : Plain) → with_thread f c k (plain_by g p) ≡ plain_by g (with_thread f c k p)
thread_with g f same c k p =
    cpu_with g (λ (cpu : Processor). record cpu { threads = changed f cpu.threads k })
    (λ cpu. ap (λ (threads : List Thread). record cpu { threads = threads }) (sym (changed_map (thread_by g) f same cpu.threads k))) c p

-- the parts of a state with other words
get_or_map : {A : Type 0} (h : A → A) (d : A) → h d ≡ d → (xs : List A) (i : ℕ) → get_or (map h xs) i d ≡ h (get_or xs i d)
get_or_map h d same [] i = sym same
get_or_map h d same (x ∷ xs) zero = refl
get_or_map h d same (x ∷ xs) (suc i) = get_or_map h d same xs i

pub cpu_at_by : (g : Words) (p : Plain) (c : ℕ) → cpu_at (plain_by g p) c ≡ cpu_by g (cpu_at p c)
cpu_at_by g p c = get_or_map (cpu_by g) no_processor refl p.cpus c

pub lane_at_by : (g : Words) (p : Plain) (s c : ℕ) → lane_at (plain_by g p) s c ≡ lane_at p s c
lane_at_by g p s c = refl

pub port_at_by : (g : Words) (p : Plain) (c k : ℕ) → port_at (plain_by g p) c k ≡ port_at p c k
port_at_by g p c k = refl

pub thread_at_by : (g : Words) (p : Plain) (c k : ℕ) → thread_at (plain_by g p) c k ≡ option_map (thread_by g) (thread_at p c k)
thread_at_by g p c k = ap (λ (cpu : Processor). slice_get cpu.threads k) (cpu_at_by g p c) ∙ slice_get-map (thread_by g) (cpu_at p c).threads k

-- choices, and folds
pub fold_by : {B : Type 0} (h : B → B) (f : B → ℕ → B) → ((b : B) (n : ℕ) → f (h b) n ≡ h (f b n)) → (z : B) (xs : List ℕ) → fold f (h z) xs ≡ h (fold f z xs)
fold_by h f same z [] = refl
fold_by h f same z (x ∷ xs) = ap (λ b. fold f b xs) (same z x) ∙ fold_by h f same (f z x) xs

pub if_by : {A B : Type 0} (h : A → B) (b : Bool) (x y : A) (v w : B) → v ≡ h x → w ≡ h y → (if b then v else w) ≡ h (if b then x else y)
if_by h true x y v w one other = one
if_by h false x y v w one other = other

pub or_by : {A B C : Type 0} (h : B → C) (f : A → B) (e : A → C) (o : Option A) (x : B) (v : C) → ((a : A) → e a ≡ h (f a)) → v ≡ h x → option_map_or e o v ≡ h (option_map_or f o x)
or_by h f e None x v some none = none
or_by h f e (Some a) x v some none = some a

-- notes that move on, and replies that are paid
moves_on_by : (g : Words) (c : ℕ) (p : Plain) → moves_on c (plain_by g p) ≡ plain_by g (moves_on c p)
unfolding moves_on
moves_on_by g c p =
    let step : Plain → ℕ → Plain = λ now to. with_lane moved c to now in
    ap (λ n. fold step (plain_by g p) (below n)) (length-map p.cpus (cpu_by g)) ∙ fold_by (plain_by g) step (λ now to. lane_with g moved c to now) p (below (length p.cpus))

pub replies_by : (g : Words) (c : ℕ) (msg : MsgId) (error outcome : ℕ) (l : Letter) (p : Plain) → replies c msg error outcome l (plain_by g p) ≡ plain_by g (replies c msg error outcome l p)
replies_by g c msg error outcome l p = lane_with g (λ lane. pushed (answer_note msg l) (moved lane)) c l.origin.cpu.0 (with_letter (replied error outcome) msg.0 p)

pays_at_by : (g : Words) (c : ℕ) (p : Plain) (msg : MsgId) (l : Letter) → pays_at c (plain_by g p) msg l ≡ plain_by g (pays_at c p msg l)
pays_at_by g c p msg l =
    let q = plain_by g p in
    or_by (plain_by g) (λ error. if has_room (lane_at p c l.origin.cpu.0) then replies c msg error 0 l p else p) (λ error. if has_room (lane_at q c l.origin.cpu.0) then replies c msg error 0 l q else q)
    (owed_by c l) p q
    (λ error. ap (λ (lane : Lane). if has_room lane then replies c msg error 0 l q else q) (lane_at_by g p c l.origin.cpu.0)
    ∙ if_by (plain_by g) (has_room (lane_at p c l.origin.cpu.0)) (replies c msg error 0 l p) p (replies c msg error 0 l q) q (replies_by g c msg error 0 l p) refl)
    refl

pays_by : (g : Words) (c : ℕ) (p : Plain) (m : ℕ) → pays c (plain_by g p) m ≡ plain_by g (pays c p m)
pays_by g c p m =
    let msg : MsgId = record { 0 = m } in
    or_by (plain_by g) (pays_at c p msg) (pays_at c (plain_by g p) msg) (slice_get p.letters m) p (plain_by g p) (pays_at_by g c p msg) refl

pays_all_by : (g : Words) (c : ℕ) (p : Plain) → pays_all c (plain_by g p) ≡ plain_by g (pays_all c p)
unfolding pays_all
pays_all_by g c p = fold_by (plain_by g) (pays c) (pays_by g c) p (below (length p.letters))

-- a note that comes in
heard_by : (g : Words) (phase : Phase) (msg : MsgId) (l : Letter) (t : Thread) → hears_from phase msg l (thread_by g t) ≡ thread_by g (hears_from phase msg l t)
heard_by g Live msg l t = refl
heard_by g AwaitsItem msg l t = refl
heard_by g (AwaitsReply own) msg l t = if_by (thread_by g) (own.0 == msg.0) (gets (answer_of msg l) t) t (gets (answer_of msg l) (thread_by g t)) (thread_by g t) refl refl
heard_by g Exited msg l t = refl
heard_by g (Faulted fault) msg l t = refl

hears_by : (g : Words) (c : ℕ) (note : Note) (l : Letter) (p : Plain) → hears c note l (plain_by g p) ≡ plain_by g (hears c note l p)
hears_by g c note l p =
    let home = with_letter come_home note.msg.0 p in
    let step : Thread → Thread = λ t. hears_from t.phase note.msg l t in
    if_by (plain_by g) (can_be_reaped c note l) (with_thread step c note.port home) p (with_thread step c note.port (plain_by g home)) (plain_by g p)
    (thread_with g step (λ t. sym (heard_by g t.phase note.msg l t)) c note.port home) refl

queues_by : (g : Words) (c : ℕ) (note : Note) (p : Plain) → queues c note (plain_by g p) ≡ option_map (plain_by g) (queues c note p)
queues_by g c note p =
    let q = plain_by g p in
    ap (λ (port : Port). if has_space note port then Some (with_port (queued note) c note.port q) else None) (port_at_by g p c note.port)
    ∙ if_by (option_map (plain_by g)) (has_space note (port_at p c note.port)) (Some (with_port (queued note) c note.port p)) None (Some (with_port (queued note) c note.port q)) None
    (ap (λ (x : Plain). Some x) (port_with g (queued note) c note.port p)) refl

comes_in_by : (g : Words) (c : ℕ) (note : Note) (p : Plain) → comes_in c note (plain_by g p) ≡ option_map (plain_by g) (comes_in c note p)
comes_in_by g c note p =
    let q = plain_by g p in
    or_by (option_map (plain_by g)) (λ l. if is_sync_answer note.kind l then Some (hears c note l p) else queues c note p) (λ l. if is_sync_answer note.kind l then Some (hears c note l q) else queues c note q)
    (slice_get p.letters note.msg.0) (Some p) (Some q)
    (λ l. if_by (option_map (plain_by g)) (is_sync_answer note.kind l) (Some (hears c note l p)) (queues c note p) (Some (hears c note l q)) (queues c note q)
    (ap (λ (x : Plain). Some x) (hears_by g c note l p)) (queues_by g c note p))
    refl

-- notes that are received
abbrev intake_by : Words → Intake → Intake
intake_by g i = intake i.left (plain_by g i.plain)

note_by : (g : Words) (c s m : ℕ) (p : Plain) (note : Note) → ((q : Plain) → receives c s m (plain_by g q) ≡ intake_by g (receives c s m q)) → (o : Option Plain) → on_note c s m (plain_by g p) note (option_map (plain_by g) o) ≡ intake_by g (on_note c s m p note o)
note_by g c s m p note ih None =
    ap (λ (q : Plain). intake m (keeps (Some note) s c q)) (lane_with g (λ (lane : Lane). record lane { queue = drop 1 lane.queue }) s c p)
    ∙ ap (λ (q : Plain). intake m q) (lane_with g (λ (lane : Lane). record lane { kept = Some note }) s c (without_first s c p))
note_by g c s m p note ih (Some next) = ih next

first_by : (g : Words) (c s m : ℕ) (p : Plain) → ((q : Plain) → receives c s m (plain_by g q) ≡ intake_by g (receives c s m q)) → (o : Option Note) → on_first c s m (plain_by g p) o ≡ intake_by g (on_first c s m p o)
first_by g c s m p ih None = refl
first_by g c s m p ih (Some note) =
    ap (λ (q : Plain). on_note c s m (plain_by g p) note (comes_in c note q)) (lane_with g (λ (lane : Lane). record lane { queue = drop 1 lane.queue }) s c p)
    ∙ ap (λ (o : Option Plain). on_note c s m (plain_by g p) note o) (comes_in_by g c note (without_first s c p))
    ∙ note_by g c s m p note ih (comes_in c note (without_first s c p))

receives_by : (n : ℕ) (g : Words) (c s : ℕ) (p : Plain) → receives c s n (plain_by g p) ≡ intake_by g (receives c s n p)
receives_by zero g c s p = receives_zero c s (plain_by g p) ∙ sym (ap (intake_by g) (receives_zero c s p))
receives_by (suc m) g c s p =
    more c s (suc m) m (plain_by g p) refl
    ∙ ap (λ (lane : Lane). on_first c s m (plain_by g p) (slice_get lane.queue 0)) (lane_at_by g p s c)
    ∙ first_by g c s m p (receives_by m g c s) (slice_get (lane_at p s c).queue 0)
    ∙ sym (ap (intake_by g) (more c s (suc m) m p refl))

came_by : (g : Words) (c s : ℕ) (i : Intake) (o : Option Plain) → option_map_or (λ next. receives c s i.left (keeps None s c next)) (option_map (plain_by g) o) (intake_by g i) ≡ intake_by g (option_map_or (λ next. receives c s i.left (keeps None s c next)) o i)
came_by g c s i None = refl
came_by g c s i (Some next) =
    ap (λ (q : Plain). receives c s i.left q) (lane_with g (λ (lane : Lane). record lane { kept = None }) s c next) ∙ receives_by i.left g c s (keeps None s c next)

from_by : (g : Words) (c : ℕ) (i : Intake) (s : ℕ) → receives_from c (intake_by g i) s ≡ intake_by g (receives_from c i s)
from_by g c i s =
    let q = plain_by g i.plain in
    let step : Note → Intake = λ note. option_map_or (λ next. receives c s i.left (keeps None s c next)) (comes_in c note q) (intake_by g i) in
    ap (λ (lane : Lane). option_map_or step lane.kept (receives c s i.left q)) (lane_at_by g i.plain s c)
    ∙ or_by (intake_by g) (λ note. option_map_or (λ next. receives c s i.left (keeps None s c next)) (comes_in c note i.plain) i) step (lane_at i.plain s c).kept (receives c s i.left i.plain) (receives c s i.left q)
    (λ note. ap (λ (o : Option Plain). option_map_or (λ next. receives c s i.left (keeps None s c next)) o (intake_by g i)) (comes_in_by g c note i.plain) ∙ came_by g c s i (comes_in c note i.plain))
    (receives_by i.left g c s i.plain)

receives_all_by : (g : Words) (c : ℕ) (p : Plain) → receives_all c (plain_by g p) ≡ plain_by g (receives_all c p)
unfolding receives_all
receives_all_by g c p =
    ap (λ n. (fold (receives_from c) (intake TURN_NOTES (plain_by g p)) (below n)).plain) (length-map p.cpus (cpu_by g))
    ∙ ap (λ (i : Intake). i.plain) (fold_by (intake_by g) (receives_from c) (from_by g c) (intake TURN_NOTES p) (below (length p.cpus)))

-- ports that are cleared
pub handles_by : (g : Words) (c k : ℕ) (th : Option ℕ) (note : Note) (p : Plain) → handles c k th note (plain_by g p) ≡ plain_by g (handles c k th note p)
handles_by g c k th note p = ap (λ (q : Plain). with_letter (handled c th note) note.msg.0 q) (port_with g without_note c k p)

cleared_by : (g : Words) (c k m : ℕ) (p : Plain) → ((q : Plain) → clears_port c k m (plain_by g q) ≡ intake_by g (clears_port c k m q)) → (o : Option Note) → on_cleared c k m (plain_by g p) o ≡ intake_by g (on_cleared c k m p o)
cleared_by g c k m p ih None = refl
cleared_by g c k m p ih (Some note) = ap (λ (q : Plain). clears_port c k m q) (handles_by g c k None note p) ∙ ih (handles c k None note p)

clears_port_by : (n : ℕ) (g : Words) (c k : ℕ) (p : Plain) → clears_port c k n (plain_by g p) ≡ intake_by g (clears_port c k n p)
clears_port_by zero g c k p = clears_zero c k (plain_by g p) ∙ sym (ap (intake_by g) (clears_zero c k p))
clears_port_by (suc m) g c k p =
    cleared c k (suc m) m (plain_by g p) refl
    ∙ ap (λ (port : Port). on_cleared c k m (plain_by g p) (first_note port)) (port_at_by g p c k)
    ∙ cleared_by g c k m p (clears_port_by m g c k) (first_note (port_at p c k))
    ∙ sym (ap (intake_by g) (cleared c k (suc m) m p refl))

closed_by : (g : Words) (o : Option Thread) → option_map_or (λ (t : Thread). has_ended t.phase) (option_map (thread_by g) o) true ≡ option_map_or (λ (t : Thread). has_ended t.phase) o true
closed_by g None = refl
closed_by g (Some t) = refl

is_closed_by : (g : Words) (c k : ℕ) (p : Plain) → is_closed c k (plain_by g p) ≡ is_closed c k p
is_closed_by g c k p = ap (λ (o : Option Thread). option_map_or (λ (t : Thread). has_ended t.phase) o true) (thread_at_by g p c k) ∙ closed_by g (thread_at p c k)

clears_by : (g : Words) (c : ℕ) (i : Intake) (k : ℕ) → clears c (intake_by g i) k ≡ intake_by g (clears c i k)
clears_by g c i k =
    let q = plain_by g i.plain in
    ap (λ (b : Bool). if b then clears_port c k i.left q else intake_by g i) (is_closed_by g c k i.plain)
    ∙ if_by (intake_by g) (is_closed c k i.plain) (clears_port c k i.left i.plain) i (clears_port c k i.left q) (intake_by g i) (clears_port_by i.left g c k i.plain) refl

clears_all_by : (g : Words) (c : ℕ) (p : Plain) → clears_all c (plain_by g p) ≡ plain_by g (clears_all c p)
unfolding clears_all
clears_all_by g c p = ap (λ (i : Intake). i.plain) (fold_by (intake_by g) (clears c) (clears_by g c) (intake CLEARED_AT_ONCE p) (below PORTS))

-- a port that is looked at
abbrev pub looked_by : Words → Looked → Looked
looked_by g x = looked (plain_by g x.plain) x.item

show_by : (g : Words) (c k m : ℕ) (p : Plain) (note : Note) → ((q : Plain) → looks_within m c k (plain_by g q) ≡ looked_by g (looks_within m c k q)) → (o : Option Item) → on_shown c k m (plain_by g p) note o ≡ looked_by g (on_shown c k m p note o)
show_by g c k m p note ih None = ap (λ (q : Plain). looks_within m c k q) (handles_by g c k (Some k) note p) ∙ ih (handles c k (Some k) note p)
show_by g c k m p note ih (Some item) = ap (λ (q : Plain). looked q (Some item)) (handles_by g c k (Some k) note p)

served_by : (g : Words) (c k m : ℕ) (p : Plain) → ((q : Plain) → looks_within m c k (plain_by g q) ≡ looked_by g (looks_within m c k q)) → (o : Option Note) → on_served c k m (plain_by g p) o ≡ looked_by g (on_served c k m p o)
served_by g c k m p ih None = refl
served_by g c k m p ih (Some note) = show_by g c k m p note ih (shown_by c note p)

looks_within_by : (n : ℕ) (g : Words) (c k : ℕ) (p : Plain) → looks_within n c k (plain_by g p) ≡ looked_by g (looks_within n c k p)
looks_within_by zero g c k p = within_zero c k (plain_by g p) ∙ sym (ap (looked_by g) (within_zero c k p))
looks_within_by (suc m) g c k p =
    within (suc m) m c k (plain_by g p) refl
    ∙ ap (λ (port : Port). on_served c k m (plain_by g p) (first_note port)) (port_at_by g p c k)
    ∙ served_by g c k m p (looks_within_by m g c k) (first_note (port_at p c k))
    ∙ sym (ap (looked_by g) (within (suc m) m c k p refl))

pub looks_by : (g : Words) (c k : ℕ) (p : Plain) → looks c k (plain_by g p) ≡ looked_by g (looks c k p)
looks_by g c k p = ap (λ (port : Port). looks_within (notes_in port) c k (plain_by g p)) (port_at_by g p c k) ∙ looks_within_by (notes_in (port_at p c k)) g c k p

-- a thread that is woken up
got_by : (g : Words) (c k : ℕ) (x : Looked) → option_map_or (λ item. with_thread (gets item) c k (plain_by g x.plain)) x.item (plain_by g x.plain) ≡ plain_by g (option_map_or (λ item. with_thread (gets item) c k x.plain) x.item x.plain)
got_by g c k x =
    or_by (plain_by g) (λ item. with_thread (gets item) c k x.plain) (λ item. with_thread (gets item) c k (plain_by g x.plain)) x.item x.plain (plain_by g x.plain)
    (λ item. thread_with g (gets item) (λ t. refl) c k x.plain) refl

wakes_by : (phase : Phase) (g : Words) (c k : ℕ) (p : Plain) → wakes c k (plain_by g p) phase ≡ plain_by g (wakes c k p phase)
wakes_by Live g c k p = refl
wakes_by AwaitsItem g c k p = ap (λ (now : Looked). option_map_or (λ item. with_thread (gets item) c k now.plain) now.item now.plain) (looks_by g c k p) ∙ got_by g c k (looks c k p)
wakes_by (AwaitsReply msg) g c k p = refl
wakes_by Exited g c k p = refl
wakes_by (Faulted fault) g c k p = refl

woken_by : (g : Words) (c k : ℕ) (p : Plain) (o : Option Thread) → option_map_or (λ (t : Thread). wakes c k (plain_by g p) t.phase) (option_map (thread_by g) o) (plain_by g p) ≡ plain_by g (option_map_or (λ (t : Thread). wakes c k p t.phase) o p)
woken_by g c k p None = refl
woken_by g c k p (Some t) = wakes_by t.phase g c k p

wakes_at_by : (g : Words) (c : ℕ) (p : Plain) (k : ℕ) → wakes_at c (plain_by g p) k ≡ plain_by g (wakes_at c p k)
wakes_at_by g c p k =
    ap (λ (o : Option Thread). option_map_or (λ (t : Thread). wakes c k (plain_by g p) t.phase) o (plain_by g p)) (thread_at_by g p c k) ∙ woken_by g c k p (thread_at p c k)

wakes_all_by : (g : Words) (c : ℕ) (p : Plain) → wakes_all c (plain_by g p) ≡ plain_by g (wakes_all c p)
unfolding wakes_all
wakes_all_by g c p =
    let long : length (cpu_at (plain_by g p) c).threads ≡ length (cpu_at p c).threads = ap (λ (cpu : Processor). length cpu.threads) (cpu_at_by g p c) ∙ length-map (cpu_at p c).threads (thread_by g) in
    ap (λ n. fold (wakes_at c) (plain_by g p) (below n)) long ∙ fold_by (plain_by g) (wakes_at c) (wakes_at_by g c) p (below (length (cpu_at p c).threads))

-- all of it
pub takes_mail_by : (g : Words) (c : ℕ) (p : Plain) → takes_mail c (plain_by g p) ≡ plain_by g (takes_mail c p)
takes_mail_by g c p =
    let a = moves_on c p in
    let b = pays_all c a in
    let d = receives_all c b in
    ap (λ (q : Plain). wakes_all c (clears_all c (receives_all c (pays_all c q)))) (moves_on_by g c p)
    ∙ ap (λ (q : Plain). wakes_all c (clears_all c (receives_all c q))) (pays_all_by g c a)
    ∙ ap (λ (q : Plain). wakes_all c (clears_all c q)) (receives_all_by g c b)
    ∙ ap (λ (q : Plain). wakes_all c q) (clears_all_by g c d)
    ∙ wakes_all_by g c (clears_all c d)

pub mail_forms : MailRespectsForms
mail_forms p c =
    let same : (takes_mail c p).tokens ≡ p.tokens = ap (λ (f : Frame). f.tokens) (takes_mail_frame c p) in
    takes_mail_by (kept_word p.tokens) c p ∙ ap (λ (tokens : List Token). plain_by (kept_word tokens) (takes_mail c p)) (sym same)
