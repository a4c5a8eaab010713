-- The intake of a processor's mail leaves the others as they are, and of their mail all but its own lane.
use Rattle.std.proofs.Common.{◌≡◌, ℕ, zero, suc, List, length, get_or, set, ap, ◌∙◌, refl, sym, Option, Some, None, Bool, true, false, ◌<◌, inl, inr, arith, length-set}
use Rattle.std.specs.Prelude.{slice_get, slice_set, drop, IfSome, if◌then◌else◌}
use Rattle.std.specs.Option.{option_map_or}
use Rattle.std.proofs.lemmas.List.{get_or-set_same, get_or-set_other, set-set}
use Rattle.std.proofs.lemmas.Bool.{cases_eq}
use Rattle.std.proofs.lemmas.Option.{slice_get-get_or, get_or_from_slice_get, slice_get_within}
use Rattle.lwkt_base.specs.declared.names.MsgId.{MsgId}
use Rattle.lwkt_base.specs.declared.asks.Item.{Item}
use Rattle.lwkt_core.specs.Machine.{changed}
use Rattle.lwkt_plain.specs.declared.letters.Lane.{Lane}
use Rattle.lwkt_plain.specs.declared.letters.Letter.{Letter}
use Rattle.lwkt_plain.specs.declared.letters.Note.{Note}
use Rattle.lwkt_plain.specs.declared.letters.Port.{Port}
use Rattle.lwkt_plain.specs.declared.letters.TheConstants.{PORTS}
use Rattle.lwkt_plain.specs.declared.states.Mail.{Mail}
use Rattle.lwkt_plain.specs.declared.states.Phase.{Phase}
use Rattle.lwkt_plain.specs.declared.states.Phase.TheVariants.{Live, AwaitsItem, AwaitsReply, Exited, Faulted}
use Rattle.lwkt_plain.specs.declared.states.Plain.{Plain}
use Rattle.lwkt_plain.specs.declared.states.Processor.{Processor}
use Rattle.lwkt_plain.specs.declared.states.Thread.{Thread}
use Rattle.lwkt_plain.specs.declared.states.TheConstants.{TURN_NOTES, CLEARED_AT_ONCE}
use Rattle.lwkt_plain.specs.Letters.{replied, come_home, handled, owed_by, answer_note, can_be_reaped}
use Rattle.lwkt_plain.specs.Others.{mail_but}
use Rattle.lwkt_plain.specs.Places.{cpu_at, mail_at, thread_at, port_at, lane_at, empty_lane, no_mail, no_processor, with_cpu, with_mail, with_lane, with_port, with_thread, with_letter, moved, pushed, has_room}
use Rattle.lwkt_plain.specs.Intakes.{below, moves_on, replies, pays_at, pays, pays_all, gets, hears_from, hears, is_sync_answer, has_space, queued, queues, comes_in, Intake, intake, without_first, keeps, receives, receives_from, receives_all, is_closed, without_note, handles, first_note, clears_port, clears, clears_all, Looked, looked, shown_by, notes_in, looks_within, looks, wakes, wakes_at, wakes_all, takes_mail}
use Rattle.lwkt_plain.proofs.Changes.{changed_in}
use Rattle.lwkt_plain.proofs.Folds.{fold_keeps}
use Rattle.lwkt_plain.proofs.Receipts.{on_note, on_first, more, receives_zero, on_cleared, cleared, clears_zero, on_shown, on_served, within, within_zero}

-- what a turn of a processor leaves of another
abbrev pub other : ℕ → ℕ → Plain → Processor × Mail
other c j p = (cpu_at p j, mail_but c (mail_at p j))

-- another element than the one that was changed
other_by : {A : Type 0} (f : A → A) (xs : List A) (i j : ℕ) (d : A) → (j ≡ i → ⊥) → (o : Option A) → get_or (option_map_or (λ y. slice_set xs i (f y)) o xs) j d ≡ get_or xs j d
other_by f xs i j d apart None = refl
other_by f xs i j d apart (Some x) = get_or-set_other xs i j (f x) d apart

pub get_or_other : {A : Type 0} (f : A → A) (xs : List A) (i j : ℕ) (d : A) → (j ≡ i → ⊥) → get_or (changed f xs i) j d ≡ get_or xs j d
get_or_other f xs i j d apart = other_by f xs i j d apart (slice_get xs i)

-- changed, and then put out of sight
hidden_by : {A : Type 0} (f : A → A) (e : A) (xs : List A) (i : ℕ) (o : Option A) → slice_get xs i ≡ o → changed (λ x. e) (option_map_or (λ y. slice_set xs i (f y)) o xs) i ≡ changed (λ x. e) xs i
hidden_by f e xs i None at = refl
hidden_by {A} f e xs i (Some x) at =
    let inside = slice_get_within xs i x at in
    let now : slice_get (set xs i (f x)) i ≡ Some (f x) = slice_get_of_set xs i (f x) inside in
    changed_in (λ y. e) (set xs i (f x)) i (f x) now ∙ set-set xs i (f x) e ∙ sym (changed_in (λ y. e) xs i x at)
  where
    slice_get_of_set : (ys : List A) (k : ℕ) (y : A) → k < length ys → slice_get (set ys k y) k ≡ Some y
    slice_get_of_set ys k y there =
        let long = length-set ys k y in
        slice_get-get_or (set ys k y) k y (omega (arith, there, long)) ∙ ap Some (get_or-set_same ys k y y there)

hidden : {A : Type 0} (f : A → A) (e : A) (xs : List A) (i : ℕ) → changed (λ x. e) (changed f xs i) i ≡ changed (λ x. e) xs i
hidden f e xs i = hidden_by f e xs i (slice_get xs i) refl

-- changes of the processor, of its mail, of a lane from it, and of messages
pub other_cpu : (f : Processor → Processor) (c j : ℕ) (p : Plain) → (j ≡ c → ⊥) → other c j (with_cpu f c p) ≡ other c j p
other_cpu f c j p apart = ap (λ cpu. (cpu, mail_but c (mail_at p j))) (get_or_other f p.cpus c j no_processor apart)

pub other_thread : (f : Thread → Thread) (c j k : ℕ) (p : Plain) → (j ≡ c → ⊥) → other c j (with_thread f c k p) ≡ other c j p
other_thread f c j k p apart = other_cpu (λ (cpu : Processor). record cpu { threads = changed f cpu.threads k }) c j p apart

other_mail : (f : Mail → Mail) (c j : ℕ) (p : Plain) → (j ≡ c → ⊥) → other c j (with_mail f c p) ≡ other c j p
other_mail f c j p apart = ap (λ mail. (cpu_at p j, mail_but c mail)) (get_or_other f p.mails c j no_mail apart)

pub other_in : (f : Lane → Lane) (s c j : ℕ) (p : Plain) → (j ≡ c → ⊥) → other c j (with_lane f s c p) ≡ other c j p
other_in f s c j p apart = other_mail (λ (mail : Mail). record mail { lanes = changed f mail.lanes s }) c j p apart

pub other_port : (f : Port → Port) (c j k : ℕ) (p : Plain) → (j ≡ c → ⊥) → other c j (with_port f c k p) ≡ other c j p
other_port f c j k p apart = other_mail (λ (mail : Mail). record mail { ports = changed f mail.ports k }) c j p apart

pub other_letter : (f : Letter → Letter) (c j m : ℕ) (p : Plain) → other c j (with_letter f m p) ≡ other c j p
other_letter f c j m p = refl

-- a mail that is changed in that lane
out_by : (f : Mail → Mail) (c to j : ℕ) (mails : List Mail) → ((mail : Mail) → mail_but c (f mail) ≡ mail_but c mail) → (o : Option Mail) → slice_get mails to ≡ o
    → mail_but c (get_or (option_map_or (λ y. slice_set mails to (f y)) o mails) j no_mail) ≡ mail_but c (get_or mails j no_mail)
out_by f c to j mails same None at = refl
out_by f c to j mails same (Some x) at = elim (cases_eq j to) [
  | inl here ↦
      let inside = slice_get_within mails to x at in
      let now : get_or (set mails to (f x)) to no_mail ≡ f x = get_or-set_same mails to (f x) no_mail inside in
      let was : get_or mails to no_mail ≡ x = get_or_from_slice_get mails to x no_mail at in
      ap (λ (n : ℕ). mail_but c (get_or (set mails to (f x)) n no_mail)) here ∙ ap (mail_but c) now ∙ same x ∙ ap (mail_but c) (sym was) ∙ ap (λ (n : ℕ). mail_but c (get_or mails n no_mail)) (sym here)
  | inr apart ↦ ap (mail_but c) (get_or-set_other mails to j (f x) no_mail apart)
]

pub other_out : (f : Lane → Lane) (c to j : ℕ) (p : Plain) → other c j (with_lane f c to p) ≡ other c j p
other_out f c to j p =
    let g : Mail → Mail = λ mail. record mail { lanes = changed f mail.lanes c } in
    ap (λ mail. (cpu_at p j, mail)) (out_by g c to j p.mails (λ mail. ap (λ lanes. record mail { lanes = lanes }) (hidden f empty_lane mail.lanes c)) (slice_get p.mails to) refl)

-- one of two states
pub other_if : (b : Bool) (c j : ℕ) (x y p : Plain) → other c j x ≡ other c j p → other c j y ≡ other c j p → other c j (if b then x else y) ≡ other c j p
other_if true c j x y p one two = one
other_if false c j x y p one two = two

pub other_or : {A : Type 0} (f : A → Plain) (o : Option A) (d : Plain) (c j : ℕ) (p : Plain) → ((a : A) → other c j (f a) ≡ other c j p) → other c j d ≡ other c j p → other c j (option_map_or f o d) ≡ other c j p
other_or f None d c j p some none = none
other_or f (Some a) d c j p some none = some a

moves_on_other : (c j : ℕ) (p : Plain) → other c j (moves_on c p) ≡ other c j p
unfolding moves_on
moves_on_other c j p = fold_keeps (other c j) (λ now to. with_lane moved c to now) (λ now to. other_out moved c to j now) p (below (length p.cpus))

pub replies_other : (c j : ℕ) (msg : MsgId) (error outcome : ℕ) (l : Letter) (p : Plain) → other c j (replies c msg error outcome l p) ≡ other c j p
replies_other c j msg error outcome l p =
    other_out (λ lane. pushed (answer_note msg l) (moved lane)) c l.origin.cpu.0 j (with_letter (replied error outcome) msg.0 p)

pays_at_other : (c j : ℕ) (p : Plain) (msg : MsgId) (l : Letter) → other c j (pays_at c p msg l) ≡ other c j p
pays_at_other c j p msg l =
    other_or (λ error. if has_room (lane_at p c l.origin.cpu.0) then replies c msg error 0 l p else p) (owed_by c l) p c j p
    (λ error. other_if (has_room (lane_at p c l.origin.cpu.0)) c j (replies c msg error 0 l p) p p (replies_other c j msg error 0 l p) refl) refl

pays_other : (c j : ℕ) (p : Plain) (m : ℕ) → other c j (pays c p m) ≡ other c j p
pays_other c j p m = other_or (pays_at c p (record { 0 = m })) (slice_get p.letters m) p c j p (pays_at_other c j p (record { 0 = m })) refl

pays_all_other : (c j : ℕ) (p : Plain) → other c j (pays_all c p) ≡ other c j p
unfolding pays_all
pays_all_other c j p = fold_keeps (other c j) (pays c) (pays_other c j) p (below (length p.letters))

-- a reply that is heard
hears_other : (c j : ℕ) (note : Note) (l : Letter) (p : Plain) → (j ≡ c → ⊥) → other c j (hears c note l p) ≡ other c j p
hears_other c j note l p apart =
    let home = with_letter come_home note.msg.0 p in
    other_if (can_be_reaped c note l) c j (with_thread (λ t. hears_from t.phase note.msg l t) c note.port home) p p
    (other_thread (λ t. hears_from t.phase note.msg l t) c j note.port home apart) refl

-- a note that comes in
abbrev Leaves : ℕ → ℕ → Plain → Option Plain → Type 0
Leaves c j p o = IfSome o (λ q. other c j q ≡ other c j p)

queued_left : (b : Bool) (c j : ℕ) (note : Note) (p : Plain) → (j ≡ c → ⊥) → Leaves c j p (if b then Some (with_port (queued note) c note.port p) else None)
queued_left true c j note p apart = other_port (queued note) c j note.port p apart
queued_left false c j note p apart = tt {0}

came_left : (b : Bool) (c j : ℕ) (note : Note) (l : Letter) (p : Plain) → (j ≡ c → ⊥) → Leaves c j p (if b then Some (hears c note l p) else queues c note p)
came_left true c j note l p apart = hears_other c j note l p apart
came_left false c j note l p apart = queued_left (has_space note (port_at p c note.port)) c j note p apart

comes_left : (c j : ℕ) (note : Note) (p : Plain) → (j ≡ c → ⊥) → Leaves c j p (comes_in c note p)
comes_left c j note p apart = go (slice_get p.letters note.msg.0)
  where
    go : (o : Option Letter) → Leaves c j p (option_map_or (λ l. if is_sync_answer note.kind l then Some (hears c note l p) else queues c note p) o (Some p))
    go None = refl
    go (Some l) = came_left (is_sync_answer note.kind l) c j note l p apart

-- notes that are received
note_other : (c s m j : ℕ) (p : Plain) (note : Note) → (j ≡ c → ⊥) → ((q : Plain) → other c j (receives c s m q).plain ≡ other c j q) → (o : Option Plain) → Leaves c j (without_first s c p) o → other c j (on_note c s m p note o).plain ≡ other c j p
note_other c s m j p note apart ih None left =
    other_in (λ (lane : Lane). record lane { kept = Some note }) s c j (without_first s c p) apart ∙ other_in (λ (lane : Lane). record lane { queue = drop 1 lane.queue }) s c j p apart
note_other c s m j p note apart ih (Some next) left = ih next ∙ left ∙ other_in (λ (lane : Lane). record lane { queue = drop 1 lane.queue }) s c j p apart

first_other : (c s m j : ℕ) (p : Plain) → (j ≡ c → ⊥) → ((q : Plain) → other c j (receives c s m q).plain ≡ other c j q) → (o : Option Note) → other c j (on_first c s m p o).plain ≡ other c j p
first_other c s m j p apart ih None = refl
first_other c s m j p apart ih (Some note) = note_other c s m j p note apart ih (comes_in c note (without_first s c p)) (comes_left c j note (without_first s c p) apart)

receives_other : (n c s j : ℕ) → (j ≡ c → ⊥) → (p : Plain) → other c j (receives c s n p).plain ≡ other c j p
receives_other zero c s j apart p = ap (λ (i : Intake). other c j i.plain) (receives_zero c s p)
receives_other (suc m) c s j apart p =
    ap (λ (i : Intake). other c j i.plain) (more c s (suc m) m p refl) ∙ first_other c s m j p apart (receives_other m c s j apart) (slice_get (lane_at p s c).queue 0)

from_other : (c j s : ℕ) (i : Intake) → (j ≡ c → ⊥) → other c j (receives_from c i s).plain ≡ other c j i.plain
from_other c j s i apart = go (lane_at i.plain s c).kept
  where
    after : (note : Note) (o : Option Plain) → Leaves c j i.plain o → other c j (option_map_or (λ next. receives c s i.left (keeps None s c next)) o i).plain ≡ other c j i.plain
    after note None left = refl
    after note (Some next) left = receives_other i.left c s j apart (keeps None s c next) ∙ other_in (λ (lane : Lane). record lane { kept = None }) s c j next apart ∙ left

    go : (o : Option Note) → other c j (option_map_or (λ note. option_map_or (λ next. receives c s i.left (keeps None s c next)) (comes_in c note i.plain) i) o (receives c s i.left i.plain)).plain ≡ other c j i.plain
    go None = receives_other i.left c s j apart i.plain
    go (Some note) = after note (comes_in c note i.plain) (comes_left c j note i.plain apart)

receives_all_other : (c j : ℕ) (p : Plain) → (j ≡ c → ⊥) → other c j (receives_all c p) ≡ other c j p
unfolding receives_all
receives_all_other c j p apart = fold_keeps (λ (i : Intake). other c j i.plain) (receives_from c) (λ i s. from_other c j s i apart) (intake TURN_NOTES p) (below (length p.cpus))

-- a note that is handled, and ports that are cleared
handles_other : (c j k : ℕ) (th : Option ℕ) (note : Note) (p : Plain) → (j ≡ c → ⊥) → other c j (handles c k th note p) ≡ other c j p
handles_other c j k th note p apart = other_port without_note c j k p apart

cleared_other : (c k m j : ℕ) (p : Plain) → (j ≡ c → ⊥) → ((q : Plain) → other c j (clears_port c k m q).plain ≡ other c j q) → (o : Option Note) → other c j (on_cleared c k m p o).plain ≡ other c j p
cleared_other c k m j p apart ih None = refl
cleared_other c k m j p apart ih (Some note) = ih (handles c k None note p) ∙ handles_other c j k None note p apart

clears_port_other : (n c k j : ℕ) → (j ≡ c → ⊥) → (p : Plain) → other c j (clears_port c k n p).plain ≡ other c j p
clears_port_other zero c k j apart p = ap (λ (i : Intake). other c j i.plain) (clears_zero c k p)
clears_port_other (suc m) c k j apart p =
    ap (λ (i : Intake). other c j i.plain) (cleared c k (suc m) m p refl) ∙ cleared_other c k m j p apart (clears_port_other m c k j apart) (first_note (port_at p c k))

clears_if : (b : Bool) (c k j : ℕ) (i : Intake) → (j ≡ c → ⊥) → other c j (if b then clears_port c k i.left i.plain else i).plain ≡ other c j i.plain
clears_if true c k j i apart = clears_port_other i.left c k j apart i.plain
clears_if false c k j i apart = refl

clears_all_other : (c j : ℕ) (p : Plain) → (j ≡ c → ⊥) → other c j (clears_all c p) ≡ other c j p
unfolding clears_all
clears_all_other c j p apart =
    fold_keeps (λ (i : Intake). other c j i.plain) (clears c) (λ i k. clears_if (is_closed c k i.plain) c k j i apart) (intake CLEARED_AT_ONCE p) (below PORTS)

-- a port that is looked at
shown_other : (c k m j : ℕ) (p : Plain) (note : Note) → (j ≡ c → ⊥) → ((q : Plain) → other c j (looks_within m c k q).plain ≡ other c j q) → (o : Option Item) → other c j (on_shown c k m p note o).plain ≡ other c j p
shown_other c k m j p note apart ih None = ih (handles c k (Some k) note p) ∙ handles_other c j k (Some k) note p apart
shown_other c k m j p note apart ih (Some item) = handles_other c j k (Some k) note p apart

served_other : (c k m j : ℕ) (p : Plain) → (j ≡ c → ⊥) → ((q : Plain) → other c j (looks_within m c k q).plain ≡ other c j q) → (o : Option Note) → other c j (on_served c k m p o).plain ≡ other c j p
served_other c k m j p apart ih None = refl
served_other c k m j p apart ih (Some note) = shown_other c k m j p note apart ih (shown_by c note p)

looks_within_other : (n c k j : ℕ) → (j ≡ c → ⊥) → (p : Plain) → other c j (looks_within n c k p).plain ≡ other c j p
looks_within_other zero c k j apart p = ap (λ (x : Looked). other c j x.plain) (within_zero c k p)
looks_within_other (suc m) c k j apart p =
    ap (λ (x : Looked). other c j x.plain) (within (suc m) m c k p refl) ∙ served_other c k m j p apart (looks_within_other m c k j apart) (first_note (port_at p c k))

pub looks_other : (c k j : ℕ) (p : Plain) → (j ≡ c → ⊥) → other c j (looks c k p).plain ≡ other c j p
looks_other c k j p apart = looks_within_other (notes_in (port_at p c k)) c k j apart p

-- a thread that is woken up
wakes_other : (phase : Phase) (c k j : ℕ) (p : Plain) → (j ≡ c → ⊥) → other c j (wakes c k p phase) ≡ other c j p
wakes_other Live c k j p apart = refl
wakes_other AwaitsItem c k j p apart =
    let now = looks c k p in
    other_or (λ item. with_thread (gets item) c k now.plain) now.item now.plain c j p
    (λ item. other_thread (gets item) c j k now.plain apart ∙ looks_other c k j p apart) (looks_other c k j p apart)
wakes_other (AwaitsReply msg) c k j p apart = refl
wakes_other Exited c k j p apart = refl
wakes_other (Faulted fault) c k j p apart = refl

wakes_at_other : (c j : ℕ) (p : Plain) (k : ℕ) → (j ≡ c → ⊥) → other c j (wakes_at c p k) ≡ other c j p
wakes_at_other c j p k apart = other_or (λ (t : Thread). wakes c k p t.phase) (thread_at p c k) p c j p (λ t. wakes_other t.phase c k j p apart) refl

wakes_all_other : (c j : ℕ) (p : Plain) → (j ≡ c → ⊥) → other c j (wakes_all c p) ≡ other c j p
unfolding wakes_all
wakes_all_other c j p apart = fold_keeps (other c j) (wakes_at c) (λ q k. wakes_at_other c j q k apart) p (below (length (cpu_at p c).threads))

pub takes_mail_other : (c j : ℕ) (p : Plain) → (j ≡ c → ⊥) → other c j (takes_mail c p) ≡ other c j p
takes_mail_other c j p apart =
    wakes_all_other c j (clears_all c (receives_all c (pays_all c (moves_on c p)))) apart
    ∙ clears_all_other c j (receives_all c (pays_all c (moves_on c p))) apart
    ∙ receives_all_other c j (pays_all c (moves_on c p)) apart
    ∙ pays_all_other c j (moves_on c p)
    ∙ moves_on_other c j p
