-- The theorems on ports.
use Rattle.std.proofs.Common.{◌≡◌, ◌≢◌, ⊎_elim, ℕ, ◌<◌, true, false, true≢false, Bool, List, [], ◌∷◌, ◌++◌, length, set, refl, ap, sym, ◌∙◌, subst, append_assoc, inl, inr, get_or-set_same}
use Rattle.std.proofs.lemmas.List.{append-nil}
use Rattle.std.specs.Prelude.{◌⊎◌, Option, Some, None, Ok, Err, IsSome, MatchOption, option_to_list}
use Rattle.lwkt_base.specs.declared.asks.Item.TheVariants as item
use Rattle.lwkt_base.specs.declared.faults.Fault.TheVariants.{Again}
use Rattle.lwkt_base.specs.declared.names.CpuId.{CpuId}
use Rattle.lwkt_base.specs.declared.names.MsgId.{MsgId}
use Rattle.lwkt_base.specs.declared.records.Call.{Call}
use Rattle.lwkt_base.specs.declared.message_words.MsgState.{MsgState}
use Rattle.lwkt_base.specs.declared.message_words.MsgState.TheVariants.{Out}
use Rattle.lwkt_table.specs.declared.seats.SeatKind.{SeatKind}
use Rattle.lwkt_table.specs.declared.seats.SeatKind.TheVariants.{Of}
use Rattle.lwkt_lane.specs.declared.notes.Note.{Note}
use Rattle.lwkt_lane.specs.declared.notes.NoteKind.{NoteKind}
use Rattle.lwkt_lane.specs.declared.notes.NoteKind.TheVariants.{Request, Answer}
use Rattle.lwkt_lane.specs.Lane.{received}
use Rattle.lwkt_msg.specs.declared.answers.Taken.{Taken}
use Rattle.lwkt_msg.specs.declared.answers.Taken.TheVariants as taken
use Rattle.lwkt_msg.specs.declared.answers.Reaped.{Reaped}
use Rattle.lwkt_msg.specs.declared.answers.Reaped.TheVariants as reaped_
use Rattle.lwkt_msg.specs.Desks.{entry}
use Rattle.lwkt_msg.specs.Views.{StandsFor, shows_with, call_of}
use Rattle.lwkt_port.specs.declared.deeds.Claim.TheVariants as claim
use Rattle.lwkt_port.specs.declared.gets.Served.{Served}
use Rattle.lwkt_port.specs.declared.gets.Served.TheVariants as served
use Rattle.lwkt_port.specs.declared.handlings.Fate.{Fate}
use Rattle.lwkt_port.specs.declared.lines.Lane.{Lane}
use Rattle.lwkt_port.specs.declared.mails.Mail.{Mail}
use Rattle.lwkt_port.specs.Deeds.{Takes, taken_mail, replied_mail}
use Rattle.lwkt_port.specs.Intakes.{Payer, PaysOwed, Desks, Handles, EmptiesKept, Pops}
use Rattle.lwkt_port.specs.Sendings.{Answers}
use Rattle.lwkt_port.specs.Laws.{IsPaid, OwedIsMadeOnce, UnowedIsNotMade, EintrIfAborted, LosesNone, LanesLoseNone, AllLeave, NotesLeaveServed, UrgentLeaveFirst, IsShownOnce, RequestsAreShownOnce}
use Rattle.lwkt_port.specs.Mails.{no_kept_mail, kept_mail_at, AreMails}
use Rattle.lwkt_port.specs.Queues.{queue_of}
use Rattle.lwkt_port.proofs.Classing.{gone_is}
use Rattle.lwkt_port.specs.Servings.{served_request, served_answer, ServesAs, Serves, PassesAll}
use Rattle.lwkt_port.specs.Works.{Work}

-- a lane without a kept note
pops_lose_none : (most count : ℕ) (line line' : Lane) (x y : Desks) → line.kept ≡ None → Pops most count line line' x y → LosesNone count line line' x y
pops_lose_none most count line line' x y none p = record {
  popped = p.popped;
  done = p.done;
  between = p.between;
  received_is = p.received_is;
  as_many = p.as_many;
  flow = ap (λ o. option_to_list o ++ p.popped) none ∙ p.flow;
  handled = p.handles;
  last = p.last;
}

kept_lose_none : (most count : ℕ) (line line' : Lane) (x y : Desks) (kept : Option Note) → line.kept ≡ kept → EmptiesKept kept most count line line' x y → LosesNone count line line' x y
kept_lose_none most count line line' x y None is e = pops_lose_none most count line line' x y is e
kept_lose_none most count line line' x y (Some note) is e =
    ⊎_elim
    (λ (s : Handles note x y None × (line' ≡ line) × (count ≡ 0)).
    let same : line'.kept ≡ Some note = ap (λ l. l.kept) s.1 ∙ is in
    let F : Option Note → Type 0 = λ o. MatchOption o (y ≡ x) (λ n. Handles n x y None) in
    let r : LosesNone count line line' x y = record {
      popped = [];
      done = [];
      between = x;
      received_is = ap (λ l. received l.into) s.1 ∙ sym (append-nil (received line.into));
      as_many = sym s.2;
      flow = append-nil (option_to_list line.kept) ∙ ap option_to_list (is ∙ sym same);
      handled = refl;
      last = subst F (sym same) s.0;
    } in r)
    (λ (s : (z : Desks) × (how : Fate) × Handles note x z (Some how) × Pops most count (record line { kept = None }) line' z y).
    let p = s.3 in
    let r : LosesNone count line line' x y = record {
      popped = p.popped;
      done = note ∷ p.done;
      between = p.between;
      received_is = p.received_is;
      as_many = p.as_many;
      flow = ap (λ o. option_to_list o ++ p.popped) is ∙ ap (λ l. note ∷ l) p.flow;
      handled = (s.0, s.1, s.2, p.handles);
      last = p.last;
    } in r)
    e

pub lanes_lose_none : LanesLoseNone
lanes_lose_none most count line line' x y e = kept_lose_none most count line line' x y line.kept refl e

-- notes that were passed over left the queue
passed_leave : (thread : ℕ) (notes : List Note) (w w' : Work) → PassesAll thread notes w w' → AllLeave thread notes w w'
passed_leave thread [] w w' is = is
passed_leave thread (n ∷ notes) w w' p = (p.0, served.Passed, (λ e. let no : served.Passed ≡ served.Lost = e in absurd (cc)), p.1, passed_leave thread notes p.0 w' p.2)

one_more_leaves : (thread : ℕ) (notes : List Note) (note : Note) (outcome : Served) (w v u : Work) → AllLeave thread notes w v → outcome ≢ served.Lost → Serves thread note v u outcome → AllLeave thread (notes ++ note ∷ []) w u
one_more_leaves thread [] note outcome w v u is not s = let F : Work → Type 0 = λ x. Serves thread note x u outcome in (u, outcome, not, subst F is s, refl)
one_more_leaves thread (n ∷ notes) note outcome w v u p not s = (p.0, p.1, p.2, p.3, one_more_leaves thread notes note outcome p.0 v u p.4 not s)

pub notes_leave_served : NotesLeaveServed
notes_leave_served thread queue queue' w w' (Ok (Some it)) g = record {
  gone = g.passed ++ g.note ∷ [];
  between = w';
  queue_is = g.queue_is ∙ sym (append_assoc g.passed (g.note ∷ []) queue');
  leave = one_more_leaves thread g.passed g.note (served.Shown it) w g.between w' (passed_leave thread g.passed w g.between g.passes) (λ e. let no : served.Shown it ≡ served.Lost = e in absurd (cc)) g.shows;
  rest = inl refl;
}
notes_leave_served thread queue queue' w w' (Ok None) g = record {
  gone = queue;
  between = w';
  queue_is = sym (append-nil queue) ∙ ap (λ q. queue ++ q) (sym g.0);
  leave = passed_leave thread queue w w' g.1;
  rest = inl refl;
}
notes_leave_served thread queue queue' w w' (Err Again) g = record {
  gone = g.passed;
  between = g.between;
  queue_is = g.queue_is ∙ ap (λ q. g.passed ++ q) (sym g.left);
  leave = passed_leave thread g.passed w g.between g.passes;
  rest = inr (g.note, g.others, g.left, g.loses);
}
notes_leave_served thread queue queue' w w' (Err _) g = absurd g

-- of the two classes the urgent notes leave first
pub urgent_leave_first : UrgentLeaveFirst
urgent_leave_first thread port port' w w' answer s =
    let l = notes_leave_served thread (queue_of port) (queue_of port') w w' answer s.0 in
    let order = s.2 in
    let F : List Note → Type 0 = λ gone. AllLeave thread gone w l.between in record {
      urgent = order.urgent;
      ordinary = order.ordinary;
      between = l.between;
      urgent_is = order.urgent_is;
      ordinary_is = order.ordinary_is;
      urgent_first = order.urgent_first;
      leave = subst F (gone_is port port' l.gone order l.queue_is) l.leave;
      rest = l.rest;
    }

-- a message that the seat can take is not taken yet, so it is shown to nobody
free_to_take : (cpu : ℕ) (state : MsgState) (target : CpuId) → state ≡ Out → shows_with cpu state target ≡ false
free_to_take cpu state target is = ap (λ s. shows_with cpu s target) is

nobody : (o : Option ℕ) → (IsSome o → ⊥) → o ≡ None
nobody None n = refl
nobody (Some x) n = absurd (n refl)

-- what a request that is shown came from
shown_request : (cpu : CpuId) (thread : ℕ) (note : Note) (w w' : Work) (msg : MsgId) (call : Call) (answer : Taken) → note.kind ≡ Request → w.seat.view.kind ≡ Of cpu → AreMails w.seat w.mails → note.msg.0 < length w.mails → Takes (claim.Thread thread) note w w' answer → served.Shown (item.Request msg call) ≡ served_request note.msg answer → IsShownOnce thread note w w' msg
shown_request cpu thread note w w' msg call (taken.Took rec true priority) kind of are there takes e = absurd (let no : served.Shown (item.Request msg call) ≡ served.Passed = e in cc)
shown_request cpu thread note w w' msg call (taken.Took rec false priority) kind of are there takes e =
    let same : msg ≡ note.msg = let is : served.Shown (item.Request msg call) ≡ served.Shown (item.Request note.msg (call_of rec)) = e in cc in
    let m : ℕ = note.msg.0 in
    let means = takes.means in
    let F : SeatKind → Type 0 = λ k. StandsFor k cpu.0 in
    let free : (entry w.seat m).taken ≡ false = means.loaded.sees.as_target cpu.0 (subst F (sym of) refl) ∙ free_to_take cpu.0 means.found.state means.found.target means.allowed.0 in
    let mail : Mail = kept_mail_at w.mails m in record {
      is_request = kind;
      message_is = same;
      to_nobody = ap (λ (k : MsgId). (kept_mail_at w.mails k.0).shown) same ∙ nobody mail.shown (λ h. true≢false (sym ((are.each m there).shown_taken h) ∙ free));
      to_thread = ap (λ (k : MsgId). (kept_mail_at w'.mails k.0).shown) same ∙ ap (λ l. (kept_mail_at l m).shown) takes.mails_are ∙ ap (λ x. x.shown) (get_or-set_same w.mails m (taken_mail (claim.Thread thread) false priority note.round mail) no_kept_mail there);
    }
shown_request cpu thread note w w' msg call taken.Stale kind of are there takes e = absurd (let no : served.Shown (item.Request msg call) ≡ served.Passed = e in cc)
shown_request cpu thread note w w' msg call taken.Again kind of are there takes e = absurd (let no : served.Shown (item.Request msg call) ≡ served.Lost = e in cc)

-- an answer is no request
no_request : (msg msg' : MsgId) (call : Call) (answer : Reaped) → served.Shown (item.Request msg call) ≡ served_answer msg' answer → ⊥
no_request msg msg' call (reaped_.Done rec) e = let no : served.Shown (item.Request msg call) ≡ served.Shown (item.Answered msg' rec.error rec.result) = e in cc
no_request msg msg' call reaped_.Stale e = let no : served.Shown (item.Request msg call) ≡ served.Passed = e in cc

shown_as : (cpu : CpuId) (thread : ℕ) (note : Note) (w w' : Work) (msg : MsgId) (call : Call) (kind : NoteKind) → note.kind ≡ kind → w.seat.view.kind ≡ Of cpu → AreMails w.seat w.mails → note.msg.0 < length w.mails → ServesAs kind thread note w w' (served.Shown (item.Request msg call)) → IsShownOnce thread note w w' msg
shown_as cpu thread note w w' msg call Request is of are there s = shown_request cpu thread note w w' msg call s.0 is of are there s.1 s.2
shown_as cpu thread note w w' msg call Answer is of are there s = absurd (no_request msg note.msg call s.0 s.2)

pub requests_are_shown_once : RequestsAreShownOnce
requests_are_shown_once cpu thread note w w' msg call of are there s = shown_as cpu thread note w w' msg call note.kind refl of are there s

-- an owed reply
paid_if : (m error : ℕ) (x y : Payer) (made : Bool) → m < length x.work.mails → Answers (record { 0 = m }) error 0 x.lanes y.lanes x.work y.work made → IsPaid m x y ⊎ (y.work ≡ x.work)
paid_if m error x y true there a =
    let r = a.does.replies in
    let mail : Mail = kept_mail_at x.work.mails m in
    let paid : IsPaid m x y = record {
      replied = r.trace_is;
      owes_none = ap (λ l. (kept_mail_at l m).owed) r.mails_are ∙ ap (λ z. z.owed) (get_or-set_same x.work.mails m (replied_mail mail) no_kept_mail there);
      not_taken = ap (λ e. e.taken) r.means.does.here;
    } in inl paid
paid_if m error x y false there a = inr a.does.1

pub owed_once : OwedIsMadeOnce
owed_once m error x y there is pays =
    let F : Option ℕ → Type 0 = λ o. PaysOwed o m x y in
    let p : PaysOwed (Some error) m x y = subst F is pays in
    paid_if m error x y p.0 there p.1

pub unowed_not : UnowedIsNotMade
unowed_not m x y is pays = let F : Option ℕ → Type 0 = λ o. PaysOwed o m x y in let p : PaysOwed None m x y = subst F is pays in p

-- a request that was taken
kept_of : (w w' : Work) (m : ℕ) (mail : Mail) → m < length w.mails → w'.mails ≡ set w.mails m mail → kept_mail_at w'.mails m ≡ mail
kept_of w w' m mail there is = ap (λ l. kept_mail_at l m) is ∙ get_or-set_same w.mails m mail no_kept_mail there

pub eintr_if_aborted : EintrIfAborted
eintr_if_aborted thread note w w' rec true priority there t =
    let m : ℕ = note.msg.0 in
    let is = kept_of w w' m (taken_mail (claim.Thread thread) true priority note.round (kept_mail_at w.mails m)) there t.mails_are in
    (record { owed = λ _. (ap (λ z. z.owed) is, ap (λ z. z.shown) is); shown = λ h. absurd (true≢false h) }, refl)
eintr_if_aborted thread note w w' rec false priority there t =
    let m : ℕ = note.msg.0 in
    let is = kept_of w w' m (taken_mail (claim.Thread thread) false priority note.round (kept_mail_at w.mails m)) there t.mails_are in
    (record { owed = λ h. absurd (true≢false (sym h)); shown = λ _. (ap (λ z. z.owed) is, ap (λ z. z.shown) is) }, refl)
