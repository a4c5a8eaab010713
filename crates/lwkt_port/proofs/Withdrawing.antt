-- Drops and requests to abort: what is kept of messages fits the seat again, and why each refusal came.
use Rattle.std.proofs.Common.{inl, inr, ◌≡◌, ℕ, ◌<◌, ◌≤◌, Bool, true≢false, List, length, set, refl, ap, sym, ◌∙◌, subst, arith}
use Rattle.std.specs.Prelude.{◌⊎◌, Result, Ok, Err, IfOk, MatchResult}
use Rattle.lwkt_base.specs.declared.faults.Fault.{Fault}
use Rattle.lwkt_base.specs.declared.faults.Fault.TheVariants.{NotOwner}
use Rattle.lwkt_base.specs.declared.message_words.MsgWord.{MsgWord}
use Rattle.lwkt_base.specs.declared.names.MsgId.{MsgId}
use Rattle.lwkt_base.specs.declared.records.Rec.{Rec}
use Rattle.lwkt_core.specs.declared.events.Event.{Event}
use Rattle.lwkt_msg.specs.Calls.{IsLoaded, ForbidsAbort, ForbidsDrop, HasRequested, IsUnrequested, HasDropped, IsUndropped, HasLostDrop}
use Rattle.lwkt_msg.specs.Desks.{Desk, desk_cpu, messages_of, entry, IsSameDesk}
use Rattle.lwkt_msg.specs.Hands.{IsOwn}
use Rattle.lwkt_msg.specs.Views.{spec_at}
use Rattle.lwkt_port.specs.declared.mails.Mail.{Mail}
use Rattle.lwkt_port.specs.Mails.{kept_mail_at, IsMail, AreMails}
use Rattle.lwkt_port.specs.Posts.{Post}
use Rattle.lwkt_port.specs.Sendings.{IsShownTo}
use Rattle.lwkt_port.specs.Withdrawals.{MayRefuseAbort, MayRefuseDrop, dropped_mail, IsHeard, PostHears}
use Rattle.lwkt_port.proofs.Keeping.{own_still, there_still, all_still, all_put}

-- the word of an own message shows this processor as its origin
own_origin : (d : Desk) (m : ℕ) (w : MsgWord) → IsLoaded d.view m w → IsOwn d.view (desk_cpu d).0 m → w.origin ≡ desk_cpu d
own_origin d m w loaded own = loaded.sees.origin_is ∙ (λ i. record { 0 = own i })

-- why an own message wasn't asked for
may_ask : (d : Desk) (m : ℕ) (w : MsgWord) (fault : Fault) → IsLoaded d.view m w → IsOwn d.view (desk_cpu d).0 m → ForbidsAbort (desk_cpu d) w fault → MayRefuseAbort fault
may_ask d m w fault loaded own why = elim why [
  | inl other ↦ absurd (other.1 (own_origin d m w loaded own))
  | inr rest ↦ elim rest [ inl out ↦ inl out.0 | inr leave ↦ inr leave.0 ]
]

may_drop : (d : Desk) (m : ℕ) (w : MsgWord) (fault : Fault) → IsLoaded d.view m w → IsOwn d.view (desk_cpu d).0 m → ForbidsDrop (desk_cpu d) w fault → MayRefuseDrop fault
may_drop d m w fault loaded own why = elim why [
  | inl other ↦ absurd (other.1 (own_origin d m w loaded own))
  | inr rest ↦ elim rest [ inl out ↦ inl out.0 | inr leave ↦ inr leave.0 ]
]

-- after a request, made or refused
pub requested_keeps : (d d' : Desk) (mails : List Mail) (msg : MsgId) → IsSameDesk d d' → HasRequested (desk_cpu d) d.view d'.view msg.0 → AreMails d mails → AreMails d' mails
requested_keeps d d' mails msg same means are = all_still d d' msg.0 mails same means.does.else_same (ap (λ e. e.away) means.does.here) (ap (λ e. e.taken) means.does.here) are

pub unrequested_keeps : (d d' : Desk) (mails : List Mail) (msg : MsgId) (fault : Fault) → IsSameDesk d d' → IsUnrequested (desk_cpu d) d.view d'.view msg.0 fault → AreMails d mails → AreMails d' mails
unrequested_keeps d d' mails msg fault same why are =
    let does = why.looked_at.does in
    all_still d d' msg.0 mails same does.else_same (ap (λ e. e.away) does.here) (ap (λ e. e.taken) does.here) are

-- after a drop, made or refused
pub dropped_keeps : (d d' : Desk) (mails mails' : List Mail) (msg : MsgId) (rec : Rec) → IsSameDesk d d' → HasDropped (desk_cpu d) d.view d'.view msg.0 rec → mails' ≡ set mails msg.0 (dropped_mail (kept_mail_at mails msg.0)) → msg.0 < length mails → AreMails d mails → AreMails d' mails'
dropped_keeps d d' mails mails' msg rec same means is there are =
    let m : ℕ = msg.0 in
    let mail : Mail = kept_mail_at mails m in
    let F : List Mail → Type 0 = AreMails d' in
    let k : IsMail d m mail = are.each m there in
    let still : (entry d' m).taken ≡ (entry d m).taken = ap (λ e. e.taken) means.does.here in
    subst F (sym is) (all_put d d' m mails (dropped_mail mail) same means.does.else_same there record {
      origin_is = k.origin_is ∙ ap (λ s. (spec_at s m).origin) (sym same.specs);
      there = there_still d d' mail (dropped_mail mail) same refl k.there;
      at_home = λ h. (own_still d d' m same means.own, ap (λ e. e.away) means.does.here);
      is_away = λ h own. absurd (true≢false h);
      owed_taken = λ h. still ∙ k.owed_taken h;
      shown_taken = λ h. still ∙ k.shown_taken h;
    } are)

pub untouched_keeps : (d d' : Desk) (mails : List Mail) (msg : MsgId) (fault : Fault) → IsSameDesk d d' → IsUndropped (desk_cpu d) d.view d'.view msg.0 fault ⊎ HasLostDrop (desk_cpu d) d.view d'.view msg.0 fault → AreMails d mails → AreMails d' mails
untouched_keeps d d' mails msg fault same why are = elim why [
  | inl looked ↦ all_still d d' msg.0 mails same looked.looked_at.does.else_same (ap (λ e. e.away) looked.looked_at.does.here) (ap (λ e. e.taken) looked.looked_at.does.here) are
  | inr lost ↦ all_still d d' msg.0 mails same lost.does.else_same (ap (λ e. e.away) lost.does.here) (ap (λ e. e.taken) lost.does.here) are
]

pub untouched_for : (d d' : Desk) (msg : MsgId) (fault : Fault) → IsOwn d.view (desk_cpu d).0 msg.0 → IsUndropped (desk_cpu d) d.view d'.view msg.0 fault ⊎ HasLostDrop (desk_cpu d) d.view d'.view msg.0 fault → MayRefuseDrop fault
untouched_for d d' msg fault own why = elim why [
  | inl looked ↦ may_drop d msg.0 looked.found fault looked.looked_at.loaded own looked.why
  | inr lost ↦ inl lost.is
]

-- of what the book says of a refusal, the part on a message that is there
pub there_of : {B : Type 0} (fault : Fault) (d d' : Desk) (mails : List Mail) (m : ℕ) → AreMails d mails → m < length mails → ((messages_of d ≤ m) × (fault ≡ NotOwner) × (d' ≡ d)) ⊎ ((m < messages_of d) × B) → B
there_of {B} fault d d' mails m are there why = elim why [
  | inl none ↦ absurd (let e : length mails ≡ messages_of d = are.as_many in let n : messages_of d ≤ m = none.0 in omega (arith, there))
  | inr some ↦ some.1
]

-- after a request, whatever the book answered
pub asked_keeps : (answer : Result (Unit {0}) Fault) (d d' : Desk) (mails : List Mail) (msg : MsgId) → IsSameDesk d d' → MatchResult answer (λ _. (msg.0 < messages_of d) × HasRequested (desk_cpu d) d.view d'.view msg.0) (λ fault. ((messages_of d ≤ msg.0) × (fault ≡ NotOwner) × (d' ≡ d)) ⊎ ((msg.0 < messages_of d) × IsUnrequested (desk_cpu d) d.view d'.view msg.0 fault)) → msg.0 < length mails → AreMails d mails → AreMails d' mails
asked_keeps (Ok x) d d' mails msg same means there are = requested_keeps d d' mails msg same means.1 are
asked_keeps (Err fault) d d' mails msg same means there are = unrequested_keeps d d' mails msg fault same (there_of fault d d' mails msg.0 are there means) are

-- what was heard, over any trace
pub hears : (answer : Result Bool Fault) (d d' : Desk) (mails mails' : List Mail) (msg : MsgId) (events : List Event) → IfOk answer (λ aborted. (events : List Event) → IsHeard msg (record { seat = d; mails = mails; trace = events }) (record { seat = d'; mails = mails'; trace = events }) aborted) → IfOk answer (λ aborted. IsHeard msg (record { seat = d; mails = mails; trace = events }) (record { seat = d'; mails = mails'; trace = events }) aborted)
hears (Ok aborted) d d' mails mails' msg events heard = heard events
hears (Err fault) d d' mails mails' msg events heard = heard

pub post_hears : (answer : Result Bool Fault) (thread : ℕ) (msg : MsgId) (p : Post) (d' : Desk) (mails' : List Mail) → IsShownTo thread msg p.mails → IfOk answer (λ aborted. (events : List Event) → IsHeard msg (record { seat = p.seat; mails = p.mails; trace = events }) (record { seat = d'; mails = mails'; trace = events }) aborted) → IfOk answer (λ aborted. PostHears thread msg p (record p { seat = d'; mails = mails' }) aborted)
post_hears (Ok aborted) thread msg p d' mails' shown heard = record { shown = shown; heard = heard; only = record { lanes_same = refl; else_same = record { ports_same = refl; threads_same = refl } } }
post_hears (Err fault) thread msg p d' mails' shown heard = heard
