use Rattle.std.proofs.Common.{◌≡◌, ◌≢◌, ⊎_elim, ℕ, zero, suc, ◌<◌, Option, List, [], ◌∷◌, ◌++◌, length, map, set, get_or, refl, ap, sym, ◌∙◌, subst, arith, append_assoc, append-nil, length-set, get_or-set_other, get_or-set_same}
use Rattle.std.specs.Prelude.{IsSomeAnd}
use Rattle.std.proofs.lemmas.List.Elements.{All-nil, All-cons, All-append}
use lib.ListN.{length-map}
use mathlib.Core.Logic.{dite}
use native.Mathlib.Decide.{ℕ_discrete}
use Rattle.lwkt_base.specs.declared.names.CpuId.{CpuId}
use Rattle.lwkt_base.specs.declared.names.MsgId.{MsgId}
use Rattle.lwkt_base.specs.declared.owners.Owner.{Owner}
use Rattle.lwkt_base.specs.declared.owners.Owner.TheVariants.{Rest, Out, With, Back}
use Rattle.lwkt_base.specs.declared.opening_specs.MsgSpec.{MsgSpec}
use Rattle.lwkt_base.specs.declared.records.Rec.{Rec}
use Rattle.lwkt_core.specs.declared.messages.Message.{Message}
use Rattle.lwkt_core.specs.declared.events.Event.{Event}
use Rattle.lwkt_core.specs.declared.events.Event.TheVariants.{Load, Take, Share, Again, Mark, GiveOne, GiveClean, GiveWritten, Read, Write, ReadBlob, WriteBlob, Send, TakeMsg, DropMsg, Reply, Reap, Abort}
use Rattle.lwkt_core.specs.declared.events.Place.{Place}
use Rattle.lwkt_core.specs.declared.events.Place.TheVariants.{AtToken, AtMessage}
use Rattle.lwkt_table.specs.declared.seats.Deed.{Deed}
use Rattle.lwkt_table.specs.declared.seats.WordStep.{WordStep}
use Rattle.lwkt_core.specs.Events.{place_of}
use Rattle.lwkt_core.specs.Machine.{PlaceNeeds}
use Rattle.lwkt_core.specs.Messages.{MessageNeeds, message_after, IsOutTo, IsOutFrom, IsWith, IsBackTo}
use Rattle.lwkt_table.specs.History.{Passes}
use Rattle.lwkt_table.proofs.HistoryLemmas.{Passes-split}
use Rattle.lwkt_msg.specs.Views.{named, call_of}
use Rattle.lwkt_msg.specs.Book.{Mail, mail_at, no_mail, opened_mail}
use Rattle.lwkt_msg.specs.Steps.{machine_of}
use Rattle.lwkt_msg.specs.Ledger.{IsRecordOf, IsHandedOut, IsLook, IsEvent, IsDone, first_mails}
use Rattle.lwkt_msg.specs.Records.{IsSendOf, IsReplyOf, WasSent, WasAnswered, IsPosted, HistoryDecidesRecords, FoundIsWhatWasPut}
use Rattle.lwkt_msg.proofs.Leading.{shown_at}

-- a list is not empty, and its first element is one
pub some_event : (e : Event) (es : List Event) → es ≡ [] → es ≡ e ∷ [] → ⊥
some_event e es none one = let h : [] ≡ e ∷ [] = sym none ∙ one in cc

pub same_event : (a b : Event) → a ∷ [] ≡ b ∷ [] → a ≡ b
same_event a b h = ap (λ (es : List Event). get_or es 0 a) h

abbrev pub message_in : Place → ℕ
message_in (AtToken i) = 0
message_in (AtMessage i) = i

pub same_record : (a b : Rec) → a ∷ [] ≡ b ∷ [] → a ≡ b
same_record a b h = ap (λ (es : List Rec). get_or es 0 a) h

-- what an event that happens needs of its message
pub needs_at : (cpus : ℕ) (mails : List Mail) (event : Event) (m : ℕ) → m < length mails → place_of event ≡ AtMessage m → PlaceNeeds (machine_of cpus mails) event (place_of event) → MessageNeeds cpus (mail_at mails m).msg event
needs_at cpus mails event m there place needs =
    let G : Place → Type 0 = λ p. PlaceNeeds (machine_of cpus mails) event p in
    let F : Option Message → Type 0 = λ x. IsSomeAnd x (λ msg. MessageNeeds cpus msg event) in
    subst F (shown_at mails m there) (subst G place needs)

-- a deed that puts nothing into the record of a message
abbrev Puts_none : ℕ → Deed → Type 0
Puts_none m d = (IsSendOf m d → ⊥) × (IsReplyOf m d → ⊥)

sent_longer : (deeds : List Deed) (m : ℕ) (rec : Rec) (d : Deed) → Puts_none m d → WasSent deeds m rec → WasSent (deeds ++ d ∷ []) m rec
sent_longer deeds m rec d none w = record {
  before = w.before;
  send = w.send;
  since = w.since ++ d ∷ [];
  parts = ap (λ (l : List Deed). l ++ d ∷ []) w.parts ∙ append_assoc w.before (w.send ∷ w.since) (d ∷ []);
  sends = w.sends;
  put = w.put;
  clean = w.clean;
  last = All-append (λ (x : Deed). Puts_none m x) w.since (d ∷ []) w.last (All-cons (λ (x : Deed). Puts_none m x) d [] none (All-nil (λ (x : Deed). Puts_none m x)));
}

answered_longer : (deeds : List Deed) (m : ℕ) (rec : Rec) (d : Deed) → Puts_none m d → WasAnswered deeds m rec → WasAnswered (deeds ++ d ∷ []) m rec
answered_longer deeds m rec d none w = record {
  before = w.before;
  reply = w.reply;
  since = w.since ++ d ∷ [];
  parts = ap (λ (l : List Deed). l ++ d ∷ []) w.parts ∙ append_assoc w.before (w.reply ∷ w.since) (d ∷ []);
  replies = w.replies;
  put = w.put;
  sent = w.sent;
  was_sent = w.was_sent;
  call_is = w.call_is;
  last = All-append (λ (x : Deed). Puts_none m x) w.since (d ∷ []) w.last (All-cons (λ (x : Deed). Puts_none m x) d [] none (All-nil (λ (x : Deed). Puts_none m x)));
}

posted_longer : (o : Owner) (deeds : List Deed) (m : ℕ) (rec : Rec) (d : Deed) → Puts_none m d → IsPosted deeds m o rec → IsPosted (deeds ++ d ∷ []) m o rec
posted_longer (Rest o) deeds m rec d none p = tt
posted_longer (Out o t) deeds m rec d none p = sent_longer deeds m rec d none p
posted_longer (With o t) deeds m rec d none p = sent_longer deeds m rec d none p
posted_longer (Back o t) deeds m rec d none p = answered_longer deeds m rec d none p

-- a deed that puts a record there
sent_now : (deeds : List Deed) (m : ℕ) (rec : Rec) (d : Deed) → IsSendOf m d → d.records ≡ rec ∷ [] → (rec.error ≡ 0) × (rec.result ≡ 0) → WasSent (deeds ++ d ∷ []) m rec
sent_now deeds m rec d sends put clean = record { before = deeds; send = d; since = []; parts = refl; sends = sends; put = put; clean = clean; last = All-nil (λ (x : Deed). Puts_none m x) }

answered_now : (deeds : List Deed) (m : ℕ) (sent rec : Rec) (d : Deed) → IsReplyOf m d → d.records ≡ rec ∷ [] → call_of rec ≡ call_of sent → WasSent deeds m sent → WasAnswered (deeds ++ d ∷ []) m rec
answered_now deeds m sent rec d replies put call was = record { before = deeds; reply = d; since = []; parts = refl; replies = replies; put = put; sent = sent; was_sent = was; call_is = call; last = All-nil (λ (x : Deed). Puts_none m x) }

-- a deed of this event, which is none of these, puts nothing there
none_by : (m : ℕ) (d : Deed) (event : Event) → d.events ≡ event ∷ [] → ((cpu to : CpuId) (round : ℕ) → event ≢ Send cpu (named m) to round) → ((cpu : CpuId) → event ≢ Reply cpu (named m)) → Puts_none m d
none_by m d event is no_send no_reply = (
  λ s. no_send s.0 s.1 s.2.0 (same_event event (Send s.0 (named m) s.1 s.2.0) (sym is ∙ s.2.1)),
  λ r. no_reply r.0 (same_event event (Reply r.0 (named m)) (sym is ∙ r.1)),
)

-- an owner that an event needs
out_is : (cpu : CpuId) (o : Owner) → IsOutTo cpu o → (deeds : List Deed) (m : ℕ) (rec : Rec) → IsPosted deeds m o rec → WasSent deeds m rec
out_is cpu (Rest o) h deeds m rec p = absurd h
out_is cpu (Out o t) h deeds m rec p = p
out_is cpu (With o t) h deeds m rec p = absurd h
out_is cpu (Back o t) h deeds m rec p = absurd h

with_is : (cpu : CpuId) (o : Owner) → IsWith cpu o → (deeds : List Deed) (m : ℕ) (rec : Rec) → IsPosted deeds m o rec → WasSent deeds m rec
with_is cpu (Rest o) h deeds m rec p = absurd h
with_is cpu (Out o t) h deeds m rec p = absurd h
with_is cpu (With o t) h deeds m rec p = p
with_is cpu (Back o t) h deeds m rec p = absurd h

abbrev message_no : Event → ℕ
message_no e = message_in (place_of e)

-- an event of this message
posted_event : (cpus : ℕ) (m : ℕ) (deeds : List Deed) (d : Deed) (mail after : Mail) (event : Event) → d.events ≡ event ∷ [] → place_of event ≡ AtMessage m → MessageNeeds cpus mail.msg event → after.msg ≡ message_after mail.msg event
    → IsRecordOf event mail.rec after.rec d.records → IsPosted deeds m mail.msg.owner mail.rec → IsPosted (deeds ++ d ∷ []) m after.msg.owner after.rec
posted_event cpus m deeds d mail after (Send cpu msg to round) is place needs left rec p =
    let at_m : msg ≡ named m = (let same : msg.0 ≡ m = ap message_in place in λ i. record { 0 = same i }) in
    let sends : IsSendOf m d = (cpu, to, (round, is ∙ ap (λ (x : MsgId). Send cpu x to round ∷ []) at_m)) in
    subst (λ (x : Message). IsPosted (deeds ++ d ∷ []) m x.owner after.rec) (sym left) (sent_now deeds m after.rec d sends rec.0 rec.1)
posted_event cpus m deeds d mail after (TakeMsg cpu msg round) is place needs left rec p =
    let none = none_by m d (TakeMsg cpu msg round) is (λ c t r h. let g : TakeMsg cpu msg round ≡ Send c (named m) t r = h in absurd cc) (λ c h. let g : TakeMsg cpu msg round ≡ Reply c (named m) = h in absurd cc) in
    subst (λ (x : Message). IsPosted (deeds ++ d ∷ []) m x.owner after.rec) (sym left) (subst (λ (r : Rec). WasSent (deeds ++ d ∷ []) m r) (sym rec.1) (sent_longer deeds m mail.rec d none (out_is cpu mail.msg.owner needs.0 deeds m mail.rec p)))
posted_event cpus m deeds d mail after (DropMsg cpu msg) is place needs left rec p = subst (λ (x : Message). IsPosted (deeds ++ d ∷ []) m x.owner after.rec) (sym left) tt
posted_event cpus m deeds d mail after (Reply cpu msg) is place needs left rec p =
    let at_m : msg ≡ named m = (let same : msg.0 ≡ m = ap message_in place in λ i. record { 0 = same i }) in
    let replies : IsReplyOf m d = (cpu, is ∙ ap (λ (x : MsgId). Reply cpu x ∷ []) at_m) in
    subst (λ (x : Message). IsPosted (deeds ++ d ∷ []) m x.owner after.rec) (sym left) (answered_now deeds m mail.rec after.rec d replies rec.0 rec.1 (with_is cpu mail.msg.owner needs deeds m mail.rec p))
posted_event cpus m deeds d mail after (Reap cpu msg) is place needs left rec p = subst (λ (x : Message). IsPosted (deeds ++ d ∷ []) m x.owner after.rec) (sym left) tt
posted_event cpus m deeds d mail after (Abort cpu msg) is place needs left rec p =
    let none = none_by m d (Abort cpu msg) is (λ c t r h. let g : Abort cpu msg ≡ Send c (named m) t r = h in absurd cc) (λ c h. let g : Abort cpu msg ≡ Reply c (named m) = h in absurd cc) in
    subst (λ (x : Message). IsPosted (deeds ++ d ∷ []) m x.owner after.rec) (sym left) (subst (λ (r : Rec). IsPosted (deeds ++ d ∷ []) m mail.msg.owner r) (sym rec.1) (posted_longer mail.msg.owner deeds m mail.rec d none p))
posted_event cpus m deeds d mail after (Load cpu tok) is place needs left rec p = absurd needs
posted_event cpus m deeds d mail after (Take cpu tok) is place needs left rec p = absurd needs
posted_event cpus m deeds d mail after (Share cpu tok) is place needs left rec p = absurd needs
posted_event cpus m deeds d mail after (Again cpu tok) is place needs left rec p = absurd needs
posted_event cpus m deeds d mail after (Mark cpu tok) is place needs left rec p = absurd needs
posted_event cpus m deeds d mail after (GiveOne cpu tok) is place needs left rec p = absurd needs
posted_event cpus m deeds d mail after (GiveClean cpu tok) is place needs left rec p = absurd needs
posted_event cpus m deeds d mail after (GiveWritten cpu tok section) is place needs left rec p = absurd needs
posted_event cpus m deeds d mail after (Read cpu tok cell value) is place needs left rec p = absurd needs
posted_event cpus m deeds d mail after (Write cpu tok cell value) is place needs left rec p = absurd needs
posted_event cpus m deeds d mail after (ReadBlob cpu tok blob) is place needs left rec p = absurd needs
posted_event cpus m deeds d mail after (WriteBlob cpu tok blob) is place needs left rec p = absurd needs

-- a deed keeps what is known of a message's record
module _ (cpus m : ℕ) where
  abbrev Posts : List Deed → List Mail → Type 0
  Posts deeds mails = (m < length mails) × IsPosted deeds m (mail_at mails m).msg.owner (mail_at mails m).rec

  -- a deed at another message
  elsewhere : (mails : List Mail) (d : Deed) (after : List Mail) (done : IsDone cpus mails d after) → done.step.at ≢ m → Puts_none m d
  elsewhere mails d after done apart = ⊎_elim
      (λ (look : IsLook (mail_at mails done.step.at) d done.step done.after).
      (λ s. some_event (Send s.0 (named m) s.1 s.2.0) d.events look.events s.2.1, λ r. some_event (Reply r.0 (named m)) d.events look.events r.1))
      (λ (event : IsEvent cpus mails done.step.at d done.step done.after).
      none_by m d event.event event.events
      (λ c t r h. apart (ap message_in (sym event.place ∙ ap place_of h)))
      (λ c h. apart (ap message_in (sym event.place ∙ ap place_of h))))
      done.what

  posted_look : (deeds : List Deed) (mail : Mail) (d : Deed) (step : WordStep) (after : Mail) → IsLook mail d step after → IsPosted deeds m mail.msg.owner mail.rec → IsPosted (deeds ++ d ∷ []) m after.msg.owner after.rec
  posted_look deeds mail d step after look p =
      let none : Puts_none m d = (λ s. some_event (Send s.0 (named m) s.1 s.2.0) d.events look.events s.2.1, λ r. some_event (Reply r.0 (named m)) d.events look.events r.1) in
      let q = posted_longer mail.msg.owner deeds m mail.rec d none p in
      let F : Mail → Type 0 = λ x. IsPosted (deeds ++ d ∷ []) m x.msg.owner x.rec in ⊎_elim
      (λ (same : (d.records ≡ []) × (after ≡ mail)). subst F (sym same.1) q)
      (λ (handed : IsHandedOut mail d after). subst F (sym handed.leaves) q)
      look.leaves

  posted_step : (deeds : List Deed) (mails : List Mail) (d : Deed) (after : List Mail) → IsDone cpus mails d after → Posts deeds mails → Posts (deeds ++ d ∷ []) after
  posted_step deeds mails d after done p =
      let there : m < length after = let l = ap (λ (xs : List Mail). length xs) done.leaves in let k = length-set mails done.step.at done.after in let h = p.0 in omega arith in (
        there,
        subst (λ (xs : List Mail). IsPosted (deeds ++ d ∷ []) m (mail_at xs m).msg.owner (mail_at xs m).rec) (sym done.leaves) (dite (ℕ_discrete done.step.at m) here else_),
      )
    where
      F : Mail → Type 0
      F x = IsPosted (deeds ++ d ∷ []) m x.msg.owner x.rec

      else_ : done.step.at ≢ m → F (mail_at (set mails done.step.at done.after) m)
      else_ apart = subst F (sym (get_or-set_other mails done.step.at m done.after no_mail (λ h. apart (sym h)))) (posted_longer (mail_at mails m).msg.owner deeds m (mail_at mails m).rec d (elsewhere mails d after done apart) p.1)

      kept : done.step.at ≡ m → IsPosted deeds m (mail_at mails done.step.at).msg.owner (mail_at mails done.step.at).rec → F done.after
      kept same q = ⊎_elim
          (λ (look : IsLook (mail_at mails done.step.at) d done.step done.after). posted_look deeds (mail_at mails done.step.at) d done.step done.after look q)
          (λ (event : IsEvent cpus mails done.step.at d done.step done.after).
          posted_event cpus m deeds d (mail_at mails done.step.at) done.after event.event event.events (event.place ∙ ap AtMessage same) (needs_at cpus mails event.event done.step.at done.there event.place event.happens.0.place) event.msg_is event.record_is q)
          done.what

      here : done.step.at ≡ m → F (mail_at (set mails done.step.at done.after) m)
      here same =
          let K : ℕ → Type 0 = λ k. F (mail_at (set mails done.step.at done.after) k) in
          let L : ℕ → Type 0 = λ k. IsPosted deeds m (mail_at mails k).msg.owner (mail_at mails k).rec in
          subst K same (subst F (sym (get_or-set_same mails done.step.at done.after no_mail done.there)) (kept same (subst L (sym same) p.1)))

  -- and so does a history
  posted_after : (front deeds : List Deed) (mails last : List Mail) → Posts front mails → Passes (IsDone cpus) mails deeds last → Posts (front ++ deeds) last
  posted_after front [] mails last p passes =
      let F : List Mail → Type 0 = λ xs. Posts (front ++ []) xs in
      let G : List Deed → Type 0 = λ xs. Posts xs mails in
      subst F (sym passes) (subst G (sym (append-nil front)) p)
  posted_after front (d ∷ deeds) mails last p passes =
      let G : List Deed → Type 0 = λ xs. Posts xs last in
      subst G (append_assoc front (d ∷ []) deeds) (posted_after (front ++ d ∷ []) deeds passes.0 last (posted_step front mails d passes.0 passes.1.0 p) passes.1.1)

-- a message as it is declared is at rest
first_owner : (specs : List MsgSpec) (m : ℕ) → m < length specs → (mail_at (map opened_mail specs) m).msg.owner ≡ Rest (mail_at (map opened_mail specs) m).msg.origin.cpu
first_owner [] m h = absurd (omega arith)
first_owner (x ∷ xs) zero h = refl
first_owner (x ∷ xs) (suc m) h = first_owner xs m (omega arith)

-- as many messages before a history as after it
pub as_many : (cpus : ℕ) (deeds : List Deed) (mails last : List Mail) → Passes (IsDone cpus) mails deeds last → length last ≡ length mails
as_many cpus [] mails last passes = ap (λ (xs : List Mail). length xs) passes
as_many cpus (d ∷ deeds) mails last passes = as_many cpus deeds passes.0 last passes.1.1 ∙ (ap (λ (xs : List Mail). length xs) passes.1.0.leaves ∙ length-set mails passes.1.0.step.at passes.1.0.after)

pub records_decided : HistoryDecidesRecords
records_decided cpus specs history mails passes m there =
    let first : List Mail = first_mails specs in
    let in_first : m < length first = let l = as_many cpus history first mails passes in omega arith in
    let in_specs : m < length specs = let l = length-map specs opened_mail in omega arith in
    let F : Owner → Type 0 = λ o. IsPosted [] m o (mail_at first m).rec in
    (posted_after cpus m [] history first mails (in_first, subst F (sym (first_owner specs m in_specs)) tt) passes).1

-- a message that came back to its origin
back_is : (cpu : CpuId) (o : Owner) → IsBackTo cpu o → (deeds : List Deed) (m : ℕ) (rec : Rec) → IsPosted deeds m o rec → WasAnswered deeds m rec
back_is cpu (Rest o) h deeds m rec p = absurd h
back_is cpu (Out o t) h deeds m rec p = absurd h
back_is cpu (With o t) h deeds m rec p = absurd h
back_is cpu (Back o t) h deeds m rec p = p

from_is : (cpu : CpuId) (o : Owner) → IsOutFrom cpu o → (deeds : List Deed) (m : ℕ) (rec : Rec) → IsPosted deeds m o rec → WasSent deeds m rec
from_is cpu (Rest o) h deeds m rec p = absurd h
from_is cpu (Out o t) h deeds m rec p = p
from_is cpu (With o t) h deeds m rec p = absurd h
from_is cpu (Back o t) h deeds m rec p = absurd h

-- what the event of a deed needs of its message, and does to its record
record IsEventAt (cpus : ℕ) (mails : List Mail) (m : ℕ) (d : Deed) (event : Event) : Type 0 where
  there : m < length mails
  after : Rec
  needs : MessageNeeds cpus (mail_at mails m).msg event
  record_is : IsRecordOf event (mail_at mails m).rec after d.records

event_at : (cpus m : ℕ) (mails : List Mail) (d : Deed) (others : List Mail) (event : Event) → IsDone cpus mails d others → d.events ≡ event ∷ [] → place_of event ≡ AtMessage m → IsEventAt cpus mails m d event
event_at cpus m mails d others event done is place = ⊎_elim
    (λ (look : IsLook (mail_at mails done.step.at) d done.step done.after). absurd (some_event event d.events look.events is))
    (λ (did : IsEvent cpus mails done.step.at d done.step done.after).
    let same : did.event ≡ event = same_event did.event event (sym did.events ∙ is) in
    let at_m : done.step.at ≡ m = ap message_in (sym did.place ∙ (ap place_of same ∙ place)) in
    let F : ℕ → Event → Type 0 = λ k e. IsEventAt cpus mails k d e in
    let here : F done.step.at did.event = record { there = done.there; after = done.after.rec; needs = needs_at cpus mails did.event done.step.at done.there did.place did.happens.0.place; record_is = did.record_is } in
    subst (F m) same (subst (λ (k : ℕ). F k did.event) at_m here))
    done.what

pub found_is_put : FoundIsWhatWasPut
found_is_put cpus specs front back d mails m passes = (
  (λ take.
      let at_m = event_at cpus m mid d cut.1.1.0 (TakeMsg take.0 (named m) take.1.0) done take.1.1 refl in
      ((mail_at mid m).rec, (at_m.record_is.0, out_is take.0 (mail_at mid m).msg.owner at_m.needs.0 front m (mail_at mid m).rec (posted at_m.there)))),
  (λ drop.
      let at_m = event_at cpus m mid d cut.1.1.0 (DropMsg drop.0 (named m)) done drop.1 refl in
      ((mail_at mid m).rec, (at_m.record_is.0, from_is drop.0 (mail_at mid m).msg.owner at_m.needs front m (mail_at mid m).rec (posted at_m.there)))),
  (λ reap.
      let at_m = event_at cpus m mid d cut.1.1.0 (Reap reap.0 (named m)) done reap.1 refl in
      ((mail_at mid m).rec, (at_m.record_is.0, back_is reap.0 (mail_at mid m).msg.owner at_m.needs front m (mail_at mid m).rec (posted at_m.there)))),
)
  where
    cut : (k : List Mail) × (Passes (IsDone cpus) (first_mails specs) front k × Passes (IsDone cpus) k (d ∷ back) mails)
    cut = Passes-split (IsDone cpus) (first_mails specs) front (d ∷ back) mails passes

    mid : List Mail
    mid = cut.0

    done : IsDone cpus mid d cut.1.1.0
    done = cut.1.1.1.0

    posted : m < length mid → IsPosted front m (mail_at mid m).msg.owner (mail_at mid m).rec
    posted there = records_decided cpus specs front mid cut.1.0 m there
