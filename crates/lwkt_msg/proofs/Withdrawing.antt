use Rattle.std.proofs.Common.{◌≡◌, ◌⊎◌, ◌↔◌, inl, inr, ℕ, ◌<◌, true, false, length, refl, ap, sym, ◌∙◌, subst}
use Rattle.std.proofs.Common.{Result, Ok, Err}
use Rattle.std.specs.Prelude.{IsErrAnd, MatchResult}
use Rattle.atomic_table.specs.declared.shared.Seat.{Seat}
use Rattle.lwkt_base.specs.declared.faults.Fault.{Fault}
use Rattle.lwkt_base.specs.declared.faults.Fault.TheVariants.{NotOut}
use Rattle.lwkt_base.specs.declared.names.CpuId.{CpuId}
use Rattle.lwkt_base.specs.declared.records.Call.{Call}
use Rattle.lwkt_base.specs.declared.records.Rec.{Rec}
use Rattle.lwkt_base.specs.declared.message_words.MsgWord.{MsgWord}
use Rattle.lwkt_base.specs.declared.message_words.MsgState.{MsgState}
use Rattle.lwkt_base.specs.declared.message_words.MsgState.TheVariants.{Rest, Out, With, Back}
use Rattle.lwkt_base.specs.MessageWord.{message_word}
use Rattle.lwkt_table.specs.declared.seats.Deed.{Deed}
use Rattle.lwkt_table.specs.declared.seats.SeatKind.{SeatKind}
use Rattle.lwkt_msg.specs.declared.views.MessageEntry.{MessageEntry}
use Rattle.lwkt_msg.specs.declared.views.View.{View}
use Rattle.lwkt_msg.specs.Views.{spec_at, call_of, at, who, noted, looked, dropped, requested, flags_of, shows_away, Sees, SeesOwn, StandsFor}
use Rattle.lwkt_msg.specs.Deeds.{loads, loses, drops, requests}
use Rattle.lwkt_msg.specs.Records.{WasSent, WasAskedFor}
use Rattle.lwkt_msg.specs.Hands.{IsOwn}
use Rattle.lwkt_msg.specs.Steps.{rest_word}
use Rattle.lwkt_msg.specs.Plays.{IsAfter, IsLooked, HasRecalled, HasMissed, HasAsked, IsSat}
use Rattle.lwkt_msg.specs.Calls.{sent_rec, IsForDropping, ForbidsDrop, HasDropped, IsUndropped, HasLostDrop, IsForAborting, ForbidsAbort, HasRequested, IsUnrequested, ReadsRequest}
use Rattle.lwkt_msg.proofs.Moves.{never}
use Rattle.lwkt_msg.proofs.Calling as calling
use Rattle.lwkt_msg.proofs.Calling.{Does-two, Last-of}

-- a record with no error and no result is that of its call as it was sent
sent_is : (rec : Rec) (call : Call) → call_of rec ≡ call → (rec.error ≡ 0) × (rec.result ≡ 0) → rec ≡ sent_rec call
sent_is rec call same clean = λ i. record { arg = (same i).arg; result = clean.1 i; op = (same i).op; error = clean.0 i }

-- a refusal that is passed on
pub passed_on : {T : Type 0} (r : Result T Fault) (fault : Fault) (P : T → Type 0) (Q : Fault → Type 0) → IsErrAnd r (λ f. f ≡ fault) → Q fault → MatchResult r P Q
passed_on (Ok x) fault P Q is why = absurd is
passed_on (Err f) fault P Q is why = subst Q (sym is) why

-- after a look at the word of an own message that is away
module _ (place place1 : Seat Rec View) (cpu : CpuId) (m : ℕ) (w : MsgWord) (sat : IsSat cpu place) (l : IsLooked m place.me w place1.me) where
  abbrev v : View
  v = place.me.0

  abbrev v1 : View
  v1 = place1.me.0

  abbrev e : MessageEntry
  e = at place.me.0 m

  entry_is : at v1 m ≡ looked w e
  entry_is = calling.entry_is place place1 cpu m w sat l

  stands1 : StandsFor v1.kind cpu.0
  stands1 = let F : SeatKind → Type 0 = λ k. StandsFor k cpu.0 in subst F (sym (ap (λ (x : View). x.kind) l.view_is.1.1 ∙ sat.kind)) refl

  -- a later word of the message differs in its state alone: only the origin changes the rest, while the message is away
  record IsLater (x : MsgWord) : Type 0 where
    same : x ≡ record w { state = x.state }
    away : shows_away x.state ≡ true

  later : (x : MsgWord) → w.origin ≡ cpu → shows_away w.state ≡ true → Sees v1 m x → IsLater x
  later x home gone s =
      let own : IsOwn v cpu.0 m = calling.own_is place place1 cpu m w sat l home in
      let origin_is : x.origin ≡ w.origin = s.origin_is ∙ (ap (λ (y : View). (spec_at y.specs m).origin.cpu) l.view_is.1.1 ∙ sym l.sees.origin_is) in
      let F : ℕ → Type 0 = λ n. StandsFor v1.kind n in
      let now : SeesOwn (at v1 m) x = s.as_origin (subst F (ap (λ (c : CpuId). c.0) (sym (origin_is ∙ home))) stands1) in
      let was : SeesOwn e w = calling.sees_own place place1 cpu m w sat l own in
      let shown : shows_away x.state ≡ true = sym now.away_is ∙ (ap (λ (y : MessageEntry). y.away) entry_is ∙ (was.away_is ∙ gone)) in
      let round_is : x.round ≡ w.round = sym now.round_is ∙ (ap (λ (y : MessageEntry). y.round) entry_is ∙ was.round_is) in
      let aborted_is : x.aborted ≡ w.aborted = sym now.asked_is ∙ (ap (λ (y : MessageEntry). y.asked) entry_is ∙ was.asked_is) in
      let target_is : x.target ≡ w.target = now.target_is shown ∙ (ap (λ (y : MessageEntry). y.target) entry_is ∙ sym (was.target_is gone)) in
      let sync_is : x.sync ≡ w.sync = (now.flags_is shown).0 ∙ (ap (λ (y : MessageEntry). y.sync) entry_is ∙ sym (was.flags_is gone).0) in
      let flags_is : flags_of x ≡ flags_of w = (now.flags_is shown).1 ∙ (ap (λ (y : MessageEntry). y.flags) entry_is ∙ sym (was.flags_is gone).1) in
      record {
        same = λ i. record { round = round_is i; state = x.state; origin = origin_is i; target = target_is i; aborted = aborted_is i; sync = sync_is i; dropable = (flags_is i).dropable; abortable = (flags_is i).abortable; priority = (flags_is i).priority };
        away = shown;
      }

  -- a drop
  pub undropped : (fault : Fault) → ForbidsDrop cpu w fault → IsUndropped cpu v v1 m fault
  undropped fault why = record { found = w; looked_at = calling.only place place1 cpu m w sat l; why = why }

  pub drop_ready : m < length v.specs → IsForDropping cpu w → IsOwn v1 cpu.0 m × ((at v1 m).had ≡ true) × ((at v1 m).away ≡ true) × ((at v1 m).taken ≡ false) × (w.round ≡ (at v1 m).round)
  drop_ready within is =
      let own = calling.own_is place place1 cpu m w sat l is.0 in (
        calling.own1 place place1 cpu m w sat l own,
        ap (λ (x : MessageEntry). x.had) entry_is ∙ sat.had m within own,
        ap (λ (x : MessageEntry). x.away) entry_is ∙ calling.away_at place place1 cpu m w sat l Out is.1 own,
        ap (λ (x : MessageEntry). x.taken) entry_is ∙ calling.not_taken_at place place1 cpu m w sat l Out is.1 refl,
        sym (calling.round1 place place1 cpu m w sat l own),
      )

  pub drop_done : (home : MsgWord) (rec : Rec) (w2 : View) → IsForDropping cpu w → home ≡ rest_word cpu w.round → HasRecalled m w (message_word home) v1 rec w2 → HasDropped cpu v w2 m rec
  drop_done home rec w2 is home_is got =
      let new : MsgWord = rest_word cpu w.round in
      let own = calling.own_is place place1 cpu m w sat l is.0 in
      let d : Deed = drops (who v) m (message_word w) (message_word new) rec in
      let who_same = calling.who_same place place1 cpu m w sat l in
      let view_is : w2 ≡ noted got.between v1 m (dropped e) d = got.view_is ∙ (λ i. noted got.between v1 m (dropped (entry_is i)) (drops (who_same i) m (message_word w) (message_word (home_is i)) rec)) in
      record {
        own = own;
        was_away = calling.away_at place place1 cpu m w sat l Out is.1 own;
        found = w;
        loaded = calling.loaded place place1 cpu m w sat l;
        allowed = is;
        round_is = sym (calling.sees_own place place1 cpu m w sat l own).round_is;
        rec_is = sent_is rec e.call (got.call_is ∙ ap (λ (x : MessageEntry). x.call) entry_is) got.sent.clean;
        put = Last-of v1 w2 m (dropped e) d got.between (λ front. WasSent front m rec) view_is got.sent;
        does = Does-two v v1 w2 m (looked w e) (dropped e) (loads (who v) m (message_word w)) d l.view_is (got.between, (got.others, view_is));
      }

  pub drop_lost : (home : MsgWord) (w2 : View) → IsForDropping cpu w → home ≡ rest_word cpu w.round → HasMissed m (message_word w) (message_word home) v1 w2 → HasLostDrop cpu v w2 m NotOut
  drop_lost home w2 is home_is missed =
      let new : MsgWord = rest_word cpu w.round in
      let x : MsgWord = missed.other in
      let own = calling.own_is place place1 cpu m w sat l is.0 in
      let d : Deed = loses (who v) m (message_word w) (message_word new) (message_word x) in
      let who_same = calling.who_same place place1 cpu m w sat l in
      let after = missed.view_is in
      let did : IsAfter v1 m (looked w e) d w2
      = (after.0, (after.1.0, after.1.1 ∙ (λ i. noted after.0 v1 m (entry_is i) (loses (who_same i) m (message_word w) (message_word (home_is i)) (message_word x))))) in
      let k = later x is.0 (ap shows_away is.1) missed.sees in
      record {
        is = refl;
        own = own;
        found = w;
        loaded = calling.loaded place place1 cpu m w sat l;
        allowed = is;
        other = x;
        taken = taken_since x.state refl k;
        does = Does-two v v1 w2 m (looked w e) (looked w e) (loads (who v) m (message_word w)) d l.view_is did;
      }
    where
      taken_since : (s : MsgState) → missed.other.state ≡ s → IsLater missed.other → (missed.other ≡ record w { state = With }) ⊎ (missed.other ≡ record w { state = Back })
      taken_since Rest at k = never (ap shows_away (sym at) ∙ k.away)
      taken_since Out at k = absurd (missed.differs (ap message_word (k.same ∙ (λ i. record w { state = (at ∙ sym is.1) i }))))
      taken_since With at k = inl (k.same ∙ (λ i. record w { state = at i }))
      taken_since Back at k = inr (k.same ∙ (λ i. record w { state = at i }))

  -- a request to abort
  pub unrequested : (fault : Fault) → ForbidsAbort cpu w fault → IsUnrequested cpu v v1 m fault
  unrequested fault why = record { found = w; looked_at = calling.only place place1 cpu m w sat l; why = why }

  is_gone : (s : MsgState) → (s ≡ Out) ⊎ (s ≡ With) → shows_away s ≡ true
  is_gone s (inl is) = ap shows_away is
  is_gone s (inr is) = ap shows_away is

  pub request_ready : IsForAborting cpu w → IsOwn v1 cpu.0 m × ((at v1 m).away ≡ true)
  request_ready is =
      let own = calling.own_is place place1 cpu m w sat l is.0 in (
        calling.own1 place place1 cpu m w sat l own,
        ap (λ (x : MessageEntry). x.away) entry_is ∙ ((calling.sees_own place place1 cpu m w sat l own).away_is ∙ is_gone w.state is.1),
      )

  pub request_done : (w2 : View) → IsForAborting cpu w → HasAsked m v1 w2 → HasRequested cpu v w2 m
  request_done w2 is asked =
      let x : MsgWord = asked.met in
      let own = calling.own_is place place1 cpu m w sat l is.0 in
      let d : Deed = requests (who v) m (message_word x) in
      let who_same = calling.who_same place place1 cpu m w sat l in
      let after = asked.view_is in
      let did : IsAfter v1 m (requested (looked w e)) d w2 = (after.0, (after.1.0, after.1.1 ∙ (λ i. noted after.0 v1 m (requested (entry_is i)) (requests (who_same i) m (message_word x))))) in
      let gone = is_gone w.state is.1 in
      record {
        own = own;
        was_away = (calling.sees_own place place1 cpu m w sat l own).away_is ∙ gone;
        found = w;
        loaded = calling.loaded place place1 cpu m w sat l;
        allowed = is;
        met = x;
        same_round = away_still x.state refl (later x is.0 gone asked.sees);
        does = Does-two v v1 w2 m (looked w e) (requested (looked w e)) (loads (who v) m (message_word w)) d l.view_is did;
      }
    where
      away_still : (s : MsgState) → asked.met.state ≡ s → IsLater asked.met → (asked.met ≡ record w { state = Out }) ⊎ (asked.met ≡ record w { state = With }) ⊎ (asked.met ≡ record w { state = Back })
      away_still Rest at k = never (ap shows_away (sym at) ∙ k.away)
      away_still Out at k = inl (k.same ∙ (λ i. record w { state = at i }))
      away_still With at k = inr (inl (k.same ∙ (λ i. record w { state = at i })))
      away_still Back at k = inr (inr (k.same ∙ (λ i. record w { state = at i })))

  -- whether the origin has asked
  pub request_read : (w.state ≡ With) × (w.target ≡ cpu) → ReadsRequest v v1 m w.aborted
  request_read is = record {
    taken_by_it = calling.reply_taken place place1 cpu m w sat l is;
    found = w;
    looked_at = calling.only place place1 cpu m w sat l;
    aborted_is = refl;
    asked = Last-of v v1 m (looked w e) (loads (who v) m (message_word w)) l.view_is.0 (λ front. (w.aborted ≡ true) ↔ WasAskedFor w.origin front m) l.view_is.1.1 (l.asked (ap shows_away is.0));
  }
