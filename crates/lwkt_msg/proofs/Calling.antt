use Rattle.std.proofs.Common.{◌≡◌, ◌↔◌, inl, inr, ℕ, ◌+◌, ◌<◌, Bool, true, false, List, [], ◌∷◌, ◌++◌, length, refl, ap, sym, ◌∙◌, subst, arith, append_assoc, eq-eqb, ◌||◌}
use Rattle.std.proofs.lemmas.Bool.{eqb-true}
use Rattle.atomic_table.specs.Table.{Me}
use Rattle.atomic_table.specs.declared.shared.Seat.{Seat}
use Rattle.lwkt_base.specs.declared.faults.Fault.TheVariants.{NotOwner, NotTaken, RoundsOut}
use Rattle.lwkt_base.specs.declared.names.CpuId.{CpuId}
use Rattle.lwkt_base.specs.declared.records.Call.{Call}
use Rattle.lwkt_base.specs.declared.records.Rec.{Rec}
use Rattle.lwkt_base.specs.declared.records.Flags.{Flags}
use Rattle.lwkt_base.specs.declared.message_words.MsgWord.{MsgWord}
use Rattle.lwkt_base.specs.declared.message_words.MsgState.{MsgState}
use Rattle.lwkt_base.specs.declared.message_words.MsgState.TheVariants.{Rest, Out, With, Back}
use Rattle.lwkt_base.specs.MessageWord.{message_word}
use Rattle.lwkt_base.specs.declared.limits.TheConstants.{LAST_ROUND}
use Rattle.lwkt_table.specs.declared.seats.Deed.{Deed}
use Rattle.lwkt_table.specs.declared.seats.SeatKind.{SeatKind}
use Rattle.lwkt_msg.specs.declared.views.MessageEntry.{MessageEntry}
use Rattle.lwkt_msg.specs.declared.views.View.{View}
use Rattle.lwkt_msg.specs.Views.{spec_at, call_of, at, who, noted, looked, sent, took, answered, reaped, shows_away, shows_back, shows_with, SeesOwn, StandsFor}
use Rattle.lwkt_msg.specs.Deeds.{loads, loses, sends, takes, replies, reaps}
use Rattle.lwkt_msg.specs.Records.{WasSent, WasAnswered, WasAskedFor, Last}
use Rattle.lwkt_msg.specs.Hands.{IsOwn, IsInHand}
use Rattle.lwkt_msg.specs.Steps.{sent_word, rest_word}
use Rattle.lwkt_msg.specs.Plays.{IsAfter, Looked, IsLooked, HasWon, HasLost, HasFetched, IsSat, IsInFront}
use Rattle.lwkt_msg.specs.Calls.{Does, IsLoaded, OnlyLooked, IsHome, sent_rec, HasSent, IsUnsent, IsForTaking, IsForReaping, HasTaken, HasLostTake, answered_rec, HasReplied, IsUnreplied, HasReaped}
use Rattle.lwkt_msg.proofs.Knowing.{at-here, at-else}

-- what one deed does, and what two do
pub Does-one : (v w : View) (m : ℕ) (e : MessageEntry) (d : Deed) → IsAfter v m e d w → Does v w m e (d ∷ [])
Does-one v w m e d after =
    let F : View → Type 0 = λ x. Does v x m e (d ∷ []) in
    subst F (sym after.1.1) record { kind = refl; cpus = refl; specs = refl; here = at-here v m e after.0 d; else_same = λ k apart. at-else v m e after.0 d k apart; grows = (after.0, (after.1.0, refl)) }

-- a deed after another, by the view after it or before it
pub After-first : (v v1 v2 : View) (m : ℕ) (e1 e2 : MessageEntry) (d1 d2 : Deed) → (first : IsAfter v m e1 d1 v1) → IsAfter v1 m e2 d2 v2 → IsAfter (noted first.0 v m e1 d1) m e2 d2 v2
After-first v v1 v2 m e1 e2 d1 d2 first second = let F : View → Type 0 = λ x. IsAfter x m e2 d2 v2 in subst F first.1.1 second

pub Does-two : (v v1 v2 : View) (m : ℕ) (e1 e2 : MessageEntry) (d1 d2 : Deed) → IsAfter v m e1 d1 v1 → IsAfter v1 m e2 d2 v2 → Does v v2 m e2 (d1 ∷ d2 ∷ [])
Does-two v v1 v2 m e1 e2 d1 d2 first second =
    let F : View → Type 0 = λ x. Does v x m e2 (d1 ∷ d2 ∷ []) in
    let w : View = noted first.0 v m e1 d1 in
    let then : IsAfter w m e2 d2 v2 = After-first v v1 v2 m e1 e2 d1 d2 first second in
    subst F (sym then.1.1) record {
      kind = refl;
      cpus = refl;
      specs = refl;
      here = at-here w m e2 then.0 d2;
      else_same = λ k apart. at-else w m e2 then.0 d2 k apart ∙ at-else v m e1 first.0 d1 k apart;
      grows = (first.0, (first.1.0, (then.0, (then.1.0, refl))));
    }

-- of the last deed of a past something is so that is so of the front up to it
pub Last-of : (v w : View) (m : ℕ) (e : MessageEntry) (d : Deed) (between : List Deed) (IsSo : List Deed → Type 0) → w ≡ noted between v m e d → IsSo (v.past ++ between) → Last w.past d IsSo
Last-of v w m e d between IsSo is so =
    let F : View → Type 0 = λ x. Last x.past d IsSo in
    subst F (sym is) (v.past ++ between, (sym (append_assoc v.past between (d ∷ [])), so))

-- a look, by the parts of the word that it found
pub looked_parts : (m : ℕ) (me : Me Rec View) (found : ℕ) (then : Me Rec View) (w : MsgWord) → (l : Looked m me found then) → w ≡ l.parts → IsLooked m me w then
looked_parts m me found then w l is =
    let F : MsgWord → Type 0 = λ x. IsLooked m me x then in
    let view_is : IsAfter me.0 m (looked l.parts (at me.0 m)) (loads (who me.0) m (message_word l.parts)) then.0
    = (l.view_is.0, (l.view_is.1.0, l.view_is.1.1 ∙ (λ i. noted l.view_is.0 me.0 m (looked l.parts (at me.0 m)) (loads (who me.0) m (l.is_word i))))) in
    subst F (sym is) record { fits = l.fits; sees = l.sees; view_is = view_is; asked = l.asked; same = l.same; front = l.front }

rest_of : (s : MsgState) → shows_away s ≡ false → s ≡ Rest
rest_of Rest e = refl
rest_of Out e = absurd (let h : true ≡ false = e in cc)
rest_of With e = absurd (let h : true ≡ false = e in cc)
rest_of Back e = absurd (let h : true ≡ false = e in cc)

with_of : (cpu : CpuId) (s : MsgState) (t : CpuId) → shows_with cpu.0 s t ≡ true → (s ≡ With) × (t ≡ cpu)
with_of cpu Rest t e = absurd (let h : false ≡ true = e in cc)
with_of cpu Out t e = absurd (let h : false ≡ true = e in cc)
with_of cpu With t e = (refl, λ i. record { 0 = eqb-true t.0 cpu.0 e i })
with_of cpu Back t e = absurd (let h : false ≡ true = e in cc)

-- after a look at the word of a message, by the seat of a processor
module _ (place place1 : Seat Rec View) (cpu : CpuId) (m : ℕ) (w : MsgWord) (sat : IsSat cpu place) (l : IsLooked m place.me w place1.me) where
  abbrev v : View
  v = place.me.0

  abbrev e : MessageEntry
  e = at place.me.0 m

  pub entry_is : at place1.me.0 m ≡ looked w e
  entry_is = ap (λ (x : View). at x m) l.view_is.1.1 ∙ at-here v m (looked w e) l.view_is.0 (loads (who v) m (message_word w))

  -- it is still the seat of the same processor
  pub who_same : who place1.me.0 ≡ who v
  who_same = ap (λ (x : View). who x) l.view_is.1.1

  pub loaded : IsLoaded v m w
  loaded = record { fits = l.fits; sees = l.sees }

  pub only : OnlyLooked v place1.me.0 m w
  only = record { loaded = loaded; does = Does-one v place1.me.0 m (looked w e) (loads (who v) m (message_word w)) l.view_is }

  pub own_is : w.origin ≡ cpu → IsOwn v cpu.0 m
  own_is is = ap (λ (c : CpuId). c.0) (sym l.sees.origin_is ∙ is)

  pub origin_is : IsOwn v cpu.0 m → w.origin ≡ cpu
  origin_is own = l.sees.origin_is ∙ (λ i. record { 0 = own i })

  stands : StandsFor v.kind cpu.0
  stands = let F : SeatKind → Type 0 = λ k. StandsFor k cpu.0 in subst F (sym sat.kind) refl

  pub sees_own : IsOwn v cpu.0 m → SeesOwn e w
  sees_own own = let F : ℕ → Type 0 = λ n. StandsFor v.kind n in l.sees.as_origin (subst F (ap (λ (c : CpuId). c.0) (sym (origin_is own))) stands)

  pub taken_is : e.taken ≡ shows_with cpu.0 w.state w.target
  taken_is = l.sees.as_target cpu.0 stands

  pub not_taken_at : (s : MsgState) → w.state ≡ s → (shows_with cpu.0 s w.target ≡ false) → e.taken ≡ false
  not_taken_at s is none = taken_is ∙ (ap (λ (x : MsgState). shows_with cpu.0 x w.target) is ∙ none)

  pub away_at : (s : MsgState) → w.state ≡ s → IsOwn v cpu.0 m → e.away ≡ shows_away s
  away_at s is own = (sees_own own).away_is ∙ ap shows_away is

  -- the specs are the same, and so are those of its own messages
  pub own1 : IsOwn v cpu.0 m → IsOwn place1.me.0 cpu.0 m
  own1 own = ap (λ (x : View). (spec_at x.specs m).origin.cpu.0) l.view_is.1.1 ∙ own

  pub within1 : m < length v.specs → m < length place1.me.0.specs
  within1 within = subst (λ (x : View). m < length x.specs) (sym l.view_is.1.1) within

  -- a send
  pub unsent_not_home : ((w.state ≡ Rest) × (w.origin ≡ cpu) → ⊥) → IsUnsent cpu v place1.me.0 m NotOwner
  unsent_not_home not = record { found = w; looked_at = only; why = inl (refl, λ home. not (rest_of w.state (sym (sees_own home.0).away_is ∙ home.1), origin_is home.0)) }

  pub home_is : (w.state ≡ Rest) × (w.origin ≡ cpu) → IsHome v cpu.0 m
  home_is is = (own_is is.1, away_at Rest is.0 (own_is is.1))

  pub unsent_last : (w.state ≡ Rest) × (w.origin ≡ cpu) → w.round ≡ LAST_ROUND → IsUnsent cpu v place1.me.0 m RoundsOut
  unsent_last is last = record { found = w; looked_at = only; why = inr (refl, home_is is, (sees_own (own_is is.1)).round_is ∙ last) }

  pub send_home : m < length v.specs → (w.state ≡ Rest) × (w.origin ≡ cpu) → IsOwn place1.me.0 cpu.0 m × ((at place1.me.0 m).had ≡ true) × ((at place1.me.0 m).away ≡ false) × ((at place1.me.0 m).taken ≡ false)
  send_home within is =
      let own = own_is is.1 in
      (own1 own, ap (λ (x : MessageEntry). x.had) entry_is ∙ sat.had m within own, ap (λ (x : MessageEntry). x.away) entry_is ∙ away_at Rest is.0 own, ap (λ (x : MessageEntry). x.taken) entry_is ∙ not_taken_at Rest is.0 refl)

  pub round1 : IsOwn v cpu.0 m → (at place1.me.0 m).round ≡ w.round
  round1 own = ap (λ (x : MessageEntry). x.round) entry_is ∙ (sees_own own).round_is

  pub home_held : m < length v.specs → (w.state ≡ Rest) × (w.origin ≡ cpu) → (old : Rec) × IsInFront place1 m old
  home_held within is =
      let own = own_is is.1 in
      let has = sat.hands.own m within own (sat.had m within own) (away_at Rest is.0 own) in
      (has.0, l.front has.0 has.1)

  pub send_done : (target : CpuId) (call : Call) (flags : Flags) (sync : Bool) (word : MsgWord) (rec : Rec) (w2 : View) → (w.state ≡ Rest) × (w.origin ≡ cpu) → w.round < LAST_ROUND → word ≡ sent_word cpu target (w.round + 1) sync flags → rec ≡ sent_rec call
      → IsAfter place1.me.0 m (sent word (call_of rec) (at place1.me.0 m)) (sends (who place1.me.0) m word.target word.round (message_word word) rec) w2 → HasSent cpu v w2 m target call flags sync (w.round + 1)
  send_done target call flags sync word rec w2 is room word_is rec_is after =
      let new : MsgWord = sent_word cpu target (w.round + 1) sync flags in
      let call_is : call_of rec ≡ call = ap call_of rec_is in
      let did : IsAfter place1.me.0 m (sent new call e) (sends (who v) m target (w.round + 1) (message_word new) (sent_rec call)) w2
      = (after.0, (after.1.0, after.1.1 ∙ (λ i. noted after.0 place1.me.0 m (sent (word_is i) (call_is i) (entry_is i)) (sends (who_same i) m (word_is i).target (word_is i).round (message_word (word_is i)) (rec_is i))))) in
      record {
        home = home_is is;
        next = ap (λ (n : ℕ). n + 1) (sym (sees_own (own_is is.1)).round_is);
        within = omega arith;
        found = w;
        loaded = loaded;
        does = Does-two v place1.me.0 w2 m (looked w e) (sent new call e) (loads (who v) m (message_word w)) (sends (who v) m target (w.round + 1) (message_word new) (sent_rec call)) l.view_is did;
      }

  -- a take
  pub take_new : w.state ≡ Out → IsInHand place1.me.0 cpu.0 m → ⊥
  take_new is (inl h) =
      let own : IsOwn v cpu.0 m = ap (λ (x : View). (spec_at x.specs m).origin.cpu.0) (sym l.view_is.1.1) ∙ h.0 in
      let a : true ≡ false = sym (away_at Out is own) ∙ (ap (λ (x : MessageEntry). x.away) (sym entry_is) ∙ h.2) in cc
  take_new is (inr h) =
      let a : false ≡ true = sym (not_taken_at Out is refl) ∙ (ap (λ (x : MessageEntry). x.taken) (sym entry_is) ∙ h) in cc

  pub take_done : (round : ℕ) (rec : Rec) (w2 : View) → IsForTaking cpu round w → HasWon m w place1.me.0 rec w2 → HasTaken cpu v w2 m round rec w.aborted w.priority
  take_done round rec w2 is won =
      let d : Deed = takes (who v) m round (message_word w) rec in
      let view_is : w2 ≡ noted won.between place1.me.0 m (took rec (looked w e)) d = won.view_is ∙ (λ i. noted won.between place1.me.0 m (took rec (entry_is i)) (takes (who_same i) m (is.2 i) (message_word w) rec)) in
      record {
        found = w;
        loaded = loaded;
        allowed = is;
        aborted_is = refl;
        priority_is = refl;
        clean = won.sent.clean;
        put = Last-of place1.me.0 w2 m (took rec (looked w e)) d won.between (λ front. WasSent front m rec) view_is won.sent;
        asked = Last-of place1.me.0 w2 m (took rec (looked w e)) d won.between (λ front. (w.aborted ≡ true) ↔ WasAskedFor w.origin front m) view_is (won.asked (ap shows_away is.0));
        does = Does-two v place1.me.0 w2 m (looked w e) (took rec (looked w e)) (loads (who v) m (message_word w)) d l.view_is (won.between, (won.others, view_is));
      }

  pub take_lost : (round : ℕ) (found : ℕ) (w2 : View) → IsForTaking cpu round w → found ≡ message_word w → HasLost m found place1.me.0 w2 → HasLostTake cpu v w2 m round
  take_lost round found w2 is found_is lost =
      let d : Deed = loses (who v) m (message_word w) (message_word w + 1) lost.0 in
      let did : IsAfter place1.me.0 m (looked w e) d w2
      = (lost.2.0, (lost.2.1.0, lost.2.1.1 ∙ (λ i. noted lost.2.0 place1.me.0 m (entry_is i) (loses (who_same i) m (found_is i) (found_is i + 1) lost.0)))) in
      record {
        found = w;
        loaded = loaded;
        allowed = is;
        other = lost.0;
        differs = λ h. lost.1 (h ∙ sym found_is);
        does = Does-two v place1.me.0 w2 m (looked w e) (looked w e) (loads (who v) m (message_word w)) d l.view_is did;
      }

  -- a reply
  pub unreplied : ((w.state ≡ With) × (w.target ≡ cpu) → ⊥) → IsUnreplied v place1.me.0 m NotTaken
  unreplied not = record { found = w; looked_at = only; is = refl; why = none_taken (shows_with cpu.0 w.state w.target) refl }
    where
      none_taken : (b : Bool) → shows_with cpu.0 w.state w.target ≡ b → e.taken ≡ false
      none_taken true is = absurd (not (with_of cpu w.state w.target is))
      none_taken false is = taken_is ∙ is

  pub reply_taken : (w.state ≡ With) × (w.target ≡ cpu) → e.taken ≡ true
  reply_taken is = taken_is ∙ ((λ i. shows_with cpu.0 (is.0 i) (is.1 i)) ∙ eq-eqb cpu.0 cpu.0 refl)

  pub reply_ready : (w.state ≡ With) × (w.target ≡ cpu) → ((at place1.me.0 m).taken ≡ true) × (IsOwn place1.me.0 cpu.0 m → (at place1.me.0 m).away ≡ true)
  reply_ready is = (
    ap (λ (x : MessageEntry). x.taken) entry_is ∙ reply_taken is,
    λ own. ap (λ (x : MessageEntry). x.away) entry_is ∙ away_at With is.0 (ap (λ (x : View). (spec_at x.specs m).origin.cpu.0) (sym l.view_is.1.1) ∙ own),
  )

  pub reply_held : m < length v.specs → (w.state ≡ With) × (w.target ≡ cpu) → (rec : Rec) × IsInFront place1 m rec × (call_of rec ≡ (at place1.me.0 m).got)
  reply_held within is =
      let has = sat.hands.taken m within (reply_taken is) in
      (has.0, l.front has.0 has.1.0, has.1.1 ∙ ap (λ (x : MessageEntry). x.got) (sym entry_is))

  pub reply_done : (error outcome found : ℕ) (w2 : View) → (w.state ≡ With) × (w.target ≡ cpu) → IsAfter place1.me.0 m (answered error outcome (at place1.me.0 m)) (replies (who place1.me.0) m found (answered_rec (at place1.me.0 m).got error outcome)) w2 → HasReplied v w2 m error outcome
  reply_done error outcome found w2 is after =
      let d : Deed = replies (who v) m found (answered_rec e.got error outcome) in
      let did : IsAfter place1.me.0 m (answered error outcome (looked w e)) d w2
      = (after.0, (after.1.0, after.1.1 ∙ (λ i. noted after.0 place1.me.0 m (answered error outcome (entry_is i)) (replies (who_same i) m found (answered_rec (entry_is i).got error outcome))))) in
      record {
        taken_by_it = reply_taken is;
        found = w;
        loaded = loaded;
        other = found;
        does = Does-two v place1.me.0 w2 m (looked w e) (answered error outcome (looked w e)) (loads (who v) m (message_word w)) d l.view_is did;
      }

  -- a reap
  pub reap_ready : (round : ℕ) → m < length v.specs → IsForReaping cpu round w → IsOwn place1.me.0 cpu.0 m × ((at place1.me.0 m).had ≡ true) × ((at place1.me.0 m).back ≡ true) × ((at place1.me.0 m).away ≡ true) × ((at place1.me.0 m).taken ≡ false)
  reap_ready round within is =
      let own = own_is is.1 in
      (own1 own, ap (λ (x : MessageEntry). x.had) entry_is ∙ sat.had m within own, ap (λ (x : MessageEntry). x.back) entry_is ∙ seen, ap (λ (x : MessageEntry). x.away) entry_is ∙ away_at Back is.0 own, ap (λ (x : MessageEntry). x.taken) entry_is ∙ not_taken_at Back is.0 refl)
    where
      or_true : (a : Bool) (s : MsgState) → s ≡ Back → (a || shows_back s) ≡ true
      or_true true s at_back = refl
      or_true false s at_back = ap shows_back at_back

      seen : (looked w e).back ≡ true
      seen = or_true e.back w.state is.0

  pub reap_done : (round : ℕ) (word : MsgWord) (rec : Rec) (w2 : View) → IsForReaping cpu round w → word ≡ rest_word cpu round → HasFetched m (message_word word) place1.me.0 rec w2 → HasReaped cpu v w2 m round rec
  reap_done round word rec w2 is word_is got =
      let new : MsgWord = rest_word cpu round in
      let own = own_is is.1 in
      let d : Deed = reaps (who v) m (message_word new) rec in
      let view_is : w2 ≡ noted got.between place1.me.0 m (reaped e) d = got.view_is ∙ (λ i. noted got.between place1.me.0 m (reaped (entry_is i)) (reaps (who_same i) m (message_word (word_is i)) rec)) in
      record {
        found = w;
        loaded = loaded;
        allowed = is;
        own = own;
        was_away = away_at Back is.0 own;
        round_is = sym is.2 ∙ sym (sees_own own).round_is;
        call_is = got.call_is ∙ ap (λ (x : MessageEntry). x.call) entry_is;
        put = Last-of place1.me.0 w2 m (reaped e) d got.between (λ front. WasAnswered front m rec) view_is got.answered_;
        does = Does-two v place1.me.0 w2 m (looked w e) (reaped e) (loads (who v) m (message_word w)) d l.view_is (got.between, (got.others, view_is));
      }
