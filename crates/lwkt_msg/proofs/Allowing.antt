use Rattle.std.proofs.Common.{◌≡◌, ◌≢◌, inl, inr, ⊎_elim, ℕ, ◌+◌, ◌%◌, ◌<◌, ◌^◌, eqb, ◌&&◌, Bool, true, false, List, ◌∷◌, ◌++◌, length, set, get_or, refl, ap, sym, ◌∙◌, subst, arith}
use mathlib.Core.Option.{Option, some, none, some-injective}
use lib.ListN.{get_elem?}
use prog.Atomic.{either}
use Rattle.atomic_table.specs.Table.{State, Me, step, Act, keeps, takes, gives, stepped, carried_after, homes_after, Valid, Allows}
use Rattle.atomic_table.proofs.Lists.{exchanged}
use Rattle.lwkt_base.specs.declared.names.CpuId.{CpuId}
use Rattle.lwkt_base.specs.declared.names.ThreadId.{ThreadId}
use Rattle.lwkt_base.specs.declared.opening_specs.MsgSpec.{MsgSpec}
use Rattle.lwkt_base.specs.declared.owners.Owner.{Owner}
use Rattle.lwkt_base.specs.declared.owners.Owner.TheVariants.{Rest, Out, With, Back}
use Rattle.lwkt_base.specs.declared.records.Rec.{Rec}
use Rattle.lwkt_base.specs.declared.records.Flags.{Flags}
use Rattle.lwkt_base.specs.declared.message_words.MsgWord.{MsgWord}
use Rattle.lwkt_base.specs.declared.message_words.MsgState.TheVariants as state
use Rattle.lwkt_base.specs.MessageWord.{message_word, MessageFits}
use Rattle.lwkt_base.specs.declared.limits.TheConstants.{LAST_ROUND}
use Rattle.lwkt_table.specs.declared.seats.Deed.{Deed}
use Rattle.lwkt_table.specs.declared.seats.Operation.TheVariants as operation
use Rattle.lwkt_table.specs.declared.seats.SeatKind.{SeatKind}
use Rattle.lwkt_table.specs.declared.seats.SeatKind.TheVariants.{Of}
use Rattle.lwkt_core.specs.Messages.{is_away, origin_of, target_of}
use Rattle.lwkt_msg.specs.declared.views.MessageEntry.{MessageEntry}
use Rattle.lwkt_msg.specs.declared.views.Key.{Key}
use Rattle.lwkt_msg.specs.declared.views.View.{View}
use Rattle.lwkt_msg.specs.Views.{word_at, slot_at, spec_at, call_of, at, who, noted, looked, handed, sent, took, replied, reaped, shows_away, shows_back, shows_with, Sees, SeesOwn, StandsFor}
use Rattle.lwkt_msg.specs.Book.{Mail, parts_of, state_of, shown_target, in_slot, is_taken, is_back, KnowsOwn, Knows, IsKept, mail_at, Rule}
use Rattle.lwkt_msg.specs.Hands.{Has, AreSame, IsOwn, IsInHand, AreHands}
use Rattle.lwkt_msg.specs.Steps.{sent_word, rest_word}
use Rattle.lwkt_msg.specs.Deeds as deed
use Rattle.lwkt_msg.specs.Ledger.{Ledger, StepIsDeed}
use Rattle.lwkt_msg.specs.Records.{WasSent, WasAnswered, IsPosted, IsAskedSo}
use Rattle.lwkt_msg.specs.Plays.{IsAfter, IsAskedBy, Looked, looks, sends_it, Took, takes_it, replies_to_it, HasFetched, reaps_it, hands_out}
use Rattle.lwkt_msg.proofs.WordFacts.{message_word-injective}
use Rattle.lwkt_msg.proofs.Bringing.{AreSame-refl, find_slot, bring}
use Rattle.lwkt_msg.proofs.Moves.{never, look_mine}
use Rattle.lwkt_msg.proofs.Frames.{seat_plan}
use Rattle.lwkt_msg.proofs.Leading as lead
use Rattle.lwkt_msg.proofs.Recording.{records_decided}
use Rattle.lwkt_msg.proofs.Asking.{requests_decided}
use Rattle.lwkt_msg.proofs.StepDeeds.{who_is}
use Rattle.lwkt_msg.proofs.StepDeeds as stepping

-- a play speaks of the one message whose word the step is on
pub at_word : (m : ℕ) (P : ℕ → Type 0) → P m → (k : ℕ) → word_at m ≡ word_at k → P k
at_word m P here k same = let is : m ≡ k = omega arith in subst P is here

-- what the word of a message shows of its owner
away_shown : (o : Owner) → is_away o ≡ shows_away (state_of o)
away_shown (Rest o) = refl
away_shown (Out o t) = refl
away_shown (With o t) = refl
away_shown (Back o t) = refl

back_shown : (o : Owner) → is_back o ≡ true → shows_back (state_of o) ≡ true
back_shown (Rest o) e = never e
back_shown (Out o t) e = never e
back_shown (With o t) e = never e
back_shown (Back o t) e = refl

with_shown : (cpu : ℕ) (o : Owner) → is_taken cpu o ≡ shows_with cpu (state_of o) (shown_target o)
with_shown cpu (Rest o) = refl
with_shown cpu (Out o t) = refl
with_shown cpu (With o t) = refl
with_shown cpu (Back o t) = refl

flag_shown : (away flag : Bool) → away ≡ true → (away && flag) ≡ flag
flag_shown true flag e = refl
flag_shown false flag e = never e

in_slot_rest : (o : Owner) (had : Bool) (rec : Rec) → is_away o ≡ false → had ≡ true → in_slot o had rec ≡ none
in_slot_rest (Rest o) had rec home is = ap (λ (b : Bool). in_slot (Rest o) b rec) is
in_slot_rest (Out o t) had rec home is = never (sym home)
in_slot_rest (With o t) had rec home is = never (sym home)
in_slot_rest (Back o t) had rec home is = never (sym home)

in_slot_taken : (cpu : ℕ) (o : Owner) (had : Bool) (rec : Rec) → is_taken cpu o ≡ true → in_slot o had rec ≡ none
in_slot_taken cpu (Rest o) had rec is = never is
in_slot_taken cpu (Out o t) had rec is = never is
in_slot_taken cpu (With o t) had rec is = refl
in_slot_taken cpu (Back o t) had rec is = never is

-- two records at one place are one
one_record : (hands : List (ℕ × Rec)) (slot : ℕ) (y z : Rec) (i j : ℕ) → get_elem? hands i ≡ some (slot, y) → get_elem? hands j ≡ some (slot, z) → i ≡ j → y ≡ z
one_record hands slot y z i j a b same =
    let F : ℕ → Type 0 = λ k. get_elem? hands k ≡ some (slot, y) in
    let h : some (slot, y) ≡ some (slot, z) = sym (subst F same a) ∙ b in
    ap (λ (x : ℕ × Rec). x.1) (some-injective (slot, y) (slot, z) h)

module _ (key : Key) (s : State Rec View) (id : ℕ) (v : View) (cpu : CpuId) (m : ℕ) (rule : Rule key s) (e : get_elem? s.views id ≡ some v) (is_seat : v.kind ≡ Of cpu) (within : m < length v.specs) where
  pub there : m < length key.specs.items
  there = subst (λ (xs : List MsgSpec). m < length xs) (seat_plan key rule.mails s id v cpu rule.book e is_seat).1 within

  abbrev mail : Mail
  mail = mail_at rule.mails m

  pub kept : IsKept key.cpus (spec_at key.specs.items m) mail (get_or s.words (word_at m) 0) (get_elem? s.homes (slot_at m)) m s.views
  kept = lead.kept key rule.mails s id v cpu m rule.book e is_seat there

  knows : Knows mail (Of cpu) (at v m)
  knows = lead.knows key rule.mails s id v cpu m rule.book e is_seat there

  -- what a word shows is what the view knows
  pub sees : Sees v m (parts_of mail)
  sees = record {
    origin_is = kept.safe.home ∙ (ap (λ (t : ThreadId). t.cpu) kept.origin_is ∙ ap (λ (xs : List MsgSpec). (spec_at xs m).origin.cpu) (sym (seat_plan key rule.mails s id v cpu rule.book e is_seat).1));
    as_origin = λ stands. sees_own (knows.as_origin (subst (λ (c : CpuId). StandsFor (Of cpu) c.0) kept.safe.home (subst (λ (k : SeatKind). StandsFor k (parts_of mail).origin.0) is_seat stands)));
    as_target = λ q stands. (knows.as_target q (subst (λ (k : SeatKind). StandsFor k q) is_seat stands)).taken_is ∙ with_shown q mail.msg.owner;
  }
    where
      sees_own : KnowsOwn mail (at v m) → SeesOwn (at v m) (parts_of mail)
      sees_own k = record {
        round_is = k.round_is;
        away_is = k.away_is ∙ away_shown mail.msg.owner;
        asked_is = k.asked_is;
        back_is = λ seen. back_shown mail.msg.owner (k.back_is seen);
        target_is = λ away. sym (k.target_is (away_shown mail.msg.owner ∙ away));
        flags_is = λ away.
            let gone : is_away mail.msg.owner ≡ true = away_shown mail.msg.owner ∙ away in (
              flag_shown (is_away mail.msg.owner) mail.sync gone ∙ sym k.sync_is,
              (λ i. record { dropable = flag_shown (is_away mail.msg.owner) mail.flags.dropable gone i; abortable = flag_shown (is_away mail.msg.owner) mail.flags.abortable gone i; priority = flag_shown (is_away mail.msg.owner) mail.flags.priority gone i }) ∙ sym k.flags_is,
            );
      }

  pub parts_fit : MessageFits (parts_of mail)
  parts_fit = lead.parts_fit key rule.mails s id v cpu m rule.book e is_seat there

  -- a record that the seat has in hand isn't at home
  pub not_home : IsInHand v cpu.0 m → get_elem? s.homes (slot_at m) ≡ some none
  not_home (inl h) =
      let k = lead.knows_own key rule.mails s id v cpu m rule.book e is_seat there h.0 in
      kept.slot ∙ ap (λ (o : Option Rec). some o) (in_slot_rest mail.msg.owner mail.had mail.rec (sym k.away_is ∙ h.2) (sym k.had_is ∙ h.1))
  not_home (inr h) =
      let k = lead.knows_taken key rule.mails s id v cpu m rule.book e is_seat there in
      kept.slot ∙ ap (λ (o : Option Rec). some o) (in_slot_taken cpu.0 mail.msg.owner mail.had mail.rec (sym k.taken_is ∙ h))

-- what a step says of its deed, by the processor of the view
pub deed_by_who : (key : Key) (s : State Rec View) (ledger : Ledger key s) (id : ℕ) (v : View) (cpu : CpuId) (is_seat : v.kind ≡ Of cpu) (hands : List (ℕ × Rec)) (m : ℕ) (e : MessageEntry) (d : CpuId → Deed) (word : ℕ) (act : Act Rec)
    → (t : StepIsDeed key s ledger id v hands m e (d cpu) word act) → noted t.between v m e (d cpu) ≡ noted t.between v m e (d (who v))
deed_by_who key s ledger id v cpu is_seat hands m e d word act t = ap (λ (c : CpuId). noted t.between v m e (d c)) (sym (who_is v cpu is_seat))

-- what a word shows of a request to abort is so by the history
asked_shown : (deeds : List Deed) (m : ℕ) (mail : Mail) → IsAskedSo deeds m mail.msg.owner mail.msg.asked → IsAskedBy deeds m (parts_of mail)
asked_shown deeds m mail known shown = known.away (away_shown mail.msg.owner ∙ shown)

pub was_asked : (key : Key) (s : State Rec View) (m : ℕ) (ledger : Ledger key s) → m < length key.specs.items → (front : List Deed) → front ≡ ledger.chronicle.history → IsAskedBy front m (parts_of (mail_at ledger.rule.mails m))
was_asked key s m ledger there front seen =
    let mail : Mail = mail_at ledger.rule.mails m in
    let known : IsAskedSo ledger.chronicle.history m mail.msg.owner mail.msg.asked = requests_decided key.cpus key.specs.items ledger.chronicle.history ledger.rule.mails ledger.chronicle.passes m (let h = ledger.rule.book.as_many in omega arith) in
    let F : List Deed → Type 0 = λ x. IsAskedBy x m (parts_of mail) in
    subst F (sym seen) (asked_shown ledger.chronicle.history m mail known)

-- a load of a message's word
pub look_allowed : (key : Key) (slots id : ℕ) (me : Me Rec View) (cpu : CpuId) (m : ℕ) → me.0.kind ≡ Of cpu → m < length me.0.specs → AreHands me.0 cpu.0 me.1
    → Allows (Ledger key) slots id me (word_at m) (λ n. n) (looks (step slots (word_at m) 0 0 none) me)
look_allowed key slots id me cpu m is_seat within hands s ledger deep at_id small =
    ⊎_elim
    (λ (found : (rec : Rec) × Has me.1 (slot_at m) rec). with_front found.0 found.1)
    (λ (not_there : (rec : Rec) → Has me.1 (slot_at m) rec → ⊥).
    let t = look keeps tt refl in
    (noted t.between me.0 m e' d, keeps, tt, t.after, shows_it keeps tt refl me.1 refl (AreSame-refl me.1) (λ rec has. absurd (not_there rec has))))
    (find_slot me.1 (slot_at m))
  where
    n : ℕ
    n = get_or s.words (word_at m) 0

    mail : Mail
    mail = mail_at ledger.rule.mails m

    e' : MessageEntry
    e' = looked (parts_of mail) (at me.0 m)

    d : Deed
    d = deed.loads cpu m n

    here : m < length key.specs.items
    here = there key s id me.0 cpu m ledger.rule at_id is_seat within

    look : (act : Act Rec) → Valid s.homes me.1 act → homes_after s.homes me.1 act ≡ s.homes → StepIsDeed key s ledger id me.0 me.1 m e' d n act
    look act valid same = stepping.look_is_deed key s id me.0 cpu m ledger at_id is_seat here e' operation.Load me.1 act valid same (look_mine mail cpu (at me.0 m)) (inl refl)

    shows_it : (act : Act Rec) (valid : Valid s.homes me.1 act) (homes : homes_after s.homes me.1 act ≡ s.homes) (hands' : List (ℕ × Rec)) → carried_after me.1 act ≡ hands' → AreSame me.1 hands' → ((rec : Rec) → Has me.1 (slot_at m) rec → (others : List (ℕ × Rec)) × (hands' ≡ (slot_at m, rec) ∷ others))
        → looks (step slots (word_at m) 0 0 none) me n (noted (look act valid homes).between me.0 m e' d, hands')
    shows_it act valid homes hands' is same front =
        let t = look act valid homes in
        at_word m (λ k. Looked k me n (noted t.between me.0 m e' d, hands')) record {
          parts = parts_of mail;
          fits = parts_fit key s id me.0 cpu m ledger.rule at_id is_seat within;
          is_word = (kept key s id me.0 cpu m ledger.rule at_id is_seat within).is_word;
          sees = sees key s id me.0 cpu m ledger.rule at_id is_seat within;
          view_is = (t.between, (t.others, deed_by_who key s ledger id me.0 cpu is_seat me.1 m e' (λ c. deed.loads c m n) n act t));
          asked = was_asked key s m ledger here (me.0.past ++ t.between) t.front;
          same = same;
          front = front;
        }

    out : (k : ℕ) (y : Rec) → Has me.1 k y → get_elem? s.homes k ≡ some none
    out k y has =
        let h = hands.all k y has in
        let F : ℕ → Type 0 = λ i. get_elem? s.homes i ≡ some none in
        subst F (sym h.2) (not_home key s id me.0 cpu h.0 ledger.rule at_id is_seat h.1 h.3)

    with_front : (rec : Rec) → Has me.1 (slot_at m) rec → (w : View) × (a : Act Rec) × Valid s.homes me.1 a × Ledger key (stepped s (word_at m) n id me.1 w a) × looks (step slots (word_at m) 0 0 none) me n (w, carried_after me.1 a)
    with_front rec has =
        let b = bring me.1 has.0 s.homes (slot_at m) rec hands.apart out has.1 in
        let F : List (ℕ × Rec) → Type 0 = λ c. AreSame me.1 c in
        let front : (y : Rec) → Has me.1 (slot_at m) y → (others : List (ℕ × Rec)) × (carried_after me.1 b.act ≡ (slot_at m, y) ∷ others)
        = λ y has'.
        let is : y ≡ rec = one_record me.1 (slot_at m) y rec has'.0 has.0 has'.1 has.1 (hands.apart.one has'.0 has.0 (slot_at m) y rec has'.1 has.1) in
        (b.others, b.carried ∙ ap (λ (z : Rec). (slot_at m, z) ∷ b.others) (sym is)) in
        let t = look b.act b.valid b.homes_same in
        (noted t.between me.0 m e' d, b.act, b.valid, t.after, shows_it b.act b.valid b.homes_same (carried_after me.1 b.act) refl (subst F (sym b.carried) b.same) front)

-- the first of a list, and what is behind it
pub first_same : (x y : ℕ × Rec) (xs ys : List (ℕ × Rec)) → x ∷ xs ≡ y ∷ ys → x ≡ y
first_same x y xs ys e = some-injective x y (ap (λ (l : List (ℕ × Rec)). get_elem? l 0) e)

-- what a message's record is, by the history up to this step
module _ (key : Key) (s : State Rec View) (m : ℕ) (ledger : Ledger key s) (there : m < length key.specs.items) where
  posted : IsPosted ledger.chronicle.history m (mail_at ledger.rule.mails m).msg.owner (mail_at ledger.rule.mails m).rec
  posted = records_decided key.cpus key.specs.items ledger.chronicle.history ledger.rule.mails ledger.chronicle.passes m (let h = ledger.rule.book.as_many in omega arith)

  pub was_sent : (o t : CpuId) (front : List Deed) → (mail_at ledger.rule.mails m).msg.owner ≡ Out o t → front ≡ ledger.chronicle.history → WasSent front m (mail_at ledger.rule.mails m).rec
  was_sent o t front out seen =
      let F : Owner → Type 0 = λ x. IsPosted ledger.chronicle.history m x (mail_at ledger.rule.mails m).rec in
      let G : List Deed → Type 0 = λ x. WasSent x m (mail_at ledger.rule.mails m).rec in
      subst G (sym seen) (subst F out posted)

  pub was_answered : (o t : CpuId) (front : List Deed) → (mail_at ledger.rule.mails m).msg.owner ≡ Back o t → front ≡ ledger.chronicle.history → WasAnswered front m (mail_at ledger.rule.mails m).rec
  was_answered o t front back seen =
      let F : Owner → Type 0 = λ x. IsPosted ledger.chronicle.history m x (mail_at ledger.rule.mails m).rec in
      let G : List Deed → Type 0 = λ x. WasAnswered x m (mail_at ledger.rule.mails m).rec in
      subst G (sym seen) (subst F back posted)

-- a place at a step: the message's number is that of the table's
module _ (key : Key) (id : ℕ) (me : Me Rec View) (cpu : CpuId) (m : ℕ) (is_seat : me.0.kind ≡ Of cpu) (within : m < length me.0.specs) where
  -- the store of a send
  pub send_allowed : (slots : ℕ) (to : CpuId) (sync : Bool) (flags : Flags) (rec : Rec) (others : List (ℕ × Rec)) → me.1 ≡ (slot_at m, rec) ∷ others → IsOwn me.0 cpu.0 m → (at me.0 m).away ≡ false
      → cpu.0 < 8 → to.0 < 8 → to.0 < me.0.cpus → (at me.0 m).round < LAST_ROUND → rec.error ≡ 0 → rec.result ≡ 0
      → Allows (Ledger key) slots id me (word_at m) (λ _. message_word (sent_word cpu to ((at me.0 m).round + 1) sync flags))
      (λ _. sends_it (step slots (word_at m) (message_word (sent_word cpu to ((at me.0 m).round + 1) sync flags)) 0 none) me (message_word (sent_word cpu to ((at me.0 m).round + 1) sync flags)))
  send_allowed slots to sync flags rec others front own home few_cpu few_to to_there room no_error no_result s ledger deep at_id small =
      let w : MsgWord = sent_word cpu to ((at me.0 m).round + 1) sync flags in
      let n : ℕ = message_word w in
      let plan = seat_plan key ledger.rule.mails s id me.0 cpu ledger.rule.book at_id is_seat in
      let to_here : to.0 < key.cpus = subst (λ (k : ℕ). to.0 < k) plan.0 to_there in
      let e' : MessageEntry = sent w (call_of rec) (at me.0 m) in
      let t = stepping.send_is_deed key s id me.0 cpu m ledger at_id is_seat (there key s id me.0 cpu m ledger.rule at_id is_seat within) to sync flags rec others own home to_here room no_error no_result in
      let v' : View = noted t.between me.0 m e' (deed.sends cpu m to w.round n rec) in
      let F : List (ℕ × Rec) → Type 0 = λ c. Ledger key record { words = set s.words (word_at m) n; homes = homes_after s.homes c gives; views = set s.views id v' } in
      let fits : MessageFits w = (few_cpu, few_to, omega arith) in
      let same = deed_by_who key s ledger id me.0 cpu is_seat ((slot_at m, rec) ∷ others) m e' (λ c. deed.sends c m to w.round n rec) n gives t in
      let shows_it : (k : ℕ) → word_at m ≡ word_at k → (x : MsgWord) → MessageFits x → n ≡ message_word x → (y : Rec) (others' : List (ℕ × Rec)) → me.1 ≡ (slot_at k, y) ∷ others'
      → IsAfter me.0 k (sent x (call_of y) (at me.0 k)) (deed.sends (who me.0) k x.target x.round n y) v' × (carried_after me.1 gives ≡ others')
      = at_word m (λ k. (x : MsgWord) → MessageFits x → n ≡ message_word x → (y : Rec) (others' : List (ℕ × Rec)) → me.1 ≡ (slot_at k, y) ∷ others' → IsAfter me.0 k (sent x (call_of y) (at me.0 k)) (deed.sends (who me.0) k x.target x.round n y) v' × (carried_after me.1 gives ≡ others'))
      (λ x x_fits is y others' front'.
      let w_is : w ≡ x = message_word-injective w x fits x_fits is in
      let rec_is : rec ≡ y = ap (λ (h : ℕ × Rec). h.1) (first_same (slot_at m, rec) (slot_at m, y) others others' (sym front ∙ front')) in
      ((t.between, (t.others, same ∙ (λ i. noted t.between me.0 m (sent (w_is i) (call_of (rec_is i)) (at me.0 m)) (deed.sends (who me.0) m (w_is i).target (w_is i).round n (rec_is i))))), ap (λ (c : List (ℕ × Rec)). carried_after c gives) front')) in
      (v', gives, tt, subst F (sym front) t.after, shows_it)

  -- the exchange of a take
  pub take_allowed : (slots old new : ℕ) (w : MsgWord) → old ≡ message_word w → new ≡ message_word w + 1 → MessageFits w → w.state ≡ state.Out → w.target ≡ cpu
      → Allows (Ledger key) slots id me (word_at m) (λ n. either (eqb n old) new n) (takes_it (step slots (word_at m) old new none) me)
  take_allowed slots old new w old_is new_is fits out to s ledger deep at_id small =
      exchanged n old new
      (λ x. (v' : View) × (a : Act Rec) × Valid s.homes me.1 a × Ledger key (stepped s (word_at m) x id me.1 v' a) × takes_it (step slots (word_at m) old new none) me n (v', carried_after me.1 a))
      hit miss
    where
      n : ℕ
      n = get_or s.words (word_at m) 0

      here : m < length key.specs.items
      here = there key s id me.0 cpu m ledger.rule at_id is_seat within

      rec : Rec
      rec = (mail_at ledger.rule.mails m).rec

      hit : n ≡ old → (v' : View) × (a : Act Rec) × Valid s.homes me.1 a × Ledger key (stepped s (word_at m) new id me.1 v' a) × takes_it (step slots (word_at m) old new none) me n (v', carried_after me.1 a)
      hit found =
          let t = stepping.take_is_deed key s id me.0 cpu m ledger at_id is_seat here w me.1 (found ∙ old_is) fits out to in
          let e' : MessageEntry = took rec (at me.0 m) in
          let v' : View = noted t.between me.0 m e' (deed.takes cpu m w.round (message_word w) rec) in
          let F : ℕ → Type 0 = λ x. Ledger key record { words = set s.words (word_at m) x; homes = set s.homes (slot_at m) none; views = set s.views id v' } in
          let same = deed_by_who key s ledger id me.0 cpu is_seat me.1 m e' (λ c. deed.takes c m w.round (message_word w) rec) (message_word w + 1) (takes (slot_at m) rec) t in
          let owner_is = lead.goes_to key ledger.rule.mails s id me.0 cpu m ledger.rule.book at_id is_seat here w (found ∙ old_is) fits out to in
          let shows_it : (k : ℕ) → word_at m ≡ word_at k → (x : MsgWord) → MessageFits x → old ≡ message_word x → Took k x old new me n (v', (slot_at m, rec) ∷ me.1)
          = at_word m (λ k. (x : MsgWord) → MessageFits x → old ≡ message_word x → Took k x old new me n (v', (slot_at m, rec) ∷ me.1))
          (λ x x_fits is.
          let w_is : w ≡ x = message_word-injective w x fits x_fits (sym old_is ∙ is) in
          let shown_is : parts_of (mail_at ledger.rule.mails m) ≡ w = lead.parts_are key ledger.rule.mails s id me.0 cpu m ledger.rule.book at_id is_seat here w (found ∙ old_is) fits in
          record {
            won = λ _. (
              rec,
              record {
                between = t.between;
                others = t.others;
                view_is = same ∙ (λ i. noted t.between me.0 m e' (deed.takes (who me.0) m (w_is i).round (message_word (w_is i)) rec));
                sent = was_sent key s m ledger here (origin_of (mail_at ledger.rule.mails m).msg.owner) cpu (me.0.past ++ t.between) owner_is t.front;
                asked = let F : MsgWord → Type 0 = λ y. IsAskedBy (me.0.past ++ t.between) m y in subst F (shown_is ∙ w_is) (was_asked key s m ledger here (me.0.past ++ t.between) t.front);
              },
              refl,
            );
            lost = λ other. absurd (other found);
          }) in
          (v', takes (slot_at m) rec, t.valid, subst F (sym new_is) t.after, shows_it)

      miss : n ≢ old → (v' : View) × (a : Act Rec) × Valid s.homes me.1 a × Ledger key (stepped s (word_at m) n id me.1 v' a) × takes_it (step slots (word_at m) old new none) me n (v', carried_after me.1 a)
      miss other =
          let t = stepping.look_is_deed key s id me.0 cpu m ledger at_id is_seat here (at me.0 m) (operation.Exchange old new) me.1 keeps tt refl (λ known. known) (inr (old, new, (refl, other))) in
          let v' : View = noted t.between me.0 m (at me.0 m) (deed.loses cpu m old new n) in
          let same = deed_by_who key s ledger id me.0 cpu is_seat me.1 m (at me.0 m) (λ c. deed.loses c m old new n) n keeps t in (
            v',
            keeps,
            tt,
            t.after,
            at_word m (λ k. (x : MsgWord) → MessageFits x → old ≡ message_word x → Took k x old new me n (v', me.1))
                (λ x x_fits is. record { won = λ found. absurd (other found); lost = λ _. ((t.between, (t.others, same)), refl) }),
          )

  -- the addition of a reply
  pub reply_allowed : (slots : ℕ) (rec : Rec) (others : List (ℕ × Rec)) → me.1 ≡ (slot_at m, rec) ∷ others → (at me.0 m).taken ≡ true → call_of rec ≡ (at me.0 m).got
      → Allows (Ledger key) slots id me (word_at m) (λ n. (n + 1) % 2 ^ 64) (replies_to_it (step slots (word_at m) 1 0 none) me)
  reply_allowed slots rec others front taken same_call s ledger deep at_id small =
      let n : ℕ = get_or s.words (word_at m) 0 in
      let e' : MessageEntry = replied rec (at me.0 m) in
      let t = stepping.reply_is_deed key s id me.0 cpu m ledger at_id is_seat (there key s id me.0 cpu m ledger.rule at_id is_seat within) rec others taken same_call in
      let v' : View = noted t.between me.0 m e' (deed.replies cpu m n rec) in
      let is_word : n ≡ message_word (parts_of (mail_at ledger.rule.mails m)) = (kept key s id me.0 cpu m ledger.rule at_id is_seat within).is_word in
      let below : message_word (parts_of (mail_at ledger.rule.mails m)) + 1 < 2 ^ 64 = lead.taken_below key ledger.rule.mails s id me.0 cpu m ledger.rule.book at_id is_seat (there key s id me.0 cpu m ledger.rule at_id is_seat within) taken in
      let next : (n + 1) % 2 ^ 64 ≡ n + 1 = omega arith in
      let F : ℕ → Type 0 = λ x. Ledger key record { words = set s.words (word_at m) x; homes = set s.homes (slot_at m) (some rec); views = set s.views id v' } in
      let G : List (ℕ × Rec) → Type 0 = λ c. Ledger key record { words = set s.words (word_at m) ((n + 1) % 2 ^ 64); homes = homes_after s.homes c gives; views = set s.views id v' } in
      let same = deed_by_who key s ledger id me.0 cpu is_seat ((slot_at m, rec) ∷ others) m e' (λ c. deed.replies c m n rec) (n + 1) gives t in
      let shows_it : (k : ℕ) → word_at m ≡ word_at k → (y : Rec) (others' : List (ℕ × Rec)) → me.1 ≡ (slot_at k, y) ∷ others' → IsAfter me.0 k (replied y (at me.0 k)) (deed.replies (who me.0) k n y) v' × (carried_after me.1 gives ≡ others')
      = at_word m (λ k. (y : Rec) (others' : List (ℕ × Rec)) → me.1 ≡ (slot_at k, y) ∷ others' → IsAfter me.0 k (replied y (at me.0 k)) (deed.replies (who me.0) k n y) v' × (carried_after me.1 gives ≡ others'))
      (λ y others' front'.
      let rec_is : rec ≡ y = ap (λ (h : ℕ × Rec). h.1) (first_same (slot_at m, rec) (slot_at m, y) others others' (sym front ∙ front')) in
      ((t.between, (t.others, same ∙ (λ i. noted t.between me.0 m (replied (rec_is i) (at me.0 m)) (deed.replies (who me.0) m n (rec_is i))))), ap (λ (c : List (ℕ × Rec)). carried_after c gives) front')) in
      (v', gives, tt, subst G (sym front) (subst F (sym next) t.after), shows_it)

  -- the store of a reap
  pub reap_allowed : (slots : ℕ) → IsOwn me.0 cpu.0 m → (at me.0 m).had ≡ true → (at me.0 m).back ≡ true
      → Allows (Ledger key) slots id me (word_at m) (λ _. message_word (rest_word cpu (at me.0 m).round)) (λ _. reaps_it (step slots (word_at m) (message_word (rest_word cpu (at me.0 m).round)) 0 none) me (message_word (rest_word cpu (at me.0 m).round)))
  reap_allowed slots own had seen s ledger deep at_id small =
      let n : ℕ = message_word (rest_word cpu (at me.0 m).round) in
      let mail : Mail = mail_at ledger.rule.mails m in
      let here : m < length key.specs.items = there key s id me.0 cpu m ledger.rule at_id is_seat within in
      let e' : MessageEntry = reaped (at me.0 m) in
      let t = stepping.reap_is_deed key s id me.0 cpu m ledger at_id is_seat here me.1 own had seen in
      let slot = lead.back_slot key ledger.rule.mails s id me.0 cpu m ledger.rule.book at_id is_seat here own seen in
      let v' : View = noted t.between me.0 m e' (deed.reaps cpu m n mail.rec) in
      let same = deed_by_who key s ledger id me.0 cpu is_seat me.1 m e' (λ c. deed.reaps c m n mail.rec) n (takes (slot_at m) mail.rec) t in
      let owner_is = lead.came_back key ledger.rule.mails s id me.0 cpu m ledger.rule.book at_id is_seat here own seen in (
        v',
        takes (slot_at m) mail.rec,
        t.valid,
        t.after,
        at_word m (λ k. (y : Rec) × HasFetched k n me.0 y v' × ((slot_at m, mail.rec) ∷ me.1 ≡ (slot_at k, y) ∷ me.1))
            (mail.rec, record { between = t.between; others = t.others; view_is = same; call_is = slot.1; answered_ = was_answered key s m ledger here (origin_of mail.msg.owner) (target_of mail.msg.owner) (me.0.past ++ t.between) owner_is t.front }, refl),
      )

  -- the load at the opening that hands a record out
  pub hand_allowed : (slots : ℕ) → IsOwn me.0 cpu.0 m → (at me.0 m).had ≡ false → (at me.0 m).away ≡ false
      → Allows (Ledger key) slots id me (word_at m) (λ n. n) (hands_out (step slots (word_at m) 0 0 none) me)
  hand_allowed slots own had home s ledger deep at_id small =
      let n : ℕ = get_or s.words (word_at m) 0 in
      let rec : Rec = (mail_at ledger.rule.mails m).rec in
      let e' : MessageEntry = handed (at me.0 m) in
      let t = stepping.handing_is_deed key s id me.0 cpu m ledger at_id is_seat (there key s id me.0 cpu m ledger.rule at_id is_seat within) me.1 own had home in
      let v' : View = noted t.between me.0 m e' (deed.hands_out cpu m n rec) in
      let same = deed_by_who key s ledger id me.0 cpu is_seat me.1 m e' (λ c. deed.hands_out c m n rec) n (takes (slot_at m) rec) t in
      let here = there key s id me.0 cpu m ledger.rule at_id is_seat within in
      let owner_is = lead.rests key ledger.rule.mails s id me.0 cpu m ledger.rule.book at_id is_seat here own home in
      let k = lead.knows_own key ledger.rule.mails s id me.0 cpu m ledger.rule.book at_id is_seat here own in
      let it = kept key s id me.0 cpu m ledger.rule at_id is_seat within in
      let quiet = it.safe.quiet (sym k.away_is ∙ home) in
      let mail : Mail = mail_at ledger.rule.mails m in
      let shown : parts_of mail ≡ rest_word (who me.0) (at me.0 m).round
      = (λ i. record { round = sym k.round_is i; state = state_of (owner_is i); origin = origin_of (owner_is i); target = shown_target (owner_is i); aborted = quiet i; sync = is_away (owner_is i) && mail.sync; dropable = is_away (owner_is i) && mail.flags.dropable; abortable = is_away (owner_is i) && mail.flags.abortable; priority = is_away (owner_is i) && mail.flags.priority })
      ∙ ap (λ (c : CpuId). rest_word c (at me.0 m).round) (sym (who_is me.0 cpu is_seat)) in
      let found_is : n ≡ message_word (rest_word (who me.0) (at me.0 m).round) = it.is_word ∙ ap message_word shown in (
        v',
        takes (slot_at m) rec,
        t.valid,
        t.after,
        at_word m (λ k. (y : Rec) × IsAfter me.0 k (handed (at me.0 k)) (deed.hands_out (who me.0) k n y) v' × ((slot_at m, rec) ∷ me.1 ≡ (slot_at k, y) ∷ me.1) × (n ≡ message_word (rest_word (who me.0) (at me.0 k).round))) (rec, (t.between, (t.others, same)), refl, found_is),
      )
