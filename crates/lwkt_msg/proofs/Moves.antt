use Rattle.std.proofs.Common.{◌≡◌, ◌≢◌, ℕ, ◌||◌, Bool, true, false, refl, sym, ◌∙◌, subst, eq-eqb, ne_eqb}
use Rattle.lwkt_base.specs.declared.names.CpuId.{CpuId}
use Rattle.lwkt_base.specs.declared.names.MsgId.{MsgId}
use Rattle.lwkt_base.specs.declared.owners.Owner.{Owner}
use Rattle.lwkt_base.specs.declared.owners.Owner.TheVariants.{Rest, Out, With, Back}
use Rattle.lwkt_base.specs.declared.records.Rec.{Rec}
use Rattle.lwkt_base.specs.declared.message_words.MsgWord.{MsgWord}
use Rattle.lwkt_core.specs.declared.events.Event.{Event}
use Rattle.lwkt_core.specs.declared.events.Event.TheVariants.{Send, TakeMsg, DropMsg, Reply, Reap, Abort}
use Rattle.lwkt_table.specs.declared.seats.SeatKind.{SeatKind}
use Rattle.lwkt_table.specs.declared.seats.SeatKind.TheVariants.{Of}
use Rattle.lwkt_core.specs.Messages.{message_after}
use Rattle.lwkt_msg.specs.declared.views.MessageEntry.{MessageEntry}
use Rattle.lwkt_msg.specs.Views.{call_of, flags_of, looked, handed, sent, took, replied, reaped, dropped, requested, shows_back, StandsFor}
use Rattle.lwkt_msg.specs.Book.{Mail, parts_of, state_of, is_back, KnowsOwn, KnowsTaken, Knows}

-- a message with another owner
abbrev pub owned : Mail → Owner → Mail
owned mail owner = record mail { msg = record mail.msg { owner = owner } }

-- a message after an event; a send also sets how it was sent, and the record may be another
abbrev pub mail_after : Mail → Event → Rec → Mail
mail_after mail e rec = record mail { msg = message_after mail.msg e; rec = rec }

abbrev pub mail_sent : Mail → Event → MsgWord → Rec → Mail
mail_sent mail e w rec = record mail { msg = message_after mail.msg e; sync = w.sync; flags = flags_of w; rec = rec }

-- the two truth values differ
pub never : {A : Type 0} → false ≡ true → A
never e = absurd (let h : false ≡ true = e in cc)

-- what is known of a message by views that do not stand for the processor whose step it is
pub others_keep : (mail mail' : Mail) (cpu : ℕ) (kind : SeatKind) (e : MessageEntry) → (StandsFor kind cpu → ⊥) → mail'.msg.origin ≡ mail.msg.origin
    → (mail.msg.origin.cpu.0 ≢ cpu → KnowsOwn mail e → KnowsOwn mail' e)
    → ((q : ℕ) → cpu ≢ q → KnowsTaken q mail e → KnowsTaken q mail' e) → Knows mail kind e → Knows mail' kind e
others_keep mail mail' cpu kind e not_its same own taken knows = record {
  as_origin = λ stands.
      let stands' : StandsFor kind mail.msg.origin.cpu.0 = subst (λ (t : _). StandsFor kind t.cpu.0) same stands in
      own (λ h. not_its (subst (StandsFor kind) h stands')) (knows.as_origin stands');
  as_target = λ q stands. taken q (λ h. not_its (subst (StandsFor kind) (sym h) stands)) (knows.as_target q stands);
}

-- what the seat of the processor knows whose step it is
pub seat_keeps : (mail mail' : Mail) (cpu : CpuId) (e e' : MessageEntry) → mail'.msg.origin ≡ mail.msg.origin
    → (mail.msg.origin.cpu.0 ≡ cpu.0 → KnowsOwn mail e → KnowsOwn mail' e') → (KnowsTaken cpu.0 mail e → KnowsTaken cpu.0 mail' e')
    → Knows mail (Of cpu) e → Knows mail' (Of cpu) e'
seat_keeps mail mail' cpu e e' same own taken knows = record {
  as_origin = λ stands.
      let stands' : cpu.0 ≡ mail.msg.origin.cpu.0 = subst (λ (t : _). cpu.0 ≡ t.cpu.0) same stands in
      own (sym stands') (knows.as_origin stands');
  as_target = λ q stands. subst (λ (n : ℕ). KnowsTaken n mail' e') stands (taken (knows.as_target cpu.0 refl));
}

module _ (mail : Mail) (o t cpu : CpuId) (m : ℕ) where
  abbrev rest : Mail
  rest = owned mail (Rest o)

  abbrev out : Mail
  out = owned mail (Out o t)

  abbrev with_ : Mail
  with_ = owned mail (With o t)

  abbrev back : Mail
  back = owned mail (Back o t)

  abbrev msg : MsgId
  msg = record { 0 = m }

  -- a send by the origin
  pub send_others : (w : MsgWord) (rec : Rec) → mail.msg.origin.cpu.0 ≡ cpu.0 → (kind : SeatKind) (e : MessageEntry) → (StandsFor kind cpu.0 → ⊥) → Knows rest kind e → Knows (mail_sent rest (Send cpu msg t w.round) w rec) kind e
  send_others w rec own kind e not_its = others_keep rest (mail_sent rest (Send cpu msg t w.round) w rec) cpu.0 kind e not_its refl (λ other. absurd (other own))
      (λ q apart k. record { taken_is = k.taken_is; got_is = λ h. never h; answer_is = λ h. never h })

  pub send_mine : (w : MsgWord) (rec : Rec) (e : MessageEntry) → mail.msg.asked ≡ false → w.target ≡ t → Knows rest (Of cpu) e → Knows (mail_sent rest (Send cpu msg t w.round) w rec) (Of cpu) (sent w (call_of rec) e)
  send_mine w rec e quiet to = seat_keeps rest (mail_sent rest (Send cpu msg t w.round) w rec) cpu e (sent w (call_of rec) e) refl
      (λ own k. record { round_is = refl; away_is = refl; asked_is = sym quiet; had_is = k.had_is; sync_is = refl; flags_is = refl; call_is = refl; target_is = λ h. to; back_is = λ h. never h })
      (λ k. record { taken_is = k.taken_is; got_is = λ h. never h; answer_is = λ h. never h })

  -- a take by the target
  take_own : (e e' : MessageEntry) (round : ℕ) → e'.round ≡ e.round → e'.away ≡ e.away → e'.asked ≡ e.asked → e'.had ≡ e.had → e'.sync ≡ e.sync → e'.flags ≡ e.flags → e'.call ≡ e.call → e'.target ≡ e.target → e'.back ≡ e.back
      → KnowsOwn out e → KnowsOwn (mail_after out (TakeMsg t msg round) mail.rec) e'
  take_own e e' round a b c d f g h l i k = record {
    round_is = a ∙ k.round_is;
    away_is = b ∙ k.away_is;
    asked_is = c ∙ k.asked_is;
    had_is = d ∙ k.had_is;
    sync_is = f ∙ k.sync_is;
    flags_is = g ∙ k.flags_is;
    call_is = h ∙ k.call_is;
    target_is = λ away. l ∙ k.target_is refl;
    back_is = λ seen. never (k.back_is (sym i ∙ seen));
  }

  pub take_others : (round : ℕ) (kind : SeatKind) (e : MessageEntry) → (StandsFor kind t.0 → ⊥) → Knows out kind e → Knows (mail_after out (TakeMsg t msg round) mail.rec) kind e
  take_others round kind e not_its = others_keep out (mail_after out (TakeMsg t msg round) mail.rec) t.0 kind e not_its refl
      (λ other k. take_own e e round refl refl refl refl refl refl refl refl refl k)
      (λ q apart k. record { taken_is = k.taken_is ∙ sym (ne_eqb t.0 q apart); got_is = λ h. never (sym (ne_eqb t.0 q apart) ∙ h); answer_is = λ h. never h })

  pub take_mine : (round : ℕ) (e : MessageEntry) → Knows out (Of t) e → Knows (mail_after out (TakeMsg t msg round) mail.rec) (Of t) (took mail.rec e)
  take_mine round e = seat_keeps out (mail_after out (TakeMsg t msg round) mail.rec) t e (took mail.rec e) refl
      (λ own k. take_own e (took mail.rec e) round refl refl refl refl refl refl refl refl refl k)
      (λ k. record { taken_is = sym (eq-eqb t.0 t.0 refl); got_is = λ h. refl; answer_is = λ h. never h })

  -- a reply by the target
  reply_own : (e e' : MessageEntry) (rec : Rec) → call_of rec ≡ call_of mail.rec → e'.round ≡ e.round → e'.away ≡ e.away → e'.asked ≡ e.asked → e'.had ≡ e.had → e'.sync ≡ e.sync → e'.flags ≡ e.flags → e'.call ≡ e.call → e'.target ≡ e.target
      → KnowsOwn with_ e → KnowsOwn (mail_after with_ (Reply t msg) rec) e'
  reply_own e e' rec same a b c d f g h l k = record {
    round_is = a ∙ k.round_is;
    away_is = b ∙ k.away_is;
    asked_is = c ∙ k.asked_is;
    had_is = d ∙ k.had_is;
    sync_is = f ∙ k.sync_is;
    flags_is = g ∙ k.flags_is;
    call_is = h ∙ (k.call_is ∙ sym same);
    target_is = λ away. l ∙ k.target_is refl;
    back_is = λ seen. refl;
  }

  pub reply_others : (rec : Rec) → call_of rec ≡ call_of mail.rec → (kind : SeatKind) (e : MessageEntry) → (StandsFor kind t.0 → ⊥) → Knows with_ kind e → Knows (mail_after with_ (Reply t msg) rec) kind e
  reply_others rec same kind e not_its = others_keep with_ (mail_after with_ (Reply t msg) rec) t.0 kind e not_its refl
      (λ other k. reply_own e e rec same refl refl refl refl refl refl refl refl k)
      (λ q apart k. record { taken_is = k.taken_is ∙ ne_eqb t.0 q apart; got_is = λ h. never h; answer_is = λ h. never (sym (ne_eqb t.0 q apart) ∙ h) })

  pub reply_mine : (rec : Rec) → call_of rec ≡ call_of mail.rec → (e : MessageEntry) → Knows with_ (Of t) e → Knows (mail_after with_ (Reply t msg) rec) (Of t) (replied rec e)
  reply_mine rec same e = seat_keeps with_ (mail_after with_ (Reply t msg) rec) t e (replied rec e) refl
      (λ own k. reply_own e (replied rec e) rec same refl refl refl refl refl refl refl refl k)
      (λ k. record { taken_is = refl; got_is = λ h. never h; answer_is = λ h. refl })

  -- a reap by the origin
  pub reap_others : mail.msg.origin.cpu.0 ≡ cpu.0 → (kind : SeatKind) (e : MessageEntry) → (StandsFor kind cpu.0 → ⊥) → Knows back kind e → Knows (mail_after back (Reap cpu msg) mail.rec) kind e
  reap_others own kind e not_its = others_keep back (mail_after back (Reap cpu msg) mail.rec) cpu.0 kind e not_its refl (λ other. absurd (other own))
      (λ q apart k. record { taken_is = k.taken_is; got_is = λ h. never h; answer_is = λ h. never h })

  pub reap_mine : (e : MessageEntry) → Knows back (Of cpu) e → Knows (mail_after back (Reap cpu msg) mail.rec) (Of cpu) (reaped e)
  reap_mine e = seat_keeps back (mail_after back (Reap cpu msg) mail.rec) cpu e (reaped e) refl
      (λ own k. record { round_is = k.round_is; away_is = refl; asked_is = refl; had_is = k.had_is; sync_is = k.sync_is; flags_is = k.flags_is; call_is = k.call_is; target_is = λ h. never h; back_is = λ h. never h })
      (λ k. record { taken_is = k.taken_is; got_is = λ h. never h; answer_is = λ h. never h })

  -- a drop by the origin
  pub drop_others : mail.msg.origin.cpu.0 ≡ cpu.0 → (kind : SeatKind) (e : MessageEntry) → (StandsFor kind cpu.0 → ⊥) → Knows out kind e → Knows (mail_after out (DropMsg cpu msg) mail.rec) kind e
  drop_others own kind e not_its = others_keep out (mail_after out (DropMsg cpu msg) mail.rec) cpu.0 kind e not_its refl (λ other. absurd (other own))
      (λ q apart k. record { taken_is = k.taken_is; got_is = λ h. never h; answer_is = λ h. never h })

  pub drop_mine : (e : MessageEntry) → Knows out (Of cpu) e → Knows (mail_after out (DropMsg cpu msg) mail.rec) (Of cpu) (dropped e)
  drop_mine e = seat_keeps out (mail_after out (DropMsg cpu msg) mail.rec) cpu e (dropped e) refl
      (λ own k. record { round_is = k.round_is; away_is = refl; asked_is = refl; had_is = k.had_is; sync_is = k.sync_is; flags_is = k.flags_is; call_is = k.call_is; target_is = λ h. never h; back_is = λ h. never h })
      (λ k. record { taken_is = k.taken_is; got_is = λ h. never h; answer_is = λ h. never h })

  -- a request of the origin to abort
  pub abort_others : mail.msg.origin.cpu.0 ≡ cpu.0 → (kind : SeatKind) (e : MessageEntry) → (StandsFor kind cpu.0 → ⊥) → Knows mail kind e → Knows (mail_after mail (Abort cpu msg) mail.rec) kind e
  abort_others own kind e not_its = others_keep mail (mail_after mail (Abort cpu msg) mail.rec) cpu.0 kind e not_its refl (λ other. absurd (other own))
      (λ q apart k. record { taken_is = k.taken_is; got_is = k.got_is; answer_is = k.answer_is })

  pub abort_mine : (e : MessageEntry) → Knows mail (Of cpu) e → Knows (mail_after mail (Abort cpu msg) mail.rec) (Of cpu) (requested e)
  abort_mine e = seat_keeps mail (mail_after mail (Abort cpu msg) mail.rec) cpu e (requested e) refl
      (λ own k. record { round_is = k.round_is; away_is = k.away_is; asked_is = refl; had_is = k.had_is; sync_is = k.sync_is; flags_is = k.flags_is; call_is = k.call_is; target_is = k.target_is; back_is = k.back_is })
      (λ k. record { taken_is = k.taken_is; got_is = k.got_is; answer_is = k.answer_is })

  -- the record handed out to the origin
  pub hand_others : mail.msg.origin.cpu.0 ≡ cpu.0 → (kind : SeatKind) (e : MessageEntry) → (StandsFor kind cpu.0 → ⊥) → Knows mail kind e → Knows (record mail { had = true }) kind e
  hand_others own kind e not_its = others_keep mail (record mail { had = true }) cpu.0 kind e not_its refl (λ other. absurd (other own))
      (λ q apart k. record { taken_is = k.taken_is; got_is = k.got_is; answer_is = k.answer_is })

  pub hand_mine : (e : MessageEntry) → Knows mail (Of cpu) e → Knows (record mail { had = true }) (Of cpu) (handed e)
  hand_mine e = seat_keeps mail (record mail { had = true }) cpu e (handed e) refl
      (λ own k. record { round_is = k.round_is; away_is = k.away_is; asked_is = k.asked_is; had_is = refl; sync_is = k.sync_is; flags_is = k.flags_is; call_is = k.call_is; target_is = k.target_is; back_is = k.back_is })
      (λ k. record { taken_is = k.taken_is; got_is = k.got_is; answer_is = k.answer_is })

-- a look at the word
seen_back : (o : Owner) (seen : Bool) → (seen ≡ true → is_back o ≡ true) → (seen || shows_back (state_of o)) ≡ true → is_back o ≡ true
seen_back o true known e = known refl
seen_back (Rest o) false known e = never e
seen_back (Out o t) false known e = never e
seen_back (With o t) false known e = never e
seen_back (Back o t) false known e = refl

pub look_mine : (mail : Mail) (cpu : CpuId) (e : MessageEntry) → Knows mail (Of cpu) e → Knows mail (Of cpu) (looked (parts_of mail) e)
look_mine mail cpu e = seat_keeps mail mail cpu e (looked (parts_of mail) e) refl
    (λ own k. record { round_is = k.round_is; away_is = k.away_is; asked_is = k.asked_is; had_is = k.had_is; sync_is = k.sync_is; flags_is = k.flags_is; call_is = k.call_is; target_is = k.target_is; back_is = λ h. seen_back mail.msg.owner e.back k.back_is h })
    (λ k. record { taken_is = k.taken_is; got_is = k.got_is; answer_is = k.answer_is })
