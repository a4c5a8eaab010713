use Rattle.std.proofs.Common.{◌≡◌, ◌≢◌, ◌⊎◌, inl, inr, ⊎_elim, ℕ, ◌+◌, ◌%◌, ◌^◌, ◌<◌, Bool, true, false, List, [], ◌∷◌, length, set, get_or, refl, ap, sym, ◌∙◌, subst, arith, eq-eqb, ne_eqb}
use Rattle.std.specs.Prelude.{bit_or}
use mathlib.Core.Option.{Option, some}
use lib.ListN.{get_elem?}
use Rattle.atomic_table.specs.Table.{State, Act, keeps, takes, gives, Valid, homes_after, stepped}
use Rattle.lwkt_base.specs.declared.names.CpuId.{CpuId}
use Rattle.lwkt_base.specs.declared.records.Rec.{Rec}
use Rattle.lwkt_base.specs.declared.records.Flags.{Flags}
use Rattle.lwkt_base.specs.declared.message_words.MsgWord.{MsgWord}
use Rattle.lwkt_base.specs.declared.message_words.MsgState.TheVariants as state
use Rattle.lwkt_base.specs.MessageWord.{message_word, MessageFits}
use Rattle.lwkt_core.specs.declared.events.Event.{Event}
use Rattle.lwkt_core.specs.declared.events.Event.TheVariants.{Send, TakeMsg, DropMsg, Reply, Reap, Abort}
use Rattle.lwkt_core.specs.declared.events.Place.TheVariants.{AtMessage}
use Rattle.lwkt_base.specs.declared.limits.TheConstants.{LAST_ROUND}
use Rattle.lwkt_table.specs.declared.seats.Deed.{Deed}
use Rattle.lwkt_table.specs.declared.seats.Operation.{Operation}
use Rattle.lwkt_table.specs.declared.seats.Operation.TheVariants.{Store, Exchange, Add, Or}
use Rattle.lwkt_table.specs.declared.seats.Operation.TheVariants as operate
use Rattle.lwkt_table.specs.declared.seats.SeatKind.TheVariants.{Of}
use Rattle.lwkt_core.specs.Events.{cpu_of, place_of}
use Rattle.lwkt_core.specs.Machine.{Happens}
use Rattle.lwkt_core.specs.Messages.{message_after}
use Rattle.lwkt_table.specs.History.{left_by, IsStepOver, AreOthers}
use Rattle.lwkt_table.proofs.ViewLemmas.{Views-between, Views-noted}
use Rattle.lwkt_msg.specs.declared.views.MessageEntry.{MessageEntry}
use Rattle.lwkt_msg.specs.declared.views.Key.{Key}
use Rattle.lwkt_msg.specs.declared.views.View.{View}
use Rattle.lwkt_msg.specs.Views.{word_at, slot_at, call_of, at, seat_cpu, who, noted, named, page_of, handed, sent, took, replied, reaped, dropped, requested}
use Rattle.lwkt_msg.specs.Book.{Mail, parts_of, Knows, mail_at, IsBook}
use Rattle.lwkt_msg.specs.Hands.{IsOwn}
use Rattle.lwkt_msg.specs.Steps.{sent_word, rest_word, machine_of}
use Rattle.lwkt_msg.specs.Deeds.{word_step, look_by, deed_by}
use Rattle.lwkt_msg.specs.Deeds as deed
use Rattle.lwkt_msg.specs.Ledger.{OnlyLooks, IsOperation, IsRecordOf, IsSentAs, IsHandedOut, IsDone, first_mails, Ledger, StepIsDeed}
use Rattle.lwkt_msg.proofs.WordFacts.{requested_word}
use Rattle.lwkt_msg.proofs.Moves.{mail_after, mail_sent, hand_others}
use Rattle.lwkt_msg.proofs.Recalling.{recalls_after}
use Rattle.lwkt_msg.proofs.Leading as lead

-- the processor of a seat
pub who_is : (v : View) (cpu : CpuId) → v.kind ≡ Of cpu → who v ≡ cpu
who_is v cpu is_seat = ap seat_cpu is_seat

-- an exchange that met its word leaves the new one, and one that met another leaves that
pub left_won : (old new met : ℕ) → met ≡ old → left_by (Exchange old new) met ≡ new
left_won old new met is = rw (eq-eqb met old is) refl

pub left_lost : (old new met : ℕ) → met ≢ old → left_by (Exchange old new) met ≡ met
left_lost old new met apart = rw (ne_eqb met old apart) refl

-- a step that is done between two states of the messages becomes a deed, here alone
module _ (key : Key) (s : State Rec View) (id : ℕ) (v : View) (cpu : CpuId) (ledger : Ledger key s) (e : get_elem? s.views id ≡ some v) (is_seat : v.kind ≡ Of cpu)
    (m : ℕ) (there : m < length ledger.rule.mails) (e' : MessageEntry) (d : Deed) (own : d.cpu ≡ cpu) (mail' : Mail) (others : lead.KeptByOthers cpu.0 (mail_at ledger.rule.mails m) mail') (done : IsDone key.cpus ledger.rule.mails d (set ledger.rule.mails m mail')) where
  pub step_is_deed : (hands : List (ℕ × Rec)) (word : ℕ) (act : Act Rec) → Valid s.homes hands act → ((past : List Deed) → IsBook key (set ledger.rule.mails m mail') (stepped s (word_at m) word id hands (noted past v m e' d) act)) → StepIsDeed key s ledger id v hands m e' d word act
  step_is_deed hands word act valid book =
      let past = Views-between (IsDone key.cpus) page_of (first_mails key.specs.items) ledger.rule.mails s.views ledger.chronicle id v e cpu is_seat in
      let F : CpuId → Type 0 = λ c. AreOthers c.0 past.0 in
      let q = Views-noted (IsDone key.cpus) page_of (first_mails key.specs.items) ledger.rule.mails s.views ledger.chronicle id v e key.cpus ledger.rule.book.seated cpu (set ledger.rule.mails m mail') past.0 d (noted past.0 v m e' d) is_seat own past.1.0 done refl in
      record {
        valid = valid;
        between = past.0;
        others = subst F (sym (who_is v cpu is_seat)) past.1.1;
        front = sym past.1.0;
        after = record { rule = record { mails = set ledger.rule.mails m mail'; book = book past.0 }; chronicle = q.0; recalls = recalls_after key s id v (noted past.0 v m e' d) cpu ledger e is_seat refl refl refl m mail' there others };
        next = record { done = done; grown = q.1 };
      }

-- a look at a message, and an event at one, are done
pub look_done : (key : Key) (mails : List Mail) (m : ℕ) (cpu : CpuId) (operation : Operation) (found : ℕ) (records : List Rec) (after : Mail) → m < length mails → cpu.0 < key.cpus
    → IsStepOver (message_word (parts_of (mail_at mails m))) (message_word (parts_of after)) (word_step m operation found) → OnlyLooks operation (message_word (parts_of (mail_at mails m)))
    → ((records ≡ []) × (after ≡ mail_at mails m)) ⊎ IsHandedOut (mail_at mails m) (look_by cpu (word_step m operation found) records) after
    → IsDone key.cpus mails (look_by cpu (word_step m operation found) records) (set mails m after)
look_done key mails m cpu operation found records after there by over only leaves = record {
  step = word_step m operation found;
  steps = refl;
  there = there;
  processor = by;
  after = after;
  leaves = refl;
  over = over;
  what = inl (record { events = refl; operation = only; leaves = leaves });
}

pub event_done : (key : Key) (mails : List Mail) (m : ℕ) (cpu : CpuId) (event : Event) (operation : Operation) (found : ℕ) (records : List Rec) (after : Mail) → m < length mails → cpu.0 < key.cpus
    → cpu_of event ≡ cpu.0 → place_of event ≡ AtMessage m → Happens (machine_of key.cpus mails) event (machine_of key.cpus (set mails m after))
    → IsStepOver (message_word (parts_of (mail_at mails m))) (message_word (parts_of after)) (word_step m operation found) → IsOperation event operation (message_word (parts_of (mail_at mails m)))
    → after.msg ≡ message_after (mail_at mails m).msg event → after.had ≡ (mail_at mails m).had → IsSentAs event (mail_at mails m) after → IsRecordOf event (mail_at mails m).rec after.rec records
    → IsDone key.cpus mails (deed_by cpu event (word_step m operation found) records) (set mails m after)
event_done key mails m cpu event operation found records after there by own place happens over is_operation msg had sent_as record_is = record {
  step = word_step m operation found;
  steps = refl;
  there = there;
  processor = by;
  after = after;
  leaves = refl;
  over = over;
  what = inr (record {
    event = event;
    events = refl;
    own = own;
    place = place;
    happens = happens;
    operation = is_operation;
    msg_is = msg;
    had_is = had;
    sent_as = sent_as;
    record_is = record_is;
  });
}

-- each kind of step of a processor's seat on a message
module _ (key : Key) (s : State Rec View) (id : ℕ) (v : View) (cpu : CpuId) (m : ℕ) (ledger : Ledger key s) (e : get_elem? s.views id ≡ some v) (is_seat : v.kind ≡ Of cpu) (there : m < length key.specs.items) where
  abbrev mails : List Mail
  mails = ledger.rule.mails

  abbrev mail : Mail
  mail = mail_at ledger.rule.mails m

  abbrev n : ℕ
  n = get_or s.words (word_at m) 0

  in_mails : m < length ledger.rule.mails
  in_mails = let h = ledger.rule.book.as_many in omega arith

  by : cpu.0 < key.cpus
  by = lead.cpu_there key ledger.rule.mails s id v cpu m ledger.rule.book e is_seat there

  is_word : n ≡ message_word (parts_of mail)
  is_word = (ledger.rule.book.each m there).is_word

  -- a look, after which everything at home is as it was
  pub look_is_deed : (e' : MessageEntry) (operation : Operation) (hands : List (ℕ × Rec)) (act : Act Rec) → Valid s.homes hands act → homes_after s.homes hands act ≡ s.homes
      → (Knows mail (Of cpu) (at v m) → Knows mail (Of cpu) e')
      → OnlyLooks operation n → StepIsDeed key s ledger id v hands m e' (look_by cpu (word_step m operation n) []) n act
  look_is_deed e' operation hands act valid same mine only =
      let over = ⊎_elim
      (λ (h : operation ≡ operate.Load). let F : Operation → Type 0 = λ o. IsStepOver n n (word_step m o n) in subst F (sym h) record { found = refl; leaves = refl })
      (λ (h : (old new : ℕ) × ((operation ≡ Exchange old new) × (n ≢ old))). let F : Operation → Type 0 = λ o. IsStepOver n n (word_step m o n) in subst F (sym h.2.0) record { found = refl; leaves = sym (left_lost h.0 h.1 n h.2.1) })
      only in
      let G : ℕ → Type 0 = λ x. IsStepOver x x (word_step m operation n) in
      let K : ℕ → Type 0 = λ x. OnlyLooks operation x in
      let H : List (Option Rec) → Deed → List Deed → Type 0 = λ hs d past. IsBook key (set mails m mail) record { words = set s.words (word_at m) n; homes = hs; views = set s.views id (noted past v m e' d) } in
      step_is_deed key s id v cpu ledger e is_seat m in_mails e' (look_by cpu (word_step m operation n) []) refl mail (λ kind x not_its known. known)
      (look_done key mails m cpu operation n [] mail in_mails by (subst G is_word over) (subst K is_word only) (inl (refl, refl)))
      hands n act valid
      (λ past. subst (λ (hs : List (Option Rec)). H hs (look_by cpu (word_step m operation n) []) past) (sym same) (lead.stays key mails s id v cpu m ledger.rule.book e is_seat there e' past (look_by cpu (word_step m operation n) []) mine))

  -- a send
  pub send_is_deed : (to : CpuId) (sync : Bool) (flags : Flags) (rec : Rec) (others : List (ℕ × Rec)) → IsOwn v cpu.0 m → (at v m).away ≡ false → to.0 < key.cpus → (at v m).round < LAST_ROUND → rec.error ≡ 0 → rec.result ≡ 0
      → let w : MsgWord = sent_word cpu to ((at v m).round + 1) sync flags in StepIsDeed key s ledger id v ((slot_at m, rec) ∷ others) m (sent w (call_of rec) (at v m)) (deed.sends cpu m to w.round (message_word w) rec) (message_word w) gives
  send_is_deed to sync flags rec others own home to_there room no_error no_result =
      let w : MsgWord = sent_word cpu to ((at v m).round + 1) sync flags in
      let d : Deed = deed.sends cpu m to w.round (message_word w) rec in
      let l = λ (past : List Deed). lead.send_leads key mails s id v cpu m ledger.rule.book e is_seat there to sync flags rec past d own home to_there room no_error no_result in
      step_is_deed key s id v cpu ledger e is_seat m in_mails (sent w (call_of rec) (at v m)) d refl (mail_sent mail (Send cpu (named m) to w.round) w rec) (l []).others
      (event_done key mails m cpu (Send cpu (named m) to w.round) (Store (message_word w)) (message_word w) (rec ∷ []) (mail_sent mail (Send cpu (named m) to w.round) w rec) in_mails by refl refl (l []).happens
      (record { found = refl; leaves = sym (l []).shows }) (message_word w, refl) refl refl tt (refl, (no_error, no_result)))
      ((slot_at m, rec) ∷ others) (message_word w) gives tt (λ past. (l past).book)

  -- a take
  pub take_is_deed : (w : MsgWord) (hands : List (ℕ × Rec)) → n ≡ message_word w → MessageFits w → w.state ≡ state.Out → w.target ≡ cpu
      → StepIsDeed key s ledger id v hands m (took mail.rec (at v m)) (deed.takes cpu m w.round (message_word w) mail.rec) (message_word w + 1) (takes (slot_at m) mail.rec)
  take_is_deed w hands is fits out to =
      let d : Deed = deed.takes cpu m w.round (message_word w) mail.rec in
      let l = λ (past : List Deed). lead.take_leads key mails s id v cpu m ledger.rule.book e is_seat there w past d is fits out to in
      let met : message_word (parts_of mail) ≡ message_word w = sym is_word ∙ is in
      step_is_deed key s id v cpu ledger e is_seat m in_mails (took mail.rec (at v m)) d refl (mail_after mail (TakeMsg cpu (named m) w.round) mail.rec) (l []).others
      (event_done key mails m cpu (TakeMsg cpu (named m) w.round) (Exchange (message_word w) (message_word w + 1)) (message_word w) (mail.rec ∷ []) (mail_after mail (TakeMsg cpu (named m) w.round) mail.rec) in_mails by refl refl (l []).happens
      (record { found = sym met; leaves = sym (l []).shows ∙ sym (left_won (message_word w) (message_word w + 1) (message_word (parts_of mail)) met) }) (ap (λ (x : ℕ). Exchange x (x + 1)) (sym met)) refl refl (refl, refl) (refl, refl))
      hands (message_word w + 1) (takes (slot_at m) mail.rec) (lead.out_slot key mails s id v cpu m ledger.rule.book e is_seat there w is fits out).0 (λ past. (l past).book)

  -- a reply
  pub reply_is_deed : (rec : Rec) (others : List (ℕ × Rec)) → (at v m).taken ≡ true → call_of rec ≡ (at v m).got
      → StepIsDeed key s ledger id v ((slot_at m, rec) ∷ others) m (replied rec (at v m)) (deed.replies cpu m n rec) (n + 1) gives
  reply_is_deed rec others taken call =
      let d : Deed = deed.replies cpu m n rec in
      let l = λ (past : List Deed). lead.reply_leads key mails s id v cpu m ledger.rule.book e is_seat there rec past d taken call in
      let below = lead.taken_below key mails s id v cpu m ledger.rule.book e is_seat there taken in
      let k = lead.knows_taken key mails s id v cpu m ledger.rule.book e is_seat there in
      let left : n + 1 ≡ (message_word (parts_of mail) + 1) % 2 ^ 64 = let h = is_word in omega arith in
      step_is_deed key s id v cpu ledger e is_seat m in_mails (replied rec (at v m)) d refl (mail_after mail (Reply cpu (named m)) rec) (l []).others
      (event_done key mails m cpu (Reply cpu (named m)) (Add 1) n (rec ∷ []) (mail_after mail (Reply cpu (named m)) rec) in_mails by refl refl (l []).happens
      (record { found = is_word; leaves = sym (l []).shows ∙ left }) refl refl refl (refl, refl) (refl, call ∙ k.got_is (sym k.taken_is ∙ taken)))
      ((slot_at m, rec) ∷ others) (n + 1) gives tt (λ past. (l past).book)

  -- a reap
  pub reap_is_deed : (hands : List (ℕ × Rec)) → IsOwn v cpu.0 m → (at v m).had ≡ true → (at v m).back ≡ true
      → let word : ℕ = message_word (rest_word cpu (at v m).round) in StepIsDeed key s ledger id v hands m (reaped (at v m)) (deed.reaps cpu m word mail.rec) word (takes (slot_at m) mail.rec)
  reap_is_deed hands own had seen =
      let word : ℕ = message_word (rest_word cpu (at v m).round) in
      let d : Deed = deed.reaps cpu m word mail.rec in
      let l = λ (past : List Deed). lead.reap_leads key mails s id v cpu m ledger.rule.book e is_seat there past d own had seen in
      step_is_deed key s id v cpu ledger e is_seat m in_mails (reaped (at v m)) d refl (mail_after mail (Reap cpu (named m)) mail.rec) (l []).others
      (event_done key mails m cpu (Reap cpu (named m)) (Store word) word (mail.rec ∷ []) (mail_after mail (Reap cpu (named m)) mail.rec) in_mails by refl refl (l []).happens
      (record { found = refl; leaves = sym (l []).shows }) (word, refl) refl refl (refl, refl) (refl, refl))
      hands word (takes (slot_at m) mail.rec) (lead.back_slot key mails s id v cpu m ledger.rule.book e is_seat there own seen).0 (λ past. (l past).book)

  -- a drop
  pub drop_is_deed : (w : MsgWord) (hands : List (ℕ × Rec)) → IsOwn v cpu.0 m → (at v m).had ≡ true → n ≡ message_word w → MessageFits w → w.state ≡ state.Out
      → let word : ℕ = message_word (rest_word cpu (at v m).round) in StepIsDeed key s ledger id v hands m (dropped (at v m)) (deed.drops cpu m (message_word w) word mail.rec) word (takes (slot_at m) mail.rec)
  drop_is_deed w hands own had is fits out =
      let word : ℕ = message_word (rest_word cpu (at v m).round) in
      let d : Deed = deed.drops cpu m (message_word w) word mail.rec in
      let l = λ (past : List Deed). lead.drop_leads key mails s id v cpu m ledger.rule.book e is_seat there w past d own had is fits out in
      let met : message_word (parts_of mail) ≡ message_word w = sym is_word ∙ is in
      step_is_deed key s id v cpu ledger e is_seat m in_mails (dropped (at v m)) d refl (mail_after mail (DropMsg cpu (named m)) mail.rec) (l []).others
      (event_done key mails m cpu (DropMsg cpu (named m)) (Exchange (message_word w) word) (message_word w) (mail.rec ∷ []) (mail_after mail (DropMsg cpu (named m)) mail.rec) in_mails by refl refl (l []).happens
      (record { found = sym met; leaves = sym (l []).shows ∙ sym (left_won (message_word w) word (message_word (parts_of mail)) met) }) (word, ap (λ (x : ℕ). Exchange x word) (sym met)) refl refl (refl, refl) (refl, refl))
      hands word (takes (slot_at m) mail.rec) (lead.out_slot key mails s id v cpu m ledger.rule.book e is_seat there w is fits out).0 (λ past. (l past).book)

  -- a request to abort
  pub abort_is_deed : (hands : List (ℕ × Rec)) → IsOwn v cpu.0 m → (at v m).away ≡ true → StepIsDeed key s ledger id v hands m (requested (at v m)) (deed.requests cpu m n) (bit_or n 4) keeps
  abort_is_deed hands own away =
      let d : Deed = deed.requests cpu m n in
      let w : MsgWord = parts_of mail in
      let fits = lead.parts_fit key mails s id v cpu m ledger.rule.book e is_seat there in
      let l = λ (past : List Deed). lead.abort_leads key mails s id v cpu m ledger.rule.book e is_seat there w past d own away is_word fits in
      let bits : message_word (record w { aborted = true }) ≡ bit_or n 4 = sym (requested_word w) ∙ ap (λ (x : ℕ). bit_or x 4) (sym is_word) in
      let F : List Deed → ℕ → Type 0 = λ past x. IsBook key (set mails m (mail_after mail (Abort cpu (named m)) mail.rec)) record { words = set s.words (word_at m) x; homes = s.homes; views = set s.views id (noted past v m (requested (at v m)) d) } in
      step_is_deed key s id v cpu ledger e is_seat m in_mails (requested (at v m)) d refl (mail_after mail (Abort cpu (named m)) mail.rec) (l []).others
      (event_done key mails m cpu (Abort cpu (named m)) (Or 4) n [] (mail_after mail (Abort cpu (named m)) mail.rec) in_mails by refl refl (l []).happens
      (record { found = is_word; leaves = sym (l []).shows ∙ sym (requested_word w) }) refl refl refl (refl, refl) (refl, refl))
      hands (bit_or n 4) keeps tt (λ past. subst (F past) bits (l past).book)

  -- the load that hands a record out
  pub handing_is_deed : (hands : List (ℕ × Rec)) → IsOwn v cpu.0 m → (at v m).had ≡ false → (at v m).away ≡ false
      → StepIsDeed key s ledger id v hands m (handed (at v m)) (deed.hands_out cpu m n mail.rec) n (takes (slot_at m) mail.rec)
  handing_is_deed hands own had home =
      let d : Deed = deed.hands_out cpu m n mail.rec in
      let mail' : Mail = record mail { had = true } in
      let l = λ (past : List Deed). lead.hands_out key mails s id v cpu m ledger.rule.book e is_seat there past d own had home in
      let k = lead.knows_own key mails s id v cpu m ledger.rule.book e is_seat there own in
      let rests = lead.rests key mails s id v cpu m ledger.rule.book e is_seat there own home in
      step_is_deed key s id v cpu ledger e is_seat m in_mails (handed (at v m)) d refl mail' (hand_others mail cpu cpu cpu m (lead.own_origin key mails s id v cpu m ledger.rule.book e is_seat there own))
      (look_done key mails m cpu operate.Load n (mail.rec ∷ []) mail' in_mails by (record { found = is_word; leaves = refl }) (inl refl) (inr (record { home = rests; at_home = sym k.had_is ∙ had; records = refl; leaves = refl })))
      hands n (takes (slot_at m) mail.rec) (l []).0 (λ past. (l past).1)
