use Rattle.std.proofs.Common.{◌≡◌, inl, inr, ℕ, zero, suc, ◌<◌, ◌≤◌, List, [], ◌∷◌, ◌++◌, length, map, set, get_or, All, refl, ap, sym, ◌∙◌, subst, arith, get_or-set_same, get_or-set_other}
use Rattle.std.proofs.lemmas.List.Elements.{All-from_get_or}
use mathlib.Core.Option.{Option, some}
use lib.ListN.{get_elem?, length-map}
use Rattle.atomic_table.specs.Table.{State, keeps, homes_after, stepped}
use Rattle.lwkt_base.specs.declared.names.CpuId.{CpuId}
use Rattle.lwkt_base.specs.declared.owners.Owner.{Owner}
use Rattle.lwkt_base.specs.declared.owners.Owner.TheVariants.{Rest, Out, With, Back}
use Rattle.lwkt_base.specs.declared.records.Rec.{Rec}
use Rattle.lwkt_base.specs.MessageWord.{message_word}
use Rattle.lwkt_core.specs.declared.messages.Message.{Message}
use Rattle.lwkt_table.specs.declared.seats.Operation.TheVariants as operation
use Rattle.lwkt_core.specs.Messages.{IsSafeMessage, in_out, in_with}
use Rattle.lwkt_table.specs.History.{IsStepOver, Page, Chronicle, steps_by, steps_in, events_by, events_in}
use Rattle.lwkt_table.proofs.SeatingLemmas.{map-set, set_again, at_map}
use Rattle.lwkt_table.proofs.HistoryLemmas.{Passes-run, steps_by-grows, events_by-grows}
use Rattle.lwkt_table.proofs.ChronicleLemmas.{Chronicle-same, Chronicle-decides}
use Rattle.lwkt_table.proofs.ViewLemmas.{Views-between, Views-one_more, Views-was_done}
use Rattle.lwkt_msg.specs.declared.views.Key.{Key}
use Rattle.lwkt_msg.specs.declared.views.View.{View}
use Rattle.lwkt_msg.specs.Views.{word_at, slot_at, at, looked, seat_cpu, who, page_of}
use Rattle.lwkt_msg.specs.Book.{Mail, parts_of, in_slot, mail_at, no_mail}
use Rattle.lwkt_msg.specs.Steps.{machine_of}
use Rattle.lwkt_msg.specs.Ledger.{IsDone, first_mails, Ledger}
use Rattle.lwkt_msg.specs.Laws.{RuleShowsSafety, EachSendAtMostOnce, StatesAreReached, HistoryDecidesCounts, ViewsDecide, OpeningIsDeclared, IsMade, LoadIsLook, LostExchangeIsLook, HandingOutIsLook, StoreIsSend, ExchangeIsTake, AddIsReply, StoreIsReap, ExchangeIsDrop, OrIsAbort, SeatingIsNoDeed, MadeAsNoted, NothingUnnoted, DeedsAreAppended}
use Rattle.lwkt_msg.proofs.Moves.{look_mine}
use Rattle.lwkt_msg.proofs.Splitting.{seat_is_same, whole_is_same, joined_is_same, rule_opens}
use Rattle.lwkt_msg.proofs.Running.{done_runs}
use Rattle.lwkt_msg.proofs.Counting.{counted_by}
use Rattle.lwkt_msg.proofs.Deciding.{done_decides}
use Rattle.lwkt_msg.proofs.StepDeeds as stepping

-- the message of a number among those of a list
msg_at : (mails : List Mail) (i : ℕ) (d : Message) → i < length mails → get_or (map (λ (x : Mail). x.msg) mails) i d ≡ (mail_at mails i).msg
msg_at mails i d h = shown mails i h
  where
    shown : (xs : List Mail) (k : ℕ) → k < length xs → get_or (map (λ (x : Mail). x.msg) xs) k d ≡ (mail_at xs k).msg
    shown [] k h = absurd (omega arith)
    shown (x ∷ xs) zero h = refl
    shown (x ∷ xs) (suc k) h = shown xs k (omega arith)

pub state_is_safe : RuleShowsSafety
state_is_safe key s ledger =
    let book = ledger.rule.book in
    let mails : List Mail = ledger.rule.mails in
    let messages : List Message = map (λ (x : Mail). x.msg) mails in
    let long : length messages ≡ length mails = length-map mails (λ (x : Mail). x.msg) in
    let as_many = book.as_many in
    let limit = book.within.message_limit in
    let each : All (IsSafeMessage key.cpus) messages
    = All-from_get_or (IsSafeMessage key.cpus) messages no_mail.msg (λ i h.
    let in_mails : i < length mails = omega arith in
    let in_specs : i < length key.specs.items = omega arith in
    let F : Message → Type 0 = λ x. IsSafeMessage key.cpus x in
    subst F (sym (msg_at mails i no_mail.msg in_mails)) (book.each i in_specs).safe) in (
      book,
      record {
        processors = book.within.processors;
        token_limit = omega arith;
        each_token = λ i d h. absurd (omega arith);
        few = λ cpu. omega arith;
        message_limit = omega arith;
        each_message = each;
      },
    )

-- a message is in one place
one_out : (o : Owner) → in_out o ≤ 1
one_out (Rest o) = omega arith
one_out (Out o t) = omega arith
one_out (With o t) = omega arith
one_out (Back o t) = omega arith

one_with : (o : Owner) → in_with o ≤ 1
one_with (Rest o) = omega arith
one_with (Out o t) = omega arith
one_with (With o t) = omega arith
one_with (Back o t) = omega arith

pub sends_at_most_once : EachSendAtMostOnce
sends_at_most_once key s ledger m there =
    let safe = (ledger.rule.book.each m there).safe in
    let a = safe.taken in
    let b = safe.replied in
    let c = one_out (mail_at ledger.rule.mails m).msg.owner in
    let d = one_with (mail_at ledger.rule.mails m).msg.owner in
    (omega arith, omega arith, omega arith, omega arith)

pub state_is_reached : StatesAreReached
state_is_reached key s ledger = (
  ledger.chronicle.passes,
  Passes-run (IsDone key.cpus) (λ (ms : List Mail). machine_of key.cpus ms) (done_runs key.cpus) (first_mails key.specs.items) ledger.chronicle.history ledger.rule.mails ledger.chronicle.passes,
  λ id v cpu e is_seat. Views-between (IsDone key.cpus) page_of (first_mails key.specs.items) ledger.rule.mails s.views ledger.chronicle id v e cpu is_seat,
)

pub history_decides_counts : HistoryDecidesCounts
history_decides_counts key s ledger m within = counted_by key.cpus key.specs.items ledger.chronicle.history ledger.rule.mails ledger.chronicle.passes ledger.rule.book.as_many m within

pub views_decide : ViewsDecide
views_decide key s ledger other = (
  Chronicle-decides (IsDone key.cpus) (done_decides key.cpus) (first_mails key.specs.items) other.rule.mails ledger.rule.mails (map page_of s.views) other.chronicle ledger.chronicle,
  Chronicle-same (IsDone key.cpus) (first_mails key.specs.items) other.rule.mails ledger.rule.mails (map page_of s.views) other.chronicle ledger.chronicle,
)

pub opening_is_declared : OpeningIsDeclared
opening_is_declared key words within opened = rule_opens key words _ within opened.wide opened.zero_word opened.each refl

pub load_is_look : LoadIsLook
load_is_look key s ledger id v cpu m h hands =
    stepping.look_is_deed key s id v cpu m ledger h.view h.kind h.exists_ (looked (parts_of (mail_at ledger.rule.mails m)) (at v m)) operation.Load hands keeps tt refl (look_mine (mail_at ledger.rule.mails m) cpu (at v m)) (inl refl)

pub lost_exchange_is_look : LostExchangeIsLook
lost_exchange_is_look key s ledger id v cpu m h hands old new other =
    stepping.look_is_deed key s id v cpu m ledger h.view h.kind h.exists_ (at v m) (operation.Exchange old new) hands keeps tt refl (λ known. known) (inr (old, new, (refl, other)))

pub handing_out_is_look : HandingOutIsLook
handing_out_is_look key s ledger id v cpu m h hands own had home = stepping.handing_is_deed key s id v cpu m ledger h.view h.kind h.exists_ hands own had home

pub store_is_send : StoreIsSend
store_is_send key s ledger id v cpu m h to sync flags rec others own home there room no_error no_result = stepping.send_is_deed key s id v cpu m ledger h.view h.kind h.exists_ to sync flags rec others own home there room no_error no_result

pub exchange_is_take : ExchangeIsTake
exchange_is_take key s ledger id v cpu m h w hands is fits out to = stepping.take_is_deed key s id v cpu m ledger h.view h.kind h.exists_ w hands is fits out to

pub add_is_reply : AddIsReply
add_is_reply key s ledger id v cpu m h rec others taken call = stepping.reply_is_deed key s id v cpu m ledger h.view h.kind h.exists_ rec others taken call

pub store_is_reap : StoreIsReap
store_is_reap key s ledger id v cpu m h hands own had seen = stepping.reap_is_deed key s id v cpu m ledger h.view h.kind h.exists_ hands own had seen

pub exchange_is_drop : ExchangeIsDrop
exchange_is_drop key s ledger id v cpu m h w hands own had is fits out = stepping.drop_is_deed key s id v cpu m ledger h.view h.kind h.exists_ w hands own had is fits out

pub or_is_abort : OrIsAbort
or_is_abort key s ledger id v cpu m h hands own away = stepping.abort_is_deed key s id v cpu m ledger h.view h.kind h.exists_ hands own away

pub seating_is_no_deed : SeatingIsNoDeed
seating_is_no_deed key s ledger id v e = (
  (λ made back is_clerk room. seat_is_same key s ledger id v made back e is_clerk room),
  (λ cpu is_seat. whole_is_same key s ledger id v cpu e is_seat),
  (λ other w made back cpu is_clerk is_seat apart d. joined_is_same key s ledger id v other w made back cpu e is_clerk is_seat apart d),
)

-- a word of the table shows its message
shows : (key : Key) (s : State Rec View) (ledger : Ledger key s) (m : ℕ) → m < length key.specs.items → get_or s.words (word_at m) 0 ≡ message_word (parts_of (mail_at ledger.rule.mails m))
shows key s ledger m there = (ledger.rule.book.each m there).is_word

pub noted_is_done : MadeAsNoted
noted_is_done key s ledger id v w cpu between d i n hands act after e is_seat own others page =
    let more = Views-one_more (IsDone key.cpus) page_of (first_mails key.specs.items) ledger.rule.mails after.rule.mails s.views ledger.chronicle id v w after.chronicle e key.cpus ledger.rule.book.seated cpu between d is_seat own others page in
    let done = Views-was_done (IsDone key.cpus) page_of (first_mails key.specs.items) ledger.rule.mails after.rule.mails s.views ledger.chronicle id v w after.chronicle e key.cpus ledger.rule.book.seated cpu between d is_seat own others page (done_decides key.cpus) in
    (record { done = done; grown = more }, made done)
  where
    made : IsDone key.cpus ledger.rule.mails d after.rule.mails → IsMade (length key.specs.items) s.words (set s.words i n) d
    made done =
        let m : ℕ = done.step.at in
        let there : m < length key.specs.items = let a = done.there in let b = ledger.rule.book.as_many in omega arith in
        let before = shows key s ledger m there in
        let mail_is : mail_at after.rule.mails m ≡ done.after = ap (λ (xs : List Mail). mail_at xs m) done.leaves ∙ get_or-set_same ledger.rule.mails m done.after no_mail done.there in
        let left : get_or (set s.words i n) (word_at m) 0 ≡ message_word (parts_of done.after) = shows key (stepped s i n id hands w act) after m there ∙ ap (λ (x : Mail). message_word (parts_of x)) mail_is in
        let F : ℕ → Type 0 = λ x. IsStepOver x (get_or (set s.words i n) (word_at m) 0) done.step in
        let G : ℕ → Type 0 = λ x. IsStepOver (message_word (parts_of (mail_at ledger.rule.mails m))) x done.step in
        record {
          step = done.step;
          steps = done.steps;
          there = there;
          over = subst F (sym before) (subst G (sym left) done.over);
          else_same = λ k within apart.
              let same : mail_at after.rule.mails k ≡ mail_at ledger.rule.mails k = ap (λ (xs : List Mail). mail_at xs k) done.leaves ∙ get_or-set_other ledger.rule.mails m k done.after no_mail apart in
              shows key (stepped s i n id hands w act) after k within ∙ (ap (λ (x : Mail). message_word (parts_of x)) same ∙ sym (shows key s ledger k within));
        }

pub unnoted_changes_nothing : NothingUnnoted
unnoted_changes_nothing key s ledger id v w i n hands act after e page =
    let pages : map page_of (set s.views id w) ≡ map page_of s.views
    = map-set page_of s.views id w ∙ (ap (λ (p : Page). set (map page_of s.views) id p) page ∙ set_again (map page_of s.views) id (page_of v) (at_map page_of s.views id v e)) in
    let F : List Page → Type 0 = λ ps. (q : Chronicle (IsDone key.cpus) (first_mails key.specs.items) ps after.rule.mails) × (q.history ≡ after.chronicle.history) in
    let q = subst F pages (after.chronicle, refl) in
    let mails_same : after.rule.mails ≡ ledger.rule.mails
    = Chronicle-decides (IsDone key.cpus) (done_decides key.cpus) (first_mails key.specs.items) after.rule.mails ledger.rule.mails (map page_of s.views) q.0 ledger.chronicle in
    let history_same : after.chronicle.history ≡ ledger.chronicle.history
    = sym q.1 ∙ Chronicle-same (IsDone key.cpus) (first_mails key.specs.items) after.rule.mails ledger.rule.mails (map page_of s.views) q.0 ledger.chronicle in
    (mails_same, history_same, λ m there. (word_same mails_same m there, slot_same mails_same m there))
  where
    word_same : after.rule.mails ≡ ledger.rule.mails → (m : ℕ) → m < length key.specs.items → get_or (set s.words i n) (word_at m) 0 ≡ get_or s.words (word_at m) 0
    word_same same m there = shows key (stepped s i n id hands w act) after m there ∙ (ap (λ (xs : List Mail). message_word (parts_of (mail_at xs m))) same ∙ sym (shows key s ledger m there))

    slot_same : after.rule.mails ≡ ledger.rule.mails → (m : ℕ) → m < length key.specs.items → get_elem? (homes_after s.homes hands act) (slot_at m) ≡ get_elem? s.homes (slot_at m)
    slot_same same m there =
        let held : Mail → Option (Option Rec) = λ x. some (in_slot x.msg.owner x.had x.rec) in
        (after.rule.book.each m there).slot ∙ (ap (λ (xs : List Mail). held (mail_at xs m)) same ∙ sym (ledger.rule.book.each m there).slot)

pub deeds_appended : DeedsAreAppended
deeds_appended v w m e deeds does own =
    let same : who w ≡ who v = ap seat_cpu does.kind in
    let F : CpuId → Type 0 = λ c. (steps_by c.0 w.past ≡ steps_by (who v).0 v.past ++ steps_in deeds) × (events_by c.0 w.past ≡ events_by (who v).0 v.past ++ events_in deeds) in
    subst F (sym same) (steps_by-grows (who v).0 v.past deeds w.past does.grows own, events_by-grows (who v).0 v.past deeds w.past does.grows own)
