use Rattle.std.proofs.Common.{◌≡◌, Some, None, ℕ, zero, suc, ◌<◌, ◌≤◌, Bool, List, [], ◌∷◌, length, All, count_by, get_or, refl, ap, sym, ◌∙◌, subst, arith}
use Rattle.std.specs.Prelude.{slice_get, slice_index_or}
use mathlib.Core.Option.{some}
use lib.ListN.{get_elem?}
use Rattle.atomic_table.specs.Table.{State}
use Rattle.lwkt_base.specs.declared.names.CpuId.{CpuId}
use Rattle.lwkt_base.specs.declared.owners.MsgEnd.{MsgEnd}
use Rattle.lwkt_base.specs.declared.owners.Owner.{Owner}
use Rattle.lwkt_base.specs.declared.owners.Owner.TheVariants.{Rest, Out, With, Back}
use Rattle.lwkt_base.specs.declared.opening_specs.MsgSpec.{MsgSpec}
use Rattle.lwkt_base.specs.declared.records.Rec.{Rec}
use Rattle.lwkt_core.specs.declared.events.Event.{Event}
use Rattle.lwkt_table.specs.declared.seats.Deed.{Deed}
use Rattle.lwkt_table.specs.declared.seats.Chapter.{Chapter}
use Rattle.lwkt_table.specs.declared.seats.SeatKind.TheVariants.{Of}
use Rattle.lwkt_core.specs.Messages.{IsSafeMessage, origin_of}
use Rattle.lwkt_core.specs.Headline as kind
use Rattle.lwkt_table.proofs.SeatingLemmas.{at_map, of_map, at_within, total-like}
use Rattle.lwkt_msg.specs.declared.views.MessageEntry.{MessageEntry}
use Rattle.lwkt_msg.specs.declared.views.Key.{Key}
use Rattle.lwkt_msg.specs.declared.views.View.{View}
use Rattle.lwkt_msg.specs.Views.{word_at, spec_at, page_of, chapter_of, recalled_of}
use Rattle.lwkt_msg.specs.Steps.{machine_of}
use Rattle.lwkt_msg.specs.Ledger.{IsDone, first_mails, Ledger}
use Rattle.lwkt_table.specs.History.{Passes, IsPastOf, events_by, events_in}
use Rattle.lwkt_table.proofs.HistoryLemmas.{Passes-each, Passes-run, events_by-past, steps_by-past}
use Rattle.lwkt_table.proofs.ViewLemmas.{Views-part, Views-chapter, Views-others}
use Rattle.lwkt_table.proofs.ShareLemmas.{seats_for, seats_for-some, seats_for-one, shares}
use Rattle.lwkt_msg.proofs.Running.{done_runs}
use Rattle.lwkt_msg.proofs.Recalling.{recalled-same}
use Rattle.lwkt_msg.specs.Book.{Mail, parts_of, state_of, shown_target, Knows, mail_at, Rule}
use Rattle.lwkt_msg.specs.Desks.{Desk, Shelf, desk_cpu, past_of, events_of, events_like, chapters_of, AreGathered, IsHistory, IsClosed, AreClosed, AreShown, HasTakenBack, shown_by, shown_end}
use Rattle.lwkt_msg.proofs.Leading.{fits_of}
use Rattle.lwkt_msg.proofs.Counting.{counted_by}

-- an owner is whom its word shows
owner_shown : (o : Owner) → shown_by (state_of o) (origin_of o) (shown_target o) ≡ o
owner_shown (Rest o) = refl
owner_shown (Out o t) = refl
owner_shown (With o t) = refl
owner_shown (Back o t) = refl

-- what stands in a list stands within its length
get_inside : (xs : List MsgEnd) (i : ℕ) (x : MsgEnd) → slice_get xs i ≡ Some x → i < length xs
get_inside [] i x e = absurd (let h : None ≡ Some x = e in cc)
get_inside (y ∷ ys) zero x e = omega arith
get_inside (y ∷ ys) (suc i) x e = let h = get_inside ys i x e in omega arith

-- an element within the length of a list is there
get_there : (xs : List MsgEnd) (i : ℕ) (d : MsgEnd) → i < length xs → slice_get xs i ≡ Some (get_or xs i d)
get_there [] i d h = absurd (omega arith)
get_there (x ∷ xs) zero d h = refl
get_there (x ∷ xs) (suc i) d h = get_there xs i d (omega arith)

-- what each seat had seen that the clerk has taken back has all of its processor's part
part_of : (book : Shelf) (key : Key) (seats : List Desk) (v w : View) (id : ℕ) (s : State Rec View) → book.cpus ≡ key.cpus → length seats ≡ book.cpus → HasTakenBack book.cpus v seats w
    → (ledger : Ledger key s) → get_elem? s.views id ≡ some w → (j : ℕ) (d : Desk) → get_elem? seats j ≡ some d → IsPastOf ledger.chronicle.history (desk_cpu d).0 (past_of d)
part_of book key seats v w id s cpus_is all taken ledger at_id j d at_j =
    let chapter : get_elem? w.chapters j ≡ some (chapter_of d.view) = ap (λ (cs : List Chapter). get_elem? cs j) taken.chapters ∙ at_map (λ (x : Desk). chapter_of x.view) seats j d at_j in
    Views-part (IsDone key.cpus) page_of (first_mails key.specs.items) ledger.rule.mails s.views ledger.chronicle id w at_id key.cpus ledger.rule.book.seated book.cpus (length seats) taken.kind (omega arith) j (chapter_of d.view) chapter

-- the history of all seats, which the clerk has taken back
is_history : (book : Shelf) (key : Key) (seats : List Desk) (v w : View) (id : ℕ) (s : State Rec View) → book.cpus ≡ key.cpus → book.specs ≡ key.specs.items → length seats ≡ book.cpus → HasTakenBack book.cpus v seats w
    → (ledger : Ledger key s) → get_elem? s.views id ≡ some w → IsHistory book seats ledger.rule.mails ledger.chronicle.history
is_history book key seats v w id s cpus_is specs_is all taken ledger at_id = record {
  passes = passes;
  run = Passes-run (IsDone book.cpus) (λ (ms : List Mail). machine_of book.cpus ms) (done_runs book.cpus) (first_mails book.specs) ledger.chronicle.history ledger.rule.mails passes;
  parts = λ k d low. part k d low;
  events = λ k d low. sym (events_by-past ledger.chronicle.history (desk_cpu (slice_index_or seats k d)).0 (past_of (slice_index_or seats k d)) (part k d low));
  steps = λ k d low. sym (steps_by-past ledger.chronicle.history (desk_cpu (slice_index_or seats k d)).0 (past_of (slice_index_or seats k d)) (part k d low));
  no_others = λ cpu high. Views-others (IsDone key.cpus) page_of (first_mails key.specs.items) ledger.rule.mails s.views ledger.chronicle id w at_id key.cpus ledger.rule.book.seated book.cpus (length seats) taken.kind (omega arith) cpu (omega arith);
}
  where
    passes : Passes (IsDone book.cpus) (first_mails book.specs) ledger.chronicle.history ledger.rule.mails
    passes =
        let F : ℕ → Type 0 = λ n. Passes (IsDone n) (first_mails book.specs) ledger.chronicle.history ledger.rule.mails in
        let G : List MsgSpec → Type 0 = λ xs. Passes (IsDone key.cpus) (first_mails xs) ledger.chronicle.history ledger.rule.mails in
        subst F (sym cpus_is) (subst G (sym specs_is) ledger.chronicle.passes)

    part : (k : ℕ) (d : Desk) → k < length seats → IsPastOf ledger.chronicle.history (desk_cpu (slice_index_or seats k d)).0 (past_of (slice_index_or seats k d))
    part k d low = part_of book key seats v w id s cpus_is all taken ledger at_id k (slice_index_or seats k d) (at_within seats k d low)

-- what is so of the seats that the clerk has taken back
module _ (book : Shelf) (key : Key) (seats : List Desk) (v w : View) (id : ℕ) (s : State Rec View) (cpus_is : book.cpus ≡ key.cpus) (specs_is : book.specs ≡ key.specs.items) (all : length seats ≡ book.cpus) (taken : HasTakenBack book.cpus v seats w)
    (ledger : Ledger key s) (at_id : get_elem? s.views id ≡ some w) where
  processor : Desk → ℕ
  processor d = (desk_cpu d).0

  -- each processor has one
  has_seat : (cpu : ℕ) → cpu < book.cpus → 1 ≤ seats_for processor seats cpu
  unfolding processor
  has_seat cpu low =
      let c : CpuId = record { 0 = cpu } in
      let k = Views-chapter (IsDone key.cpus) page_of (first_mails key.specs.items) ledger.rule.mails s.views ledger.chronicle id w at_id key.cpus ledger.rule.book.seated book.cpus (length seats) taken.kind (omega arith) c (omega arith) in
      let there : get_elem? (chapters_of seats) k.1 ≡ some (record { cpu = c; past = k.0 }) = ap (λ (cs : List Chapter). get_elem? cs k.1) (sym taken.chapters) ∙ k.2 in
      let d = of_map (λ (x : Desk). chapter_of x.view) seats k.1 (record { cpu = c; past = k.0 }) there in
      seats_for-some processor seats k.1 d.0 cpu d.1 (ap (λ (x : Chapter). x.cpu.0) d.2)

  -- and their events are all that there are
  all_events : (which : Event → Bool) → events_like which seats ≡ count_by which (events_in ledger.chronicle.history)
  unfolding processor
  all_events which =
      let history : List Deed = ledger.chronicle.history in
      let is = is_history book key seats v w id s cpus_is specs_is all taken ledger at_id in
      let one : (cpu : ℕ) → cpu < book.cpus → seats_for processor seats cpu ≡ 1 = seats_for-one processor book.cpus seats all has_seat in
      let ones : All (λ (d : Deed). seats_for processor seats d.cpu.0 ≡ 1) history
      = Passes-each (IsDone book.cpus) (λ (d : Deed). seats_for processor seats d.cpu.0 ≡ 1) (λ m d n done. one d.cpu.0 done.processor) (first_mails book.specs) history ledger.rule.mails is.passes in
      total-like (λ (d : Desk). count_by which (events_by (desk_cpu d).0 history)) (λ (d : Desk). count_by which (events_of d)) seats
      (λ j d at_j. ap (λ (es : List Event). count_by which es) (sym (events_by-past history (desk_cpu d).0 (past_of d) (part_of book key seats v w id s cpus_is all taken ledger at_id j d at_j))))
      ∙ shares processor which seats history ones

  -- so what was done with a message is what they did
  gathered_all : (m : ℕ) → m < length key.specs.items → AreGathered (mail_at ledger.rule.mails m).msg m seats
  gathered_all m within =
      let long = ap (λ (xs : List MsgSpec). length xs) specs_is in
      let as_many = ledger.rule.book.as_many in
      let c = counted_by book.cpus book.specs ledger.chronicle.history ledger.rule.mails (is_history book key seats v w id s cpus_is specs_is all taken ledger at_id).passes (omega arith) m (omega arith) in record {
        sends = c.sends ∙ sym (all_events (kind.sends_message m));
        takes = c.takes ∙ sym (all_events (kind.takes_message m));
        drops = c.drops ∙ sym (all_events (kind.drops_message m));
        replies = c.replies ∙ sym (all_events (kind.replies_to_message m));
        reaps = c.reaps ∙ sym (all_events (kind.reaps_message m));
      }

-- what the closing words show is what the book's messages are, once all seats are taken back
pub closes : (book : Shelf) (key : Key) (seats : List Desk) (v w : View) (id : ℕ) (words : List ℕ) (ends : List MsgEnd) (s : State Rec View) → book.cpus ≡ key.cpus → book.specs ≡ key.specs.items
    → length seats ≡ book.cpus → HasTakenBack book.cpus v seats w → Ledger key s → get_elem? s.views id ≡ some w → s.words ≡ words → AreShown (length key.specs.items) words ends → AreClosed book seats ends
closes book key seats v w id words ends s cpus_is specs_is all taken ledger at_id words_are shown = record {
  as_many = shown.as_many ∙ ap (λ (xs : List MsgSpec). length xs) (sym specs_is);
  mails = rule.mails;
  history = ledger.chronicle.history;
  known = λ k d low m within.
      let seat : Desk = slice_index_or seats k d in
      let i = taken.recalled k d low in
      let F : MessageEntry → Type 0 = λ x. Knows (mail_at ledger.rule.mails m) (Of (desk_cpu seat)) x in
      subst F (recalled-same seat.view m) (ledger.recalls.knows id i.0 w (recalled_of seat.view) m at_id i.1 (subst (λ (xs : List MsgSpec). m < length xs) specs_is within));
  is_history = is_history book key seats v w id s cpus_is specs_is all taken ledger at_id;
  each = λ m d within. each m (get_or ends m d) (get_there ends m d (let a = shown.as_many in let b = ap (λ (xs : List MsgSpec). length xs) specs_is in omega arith));
}
  where
    rule : Rule key s
    rule = ledger.rule

    within_of : (m : ℕ) (end : MsgEnd) → slice_get ends m ≡ Some end → m < length key.specs.items
    within_of m end e = let a = get_inside ends m end e in let b = shown.as_many in omega arith

    each : (m : ℕ) (end : MsgEnd) → slice_get ends m ≡ Some end → IsClosed book seats m (mail_at ledger.rule.mails m).msg end
    each m end e =
        let within = within_of m end e in
        let mail : Mail = mail_at rule.mails m in
        let kept = rule.book.each m within in
        let wide = rule.book.wide in
        let in_words : word_at m < length s.words = omega arith in
        let there : get_elem? s.words (word_at m) ≡ some (get_or s.words (word_at m) 0) = at_within s.words (word_at m) 0 in_words in
        let F : List ℕ → Type 0 = λ xs. get_elem? xs (word_at m) ≡ some (get_or s.words (word_at m) 0) in
        let fits = fits_of key.cpus mail kept.safe rule.book.within.processors in
        let end_shown : end ≡ shown_end (parts_of mail) = shown.each m end e (get_or s.words (word_at m) 0) (subst F words_are there) (parts_of mail) fits (sym kept.is_word) in
        record {
          safe = subst (λ (n : ℕ). IsSafeMessage n mail.msg) (sym cpus_is) kept.safe;
          origin_is = kept.origin_is ∙ ap (λ (xs : List MsgSpec). (spec_at xs m).origin) (sym specs_is);
          opening_is = kept.opening_is ∙ ap (λ (xs : List MsgSpec). (spec_at xs m).round) (sym specs_is);
          end_is = end_shown ∙ ap (λ (o : Owner). let z : MsgEnd = record { round = mail.msg.round; state = o } in z) (owner_shown mail.msg.owner);
          gathered = gathered_all book key seats v w id s cpus_is specs_is all taken ledger at_id m within;
        }
