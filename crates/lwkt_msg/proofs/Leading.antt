use Rattle.std.proofs.Common.{◌≡◌, ◌≢◌, ℕ, zero, suc, ◌+◌, ◌^◌, ◌<◌, ◌≤◌, Bool, true, false, List, [], ◌∷◌, length, map, set, get_or, Option, Some, refl, ap, sym, ◌∙◌, subst, arith, length-set}
use Rattle.std.specs.Prelude.{slice_get, slice_set, IsSomeAnd}
use Rattle.std.specs.Option.{option_map_or}
use Rattle.std.proofs.lemmas.Bool.{eqb-true}
use mathlib.Core.Option as maybe
use mathlib.Core.Option.{some, none}
use lib.ListN.{get_elem?}
use Rattle.atomic_table.specs.Table.{State}
use Rattle.lwkt_base.specs.declared.names.CpuId.{CpuId}
use Rattle.lwkt_base.specs.declared.names.MsgId.{MsgId}
use Rattle.lwkt_base.specs.declared.owners.Owner.{Owner}
use Rattle.lwkt_base.specs.declared.owners.Owner.TheVariants.{Rest, Out, With, Back}
use Rattle.lwkt_base.specs.declared.records.Rec.{Rec}
use Rattle.lwkt_base.specs.declared.records.Flags.{Flags}
use Rattle.lwkt_base.specs.declared.opening_specs.MsgSpec.{MsgSpec}
use Rattle.lwkt_base.specs.declared.message_words.MsgWord.{MsgWord}
use Rattle.lwkt_base.specs.declared.message_words.MsgState.TheVariants as state
use Rattle.lwkt_base.specs.MessageWord.{message_word, MessageFits}
use Rattle.lwkt_core.specs.declared.events.Event.{Event}
use Rattle.lwkt_core.specs.declared.events.Event.TheVariants.{Send, TakeMsg, DropMsg, Reply, Reap, Abort}
use Rattle.lwkt_core.specs.declared.events.Place.{Place}
use Rattle.lwkt_core.specs.declared.events.Place.TheVariants.{AtMessage}
use Rattle.lwkt_core.specs.declared.messages.Message.{Message}
use Rattle.lwkt_base.specs.declared.limits.TheConstants.{CPU_LIMIT, LAST_ROUND}
use Rattle.lwkt_table.specs.declared.seats.Deed.{Deed}
use Rattle.lwkt_table.specs.declared.seats.SeatKind.{SeatKind}
use Rattle.lwkt_table.specs.declared.seats.SeatKind.TheVariants.{Of}
use Rattle.lwkt_core.specs.Events.{cpu_of, place_of, adds_reference}
use Rattle.lwkt_core.specs.Machine.{Machine, Happens, PlaceNeeds, after_at, changed}
use Rattle.lwkt_core.specs.Messages.{IsSafeMessage, MessageNeeds, message_after, origin_of, target_of, is_away, in_out, TargetIsThere, IsOutTo, IsOutFrom, IsWith, IsBackTo}
use Rattle.lwkt_core.proofs.MessageMoves.{IsSafeMessage-after}
use Rattle.lwkt_table.proofs.SeatingLemmas.{set_here, set_else, at_map, map-set, AreSeated-there}
use Rattle.lwkt_msg.specs.declared.views.MessageEntry.{MessageEntry}
use Rattle.lwkt_msg.specs.declared.views.Key.{Key}
use Rattle.lwkt_msg.specs.declared.views.View.{View}
use Rattle.lwkt_msg.specs.Views.{word_at, slot_at, spec_at, call_of, at, noted, handed, sent, took, replied, reaped, dropped, requested, StandsFor}
use Rattle.lwkt_msg.specs.Book.{Mail, parts_of, state_of, shown_target, in_slot, is_taken, is_back, KnowsOwn, KnowsTaken, Knows, IsKept, mail_at, IsBook}
use Rattle.lwkt_msg.specs.Hands.{IsOwn}
use Rattle.lwkt_msg.specs.Steps.{sent_word, rest_word, machine_of}
use Rattle.lwkt_msg.proofs.WordFacts.{message_word-injective, message_word-below}
use Rattle.lwkt_msg.proofs.Knowing.{Changes-noted}
use Rattle.lwkt_msg.proofs.Frames.{kept_step, stands_alone, seat_plan, IsBook-moved}
use Rattle.lwkt_msg.proofs.Moves.{owned, mail_after, mail_sent, never, send_others, send_mine, take_others, take_mine, reply_others, reply_mine, reap_others, reap_mine, drop_others, drop_mine, abort_others, abort_mine, hand_others, hand_mine}

-- who doesn't stand for this processor still knows what is so
abbrev pub KeptByOthers : ℕ → Mail → Mail → Type 0
KeptByOthers cpu mail after = (kind : SeatKind) (e : MessageEntry) → (StandsFor kind cpu → ⊥) → Knows mail kind e → Knows after kind e

-- a step on a message after which the table is a book again, in which this word shows it, and the event that the step is
pub record LeadsTo (key : Key) (mails : List Mail) (m cpu : ℕ) (after : Mail) (event : Event) (word : ℕ) (s : State Rec View) : Type 0 where
  pub others : KeptByOthers cpu (mail_at mails m) after
  pub shows : word ≡ message_word (parts_of after)
  pub book : IsBook key (set mails m after) s
  pub happens : Happens (machine_of key.cpus mails) event (machine_of key.cpus (set mails m after))

-- the message of a number in the machine that a book shows
pub shown_at : (mails : List Mail) (m : ℕ) → m < length mails → slice_get (map (λ (mail : Mail). mail.msg) mails) m ≡ Some ((mail_at mails m).msg)
shown_at [] m h = absurd (omega arith)
shown_at (x ∷ xs) zero h = refl
shown_at (x ∷ xs) (suc m) h = shown_at xs m (omega arith)

-- an event that can happen to a message happens in the machine that the book shows
pub happens_at : (key : Key) (mails : List Mail) (m : ℕ) (mail' : Mail) (event : Event) → m < length mails → place_of event ≡ AtMessage m → adds_reference event ≡ false → cpu_of event < key.cpus
    → MessageNeeds key.cpus (mail_at mails m).msg event → mail'.msg ≡ message_after (mail_at mails m).msg event → Happens (machine_of key.cpus mails) event (machine_of key.cpus (set mails m mail'))
happens_at key mails m mail' event within place adds there needs leaves =
    let M : Machine = machine_of key.cpus mails in
    let F : Option Message → Type 0 = λ x. IsSomeAnd x (λ msg. MessageNeeds key.cpus msg event) in
    let G : Place → Type 0 = λ p. PlaceNeeds M event p in
    let H : Option Message → List Message = λ x. option_map_or (λ msg. slice_set M.messages m (message_after msg event)) x M.messages in
    let left : map (λ (mail : Mail). mail.msg) (set mails m mail') ≡ changed (λ msg. message_after msg event) M.messages m
    = map-set (λ (mail : Mail). mail.msg) mails m mail' ∙ (ap (λ (x : Message). set M.messages m x) leaves ∙ sym (ap H (shown_at mails m within))) in
    let after_is : machine_of key.cpus (set mails m mail') ≡ after_at M event (place_of event)
    = ap (λ (x : List Message). let z : Machine = record M { messages = x } in z) left ∙ ap (λ (p : Place). after_at M event p) (sym place) in (
      record {
        processor = there;
        place = subst G (sym place) (subst F (sym (shown_at mails m within)) needs);
        room = λ more. never (sym adds ∙ more);
      },
      after_is,
    )

-- an owner of which its message shows that it is at rest
at_rest : (o : Owner) → is_away o ≡ false → o ≡ Rest (origin_of o)
at_rest (Rest o) e = refl
at_rest (Out o t) e = never (sym e)
at_rest (With o t) e = never (sym e)
at_rest (Back o t) e = never (sym e)

-- an owner that a word shows on its way, also to this processor
sent_out : (o : Owner) → state_of o ≡ state.Out → o ≡ Out (origin_of o) (target_of o)
sent_out (Rest o) e = absurd (let h : state.Rest ≡ state.Out = e in cc)
sent_out (Out o t) e = refl
sent_out (With o t) e = absurd (let h : state.With ≡ state.Out = e in cc)
sent_out (Back o t) e = absurd (let h : state.Back ≡ state.Out = e in cc)

sent_to : (o : Owner) (cpu : CpuId) → state_of o ≡ state.Out → shown_target o ≡ cpu → o ≡ Out (origin_of o) cpu
sent_to (Rest o) cpu e to = absurd (let h : state.Rest ≡ state.Out = e in cc)
sent_to (Out o t) cpu e to = ap (λ (x : CpuId). Out o x) to
sent_to (With o t) cpu e to = absurd (let h : state.With ≡ state.Out = e in cc)
sent_to (Back o t) cpu e to = absurd (let h : state.Back ≡ state.Out = e in cc)

-- an owner that has taken the message, and one to which it came back
taken_by : (o : Owner) (cpu : CpuId) → is_taken cpu.0 o ≡ true → o ≡ With (origin_of o) cpu
taken_by (Rest o) cpu e = never e
taken_by (Out o t) cpu e = never e
taken_by (With o t) cpu e = let same : t.0 ≡ cpu.0 = eqb-true t.0 cpu.0 e in λ i. With o (record { 0 = same i })
taken_by (Back o t) cpu e = never e

come_back : (o : Owner) → is_back o ≡ true → o ≡ Back (origin_of o) (target_of o)
come_back (Rest o) e = never e
come_back (Out o t) e = never e
come_back (With o t) e = never e
come_back (Back o t) e = refl

-- the target that a word shows is one of so many
target_below : (cpus : ℕ) (o : Owner) → cpus ≤ 8 → TargetIsThere cpus o → (shown_target o).0 < 8
target_below cpus (Rest o) few there = omega arith
target_below cpus (Out o t) few there = omega arith
target_below cpus (With o t) few there = omega arith
target_below cpus (Back o t) few there = omega arith

pub fits_of : (cpus : ℕ) (mail : Mail) → IsSafeMessage cpus mail.msg → cpus ≤ CPU_LIMIT → MessageFits (parts_of mail)
fits_of cpus mail safe few =
    let home : (origin_of mail.msg.owner).0 ≡ mail.msg.origin.cpu.0 = ap (λ (x : CpuId). x.0) safe.home in
    let there = safe.origin_there in
    let last = safe.in_range in
    (omega arith, target_below cpus mail.msg.owner few safe.target_there, omega arith)

module _ (key : Key) (mails : List Mail) (s : State Rec View) (id : ℕ) (v : View) (cpu : CpuId) (m : ℕ) (book : IsBook key mails s) (e : get_elem? s.views id ≡ some v) (is_seat : v.kind ≡ Of cpu) (there : m < length key.specs.items) where
  abbrev mail : Mail
  mail = mail_at mails m

  abbrev msg : MsgId
  msg = record { 0 = m }

  in_mails : m < length mails
  in_mails = let h = book.as_many in omega arith

  in_homes : slot_at m < length s.homes
  in_homes = let h = book.deep in omega arith

  pub kept : IsKept key.cpus (spec_at key.specs.items m) mail (get_or s.words (word_at m) 0) (get_elem? s.homes (slot_at m)) m s.views
  kept = book.each m there

  pub knows : Knows mail (Of cpu) (at v m)
  knows = let F : SeatKind → Type 0 = λ k. Knows mail k (at v m) in subst F is_seat (kept.each_view id v e)

  pub cpu_there : cpu.0 < key.cpus
  cpu_there = AreSeated-there key.cpus (map (λ (x : View). x.kind) s.views) id cpu book.seated (at_map (λ (x : View). x.kind) s.views id v e ∙ ap (λ (k : SeatKind). some k) is_seat)

  pub own_origin : IsOwn v cpu.0 m → mail.msg.origin.cpu.0 ≡ cpu.0
  own_origin own =
      ap (λ (t : _). t.cpu.0) kept.origin_is ∙ (ap (λ (specs : List MsgSpec). (spec_at specs m).origin.cpu.0) (sym (seat_plan key mails s id v cpu book e is_seat).1) ∙ own)

  pub knows_own : IsOwn v cpu.0 m → KnowsOwn mail (at v m)
  knows_own own = knows.as_origin (sym (own_origin own))

  pub knows_taken : KnowsTaken cpu.0 mail (at v m)
  knows_taken = knows.as_target cpu.0 refl

  alone : (j : ℕ) (x : View) → (j ≡ id → ⊥) → get_elem? s.views j ≡ some x → StandsFor x.kind cpu.0 → ⊥
  alone = stands_alone key.cpus s.views id v cpu book.seated e is_seat

  -- a step on the message, and the event that it is
  leads : (mail' : Mail) (event : Event) (word' : ℕ) (homes' : List (maybe.Option Rec)) (e' : MessageEntry) (between : List Deed) (did : Deed)
      → length homes' ≡ length s.homes → ((k : ℕ) → k ≢ m → get_elem? homes' (slot_at k) ≡ get_elem? s.homes (slot_at k))
      → IsKept key.cpus (spec_at key.specs.items m) mail' word' (get_elem? homes' (slot_at m)) m (set s.views id (noted between v m e' did))
      → place_of event ≡ AtMessage m → adds_reference event ≡ false → cpu_of event < key.cpus → MessageNeeds key.cpus mail.msg event → mail'.msg ≡ message_after mail.msg event → KeptByOthers cpu.0 mail mail'
      → LeadsTo key mails m cpu.0 mail' event word' record { words = set s.words (word_at m) word'; homes = homes'; views = set s.views id (noted between v m e' did) }
  leads mail' event word' homes' e' between did as_deep slots now place adds by needs is others = record {
    others = others;
    shows = now.is_word;
    book = IsBook-moved key mails s m id v (noted between v m e' did) mail' word' homes' book e (Changes-noted v m e' between did) there as_deep slots now;
    happens = happens_at key mails m mail' event in_mails place adds by needs is;
  }

  set_slots : (x : maybe.Option Rec) (k : ℕ) → k ≢ m → get_elem? (set s.homes (slot_at m) x) (slot_at k) ≡ get_elem? s.homes (slot_at k)
  set_slots x k apart = set_else s.homes (slot_at m) (slot_at k) x (λ h. apart (omega arith))

  -- the origin sends a message at rest
  pub send_leads : (to : CpuId) (sync : Bool) (flags : Flags) (rec : Rec) (between : List Deed) (did : Deed) → IsOwn v cpu.0 m → (at v m).away ≡ false → to.0 < key.cpus → (at v m).round < LAST_ROUND → rec.error ≡ 0 → rec.result ≡ 0
      → LeadsTo key mails m cpu.0 (mail_sent mail (Send cpu msg to ((at v m).round + 1)) (sent_word cpu to ((at v m).round + 1) sync flags) rec) (Send cpu msg to ((at v m).round + 1)) (message_word (sent_word cpu to ((at v m).round + 1) sync flags)) record {
        words = set s.words (word_at m) (message_word (sent_word cpu to ((at v m).round + 1) sync flags));
        homes = set s.homes (slot_at m) (some rec);
        views = set s.views id (noted between v m (sent (sent_word cpu to ((at v m).round + 1) sync flags) (call_of rec) (at v m)) did);
      }
  send_leads to sync flags rec between did own home to_there room no_error no_result =
      let w : MsgWord = sent_word cpu to ((at v m).round + 1) sync flags in
      let n : ℕ = message_word w in
      let k = knows_own own in
      let o : CpuId = origin_of mail.msg.owner in
      let origin_same : o ≡ cpu = kept.safe.home ∙ (λ i. record { 0 = own_origin own i }) in
      let owner_is : mail.msg.owner ≡ Rest cpu = at_rest mail.msg.owner (sym k.away_is ∙ home) ∙ ap (λ (x : CpuId). Rest x) origin_same in
      let quiet : mail.msg.asked ≡ false = kept.safe.quiet (sym k.away_is ∙ home) in
      let next : (at v m).round + 1 ≡ mail.msg.round + 1 = ap (λ (x : ℕ). x + 1) k.round_is in
      let mail' : Mail = mail_sent mail (Send cpu msg to w.round) w rec in
      let needs : MessageNeeds key.cpus mail.msg (Send cpu msg to w.round) = (owner_is, to_there, next, omega arith) in
      let safe : IsSafeMessage key.cpus mail'.msg = IsSafeMessage-after key.cpus mail.msg (Send cpu msg to w.round) kept.safe needs cpu_there in
      let is_word : n ≡ message_word (parts_of mail') = ap (λ (b : Bool). message_word (record w { aborted = b })) (sym quiet) in
      let mine : Knows mail (Of cpu) (at v m) → Knows mail' (Of cpu) (sent w (call_of rec) (at v m))
      = λ known. send_mine mail cpu to cpu m w rec (at v m) quiet refl (subst (λ (x : Owner). Knows (owned mail x) (Of cpu) (at v m)) owner_is known) in
      let others : (kind : SeatKind) (x : MessageEntry) → (StandsFor kind cpu.0 → ⊥) → Knows mail kind x → Knows mail' kind x
      = λ kind x not_its known. send_others mail cpu to cpu m w rec (own_origin own) kind x not_its (subst (λ (y : Owner). Knows (owned mail y) kind x) owner_is known) in
      let now = kept_step key.cpus (spec_at key.specs.items m) mail mail' (get_or s.words (word_at m) 0) n (get_elem? s.homes (slot_at m)) (get_elem? (set s.homes (slot_at m) (some rec)) (slot_at m)) m s.views id v cpu
      (sent w (call_of rec) (at v m)) between did kept e is_seat alone safe refl refl is_word (set_here s.homes (slot_at m) (some rec) in_homes) (λ _. (no_error, no_result)) mine others in
      leads mail' (Send cpu msg to w.round) n (set s.homes (slot_at m) (some rec)) (sent w (call_of rec) (at v m)) between did (length-set s.homes (slot_at m) (some rec)) (set_slots (some rec)) now refl refl cpu_there needs refl others

  -- a step that leaves the message as it is
  pub stays : (e' : MessageEntry) (between : List Deed) (did : Deed) → (Knows mail (Of cpu) (at v m) → Knows mail (Of cpu) e')
      → IsBook key (set mails m mail) record { words = set s.words (word_at m) (get_or s.words (word_at m) 0); homes = s.homes; views = set s.views id (noted between v m e' did) }
  stays e' between did mine =
      let now = kept_step key.cpus (spec_at key.specs.items m) mail mail (get_or s.words (word_at m) 0) (get_or s.words (word_at m) 0) (get_elem? s.homes (slot_at m)) (get_elem? s.homes (slot_at m)) m s.views id v cpu
      e' between did kept e is_seat alone kept.safe refl refl kept.is_word kept.slot kept.unanswered mine (λ kind x _ known. known) in
      IsBook-moved key mails s m id v (noted between v m e' did) mail (get_or s.words (word_at m) 0) s.homes book e (Changes-noted v m e' between did) there refl (λ k apart. refl) now

  -- the word that shows the message
  pub parts_fit : MessageFits (parts_of mail)
  parts_fit = fits_of key.cpus mail kept.safe book.within.processors

  pub parts_are : (w : MsgWord) → get_or s.words (word_at m) 0 ≡ message_word w → MessageFits w → parts_of mail ≡ w
  parts_are w is fits = message_word-injective (parts_of mail) w parts_fit fits (sym kept.is_word ∙ is)

  -- a message on its way to the seat's processor is taken
  taken_kept : (o : CpuId) (w : MsgWord) (between : List Deed) (did : Deed) → get_or s.words (word_at m) 0 ≡ message_word w → w.round ≡ mail.msg.round
      → IsKept key.cpus (spec_at key.specs.items m) (owned mail (Out o cpu)) (get_or s.words (word_at m) 0) (get_elem? s.homes (slot_at m)) m s.views
      → IsKept key.cpus (spec_at key.specs.items m) (mail_after (owned mail (Out o cpu)) (TakeMsg cpu msg w.round) mail.rec) (message_word w + 1) (get_elem? (set s.homes (slot_at m) none) (slot_at m)) m (set s.views id (noted between v m (took mail.rec (at v m)) did))
  taken_kept o w between did is round_is k =
      let out : Mail = owned mail (Out o cpu) in
      let event : Event = TakeMsg cpu msg w.round in
      let out' : Mail = mail_after out event mail.rec in
      let before : get_or s.words (word_at m) 0 ≡ message_word (parts_of out) = k.is_word in
      let is_word : message_word w + 1 ≡ message_word (parts_of out') = omega arith in
      let safe : IsSafeMessage key.cpus out'.msg = IsSafeMessage-after key.cpus out.msg event k.safe (refl, round_is) cpu_there in
      kept_step key.cpus (spec_at key.specs.items m) out out' (get_or s.words (word_at m) 0) (message_word w + 1) (get_elem? s.homes (slot_at m)) (get_elem? (set s.homes (slot_at m) none) (slot_at m)) m s.views id v cpu
      (took mail.rec (at v m)) between did k e is_seat alone safe refl refl is_word (set_here s.homes (slot_at m) none in_homes) (λ h. absurd (omega arith))
      (take_mine mail o cpu cpu m w.round (at v m)) (take_others mail o cpu cpu m w.round)

  pub take_leads : (w : MsgWord) (between : List Deed) (did : Deed) → get_or s.words (word_at m) 0 ≡ message_word w → MessageFits w → w.state ≡ state.Out → w.target ≡ cpu
      → LeadsTo key mails m cpu.0 (mail_after mail (TakeMsg cpu msg w.round) mail.rec) (TakeMsg cpu msg w.round) (message_word w + 1) record { words = set s.words (word_at m) (message_word w + 1); homes = set s.homes (slot_at m) none; views = set s.views id (noted between v m (took mail.rec (at v m)) did) }
  take_leads w between did is fits out to =
      let same : parts_of mail ≡ w = parts_are w is fits in
      let owner_is : mail.msg.owner ≡ Out (origin_of mail.msg.owner) cpu = sent_to mail.msg.owner cpu (ap (λ (x : MsgWord). x.state) same ∙ out) (ap (λ (x : MsgWord). x.target) same ∙ to) in
      let event : Event = TakeMsg cpu msg w.round in
      let round_is : w.round ≡ mail.msg.round = sym (ap (λ (x : MsgWord). x.round) same) in
      let F : Owner → Type 0 = λ x. IsKept key.cpus (spec_at key.specs.items m) (owned mail x) (get_or s.words (word_at m) 0) (get_elem? s.homes (slot_at m)) m s.views
      → IsKept key.cpus (spec_at key.specs.items m) (mail_after (owned mail x) event mail.rec) (message_word w + 1) (get_elem? (set s.homes (slot_at m) none) (slot_at m)) m (set s.views id (noted between v m (took mail.rec (at v m)) did)) in
      let now = subst F (sym owner_is) (taken_kept (origin_of mail.msg.owner) w between did is round_is) kept in
      let G : Owner → Type 0 = λ x. IsOutTo cpu x in
      let K : Owner → Type 0 = λ x. KeptByOthers cpu.0 (owned mail x) (mail_after (owned mail x) event mail.rec) in
      leads (mail_after mail event mail.rec) event (message_word w + 1) (set s.homes (slot_at m) none) (took mail.rec (at v m)) between did (length-set s.homes (slot_at m) none) (set_slots none) now refl refl cpu_there (subst G (sym owner_is) refl, round_is) refl (subst K (sym owner_is) (take_others mail (origin_of mail.msg.owner) cpu cpu m w.round))

  -- what the slot of a message on its way holds
  pub out_slot : (w : MsgWord) → get_or s.words (word_at m) 0 ≡ message_word w → MessageFits w → w.state ≡ state.Out → (get_elem? s.homes (slot_at m) ≡ some (some mail.rec)) × (mail.rec.error ≡ 0) × (mail.rec.result ≡ 0)
  out_slot w is fits out =
      let same : parts_of mail ≡ w = parts_are w is fits in
      let F : Owner → Type 0 = λ x. (get_elem? s.homes (slot_at m) ≡ some (in_slot x mail.had mail.rec)) → (in_out x ≡ 1 → (mail.rec.error ≡ 0) × (mail.rec.result ≡ 0)) → (get_elem? s.homes (slot_at m) ≡ some (some mail.rec)) × (mail.rec.error ≡ 0) × (mail.rec.result ≡ 0) in
      let go : F (Out (origin_of mail.msg.owner) (target_of mail.msg.owner)) = λ slot clean. (slot, (clean refl).0, (clean refl).1) in
      subst F (sym (sent_out mail.msg.owner (ap (λ (x : MsgWord). x.state) same ∙ out))) go kept.slot kept.unanswered

  -- a message that the seat has taken is replied to
  replied_kept : (o : CpuId) (rec : Rec) (between : List Deed) (did : Deed) → call_of rec ≡ call_of mail.rec
      → IsKept key.cpus (spec_at key.specs.items m) (owned mail (With o cpu)) (get_or s.words (word_at m) 0) (get_elem? s.homes (slot_at m)) m s.views
      → IsKept key.cpus (spec_at key.specs.items m) (mail_after (owned mail (With o cpu)) (Reply cpu msg) rec) (get_or s.words (word_at m) 0 + 1) (get_elem? (set s.homes (slot_at m) (some rec)) (slot_at m)) m (set s.views id (noted between v m (replied rec (at v m)) did))
  replied_kept o rec between did same_call k =
      let held : Mail = owned mail (With o cpu) in
      let event : Event = Reply cpu msg in
      let held' : Mail = mail_after held event rec in
      let before : get_or s.words (word_at m) 0 ≡ message_word (parts_of held) = k.is_word in
      let is_word : get_or s.words (word_at m) 0 + 1 ≡ message_word (parts_of held') = omega arith in
      let safe : IsSafeMessage key.cpus held'.msg = IsSafeMessage-after key.cpus held.msg event k.safe refl cpu_there in
      kept_step key.cpus (spec_at key.specs.items m) held held' (get_or s.words (word_at m) 0) (get_or s.words (word_at m) 0 + 1) (get_elem? s.homes (slot_at m)) (get_elem? (set s.homes (slot_at m) (some rec)) (slot_at m)) m s.views id v cpu
      (replied rec (at v m)) between did k e is_seat alone safe refl refl is_word (set_here s.homes (slot_at m) (some rec) in_homes) (λ h. absurd (omega arith))
      (reply_mine mail o cpu cpu m rec same_call (at v m)) (reply_others mail o cpu cpu m rec same_call)

  pub taken_below : (at v m).taken ≡ true → message_word (parts_of mail) + 1 < 2 ^ 64
  taken_below taken =
      let is : is_taken cpu.0 mail.msg.owner ≡ true = sym knows_taken.taken_is ∙ taken in
      let owner_is : mail.msg.owner ≡ With (origin_of mail.msg.owner) cpu = taken_by mail.msg.owner cpu is in
      message_word-below (parts_of mail) parts_fit (ap state_of owner_is)

  pub reply_leads : (rec : Rec) (between : List Deed) (did : Deed) → (at v m).taken ≡ true → call_of rec ≡ (at v m).got
      → LeadsTo key mails m cpu.0 (mail_after mail (Reply cpu msg) rec) (Reply cpu msg) (get_or s.words (word_at m) 0 + 1) record { words = set s.words (word_at m) (get_or s.words (word_at m) 0 + 1); homes = set s.homes (slot_at m) (some rec); views = set s.views id (noted between v m (replied rec (at v m)) did) }
  reply_leads rec between did taken same_call =
      let k = knows_taken in
      let is : is_taken cpu.0 mail.msg.owner ≡ true = sym k.taken_is ∙ taken in
      let owner_is : mail.msg.owner ≡ With (origin_of mail.msg.owner) cpu = taken_by mail.msg.owner cpu is in
      let event : Event = Reply cpu msg in
      let F : Owner → Type 0 = λ x. IsKept key.cpus (spec_at key.specs.items m) (owned mail x) (get_or s.words (word_at m) 0) (get_elem? s.homes (slot_at m)) m s.views
      → IsKept key.cpus (spec_at key.specs.items m) (mail_after (owned mail x) event rec) (get_or s.words (word_at m) 0 + 1) (get_elem? (set s.homes (slot_at m) (some rec)) (slot_at m)) m (set s.views id (noted between v m (replied rec (at v m)) did)) in
      let now = subst F (sym owner_is) (replied_kept (origin_of mail.msg.owner) rec between did (same_call ∙ k.got_is is)) kept in
      let G : Owner → Type 0 = λ x. IsWith cpu x in
      let K : Owner → Type 0 = λ x. KeptByOthers cpu.0 (owned mail x) (mail_after (owned mail x) event rec) in
      leads (mail_after mail event rec) event (get_or s.words (word_at m) 0 + 1) (set s.homes (slot_at m) (some rec)) (replied rec (at v m)) between did (length-set s.homes (slot_at m) (some rec)) (set_slots (some rec)) now refl refl cpu_there (subst G (sym owner_is) refl) refl (subst K (sym owner_is) (reply_others mail (origin_of mail.msg.owner) cpu cpu m rec (same_call ∙ k.got_is is)))

  -- a message that came back is reaped by its origin
  reaped_kept : (t : CpuId) (between : List Deed) (did : Deed) → IsOwn v cpu.0 m → (at v m).round ≡ mail.msg.round
      → IsKept key.cpus (spec_at key.specs.items m) (owned mail (Back cpu t)) (get_or s.words (word_at m) 0) (get_elem? s.homes (slot_at m)) m s.views → mail.had ≡ true
      → IsKept key.cpus (spec_at key.specs.items m) (mail_after (owned mail (Back cpu t)) (Reap cpu msg) mail.rec) (message_word (rest_word cpu (at v m).round)) (get_elem? (set s.homes (slot_at m) none) (slot_at m)) m (set s.views id (noted between v m (reaped (at v m)) did))
  reaped_kept t between did own round_is k had =
      let back : Mail = owned mail (Back cpu t) in
      let event : Event = Reap cpu msg in
      let back' : Mail = mail_after back event mail.rec in
      let is_word : message_word (rest_word cpu (at v m).round) ≡ message_word (parts_of back') = ap (λ (n : ℕ). message_word (rest_word cpu n)) round_is in
      let safe : IsSafeMessage key.cpus back'.msg = IsSafeMessage-after key.cpus back.msg event k.safe refl cpu_there in
      let slot : get_elem? (set s.homes (slot_at m) none) (slot_at m) ≡ some (in_slot (Rest cpu) mail.had mail.rec)
      = set_here s.homes (slot_at m) none in_homes ∙ ap (λ (b : Bool). some (in_slot (Rest cpu) b mail.rec)) (sym had) in
      kept_step key.cpus (spec_at key.specs.items m) back back' (get_or s.words (word_at m) 0) (message_word (rest_word cpu (at v m).round)) (get_elem? s.homes (slot_at m)) (get_elem? (set s.homes (slot_at m) none) (slot_at m)) m s.views id v cpu
      (reaped (at v m)) between did k e is_seat alone safe refl refl is_word slot (λ h. absurd (omega arith))
      (reap_mine mail cpu t cpu m (at v m)) (reap_others mail cpu t cpu m (own_origin own))

  pub reap_leads : (between : List Deed) (did : Deed) → IsOwn v cpu.0 m → (at v m).had ≡ true → (at v m).back ≡ true
      → LeadsTo key mails m cpu.0 (mail_after mail (Reap cpu msg) mail.rec) (Reap cpu msg) (message_word (rest_word cpu (at v m).round)) record { words = set s.words (word_at m) (message_word (rest_word cpu (at v m).round)); homes = set s.homes (slot_at m) none; views = set s.views id (noted between v m (reaped (at v m)) did) }
  reap_leads between did own had seen =
      let k = knows_own own in
      let origin_same : origin_of mail.msg.owner ≡ cpu = kept.safe.home ∙ (λ i. record { 0 = own_origin own i }) in
      let owner_is : mail.msg.owner ≡ Back cpu (target_of mail.msg.owner) = come_back mail.msg.owner (k.back_is seen) ∙ ap (λ (x : CpuId). Back x (target_of mail.msg.owner)) origin_same in
      let event : Event = Reap cpu msg in
      let F : Owner → Type 0 = λ x. IsKept key.cpus (spec_at key.specs.items m) (owned mail x) (get_or s.words (word_at m) 0) (get_elem? s.homes (slot_at m)) m s.views → mail.had ≡ true
      → IsKept key.cpus (spec_at key.specs.items m) (mail_after (owned mail x) event mail.rec) (message_word (rest_word cpu (at v m).round)) (get_elem? (set s.homes (slot_at m) none) (slot_at m)) m (set s.views id (noted between v m (reaped (at v m)) did)) in
      let now = subst F (sym owner_is) (reaped_kept (target_of mail.msg.owner) between did own k.round_is) kept (sym k.had_is ∙ had) in
      let G : Owner → Type 0 = λ x. IsBackTo cpu x in
      let K : Owner → Type 0 = λ x. KeptByOthers cpu.0 (owned mail x) (mail_after (owned mail x) event mail.rec) in
      leads (mail_after mail event mail.rec) event (message_word (rest_word cpu (at v m).round)) (set s.homes (slot_at m) none) (reaped (at v m)) between did (length-set s.homes (slot_at m) none) (set_slots none) now refl refl cpu_there (subst G (sym owner_is) refl) refl (subst K (sym owner_is) (reap_others mail cpu (target_of mail.msg.owner) cpu m (own_origin own)))

  -- what the slot of a message that came back holds
  pub back_slot : IsOwn v cpu.0 m → (at v m).back ≡ true → (get_elem? s.homes (slot_at m) ≡ some (some mail.rec)) × (call_of mail.rec ≡ (at v m).call)
  back_slot own seen =
      let k = knows_own own in
      let F : Owner → Type 0 = λ x. (get_elem? s.homes (slot_at m) ≡ some (in_slot x mail.had mail.rec)) → get_elem? s.homes (slot_at m) ≡ some (some mail.rec) in
      let go : F (Back (origin_of mail.msg.owner) (target_of mail.msg.owner)) = λ slot. slot in
      (subst F (sym (come_back mail.msg.owner (k.back_is seen))) go kept.slot, sym k.call_is)

  -- a message on its way is dropped by its origin
  dropped_kept : (t : CpuId) (between : List Deed) (did : Deed) → IsOwn v cpu.0 m → (at v m).round ≡ mail.msg.round
      → IsKept key.cpus (spec_at key.specs.items m) (owned mail (Out cpu t)) (get_or s.words (word_at m) 0) (get_elem? s.homes (slot_at m)) m s.views → mail.had ≡ true
      → IsKept key.cpus (spec_at key.specs.items m) (mail_after (owned mail (Out cpu t)) (DropMsg cpu msg) mail.rec) (message_word (rest_word cpu (at v m).round)) (get_elem? (set s.homes (slot_at m) none) (slot_at m)) m (set s.views id (noted between v m (dropped (at v m)) did))
  dropped_kept t between did own round_is k had =
      let out : Mail = owned mail (Out cpu t) in
      let event : Event = DropMsg cpu msg in
      let out' : Mail = mail_after out event mail.rec in
      let is_word : message_word (rest_word cpu (at v m).round) ≡ message_word (parts_of out') = ap (λ (n : ℕ). message_word (rest_word cpu n)) round_is in
      let safe : IsSafeMessage key.cpus out'.msg = IsSafeMessage-after key.cpus out.msg event k.safe refl cpu_there in
      let slot : get_elem? (set s.homes (slot_at m) none) (slot_at m) ≡ some (in_slot (Rest cpu) mail.had mail.rec)
      = set_here s.homes (slot_at m) none in_homes ∙ ap (λ (b : Bool). some (in_slot (Rest cpu) b mail.rec)) (sym had) in
      kept_step key.cpus (spec_at key.specs.items m) out out' (get_or s.words (word_at m) 0) (message_word (rest_word cpu (at v m).round)) (get_elem? s.homes (slot_at m)) (get_elem? (set s.homes (slot_at m) none) (slot_at m)) m s.views id v cpu
      (dropped (at v m)) between did k e is_seat alone safe refl refl is_word slot (λ h. absurd (omega arith))
      (drop_mine mail cpu t cpu m (at v m)) (drop_others mail cpu t cpu m (own_origin own))

  pub drop_leads : (w : MsgWord) (between : List Deed) (did : Deed) → IsOwn v cpu.0 m → (at v m).had ≡ true → get_or s.words (word_at m) 0 ≡ message_word w → MessageFits w → w.state ≡ state.Out
      → LeadsTo key mails m cpu.0 (mail_after mail (DropMsg cpu msg) mail.rec) (DropMsg cpu msg) (message_word (rest_word cpu (at v m).round)) record { words = set s.words (word_at m) (message_word (rest_word cpu (at v m).round)); homes = set s.homes (slot_at m) none; views = set s.views id (noted between v m (dropped (at v m)) did) }
  drop_leads w between did own had is fits out =
      let k = knows_own own in
      let same : parts_of mail ≡ w = parts_are w is fits in
      let origin_same : origin_of mail.msg.owner ≡ cpu = kept.safe.home ∙ (λ i. record { 0 = own_origin own i }) in
      let owner_is : mail.msg.owner ≡ Out cpu (target_of mail.msg.owner) = sent_out mail.msg.owner (ap (λ (x : MsgWord). x.state) same ∙ out) ∙ ap (λ (x : CpuId). Out x (target_of mail.msg.owner)) origin_same in
      let event : Event = DropMsg cpu msg in
      let F : Owner → Type 0 = λ x. IsKept key.cpus (spec_at key.specs.items m) (owned mail x) (get_or s.words (word_at m) 0) (get_elem? s.homes (slot_at m)) m s.views → mail.had ≡ true
      → IsKept key.cpus (spec_at key.specs.items m) (mail_after (owned mail x) event mail.rec) (message_word (rest_word cpu (at v m).round)) (get_elem? (set s.homes (slot_at m) none) (slot_at m)) m (set s.views id (noted between v m (dropped (at v m)) did)) in
      let now = subst F (sym owner_is) (dropped_kept (target_of mail.msg.owner) between did own k.round_is) kept (sym k.had_is ∙ had) in
      let G : Owner → Type 0 = λ x. IsOutFrom cpu x in
      let K : Owner → Type 0 = λ x. KeptByOthers cpu.0 (owned mail x) (mail_after (owned mail x) event mail.rec) in
      leads (mail_after mail event mail.rec) event (message_word (rest_word cpu (at v m).round)) (set s.homes (slot_at m) none) (dropped (at v m)) between did (length-set s.homes (slot_at m) none) (set_slots none) now refl refl cpu_there (subst G (sym owner_is) refl) refl (subst K (sym owner_is) (drop_others mail cpu (target_of mail.msg.owner) cpu m (own_origin own)))

  -- the origin asks for a message that is away to be aborted
  pub abort_leads : (w : MsgWord) (between : List Deed) (did : Deed) → IsOwn v cpu.0 m → (at v m).away ≡ true → get_or s.words (word_at m) 0 ≡ message_word w → MessageFits w
      → LeadsTo key mails m cpu.0 (mail_after mail (Abort cpu msg) mail.rec) (Abort cpu msg) (message_word (record w { aborted = true })) record { words = set s.words (word_at m) (message_word (record w { aborted = true })); homes = s.homes; views = set s.views id (noted between v m (requested (at v m)) did) }
  abort_leads w between did own away is fits =
      let k = knows_own own in
      let same : parts_of mail ≡ w = parts_are w is fits in
      let origin_same : origin_of mail.msg.owner ≡ cpu = kept.safe.home ∙ (λ i. record { 0 = own_origin own i }) in
      let event : Event = Abort cpu msg in
      let mail' : Mail = mail_after mail event mail.rec in
      let needs : MessageNeeds key.cpus mail.msg event = (origin_same, sym k.away_is ∙ away) in
      let safe : IsSafeMessage key.cpus mail'.msg = IsSafeMessage-after key.cpus mail.msg event kept.safe needs cpu_there in
      let is_word : message_word (record w { aborted = true }) ≡ message_word (parts_of mail') = ap (λ (x : MsgWord). message_word (record x { aborted = true })) (sym same) in
      let now = kept_step key.cpus (spec_at key.specs.items m) mail mail' (get_or s.words (word_at m) 0) (message_word (record w { aborted = true })) (get_elem? s.homes (slot_at m)) (get_elem? s.homes (slot_at m)) m s.views id v cpu
      (requested (at v m)) between did kept e is_seat alone safe refl refl is_word kept.slot kept.unanswered (abort_mine mail cpu cpu cpu m (at v m)) (abort_others mail cpu cpu cpu m (own_origin own)) in
      leads mail' event (message_word (record w { aborted = true })) s.homes (requested (at v m)) between did refl (λ n apart. refl) now refl refl cpu_there needs refl (abort_others mail cpu cpu cpu m (own_origin own))

  -- a message at rest with the seat's processor
  pub rests : IsOwn v cpu.0 m → (at v m).away ≡ false → mail.msg.owner ≡ Rest cpu
  rests own home =
      let origin_same : origin_of mail.msg.owner ≡ cpu = kept.safe.home ∙ (λ i. record { 0 = own_origin own i }) in
      at_rest mail.msg.owner (sym (knows_own own).away_is ∙ home) ∙ ap (λ (x : CpuId). Rest x) origin_same

  -- a message that a word shows on its way to the seat's processor, and one that came back
  pub goes_to : (w : MsgWord) → get_or s.words (word_at m) 0 ≡ message_word w → MessageFits w → w.state ≡ state.Out → w.target ≡ cpu → mail.msg.owner ≡ Out (origin_of mail.msg.owner) cpu
  goes_to w is fits out to =
      let same : parts_of mail ≡ w = parts_are w is fits in
      sent_to mail.msg.owner cpu (ap (λ (x : MsgWord). x.state) same ∙ out) (ap (λ (x : MsgWord). x.target) same ∙ to)

  pub goes_out : (w : MsgWord) → get_or s.words (word_at m) 0 ≡ message_word w → MessageFits w → w.state ≡ state.Out → mail.msg.owner ≡ Out (origin_of mail.msg.owner) (target_of mail.msg.owner)
  goes_out w is fits out = sent_out mail.msg.owner (ap (λ (x : MsgWord). x.state) (parts_are w is fits) ∙ out)

  pub came_back : IsOwn v cpu.0 m → (at v m).back ≡ true → mail.msg.owner ≡ Back (origin_of mail.msg.owner) (target_of mail.msg.owner)
  came_back own seen = come_back mail.msg.owner ((knows_own own).back_is seen)

  -- the record of a message that is still at home is handed out to its origin
  pub hands_out : (between : List Deed) (did : Deed) → IsOwn v cpu.0 m → (at v m).had ≡ false → (at v m).away ≡ false
      → (get_elem? s.homes (slot_at m) ≡ some (some mail.rec)) × IsBook key (set mails m (record mail { had = true })) record { words = set s.words (word_at m) (get_or s.words (word_at m) 0); homes = set s.homes (slot_at m) none; views = set s.views id (noted between v m (handed (at v m)) did) }
  hands_out between did own had home =
      let k = knows_own own in
      let owner_is : mail.msg.owner ≡ Rest (origin_of mail.msg.owner) = at_rest mail.msg.owner (sym k.away_is ∙ home) in
      let mail' : Mail = record mail { had = true } in
      let F : Owner → Type 0 = λ x. (get_elem? s.homes (slot_at m) ≡ some (in_slot x mail.had mail.rec)) → mail.had ≡ false → get_elem? s.homes (slot_at m) ≡ some (some mail.rec) in
      let go : F (Rest (origin_of mail.msg.owner)) = λ slot not_yet. slot ∙ ap (λ (b : Bool). some (in_slot (Rest (origin_of mail.msg.owner)) b mail.rec)) not_yet in
      let G : Owner → Type 0 = λ x. get_elem? (set s.homes (slot_at m) none) (slot_at m) ≡ some (in_slot x true mail.rec) in
      let slot : get_elem? (set s.homes (slot_at m) none) (slot_at m) ≡ some (in_slot mail.msg.owner true mail.rec) = subst G (sym owner_is) (set_here s.homes (slot_at m) none in_homes) in
      let now = kept_step key.cpus (spec_at key.specs.items m) mail mail' (get_or s.words (word_at m) 0) (get_or s.words (word_at m) 0) (get_elem? s.homes (slot_at m)) (get_elem? (set s.homes (slot_at m) none) (slot_at m)) m s.views id v cpu
      (handed (at v m)) between did kept e is_seat alone kept.safe refl refl kept.is_word slot kept.unanswered (hand_mine mail cpu cpu cpu m (at v m)) (hand_others mail cpu cpu cpu m (own_origin own)) in (
        subst F (sym owner_is) go kept.slot (sym k.had_is ∙ had),
        IsBook-moved key mails s m id v (noted between v m (handed (at v m)) did) mail' (get_or s.words (word_at m) 0) (set s.homes (slot_at m) none) book e (Changes-noted v m (handed (at v m)) between did) there (length-set s.homes (slot_at m) none) (set_slots none) now,
      )
