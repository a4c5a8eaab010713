use Rattle.std.proofs.Common.{eq-eqb, ⊎_elim, Bool, true, cond, ◌≡◌, ◌≢◌, ℕ, ◌+◌, ◌<◌, ◌≤◌, List, [], ◌∷◌, ◌++◌, length, refl, ap, sym, ◌∙◌, subst, arith, set, zero, suc, take, get_or, Option, None, length-take, append_assoc}
use Rattle.std.specs.Prelude.{slice_get, slice_index, All, Some, is_some}
use Rattle.atomic_table.specs.declared.shared.Seat.{Seat}
use Rattle.lwkt_base.specs.declared.names.CpuId.{CpuId}
use Rattle.lwkt_table.specs.declared.seats.SeatKind.TheVariants.{Of}
use Rattle.lwkt_table.specs.declared.seats.Deed.{Deed}
use Rattle.lwkt_table.specs.History.{AreOthers, AreOwn, Grows}
use Rattle.lwkt_table.proofs.HistoryLemmas.{own-nil, own-cons, own-append, Grows-append}
use Rattle.lwkt_bank.specs.declared.views.Plan.{Plan}
use Rattle.lwkt_bank.specs.declared.views.KnownCell.{KnownCell}
use Rattle.lwkt_bank.specs.declared.views.TokenEntry.{TokenEntry}
use Rattle.lwkt_bank.specs.declared.views.View.{View}
use Rattle.lwkt_bank.specs.declared.banks.Bank.{Bank}
use Rattle.lwkt_bank.specs.declared.seats.CpuSeat.{CpuSeat}
use Rattle.std.proofs.lemmas.Bool.{cases_eq}
use Rattle.std.proofs.Math.Path.{fun_ext}
use Rattle.std.proofs.lemmas.List.{get_or-take, ext_get_or, get_or_default}
use Rattle.lwkt_base.specs.Holding.{is_held, is_exclusive}
use Rattle.lwkt_base.specs.declared.names.Mode.{Mode}
use Rattle.lwkt_base.specs.declared.names.Mode.TheVariants.{Exclusive, Shared}
use Rattle.lwkt_base.specs.declared.holdings.Held.TheVariants.{Nothing, Holds}
use Rattle.lwkt_base.specs.declared.words.Decision.TheVariants.{Take}
use Rattle.lwkt_base.specs.Holding.{Holding}
use Rattle.lwkt_bank.specs.Plays.{IsTakenRow, TakesHands}
use Rattle.lwkt_bank.specs.Hands.{AreSame, AreHands, IsInHand, TakesOut, PutsBack}
use Rattle.lwkt_bank.proofs.HandMoves.{AreSame-refl}
use Rattle.lwkt_bank.proofs.GuardMoves.{hands_alike, hands_put, hands_taken, hands_free, hands_moved}
use Rattle.lwkt_bank.specs.Views.{RecordOf, listed, wrote_record, at, noted, seat_cpu, who, read, seen, looked, taken, generation_in, raised, count_from}
use Rattle.lwkt_bank.specs.Deeds.{loads, takes, loses, writes}
use Rattle.lwkt_bank.specs.Rule.{plan_at}
use Rattle.lwkt_bank.specs.Notes.{Keeps, IsNoted, no_note, note_at, begun, note_wrote, first_record, Overwrites}
use Rattle.lwkt_bank.specs.declared.notes.TokenNote.{TokenNote}
use Rattle.lwkt_bank.specs.Seats.{BankId, id_of, bank_of, tokens_of, plan_of, entry, past_of, holding, references, IsOf, Changes, Knowing, written_over, Looked, Took, Lost, Hit, Miss, Decides}
use Rattle.lwkt_bank.proofs.ViewMoves.{at-here, at-else, at-tok}
use Rattle.lwkt_bank.proofs.NoteMoves.{seat_by_number, IsNoted-seen, IsNoted-missed, IsNoted-wrote, Keeps-kept, Keeps-set}
use Rattle.lwkt_bank.proofs.TurnMoves.{seen-keeps, exclusive_held}

-- a seat is at the bank that it names
pub is_of : (bank : Bank) (s : CpuSeat) → bank_of s ≡ id_of bank → IsOf bank s.seat
is_of bank s of = record {
  table = ap (λ (b : BankId). b.table) of;
  plans = ap (λ (b : BankId). b.plans) of;
  named = let by_number = seat_by_number s.seat.me.0.kind s.cpu s.kept.seat in by_number ∙ ap Of (sym (ap seat_cpu by_number));
}

-- a number of tokens, as the seat or the bank has it
pub there_of : (bank : Bank) (s : CpuSeat) (tok : ℕ) → bank_of s ≡ id_of bank → tok < length s.seat.me.0.plans → tok < length bank.key.plans.items
there_of bank s tok of there = let e = ap (λ (b : BankId). length b.plans) of in omega arith

-- a seat's processor, as its view has it
pub who_is : (s : CpuSeat) → who s.seat.me.0 ≡ s.cpu
who_is s = ap seat_cpu (seat_by_number s.seat.me.0.kind s.cpu s.kept.seat)

-- what a step on the seat's view changes
pub changed : (s s' : CpuSeat) (tok : ℕ) (e : TokenEntry) (between : List Deed) (deed : CpuId → Deed) → s'.seat.table_id ≡ s.seat.table_id → s'.cpu ≡ s.cpu → ((deed s.cpu).cpu ≡ s.cpu) → AreOthers (who s.seat.me.0).0 between → s'.seat.me.0 ≡ noted between s.seat.me.0 e (deed (who s.seat.me.0)) → e.tok ≡ tok → Changes s s' tok e (deed s.cpu ∷ [])
changed s s' tok e between deed same cpu own others is is_tok =
    let F : CpuId → Type 0 = λ c. Grows c.0 (past_of s) (deed c ∷ []) (past_of s') in
    record {
      bank = λ i. record { table = same i; plans = (is i).plans };
      cpu = cpu;
      here = ap (λ (v : View). at v.tokens tok) is ∙ at-here e s.seat.me.0.tokens tok is_tok;
      else_ = λ other away. ap (λ (v : View). at v.tokens other) is ∙ at-else e s.seat.me.0.tokens tok other is_tok away;
      grows = subst F (who_is s) (between, (others, ap (λ (v : View). v.past) is));
      own = own-cons s.cpu.0 (deed s.cpu) [] (ap (λ (c : CpuId). c.0) own) (own-nil s.cpu.0);
    }

-- the cell of a Tally token that was raised by the seat's processor
pub raised_is : (s : CpuSeat) (w : View) (tok k value : ℕ) (between : List Deed) → w ≡ noted between s.seat.me.0 (raised (entry s tok) (who s.seat.me.0) k) (writes (who s.seat.me.0) tok 0 value) → w ≡ noted between s.seat.me.0 (raised (entry s tok) s.cpu k) (writes (who s.seat.me.0) tok 0 value)
raised_is s w tok k value between is = is ∙ ap (λ (c : CpuId). noted between s.seat.me.0 (raised (entry s tok) c k) (writes (who s.seat.me.0) tok 0 value)) (who_is s)

-- two changes of one token in a row
pub changed_twice : (s mid s' : CpuSeat) (tok : ℕ) (d e : TokenEntry) (made more : List Deed) → Changes s mid tok d made → Changes mid s' tok e more → Changes s s' tok e (made ++ more)
changed_twice s mid s' tok d e made more first second =
    let F : CpuId → Type 0 = λ c. Grows c.0 (past_of mid) more (past_of s') in
    record {
      bank = second.bank ∙ first.bank;
      cpu = second.cpu ∙ first.cpu;
      here = second.here;
      else_ = λ other away. second.else_ other away ∙ first.else_ other away;
      grows = Grows-append s.cpu.0 (past_of s) made (past_of mid) more (past_of s') first.grows (subst F first.cpu second.grows);
      own = own-append s.cpu.0 made more first.own (subst (λ (c : CpuId). AreOwn c.0 more) first.cpu second.own);
    }

-- a change is one that leaves the known cells as they were
pub knowing_same : (s s' : CpuSeat) (tok : ℕ) (e : TokenEntry) (deeds : List Deed) → Changes s s' tok e deeds → Knowing s s' tok e deeds
knowing_same s s' tok e deeds changes = record { known = e.known; new = []; grown = refl; changes = changes }

-- nothing was changed yet
pub knowing_none : (s : CpuSeat) (tok : ℕ) → Knowing s s tok (entry s tok) []
knowing_none s tok = record { known = (entry s tok).known; new = []; grown = refl; changes = record { bank = refl; cpu = refl; here = refl; else_ = λ other away. refl; grows = refl; own = own-nil s.cpu.0 } }

-- a cell was read: one more is known
pub knowing_read : (s s' : CpuSeat) (tok cell : ℕ) (deeds : List Deed) → Changes s s' tok (read (entry s tok) cell) deeds → Knowing s s' tok (entry s tok) deeds
knowing_read s s' tok cell deeds changes = record { known = record { at = cell; value = slice_index (entry s tok).first cell } ∷ (entry s tok).known; new = record { at = cell; value = slice_index (entry s tok).first cell } ∷ []; grown = refl; changes = changes }

-- a call by which more is known, and then one that changes the entry whatever is known
pub knowing_then : (s mid s' : CpuSeat) (tok : ℕ) (f : TokenEntry → TokenEntry) (made more : List Deed) → ((e : TokenEntry) (known : List KnownCell) → f (record e { known = known }) ≡ record (f e) { known = known }) → (f (entry s tok)).known ≡ (entry s tok).known
    → Knowing s mid tok (entry s tok) made → Changes mid s' tok (f (entry mid tok)) more → Knowing s s' tok (f (entry s tok)) (made ++ more)
knowing_then s mid s' tok f made more apart same first second =
    let F : TokenEntry → Type 0 = λ e. Changes mid s' tok e more in
    let there : f (entry mid tok) ≡ record (f (entry s tok)) { known = first.known } = ap f first.changes.here ∙ apart (entry s tok) first.known in
    record {
      known = first.known;
      new = first.new;
      grown = first.grown ∙ ap (λ (xs : List KnownCell). first.new ++ xs) (sym same);
      changes = changed_twice s mid s' tok (record (entry s tok) { known = first.known }) (record (f (entry s tok)) { known = first.known }) made more first.changes (subst F there second);
    }

-- a cell was read after others
pub knowing_more : (s mid s' : CpuSeat) (tok cell : ℕ) (made more : List Deed) → Knowing s mid tok (entry s tok) made → Changes mid s' tok (read (entry mid tok) cell) more → Knowing s s' tok (entry s tok) (made ++ more)
knowing_more s mid s' tok cell made more first second =
    let one : KnownCell = record { at = cell; value = slice_index (entry s tok).first cell } in
    let F : TokenEntry → Type 0 = λ e. Changes mid s' tok e more in
    let there : read (entry mid tok) cell ≡ record (entry s tok) { known = one ∷ first.known } = ap (λ (e : TokenEntry). read e cell) first.changes.here in
    record {
      known = one ∷ first.known;
      new = one ∷ first.new;
      grown = ap (λ (xs : List KnownCell). one ∷ xs) first.grown;
      changes = changed_twice s mid s' tok (record (entry s tok) { known = first.known }) (record (entry s tok) { known = one ∷ first.known }) made more first.changes (subst F there second);
    }

-- two calls by which more is known
pub knowing_both : (s mid s' : CpuSeat) (tok : ℕ) (made more : List Deed) → Knowing s mid tok (entry s tok) made → Knowing mid s' tok (entry mid tok) more → Knowing s s' tok (entry s tok) (made ++ more)
knowing_both s mid s' tok made more first second =
    let F : TokenEntry → Type 0 = λ e. Changes mid s' tok (record e { known = second.known }) more in
    record {
      known = second.known;
      new = second.new ++ first.new;
      grown =
          second.grown
          ∙ ap (λ (e : TokenEntry). second.new ++ e.known) first.changes.here
          ∙ ap (λ (xs : List KnownCell). second.new ++ xs) first.grown
          ∙ sym (append_assoc second.new first.new (entry s tok).known);
      changes = changed_twice s mid s' tok (record (entry s tok) { known = first.known }) (record (entry s tok) { known = second.known }) made more first.changes (subst F first.changes.here second.changes);
    }

-- what a seat keeps after a look
pub keeps_seen : (s : CpuSeat) (w : View) (tok g : ℕ) (between : List Deed) (d : Deed) → tok < length s.seat.me.0.plans → w ≡ noted between s.seat.me.0 (seen (entry s tok) g) d → Keeps s.notes s.cpu w
keeps_seen s w tok g between d there is =
    Keeps-kept s.notes s.cpu s.seat.me.0 w (seen (entry s tok) g) between d tok s.kept is there ((seen-keeps (entry s tok) g).0 ∙ at-tok s.seat.me.0.tokens tok)
    (IsNoted-seen (plan_at s.seat.me.0.plans tok) s.cpu.0 (entry s tok) g (note_at s.notes tok) (s.kept.each tok there))

-- the same list of records has the same records
same_list : (hands others : List (ℕ × List ℕ)) → others ≡ hands → AreSame hands others
same_list hands others is = let F : List (ℕ × List ℕ) → Type 0 = λ xs. AreSame hands xs in subst F (sym is) (AreSame-refl hands)

-- what a seat has in hand after a step that moves no record
pub still_hands : (s : CpuSeat) (new : Seat (List ℕ) View) (tok : ℕ) (e : TokenEntry) (between : List Deed) (d : Deed) → new.me.1 ≡ s.seat.me.1 → new.me.0 ≡ noted between s.seat.me.0 e d → e.tok ≡ tok → is_exclusive e.held ≡ is_exclusive (entry s tok).held → e.blob ≡ (entry s tok).blob → AreHands new.me.0 new.me.1
still_hands s new tok e between d same is is_tok held blob =
    hands_moved (noted between s.seat.me.0 e d) new.me.0 new.me.1 is (hands_alike s.seat.me.0 tok e between d is_tok s.seat.me.1 new.me.1 (record { held = held; blob = blob }) s.hands (same_list s.seat.me.1 new.me.1 same))

-- after a step that ends a section
pub put_hands : (s : CpuSeat) (new : Seat (List ℕ) View) (tok : ℕ) (e : TokenEntry) (between : List Deed) (d : Deed) → PutsBack (entry s tok).blob tok s.seat.me.1 new.me.1 → new.me.0 ≡ noted between s.seat.me.0 e d → e.tok ≡ tok → e.held ≡ Nothing → AreHands new.me.0 new.me.1
put_hands s new tok e between d puts is is_tok gone =
    hands_moved (noted between s.seat.me.0 e d) new.me.0 new.me.1 is (hands_put s.seat.me.0 tok e between d is_tok s.seat.me.1 new.me.1 (ap is_exclusive gone) (entry s tok).blob refl puts s.hands)

-- and after an exchange, which hit or missed
pub hit_hands : (s : CpuSeat) (new : Seat (List ℕ) View) (tok word old found : ℕ) (mode : Mode) (row : List ℕ) (blob : RecordOf) (between : List Deed) (d : Deed) → TakesHands mode old tok found s.seat.me new.me → found ≡ old → new.me.0 ≡ noted between s.seat.me.0 (taken (entry s tok) word mode row blob) d → tok < length s.seat.me.0.plans → holding s tok ≡ Nothing → AreHands new.me.0 new.me.1
hit_hands s new tok word old found Exclusive row blob between d takes hit is there free =
    let e = taken (entry s tok) word Exclusive row blob in
    let is_tok : e.tok ≡ tok = (seen-keeps (entry s tok) (generation_in word)).0 ∙ at-tok s.seat.me.0.tokens tok in
    let F : RecordOf → Type 0 = λ o. TakesOut o tok s.seat.me.1 new.me.1 in
    let its : (at new.me.0.tokens tok).blob ≡ blob = ap (λ (v : View). (at v.tokens tok).blob) is ∙ ap (λ (x : TokenEntry). x.blob) (at-here e s.seat.me.0.tokens tok is_tok) in
    hands_moved (noted between s.seat.me.0 e d) new.me.0 new.me.1 is (hands_taken s.seat.me.0 tok e between d is_tok s.seat.me.1 new.me.1 there refl (ap is_exclusive free) blob refl (subst F its (takes.0 hit)) s.hands)
hit_hands s new tok word old found Shared row blob between d takes hit is there free =
    let e = taken (entry s tok) word Shared row blob in
    let is_tok : e.tok ≡ tok = (seen-keeps (entry s tok) (generation_in word)).0 ∙ at-tok s.seat.me.0.tokens tok in
    let F : List (ℕ × List ℕ) → Type 0 = λ xs. AreHands new.me.0 xs in
    subst F (sym takes) (hands_moved (noted between s.seat.me.0 e d) new.me.0 s.seat.me.1 is (hands_free s.seat.me.0 tok e between d is_tok s.seat.me.1 refl (ap is_exclusive free) s.hands))

pub miss_hands : (s : CpuSeat) (new : Seat (List ℕ) View) (tok old found : ℕ) (mode : Mode) → TakesHands mode old tok found s.seat.me new.me → found ≢ old → new.me.1 ≡ s.seat.me.1
miss_hands s new tok old found Exclusive takes miss = takes.1 miss
miss_hands s new tok old found Shared takes miss = takes

-- a second look at one word shows nothing more
pub seen_twice : (e : TokenEntry) (g : ℕ) → seen (seen e g) g ≡ seen e g
seen_twice e g = ap (λ (b : Bool). cond b (seen e g) (record (seen e g) { generation = g; known = []; known_blob = [] })) (eq-eqb (seen e g).generation g (seen-keeps e g).6)

-- a look at the generation that is known changes nothing
seen_known : (e : TokenEntry) (g : ℕ) → e.generation ≡ g → seen e g ≡ e
seen_known e g is = ap (λ (b : Bool). cond b e (record e { generation = g; known = []; known_blob = [] })) (eq-eqb e.generation g is)

-- the row of a take after a look at its word
pub taken_after_look : (plan : Plan) (e : TokenEntry) (word : ℕ) (row : List ℕ) (blob : RecordOf) → e.generation ≤ generation_in word → IsTakenRow plan (looked e word) word row blob → IsTakenRow plan e word row blob
taken_after_look plan e word row blob rises took = record {
  guard = took.guard;
  short = took.short;
  opening_blob = took.opening_blob;
  fresh_blob = λ same.
      let F : TokenEntry → Type 0 = λ d. d.generation ≡ generation_in word → All (λ bytes. blob ≡ Some bytes) d.known_blob in
      subst F (seen_known e (generation_in word) same) took.fresh_blob same;
  long = took.long;
  lawful = took.lawful;
  rises = rises;
  opening = took.opening;
  fresh = λ same.
      let F : TokenEntry → Type 0 = λ d. d.generation ≡ generation_in word → All (λ c. slice_get row c.at ≡ Some c.value) d.known in
      subst F (seen_known e (generation_in word) same) took.fresh same;
}

-- a call that keeps what is held of its token keeps what is held
pub same_holding : (s s' : CpuSeat) (tok : ℕ) (e : TokenEntry) (made : List Deed) → Changes s s' tok e made → e.held ≡ (entry s tok).held → holding s' ≡ holding s
same_holding s s' tok e made changes held = fun_ext (λ k. ⊎_elim
    (λ (same : k ≡ tok). let F : ℕ → Type 0 = λ j. holding s' j ≡ holding s j in subst F (sym same) (ap (λ (d : TokenEntry). d.held) changes.here ∙ held))
    (λ away. ap (λ (d : TokenEntry). d.held) (changes.else_ k away))
    (cases_eq k tok))

pub same_references : (s s' : CpuSeat) (tok : ℕ) (e : TokenEntry) (made : List Deed) → Changes s s' tok e made → e.held ≡ (entry s tok).held → references s' ≡ references s
same_references s s' tok e made changes held =
    ap (λ (h : Holding). count_from 0 (tokens_of (bank_of s')) h) (same_holding s s' tok e made changes held)
    ∙ ap (λ (b : BankId). count_from 0 (tokens_of b) (holding s)) changes.bank

-- a try that took: the look, and then the exchange that hit
pub took : (s mid s' : CpuSeat) (tok : ℕ) (mode : Mode) (alone : Bool) (word next : ℕ) → Looked s mid tok word → Decides word mode alone (Take next) → Hit mid s' tok mode word next → Took s s' tok mode alone (generation_in word)
took s mid s' tok mode alone word next looked' decides hit =
    let e = entry s tok in
    let g = generation_in word in
    let F : TokenEntry → Type 0 = λ d. IsTakenRow (plan_of (bank_of mid) tok) d word hit.row hit.blob in
    let G : BankId → Type 0 = λ b. IsTakenRow (plan_of b tok) (looked e word) word hit.row hit.blob in
    let row_is = subst G looked'.changes.bank (subst F looked'.changes.here hit.found) in
    let again : taken (entry mid tok) word mode hit.row hit.blob ≡ taken e word mode hit.row hit.blob =
    ap (λ (d : TokenEntry). taken d word mode hit.row hit.blob) looked'.changes.here ∙ ap (λ (d : TokenEntry). record d { held = Holds mode 0; first = hit.row; row = hit.row; known_blob = listed hit.blob; first_blob = hit.blob; blob = hit.blob; touched = [] }) (seen_twice e g) in
    let H : TokenEntry → CpuId → Type 0 = λ d c. Changes mid s' tok d (takes c tok mode word next word ∷ []) in
    record {
      word = word;
      next = next;
      row = hit.row;
      blob = hit.blob;
      decided = decides;
      generation_is = refl;
      found = taken_after_look (plan_of (bank_of s) tok) e word hit.row hit.blob looked'.rises row_is;
      changes = changed_twice s mid s' tok (looked e word) (taken e word mode hit.row hit.blob) (loads s.cpu tok word ∷ []) (takes s.cpu tok mode word next word ∷ []) looked'.changes (subst (λ d. H d s.cpu) again (subst (λ c. H (taken (entry mid tok) word mode hit.row hit.blob) c) looked'.changes.cpu hit.changes));
    }

-- a try that lost: the look, and then the exchange that missed
pub lost : (s mid s' : CpuSeat) (tok : ℕ) (mode : Mode) (alone : Bool) (word next : ℕ) → Looked s mid tok word → Decides word mode alone (Take next) → Miss mid s' tok word next → Lost s s' tok mode alone
lost s mid s' tok mode alone word next looked' decides miss =
    let e = entry s tok in
    let g = generation_in word in
    let known : (entry mid tok).generation ≡ g = ap (λ (d : TokenEntry). d.generation) looked'.changes.here ∙ (seen-keeps e g).6 in
    let H : TokenEntry → CpuId → Type 0 = λ d c. Changes mid s' tok d (loses c tok word next miss.found ∷ []) in
    record {
      word = word;
      next = next;
      found = miss.found;
      decided = decides;
      other = miss.other;
      rises = (looked'.rises, (let r = miss.rises in omega arith));
      changes = changed_twice s mid s' tok (looked e word) (looked (looked e word) miss.found) (loads s.cpu tok word ∷ []) (loses s.cpu tok word next miss.found ∷ []) looked'.changes
          (subst (λ d. H d s.cpu) (ap (λ (d : TokenEntry). looked d miss.found) looked'.changes.here) (subst (λ c. H (looked (entry mid tok) miss.found) c) looked'.changes.cpu miss.changes));
    }

-- what a seat keeps after the note of a token was written anew
pub keeps_set : (s : CpuSeat) (w : View) (tok : ℕ) (e : TokenEntry) (between : List Deed) (d : Deed) (note : TokenNote) → tok < 64 → w ≡ noted between s.seat.me.0 e d → tok < length s.seat.me.0.plans → e.tok ≡ tok → IsNoted (plan_at s.seat.me.0.plans tok) s.cpu.0 e note → Keeps (set s.notes tok note) s.cpu w
keeps_set s w tok e between d note room is there is_tok here =
    let sized = s.sized in
    Keeps-set s.notes s.cpu s.seat.me.0 w e between d tok note s.kept is there is_tok (omega arith) here

-- and where it stays
pub keeps_kept : (s : CpuSeat) (w : View) (tok : ℕ) (e : TokenEntry) (between : List Deed) (d : Deed) → w ≡ noted between s.seat.me.0 e d → tok < length s.seat.me.0.plans → e.tok ≡ tok → IsNoted (plan_at s.seat.me.0.plans tok) s.cpu.0 e (note_at s.notes tok) → Keeps s.notes s.cpu w
keeps_kept s w tok e between d is there is_tok here = Keeps-kept s.notes s.cpu s.seat.me.0 w e between d tok s.kept is there is_tok here

-- the entry of a token says which it is
pub entry_tok : (s : CpuSeat) (tok : ℕ) → (entry s tok).tok ≡ tok
entry_tok s tok = at-tok s.seat.me.0.tokens tok

-- what is declared of a token, as the seat or the bank has it
pub plan_is : (bank : Bank) (s : CpuSeat) (tok : ℕ) → bank_of s ≡ id_of bank → plan_at s.seat.me.0.plans tok ≡ plan_at bank.key.plans.items tok
plan_is bank s tok of = ap (λ (b : BankId). plan_at b.plans tok) of

pub short_row : (bank : Bank) (s : CpuSeat) (tok : ℕ) → bank_of s ≡ id_of bank → (plan_at s.seat.me.0.plans tok).cells ≤ 4
short_row bank s tok of = let e = ap (λ (p : Plan). p.cells) (plan_is bank s tok of) in let h = bank.short tok in omega arith

-- so many cells of a list that are those of a row
pub cells_read : (values row : List ℕ) (cells : ℕ) → length row ≡ cells → cells ≤ 4 → length values ≡ 4 → ((cell : ℕ) → cell < cells → slice_index values cell ≡ slice_index row cell) → take cells values ≡ row
cells_read values row cells long short four same =
    let few = length-take cells values in
    ext_get_or 0 (take cells values) row (omega arith) (λ cell inside. let low : cell < cells = omega arith in get_or-take cells values cell 0 low ∙ same cell low)

-- the row that was loaded cell by cell
pub row_read : (s : CpuSeat) (tok : ℕ) (values : List ℕ) (cells : ℕ) → tok < length s.seat.me.0.plans → is_held (holding s tok) ≡ true → cells ≡ (plan_at s.seat.me.0.plans tok).cells → cells ≤ 4 → length values ≡ 4 → ((cell : ℕ) → cell < cells → slice_index values cell ≡ slice_index (entry s tok).row cell) → take cells values ≡ (entry s tok).row
row_read s tok values cells there held are short four same =
    cells_read values (entry s tok).row cells (((s.kept.each tok there).long held).1 ∙ sym are) short four same

-- an empty list of values stores nothing
written_none : (made : List (Option ℕ)) (i : ℕ) (row : List ℕ) → ((k : ℕ) → get_or made k None ≡ None) → written_over i made row ≡ row
written_none [] i row none = refl
written_none (None ∷ made) i row none = written_none made (suc i) row (λ k. none (suc k))
written_none (Some x ∷ made) i row none = absurd (let h : Some x ≡ None = none 0 in cc)

-- one value more behind the others
pub written_more : (made : List (Option ℕ)) (i c x : ℕ) (row : List ℕ) → c < length made → ((k : ℕ) → c ≤ k → get_or made k None ≡ None) → written_over i (set made c (Some x)) row ≡ set (written_over i made row) (i + c) x
written_more [] i c x row room none = absurd (omega arith)
written_more (None ∷ made) i zero x row room none =
    let rest : (k : ℕ) → get_or made k None ≡ None = (λ k. none (suc k) (omega arith)) in
    let at_i : i ≡ i + 0 = omega arith in
    written_none made (suc i) (set row i x) rest ∙ ap (λ (r : List ℕ). set r i x) (sym (written_none made (suc i) row rest)) ∙ ap (λ (j : ℕ). set (written_over (suc i) made row) j x) at_i
written_more (Some y ∷ made) i zero x row room none = absurd (let h : Some y ≡ None = none 0 (omega arith) in cc)
written_more (None ∷ made) i (suc c) x row room none =
    let at_c : suc i + c ≡ i + suc c = omega arith in
    written_more made (suc i) c x row (omega arith) (λ k low. none (suc k) (omega arith)) ∙ ap (λ (j : ℕ). set (written_over (suc i) made row) j x) at_c
written_more (Some y ∷ made) i (suc c) x row room none =
    let at_c : suc i + c ≡ i + suc c = omega arith in
    written_more made (suc i) c x (set row i y) (omega arith) (λ k low. none (suc k) (omega arith)) ∙ ap (λ (j : ℕ). set (written_over (suc i) made (set row i y)) j x) at_c

-- a token that exists has room in what a seat keeps
pub room_of : (bank : Bank) (s : CpuSeat) (tok : ℕ) → bank_of s ≡ id_of bank → tok < length s.seat.me.0.plans → tok < 64
room_of bank s tok of there = let t = there_of bank s tok of there in let f = bank.few in omega arith

-- the note that is read of a token that exists
pub note_read : (s : CpuSeat) (tok : ℕ) (d : TokenNote) → tok < 64 → get_or s.notes tok d ≡ note_at s.notes tok
note_read s tok d room =
    let sized = s.sized in
    let inside : tok < length s.notes = omega arith in
    get_or_default s.notes tok d no_note inside

-- an exchange that found the word that was asked for
pub hit_of : (s s' : CpuSeat) (tok : ℕ) (mode : Mode) (word next found : ℕ) (row : List ℕ) (blob : RecordOf) → found ≡ word → IsTakenRow (plan_of (bank_of s) tok) (entry s tok) found row blob → Changes s s' tok (taken (entry s tok) found mode row blob) (takes s.cpu tok mode word next found ∷ []) → Hit s s' tok mode word next
hit_of s s' tok mode word next found row blob same is changes = record {
  row = row;
  blob = blob;
  found = subst (λ (w : ℕ). IsTakenRow (plan_of (bank_of s) tok) (entry s tok) w row blob) same is;
  changes = subst (λ (w : ℕ). Changes s s' tok (taken (entry s tok) w mode row blob) (takes s.cpu tok mode word next w ∷ [])) same changes;
}

-- what a seat keeps after the note of a token was changed where it lies
pub keeps_changed : (s : CpuSeat) (w : View) (tok : ℕ) (e : TokenEntry) (between : List Deed) (deed : Deed) (f : TokenNote → TokenNote) (d note : TokenNote) → tok < 64 → w ≡ noted between s.seat.me.0 e deed → tok < length s.seat.me.0.plans → e.tok ≡ tok → note ≡ f (get_or s.notes tok d) → IsNoted (plan_at s.seat.me.0.plans tok) s.cpu.0 e (f (note_at s.notes tok)) → Keeps (set s.notes tok note) s.cpu w
keeps_changed s w tok e between deed f d note room is there is_tok note_is here =
    let F : TokenNote → Type 0 = λ m. Keeps (set s.notes tok m) s.cpu w in
    subst F (sym (note_is ∙ ap f (note_read s tok d room))) (keeps_set s w tok e between deed (f (note_at s.notes tok)) room is there is_tok here)

-- and after the note was written before an exchange, and taken back since that lost
pub keeps_missed : (s : CpuSeat) (w : View) (tok g : ℕ) (between : List Deed) (deed : Deed) (mode : Mode) (d note last : TokenNote) → tok < 64 → w ≡ noted between s.seat.me.0 (seen (entry s tok) g) deed → tok < length s.seat.me.0.plans → (entry s tok).held ≡ Nothing → note ≡ begun (get_or s.notes tok d) mode → last ≡ record note { references = 0 }
    → Keeps (set s.notes tok last) s.cpu w
keeps_missed s w tok g between deed mode d note last room is there free note_is last_is =
    let none : TokenNote → TokenNote = λ m. record m { references = 0 } in
    let ends : last ≡ none (begun (note_at s.notes tok) mode) = last_is ∙ ap none (note_is ∙ ap (λ (m : TokenNote). begun m mode) (note_read s tok d room)) in
    let F : TokenNote → Type 0 = λ m. Keeps (set s.notes tok m) s.cpu w in
    let e = entry s tok in
    let here = IsNoted-seen (plan_at s.seat.me.0.plans tok) s.cpu.0 e g (none (begun (note_at s.notes tok) mode)) (IsNoted-missed (plan_at s.seat.me.0.plans tok) s.cpu.0 e mode (note_at s.notes tok) free (s.kept.each tok there)) in
    subst F (sym ends) (keeps_set s w tok (seen e g) between deed (none (begun (note_at s.notes tok) mode)) room is there ((seen-keeps e g).0 ∙ at-tok s.seat.me.0.tokens tok) here)

-- a token that has a record by what is declared, and is held exclusively, has its record in hand
pub guard_held : (s : CpuSeat) (tok : ℕ) → tok < length s.seat.me.0.plans → is_exclusive (holding s tok) ≡ true → is_some (plan_at s.seat.me.0.plans tok).blob ≡ true → IsInHand s.seat.me.0 tok
guard_held s tok there held guarded = (held, ((s.kept.each tok there).guarded (exclusive_held (holding s tok) held)).0 ∙ guarded)

pub bytes_same : (xs ys : List ℕ) → Some xs ≡ Some ys → xs ≡ ys
bytes_same xs ys is = cc

-- what a seat keeps after a record was written
pub keeps_wrote : (s : CpuSeat) (w : View) (tok : ℕ) (between : List Deed) (d : Deed) (old new : List ℕ) (from after : TokenNote) → tok < 64 → w ≡ noted between s.seat.me.0 (wrote_record (entry s tok) new) d → tok < length s.seat.me.0.plans → is_exclusive (holding s tok) ≡ true → (entry s tok).blob ≡ Some old
    → Overwrites (get_or s.notes tok from) after old new
    → Keeps (set s.notes tok after) s.cpu w
keeps_wrote s w tok between d old new from after room is there held blob_is wrote =
    let n = get_or s.notes tok from in
    let same : n ≡ note_at s.notes tok = note_read s tok from room in
    let e = wrote_record (entry s tok) new in
    let F : TokenNote → Type 0 = λ m. IsNoted (plan_at s.seat.me.0.plans tok) s.cpu.0 (entry s tok) m in
    let noted' = IsNoted-wrote (plan_at s.seat.me.0.plans tok) s.cpu.0 (entry s tok) n old new wrote.0 (subst F (sym same) (s.kept.each tok there)) held blob_is wrote.1.1 in
    let G : TokenNote → Type 0 = λ m. Keeps (set s.notes tok m) s.cpu w in
    subst G (sym wrote.1.0) (keeps_set s w tok e between d (note_wrote n (first_record n old) wrote.0) room is there (entry_tok s tok) noted')
