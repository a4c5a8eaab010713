-- One processor of a machine makes a turn, after it saw what was sent to it, and the parts of the machine still belong together.
use Rattle.std.proofs.Common.{◌≡◌, ◌∙◌, ℕ, ◌<◌, ◌≤◌, ◌++◌, List, length, set, get_or, refl, ap, sym, subst, Some}
use Rattle.std.specs.Prelude.{All, Vec, slice_get}
use Rattle.std.specs.List.{AllZip}
use Rattle.std.specs.declared.alloc.Global.{Global}
use Rattle.std.proofs.lemmas.List.{length-set}
use Rattle.std.proofs.lemmas.List.Elements.{All-set}
use Rattle.std.proofs.lemmas.Option.{slice_get_within}
use Rattle.lwkt_base.specs.declared.asks.Ask.{Ask}
use Rattle.lwkt_base.specs.declared.asks.Answer.{Answer}
use Rattle.lwkt_core.specs.declared.events.Event.{Event}
use Rattle.lwkt_bank.specs.Seats.{BankId}
use Rattle.lwkt_msg.specs.Desks.{Shelf}
use Rattle.lwkt_cpu.specs.declared.answers.Turned.{Turned}
use Rattle.lwkt_cpu.specs.Processors.{Processor}
use Rattle.lwkt_cpu.specs.Turning.{MakesTurn}
use Rattle.lwkt_cpu.proofs.SightMoves.{IsLooked}
use Rattle.lwkt_drive.specs.ShortEvents.{KeptTrace}
use Rattle.lwkt_lane.proofs.PlaceMoves.{get_set_same, get_set_other, some_same}
use Rattle.lwkt_drive.specs.declared.driven.Driven.{Driven}
use Rattle.lwkt_machine.specs.Machines.{Has, processors, rig_of, AreOneMachine}
use Rattle.lwkt_machine.specs.Ended.{AreSameCpus}
use Rattle.lwkt_machine.specs.Sights.{KeepsLog, SeesSent}
use Rattle.lwkt_machine.specs.Turns.{KeepsPart, KeepsPartAt, StaysAt, StaysPut, TurnsAt}
use Rattle.lwkt_machine.proofs.DrivenMoves.{processors_put}
use Rattle.lwkt_machine.proofs.KeptMoves.{Keeps, kept_turn}
use Rattle.lwkt_machine.proofs.ListMoves.{all_at, all_from_get, zip_get, zip_long}
use Rattle.lwkt_machine.proofs.SameMoves.{parts_same, same_set}
use Rattle.lwkt_machine.proofs.SightMoves.{sent_looked, looked_same, sent_seen, seen_delivered}

module _ {B : Type 0} where
  -- what bodies keep holds of those of processors that were looked at
  looked_lasting : (kept : B → Type 0) (olds news : List (Processor B)) → AllZip (IsLooked {B = B}) olds news → All (Has kept) olds → All (Has kept) news
  looked_lasting kept olds news zip lasting = all_from_get (Has kept) news (λ k q at.
      let x = zip_get (IsLooked {B = B}) olds news zip k q at in
      let F : Processor B → Type 0 = λ p. Has kept p in
      subst F (sym x.1.1.else_same) (all_at (Has kept) olds k x.0 x.1.0 lasting))

  -- the processors are still the same ones after a turn
  pub turned_same : (polled : B → Answer → Ask → B → Type 0) (bank : BankId) (olds mids : List (Processor B)) (k : ℕ) (p q : Processor B) (t u : Vec Event Global) (turned : Turned) → SeesSent k olds mids → slice_get mids k ≡ Some p → MakesTurn polled bank p q t u turned → AreSameCpus olds (set mids k q)
  turned_same polled bank olds mids k p q t u turned sees at made =
      same_set olds mids k p q (slice_get_within mids k p at) at (record { bank = made.ran.bank; table = made.ports.seat.table; number = made.ran.cpu; ports = made.ports }) (looked_same olds mids (sent_looked k olds mids sees))

  -- and one machine
  pub turned_whole : (polled : B → Answer → Ask → B → Type 0) (kept : B → Type 0) → Keeps polled kept → (seats : ℕ) (bank : BankId) (book : Shelf) (olds mids : List (Processor B)) (k : ℕ) (p q : Processor B) (t u : Vec Event Global) (turned : Turned) → AreOneMachine kept seats bank book olds → SeesSent k olds mids → slice_get mids k ≡ Some p → MakesTurn polled bank p q t u turned → AreOneMachine kept seats bank book (set mids k q)
  turned_whole polled kept keeps seats bank book olds mids k p q t u turned parts sees at made =
      let lasting = looked_lasting kept olds mids (sent_looked k olds mids sees) parts.lasting in
      let now = kept_turn polled kept keeps bank p q t u turned made (all_at (Has kept) mids k p at lasting) in
      parts_same kept seats bank book olds (set mids k q) (turned_same polled bank olds mids k p q t u turned sees at made) (All-set (Has kept) mids k q now lasting) parts

  -- it is a turn of the machine
  pub turned_at : (polled : B → Answer → Ask → B → Type 0) (kept : B → Type 0) (seats : ℕ) (bank : BankId) (book : Shelf) (olds news : List (Driven B)) (mids : List (Processor B)) (k : ℕ) (p q : Processor B) (t u : Vec Event Global) (turned : Turned) → AreOneMachine kept seats bank book (processors olds) → SeesSent k (processors olds) mids → slice_get mids k ≡ Some p → MakesTurn polled bank p q t u turned → processors news ≡ set mids k q → TurnsAt polled k (rig_of bank book olds) (rig_of bank book news) t u turned
  turned_at polled kept seats bank book olds news mids k p q t u turned parts sees at made are = record {
    seen = mids;
    sees = sees;
    turns = record { before = p; now = q; at_before = at; does = made; cpus = are };
    delivered = λ j s d e from. (let own = sent_seen k (processors olds) mids sees parts.numbered parts.joined p at j s d e from in seen_delivered j 16 made.mail.count (get_or s.post.lanes k d).out p.post made.mail.post made.room made.mail.v e own.0 own.1 made.mail.takes);
    bank = refl;
    book = refl;
  }

  -- a processor whose trace was given room has changed no more than that
  pub room_stays : (d r : Driven B) → r ≡ record d { trace = r.trace; room = r.room } → r.trace.items ≡ d.trace.items → d.trace.capacity ≤ r.trace.capacity → StaysPut d r
  room_stays d r rest items capacity =
      let cpu : r.cpu ≡ d.cpu = ap (λ (y : Driven B). y.cpu) rest in
      let put : Processor B → Driven B = λ p. record d { cpu = p; trace = r.trace; room = r.room } in
      record { cpu = cpu; items = items; capacity = capacity; rest = rest ∙ ap put (sym cpu) }

  -- only the room of a processor's trace has changed
  pub stays_at : (bank : BankId) (book : Shelf) (olds : List (Driven B)) (k : ℕ) (d e : Driven B) → slice_get olds k ≡ Some d → StaysPut d e → StaysAt k (rig_of bank book olds) (rig_of bank book (set olds k e))
  stays_at bank book olds k d e at stays = record {
    driven = record { before = d; now = e; at_before = at; does = stays; cpus = refl };
    cpus = processors_put olds k d e at stays.cpu;
    bank = refl;
    book = refl;
  }

  -- the events of a turn went behind the trace of its processor: that had its room made before, and was looked at then
  pub part_kept : (olds mids : List (Driven B)) (k : ℕ) (d r m e : Driven B) (part : List Event) → slice_get olds k ≡ Some d → StaysPut d r → AllZip KeepsLog (set olds k r) mids → slice_get mids k ≡ Some m → e.trace.items ≡ m.trace.items ++ part → e ≡ record m { cpu = e.cpu; trace = e.trace; room = e.room } → KeepsPartAt k part olds (set mids k e)
  part_kept olds mids k d r m e part at stays logs at_m grown rest =
      let within : k < length olds = slice_get_within olds k d at in
      let within_m : k < length mids = slice_get_within mids k m at_m in
      let here : slice_get (set olds k r) k ≡ Some r = get_set_same olds k r within in
      let x = zip_get KeepsLog (set olds k r) mids logs k m at_m in
      let r_is : x.0 ≡ r = some_same x.0 r (slice_get (set olds k r) k) x.1.0 here in
      let F : Driven B → Type 0 = λ y. KeepsLog y m in
      let log : KeepsLog r m = subst F r_is x.1.1 in
      let trace : m.trace ≡ r.trace = ap (λ (y : Driven B). y.trace) log in
      let items : m.trace.items ≡ d.trace.items = ap (λ (v : KeptTrace). v.items) trace ∙ stays.items in
      let put : Driven B → Driven B = λ y. record y { cpu = e.cpu; trace = e.trace; room = e.room } in
      let whole : e ≡ put d = rest ∙ ap put log ∙ ap put stays.rest in
      record {
        as_many = length-set mids k e ∙ zip_long KeepsLog (set olds k r) mids logs ∙ length-set olds k r;
        here = λ a b was now.
            let a_is : d ≡ a = some_same d a (slice_get olds k) at was in
            let b_is : e ≡ b = some_same e b (slice_get (set mids k e) k) (get_set_same mids k e within_m) now in
            let G : Driven B × Driven B → Type 0 = λ y. KeepsPart part y.0 y.1 in
            subst G (λ i. (a_is i, b_is i)) (record { trace = grown ∙ ap (λ es. es ++ part) items; rest = whole });
        others = λ j a b apart was now.
            let y = zip_get KeepsLog (set olds k r) mids logs j b (sym (get_set_other mids k j e apart) ∙ now) in
            let a_is : y.0 ≡ a = some_same y.0 a (slice_get olds j) (sym (get_set_other olds k j r apart) ∙ y.1.0) was in
            let H : Driven B → Type 0 = λ z. KeepsLog z b in
            subst H a_is y.1.1;
      }
