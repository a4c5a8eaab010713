use Rattle.std.proofs.Common.{◌≡◌, ℕ, ◌*◌, List, length, ap, sym, ◌∙◌, arith}
use Rattle.std.specs.Arc.{arc_value}
use Rattle.lwkt_bank.specs.declared.banks.Bank.{Bank}
use Rattle.lwkt_bank.specs.Seats.{cpus_of}
use Rattle.lwkt_seats.specs.Places.{Share, Slot}
use Rattle.lwkt_seats.specs.FirstPlaces.{words_of_places}
use Rattle.lwkt_seats.proofs.PlaceMoves.{words_wide, rest_first}
use Rattle.lwkt_seats.proofs.bank_opens.desk_of.Goals as goal

pub table-requires : goal.table-requires
table-requires c =
    let slots = c.in_ok-slots.slots.items in
    let words : c.deref-2.result.now ≡ words_of_places slots = c.deref-2.ensures.value ∙ c.in_ok-words.ensures ∙ ap (λ (xs : List Slot). words_of_places xs) c.deref.ensures.value in
    rest_first (arc_value c.in_ok-bank.bank) slots c.deref-2.result.now c.in_ok-bank.bank words c.in_ok-slots.ensures.seated

pub invariant_of-desk : goal.invariant_of-desk
invariant_of-desk c =
    let slots = c.in_ok-slots.slots.items in
    let words : c.deref-2.result.now ≡ words_of_places slots = c.deref-2.ensures.value ∙ c.in_ok-words.ensures ∙ ap (λ (xs : List Slot). words_of_places xs) c.deref.ensures.value in
    let t = c.in_ok-places.ensures in
    let key : c.in_ok-places.places.shared.key ≡ c.in_ok-bank.bank = t.5 in
    let many = c.in_ok-slots.ensures.many in
    let count = t.1 in
    let most = c.requires.few in
    record {
      wide = t.0 ∙ ap (λ (ws : List ℕ). length ws) words ∙ words_wide slots ∙ ap (λ (n : ℕ). 16 * n) (sym t.1);
      few = omega (arith, count, many, most);
      all = ap (λ (a : Share). cpus_of (arc_value a)) key ∙ ap (λ (b : Bank). cpus_of b) c.in_ok-bank.ensures ∙ sym c.requires.all ∙ sym many ∙ sym count;
      one = ap (λ (a : Share). arc_value a) c.new-drawer.ensures ∙ ap (λ (a : Share). arc_value a) (sym key);
    }
