use Rattle.std.proofs.Common.{◌≡◌, ap, sym, ◌∙◌, List, ℕ, zero, suc, ◌+◌, ◌++◌, ◌∷◌, [], length, length-take, take, arith, subst, refl, Bool, false, get_or, set, ⊎_elim, get_or-set_other}
use mathlib.Core.Option.{some, some-injective, some-ne-none}
use lib.ListN.{get_elem?}
use Rattle.std.specs.Slots.{slots_items, slots_filled}
use Rattle.std.proofs.lemmas.Bool.{cases_eq}
use Rattle.lwkt_bank.proofs.closings.take_slots.Goals as goal

-- one element more of a list that is read in order
take_one : (xs : List (List ℕ)) (i : ℕ) (x : List ℕ) → get_elem? xs i ≡ some x → take (suc i) xs ≡ take i xs ++ x ∷ []
take_one [] i x e = absurd (some-ne-none x (sym e))
take_one (y ∷ ys) zero x e = λ k. some-injective y x e k ∷ []
take_one (y ∷ ys) (suc i) x e = λ k. y ∷ take_one ys i x e k

take_next : (xs : List (List ℕ)) (i : ℕ) (x : List ℕ) → get_elem? xs i ≡ some x → take (i + 1) xs ≡ take i xs ++ x ∷ []
take_next xs i x e = let same : i + 1 ≡ suc i = omega arith in ap (λ (n : ℕ). take n xs) same ∙ take_one xs i x e

pub put_slot-requires : goal.put_slot-requires
put_slot-requires c =
    let i = c.loop-slot.invariant in
    let long = ap length i.taken in
    let taken = length-take c.loop-slot.slot (slots_items c.args.closed.now.slots) in
    let room = i.room in
    let many = i.many in
    omega arith

-- a slot that was emptied
set_false : (xs : List Bool) (i : ℕ) → get_or (set xs i false) i false ≡ false
set_false [] i = refl
set_false (x ∷ xs) zero = refl
set_false (x ∷ xs) (suc i) = set_false xs i

pub loop-slot-preserved : goal.loop-slot-preserved
loop-slot-preserved c =
    let i = c.loop-slot.invariant in
    let o = c.take.ensures.others in
    let slot = c.loop-slot.slot in
    let old = slots_filled c.loop-slot.closed.slots in
    let room = i.room in
    let many = i.many in
    let len = o.2 in
    let more = c.put_slot.ensures.room in
    let F : List (List ℕ) → Type 0 = λ xs. get_elem? xs slot ≡ some c.take.result in
    record {
      many = o.2 ∙ i.many;
      filled = λ k low high. ap (λ (xs : List Bool). get_or xs k false) o.1 ∙ get_or-set_other old slot k false false (λ same. absurd (omega arith)) ∙ i.filled k (omega arith) (omega arith);
      emptied = λ k low. ap (λ (xs : List Bool). get_or xs k false) o.1 ∙ ⊎_elim
          (λ (same : k ≡ slot). let G : ℕ → Type 0 = λ n. get_or (set old slot false) n false ≡ false in subst G (sym same) (set_false old slot))
          (λ away. get_or-set_other old slot k false false away ∙ i.emptied k (omega arith))
          (cases_eq k slot);
      words = o.3 ∙ i.words;
      items = o.0 ∙ i.items;
      taken = c.put_slot.ensures.items ∙ ap (λ (xs : List (List ℕ)). xs ++ c.take.result ∷ []) i.taken ∙ sym (take_next (slots_items c.args.closed.now.slots) slot c.take.result (subst F i.items c.take.ensures.value));
      room = omega arith;
    }
