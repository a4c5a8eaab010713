-- Processors that are still the same ones.
use Rattle.std.proofs.Common.{◌≡◌, ℕ, ◌<◌, List, length, set, get_or, refl, ap, sym, ◌∙◌, subst, inl, inr, arith, Some, Result, Ok, Err}
use Rattle.std.specs.Prelude.{All, OnErr, slice_get}
use Rattle.std.proofs.lemmas.Bool.{cases_eq}
use Rattle.std.proofs.lemmas.List.{length-set}
use Rattle.std.proofs.lemmas.List.Elements.{All-get_or}
use Rattle.std.proofs.lemmas.Option.{slice_get_within, get_or_from_slice_get}
use Rattle.lwkt_base.specs.declared.names.CpuId.{CpuId}
use Rattle.lwkt_bank.specs.Seats.{BankId}
use Rattle.lwkt_msg.specs.Desks.{Shelf}
use Rattle.lwkt_cpu.specs.Processors.{Processor}
use Rattle.lwkt_lane.proofs.PlaceMoves.{get_set_same, get_set_other, some_same}
use Rattle.lwkt_cpu.proofs.SightMoves.{joined_stay}
use Rattle.lwkt_cpu.proofs.WakeMoves.{post_none, post_then}
use Rattle.lwkt_machine.specs.Machines.{Has, IsOfMachine, AreOneMachine}
use Rattle.lwkt_machine.specs.Ended.{IsSameCpu, AreSameCpus}
use Rattle.lwkt_machine.proofs.ListMoves.{all_from_get}

module _ {B : Type 0} where
  pub same_self : (p : Processor B) → IsSameCpu p p
  same_self p = record { bank = refl; table = refl; number = refl; ports = post_none p.post }

  pub same_none : (cpus : List (Processor B)) → AreSameCpus cpus cpus
  same_none cpus = record { as_many = refl; each = λ k q at. (q, (at, same_self q)) }

  same_then : (p q r : Processor B) → IsSameCpu p q → IsSameCpu q r → IsSameCpu p r
  same_then p q r a b = record { bank = b.bank ∙ a.bank; table = b.table ∙ a.table; number = b.number ∙ a.number; ports = post_then p.post q.post r.post a.ports b.ports }

  -- one of them is another, and still the same
  pub same_set : (olds mids : List (Processor B)) (k : ℕ) (p q : Processor B) → k < length mids → slice_get mids k ≡ Some p → IsSameCpu p q → AreSameCpus olds mids → AreSameCpus olds (set mids k q)
  same_set olds mids k p q within at same all = record {
    as_many = length-set mids k q ∙ all.as_many;
    each = λ j x is. elim (cases_eq j k) [
      | inl here ↦
          let F : ℕ → Type 0 = λ i. slice_get (set mids k q) i ≡ Some x in
          let e : q ≡ x = some_same q x (Some q) refl (sym (get_set_same mids k q within) ∙ subst F here is) in
          let old = all.each k p at in
          let G : Processor B → Type 0 = λ y. (o : Processor B) × ((slice_get olds k ≡ Some o) × IsSameCpu o y) in
          let H : ℕ → Type 0 = λ i. (o : Processor B) × ((slice_get olds i ≡ Some o) × IsSameCpu o x) in
          subst H (sym here) (subst G e (old.0, (old.1.0, same_then old.0 p q old.1.1 same)))
      | inr apart ↦ all.each j x (sym (get_set_other mids k j q apart) ∙ is)
    ];
  }

  -- a processor that is still the same is of the bank and the book that it was of
  pub same_of : (bank : BankId) (book : Shelf) (olds news : List (Processor B)) (k : ℕ) (q : Processor B) → slice_get news k ≡ Some q → AreSameCpus olds news → All (IsOfMachine bank book) olds → IsOfMachine bank book q
  same_of bank book olds news k q at same all =
      let x = same.each k q at in
      let p = x.0 in
      let within = slice_get_within olds k p x.1.0 in
      let e : get_or olds k p ≡ p = get_or_from_slice_get olds k p p x.1.0 in
      let of : IsOfMachine bank book p = subst (IsOfMachine bank book) e (All-get_or (IsOfMachine bank book) olds k p within all) in
      record { bank_is = x.1.1.bank ∙ of.bank_is; table_is = x.1.1.table ∙ of.table_is }

  -- the processors of a machine that are still the same make it whole
  pub parts_same : (kept : B → Type 0) (seats : ℕ) (bank : BankId) (book : Shelf) (olds news : List (Processor B)) → AreSameCpus olds news → All (Has kept) news → AreOneMachine kept seats bank book olds → AreOneMachine kept seats bank book news
  parts_same kept seats bank book olds news same lasting parts = record {
    seats_are = parts.seats_are ∙ sym same.as_many;
    mails_are = parts.mails_are ∙ sym same.as_many;
    few = omega (arith, parts.few, same.as_many);
    each = all_from_get (IsOfMachine bank book) news (λ k q at. same_of bank book olds news k q at same parts.each);
    numbered = λ k q at.
        let x = same.each k q at in
        ap (λ (i : CpuId). i.0) x.1.1.number ∙ parts.numbered k x.0 x.1.0;
    joined = λ i j s p at_s at_p.
        let x = same.each i s at_s in
        let y = same.each j p at_p in
        joined_stay x.0 s y.0 p x.1.1.number y.1.1.number x.1.1.ports y.1.1.ports (parts.joined i j x.0 y.0 x.1.0 y.1.0);
    lasting = lasting;
  }

pub on_err : {T E : Type 0} (r : Result T E) (P : Type 0) → P → OnErr r P
on_err (Ok x) P p = tt
on_err (Err e) P p = p
