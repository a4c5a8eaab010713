use Rattle.lwkt_bank.proofs.GuardMoves.{new_hands}
use Rattle.std.proofs.Common.{ap, sym, refl, ◌∙◌, List, subst, length}
use Rattle.lwkt_bank.specs.declared.notes.TokenNote.{TokenNote}
use Rattle.lwkt_bank.specs.Views.{at}
use Rattle.lwkt_bank.specs.Notes.{Keeps}
use Rattle.lwkt_bank.proofs.OpenMoves.{Keeps-new}
use Rattle.lwkt_bank.proofs.clerks.ClerkDesk.hand_out.Goals as goal

pub invariant_of-result : goal.invariant_of-result
invariant_of-result c =
    let v = c.args.self.now.clerk.me.0 in
    let w = c.split-seat.result.me.0 in
    let F : List TokenNote → Type 0 = λ ns. Keeps ns c.args.cpu w in
    record {
      kept = subst F (sym c.blank_notes-notes.ensures) (Keeps-new c.args.cpu v w c.requires.next.kind (ap (λ m. m.0) c.split-seat.ensures.seat.1));
      hands = new_hands w c.split-seat.result.me.1 (ap (λ m. m.0.tokens) c.split-seat.ensures.seat.1) (ap (λ m. m.1) c.split-seat.ensures.seat.1);
      sized = ap length c.blank_notes-notes.ensures;
    }

pub returns-clause-seat : goal.returns-clause-seat
returns-clause-seat c =
    let b = c.args.self.now in
    let table = c.split-seat.ensures.seat.0 ∙ b.seated in
    let plans = ap (λ m. m.0.plans) c.split-seat.ensures.seat.1 ∙ c.requires.next.plans in (
      λ i. record { table = table i; plans = plans i },
      record { entries = λ tok. ap (λ m. at m.0.tokens tok) c.split-seat.ensures.seat.1; past = ap (λ m. m.0.past) c.split-seat.ensures.seat.1 },
      refl,
    )
