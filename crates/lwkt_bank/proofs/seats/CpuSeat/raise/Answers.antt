use Rattle.std.proofs.Common.{refl, ap, sym, length-set, arith, ◌∙◌, ◌≡◌, ◌<◌, ◌+◌}
use Rattle.lwkt_bank.specs.declared.views.Plan.{Plan}
use Rattle.lwkt_bank.specs.Rule.{plan_at}
use Rattle.lwkt_bank.specs.Notes.{note_at, note_changed}
use Rattle.lwkt_bank.specs.Views.{raised}
use Rattle.lwkt_bank.specs.Deeds.{writes}
use Rattle.lwkt_bank.specs.Seats.{entry}
use Rattle.lwkt_bank.proofs.NoteMoves.{IsNoted-raised}
use Rattle.lwkt_bank.proofs.ChangeMoves.{changed, raised_is, keeps_changed, room_of, still_hands, entry_tok, short_row, plan_is}
use Rattle.lwkt_bank.proofs.seats.CpuSeat.raise.Goals as goal

pub invariant_of-self : goal.invariant_of-self
invariant_of-self c =
    let s = c.args.self.now in
    let t = c.args.tok.0 in
    let e = entry s t in
    let k = c.args.k in
    let plan = plan_at s.seat.me.0.plans t in
    let one : plan.cells ≡ 1 = ap (λ (p : Plan). p.cells) (plan_is c.args.bank.now s t c.requires.of) ∙ c.args.bank.now.single t (sym (ap (λ (p : Plan). p.law) (plan_is c.args.bank.now s t c.requires.of)) ∙ c.requires.tally) in
    let inside : 0 < plan.cells = omega arith in
    let noted' = IsNoted-raised plan s.cpu e (note_at s.notes t) (s.kept.each t c.requires.there) c.requires.held (short_row c.args.bank.now s t c.requires.of) c.args.change k inside c.requires.first c.requires.last c.requires.under in
    record {
      kept = keeps_changed s c.raise_cell.new.seat.me.0 t (raised e s.cpu k) c.raise_cell.ensures.raises.0 _ (λ m. record (note_changed m 0 c.args.change) { tally = m.tally + k }) _ c.raise.new.self (room_of c.args.bank.now s t c.requires.of c.requires.there) (raised_is s c.raise_cell.new.seat.me.0 t k c.args.change.last c.raise_cell.ensures.raises.0 (c.raise_cell.ensures.raises.1.1 k c.requires.last)) c.requires.there (entry_tok s t) c.raise.ensures noted';
      hands = still_hands s c.raise_cell.new.seat c.args.tok.0 (raised e s.cpu k) c.raise_cell.ensures.raises.0 _ c.raise_cell.ensures.same.slots (raised_is s c.raise_cell.new.seat.me.0 t k c.args.change.last c.raise_cell.ensures.raises.0 (c.raise_cell.ensures.raises.1.1 k c.requires.last)) (entry_tok s c.args.tok.0) refl refl;
      sized = length-set s.notes t _ ∙ s.sized;
    }

pub returns : goal.returns
returns c =
    let s = c.args.self.now in
    let t = c.args.tok.0 in
    changed s _ t (raised (entry s t) s.cpu c.args.k) c.raise_cell.ensures.raises.0 (λ cpu. writes cpu t 0 c.args.change.last) c.raise_cell.ensures.same.table refl refl c.raise_cell.ensures.raises.1.0
    (raised_is s c.raise_cell.new.seat.me.0 t c.args.k c.args.change.last c.raise_cell.ensures.raises.0 (c.raise_cell.ensures.raises.1.1 c.args.k c.requires.last)) (entry_tok s t)
