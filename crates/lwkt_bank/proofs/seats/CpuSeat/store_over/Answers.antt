use Rattle.std.proofs.Common.{refl, length-set, ◌∙◌}
use Rattle.lwkt_bank.specs.Notes.{note_at, note_changed}
use Rattle.lwkt_bank.specs.Views.{stored}
use Rattle.lwkt_bank.specs.Deeds.{writes}
use Rattle.lwkt_bank.specs.Seats.{entry}
use Rattle.lwkt_bank.proofs.NoteMoves.{IsNoted-stored}
use Rattle.lwkt_bank.proofs.ChangeMoves.{changed, keeps_changed, room_of, still_hands, entry_tok, short_row}
use Rattle.lwkt_bank.proofs.seats.CpuSeat.store_over.Goals as goal

pub invariant_of-self : goal.invariant_of-self
invariant_of-self c =
    let s = c.args.self.now in
    let t = c.args.tok.0 in
    let e = entry s t in
    let noted' = IsNoted-stored _ s.cpu.0 e (note_at s.notes t) (s.kept.each t c.requires.there) c.requires.held (short_row c.args.bank.now s t c.requires.of) c.args.cell c.args.change c.requires.inside c.requires.first c.requires.untallied in
    record {
      kept = keeps_changed s c.store_cell.new.seat.me.0 t (stored e c.args.cell c.args.change.last) c.store_cell.ensures.stores.0 _ (λ m. note_changed m c.args.cell c.args.change) _ c.change.new.self (room_of c.args.bank.now s t c.requires.of c.requires.there) c.store_cell.ensures.stores.1.1 c.requires.there (entry_tok s t) c.change.ensures noted';
      hands = still_hands s c.store_cell.new.seat c.args.tok.0 (stored e c.args.cell c.args.change.last) c.store_cell.ensures.stores.0 _ c.store_cell.ensures.same.slots c.store_cell.ensures.stores.1.1 (entry_tok s c.args.tok.0) refl refl;
      sized = length-set s.notes t _ ∙ s.sized;
    }

pub returns : goal.returns
returns c = let s = c.args.self.now in changed s _ c.args.tok.0 (stored (entry s c.args.tok.0) c.args.cell c.args.change.last) c.store_cell.ensures.stores.0 (λ cpu. writes cpu c.args.tok.0 c.args.cell c.args.change.last) c.store_cell.ensures.same.table refl refl c.store_cell.ensures.stores.1.0 c.store_cell.ensures.stores.1.1 (entry_tok s c.args.tok.0)
