use Rattle.std.proofs.Common.{refl}
use Rattle.lwkt_bank.specs.Views.{read}
use Rattle.lwkt_bank.specs.Deeds.{reads}
use Rattle.lwkt_bank.specs.Seats.{entry}
use Rattle.lwkt_bank.proofs.NoteMoves.{IsNoted-same}
use Rattle.lwkt_bank.proofs.ChangeMoves.{changed, keeps_kept, still_hands, entry_tok}
use Rattle.lwkt_bank.proofs.seats.CpuSeat.load_tally.Goals as goal

pub invariant_of-self : goal.invariant_of-self
invariant_of-self c =
    let s = c.args.self.now in
    let t = c.args.tok.0 in
    record {
      kept = keeps_kept s c.read_cell.new.seat.me.0 t (read (entry s t) 0) c.read_cell.ensures.reads.0 _ c.read_cell.ensures.reads.1.1.1 c.requires.there (entry_tok s t) (IsNoted-same _ s.cpu.0 (entry s t) (read (entry s t) 0) _ refl refl refl refl refl refl refl (s.kept.each t c.requires.there));
      hands = still_hands s c.read_cell.new.seat c.args.tok.0 (read (entry s c.args.tok.0) 0) c.read_cell.ensures.reads.0 _ c.read_cell.ensures.same.slots c.read_cell.ensures.reads.1.1.1 (entry_tok s c.args.tok.0) refl refl;
      sized = s.sized;
    }

pub returns-clause-changes : goal.returns-clause-changes
returns-clause-changes c = let s = c.args.self.now in changed s _ c.args.tok.0 (read (entry s c.args.tok.0) 0) c.read_cell.ensures.reads.0 (λ cpu. reads cpu c.args.tok.0 0 c.read_cell.result) c.read_cell.ensures.same.table refl refl c.read_cell.ensures.reads.1.0 c.read_cell.ensures.reads.1.1.1 (entry_tok s c.args.tok.0)

pub returns-clause-value : goal.returns-clause-value
returns-clause-value c = c.read_cell.ensures.reads.1.1.0
