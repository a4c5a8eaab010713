use Rattle.std.proofs.Common.{refl}
use Rattle.lwkt_bank.proofs.ChangeMoves.{changed, keeps_kept, still_hands, entry_tok}
use Rattle.lwkt_bank.specs.Seats.{entry}
use Rattle.lwkt_bank.specs.Deeds.{marks}
use Rattle.lwkt_bank.proofs.seats.CpuSeat.mark.Goals as goal

pub invariant_of-self : goal.invariant_of-self
invariant_of-self c = let s = c.args.self.now in record {
  kept = keeps_kept s c.set_mark.new.seat.me.0 c.args.tok.0 (entry s c.args.tok.0) c.set_mark.ensures.marks.0 _ c.set_mark.ensures.marks.1.1 c.requires.there (entry_tok s c.args.tok.0) (s.kept.each c.args.tok.0 c.requires.there);
  hands = still_hands s c.set_mark.new.seat c.args.tok.0 (entry s c.args.tok.0) c.set_mark.ensures.marks.0 _ c.set_mark.ensures.same.slots c.set_mark.ensures.marks.1.1 (entry_tok s c.args.tok.0) refl refl;
  sized = s.sized;
}

pub returns : goal.returns
returns c = let s = c.args.self.now in record {
  found = c.set_mark.result;
  changes = changed s _ c.args.tok.0 (entry s c.args.tok.0) c.set_mark.ensures.marks.0 (λ cpu. marks cpu c.args.tok.0 c.set_mark.result) c.set_mark.ensures.same.table refl refl c.set_mark.ensures.marks.1.0 c.set_mark.ensures.marks.1.1 (entry_tok s c.args.tok.0);
}
