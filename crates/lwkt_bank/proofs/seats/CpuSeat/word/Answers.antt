use Rattle.lwkt_base.specs.Holding.{is_exclusive}
use Rattle.std.proofs.Common.{refl, ◌∙◌, ap}
use Rattle.lwkt_bank.specs.Views.{generation_in, looked}
use Rattle.lwkt_bank.specs.Deeds.{loads}
use Rattle.lwkt_bank.specs.Seats.{entry}
use Rattle.lwkt_bank.proofs.ChangeMoves.{changed, keeps_seen, still_hands}
use Rattle.lwkt_bank.proofs.ViewMoves.{at-tok}
use Rattle.lwkt_bank.proofs.TurnMoves.{seen-keeps}
use Rattle.lwkt_bank.proofs.seats.CpuSeat.word.Goals as goal

pub invariant_of-self : goal.invariant_of-self
invariant_of-self c = let s = c.args.self.now in record {
  kept = keeps_seen s c.look.new.seat.me.0 c.args.tok.0 (generation_in c.look.result) c.look.ensures.looks.0 _ c.requires.there c.look.ensures.looks.1.1.2;
  hands = still_hands s c.look.new.seat c.args.tok.0 (looked (entry s c.args.tok.0) c.look.result) c.look.ensures.looks.0 _ c.look.ensures.same.slots c.look.ensures.looks.1.1.2 ((seen-keeps (entry s c.args.tok.0) (generation_in c.look.result)).0 ∙ at-tok s.seat.me.0.tokens c.args.tok.0) (ap is_exclusive (seen-keeps (entry s c.args.tok.0) (generation_in c.look.result)).1) (seen-keeps (entry s c.args.tok.0) (generation_in c.look.result)).9;
  sized = s.sized;
}

pub returns : goal.returns
returns c = let s = c.args.self.now in record {
  room = c.look.ensures.looks.1.1.0;
  rises = c.look.ensures.looks.1.1.1;
  changes = changed s _ c.args.tok.0 (looked (entry s c.args.tok.0) c.look.result) c.look.ensures.looks.0 (λ cpu. loads cpu c.args.tok.0 c.look.result) c.look.ensures.same.table refl refl c.look.ensures.looks.1.0 c.look.ensures.looks.1.1.2 ((seen-keeps (entry s c.args.tok.0) (generation_in c.look.result)).0 ∙ at-tok s.seat.me.0.tokens c.args.tok.0);
}
