use Rattle.std.proofs.Common.{refl, ap, ◌∙◌, length-set}
use Rattle.lwkt_base.specs.Holding.{one_less}
use Rattle.lwkt_bank.specs.Notes.{note_at}
use Rattle.lwkt_bank.specs.Seats.{entry}
use Rattle.lwkt_bank.specs.Views.{less}
use Rattle.lwkt_bank.proofs.NoteMoves.{IsNoted-nothing}
use Rattle.lwkt_bank.proofs.ChangeMoves.{changed, keeps_changed, room_of, put_hands, entry_tok}
use Rattle.lwkt_bank.specs.Deeds.{gives_clean}
use Rattle.lwkt_bank.proofs.seats.CpuSeat.end_clean.Goals as goal

pub invariant_of-self : goal.invariant_of-self
invariant_of-self c =
    let s = c.args.self.now in
    let t = c.args.tok.0 in
    let noted' = IsNoted-nothing _ s.cpu.0 (entry s t) (less (entry s t)) (note_at s.notes t) (ap one_less c.requires.last) refl (s.kept.each t c.requires.there) in
    record {
      kept = keeps_changed s c.give_clean.new.seat.me.0 t (less (entry s t)) c.give_clean.ensures.gives.0 _ (λ m. record m { references = 0 }) _ c.end.new.self (room_of c.args.bank.now s t c.requires.of c.requires.there) c.give_clean.ensures.gives.1.1 c.requires.there (entry_tok s t) c.end.ensures noted';
      hands = put_hands s c.give_clean.new.seat t (less (entry s t)) c.give_clean.ensures.gives.0 _ c.give_clean.ensures.puts c.give_clean.ensures.gives.1.1 (entry_tok s t) (ap one_less c.requires.last);
      sized = length-set s.notes t _ ∙ s.sized;
    }

pub returns : goal.returns
returns c =
    let s = c.args.self.now in
    let t = c.args.tok.0 in
    record { found = c.give_clean.result; changes = changed s _ t (less (entry s t)) c.give_clean.ensures.gives.0 (λ cpu. gives_clean cpu t c.give_clean.result) c.give_clean.ensures.table refl refl c.give_clean.ensures.gives.1.0 c.give_clean.ensures.gives.1.1 (entry_tok s t) }
