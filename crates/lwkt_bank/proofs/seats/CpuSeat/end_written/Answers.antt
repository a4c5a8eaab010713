use Rattle.std.proofs.Common.{refl, ◌∙◌, length-set}
use Rattle.lwkt_bank.specs.Notes.{note_at}
use Rattle.lwkt_bank.specs.Seats.{entry}
use Rattle.lwkt_bank.specs.Views.{ended, ended_section}
use Rattle.lwkt_bank.proofs.NoteMoves.{IsNoted-nothing}
use Rattle.lwkt_bank.proofs.ChangeMoves.{changed, keeps_changed, room_of, put_hands, entry_tok}
use Rattle.lwkt_bank.specs.Deeds.{gives_written}
use Rattle.lwkt_bank.proofs.seats.CpuSeat.end_written.Goals as goal

pub invariant_of-self : goal.invariant_of-self
invariant_of-self c =
    let s = c.args.self.now in
    let t = c.args.tok.0 in
    let noted' = IsNoted-nothing _ s.cpu.0 (entry s t) (ended (entry s t)) (note_at s.notes t) refl refl (s.kept.each t c.requires.there) in
    record {
      kept = keeps_changed s c.give_written-found.new.seat.me.0 t (ended (entry s t)) c.give_written-found.ensures.gives.0 _ (λ m. record m { references = 0 }) _ c.end.new.self (room_of c.args.bank.now s t c.requires.of c.requires.there) c.give_written-found.ensures.gives.1.1.1 c.requires.there (entry_tok s t) c.end.ensures noted';
      hands = put_hands s c.give_written-found.new.seat t (ended (entry s t)) c.give_written-found.ensures.gives.0 _ c.give_written-found.ensures.puts c.give_written-found.ensures.gives.1.1.1 (entry_tok s t) refl;
      sized = length-set s.notes t _ ∙ s.sized;
    }

pub returns-clause-stepped : goal.returns-clause-stepped
returns-clause-stepped c =
    let s = c.args.self.now in
    let t = c.args.tok.0 in
    record { found = c.give_written-found.result; changes = changed s _ t (ended (entry s t)) c.give_written-found.ensures.gives.0 (λ cpu. gives_written (ended_section t (entry s t)) cpu t c.give_written-found.result) c.give_written-found.ensures.table refl refl c.give_written-found.ensures.gives.1.0 c.give_written-found.ensures.gives.1.1.1 (entry_tok s t) }

pub returns-clause-generation : goal.returns-clause-generation
returns-clause-generation c = c.generation_in.ensures ∙ c.give_written-found.ensures.gives.1.1.0
