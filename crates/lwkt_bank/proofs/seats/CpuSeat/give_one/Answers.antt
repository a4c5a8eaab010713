use Rattle.lwkt_bank.proofs.WordMoves.{exclusive-less}
use Rattle.std.proofs.Common.{refl, sym, ◌∙◌, ◌-◌, ◌<◌, length-set, subst, arith}
use Rattle.lwkt_base.specs.Holding.{references_in}
use Rattle.lwkt_bank.specs.declared.notes.TokenNote.{TokenNote}
use Rattle.lwkt_bank.specs.Views.{less}
use Rattle.lwkt_bank.specs.Notes.{note_at}
use Rattle.lwkt_bank.specs.Seats.{entry, holding}
use Rattle.lwkt_bank.proofs.NoteMoves.{IsNoted-less, counted}
use Rattle.lwkt_bank.proofs.ChangeMoves.{changed, keeps_changed, note_read, room_of, still_hands, entry_tok}
use Rattle.lwkt_bank.specs.Deeds.{gives_one}
use Rattle.lwkt_bank.proofs.seats.CpuSeat.give_one.Goals as goal

pub one_less-requires : goal.one_less-requires
one_less-requires c =
    let s = c.args.self.now in
    let t = c.args.tok.0 in
    let count = (s.kept.each t c.requires.there).references in
    let some : 0 < references_in (holding s t) = counted (holding s t) c.requires.held in
    let F : TokenNote → Type 0 = λ n. 0 < n.references in
    subst F (sym (note_read s t _ (room_of c.args.bank.now s t c.requires.of c.requires.there))) (omega (arith, count, some))

pub invariant_of-self : goal.invariant_of-self
invariant_of-self c =
    let s = c.args.self.now in
    let t = c.args.tok.0 in
    let noted' = IsNoted-less _ s.cpu.0 (entry s t) (note_at s.notes t) c.requires.held (s.kept.each t c.requires.there) in
    record {
      kept = keeps_changed s c.give_one.new.seat.me.0 t (less (entry s t)) c.give_one.ensures.gives.0 _ (λ m. record m { references = m.references - 1 }) _ c.one_less.new.self (room_of c.args.bank.now s t c.requires.of c.requires.there) c.give_one.ensures.gives.1.1 c.requires.there (entry_tok s t) c.one_less.ensures noted';
      hands = still_hands s c.give_one.new.seat c.args.tok.0 (less (entry s c.args.tok.0)) c.give_one.ensures.gives.0 _ c.give_one.ensures.same.slots c.give_one.ensures.gives.1.1 (entry_tok s c.args.tok.0) (exclusive-less (holding s c.args.tok.0) c.requires.not_last) refl;
      sized = length-set s.notes t _ ∙ s.sized;
    }

pub returns : goal.returns
returns c =
    let s = c.args.self.now in
    let t = c.args.tok.0 in
    record { found = c.give_one.result; changes = changed s _ t (less (entry s t)) c.give_one.ensures.gives.0 (λ cpu. gives_one cpu t c.give_one.result) c.give_one.ensures.same.table refl refl c.give_one.ensures.gives.1.0 c.give_one.ensures.gives.1.1 (entry_tok s t) }
