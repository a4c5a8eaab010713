use Rattle.lwkt_bank.proofs.WordMoves.{exclusive-more}
use Rattle.std.proofs.Common.{refl, ap, ◌∙◌, ◌≡◌, ◌+◌, ◌<◌, ℕ, length, length-set, get_or, arith}
use Rattle.lwkt_bank.specs.declared.notes.TokenNote.{TokenNote}
use Rattle.lwkt_bank.specs.Views.{more}
use Rattle.lwkt_bank.specs.Notes.{note_at}
use Rattle.lwkt_bank.specs.declared.banks.Bank.{Bank}
use Rattle.lwkt_bank.specs.declared.seats.CpuSeat.{CpuSeat}
use Rattle.lwkt_bank.specs.Seats.{id_of, bank_of, tokens_of, references, entry, holding}
use Rattle.lwkt_bank.proofs.ViewMoves.{count-at}
use Rattle.lwkt_bank.proofs.NoteMoves.{IsNoted-more}
use Rattle.lwkt_bank.proofs.ChangeMoves.{changed, keeps_changed, note_read, room_of, still_hands, entry_tok}
use Rattle.lwkt_bank.specs.Deeds.{adds_one}
use Rattle.lwkt_bank.proofs.seats.CpuSeat.again.Goals as goal

-- the seat has fewer references than a note can count
few_at : (s : CpuSeat) (bank : Bank) (t : ℕ) → bank_of s ≡ id_of bank → t < tokens_of (bank_of s) → references s < 32 → (note_at s.notes t).references < 256
few_at s bank t of there few =
    let count = (s.kept.each t there).references in
    let h = count-at (length s.seat.me.0.plans) 0 t (holding s) (omega arith) (omega arith) in
    omega (arith, count, h, few)

pub one_more-requires : goal.one_more-requires
one_more-requires c =
    let s = c.args.self.now in
    let t = c.args.tok.0 in
    let few = few_at s c.args.bank.now t c.requires.of c.requires.there c.requires.few in
    let same : (get_or s.notes t c.index-self-tok.result).references ≡ (note_at s.notes t).references = ap (λ (n : TokenNote). n.references) (note_read s t c.index-self-tok.result (room_of c.args.bank.now s t c.requires.of c.requires.there)) in
    omega (arith, same, few)

pub invariant_of-self : goal.invariant_of-self
invariant_of-self c =
    let s = c.args.self.now in
    let t = c.args.tok.0 in
    let noted' = IsNoted-more _ s.cpu.0 (entry s t) (note_at s.notes t) c.requires.held (few_at s c.args.bank.now t c.requires.of c.requires.there c.requires.few) (s.kept.each t c.requires.there) in
    record {
      kept = keeps_changed s c.add_one.new.seat.me.0 t (more (entry s t)) c.add_one.ensures.adds.0 _ (λ m. record m { references = m.references + 1 }) _ c.one_more.new.self (room_of c.args.bank.now s t c.requires.of c.requires.there) c.add_one.ensures.adds.1.1 c.requires.there (entry_tok s t) c.one_more.ensures noted';
      hands = still_hands s c.add_one.new.seat c.args.tok.0 (more (entry s c.args.tok.0)) c.add_one.ensures.adds.0 _ c.add_one.ensures.same.slots c.add_one.ensures.adds.1.1 (entry_tok s c.args.tok.0) (exclusive-more (holding s c.args.tok.0) c.requires.held) refl;
      sized = length-set s.notes t _ ∙ s.sized;
    }

pub returns : goal.returns
returns c =
    let s = c.args.self.now in
    let t = c.args.tok.0 in
    record { found = c.add_one.result; changes = changed s _ t (more (entry s t)) c.add_one.ensures.adds.0 (λ cpu. adds_one cpu t c.add_one.result) c.add_one.ensures.same.table refl refl c.add_one.ensures.adds.1.0 c.add_one.ensures.adds.1.1 (entry_tok s t) }
