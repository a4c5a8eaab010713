use Rattle.std.proofs.Common.{refl, ◌∙◌, length-set}
use Rattle.lwkt_bank.specs.Views.{wrote_record}
use Rattle.lwkt_bank.specs.Deeds.{writes_blob}
use Rattle.lwkt_bank.specs.Seats.{entry}
use Rattle.lwkt_bank.proofs.ChangeMoves.{changed, keeps_wrote, room_of, entry_tok, guard_held}
use Rattle.lwkt_bank.proofs.seats.CpuSeat.write_blob.Goals as goal

pub write_record-requires-clause-held : goal.write_record-requires-clause-held
write_record-requires-clause-held c = guard_held c.args.self.now c.args.tok.0 c.requires.there c.requires.held c.requires.guarded

pub invariant_of-self : goal.invariant_of-self
invariant_of-self c =
    let s = c.args.self.now in
    let t = c.args.tok.0 in
    let x = c.write_record.ensures.writes in
    let n = c.write_record.ensures.notes in
    record {
      kept = keeps_wrote s c.write_record.new.seat.me.0 t x.0 _ n.0 c.args.blob.now _ c.write_record.new.note (room_of c.args.bank.now s t c.requires.of c.requires.there) x.1.1 c.requires.there c.requires.held n.1.0 n.1.1;
      hands = c.write_record.ensures.hands;
      sized = length-set s.notes t _ ∙ s.sized;
    }

pub returns : goal.returns
returns c =
    let s = c.args.self.now in
    let t = c.args.tok.0 in
    let x = c.write_record.ensures.writes in
    changed s _ t (wrote_record (entry s t) c.args.blob.now) x.0 (λ cpu. writes_blob cpu t c.args.blob.now) c.write_record.ensures.table refl refl x.1.0 x.1.1 (entry_tok s t)
