use Rattle.std.proofs.Common.{ap, sym, ◌∙◌}
use Rattle.std.specs.List.{list_any}
use Rattle.lwkt_bank.specs.declared.notes.TokenNote.{TokenNote}
use Rattle.lwkt_bank.specs.Notes.{note_at, is_other}
use Rattle.lwkt_bank.specs.Rule.{plan_at}
use Rattle.lwkt_bank.specs.Seats.{entry}
use Rattle.lwkt_bank.proofs.NoteMoves.{row_written, row_clean, record_written, record_clean}
use Rattle.lwkt_bank.proofs.ChangeMoves.{note_read, room_of, short_row}
use Rattle.lwkt_bank.proofs.seats.CpuSeat.whole_has_written.Goals as goal

pub returns-then-is_written-clause-written : goal.returns-then-is_written-clause-written
returns-then-is_written-clause-written c = λ yes' clean.
    let s = c.args.self.now in
    let t = c.args.tok.0 in
    let same = note_read s t _ (room_of c.args.bank.now s t c.requires.of c.requires.there) in
    row_written (plan_at s.seat.me.0.plans t) s.cpu.0 (entry s t) (note_at s.notes t) (s.kept.each t c.requires.there) c.requires.held (short_row c.args.bank.now s t c.requires.of)
    (ap (λ (n : TokenNote). list_any is_other n.cells) (sym same) ∙ sym c.is_written.ensures ∙ yes') clean.0

pub returns-else-is_written-clause-clean : goal.returns-else-is_written-clause-clean
returns-else-is_written-clause-clean c = λ no'.
    let s = c.args.self.now in
    let t = c.args.tok.0 in
    let same = note_read s t _ (room_of c.args.bank.now s t c.requires.of c.requires.there) in (
      row_clean (plan_at s.seat.me.0.plans t) s.cpu.0 (entry s t) (note_at s.notes t) (s.kept.each t c.requires.there) c.requires.held (short_row c.args.bank.now s t c.requires.of)
          (ap (λ (n : TokenNote). list_any is_other n.cells) (sym same) ∙ sym c.is_written.ensures ∙ c.if-is_written.false),
      record_clean (plan_at s.seat.me.0.plans t) s.cpu.0 (entry s t) (note_at s.notes t) (s.kept.each t c.requires.there) c.requires.held (ap (λ (n : TokenNote). is_other n.record_) (sym same) ∙ sym c.is_other.ensures ∙ no'),
    )

pub returns-else-is_written-clause-written : goal.returns-else-is_written-clause-written
returns-else-is_written-clause-written c = λ yes' clean.
    let s = c.args.self.now in
    let t = c.args.tok.0 in
    let same = note_read s t _ (room_of c.args.bank.now s t c.requires.of c.requires.there) in
    record_written (plan_at s.seat.me.0.plans t) s.cpu.0 (entry s t) (note_at s.notes t) (s.kept.each t c.requires.there) c.requires.held (ap (λ (n : TokenNote). is_other n.record_) (sym same) ∙ sym c.is_other.ensures ∙ yes') clean.1
