use Rattle.std.proofs.Common.{ap, sym, subst, ◌∙◌, ◌≤◌}
use Rattle.lwkt_bank.specs.declared.notes.TokenNote.{TokenNote}
use Rattle.lwkt_bank.specs.Rule.{plan_at}
use Rattle.lwkt_bank.specs.Notes.{held_in, note_at}
use Rattle.lwkt_bank.specs.Seats.{entry}
use Rattle.lwkt_bank.proofs.NoteMoves.{held_by_note}
use Rattle.lwkt_bank.proofs.ChangeMoves.{note_read, room_of}
use Rattle.lwkt_bank.proofs.seats.CpuSeat.held.Goals as goal

pub held-requires : goal.held-requires
held-requires c =
    let s = c.args.self.now in
    let t = c.args.tok.0 in
    let F : TokenNote → Type 0 = λ n. n.references ≤ 256 in
    subst F (sym (note_read s t _ (room_of c.args.bank.now s t c.requires.of c.requires.there))) (s.kept.each t c.requires.there).few

pub returns : goal.returns
returns c =
    let s = c.args.self.now in
    let t = c.args.tok.0 in
    c.held.ensures ∙ ap held_in (note_read s t _ (room_of c.args.bank.now s t c.requires.of c.requires.there)) ∙ held_by_note (plan_at s.seat.me.0.plans t) s.cpu.0 (entry s t) (note_at s.notes t) (s.kept.each t c.requires.there)
