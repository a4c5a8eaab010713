use Rattle.std.proofs.Common.{ap, sym, ◌∙◌, subst}
use Rattle.lwkt_base.specs.Holding.{is_held}
use Rattle.lwkt_base.specs.declared.holdings.Held.{Held}
use Rattle.lwkt_core.specs.Tokens.{IsNotLastExclusive}
use Rattle.lwkt_bank.specs.Rule.{plan_at}
use Rattle.lwkt_bank.specs.Notes.{held_in, note_at}
use Rattle.lwkt_bank.specs.Seats.{entry}
use Rattle.lwkt_bank.proofs.NoteMoves.{held_by_note}
use Rattle.lwkt_bank.proofs.ChangeMoves.{note_read, room_of}
use Rattle.lwkt_bank.proofs.seats.CpuSeat.is_last.Goals as goal

pub returns-clause-last : goal.returns-clause-last
returns-clause-last c = λ yes'.
    let s = c.args.self.now in
    let t = c.args.tok.0 in
    let is = ap held_in (note_read s t _ (room_of c.args.bank.now s t c.requires.of c.requires.there)) ∙ held_by_note (plan_at s.seat.me.0.plans t) s.cpu.0 (entry s t) (note_at s.notes t) (s.kept.each t c.requires.there) in
    sym is ∙ c.is_last.ensures.last yes'

pub returns-clause-not_last : goal.returns-clause-not_last
returns-clause-not_last c = λ no' held.
    let s = c.args.self.now in
    let t = c.args.tok.0 in
    let is = ap held_in (note_read s t _ (room_of c.args.bank.now s t c.requires.of c.requires.there)) ∙ held_by_note (plan_at s.seat.me.0.plans t) s.cpu.0 (entry s t) (note_at s.notes t) (s.kept.each t c.requires.there) in
    let F : Held → Type 0 = λ h. IsNotLastExclusive h in
    subst F is (c.is_last.ensures.not_last no' (ap is_held is ∙ held))
