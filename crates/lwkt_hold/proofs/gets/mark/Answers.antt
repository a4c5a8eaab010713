use Rattle.std.proofs.Common.{◌≡◌, ◌∷◌, [], refl, ap}
use Rattle.lwkt_base.specs.declared.names.CpuId.{CpuId}
use Rattle.lwkt_core.specs.declared.events.Event.TheVariants.{Mark}
use Rattle.lwkt_bank.specs.Deeds.{marks}
use Rattle.lwkt_bank.specs.Seats.{entry, holding}
use Rattle.lwkt_hold.proofs.RunMoves.{traced_one, ran_step, holding_kept}
use Rattle.lwkt_hold.proofs.ReadMoves.{ran_still}
use Rattle.lwkt_hold.proofs.gets.mark.Goals as goal

pub returns-then-eq-clause-ran : goal.returns-then-eq-clause-ran
returns-then-eq-clause-ran c =
    let s = c.args.seat.now in
    let tok = c.args.new.tok in
    let m = c.mark.ensures in
    let kept = holding_kept s c.mark.new.self tok.0 (entry s tok.0) _ m.changes refl in
    ran_step (λ h. h ≡ holding s) s c.mark.new.self tok.0 (entry s tok.0) (marks s.cpu tok.0 m.found ∷ []) (Mark c.cpu-cpu.result tok) c.args.trace.now c.note.new.trace m.changes c.note.ensures.items c.note.ensures.longer c.note.ensures.room
    (ap (λ (x : CpuId). x.0) c.cpu-cpu.ensures.is) (traced_one (Mark s.cpu tok) (Mark c.cpu-cpu.result tok) refl (ap (λ (x : CpuId). Mark x tok) c.cpu-cpu.ensures.is)) ((refl, refl), tt) kept kept

pub returns-else-eq-clause-ran : goal.returns-else-eq-clause-ran
returns-else-eq-clause-ran c = ran_still (λ h. h ≡ holding c.args.seat.now) 1 c.args.seat.now c.args.trace.now

pub returns-then-eq-clause-kept : goal.returns-then-eq-clause-kept
returns-then-eq-clause-kept c =
    let s = c.args.seat.now in
    let t = c.args.new.tok.0 in
    holding_kept s c.mark.new.self t (entry s t) _ c.mark.ensures.changes refl
