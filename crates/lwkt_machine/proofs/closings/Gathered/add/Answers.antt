use Rattle.std.proofs.Common.{◌≡◌, ◌++◌, ◌∷◌, [], arith}
use Rattle.std.proofs.lemmas.Grind.{common_steps}
use Rattle.lwkt_machine.proofs.RetireMoves.{retired_more}
use Rattle.lwkt_machine.proofs.closings.Gathered.add.Goals as goal

pub returns-clause-retired : goal.returns-clause-retired
returns-clause-retired g c = λ done so_far.
    let old = c.args.self.now in
    let r = c.retire-seat in
    let seats : c.push.new.self.items ≡ old.seats.items ++ r.result.0 ∷ [] = grind (arith, common_steps) in
    let mails : c.push-2.new.self.items ≡ old.mails.items ++ r.result.1 ∷ [] = grind (arith, common_steps) in
    let lists : c.push-3.new.self.items ≡ old.bodies.items ++ r.result.2 ∷ [] = grind (arith, common_steps) in
    let traces : c.push-4.new.self.items ≡ old.traces.items ++ c.args.driven.trace ∷ [] = grind (arith, common_steps) in
    retired_more {B = g.row.B.Denot} done c.args.driven old (record { seats = c.push.new.self; mails = c.push-2.new.self; bodies = c.push-3.new.self; traces = c.push-4.new.self }) r.result.0 r.result.1 r.result.2 r.ensures.seat r.ensures.empty r.ensures.mail r.ensures.bodies seats mails lists traces so_far
