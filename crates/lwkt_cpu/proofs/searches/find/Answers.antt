use Rattle.std.proofs.Common.{◌+◌, ◌-◌, ◌*◌, ◌≤◌, length, arith}
use Rattle.lwkt_base.specs.Holding.{Holding}
use Rattle.lwkt_hold.proofs.RunMoves.{ran_then, ran_weaker}
use Rattle.lwkt_cpu.proofs.MailTraceMoves.{quiet_then}
use Rattle.lwkt_cpu.specs.Searches.{point, IsOfOne}
use Rattle.lwkt_cpu.proofs.SearchMoves.{there_skipped, busy_skipped, one_skipped, found_first, found_round}
use Rattle.lwkt_cpu.proofs.searches.find.Goals as goal

pub scan-requires-in-None-clause-there : goal.scan-requires-in-None-clause-there
scan-requires-in-None-clause-there c =
    let s = c.scan in
    there_skipped c.args.cursor (length c.args.threads.now) (point c.args.hold.now.seat c.args.threads.now c.args.trace.now) (point s.new.hold.seat s.new.threads s.new.trace) s.ensures.ran.bank (s.ensures.none c.in-None.is).1 c.requires.there

pub scan-requires-in-None-clause-busy : goal.scan-requires-in-None-clause-busy
scan-requires-in-None-clause-busy c =
    let s = c.scan in
    busy_skipped c.args.cursor (length c.args.threads.now) (point c.args.hold.now.seat c.args.threads.now c.args.trace.now) (point s.new.hold.seat s.new.threads s.new.trace) (s.ensures.none c.in-None.is).1 c.requires.busy

pub returns-in-Some-clause-finds : goal.returns-in-Some-clause-finds
returns-in-Some-clause-finds c =
    let s = c.scan in
    let x = s.ensures.some c.in-Some.at c.in-Some.is in
    found_first c.args.cursor c.in-Some.at (point c.args.hold.now.seat c.args.threads.now c.args.trace.now) (point s.new.hold.seat s.new.threads s.new.trace) x.0 x.1

pub returns-in-None-clause-ran : goal.returns-in-None-clause-ran
returns-in-None-clause-ran c =
    let s = c.scan in
    let r = c.scan-in-None in
    let a = c.args.hold.now.seat in
    let n = length c.args.threads.now in
    let few : n ≤ 16 = c.requires.few in
    let within : c.args.cursor ≤ n = c.requires.within in
    let P : Holding → Type 0 = IsOfOne c.args.threads.now in
    let Q : Holding → Type 0 = IsOfOne s.new.threads in
    let skipped = (s.ensures.none c.in-None.is).1 in
    ran_weaker P P (64 * (n - c.args.cursor) + 64 * (c.args.cursor - 0)) 1024 a r.new.hold.seat c.args.trace.now r.new.trace (λ h p. p) (omega arith)
    (ran_then P (64 * (n - c.args.cursor)) (64 * (c.args.cursor - 0)) a s.new.hold.seat r.new.hold.seat c.args.trace.now s.new.trace r.new.trace s.ensures.ran
    (ran_weaker Q P (64 * (c.args.cursor - 0)) (64 * (c.args.cursor - 0)) s.new.hold.seat r.new.hold.seat s.new.trace r.new.trace (λ h p. one_skipped c.args.cursor n (point a c.args.threads.now c.args.trace.now) (point s.new.hold.seat s.new.threads s.new.trace) h skipped p) (omega arith) r.ensures.ran))

pub returns-in-None-clause-finds : goal.returns-in-None-clause-finds
returns-in-None-clause-finds c =
    let s = c.scan in
    let r = c.scan-in-None in
    found_round c.args.cursor (point c.args.hold.now.seat c.args.threads.now c.args.trace.now) (point s.new.hold.seat s.new.threads s.new.trace) (point r.new.hold.seat r.new.threads r.new.trace) c.requires.within (s.ensures.none c.in-None.is).1 r.result r.ensures.some r.ensures.none

pub returns-in-None-clause-quiet : goal.returns-in-None-clause-quiet
returns-in-None-clause-quiet c = quiet_then c.args.trace.now.items c.scan.new.trace.items c.scan-in-None.new.trace.items c.scan.ensures.quiet c.scan-in-None.ensures.quiet
