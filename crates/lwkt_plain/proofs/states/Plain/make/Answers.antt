use Rattle.std.proofs.Common.{◌≡◌, ◌<◌, ◌≤◌, arith}
use Rattle.lwkt_plain.proofs.PollSound.{may_go_on}
use Rattle.lwkt_plain.proofs.TurnMoves.{performed_soundly, tokens_soundly, goes_soundly, makes_is, still_inside}
use Rattle.lwkt_plain.proofs.Soundness.{few_cpus}
use Rattle.lwkt_plain.proofs.states.Plain.make.Goals as goal

pub go_on-requires : goal.go_on-requires
go_on-requires c =
    let x = c.perform.new.self in
    let next = c.in-Ok.next in
    let so = performed_soundly c.args.c c.args.k c.args.self.now x next c.args.ask.now c.requires.sound c.requires.here c.requires.there c.requires.running c.in-Ok.ensures in
    let still = still_inside c.args.c c.args.k x next so in
    record { here = still.0; there = still.1; tokens = tokens_soundly c.args.c c.args.k x next so; few = still.2; may = may_go_on c.args.c c.args.k x next so }

pub returns-in-Ok-clause-exact : goal.returns-in-Ok-clause-exact
returns-in-Ok-clause-exact c = makes_is c.args.c c.args.k c.args.self.now c.perform.new.self c.go_on.new.self c.in-Ok.next c.args.ask.now c.in-Ok.ensures c.go_on.ensures

pub returns-in-Ok-clause-sound : goal.returns-in-Ok-clause-sound
returns-in-Ok-clause-sound c =
    let x = c.perform.new.self in
    let next = c.in-Ok.next in
    let so = performed_soundly c.args.c c.args.k c.args.self.now x next c.args.ask.now c.requires.sound c.requires.here c.requires.there c.requires.running c.in-Ok.ensures in
    let few = few_cpus c.args.self.now c.requires.sound in
    let here = c.requires.here in
    goes_soundly c.args.c c.args.k x c.go_on.new.self next so (omega (arith, few, here)) c.go_on.ensures
