use Rattle.std.proofs.Common.{◌≡◌, arith, Option, Some, None}
use Rattle.lwkt_plain.proofs.ChosenSound.{chosen_runs, chosen_none}
use Rattle.lwkt_plain.proofs.TurnMoves.{mail_inside, on_ok, turn_some, turn_none}
use Rattle.lwkt_plain.proofs.states.Plain.turn.Goals as goal

pub choose-requires : goal.choose-requires
choose-requires c = record {
  here = mail_inside c.args.self.now c.take_mail.new.self c.args.c c.in_ok-take_mail.ensures.exact c.requires.here;
  sound = c.in_ok-take_mail.ensures.sound;
}

pub poll-requires : goal.poll-requires
poll-requires c =
    let mid = c.take_mail.new.self in
    let inside = mail_inside c.args.self.now mid c.args.c c.in_ok-take_mail.ensures.exact c.requires.here in
    let now = chosen_runs c.args.c c.in-Some.k mid c.choose.new.self inside c.in_ok-take_mail.ensures.sound c.in-Some.ensures in
    let cpus = now.cpus in
    record { here = omega (arith, cpus, inside); there = now.there; sound = now.sound; running = now.running }

pub returns-in-None-clause-sound : goal.returns-in-None-clause-sound
returns-in-None-clause-sound c =
    let mid = c.take_mail.new.self in
    let inside = mail_inside c.args.self.now mid c.args.c c.in_ok-take_mail.ensures.exact c.requires.here in
    chosen_none c.args.c mid c.choose.new.self inside c.in_ok-take_mail.ensures.sound c.in-None.ensures
