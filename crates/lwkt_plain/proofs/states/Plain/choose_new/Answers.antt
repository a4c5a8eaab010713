use Rattle.std.proofs.Common.{◌<◌, ℕ, arith}
use Rattle.lwkt_plain.specs.Turns.{round_from}
use Rattle.lwkt_plain.proofs.TurnSound.{found_small}
use Rattle.lwkt_plain.proofs.states.Plain.choose_new.Goals as goal

pub run_on-requires : goal.run_on-requires
run_on-requires c =
    let small = found_small c.args.c c.in-Some.k c.args.self.now c.search-place.new.self (round_from c.args.cursor c.args.count) c.requires.here c.requires.sound c.requires.idle c.in-Some.ensures in
    omega (arith, small)
