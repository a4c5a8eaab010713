use Rattle.std.proofs.Common.{◌≡◌, ◌<◌, ◌-◌, ℕ, length, ap, sym, ◌∙◌, arith, Option, Some, None}
use Rattle.std.specs.List.{range_with_len}
use Rattle.lwkt_plain.specs.Turns.{finds}
use Rattle.lwkt_plain.proofs.TurnSound.{after_none, find_on, finds_append}
use Rattle.lwkt_plain.proofs.states.Plain.search.Goals as goal

pub scan-requires-in-None-clause-here : goal.scan-requires-in-None-clause-here
scan-requires-in-None-clause-here c =
    let stays = after_none c.args.c c.args.self.now c.scan.new.self (range_with_len c.args.cursor (c.args.count - c.args.cursor)) c.requires.here c.requires.sound c.requires.idle c.in-None.ensures in
    let cpus = stays.cpus in
    let here = c.requires.here in
    omega (arith, cpus, here)

pub scan-requires-in-None-clause-sound : goal.scan-requires-in-None-clause-sound
scan-requires-in-None-clause-sound c =
    (after_none c.args.c c.args.self.now c.scan.new.self (range_with_len c.args.cursor (c.args.count - c.args.cursor)) c.requires.here c.requires.sound c.requires.idle c.in-None.ensures).sound

pub scan-requires-in-None-clause-idle : goal.scan-requires-in-None-clause-idle
scan-requires-in-None-clause-idle c =
    (after_none c.args.c c.args.self.now c.scan.new.self (range_with_len c.args.cursor (c.args.count - c.args.cursor)) c.requires.here c.requires.sound c.requires.idle c.in-None.ensures).idle

pub returns-in-Some : goal.returns-in-Some
returns-in-Some c =
    let xs = range_with_len c.args.cursor (c.args.count - c.args.cursor) in
    let ys = range_with_len 0 c.args.cursor in
    sym (finds_append c.args.c xs ys c.args.self.now ∙ ap (find_on c.args.c ys) (sym c.in-Some.ensures))

pub returns-in-None : goal.returns-in-None
returns-in-None c =
    let xs = range_with_len c.args.cursor (c.args.count - c.args.cursor) in
    let ys = range_with_len 0 c.args.cursor in
    let e : c.args.cursor - 0 ≡ c.args.cursor = omega arith in
    c.scan-in-None.ensures
    ∙ ap (λ (n : ℕ). finds c.args.c c.scan.new.self (range_with_len 0 n)) e
    ∙ sym (finds_append c.args.c xs ys c.args.self.now ∙ ap (find_on c.args.c ys) (sym c.in-None.ensures))
