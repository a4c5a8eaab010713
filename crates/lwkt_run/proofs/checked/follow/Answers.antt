use Rattle.std.proofs.Common.{subst, arith}
use Rattle.lwkt_core.specs.Machine.{Machine}
use Rattle.lwkt_verdict.specs.Follow.{Begins}
use Rattle.lwkt_run.proofs.CheckedMoves.{within_machine}
use Rattle.lwkt_run.proofs.checked.follow.Goals as goal

pub drive-requires-clause-processors : goal.drive-requires-clause-processors
drive-requires-clause-processors g c = within_machine c.args.script.now c.args.course c.args.machine.now c.requires.opens.as_many c.requires.course

pub drive-requires-clause-few : goal.drive-requires-clause-few
drive-requires-clause-few g c = omega (arith, c.requires.opens.as_many, c.requires.within.processors)

pub returns-clause-follows : goal.returns-clause-follows
returns-clause-follows g c =
    let B : Machine → Type 0 = λ m. Begins c.args.script.now.threads m c.in_ok-follower.follower in (
      c.in_ok-follower.follower,
      record {
        begins = subst B c.in_ok-opening.ensures.ok c.in_ok-follower.ensures.begins;
        driven = c.in_ok-fits.ensures.ok;
        room_enough = c.in_ok-close_room.ensures;
      },
    )
