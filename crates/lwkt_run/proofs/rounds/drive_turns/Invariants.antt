use Rattle.std.proofs.Common.{◌≡◌, length}
use Rattle.lwkt_run.specs.Driving.{driver_state}
use Rattle.lwkt_run.proofs.DriveMoves.{TurnsSoFar}
use Rattle.lwkt_run.proofs.rounds.drive_turns.Given as goal

abbrev pub invariant-loop-at : goal.invariant-loop-at
invariant-loop-at g l = record {
  as_many : length l.machine.cpus ≡ length l.initial.machine.cpus;
  made : TurnsSoFar l.fn.order l.at (driver_state l.initial.machine (g.K.Keeper.kept l.initial.keeper) l.initial.events l.initial.follower) (driver_state l.machine (g.K.Keeper.kept l.keeper) l.events l.follower);
}
