use Rattle.std.proofs.Common.{◌≡◌, length}
use Rattle.lwkt_run.specs.Driving.{driver_state}
use Rattle.lwkt_run.proofs.DriveMoves.{WithinRound}
use Rattle.lwkt_run.proofs.rounds.drive_round.Given as goal

abbrev pub invariant-loop-cpu : goal.invariant-loop-cpu
invariant-loop-cpu g l = record {
  as_many : length l.machine.cpus ≡ length l.initial.machine.cpus;
  made : WithinRound l.cpu l.over (driver_state l.initial.machine (g.K.Keeper.kept l.initial.keeper) l.initial.events l.initial.follower) (driver_state l.machine (g.K.Keeper.kept l.keeper) l.events l.follower);
}
