use Rattle.lwkt_run.specs.Driving.{driver_state}
use Rattle.lwkt_run.proofs.DriveMoves.{RoundsSoFar}
use Rattle.lwkt_run.proofs.rounds.drive_rounds.Given as goal

abbrev pub invariant-loop-round : goal.invariant-loop-round
invariant-loop-round g l = RoundsSoFar l._round (driver_state l.initial.machine (g.K.Keeper.kept l.initial.keeper) l.initial.events l.initial.follower) (driver_state l.machine (g.K.Keeper.kept l.keeper) l.events l.follower)
