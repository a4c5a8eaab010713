use Rattle.std.proofs.Common.{◌≡◌, subst, sym}
use Rattle.lwkt_explore.specs.declared.outcomes.Outcomes.{Outcomes}
use Rattle.lwkt_explore.specs.Outcomes.{AreOutcomes}
use Rattle.lwkt_explore.specs.Searches.{IsUnderWay}
use Rattle.lwkt_explore.proofs.searches.stands_everywhere.Goals as goal

pub stands_at-requires-clause-way : goal.stands_at-requires-clause-way
stands_at-requires-clause-way g c = let F : Outcomes → Type 0 = IsUnderWay c.args.script.now c.args.task.now c.args.found.now in subst F (sym c.loop-at.invariant) c.requires

pub returns-clause-found : goal.returns-clause-found
returns-clause-found g c = let F : Outcomes → Type 0 = AreOutcomes c.args.script.now in subst F (sym c.loop-at.invariant) c.requires.are_outcomes
