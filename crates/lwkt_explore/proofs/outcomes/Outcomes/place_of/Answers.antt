use Rattle.std.proofs.Common.{◌≡◌, ℕ, ◌<◌, length, get_or, arith, sym}
use Rattle.lwkt_explore.specs.declared.outcomes.Outcome.{Outcome}
use Rattle.lwkt_explore.specs.Outcomes.{AreAlike}
use Rattle.lwkt_explore.proofs.outcomes.Outcomes.place_of.Goals as goal

pub returns-then-is_alike-clause-found : goal.returns-then-is_alike-clause-found
returns-then-is_alike-clause-found c =
    let one : Outcome = c.index.result.now in
    let below : c.loop-place.place < length c.args.self.now.all.items = omega arith in
    (c.loop-place.place, one, below, sym c.index.ensures, c.is_alike.ensures.yes c.if-is_alike.true)
