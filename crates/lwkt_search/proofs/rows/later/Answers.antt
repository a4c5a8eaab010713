use Rattle.std.proofs.Common.{inl, refl}
use Rattle.lwkt_search.proofs.rows.later.Goals as goal

pub returns-clause-one : goal.returns-clause-one
returns-clause-one c = inl refl
