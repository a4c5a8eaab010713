use Rattle.std.proofs.Common.{◌≡◌, inl, inr, arith, true}
use Rattle.lwkt_search.proofs.searches.Task.leads.Goals as goal

pub returns-then-has_ended-clause-last : goal.returns-then-has_ended-clause-last
returns-then-has_ended-clause-last g c = λ so. inl (c.has_ended.ensures.0 c.if-has_ended.true)

pub returns-then-is_still-clause-last : goal.returns-then-is_still-clause-last
returns-then-is_still-clause-last g c = λ so. inr (c.is_still.ensures.0 c.if-is_still.true)

pub returns-clause-last : goal.returns-clause-last
returns-clause-last g c = λ so. absurd (omega (arith, so, c.furthest.ensures.few))

pub returns-clause-going : goal.returns-clause-going
returns-clause-going g c = λ so over. let yes : c.has_ended.result ≡ true = c.has_ended.ensures.1 over in cc

pub returns-clause-moving : goal.returns-clause-moving
returns-clause-moving g c = λ so still. let yes : c.is_still.result ≡ true = c.is_still.ensures.1 still in cc

pub returns-clause-among : goal.returns-clause-among
returns-clause-among g c = λ so. c.furthest.ensures.among
