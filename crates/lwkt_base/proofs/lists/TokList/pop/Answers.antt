use Rattle.std.proofs.Common.{arith, rules, subst}
use Rattle.lwkt_base.specs.Refs.{IsLastTo}
use Rattle.lwkt_base.proofs.RefsLemmas.{unused, IsLawful_popped, IsLastTo_read}
use Rattle.lwkt_base.proofs.lists.TokList.pop.Goals as goal

pub invariant_of-self : goal.invariant_of-self
invariant_of-self c = (omega arith, IsLawful_popped c.self.inside.items c.self.inside.count unused (search rules) (omega arith) c.self.invariant.1)

pub returns-clause-not_last : goal.returns-clause-not_last
returns-clause-not_last c = (
  λ e. cc,
  λ p. absurd (p.1 (subst (λ refs. IsLastTo refs c.args.tok.0) c.self.view_is
      (IsLastTo_read c.self.inside.items c.self.inside.count _ c.args.tok.0 (search rules) (omega arith) c.if-last-tok.false))),
)
