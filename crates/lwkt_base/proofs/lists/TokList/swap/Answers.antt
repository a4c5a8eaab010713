use Rattle.std.proofs.Common.{refl, arith, subst, sym, ap, ◌∙◌}
use Rattle.lwkt_base.specs.Refs.{EndsInOneToken}
use Rattle.lwkt_base.specs.Holding.{holding_of}
use Rattle.lwkt_base.proofs.RefsLemmas.{unused, EndsInOneToken_read, IsLawful_swapped, AreExchanged_read, holding_of_swapped, not_EndsInOneToken_read}
use Rattle.lwkt_base.proofs.lists.TokList.swap.Goals as goal

pub invariant_of-self : goal.invariant_of-self
invariant_of-self c = (c.self.invariant.0, IsLawful_swapped c.self.inside.items c.self.inside.count _ c.if-self-lt2.false (omega arith) c.if-last-before.false c.self.invariant.1)

pub returns-clause-ok : goal.returns-clause-ok
returns-clause-ok c = rw (← c.self.view_is) (AreExchanged_read c.self.inside.items c.self.inside.count unused c.if-self-lt2.false (omega arith))

pub returns-clause-holding : goal.returns-clause-holding
returns-clause-holding c = holding_of_swapped c.self.inside.items c.self.inside.count _ c.if-self-lt2.false (omega arith) c.if-last-before.false ∙ ap holding_of c.self.view_is

pub returns-clause-same : goal.returns-clause-same
returns-clause-same c =
    (λ e. absurd cc, λ ends. absurd (not_EndsInOneToken_read c.self.inside.items c.self.inside.count _ c.if-self-lt2.false (omega arith) c.if-last-before.false (subst EndsInOneToken (sym c.self.view_is) ends)))

pub returns-then-last-before-clause-same : goal.returns-then-last-before-clause-same
returns-then-last-before-clause-same c =
    (λ _. subst EndsInOneToken c.self.view_is (EndsInOneToken_read c.self.inside.items c.self.inside.count unused c.if-self-lt2.false (omega arith) c.if-last-before.true), λ _. refl)
