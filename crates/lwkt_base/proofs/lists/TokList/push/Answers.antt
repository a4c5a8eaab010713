use Rattle.std.proofs.Common.{arith, ap, ◌∙◌, sym}
use Rattle.std.proofs.lemmas.Bool.{iff_false}
use Rattle.lwkt_base.specs.Refs.{first_mode}
use Rattle.lwkt_base.proofs.RefsLemmas.{IsLawful_pushed}
use Rattle.lwkt_base.proofs.lists.TokList.push.Goals as goal

pub invariant_of-self : goal.invariant_of-self
invariant_of-self c = (
  omega arith,
  IsLawful_pushed c.self.inside.items c.self.inside.count c.args.new (omega arith) c.self.invariant.1
      (λ exclusive shared. iff_false c.would_upgrade.ensures c.if-would_upgrade.false
      (exclusive, sym (ap (λ refs. first_mode refs c.args.new.tok.0) c.self.view_is) ∙ shared)),
)
