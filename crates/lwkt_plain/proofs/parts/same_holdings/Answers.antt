use Rattle.std.proofs.Common.{rules, ◌≡◌, ap, ◌∙◌, Decides, Bool, List}
use Rattle.std.proofs.lemmas.Slice.Eq.{slice_eq-Decides}
use Rattle.lwkt_base.specs.declared.holdings.Held.{Held}
use Rattle.lwkt_base.specs.contracts.holdings.HeldPartialEq.TheImpl.{eq-value}
use Rattle.lwkt_plain.proofs.parts.same_holdings.Goals as goal

held_same : (a b : Held) → Decides (eq-value.it a b) (a ≡ b)
held_same a b = search rules

pub returns : goal.returns
returns c = slice_eq-Decides held_same c.args.one.now c.args.other.now c.eq.result c.eq.ensures
