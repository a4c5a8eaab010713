use Rattle.std.proofs.Common.{rules, ◌≡◌, ap, ◌∙◌, Decides, Bool, List}
use Rattle.std.specs.Cmp.Lexicographic.{pointwise}
use Rattle.std.proofs.lemmas.Slice.Eq.{slice_eq-Decides}
use Rattle.lwkt_base.specs.declared.names.Ref.{Ref}
use Rattle.lwkt_base.specs.contracts.names.RefPartialEq.TheImpl.{eq-value}
use Rattle.lwkt_plain.proofs.parts.same_list.Goals as goal

ref_same : (a b : Ref) → Decides (eq-value.it a b) (a ≡ b)
ref_same a b = search rules

pub returns : goal.returns
returns c =
    let E : List Ref → List Ref → Bool = pointwise eq-value.it in
    slice_eq-Decides ref_same c.args.one.now c.args.other.now c.eq.result
    (c.eq.ensures ∙ ap (λ (refs : List Ref). E refs c.refs-2.result.now) c.refs.ensures.value ∙ ap (E c.args.one.now) c.refs-2.ensures.value)
