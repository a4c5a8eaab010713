use Rattle.std.proofs.Common.{◌≡◌, ◌<◌, ◌≤◌, ◌+◌, ◌^◌, [], ℕ, ap, sym, ◌∙◌, subst, Option, Some, None}
use Rattle.std.specs.Prelude.{unwrap_or}
use Rattle.lwkt_base.specs.declared.limits.TheConstants.{CPU_LIMIT}
use Rattle.lwkt_core.specs.declared.events.Event.TheVariants.{Write}
use Rattle.lwkt_core.specs.Machine.{Needs, machine}
use Rattle.lwkt_plain.specs.TokenAsks.{value_of, IsSumOf, add_refusal}
use Rattle.lwkt_plain.proofs.AskNeeds.{add_needs}
use Rattle.lwkt_plain.proofs.token_asks.add.Goals as goal

pub step-requires-clause-needs : goal.step-requires-clause-needs
step-requires-clause-needs c =
    let tokens = c.args.tokens.now in
    let old : c.unwrap_or-value.result ≡ unwrap_or (value_of tokens c.args.tok 0) 0 = c.unwrap_or-value.ensures ∙ ap (λ (o : Option ℕ). unwrap_or o 0) c.value_of.ensures in
    let n = unwrap_or (value_of tokens c.args.tok 0) 0 + c.args.more in
    let sum : IsSumOf (Some c.in-Some-sum.value) n = subst (λ (v : ℕ). IsSumOf (Some c.in-Some-sum.value) (v + c.args.more)) old c.in-Some-sum.ensures in
    let all : IsSumOf c.sum_of-sum.result n = subst (λ (v : ℕ). IsSumOf c.sum_of-sum.result (v + c.args.more)) old c.sum_of-sum.ensures in
    let is : c.add_refusal.result ≡ None = cc in
    let none : add_refusal tokens c.args.list.now c.args.tok n ≡ None = sym (c.add_refusal.ensures n all) ∙ is in
    subst (λ (v : ℕ). Needs (machine CPU_LIMIT tokens []) (Write c.args.cpu c.args.tok 0 v)) (sym sum.0)
    (add_needs tokens c.args.cpu c.args.list.now c.args.tok c.args.more c.requires.here c.requires.sound c.requires.held none)
