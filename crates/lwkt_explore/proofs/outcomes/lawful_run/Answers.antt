use Rattle.std.proofs.Common.{rules}
use Rattle.std.specs.Prelude.{IfErr}
use Rattle.std.proofs.lemmas.Result.{IfErr-weaker}
use Rattle.lwkt_base.specs.declared.faults.Fault.{Fault}
use Rattle.lwkt_run.specs.Run.{DeclinesAlong}
use Rattle.lwkt_explore.specs.Outcomes.{RefusesSearch}
use Rattle.lwkt_explore.specs.Verdicts.{IsOfVerdict}
use Rattle.lwkt_explore.proofs.RefusalLemmas.{refused_along, refused_verdict}
use Rattle.lwkt_explore.proofs.outcomes.lawful_run.Goals as goal

pub returns-in_err-run-clause-refused : goal.returns-in_err-run-clause-refused
returns-in_err-run-clause-refused c =
    let script = c.args.script.now in
    let order = c.args.order.now in
    let P : Fault → Type 0 = λ fault. DeclinesAlong script order fault in
    let Q : Fault → Type 0 = λ fault. RefusesSearch script fault in
    let grouped : IfErr c.from_residual.result P = search rules in
    IfErr-weaker c.from_residual.result P Q (λ fault why. refused_along script order fault c.requires why) grouped

pub returns-in_err-kind-clause-refused : goal.returns-in_err-kind-clause-refused
returns-in_err-kind-clause-refused c =
    let run = c.in_ok-run.run' in
    let P : Fault → Type 0 = λ fault. IsOfVerdict run.closing.verdict fault in
    let Q : Fault → Type 0 = λ fault. RefusesSearch c.args.script.now fault in
    let grouped : IfErr c.from_residual-in_err-kind.result P = search rules in
    IfErr-weaker c.from_residual-in_err-kind.result P Q (λ fault why. refused_verdict c.args.script.now c.args.order.now run fault c.in_ok-run.ensures.ok why) grouped
