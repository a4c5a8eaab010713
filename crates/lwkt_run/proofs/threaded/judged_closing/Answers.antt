use Rattle.std.proofs.Common.{List, subst}
use Rattle.std.proofs.lemmas.Result.{IfOk-weaker}
use Rattle.lwkt_base.specs.declared.opening_specs.TokSpec.{TokSpec}
use Rattle.lwkt_core.specs.declared.events.Event.{Event}
use Rattle.lwkt_run.specs.NamedSections.{opening_rows, closing_rows, sections_of_all, IsVerdictOnAll}
use Rattle.lwkt_run.specs.Threaded.{ShowsLeft, MayCloseOnThreads}
use Rattle.lwkt_run.proofs.SectionMoves.{few_closed, closes_on_threads}
use Rattle.lwkt_run.proofs.threaded.judged_closing.Goals as goal

pub judged_by_stretches-requires-clause-few_closed : goal.judged_by_stretches-requires-clause-few_closed
judged_by_stretches-requires-clause-few_closed g c = λ κs lives.
    let r = c.requires in
    few_closed (g.G.Gate.answers c.args.gate.now) c.args.script.now c.args.remains.left.threads.items c.args.remains.left.last r.within r.lawful r.traces_of_run.runs

pub returns : goal.returns
returns g c =
    let r = c.requires in
    let A = g.G.Gate.answers c.args.gate.now in
    let s = c.args.script.now in
    let left = c.args.remains.left in
    let verdict = c.in_ok-verdict.verdict in
    let V : List TokSpec → Type 0 = λ specs. IsVerdictOnAll verdict (opening_rows specs) (closing_rows left.last) (sections_of_all c.args.remains.traces.items c.deref.result.now) in
    let W : List Event → Type 0 = λ stops. IsVerdictOnAll verdict (opening_rows s.tokens) (closing_rows left.last) (sections_of_all c.args.remains.traces.items stops) in
    let on = subst W c.deref.ensures.value (subst V c.as_slice.ensures c.in_ok-verdict.ensures) in
    IfOk-weaker c.closing_of.result (λ closing. ShowsLeft s.tokens left.threads.items left.last verdict closing) (λ closing. MayCloseOnThreads A s closing)
    (λ closing shows. closes_on_threads A s left.threads.items left.last c.args.remains.traces.items c.args.remains.stops.items verdict closing r.within r.lawful r.values r.threads r.traces_of_run shows on)
    c.closing_of.ensures
