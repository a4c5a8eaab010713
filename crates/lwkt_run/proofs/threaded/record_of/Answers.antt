use Rattle.std.proofs.Common.{List, IsPermutation, subst}
use Rattle.lwkt_base.specs.declared.opening_specs.TokSpec.{TokSpec}
use Rattle.lwkt_base.specs.declared.sections.Section.{Section}
use Rattle.lwkt_core.specs.declared.events.Event.{Event}
use Rattle.lwkt_run.specs.NamedSections.{opening_rows, closing_rows, sections_of_all, IsVerdictOn}
use Rattle.lwkt_run.proofs.SectionMoves.{few_closed, records_on_threads}
use Rattle.lwkt_run.proofs.threaded.record_of.Goals as goal

pub judged-requires-clause-few_closed : goal.judged-requires-clause-few_closed
judged-requires-clause-few_closed g c =
    let r = c.requires in
    few_closed (g.G.Gate.answers c.args.gate.now) c.args.script.now c.args.remains.left.threads.items c.args.remains.left.last r.within r.lawful r.traces_of_run.runs

pub returns : goal.returns
returns g c =
    let r = c.requires in
    let s = c.args.script.now in
    let remains = c.args.remains in
    let last = remains.left.last in
    let verdict = c.in_ok-verdict.verdict in
    let sections = c.in_ok-sections.sections in
    let P : List Event → Type 0 = λ stops. IsPermutation (sections_of_all remains.traces.items stops) sections.items in
    let V : List TokSpec → Type 0 = λ specs. IsVerdictOn verdict (opening_rows specs) (closing_rows last) c.deref-3.result.now in
    let W : List Section → Type 0 = λ xs. IsVerdictOn verdict (opening_rows s.tokens) (closing_rows last) xs in
    let on = subst W c.deref-3.ensures.value (subst V c.as_slice-2.ensures c.in_ok-verdict.ensures) in
    records_on_threads (g.G.Gate.answers c.args.gate.now) s remains.left.threads.items last remains.traces.items remains.stops.items verdict c.in_ok-closing_of.field-0 r.within r.lawful r.values r.threads r.traces_of_run c.in_ok-closing_of.ensures
    sections c.in_ok-givers.givers (subst P c.deref-2.ensures.value c.in_ok-sections.ensures.named) c.in_ok-sections.ensures.sorted on
