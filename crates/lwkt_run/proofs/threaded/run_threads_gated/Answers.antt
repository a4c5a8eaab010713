use Rattle.std.proofs.Common.{inl, inr, ◌≡◌, ◌⊎◌}
use Rattle.lwkt_base.specs.Fault.{no_memory}
use Rattle.lwkt_report.specs.declared.streams.RunFault.TheVariants.{Fault, Stream}
use Rattle.lwkt_run.specs.Threaded.{HasThreadedRun}
use Rattle.lwkt_run.proofs.RunLemmas.{reports_unread, reports_concluded}
use Rattle.lwkt_run.proofs.threaded.run_threads_gated.Goals as goal

pub returns-in-Err-clause-reports : goal.returns-in-Err-clause-reports
returns-in-Err-clause-reports g c =
    let why : (c.in-Err.fault ≡ Stream) ⊎ (c.in-Err.fault ≡ Fault no_memory) =
    elim c.in-Err.ensures.only [ inl is ↦ inl cc | inr is ↦ inr cc ] in
    reports_unread (HasThreadedRun (g.G.Gate.answers c.args.gate.now)) (g.S.Source.left c.args.source.now) (g.K.Sink.contents c.args.sink.now) c.in-Err.fault why

pub returns-clause-reports : goal.returns-clause-reports
returns-clause-reports g c =
    reports_concluded (HasThreadedRun (g.G.Gate.answers c.args.gate.now)) (g.S.Source.left c.args.source.now) (g.K.Sink.contents c.args.sink.now) (g.K.Sink.contents c.conclude.new.sink) c.in-Ok.bytes.items c.deref.result.now c.done_of_bytes.result c.conclude.result
    c.deref.ensures.value c.in-Ok.ensures.bytes c.done_of_bytes.ensures.ok c.done_of_bytes.ensures.refused c.conclude.ensures.concludes
