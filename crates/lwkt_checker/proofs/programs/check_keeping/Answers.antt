use Rattle.std.proofs.Common.{inl, inr, ◌≡◌, ◌⊎◌}
use Rattle.lwkt_base.specs.Fault.{no_memory}
use Rattle.lwkt_report.specs.declared.streams.RunFault.TheVariants.{Fault, Stream}
use Rattle.lwkt_checker.proofs.Reporting.{reports_unread, reports_refused, reports_found, leaves_found}
use Rattle.lwkt_checker.proofs.programs.check_keeping.Goals as goal

pub returns-in-Err-clause-reports : goal.returns-in-Err-clause-reports
returns-in-Err-clause-reports g c =
    let why : (c.in-Err.fault ≡ Stream) ⊎ (c.in-Err.fault ≡ Fault no_memory) =
    elim c.in-Err.ensures.only [ inl is ↦ inl cc | inr is ↦ inr cc ] in
    reports_unread (g.S.Source.left c.args.source.now) (g.K.Sink.contents c.args.sink.now) c.in-Err.fault why

pub returns-in-Err-finding_of-clause-reports : goal.returns-in-Err-finding_of-clause-reports
returns-in-Err-finding_of-clause-reports g c =
    reports_refused (g.S.Source.left c.args.source.now) (g.K.Sink.contents c.args.sink.now) c.in-Ok.bytes.items c.deref.result.now c.in-Err-finding_of.fault
    c.deref.ensures.value c.in-Ok.ensures.bytes c.in-Err-finding_of.ensures.refused

pub returns-in-Ok-finding_of-clause-reports : goal.returns-in-Ok-finding_of-clause-reports
returns-in-Ok-finding_of-clause-reports g c =
    reports_found (g.S.Source.left c.args.source.now) (g.K.Sink.contents c.args.sink.now) (g.K.Sink.contents c.write_finding.new.sink) c.in-Ok.bytes.items c.deref.result.now c.in-Ok-finding_of.finding c.write_finding.result
    c.deref.ensures.value c.in-Ok.ensures.bytes c.in-Ok-finding_of.ensures.found c.write_finding.ensures.writes

pub returns-in-Ok-finding_of-clause-leaves : goal.returns-in-Ok-finding_of-clause-leaves
returns-in-Ok-finding_of-clause-leaves g c =
    leaves_found (g.S.Source.left c.args.source.now) (g.K.Sink.contents c.args.sink.now) (g.K.Sink.contents c.write_finding.new.sink) c.in-Ok.bytes.items c.in-Ok-finding_of.finding c.write_finding.result
    c.in-Ok.ensures.bytes c.write_finding.ensures.writes
