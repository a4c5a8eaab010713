use Rattle.std.proofs.Common.{◌≡◌, Ok, refl, rules}
use Rattle.lwkt_report.specs.Report.{report_text}
use Rattle.lwkt_script.specs.Format.{script_of}
use Rattle.lwkt_run.specs.Run.{HasRun, end_of_closing}
use Rattle.lwkt_run.proofs.RunLemmas.{done_has}
use Rattle.lwkt_run.proofs.runs.done_of_bytes.Goals as goal

pub returns-clause-ok : goal.returns-clause-ok
returns-clause-ok c =
    let script = c.in_ok-script.script in
    let closing = c.in_ok-closing.closing in
    let read : script_of c.args.bytes.now ≡ Ok script = search rules in
    let run : HasRun c.args.bytes.now (end_of_closing closing) (report_text closing) = record { script = script; read = read; closing = closing; closes = c.in_ok-closing.ensures.closes; is_text = refl; is_end = refl } in
    done_has (HasRun c.args.bytes.now) closing c.in_ok-done_of.field-0 run c.in_ok-done_of.ensures.text c.in_ok-done_of.ensures.end
