use Rattle.std.proofs.Common.{subst}
use Rattle.lwkt_script.specs.Format.{script_of}
use Rattle.lwkt_script.specs.Outcome.{Gives}
use Rattle.lwkt_run.specs.Modes.{HasRunBy}
use Rattle.lwkt_run.proofs.ReadMoves.{has_run_by}
use Rattle.lwkt_run.proofs.RunLemmas.{done_has}
use Rattle.lwkt_run.proofs.programs.done_of_read.Goals as goal

pub returns-clause-ok : goal.returns-clause-ok
returns-clause-ok g c = λ bytes gives.
    let closing = c.in_ok-closing.closing in
    let is = subst (λ r. Gives (λ s. s) r (script_of bytes)) c.in_ok-script.was gives in
    let run = has_run_by c.args.mode bytes c.in_ok-script.script closing is c.in_ok-closing.ensures.closes in
    done_has (HasRunBy c.args.mode bytes) closing c.in_ok-done_of.field-0 run c.in_ok-done_of.ensures.text c.in_ok-done_of.ensures.end
