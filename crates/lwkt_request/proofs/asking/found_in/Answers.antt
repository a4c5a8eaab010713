use Rattle.std.proofs.Common.{Some, None, ap, sym, ◌∙◌}
use Rattle.lwkt_request.specs.Tasks.{rows_in}
use Rattle.lwkt_request.proofs.FoundLemmas.{by_task}
use Rattle.lwkt_request.proofs.asking.found_in.Goals as goal

pub returns-in_ok-request_for-in-Ok : goal.returns-in_ok-request_for-in-Ok
returns-in_ok-request_for-in-Ok c =
    by_task c.args.matches.now c.in-Some.name.now (rows_in c.in-Some.inner.now) (Some c.in-Ok.task) c.in-Some.ensures.name c.in-Some.ensures.rows c.in-Ok.ensures
    ∙ ap (λ wish. Some wish) (sym c.in_ok-request_for-in-Ok.ensures)

pub returns-in_ok-misuse_of-in-Err : goal.returns-in_ok-misuse_of-in-Err
returns-in_ok-misuse_of-in-Err c = by_task c.args.matches.now c.in-Some.name.now (rows_in c.in-Some.inner.now) None c.in-Some.ensures.name c.in-Some.ensures.rows c.in-Err.ensures
