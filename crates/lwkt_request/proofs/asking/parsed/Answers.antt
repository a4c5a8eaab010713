use Rattle.std.proofs.lemmas.Result.{IfOk-weaker}
use Rattle.clap.specs.Walk.{texts}
use Rattle.clap.specs.Words.{app_of}
use Rattle.lwkt_request.specs.Answers.{IsParsed}
use Rattle.lwkt_request.specs.CommandLine.{command_line}
use Rattle.lwkt_request.proofs.ParseLemmas.{failed_by, found_by, is_free, is_other, is_plain}
use Rattle.lwkt_request.proofs.asking.parsed.Goals as goal

pub returns-in-Ok : goal.returns-in-Ok
returns-in-Ok c =
    IfOk-weaker c.found_in.result _ (IsParsed (texts c.args.words.now)) (λ asked found.
    found_by (app_of c.in_ok-command.command) command_line (texts c.args.words.now) c.in_ok-parse.parse c.in-Ok.matches asked
    c.in_ok-command.ensures.is is_free is_plain c.in-Ok.is c.in_ok-parse.ensures.fails c.in_ok-parse.ensures.found found) c.found_in.ensures

pub returns-in-Err : goal.returns-in-Err
returns-in-Err c =
    IfOk-weaker c.failed_by.result _ (IsParsed (texts c.args.words.now)) (λ asked failed.
    failed_by (app_of c.in_ok-command.command) command_line (texts c.args.words.now) c.in_ok-parse.parse c.in-Err.error asked
    c.in_ok-command.ensures.is is_free c.in-Err.is c.in_ok-parse.ensures.fails failed) (c.failed_by.ensures (is_other c.in_ok-parse.parse c.in-Err.error c.in-Err.is c.in_ok-parse.ensures.other))
