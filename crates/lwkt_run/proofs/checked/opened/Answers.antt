use Rattle.std.proofs.Common.{rules}
use Rattle.std.proofs.lemmas.Result.{IfErr-weaker}
use Rattle.std.specs.Prelude.{IfErr}
use Rattle.lwkt_machine.specs.Opened.{DeclinesTables}
use Rattle.lwkt_machine.proofs.ScriptMoves.{declines_more}
use Rattle.lwkt_run.specs.Run.{DeclinesRun}
use Rattle.lwkt_run.proofs.checked.opened.Goals as goal

pub returns-clause-refused : goal.returns-clause-refused
returns-clause-refused c =
    let s = c.args.script.now in
    let declined : IfErr c.open.result (λ fault. DeclinesTables s.cpus s.tokens s.messages fault) = search rules in
    IfErr-weaker c.open.result (λ fault. DeclinesTables s.cpus s.tokens s.messages fault) (λ fault. DeclinesRun s fault) (λ fault why. declines_more s fault c.requires.few why) declined
