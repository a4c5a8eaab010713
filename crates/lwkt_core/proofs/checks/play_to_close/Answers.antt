use Rattle.std.proofs.lemmas.Bool.{iff_false}
use Rattle.lwkt_core.proofs.TraceLemmas.{FailsAt-close, Run_taken}
use Rattle.lwkt_core.proofs.checks.play_to_close.Goals as goal

pub returns-then-not-closes-clause-failed : goal.returns-then-not-closes-clause-failed
returns-then-not-closes-clause-failed c =
    FailsAt-close c.args.state.now c.args.events.now c.args.last.now c.play.new.state c.in-Ok.ensures.played (iff_false c.closes.ensures c.if-not-closes.true)

pub returns-then-not-closes-clause-left : goal.returns-then-not-closes-clause-left
returns-then-not-closes-clause-left c = Run_taken c.args.state.now c.args.events.now c.play.new.state c.in-Ok.ensures.played
