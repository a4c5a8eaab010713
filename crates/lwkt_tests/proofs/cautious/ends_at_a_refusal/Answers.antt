use Rattle.std.proofs.Common.{Option, ap}
use Rattle.lwkt_base.specs.declared.asks.Ask.{Ask}
use Rattle.lwkt_base.specs.declared.asks.Answer.TheVariants.{Refused}
use Rattle.lwkt_machine.specs.Steps.{heard_of}
use Rattle.lwkt_tests.proofs.cautious.ends_at_a_refusal.Goals as goal

pub returns : goal.returns
returns c = c.poll-2.ensures.step c.poll.result c.args.fault (ap (λ (asked : Option Ask). heard_of asked (Refused c.args.fault)) c.poll.ensures.asked)
