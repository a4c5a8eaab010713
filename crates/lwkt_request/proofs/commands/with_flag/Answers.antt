use Rattle.lwkt_request.specs.CommandLine.{flag}
use Rattle.lwkt_request.proofs.commands.with_flag.Goals as goal

pub returns : goal.returns
returns c = λ app built. c.with.ensures app (flag c.args.name.now) built c.flag.ensures.rule
