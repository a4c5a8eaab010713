use Rattle.lwkt_request.specs.CommandLine.{valued}
use Rattle.lwkt_request.proofs.commands.with_value.Goals as goal

pub returns : goal.returns
returns c = λ app built. c.with.ensures app (valued c.args.name.now) built c.valued.ensures.rule
