use Rattle.lwkt_request.specs.CommandLine.{file}
use Rattle.lwkt_request.proofs.commands.with_file.Goals as goal

pub returns : goal.returns
returns c = λ app built. c.with.ensures app file built c.file.ensures.rule
