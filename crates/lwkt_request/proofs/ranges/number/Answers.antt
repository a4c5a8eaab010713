use Rattle.std.proofs.Common.{◌∙◌}
use Rattle.lwkt_request.proofs.NumberLemmas.{read_number}
use Rattle.lwkt_request.proofs.ranges.number.Goals as goal

pub returns : goal.returns
returns c = c.ok.ensures.value ∙ read_number c.args.text.now c.parse.result c.parse.ensures.value.0
