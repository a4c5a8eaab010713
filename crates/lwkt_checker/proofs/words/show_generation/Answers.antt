use Rattle.std.proofs.Common.{◌++◌, codes, string_bytes}
use Rattle.std.specs.Fmt.{decimal}
use Rattle.lwkt_checker.specs.Said.{said, generation_said}
use Rattle.lwkt_checker.proofs.Sayings.{then_said, generation_is}
use Rattle.lwkt_checker.proofs.words.show_generation.Goals as goal

pub returns : goal.returns
returns c =
    let g = c.args.generation in
    then_said c.put.result (string_bytes c.args.out.now) (string_bytes c.say.new.out) (string_bytes c.put.new.out) (said (codes "generation ")) (decimal g ++ codes ", rows") (generation_said g) c.in_ok-say.ensures c.put.ensures (generation_is g)
