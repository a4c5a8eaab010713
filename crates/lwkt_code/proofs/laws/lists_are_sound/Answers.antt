use Rattle.lwkt_code.proofs.Lists.{lists_are_sound}
use Rattle.lwkt_code.proofs.laws.lists_are_sound.Goals as goal

pub returns : goal.returns
returns c = lists_are_sound
