use Rattle.lwkt_plain.proofs.OpenedSound.{opened_sound}
use Rattle.lwkt_plain.proofs.openings.opened_scripts_are_sound.Goals as goal

pub returns : goal.returns
returns c = opened_sound
