use Rattle.lwkt_plain.proofs.TurnForms.{turns_respect}
use Rattle.lwkt_plain.proofs.forms.forms_respect_turns.Goals as goal

pub returns : goal.returns
returns c = turns_respect
