use Rattle.lwkt_plain.proofs.FormLaws.{opened_form}
use Rattle.lwkt_plain.proofs.forms.opened_states_are_forms.Goals as goal

pub returns : goal.returns
returns c = opened_form
