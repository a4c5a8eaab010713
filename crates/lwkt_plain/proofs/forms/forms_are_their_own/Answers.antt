use Rattle.lwkt_plain.proofs.FormLaws.{own_form}
use Rattle.lwkt_plain.proofs.forms.forms_are_their_own.Goals as goal

pub returns : goal.returns
returns c = own_form
