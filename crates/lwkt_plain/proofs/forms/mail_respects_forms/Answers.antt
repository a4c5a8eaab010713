use Rattle.lwkt_plain.proofs.FormMail.{mail_forms}
use Rattle.lwkt_plain.proofs.forms.mail_respects_forms.Goals as goal

pub returns : goal.returns
returns c = mail_forms
