use Rattle.lwkt_core.proofs.PictureLemmas.{fit}
use Rattle.lwkt_core.proofs.decisions.pictures_fit.Goals as goal

pub returns : goal.returns
returns c = fit
