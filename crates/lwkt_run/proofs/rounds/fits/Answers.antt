use Rattle.std.proofs.Common.{Option, ap, sym, subst}
use Rattle.std.specs.Prelude.{option_map}
use Rattle.lwkt_run.specs.declared.polled.Polled.{Polled}
use Rattle.lwkt_run.specs.Driving.{DeclinesBy}
use Rattle.lwkt_run.specs.Keeping.{polled_of}
use Rattle.lwkt_run.proofs.rounds.fits.Goals as goal

pub returns-in-None-clause-declines : goal.returns-in-None-clause-declines
returns-in-None-clause-declines c = λ unfit.
    let F : Option Polled → Type 0 = λ o. DeclinesBy c.args.cpu o c.args.part.now c.args.follower.now in
    subst F (sym (ap (λ o. option_map polled_of o) c.in-None.is)) (c.rest.ensures.declines unfit)
