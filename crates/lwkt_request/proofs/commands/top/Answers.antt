use Rattle.std.proofs.Common.{◌∙◌, ap}
use Rattle.std.proofs.lemmas.Result.{IfOk-weaker}
use Rattle.clap.specs.Simple.{app_of_fields}
use Rattle.lwkt_request.specs.CommandLine.{IsBuilt, top}
use Rattle.lwkt_request.proofs.commands.top.Goals as goal

pub returns : goal.returns
returns c =
    let built = c.settled-command.ensures _ (c.described.ensures _ (record { is = c.new.ensures.app; local = c.new.ensures.local; whole = c.new.ensures.whole })) in
    IfOk-weaker c.with_bin_name.result _ (IsBuilt top) (λ named is. record { is = ap app_of_fields is.0 ∙ built.is; local = ap (λ fields. fields.has_globals) is.0 ∙ built.local; whole = ap (λ fields. fields.is_broken) is.0 ∙ built.whole }) c.with_bin_name.ensures
