use Rattle.std.proofs.Common.{refl, ◌∙◌}
use Rattle.lwkt_report.specs.declared.closings.Closing.{Closing}
use Rattle.lwkt_explore.proofs.SettledLemmas.{settled_is}
use Rattle.lwkt_explore.proofs.outcomes.settled_of.Goals as goal

pub returns-clause-settled : goal.returns-clause-settled
returns-clause-settled c =
    let closing = c.args.closing in
    let unsent : Closing = record { tokens = closing.tokens; messages = c.new.result; threads = closing.threads; verdict = closing.verdict } in
    c.in_ok-settled.ensures ∙ settled_is closing unsent refl c.new.ensures.items refl
