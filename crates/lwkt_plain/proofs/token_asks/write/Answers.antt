use Rattle.std.proofs.Common.{◌≡◌, sym, ◌∙◌, None}
use Rattle.lwkt_base.specs.declared.faults.Fault.TheVariants.{SharedWrite, TallyOnly}
use Rattle.lwkt_plain.proofs.AskNeeds.{write_needs}
use Rattle.lwkt_plain.proofs.token_asks.write.Goals as goal

pub step-requires-clause-needs : goal.step-requires-clause-needs
step-requires-clause-needs c =
    let is : c.write_refusal.result ≡ None = cc in
    write_needs c.args.tokens.now c.args.cpu c.args.list.now c.args.tok c.args.cell c.args.value SharedWrite TallyOnly c.requires.here c.requires.held (sym c.write_refusal.ensures ∙ is)
