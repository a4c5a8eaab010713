use Rattle.std.proofs.Common.{◌≡◌, ap, sym, ◌∙◌, None}
use Rattle.lwkt_base.specs.declared.faults.Fault.TheVariants.{RecordLong}
use Rattle.lwkt_plain.specs.TokenAsks.{record_refusal}
use Rattle.lwkt_plain.proofs.AskNeeds.{record_needs}
use Rattle.lwkt_plain.proofs.token_asks.write_blob.Goals as goal

pub step-requires-clause-needs : goal.step-requires-clause-needs
step-requires-clause-needs c =
    let is : c.record_refusal.result ≡ None = cc in
    let same = ap (record_refusal c.args.tokens.now c.args.list.now c.args.tok) c.unless_short.ensures in
    record_needs c.args.tokens.now c.args.cpu c.args.list.now c.args.tok c.args.blob RecordLong c.requires.here c.requires.held (sym same ∙ sym c.record_refusal.ensures ∙ is)
