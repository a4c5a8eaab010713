use Rattle.std.proofs.Common.{subst, sym, string_bytes}
use Rattle.std.specs.Prelude.{IfOk}
use Rattle.lwkt_request.specs.declared.requests.Form.{Form}
use Rattle.lwkt.specs.declared.written.Made.{Made}
use Rattle.lwkt.specs.Making.{IsForm}
use Rattle.lwkt.proofs.Reporting.{json_made, text_made}
use Rattle.lwkt.proofs.texts.form_of.Goals as goal

pub returns-in-Json-clause-made : goal.returns-in-Json-clause-made
returns-in-Json-clause-made g c =
    let Wrote : Form → Type 0 = λ form. IfOk c.made_of.result (λ made. IsForm form c.args.input.now (string_bytes made.text) made.status) in
    subst Wrote (sym c.in-Json.is) (json_made string_bytes (λ (made : Made). made.text) (λ (made : Made). made.status) c.args.input.now c.json_of.result c.made_of.result c.json_of.ensures.exact c.made_of.ensures.made c.made_of.ensures.short c.made_of.ensures.status)

pub returns-in-Text-clause-made : goal.returns-in-Text-clause-made
returns-in-Text-clause-made g c =
    let Wrote : Form → Type 0 = λ form. IfOk c.made_of-in-Text.result (λ made. IsForm form c.args.input.now (string_bytes made.text) made.status) in
    subst Wrote (sym c.in-Text.is) (text_made string_bytes (λ (made : Made). made.text) (λ (made : Made). made.status) c.args.input.now c.text_of.result c.made_of-in-Text.result c.text_of.ensures c.made_of-in-Text.ensures.made c.made_of-in-Text.ensures.short c.made_of-in-Text.ensures.status)
