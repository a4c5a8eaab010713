use Rattle.std.proofs.Common.{◌≡◌, Ok, IfOk, IfErr, Result, sym, subst}
use Rattle.lwkt_text.specs.declared.inputs.Input.{Input}
use Rattle.lwkt_text.specs.declared.inputs.Unread.{Unread}
use Rattle.lwkt_text.specs.Inputs.{IsUnread}
use Rattle.lwkt_text.proofs.Inputting.{ok_as, err_as, text_is}
use Rattle.lwkt_text.proofs.inputs.read_no_json.Goals as goal

pub returns-in-Ok-Some-clause-ok : goal.returns-in-Ok-Some-clause-ok
returns-in-Ok-Some-clause-ok c =
    let so = rw c.in-Ok-Some.field-0-is at c.in-Ok-Some.ensures.some in
    let F : Result Input Unread → Type 0 = λ x. IfOk c.text_input.result (λ input. x ≡ Ok input) in
    subst F (sym (text_is c.args.bytes.now c.as_slice.result.now c.requires (rw c.as_slice.ensures so))) (rw c.text_input.ensures (ok_as c.read_sentences.result _ c.read_sentences.ensures.ok))

pub returns-in-Ok-Some-clause-err : goal.returns-in-Ok-Some-clause-err
returns-in-Ok-Some-clause-err c =
    let so = rw c.in-Ok-Some.field-0-is at c.in-Ok-Some.ensures.some in
    let F : Result Input Unread → Type 0 = λ x. IfErr c.text_input.result (λ unread. IsUnread unread x) in
    subst F (sym (text_is c.args.bytes.now c.as_slice.result.now c.requires (rw c.as_slice.ensures so))) (rw c.text_input.ensures (err_as c.read_sentences.result _ c.read_sentences.ensures.err))
