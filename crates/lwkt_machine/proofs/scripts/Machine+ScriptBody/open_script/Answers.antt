use Rattle.std.proofs.Common.{◌∙◌, List, subst}
use Rattle.std.specs.Prelude.{IfErr, IfOk, OnOk}
use Rattle.std.proofs.lemmas.Result.{IfErr-weaker, IfOk-weaker, on_ok_weaker}
use Rattle.lwkt_base.specs.declared.opening_specs.MsgSpec.{MsgSpec}
use Rattle.lwkt_base.specs.declared.opening_specs.TokSpec.{TokSpec}
use Rattle.lwkt_core.specs.Opening.{AllOpenLawfully}
use Rattle.lwkt_script.specs.declared.scripts.ThreadSpec.{ThreadSpec}
use Rattle.lwkt_machine.specs.Opened.{Declines, IsOpenedMachine, IsWithin}
use Rattle.lwkt_machine.specs.Scripts.{AreBodiesOf, DeclinesScript, IsOpenedScript}
use Rattle.lwkt_machine.proofs.ScriptMoves.{declines_script, nothing_kept, opened_script, within_script}
use Rattle.lwkt_machine.proofs.scripts.Machine+ScriptBody.open_script.Goals as goal

pub returns-then-not-are_few-clause-refused : goal.returns-then-not-are_few-clause-refused
returns-then-not-are_few-clause-refused c = λ within. c.are_few.ensures.no c.if-not-are_few.true within.few

pub returns-in_err-bodies-clause-many : goal.returns-in_err-bodies-clause-many
returns-in_err-bodies-clause-many c = λ many. absurd (many (c.are_few.ensures.yes c.if-not-are_few.false))

pub open-requires : goal.open-requires
open-requires c = record { kept = nothing_kept c.in_ok-bodies.bodies.items }

pub returns-clause-ok : goal.returns-clause-ok
returns-clause-ok c =
    let s = c.args.script.now in
    let lists = c.in_ok-bodies.bodies.items in
    let F : List ThreadSpec → Type 0 = λ threads. AreBodiesOf threads lists in
    let are = subst F c.as_slice.ensures c.in_ok-bodies.ensures.are in
    let many = c.in_ok-bodies.ensures.as_many ∙ c.from.ensures in
    let G : List TokSpec × List MsgSpec → Type 0 = λ y. IfOk c.open.result (λ m. IsOpenedMachine y.0 y.1 lists m) in
    IfOk-weaker c.open.result (λ m. IsOpenedMachine s.tokens s.messages lists m) (λ m. IsOpenedScript s m) (λ m opened. opened_script s lists m many are opened) (subst G (λ i. (c.as_slice-2.ensures i, c.as_slice-3.ensures i)) c.open.ensures.ok)

pub returns-clause-within : goal.returns-clause-within
returns-clause-within c =
    let s = c.args.script.now in
    let lists = c.in_ok-bodies.bodies.items in
    let F : List ThreadSpec → Type 0 = λ threads. AreBodiesOf threads lists in
    let are = subst F c.as_slice.ensures c.in_ok-bodies.ensures.are in
    let many = c.in_ok-bodies.ensures.as_many ∙ c.from.ensures in
    let G : List TokSpec × List MsgSpec → Type 0 = λ y. OnOk c.open.result (IsWithin y.0 y.1 lists × AllOpenLawfully y.0) in
    on_ok_weaker c.open.result (λ yes. (within_script s lists many are yes.0).tables) (subst G (λ i. (c.as_slice-2.ensures i, c.as_slice-3.ensures i)) c.open.ensures.within)

pub returns-clause-few : goal.returns-clause-few
returns-clause-few c = on_ok_weaker {P = IsWithin c.as_slice-2.result.now c.as_slice-3.result.now c.in_ok-bodies.bodies.items × AllOpenLawfully c.as_slice-2.result.now} c.open.result (λ yes. c.are_few.ensures.yes c.if-not-are_few.false) c.open.ensures.within

pub returns-clause-lawful : goal.returns-clause-lawful
returns-clause-lawful c =
    let lists = c.in_ok-bodies.bodies.items in
    let G : List TokSpec × List MsgSpec → Type 0 = λ y. OnOk c.open.result (IsWithin y.0 y.1 lists × AllOpenLawfully y.0) in
    on_ok_weaker c.open.result (λ yes. yes.1) (subst G (λ i. (c.as_slice-2.ensures i, c.as_slice-3.ensures i)) c.open.ensures.within)

pub returns-clause-many : goal.returns-clause-many
returns-clause-many c = λ many. absurd (many (c.are_few.ensures.yes c.if-not-are_few.false))

pub returns-clause-refused : goal.returns-clause-refused
returns-clause-refused c =
    let s = c.args.script.now in
    let lists = c.in_ok-bodies.bodies.items in
    let F : List ThreadSpec → Type 0 = λ threads. AreBodiesOf threads lists in
    let are = subst F c.as_slice.ensures c.in_ok-bodies.ensures.are in
    let many = c.in_ok-bodies.ensures.as_many ∙ c.from.ensures in
    let G : List TokSpec × List MsgSpec → Type 0 = λ y. IfErr c.open.result (λ fault. Declines y.0 y.1 lists fault) in
    IfErr-weaker c.open.result (λ fault. Declines s.tokens s.messages lists fault) (λ fault. DeclinesScript s fault) (λ fault why. declines_script s lists fault many are why) (subst G (λ i. (c.as_slice-2.ensures i, c.as_slice-3.ensures i)) c.open.ensures.refused)
