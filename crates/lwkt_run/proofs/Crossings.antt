-- The program of a thread may cross from one OS thread to another.
use denote.Param.Send.{IsSend, sendable, view_send}
use denote.Param.SendFields.{as_row_send, declared_send, variants_send}
use Rattle.std.proofs.Crossing.{crosses}
use Rattle.std.proofs.option.Option.TheSendSync as options
use Rattle.lwkt_base.specs.contracts.asks.Ask as Ask
use Rattle.lwkt_base.proofs.asks.Ask.TheSendSync as asks
use Rattle.lwkt_base.proofs.asks.Answer.TheSendSync as answers
use Rattle.lwkt_base.proofs.entries.Entry.TheSendSync as entries
use Rattle.lwkt_code.proofs.locals.Local.TheSendSync as locals
use Rattle.lwkt_base.proofs.steps.Verb.TheSendSync as verbs
use Rattle.lwkt_base.proofs.blobs.Blob.TheSendSync as blobs
use Rattle.lwkt_base.proofs.records.Flags.TheSendSync as flags
use Rattle.lwkt_code.specs.contracts.exprs.ExprTree as ExprTree
use Rattle.lwkt_code.specs.contracts.exprs.CondTree as CondTree
use Rattle.lwkt_code.specs.contracts.exprs.Expr as Expr
use Rattle.lwkt_code.specs.contracts.exprs.Expr.TheInside as InExpr
use Rattle.lwkt_code.specs.contracts.exprs.Cond as Cond
use Rattle.lwkt_code.specs.contracts.exprs.Cond.TheInside as InCond
use Rattle.lwkt_code.specs.contracts.steps.Operand as Operand
use Rattle.lwkt_code.specs.contracts.steps.Wish as Wish
use Rattle.lwkt_code.specs.contracts.steps.Step as Step
use Rattle.lwkt_code.specs.contracts.codes.Code as Code
use Rattle.lwkt_code.specs.contracts.codes.Code.TheInside as InCode
use Rattle.lwkt_machine.specs.contracts.bodies.ScriptBody as ScriptBody
use Rattle.lwkt_machine.specs.contracts.bodies.ScriptBody.TheInside as InBody
use Rattle.lwkt_code.proofs.exprs.ExprTree.TheLaws.TheKnot.{send-ExprTree}
use Rattle.lwkt_code.proofs.exprs.CondTree.TheLaws.TheKnot.{send-CondTree}
use Rattle.lwkt_code.proofs.exprs.Operator.TheSendSync as operators
use Rattle.lwkt_code.proofs.exprs.Comparison.TheSendSync as comparisons
use Rattle.lwkt_code.proofs.steps.Places.TheSendSync as places
use Rattle.lwkt_code.proofs.steps.Test.TheSendSync as tests
use Rattle.lwkt_code.proofs.steps.Jump.TheSendSync as jumps
use Rattle.lwkt_code.proofs.series.Series.TheSendSync as series

expr_tree : IsSend (ExprTree.the_field).row
expr_tree = send-ExprTree (search sendable) (search sendable) operators.the_field_send (λ h s. search (sendable, crosses))

expr : IsSend Expr.the_row
expr = view_send _ _ _ _ _ (declared_send InExpr.the_type (as_row_send ExprTree.the_field expr_tree, tt))

cond_tree : IsSend (CondTree.the_field).row
cond_tree = send-CondTree comparisons.the_field_send expr (λ h s. search (sendable, crosses))

cond : IsSend Cond.the_row
cond = view_send _ _ _ _ _ (declared_send InCond.the_type (as_row_send CondTree.the_field cond_tree, tt))

operand : IsSend Operand.the_row
operand = variants_send Operand.enum (search (sendable, expr, blobs.the_send, flags.the_send))

wish : IsSend Wish.the_row
wish = declared_send Wish.the_type (search (sendable, verbs.the_send, series.the_send, operand))

step : IsSend Step.the_row
step = variants_send Step.enum (search (sendable, asks.the_send, wish, expr, cond, places.the_send, tests.the_send, jumps.the_send))

code : IsSend Code.the_row
code = view_send _ _ _ _ _ (declared_send InCode.the_type (search (sendable, crosses, step)))

pub body_send : IsSend ScriptBody.the_row
body_send = view_send _ _ _ _ _ (declared_send InBody.the_type (code, (locals.the_send, (search (sendable, options.the_send), (search (sendable, options.the_send, asks.the_send), (search (sendable, options.the_send, answers.the_send), (search (sendable, crosses, entries.the_send), tt)))))))
