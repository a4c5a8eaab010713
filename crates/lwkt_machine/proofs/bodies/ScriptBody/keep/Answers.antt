use Rattle.std.proofs.Common.{ap, arith, Option}
use Rattle.lwkt_base.specs.declared.entries.Entry.{Entry}
use Rattle.lwkt_machine.specs.Bodies.{Scripted, ask_said, entry_kept, logged}
use Rattle.lwkt_machine.proofs.BodyMoves.{body_so, full_log, kept_same}
use Rattle.lwkt_machine.proofs.bodies.ScriptBody.keep.Goals as goal
use Rattle.lwkt_machine.proofs.bodies.ScriptBody.keep.Goals.{else-may_log-via-then-may_log+else-len-lt-LOG_LIMIT, else-may_log-via-else-may_log}

pub returns-else-may_log : goal.returns-else-may_log
returns-else-may_log c =
    let f = c.self.inside in
    let b : Scripted = body_so f.code f.local (ask_said f.code.steps f.standing f.made) f.heard f.log.items in
    rw (← c.self.view_is) (elim c.else-may_log.branch [
      | else-may_log-via-then-may_log+else-len-lt-LOG_LIMIT w ↦ kept_same b (full_log f.log.items (entry_kept b) (omega (arith, w.if-len-lt-LOG_LIMIT.false, w.len.ensures)))
      | else-may_log-via-else-may_log w ↦ kept_same b (ap (λ (o : Option Entry). logged f.log.items o) (c.may_log.ensures w.if-may_log.false f.code.steps f.local (ask_said f.code.steps f.standing f.made)))
    ])
