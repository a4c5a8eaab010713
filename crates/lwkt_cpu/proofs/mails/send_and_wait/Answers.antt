use Rattle.std.proofs.Common.{refl, ap, sym, subst, arith}
use Rattle.std.specs.Prelude.{Result}
use Rattle.lwkt_base.specs.declared.asks.Answer.{Answer}
use Rattle.lwkt_base.specs.declared.faults.Fault.{Fault}
use Rattle.lwkt_msg.specs.Desks.{desk_cpu}
use Rattle.lwkt_cpu.specs.Nexts.{next_with}
use Rattle.lwkt_cpu.specs.declared.nexts.Next.TheVariants.{Runs}
use Rattle.lwkt_cpu.specs.Mailing.{WaitsReply}
use Rattle.lwkt_cpu.proofs.MailMoves.{ran_mail_held, ran_mail_left}
use Rattle.lwkt_cpu.proofs.MailTraceMoves.{mail_traced, mail_quiet, given_quiet}
use Rattle.lwkt_cpu.proofs.mails.send_and_wait.Goals as goal

pub returns-in-Ok-clause-does : goal.returns-in-Ok-clause-does
returns-in-Ok-clause-does c =
    let m = c.send_sync in
    let F : Result (Unit {0}) Fault → Type 0 = λ r. WaitsReply c.args.hold.now.seat c.leave.new.hold.seat c.args.list.now m.new.trace c.leave.new.trace c.args.msg (next_with c.leave.result c.args.last.now) r in
    record {
      v = m.new.trace;
      result = m.result;
      sends = (m.ensures.sent, m.ensures.refused);
      goes_on = subst F (sym c.in-Ok.is) (c.leave.ensures.gives_up c.args.last.now);
    }

pub returns-in-Ok-clause-ran : goal.returns-in-Ok-clause-ran
returns-in-Ok-clause-ran c = ran_mail_left c.args.list.now (desk_cpu c.args.ports.now.seat) 1 c.args.hold.now.seat c.leave.new.hold.seat c.args.trace.now c.send_sync.new.trace c.leave.new.trace (omega arith) c.requires.mine c.requires.held c.send_sync.ensures.grew c.leave.ensures.ran

pub returns-in-Err-clause-does : goal.returns-in-Err-clause-does
returns-in-Err-clause-does c =
    let m = c.send_sync in
    let s = c.args.hold.now.seat in
    let F : Result (Unit {0}) Fault → Type 0 = λ r. WaitsReply s s c.args.list.now m.new.trace m.new.trace c.args.msg (Runs c.done.new.last) r in
    record {
      v = m.new.trace;
      result = m.result;
      sends = (m.ensures.sent, m.ensures.refused);
      goes_on = subst F (sym c.in-Err.is) (refl, refl, ap (λ (a : Answer). Runs a) c.done.ensures);
    }

pub returns-in-Err-clause-ran : goal.returns-in-Err-clause-ran
returns-in-Err-clause-ran c = ran_mail_held c.args.list.now (desk_cpu c.args.ports.now.seat) 1 320 c.args.hold.now.seat c.args.trace.now c.send_sync.new.trace (omega arith) c.requires.mine c.requires.held c.send_sync.ensures.grew

pub returns-in-Ok-clause-traced : goal.returns-in-Ok-clause-traced
returns-in-Ok-clause-traced c =
    let p = c.args.ports.now.seat in
    let m = c.send_sync in
    let l = c.leave in
    mail_quiet p m.new.self.seat m.new.self.seat c.args.trace.now.items m.new.trace.items l.new.trace.items
    (mail_traced (desk_cpu p) 1 p m.new.self.seat c.args.trace.now m.new.trace m.ensures.traced m.ensures.grew)
    (given_quiet _ _ _ _ m.new.trace l.new.trace _ _ (l.ensures.gives_up c.args.last.now)) refl

pub returns-in-Err-clause-traced : goal.returns-in-Err-clause-traced
returns-in-Err-clause-traced c =
    let p = c.args.ports.now.seat in
    let m = c.send_sync in
    mail_traced (desk_cpu p) 1 p m.new.self.seat c.args.trace.now m.new.trace m.ensures.traced m.ensures.grew
