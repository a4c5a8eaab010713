use Rattle.std.proofs.Common.{refl, ap, sym, ◌∙◌, subst, arith, Option, Ok}
use Rattle.std.specs.Prelude.{Result}
use Rattle.lwkt_base.specs.declared.asks.Item.{Item}
use Rattle.lwkt_base.specs.declared.asks.Answer.{Answer}
use Rattle.lwkt_base.specs.declared.faults.Fault.{Fault}
use Rattle.lwkt_msg.specs.Desks.{desk_cpu}
use Rattle.lwkt_cpu.specs.Nexts.{next_with}
use Rattle.lwkt_cpu.specs.declared.nexts.Next.TheVariants.{Runs}
use Rattle.lwkt_cpu.specs.Mailing.{WaitsItem}
use Rattle.lwkt_cpu.proofs.MailMoves.{ran_mail_held, ran_mail_left}
use Rattle.lwkt_cpu.proofs.MailTraceMoves.{mail_traced, mail_quiet, given_quiet}
use Rattle.lwkt_cpu.proofs.mails.wait_port.Goals as goal

pub returns-in-Ok-Some-clause-waits : goal.returns-in-Ok-Some-clause-waits
returns-in-Ok-Some-clause-waits c =
    let s = c.args.hold.now.seat in
    let F : Result (Option Item) Fault → Type 0 = λ r. WaitsItem s s c.args.list.now c.get.new.trace c.get.new.trace (Runs c.shown.new.last) r in
    record {
      v = c.get.new.trace;
      result = c.get.result;
      gets = c.get.ensures.gets;
      goes_on = subst F (sym (c.in-Ok-Some.is ∙ ap Ok c.in-Ok-Some.field-0-is)) (refl, refl, ap (λ (a : Answer). Runs a) c.shown.ensures);
    }

pub returns-in-Ok-Some-clause-ran : goal.returns-in-Ok-Some-clause-ran
returns-in-Ok-Some-clause-ran c = ran_mail_held c.args.list.now (desk_cpu c.args.ports.now.seat) 128 320 c.args.hold.now.seat c.args.trace.now c.get.new.trace (omega arith) c.requires.mine c.requires.held c.get.ensures.grew

pub returns-in-Ok-None-clause-waits : goal.returns-in-Ok-None-clause-waits
returns-in-Ok-None-clause-waits c =
    let F : Result (Option Item) Fault → Type 0 = λ r. WaitsItem c.args.hold.now.seat c.leave.new.hold.seat c.args.list.now c.get.new.trace c.leave.new.trace (next_with c.leave.result c.args.last.now) r in
    record {
      v = c.get.new.trace;
      result = c.get.result;
      gets = c.get.ensures.gets;
      goes_on = subst F (sym (c.in-Ok-None.is ∙ ap Ok c.in-Ok-None.field-0-is)) (c.leave.ensures.gives_up c.args.last.now);
    }

pub returns-in-Ok-None-clause-ran : goal.returns-in-Ok-None-clause-ran
returns-in-Ok-None-clause-ran c = ran_mail_left c.args.list.now (desk_cpu c.args.ports.now.seat) 128 c.args.hold.now.seat c.leave.new.hold.seat c.args.trace.now c.get.new.trace c.leave.new.trace (omega arith) c.requires.mine c.requires.held c.get.ensures.grew c.leave.ensures.ran

pub returns-in-Err-clause-waits : goal.returns-in-Err-clause-waits
returns-in-Err-clause-waits c =
    let l = c.leave-in-Err in
    let F : Result (Option Item) Fault → Type 0 = λ r. WaitsItem c.args.hold.now.seat l.new.hold.seat c.args.list.now c.get.new.trace l.new.trace (next_with l.result c.args.last.now) r in
    record {
      v = c.get.new.trace;
      result = c.get.result;
      gets = c.get.ensures.gets;
      goes_on = subst F (sym c.in-Err.is) (l.ensures.gives_up c.args.last.now);
    }

pub returns-in-Err-clause-ran : goal.returns-in-Err-clause-ran
returns-in-Err-clause-ran c =
    let l = c.leave-in-Err in
    ran_mail_left c.args.list.now (desk_cpu c.args.ports.now.seat) 128 c.args.hold.now.seat l.new.hold.seat c.args.trace.now c.get.new.trace l.new.trace (omega arith) c.requires.mine c.requires.held c.get.ensures.grew l.ensures.ran

pub returns-in-Ok-Some-clause-traced : goal.returns-in-Ok-Some-clause-traced
returns-in-Ok-Some-clause-traced c =
    let p = c.args.ports.now.seat in
    let m = c.get in
    mail_traced (desk_cpu p) 128 p m.new.self.seat c.args.trace.now m.new.trace m.ensures.traced m.ensures.grew

pub returns-in-Ok-None-clause-traced : goal.returns-in-Ok-None-clause-traced
returns-in-Ok-None-clause-traced c =
    let p = c.args.ports.now.seat in
    let m = c.get in
    let l = c.leave in
    mail_quiet p m.new.self.seat m.new.self.seat c.args.trace.now.items m.new.trace.items l.new.trace.items
    (mail_traced (desk_cpu p) 128 p m.new.self.seat c.args.trace.now m.new.trace m.ensures.traced m.ensures.grew)
    (given_quiet _ _ _ _ m.new.trace l.new.trace _ _ (l.ensures.gives_up c.args.last.now)) refl

pub returns-in-Err-clause-traced : goal.returns-in-Err-clause-traced
returns-in-Err-clause-traced c =
    let p = c.args.ports.now.seat in
    let m = c.get in
    let l = c.leave-in-Err in
    mail_quiet p m.new.self.seat m.new.self.seat c.args.trace.now.items m.new.trace.items l.new.trace.items
    (mail_traced (desk_cpu p) 128 p m.new.self.seat c.args.trace.now m.new.trace m.ensures.traced m.ensures.grew)
    (given_quiet _ _ _ _ m.new.trace l.new.trace _ _ (l.ensures.gives_up c.args.last.now)) refl
