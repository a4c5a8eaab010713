use Rattle.std.proofs.Common.{◌≡◌, ◌+◌, ap, refl, sym, ◌∙◌, subst, List, inl, inr, arith}
use Rattle.lwkt_base.specs.Holding.{Holding, holds_nothing}
use Rattle.lwkt_bank.specs.declared.seats.CpuSeat.{CpuSeat}
use Rattle.lwkt_bank.specs.Seats.{holding}
use Rattle.lwkt_hold.specs.Runs.{Ran}
use Rattle.lwkt_hold.proofs.RunMoves.{ran_then, ran_weaker}
use Rattle.lwkt_msg.specs.Desks.{Desk, desk_cpu}
use Rattle.lwkt_cpu.specs.Traced.{TracesMail}
use Rattle.lwkt_cpu.proofs.MailMoves.{ran_mail}
use Rattle.lwkt_cpu.proofs.MailTraceMoves.{mail_none, mail_then, mail_traced}
use Rattle.lwkt_cpu.specs.declared.threads.Thread.{Thread}
use Rattle.lwkt_cpu.specs.Processors.{AllOver}
use Rattle.lwkt_cpu.specs.Searches.{IsOfOne}
use Rattle.lwkt_cpu.specs.Turning.{IsMailed}
use Rattle.lwkt_cpu.specs.Stopping.{AreThreadsStopped}
use Rattle.lwkt_cpu.proofs.WakeMoves.{post_then}
use Rattle.lwkt_cpu.proofs.cpus.Cpu.stop_in_room.Goals as goal

pub returns-clause-ran : goal.returns-clause-ran
returns-clause-ran g c =
    let p = c.args.self.now in
    let t = c.args.trace.now in
    let h = c.halt_running in
    let s = h.new.self.seat in
    let n = c.end_all in
    let y = c.pay in
    let P : Holding → Type 0 = IsMailed p.threads in
    let empty : holding n.new.self.seat ≡ holds_nothing = n.ensures.empty in
    let F : CpuSeat → Type 0 = λ x. Ran P 64 x n.new.self.seat h.new.trace y.new.trace in
    let G : CpuSeat → Type 0 = λ x. Ran P 258 p.seat x t y.new.trace in
    subst G (sym y.ensures.seat)
    (ran_weaker P P (194 + 64) 258 p.seat n.new.self.seat t y.new.trace (λ x q. q) (omega arith)
    (ran_then P 194 64 p.seat s n.new.self.seat t h.new.trace y.new.trace
    (ran_weaker (IsOfOne p.threads) P 194 194 p.seat s t h.new.trace (λ x q. inr q) (omega arith) h.ensures.ran)
    (subst F n.ensures.seat (ran_mail P (desk_cpu n.new.self.post.seat) 64 n.new.self.seat h.new.trace y.new.trace y.ensures.mine (inl empty) y.ensures.grew))))

pub returns-clause-stops : goal.returns-clause-stops
returns-clause-stops g c =
    let e = c.end_all.ensures in
    let y = c.pay.ensures in
    let news = c.pay.new.self.threads in
    let F : List Thread → Type 0 = λ xs. AreThreadsStopped c.halt_running.new.self.threads xs in
    let G : List Thread → Type 0 = λ xs. AllOver xs in
    record {
      room = c.args.trace.now;
      same = refl;
      mid = c.halt_running.new.self;
      v = c.halt_running.new.trace;
      halts = c.halt_running.ensures.halts;
      shut = c.end_all.new.self.post;
      closes = e.closes;
      pays = y.pays;
      seat = y.seat ∙ e.seat;
      bodies = y.bodies ∙ e.bodies ∙ c.halt_running.ensures.bodies;
      threads = subst F (sym y.threads) e.threads;
      over = subst G (sym y.threads) e.over;
      none_runs = y.running ∙ e.none;
      empty = ap holding y.seat ∙ e.empty;
    }

pub returns-clause-traced : goal.returns-clause-traced
returns-clause-traced g c =
    let d = c.args.self.now.post.seat in
    let t = c.args.trace.now.items in
    let h = c.halt_running in
    let n = c.end_all in
    let y = c.pay in
    let same : n.new.self.post.seat ≡ d = n.ensures.post ∙ h.ensures.post in
    let F : Desk → Type 0 = λ x. TracesMail d x t h.new.trace.items in
    mail_then d n.new.self.post.seat y.new.self.post.seat t h.new.trace.items y.new.trace.items
    (subst F (sym same) (mail_none d t h.new.trace.items h.ensures.quiet))
    (mail_traced (desk_cpu n.new.self.post.seat) 64 n.new.self.post.seat y.new.self.post.seat h.new.trace y.new.trace y.ensures.traced y.ensures.grew)

pub returns-clause-same : goal.returns-clause-same
returns-clause-same g c =
    let p = c.args.self.now.post in
    let h = c.halt_running in
    let n = c.end_all in
    let y = c.pay in
    post_then p n.new.self.post y.new.self.post (post_then p h.new.self.post n.new.self.post h.ensures.same n.ensures.same) y.ensures.same
