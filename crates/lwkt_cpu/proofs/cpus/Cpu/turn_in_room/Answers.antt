use Rattle.std.proofs.Common.{ℕ, refl, sym, ◌∙◌, subst, arith, Option}
use Rattle.std.proofs.lemmas.Bool.{false≢true}
use Rattle.lwkt_cpu.proofs.MailTraceMoves.{mail_then}
use Rattle.lwkt_cpu.specs.Turning.{Chooses}
use Rattle.lwkt_cpu.proofs.RestMoves.{turn_ran, search_ran}
use Rattle.lwkt_cpu.proofs.TurnTraceMoves.{chosen_post, chosen_traced}
use Rattle.lwkt_cpu.proofs.WakeMoves.{post_then}
use Rattle.lwkt_cpu.proofs.cpus.Cpu.turn_in_room.Goals as goal

pub returns-in-Some-clause-makes : goal.returns-in-Some-clause-makes
returns-in-Some-clause-makes g c =
    let old = c.args.self.now in
    let met = c.take_mail.new.self in
    let mid = c.choose.new.self in
    let new = c.run_on.new.self in
    let t = c.args.trace.now in
    let F : Option ℕ → Type 0 = λ o. Chooses {B = g.row.B.Denot} met mid c.take_mail.new.trace c.choose.new.trace met.running o in
    record {
      room = t;
      same = refl;
      mid = met;
      v = c.take_mail.new.trace;
      mail = c.take_mail.ensures.mail;
      turns = (mid, (c.choose.new.trace, (subst F c.in-Some.is c.choose.ensures.chooses, c.run_on.ensures.runs_one)));
      ran = turn_ran {B = g.row.B.Denot} old met mid new t t c.take_mail.new.trace c.choose.new.trace c.run_on.new.trace met.running c.choose.result refl refl (omega arith) c.take_mail.ensures.woken c.choose.ensures.chooses c.take_mail.ensures.ran c.choose.ensures.ran c.run_on.ensures.ran;
      traced = mail_then old.post.seat mid.post.seat new.post.seat t.items c.choose.new.trace.items c.run_on.new.trace.items (chosen_traced old.post.seat met.post.seat mid.post.seat t.items t.items c.take_mail.new.trace.items c.choose.new.trace.items refl c.take_mail.ensures.traced c.choose.ensures.quiet (chosen_post {B = g.row.B.Denot} met mid c.take_mail.new.trace c.choose.new.trace met.running c.choose.result c.choose.ensures.chooses)) c.run_on.ensures.traced;
      ports = post_then old.post mid.post new.post (post_then old.post met.post mid.post c.take_mail.ensures.same c.choose.ensures.same) c.run_on.ensures.same;
      rest = c.run_on.ensures.rest;
    }

pub returns-in-None-clause-makes : goal.returns-in-None-clause-makes
returns-in-None-clause-makes g c =
    let old = c.args.self.now in
    let met = c.take_mail.new.self in
    let new = c.choose.new.self in
    let t = c.args.trace.now in
    let F : Option ℕ → Type 0 = λ o. Chooses {B = g.row.B.Denot} met new c.take_mail.new.trace c.choose.new.trace met.running o in
    record {
      room = t;
      same = refl;
      mid = met;
      v = c.take_mail.new.trace;
      mail = c.take_mail.ensures.mail;
      turns = (subst F c.in-None.is c.choose.ensures.chooses, c.all_over.ensures.over.0 c.if-all_over.true);
      ran = search_ran {B = g.row.B.Denot} old met new t t c.take_mail.new.trace c.choose.new.trace refl refl (omega arith) c.take_mail.ensures.woken c.take_mail.ensures.ran c.choose.ensures.ran;
      traced = chosen_traced old.post.seat met.post.seat new.post.seat t.items t.items c.take_mail.new.trace.items c.choose.new.trace.items refl c.take_mail.ensures.traced c.choose.ensures.quiet (chosen_post {B = g.row.B.Denot} met new c.take_mail.new.trace c.choose.new.trace met.running c.choose.result c.choose.ensures.chooses);
      ports = post_then old.post met.post new.post c.take_mail.ensures.same c.choose.ensures.same;
      rest = c.all_over.ensures.rest;
    }

pub returns-in-None-2-clause-makes : goal.returns-in-None-2-clause-makes
returns-in-None-2-clause-makes g c =
    let old = c.args.self.now in
    let met = c.take_mail.new.self in
    let new = c.choose.new.self in
    let t = c.args.trace.now in
    let F : Option ℕ → Type 0 = λ o. Chooses {B = g.row.B.Denot} met new c.take_mail.new.trace c.choose.new.trace met.running o in
    record {
      room = t;
      same = refl;
      mid = met;
      v = c.take_mail.new.trace;
      mail = c.take_mail.ensures.mail;
      turns = (subst F c.in-None.is c.choose.ensures.chooses, λ over. false≢true (sym c.if-all_over.false ∙ c.all_over.ensures.over.1 over));
      ran = search_ran {B = g.row.B.Denot} old met new t t c.take_mail.new.trace c.choose.new.trace refl refl (omega arith) c.take_mail.ensures.woken c.take_mail.ensures.ran c.choose.ensures.ran;
      traced = chosen_traced old.post.seat met.post.seat new.post.seat t.items t.items c.take_mail.new.trace.items c.choose.new.trace.items refl c.take_mail.ensures.traced c.choose.ensures.quiet (chosen_post {B = g.row.B.Denot} met new c.take_mail.new.trace c.choose.new.trace met.running c.choose.result c.choose.ensures.chooses);
      ports = post_then old.post met.post new.post c.take_mail.ensures.same c.choose.ensures.same;
      rest = c.all_over.ensures.rest;
    }
