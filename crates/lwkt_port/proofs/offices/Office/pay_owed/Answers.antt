use Rattle.std.proofs.Common.{◌≡◌, ◌+◌, ◌∙◌, ℕ, Option, Some, None, refl, sym, subst, rules, arith, vec_len}
use Rattle.lwkt_port.specs.Intakes.{Payer, payer, PaysOwed, Pays}
use Rattle.lwkt_port.specs.Mails.{kept_mail_at}
use Rattle.lwkt_port.proofs.Chaining.{chain_none, chain_more}
use Rattle.lwkt_port.proofs.Growing.{grew_so_none, grew_so_then, grew_so_within}
use Rattle.lwkt_port.proofs.Hinting.{pays_none}
use Rattle.lwkt_port.proofs.offices.Office.pay_owed.Goals as goal

pub returns-then-not-self : goal.returns-then-not-self
returns-then-not-self c =
    let o = c.args.self.now in
    let r = o.counters.room in
    let t = c.args.trace.now in
    record {
      pays = pays_none (vec_len r.mails) (payer o t) (o.hint c.if-not-self.true);
      grew_so = grew_so_within 0 64 r r t t (omega arith) (grew_so_none r t);
      ports_same = refl;
    }

pub loop-m-init : goal.loop-m-init
loop-m-init c = record {
  pays = chain_none Payer Pays (payer c.args.self.now c.args.trace.now);
  grew_so = grew_so_none c.args.self.now.counters.room c.args.trace.now;
  ports_same = refl;
}

pub loop-m-preserved-in_default : goal.loop-m-preserved-in_default
loop-m-preserved-in_default c =
    let o = c.args.self.now in
    let l = c.loop-m in
    let x : Payer = payer l.self l.trace in
    let none : (kept_mail_at l.self.counters.room.mails.items l.m).owed ≡ None = search rules in
    let F : Option ℕ → Type 0 = λ owed. PaysOwed owed l.m x x in
    let same : PaysOwed None l.m x x = refl in
    record {
      pays = chain_more Payer Pays l.m (payer o c.args.trace.now) x x l.invariant.pays (subst F (sym none) same);
      grew_so = grew_so_within l.m (l.m + 1) o.counters.room l.self.counters.room c.args.trace.now l.trace (omega arith) l.invariant.grew_so;
      ports_same = l.invariant.ports_same;
    }

pub loop-m-preserved : goal.loop-m-preserved
loop-m-preserved c =
    let o = c.args.self.now in
    let l = c.loop-m in
    let e = c.answer.ensures in
    let n = c.answer.new in
    let x : Payer = payer l.self l.trace in
    let y : Payer = payer n.self n.trace in
    let owed : (kept_mail_at l.self.counters.room.mails.items l.m).owed ≡ Some c.in-Some.error = search rules in
    let F : Option ℕ → Type 0 = λ owed. PaysOwed owed l.m x y in
    let made : PaysOwed (Some c.in-Some.error) l.m x y = (c.answer.result, e.means) in
    record {
      pays = chain_more Payer Pays l.m (payer o c.args.trace.now) x y l.invariant.pays (subst F (sym owed) made);
      grew_so = grew_so_then l.m 1 o.counters.room l.self.counters.room n.self.counters.room c.args.trace.now l.trace n.trace l.invariant.grew_so e.beside.grew_so;
      ports_same = e.beside.ports_same ∙ l.invariant.ports_same;
    }
