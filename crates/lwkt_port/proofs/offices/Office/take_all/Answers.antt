use Rattle.std.proofs.Common.{◌≡◌, ℕ, List, length, refl, rules, sym, subst, vec_len}
use Rattle.lwkt_port.specs.declared.lines.Lane.{Lane}
use Rattle.lwkt_port.specs.Chains.{Chain}
use Rattle.lwkt_port.specs.Lines.{IsRoomed}
use Rattle.lwkt_port.specs.Posts.{ChangesOne}
use Rattle.lwkt_port.specs.Intakes.{Intake, Payer, Pays, intake, payer, EmptiesFrom}
use Rattle.lwkt_port.specs.declared.mails.Mail.{Mail}
use Rattle.lwkt_port.specs.declared.queues.Port.{Port}
use Rattle.lwkt_port.specs.Hints.{OwesNone}
use Rattle.lwkt_port.specs.Works.{WorkState, work_state, work}
use Rattle.lwkt_port.proofs.Chaining.{chain_none}
use Rattle.lwkt_port.proofs.Intaking.{grew_so_in_all}
use Rattle.lwkt_port.proofs.offices.Office.take_all.Goals as goal

pub returns-clause-grew_so : goal.returns-clause-grew_so
returns-clause-grew_so c =
    let p = c.pay_owed in
    let e = c.empty_all-count in
    let s1 : WorkState = work_state p.new.self.counters p.new.trace in
    let s2 : WorkState = work_state e.new.self.counters e.new.trace in
    grew_so_in_all c.args.self.now.counters.room c.args.trace.now s1 s2 c.clear_all.new.self.room c.clear_all.new.trace p.ensures.grew_so e.ensures.keeps c.clear_all.ensures.grew_so

pub may_owe-self-requires : goal.may_owe-self-requires
may_owe-self-requires c = record {
  hint = λ owing cleared.
      let F : List Mail → Type 0 = OwesNone in subst F (sym (c.clear_all.ensures.none cleared)) (c.empty_all-count.new.self.hint owing);
}

pub returns-clause-takes : goal.returns-clause-takes
returns-clause-takes c =
    let o = c.args.self.now in
    let p = c.pay_owed in
    let e = c.empty_all-count in
    let roomed = c.make_room.new.lanes in
    let paid : Payer = payer p.new.self p.new.trace in
    let start : Intake = intake p.new.self p.new.trace 0 in
    let F : ℕ → Type 0 = λ n. Chain (List Lane) (λ i a b. ChangesOne IsRoomed i a b) n o.lanes.items roomed.items in
    let lines : vec_len o.lanes ≡ length o.lanes.items = search rules in
    let first : Payer = record { work = work o.counters.room c.args.trace.now; lanes = roomed.items } in
    let G : ℕ → Type 0 = λ n. Chain Payer Pays n first paid in
    let letters : vec_len o.counters.room.mails ≡ length o.counters.room.mails.items = search rules in
    let lanes : vec_len p.new.self.lanes ≡ length p.new.self.lanes.items = search rules in
    let emptied : Intake = intake e.new.self e.new.trace e.result in
    let H : ℕ → Type 0 = λ n. Chain Intake (EmptiesFrom c.args.limit) n start emptied in
    let I : List Port → Type 0 = λ ports. Chain Intake (EmptiesFrom c.args.limit) (length p.new.self.lanes.items) (record { work = work p.new.self.counters.room p.new.trace; lanes = p.new.self.lanes.items; ports = ports; count = 0 }) emptied in
    let same : p.new.self.counters.ports.items ≡ o.counters.ports.items = search rules in record {
      roomed = roomed.items;
      paid = paid;
      emptied = emptied;
      left = c.clear_all.ensures.clears.0;
      rooms = subst F lines c.make_room.ensures.rooms;
      owed = subst G letters p.ensures.pays;
      notes = subst I same (subst H lanes (e.ensures.notes start (chain_none Intake (EmptiesFrom c.args.limit) start)));
      closed = c.clear_all.ensures.clears.1;
      lanes_are = refl;
      count_is = refl;
    }
