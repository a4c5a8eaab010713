use Rattle.std.proofs.Common.{◌≡◌, ℕ, ◌<◌, ◌∙◌, List, length, sym, subst, refl, rules, arith, vec_len}
use Rattle.lwkt_port.specs.declared.mails.Mail.{Mail}
use Rattle.lwkt_port.specs.declared.lines.Lane.{Lane}
use Rattle.lwkt_port.specs.Chains.{Chain}
use Rattle.lwkt_port.specs.Hints.{OwesNone}
use Rattle.lwkt_port.specs.Intakes.{Intake, intake, desks, untaken, EmptiesFrom}
use Rattle.lwkt_port.specs.Works.{Work, work, MailroomGrew, WorkState, work_state, KeepsWorkState}
use Rattle.lwkt_port.proofs.Dispatching.{line_named}
use Rattle.lwkt_port.proofs.Emptying.{keeps_then, line_named_after}
use Rattle.lwkt_port.proofs.Growing.{grew_so_none, grew_so_within}
use Rattle.lwkt_port.proofs.HandMoves.{hands_put, emptied_none}
use Rattle.lwkt_port.proofs.Hinting.{emptied_owes, line_owes}
use Rattle.lwkt_port.proofs.Intaking.{grew_so_in_all}
use Rattle.lwkt_port.proofs.Passing.{front_emptied, calm_takes}
use Rattle.lwkt_port.proofs.offices.Office.take_rest.Goals as goal

pub invariant_of-self : goal.invariant_of-self
invariant_of-self c =
    let o = c.args.self.now in
    let e = c.empty-taken.ensures in
    let n = c.empty-taken.new in
    let there : c.args.first < length o.lanes.items = search rules in
    let mails : vec_len n.self.room.mails ≡ length n.self.room.mails.items = search rules in record {
      as_many = o.as_many ∙ sym e.keeps.same.cpus;
      keep = line_named (vec_len o.counters.room.mails) (vec_len n.self.room.mails) o.lanes.items c.args.first n.line e.keeps.len o.keep (line_named_after c.args.limit c.empty-taken.result (vec_len n.self.room.mails) c.index_mut.result.now n.line (desks o.counters c.args.trace.now) (desks n.self n.trace) mails e.empties);
      hint = λ unset. line_owes c.args.limit c.empty-taken.result c.index_mut.result.now n.line (desks o.counters c.args.trace.now) (desks n.self n.trace) e.empties (o.hint unset);
      hands = λ unset. hands_put o.lanes.items c.args.first c.index_mut.result.now n.line there c.index_mut.ensures.value (emptied_none c.args.limit c.empty-taken.result c.index_mut.result.now n.line (desks o.counters c.args.trace.now) (desks n.self n.trace) e.empties) (o.hands unset);
    }

pub returns-clause-takes : goal.returns-clause-takes
returns-clause-takes c = λ before front hands.
    let o = c.args.self.now in
    let f = c.empty-taken in
    let e = c.empty_all-count in
    let n = c.clear_all.new in
    let w : Work = work o.counters.room c.args.trace.now in
    let v : Work = work f.new.self.room f.new.trace in
    let x : Intake = untaken w o.counters.ports.items before in
    let y : Intake = intake e.new.self e.new.trace e.result in
    let F : ℕ → Type 0 = λ k. Chain Intake (EmptiesFrom c.args.limit) k x y in
    let now : vec_len o.lanes ≡ length o.lanes.items = search rules in
    let many : vec_len o.lanes ≡ length before = now ∙ front.as_many in
    let notes : F (vec_len o.lanes) = e.ensures.notes x (front_emptied c.args.limit f.result c.args.first w v o.counters.ports.items f.new.self.ports.items before o.lanes.items c.index_mut.result.now f.new.line front c.index_mut.ensures.value f.ensures.empties) in
    calm_takes c.args.limit c.clear_all.ensures.clears.0 w o.counters.ports.items before y (record { work = work n.self.room n.trace; lanes = e.new.self.lanes.items; ports = n.self.ports.items }) c.requires.owing hands (subst F many notes) c.clear_all.ensures.clears.1 refl

pub returns-clause-grew_so : goal.returns-clause-grew_so
returns-clause-grew_so c =
    let f = c.empty-taken in
    let e = c.empty_all-count in
    let r = c.args.self.now.counters.room in
    let t = c.args.trace.now in
    let s1 : WorkState = work_state c.args.self.now.counters t in
    let s2 : WorkState = work_state f.new.self f.new.trace in
    let s3 : WorkState = work_state e.new.self.counters e.new.trace in
    let keeps : KeepsWorkState s1 s3 = keeps_then s1 s2 s3 f.ensures.keeps e.ensures.keeps in
    let still : MailroomGrew 64 r t r t = grew_so_within 0 64 r r t t (omega arith) (grew_so_none r t) in
    grew_so_in_all r t s1 s3 c.clear_all.new.self.room c.clear_all.new.trace still keeps c.clear_all.ensures.grew_so

pub may_owe-self-requires : goal.may_owe-self-requires
may_owe-self-requires c = record {
  hint = λ owing cleared.
      let F : List Mail → Type 0 = OwesNone in
      let o = c.args.self.now in
      let f = c.empty-taken in
      let e = c.empty_all-count in
      let before : List Lane = c.requires.front.0 in
      let w : Work = work o.counters.room c.args.trace.now in
      let v : Work = work f.new.self.room f.new.trace in
      let x : Intake = untaken w o.counters.ports.items before in
      let y : Intake = intake e.new.self e.new.trace e.result in
      let notes = e.ensures.notes x (front_emptied c.args.limit f.result c.args.first w v o.counters.ports.items f.new.self.ports.items before o.lanes.items c.index_mut.result.now f.new.line c.requires.front.1 c.index_mut.ensures.value f.ensures.empties) in
      subst F (sym (c.clear_all.ensures.none cleared)) (emptied_owes c.args.limit (vec_len o.lanes) x y notes c.requires.owing);
}
