use Rattle.std.proofs.Common.{◌≡◌, ◌+◌, ◌-◌, ◌<◌, ◌∙◌, length, refl, sym, vec_len, rules, arith, slice_set}
use Rattle.lwkt_port.specs.declared.lines.Lane.{Lane}
use Rattle.lwkt_port.specs.Intakes.{Intake, intake, desks, desks_of, Empties, EmptiesFrom}
use Rattle.lwkt_port.specs.Works.{work, WorkState, work_state}
use Rattle.lwkt_port.proofs.Chaining.{chain_more}
use Rattle.lwkt_port.proofs.Dispatching.{changed, line_named}
use Rattle.lwkt_port.proofs.Emptying.{keeps_none, keeps_then, line_named_after}
use Rattle.lwkt_port.proofs.HandMoves.{hands_put, emptied_none}
use Rattle.lwkt_port.proofs.Hinting.{line_owes}
use Rattle.lwkt_port.proofs.offices.Office.empty_all.Goals as goal

pub loop-sender-init : goal.loop-sender-init
loop-sender-init c = record {
  notes = λ z chain. chain;
  within = c.requires.taken;
  keeps = keeps_none (work_state c.args.self.now.counters c.args.trace.now);
  len = refl;
}

pub loop-sender-preserved : goal.loop-sender-preserved
loop-sender-preserved c =
    let l = c.loop-sender in
    let e = c.empty-count.ensures in
    let n = c.empty-count.new in
    let there : l.sender < length l.self.lanes.items = search rules in
    let x : Intake = intake l.self l.trace l.count in
    let y : Intake = record { work = work n.self.room n.trace; lanes = slice_set l.self.lanes.items l.sender n.line; ports = n.self.ports.items; count = l.count + c.empty-count.result } in
    let R : Lane → Lane → Type 0 = λ a b. Empties (c.args.limit - l.count) c.empty-count.result a b (desks_of x) (desks_of y) in
    let s : WorkState = work_state c.args.self.now.counters c.args.trace.now in
    let s1 : WorkState = work_state l.self.counters l.trace in
    let s2 : WorkState = work_state n.self n.trace in record {
      notes = λ z chain. chain_more Intake (EmptiesFrom c.args.limit) l.sender z x y (l.invariant.notes z chain) (c.empty-count.result, changed Lane R l.sender l.sender l.self.lanes.items c.index_mut.result.now n.line there c.index_mut.ensures.value refl e.empties, refl);
      within = omega (arith, e.within, l.invariant.within);
      keeps = keeps_then s s1 s2 l.invariant.keeps e.keeps;
      len = l.invariant.len;
    }

pub invariant_of-self-in-loop-sender : goal.invariant_of-self-in-loop-sender
invariant_of-self-in-loop-sender c =
    let l = c.loop-sender in
    let e = c.empty-count.ensures in
    let n = c.empty-count.new in
    let there : l.sender < length l.self.lanes.items = search rules in
    let mails : vec_len n.self.room.mails ≡ length n.self.room.mails.items = search rules in record {
      as_many = l.self.as_many ∙ sym e.keeps.same.cpus;
      keep = line_named (vec_len l.self.counters.room.mails) (vec_len n.self.room.mails) l.self.lanes.items l.sender n.line e.keeps.len l.self.keep (line_named_after (c.args.limit - l.count) c.empty-count.result (vec_len n.self.room.mails) c.index_mut.result.now n.line (desks l.self.counters l.trace) (desks n.self n.trace) mails e.empties);
      hint = λ unset. line_owes (c.args.limit - l.count) c.empty-count.result c.index_mut.result.now n.line (desks l.self.counters l.trace) (desks n.self n.trace) e.empties (l.self.hint unset);
      hands = λ unset. hands_put l.self.lanes.items l.sender c.index_mut.result.now n.line there c.index_mut.ensures.value (emptied_none (c.args.limit - l.count) c.empty-count.result c.index_mut.result.now n.line (desks l.self.counters l.trace) (desks n.self n.trace) e.empties) (l.self.hands unset);
    }
