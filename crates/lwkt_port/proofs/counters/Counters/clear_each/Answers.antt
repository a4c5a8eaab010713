use Rattle.std.proofs.Common.{◌≡◌, ◌+◌, ◌-◌, ◌<◌, ◌∙◌, ℕ, length, refl, sym, true≢false, rules, arith, slice_set, vec_len}
use Rattle.lwkt_port.specs.declared.queues.Port.{Port}
use Rattle.lwkt_port.specs.Intakes.{Clearing, clearing, ClearsPort, ClearsAt}
use Rattle.lwkt_port.specs.Queues.{HasNamed}
use Rattle.lwkt_port.specs.Works.{work}
use Rattle.lwkt_port.proofs.Chaining.{chain_none, chain_more}
use Rattle.lwkt_port.proofs.ClosedPorts.{clears_named, ports_named}
use Rattle.lwkt_port.proofs.Dispatching.{changed, port_named}
use Rattle.lwkt_port.proofs.Growing.{grew_so_none, grew_so_then, grew_so_within}
use Rattle.lwkt_port.proofs.counters.Counters.clear_each.Goals as goal

pub loop-at-init : goal.loop-at-init
loop-at-init c = record {
  clears = chain_none Clearing ClearsAt (clearing c.args.self.now c.args.trace.now 16);
  within = omega arith;
  grew_so = grew_so_none c.args.self.now.room c.args.trace.now;
  uncleared = c.requires.uncleared;
}

pub loop-at-preserved : goal.loop-at-preserved
loop-at-preserved c =
    let l = c.loop-at in
    let e = c.clear-left.ensures in
    let n = c.clear-left.new in
    let there : l.at < length l.self.ports.items = search rules in
    let left : ℕ = l.left - c.clear-left.result in
    let x : Clearing = clearing l.self l.trace l.left in
    let y : Clearing = record { work = work n.self n.trace; ports = slice_set l.self.ports.items l.at n.port; left = left } in
    let R : Port → Port → Type 0 = λ a b. ClearsPort l.left c.clear-left.result a b x.work y.work in
    let both : left + c.clear-left.result ≡ l.left = omega (arith, e.within) in record {
      clears = chain_more Clearing ClearsAt l.at (clearing c.args.self.now c.args.trace.now 16) x y l.invariant.clears (c.clear-left.result, changed Port R l.at l.at l.self.ports.items c.index_mut.result.now n.port there c.index_mut.ensures.value refl e.clears, both);
      within = omega (arith, l.invariant.within);
      grew_so = grew_so_within (16 - l.left + l.at + (c.clear-left.result + 1)) (16 - left + (l.at + 1)) c.args.self.now.room n.self c.args.trace.now n.trace (omega (arith, l.invariant.within, e.within)) (grew_so_then (16 - l.left + l.at) (c.clear-left.result + 1) c.args.self.now.room l.self.room n.self c.args.trace.now l.trace n.trace l.invariant.grew_so e.grew_so);
      uncleared = l.invariant.uncleared;
    }

pub invariant_of-self : goal.invariant_of-self
invariant_of-self c =
    let l = c.loop-at in
    let e = c.clear-left.ensures in
    let n = c.clear-left.new in
    let old : Port = c.index_mut.result.now in
    let there : l.at < length l.self.ports.items = search rules in
    let before : HasNamed (vec_len l.self.room.mails) old = port_named (vec_len l.self.room.mails) l.self.ports.items l.at old there c.index_mut.ensures.value l.self.named in record {
      as_many = l.self.as_many;
      named = ports_named (vec_len l.self.room.mails) (vec_len n.self.mails) l.self.ports.items l.at n.port e.grew_so.len l.self.named (clears_named old.closed l.left c.clear-left.result (vec_len l.self.room.mails) (vec_len n.self.mails) old n.port (work l.self.room l.trace) (work n.self n.trace) e.clears e.grew_so.len before);
      hint = λ unset. absurd (true≢false (sym l.invariant.uncleared ∙ unset));
    }
