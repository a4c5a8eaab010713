use Rattle.std.proofs.Common.{◌≡◌, ◌∙◌, ◌<◌, ℕ, true, false, true≢false, sym, length, refl, rules, vec_len}
use Rattle.lwkt_port.specs.Queues.{HasNamed}
use Rattle.lwkt_port.proofs.Classing.{queued_named}
use Rattle.lwkt_port.proofs.ClosedPorts.{ports_named}
use Rattle.lwkt_port.proofs.Dispatching.{port_named}
use Rattle.lwkt_port.proofs.Hinting.{clear_put}
use Rattle.lwkt_port.proofs.counters.Counters.handle.Goals as goal
use Rattle.lwkt_port.proofs.counters.Counters.handle.Goals.{then-self, else-self}

pub invariant_of-self-2-clause-named : goal.invariant_of-self-2-clause-named
invariant_of-self-2-clause-named c =
    let o = c.args.self.now in
    let n : ℕ = vec_len o.room.mails in
    let at : ℕ = c.from.result in
    let there : at < length o.ports.items = search rules in
    let names : c.args.note.msg.0 < n = search rules in
    let before : HasNamed n c.index_mut.result.now = port_named n o.ports.items at c.index_mut.result.now there c.index_mut.ensures.value o.named in
    ports_named n n o.ports.items at c.enqueue.new.port refl o.named (queued_named n c.args.note c.index_mut.result.now c.enqueue.new.port c.enqueue.result c.enqueue.ensures names before)

pub invariant_of-self-2-clause-hint : goal.invariant_of-self-2-clause-hint
invariant_of-self-2-clause-hint c = λ unset.
    let o = c.args.self.now in
    let there : c.from.result < length o.ports.items = search rules in
    (elim c.if-self.branch [
      | then-self w ↦ absurd (true≢false (let set : true ≡ false = search rules in set))
      | else-self w ↦
          let clear : o.uncleared ≡ false = search rules in
          let unclosed : c.enqueue.new.port.closed ≡ false = search rules in
          clear_put o.ports.items c.from.result c.index_mut.result.now c.enqueue.new.port there c.index_mut.ensures.value (λ _ closed. absurd (true≢false (sym closed ∙ unclosed))) (o.hint clear)
    ])
