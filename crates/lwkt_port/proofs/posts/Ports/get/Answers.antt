use Rattle.std.proofs.Common.{◌≡◌, ◌<◌, length, ap, subst, rules}
use Rattle.std.specs.Prelude.{slice_index_or, vec_len}
use Rattle.lwkt_msg.specs.Desks.{Desk}
use Rattle.lwkt_port.specs.declared.queues.Port.{Port}
use Rattle.lwkt_port.specs.Posts.{Post}
use Rattle.lwkt_port.specs.Queues.{queue_of}
use Rattle.lwkt_port.specs.Traced.{TracesDeeds}
use Rattle.lwkt_port.specs.Works.{work}
use Rattle.lwkt_port.proofs.ClosedPorts.{ports_named}
use Rattle.lwkt_port.proofs.Dispatching.{port_named}
use Rattle.lwkt_port.proofs.Serving.{named_tail}
use Rattle.lwkt_port.proofs.Hinting.{clear_put, got_clear}
use Rattle.lwkt_port.proofs.Tracing.{get_traced}
use Rattle.lwkt_port.proofs.posts.Ports.get.Goals as goal

pub returns-clause-traced : goal.returns-clause-traced
returns-clause-traced c =
    let r = c.self.inside.office.counters.room in
    let n = c.serve in
    let F : Desk → Type 0 = λ d. TracesDeeds d n.new.self.seat c.args.trace.now.items n.new.trace.items in
    subst F (ap (λ (p : Post). p.seat) c.self.view_is) (get_traced c.args.thread (queue_of c.index_mut.result.now) (queue_of n.new.port) (work r c.args.trace.now) (work n.new.self n.new.trace) n.result n.ensures.serves.0)

pub invariant_of-counters : goal.invariant_of-counters
invariant_of-counters c =
    let i = c.self.inside.office.counters in
    let n = c.serve in
    let old : Port = c.index_mut.result.now in
    let there : c.from.result < length i.ports.items = search rules in
    let was : old ≡ slice_index_or i.ports.items c.from.result old = search rules in record {
      as_many = i.as_many;
      named = ports_named (vec_len i.room.mails) (vec_len n.new.self.mails) i.ports.items c.from.result n.new.port n.ensures.grew_so.len i.named (named_tail (vec_len i.room.mails) (vec_len n.new.self.mails) old n.new.port n.ensures.serves.2 n.ensures.grew_so.len (port_named (vec_len i.room.mails) i.ports.items c.from.result old there was i.named));
      hint = λ unset. clear_put i.ports.items c.from.result old n.new.port there was (got_clear c.args.thread old n.new.port (work i.room c.args.trace.now) (work n.new.self n.new.trace) n.result n.ensures.serves.0 n.ensures.serves.1) (i.hint unset);
    }
