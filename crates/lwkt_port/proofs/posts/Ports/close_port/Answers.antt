use Rattle.std.proofs.Common.{◌≡◌, ◌<◌, true, true≢false, length, refl, rules, sym, subst, ℕ, vec_len}
use Rattle.std.specs.Prelude.{All, slice_index_or, slice_set}
use Rattle.lwkt_port.specs.declared.queues.Port.{Port}
use Rattle.lwkt_port.specs.Closings.{OwesGone}
use Rattle.lwkt_port.specs.Queues.{HasNamed}
use Rattle.lwkt_port.proofs.Departing.{gone_are, closed_named}
use Rattle.lwkt_port.proofs.posts.Ports.close_port.Goals as goal

pub invariant_of-room : goal.invariant_of-room
invariant_of-room c =
    let r = c.self.inside.office.counters.room in
    let F : ℕ → Type 0 = λ k. OwesGone c.args.thread k r.mails.items c.owe_all.new.mails.items in
    let long : vec_len r.mails ≡ length r.mails.items = search rules in record { kept = gone_are r.seat c.args.thread r.mails.items c.owe_all.new.mails.items (subst F long c.owe_all.ensures) r.kept }

pub invariant_of-counters : goal.invariant_of-counters
invariant_of-counters c =
    let i = c.self.inside.office.counters in
    let old : Port = c.index_mut.result.now in
    let there : c.from.result < length i.ports.items = search rules in
    let was : old ≡ slice_index_or i.ports.items c.from.result old = search rules in
    let new : Port = record old { closed = true } in
    let many : vec_len c.owe_all.new.mails ≡ vec_len i.room.mails = search rules in
    let F : ℕ → Type 0 = λ n. All (HasNamed n) (slice_set i.ports.items c.from.result new) in record {
      as_many = i.as_many;
      named = subst F (sym many) (closed_named (vec_len i.room.mails) i.ports.items c.from.result old new there was refl i.named);
      hint = λ e. absurd (true≢false e);
    }
