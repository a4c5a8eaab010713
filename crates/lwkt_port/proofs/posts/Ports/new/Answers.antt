use Rattle.std.proofs.Common.{◌≡◌, ◌∙◌, ℕ, List, length, subst, sym, true≢false, rules, vec_len}
use Rattle.std.specs.Prelude.{All}
use Rattle.lwkt_port.specs.declared.mails.Mail.{Mail}
use Rattle.lwkt_port.specs.Hints.{OwesNone}
use Rattle.lwkt_port.specs.OpenedPorts.{KeepLimits}
use Rattle.lwkt_port.specs.Posts.{Post, IsPost, KeepsNamed}
use Rattle.lwkt_port.specs.Queues.{HasNamed}
use Rattle.lwkt_port.proofs.Begun.{opened}
use Rattle.lwkt_port.proofs.Hinting.{owes_first, clear_first}
use Rattle.lwkt_port.proofs.posts.Ports.new.Goals as goal

pub invariant_of-room : goal.invariant_of-room
invariant_of-room c =
    let p : Post = record { seat = c.args.seat; lanes = c.in_ok-lanes.lanes.items; ports = c.in_ok-ports.ports.items; mails = c.in_ok-mails.mails.items; threads = c.args.threads } in
    let within : KeepLimits c.args.seat c.args.outs.items c.args.ins.items c.args.origins.now c.args.threads = search rules in
    let post : IsPost p = opened c.cpu-own.result p c.args.outs.items c.args.ins.items c.args.origins.now c.cpu-own.ensures.seat c.requires.fresh c.requires.origins within c.in_ok-lanes.ensures c.in_ok-ports.ensures c.in_ok-mails.ensures in record { kept = post.mails_are }

pub invariant_of-counters : goal.invariant_of-counters
invariant_of-counters c =
    let p : Post = record { seat = c.args.seat; lanes = c.in_ok-lanes.lanes.items; ports = c.in_ok-ports.ports.items; mails = c.in_ok-mails.mails.items; threads = c.args.threads } in
    let within : KeepLimits c.args.seat c.args.outs.items c.args.ins.items c.args.origins.now c.args.threads = search rules in
    let post : IsPost p = opened c.cpu-own.result p c.args.outs.items c.args.ins.items c.args.origins.now c.cpu-own.ensures.seat c.requires.fresh c.requires.origins within c.in_ok-lanes.ensures c.in_ok-ports.ensures c.in_ok-mails.ensures in
    let ports : vec_len c.in_ok-ports.ports ≡ length c.in_ok-ports.ports.items = search rules in
    let mails : vec_len c.in_ok-mails.mails ≡ length c.in_ok-mails.mails.items = search rules in
    let F : ℕ → Type 0 = λ n. All (HasNamed n) c.in_ok-ports.ports.items in record {
      as_many = ports ∙ post.ports_are;
      named = subst F (sym mails) post.queued;
      hint = λ unset. clear_first c.args.threads c.in_ok-ports.ports.items c.in_ok-ports.ensures.new;
    }

pub invariant_of-office : goal.invariant_of-office
invariant_of-office c =
    let p : Post = record { seat = c.args.seat; lanes = c.in_ok-lanes.lanes.items; ports = c.in_ok-ports.ports.items; mails = c.in_ok-mails.mails.items; threads = c.args.threads } in
    let within : KeepLimits c.args.seat c.args.outs.items c.args.ins.items c.args.origins.now c.args.threads = search rules in
    let post : IsPost p = opened c.cpu-own.result p c.args.outs.items c.args.ins.items c.args.origins.now c.cpu-own.ensures.seat c.requires.fresh c.requires.origins within c.in_ok-lanes.ensures c.in_ok-ports.ensures c.in_ok-mails.ensures in
    let lanes : vec_len c.in_ok-lanes.lanes ≡ length c.in_ok-lanes.lanes.items = search rules in
    let mails : vec_len c.in_ok-mails.mails ≡ length c.in_ok-mails.mails.items = search rules in
    let F : ℕ → Type 0 = λ n. All (KeepsNamed n) c.in_ok-lanes.lanes.items in
    let G : List Mail → Type 0 = OwesNone in record {
      as_many = lanes ∙ post.lanes_are;
      keep = subst F (sym mails) post.kept;
      hint = λ unset. subst G (sym c.in_ok-mails.ensures) (owes_first c.cpu-own.result c.args.origins.now);
      hands = λ unset. absurd (true≢false unset);
    }
