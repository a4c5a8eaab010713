use Rattle.std.proofs.Common.{rules, ◌≡◌, ◌++◌, codes, ap, ◌∙◌, string_bytes}
use Rattle.std.specs.Fmt.{decimal}
use Rattle.lwkt_report.specs.Report.{line_feed}
use Rattle.lwkt_explore.specs.Texts.{order_bytes, lost_line}
use Rattle.lwkt_explore.proofs.TextLemmas.{one_lost, more_lost, written}
use Rattle.lwkt_explore.proofs.lines.add_lost.Goals as goal
use Rattle.lwkt_explore.proofs.lines.add_lost.Goals.{then-count-eq1+in_ok-push_str, else-count-eq1+in_ok-put}

pub returns : goal.returns
returns c =
    let lost = c.args.lost.now in
    let front : string_bytes c.if-count-eq1.out ++ order_bytes lost.order.items ++ line_feed ≡ string_bytes c.args.out.now ++ lost_line lost =
    elim c.if-count-eq1.branch [
      | then-count-eq1+in_ok-push_str w ↦
          rw (one_lost lost w.if-count-eq1.true)
          (written (string_bytes c.args.out.now) (string_bytes c.if-count-eq1.out) (codes "lost: 1 state, from which no end can be reached; after order") (order_bytes lost.order.items) line_feed
          (ap string_bytes w.out-is ∙ w.in_ok-push_str.ensures))
      | else-count-eq1+in_ok-put w ↦
          rw (more_lost lost w.if-count-eq1.false)
          (written (string_bytes c.args.out.now) (string_bytes c.if-count-eq1.out) (codes "lost: " ++ decimal lost.count ++ codes " states, from which no end can be reached; the first after order") (order_bytes lost.order.items) line_feed
          (ap string_bytes w.out-is ∙ w.in_ok-put.ensures))
    ] in
    rw (← front) (search rules)
