use Rattle.std.proofs.Common.{arith, inl, inr, ap, length, length-append, length-take}
use Rattle.lwkt_report.proofs.StreamLemmas.{Consumes-gained, take-limit}
use Rattle.lwkt_report.proofs.sources.read_up_to.Goals as goal
use Rattle.lwkt_report.proofs.sources.read_up_to.Goals.{else-loop-turn-test, then-loop-turn-test+in_ok-count+then-count-eq0, then-count-eq0-via-then-count-eq0, then-count-eq0-via-else-count-eq0+then-len-most}

pub returns-clause-bytes : goal.returns-clause-bytes
returns-clause-bytes g c =
    elim c.loop-turn-test.branch [
      | else-loop-turn-test w ↦ absurd (omega arith)
      | then-loop-turn-test+in_ok-count+then-count-eq0 w ↦
          rw w.bytes-is (take-limit _ (g.S.Source.left w.pull_into.new.source) w.pull_into.new.bytes.items c.args.most
          (Consumes-gained _ (g.S.Source.left c.loop-turn.source) _ c.loop-turn.bytes.items _ w.in_ok-count.count c.loop-turn.invariant.taken w.in_ok-count.ensures.bytes)
          (omega (arith, ap length w.in_ok-count.ensures.bytes.1, length-append c.loop-turn.bytes.items w.in_ok-count.ensures.bytes.0, w.in_ok-count.ensures.bytes.2, c.loop-turn.bytes.ok.0, w.in_ok-count.ensures.within, length-take w.min-size.result c.loop-turn.room))
          (elim w.then-count-eq0.branch [ then-count-eq0-via-then-count-eq0 v ↦ inl (w.in_ok-count.ensures.end v.if-count-eq0.true (omega (arith, length-take w.min-size.result c.loop-turn.room))) | then-count-eq0-via-else-count-eq0+then-len-most v ↦ inr (omega (arith, w.pull_into.new.bytes.ok.0)) ]))
    ]

pub returns-clause-rest : goal.returns-clause-rest
returns-clause-rest g c =
    elim c.loop-turn-test.branch [
      | else-loop-turn-test w ↦ absurd (omega arith)
      | then-loop-turn-test+in_ok-count+then-count-eq0 w ↦
          rw (w.source-is, w.bytes-is) (Consumes-gained _ (g.S.Source.left c.loop-turn.source) _ c.loop-turn.bytes.items _ w.in_ok-count.count c.loop-turn.invariant.taken w.in_ok-count.ensures.bytes)
    ]
