use Rattle.std.proofs.Common.{◌≡◌, ◌∙◌, ℕ, subst, arith}
use Rattle.lwkt_verdict.proofs.FollowMoves.{Allowed, rest_more, rest_allowed, all_allowed, one_loud}
use Rattle.lwkt_verdict.proofs.follow.all_rest.Goals as goal

pub loop-n-preserved : goal.loop-n-preserved
loop-n-preserved c =
    let l = c.loop-n in
    let more = rest_more c.args.cpu l.n c.args.table.now l.table c.index-table-cpu.result c.rest.new.self c.requires.processor c.loop-n-test.true (l.auto.table ∙ c.requires.room) c.index-table-cpu.is (c.rest.ensures.kept c.if-not-rest.false) (c.rest.ensures.rests c.if-not-rest.false) l.invariant.kept l.invariant.rested l.invariant.left in
    let allowed = rest_allowed c.args.cpu l.n c.args.table.now l.table c.index-table-cpu.result c.rest.new.self c.requires.processor c.loop-n-test.true (l.auto.table ∙ c.requires.room) c.index-table-cpu.is (c.rest.ensures.allows c.if-not-rest.false) l.invariant.allowed l.invariant.left in
    record { kept = more.0; rested = more.1.0; left = more.1.1; allowed = allowed }

pub returns-clause-allows : goal.returns-clause-allows
returns-clause-allows c = λ yes.
    let l = c.loop-n in
    let whole : l.n ≡ 16 = omega (arith, c.loop-n-test.false, l.auto.n-end) in
    let A : ℕ → Type 0 = λ n. Allowed c.args.cpu n c.args.table.now l.table in
    all_allowed c.args.cpu c.args.table.now l.table (subst A whole l.invariant.allowed)

pub returns-then-not-rest-clause-declines : goal.returns-then-not-rest-clause-declines
returns-then-not-rest-clause-declines c = λ no.
    let l = c.loop-n in
    one_loud c.args.cpu l.n c.args.table.now l.table c.index-table-cpu.result c.requires.processor c.loop-n-test.true (l.auto.table ∙ c.requires.room) c.index-table-cpu.is (c.rest.ensures.declines c.if-not-rest.true) l.invariant.left
