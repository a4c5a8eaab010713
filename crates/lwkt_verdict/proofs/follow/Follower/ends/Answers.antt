use Rattle.std.proofs.Common.{ℕ, List, sym, subst}
use Rattle.std.proofs.lemmas.Bool.{iff_false}
use Rattle.lwkt_verdict.specs.Threads.{line_of}
use Rattle.lwkt_verdict.specs.Run.{AreListed}
use Rattle.lwkt_verdict.specs.Follow.{Known}
use Rattle.lwkt_verdict.specs.Followed.{IsEnded, MayEnd, AllThreads}
use Rattle.lwkt_verdict.proofs.FollowMoves.{ends_here, declines_end}
use Rattle.lwkt_verdict.proofs.follow.Follower.ends.Goals as goal
use Rattle.lwkt_verdict.proofs.follow.Follower.ends.Goals.{then-not-are_listed-via-then-not-are_listed, then-not-are_listed-via-else-not-are_listed+then-not-all_end}

pub returns-then-goes_quietly-clause-ends : goal.returns-then-goes_quietly-clause-ends
returns-then-goes_quietly-clause-ends c =
    let f = c.self.inside in
    let lines = c.args.lines.now in
    let Listed : ℕ → Type 0 = λ cpus. AreListed cpus 0 lines in
    let Ended : List Known → Type 0 = λ table. AllThreads (λ k t. IsEnded t (line_of k lines)) table in
    let listed = subst Listed c.cpus.ensures.value (c.are_listed.ensures.0 c.if-not-are_listed.false) in
    let ended = subst Ended c.as_slice.ensures.value (c.all_end.ensures.ends c.if-not-all_end.false) in
    rw (← c.self.view_is) (ends_here f.plans.now f.table.items f.state lines c.args.stop.now c.self.invariant listed ended (c.goes_quietly.ensures.right.0 c.if-goes_quietly.true))

pub returns-then-not-are_listed-clause-declines : goal.returns-then-not-are_listed-clause-declines
returns-then-not-are_listed-clause-declines c = λ none.
    let f = c.self.inside in
    let lines = c.args.lines.now in
    let Listed : ℕ → Type 0 = λ cpus. AreListed cpus 0 lines in
    let Unfit : List Known → Type 0 = λ table. ¬ AllThreads (λ k t. MayEnd t (line_of k lines)) table in
    rw (← c.self.view_is) (elim c.then-not-are_listed.branch [
      | then-not-are_listed-via-then-not-are_listed w ↦ λ before allow shown listed ends. iff_false c.are_listed.ensures w.if-not-are_listed.true (subst Listed (sym c.cpus.ensures.value) listed)
      | then-not-are_listed-via-else-not-are_listed+then-not-all_end w ↦ declines_end f.plans.now f.table.items f.state lines c.args.stop.now c.self.invariant (subst Unfit w.as_slice.ensures.value (w.all_end.ensures.declines w.if-not-all_end.true))
    ])
