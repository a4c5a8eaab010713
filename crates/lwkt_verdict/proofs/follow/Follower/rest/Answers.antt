use Rattle.std.proofs.Common.{◌≡◌, ◌∙◌, ◌++◌, sym, subst, List, length, take, drop}
use Rattle.lwkt_verdict.specs.Follow.{Known, Follow, AreThreads, GoesOnUnasked}
use Rattle.std.proofs.lemmas.Bool.{iff_false}
use Rattle.lwkt_verdict.specs.Followed.{KeepsPlans, AreKept, MayAllRest, AllowAllRest, OneMayNotRest}
use Rattle.lwkt_verdict.proofs.FollowMoves.{goes_unasked, declines_rest, threads_kept, filled}
use Rattle.lwkt_verdict.proofs.follow.Follower.rest.Goals as goal

pub invariant_of-self-2 : goal.invariant_of-self-2
invariant_of-self-2 c =
    let f = c.self.inside in
    let new = c.all_rest.new.table in
    let Keeps : List Known → Type 0 = λ table. KeepsPlans table new in
    let keeps = subst Keeps c.as_mut_slice.ensures.value c.all_rest.ensures.plans in
    let full : take f.table.len (new ++ drop (length new) f.table.items) ≡ new = filled new f.table.items f.table.len (c.all_rest.ensures.plans.0 ∙ c.as_mut_slice.ensures.len) in
    let Threads : List Known → Type 0 = λ table. AreThreads f.plans.now table in
    subst Threads (sym full) (threads_kept f.plans.now f.table.items new c.self.invariant keeps)

pub returns-clause-goes : goal.returns-clause-goes
returns-clause-goes c = λ yes.
    let a = c.args in
    let f = c.self.inside in
    let new = c.all_rest.new.table in
    let state = c.goes_quietly.new.state in
    let Kept : List Known → Type 0 = λ table. AreKept table new in
    let Rest : List Known → Type 0 = λ table. MayAllRest a.cpu table new in
    let kept = subst Kept c.as_mut_slice.ensures.value (c.all_rest.ensures.kept yes) in
    let rests = subst Rest c.as_mut_slice.ensures.value (c.all_rest.ensures.rests yes) in
    let Allow : List Known → Type 0 = λ table. AllowAllRest a.cpu table new in
    let allows = subst Allow c.as_mut_slice.ensures.value (c.all_rest.ensures.allows yes) in
    let full : take f.table.len (new ++ drop (length new) f.table.items) ≡ new = filled new f.table.items f.table.len (c.all_rest.ensures.plans.0 ∙ c.as_mut_slice.ensures.len) in
    let went = c.if-not-goes_quietly.false in
    let old : Follow = record { plans = f.plans.now; table = f.table.items; machine = f.state } in
    let Goes : List Known → Type 0 = λ table. GoesOnUnasked a.cpu a.part.now old (record { plans = f.plans.now; table = table; machine = state }) in
    rw (← c.self.view_is) (subst Goes (sym full) (goes_unasked a.cpu a.part.now f.plans.now f.table.items new f.state state c.requires.processor (c.are_of.ensures.0 c.if-not-are_of.false) c.self.invariant (c.goes_quietly.ensures.right.0 went) (c.goes_quietly.ensures.moved went) kept rests allows))

pub returns-clause-declines : goal.returns-clause-declines
returns-clause-declines c = λ no.
    let f = c.self.inside in
    let Loud : List Known → Type 0 = λ table. OneMayNotRest c.args.cpu table in
    rw (← c.self.view_is) (declines_rest c.args.cpu c.args.part.now f.plans.now f.table.items f.state c.requires.processor c.self.invariant (subst Loud c.as_mut_slice.ensures.value (c.all_rest.ensures.declines no)))

pub returns-then-not-goes_quietly-clause-declines : goal.returns-then-not-goes_quietly-clause-declines
returns-then-not-goes_quietly-clause-declines c = rw (← c.self.view_is) (λ no lines before allow shown fits.
    iff_false c.goes_quietly.ensures.right c.if-not-goes_quietly.true fits.makes)

pub returns-then-not-are_of-clause-declines : goal.returns-then-not-are_of-clause-declines
returns-then-not-are_of-clause-declines c = λ no lines before allow shown fits.
    iff_false c.are_of.ensures c.if-not-are_of.true fits.own
