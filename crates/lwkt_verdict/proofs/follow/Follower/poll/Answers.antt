use Rattle.std.proofs.Common.{◌≡◌, ◌∙◌, ◌+◌, ◌*◌, ap, sym, Bool, false}
use Rattle.std.specs.Prelude.{IsTrue}
use Rattle.lwkt_verdict.specs.TurnParts.{after_all}
use Rattle.lwkt_verdict.specs.Followed.{IsPolled, MayBePolled}
use Rattle.lwkt_verdict.proofs.FollowMoves.{ok_both, ok_one, goes_at, declines_at}
use Rattle.lwkt_verdict.proofs.follow.Follower.poll.Goals as goal

pub returns-clause-goes : goal.returns-clause-goes
returns-clause-goes c =
    let a = c.args in
    let f = c.self.inside in
    let t = c.index_mut.result.now in
    let u = c.asks.new.followed in
    let place = 16 * a.cpu + c.from-2.result in
    let own : a.thread.cpu.0 ≡ a.cpu = sym c.from.ensures ∙ c.if-from-cpu.false in
    let is_place : place ≡ 16 * a.cpu + a.thread.thread = ap (λ n. 16 * a.cpu + n) c.from-2.ensures in
    let Polled : Bool → Type 0 = λ yes. IsTrue yes → IsPolled f.state a.heard.now a.asked.now a.part.now t u in
    let Moved : Bool → Type 0 = λ yes. IsTrue yes → c.asks.new.state ≡ after_all f.state a.part.now in
    rw (← c.self.view_is) (ok_both c.asks.result Polled Moved _ (λ yes polled moved is. goes_at a.cpu a.thread a.heard.now a.asked.now a.part.now f.plans.now f.table.items f.state c.asks.new.state place t u c.requires.processor own c.if-thread-ge16.false is_place (c.are_of.ensures.0 c.if-not-are_of.false) c.self.invariant c.index_mut.ensures.value c.asks.ensures.plan (polled is) (moved is)) c.asks.ensures.polled c.asks.ensures.moved)

pub returns-clause-declines : goal.returns-clause-declines
returns-clause-declines c =
    let a = c.args in
    let f = c.self.inside in
    let t = c.index_mut.result.now in
    let place = 16 * a.cpu + c.from-2.result in
    let own : a.thread.cpu.0 ≡ a.cpu = sym c.from.ensures ∙ c.if-from-cpu.false in
    let is_place : place ≡ 16 * a.cpu + a.thread.thread = ap (λ n. 16 * a.cpu + n) c.from-2.ensures in
    let Unfit : Bool → Type 0 = λ yes. yes ≡ false → ¬ MayBePolled f.state a.heard.now a.asked.now a.part.now t in
    rw (← c.self.view_is) (ok_one c.asks.result Unfit _ (λ yes unfit no. declines_at a.cpu a.thread a.heard.now a.asked.now a.part.now f.plans.now f.table.items f.state place t c.requires.processor own c.if-thread-ge16.false is_place c.self.invariant c.index_mut.ensures.value (unfit no)) c.asks.ensures.declines)
