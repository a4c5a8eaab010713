use Rattle.std.proofs.Common.{inl, inr, refl, subst, Option, true, false}
use Rattle.std.specs.Prelude.{IfSome}
use Rattle.lwkt_hold.specs.Fronts.{IsFront}
use Rattle.lwkt_hold.specs.Misses.{IsRefusing}
use Rattle.lwkt_hold.proofs.RunMoves.{ran_none}
use Rattle.lwkt_hold.proofs.StillMoves.{refusing_within}
use Rattle.lwkt_cpu.specs.declared.threads.BusyAt.{BusyAt}
use Rattle.lwkt_cpu.proofs.SearchMoves.{looked_now}
use Rattle.lwkt_cpu.proofs.searches.is_still_busy.Goals as goal

pub still-requires-clause-within : goal.still-requires-clause-within
still-requires-clause-within c =
    let list = c.args.thread.now.list in
    let busy = c.in-Some.busy in
    let F : Option BusyAt → Type 0 = λ o. IfSome o (λ r. IsRefusing list r.at r.word) in
    refusing_within list busy.at busy.word (subst F c.in-Some.is c.requires.busy)

pub returns-in-Some-clause-yes : goal.returns-in-Some-clause-yes
returns-in-Some-clause-yes c =
    let list = c.args.thread.now.list in
    let busy = c.in-Some.busy in
    let F : Option BusyAt → Type 0 = λ o. IfSome o (λ r. IsRefusing list r.at r.word) in
    λ is. (busy, (c.in-Some.is, looked_now c.args.hold.now.seat c.still.new.self.seat list busy.at busy.word c.still.result true c.still.ensures.stays is, c.still.ensures.refuses is (subst F c.in-Some.is c.requires.busy)))

pub returns-in-Some-clause-no : goal.returns-in-Some-clause-no
returns-in-Some-clause-no c =
    let busy = c.in-Some.busy in
    λ is. inr (busy, (c.in-Some.is, looked_now c.args.hold.now.seat c.still.new.self.seat c.args.thread.now.list busy.at busy.word c.still.result false c.still.ensures.stays is))

pub returns-in-None-clause-ran : goal.returns-in-None-clause-ran
returns-in-None-clause-ran c = λ refs t. ran_none (IsFront refs) c.args.hold.now.seat t

pub returns-in-None-clause-no : goal.returns-in-None-clause-no
returns-in-None-clause-no c = λ is. inl (c.in-None.is, refl)
