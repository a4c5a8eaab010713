use Rattle.std.proofs.Common.{◌≡◌, [], true, subst, arith, Option, Some, None}
use Rattle.std.specs.Prelude.{is_some, MatchOption}
use Rattle.std.proofs.lemmas.Bool.{false≢true}
use Rattle.lwkt_script.specs.declared.scripts.ThreadSpec.{ThreadSpec}
use Rattle.lwkt_verdict.specs.declared.turns.Poll.{Poll}
use Rattle.lwkt_verdict.specs.Threads.{plan_of_thread}
use Rattle.lwkt_verdict.specs.Run.{whose, came, Idles, PollFits}
use Rattle.lwkt_verdict.specs.Laws.{NoTurnsAreNoRun, RunsBeginWithAnAsk}

pub no_turns : NoTurnsAreNoRun
no_turns plans limit order opening polls trace lines run =
    let some = run.paced.some in
    omega arith

-- before the first turn no thread of a script may rest
none_rests : (o : Option ThreadSpec) → is_some o ≡ true → MatchOption o (Unit {0}) (λ plan. ⊥) → ⊥
none_rests None is may = absurd (false≢true is)
none_rests (Some plan) is may = may

pub begins_with_an_ask : RunsBeginWithAnAsk
begins_with_an_ask plans pace order opening polls turn turns trace lines there none run =
    let fits = run.runs.1.0 in
    let F : Option Poll → Type 0 = λ o. MatchOption o (Idles plans (whose order 0) (came plans [] (whose order 0))) (λ q. PollFits plans lines (whose order 0) (came plans [] (whose order 0) q.thread.thread) q) in
    let idles : Idles plans (whose order 0) (came plans [] (whose order 0)) = subst F none fits.polls in
    none_rests (plan_of_thread (whose order 0) 0 plans) there (idles 0 (omega arith))
