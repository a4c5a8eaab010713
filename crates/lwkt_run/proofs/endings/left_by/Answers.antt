use Rattle.std.proofs.Common.{◌≡◌, ◌∙◌, List, ap, map, sym, subst}
use Rattle.std.proofs.lemmas.Result.{IfOk-weaker}
use Rattle.lwkt_base.specs.declared.threads.ThreadLine.{ThreadLine}
use Rattle.lwkt_run.specs.Judging.{ids_of}
use Rattle.lwkt_run.specs.Leaving.{IsLeftBy, LeavesRemains}
use Rattle.lwkt_run.specs.Running.{ShowThreads}
use Rattle.lwkt_run.specs.Values.{AreValuesOf}
use Rattle.lwkt_run.specs.declared.endings.Remains.{Remains}
use Rattle.lwkt_run.proofs.CloseMoves.{values_of}
use Rattle.lwkt_run.proofs.IdMoves.{ids_are}
use Rattle.lwkt_run.proofs.endings.left_by.Goals as goal

pub returns-clause-values : goal.returns-clause-values
returns-clause-values c =
    let closed = c.close_in.result in
    IfOk-weaker c.remains_at_close.result (λ (remains : Remains). IsLeftBy closed remains) (λ (remains : Remains). AreValuesOf c.args.script.now.tokens remains.left.last)
    (λ remains is. values_of c.args.script.now.tokens c.args.machine.bank _ _ closed.tokens remains.left.last c.requires.bank is.rows is.gens is.tallies is.blobs c.close_in.ensures.closed.tokens) c.remains_at_close.ensures.left

pub returns-clause-leaves : goal.returns-clause-leaves
returns-clause-leaves c =
    let closed = c.close_in.result in
    IfOk-weaker c.remains_at_close.result (λ (remains : Remains). IsLeftBy closed remains) (λ (remains : Remains). LeavesRemains c.args.machine remains)
    (λ remains is. (record { closed = closed; closes = c.close_in.ensures.closed; stops_are = is.stops; rows = is.rows; gens = is.gens; tallies = is.tallies; blobs = is.blobs; messages = is.messages }, is.traces)) c.remains_at_close.ensures.left

pub returns-clause-shown : goal.returns-clause-shown
returns-clause-shown c =
    let threads = c.in_ok-threads.threads.items in
    let F : List ThreadLine → Type 0 = λ lines. ShowThreads c.args.script.now.threads lines c.args.machine in
    IfOk-weaker c.remains_at_close.result (λ (remains : Remains). remains.left.threads.items ≡ threads) (λ (remains : Remains). ShowThreads c.args.script.now.threads remains.left.threads.items c.args.machine)
    (λ remains same. subst F (sym same) c.in_ok-threads.ensures) c.remains_at_close.ensures.threads

pub returns-clause-threads : goal.returns-clause-threads
returns-clause-threads c =
    let s = c.args.script.now in
    let threads = c.in_ok-threads.threads.items in
    IfOk-weaker c.remains_at_close.result (λ (remains : Remains). remains.left.threads.items ≡ threads) (λ (remains : Remains). map (λ (line : ThreadLine). line.id) remains.left.threads.items ≡ ids_of s.cpus s.threads)
    (λ remains same. ap (map (λ (line : ThreadLine). line.id)) same ∙ c.in_ok-threads.ensures.ids ∙ ids_are s.cpus s.threads c.args.machine.cpus c.requires.threads) c.remains_at_close.ensures.threads
