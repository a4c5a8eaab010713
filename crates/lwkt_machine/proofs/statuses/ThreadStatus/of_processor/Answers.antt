use Rattle.std.proofs.Common.{◌≡◌, ◌++◌, ◌∷◌, [], ◌∙◌, ap, sym, map, take, ℕ, append_assoc, arith}
use Rattle.std.proofs.lemmas.Grind.{common_steps}
use Rattle.std.proofs.lemmas.List.{map-append}
use Rattle.std.specs.Prelude.{slice_get}
use Rattle.std.specs.List.{enumerate_from}
use Rattle.lwkt_cpu.specs.declared.threads.Thread.{Thread}
use Rattle.lwkt_cpu.specs.Processors.{is_running}
use Rattle.lwkt_machine.specs.declared.statuses.ThreadStatus.{ThreadStatus}
use Rattle.lwkt_machine.specs.Statuses.{status_of}
use Rattle.lwkt_machine.proofs.ListMoves.{enumerate_more, some_there}
use Rattle.lwkt_machine.proofs.statuses.ThreadStatus.of_processor.Goals as goal

pub loop-thread-preserved : goal.loop-thread-preserved
loop-thread-preserved g c =
    let l = c.loop-thread in
    let p = c.args.cpu.now in
    let n = c.args.number in
    let f : ℕ × Thread → ThreadStatus = λ e. status_of n e.0 (is_running p.running e.0) e.1 in
    let s = c.of_thread.result in
    let x = some_there (slice_get p.threads l.thread) (λ t. s ≡ status_of n l.thread (is_running p.running l.thread) t) c.of_thread.ensures in
    let grown : c.push.new.list.items ≡ l.statuses.items ++ s ∷ [] = grind (arith, common_steps) in
    let more = ap (λ es. map f es) (enumerate_more p.threads l.thread x.0 x.1.0) ∙ map-append f (enumerate_from 0 (take l.thread p.threads)) ((l.thread, x.0) ∷ []) in
    grown ∙ ap (λ xs. xs ++ s ∷ []) l.invariant ∙ append_assoc c.args.statuses.now.items (map f (enumerate_from 0 (take l.thread p.threads))) (s ∷ [])
    ∙ ap (λ y. c.args.statuses.now.items ++ (map f (enumerate_from 0 (take l.thread p.threads)) ++ y ∷ [])) x.1.1
    ∙ ap (λ xs. c.args.statuses.now.items ++ xs) (sym more)
