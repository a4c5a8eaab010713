use Rattle.std.proofs.Common.{inl, inr, ℕ, List, [], ◌∷◌, ◌++◌, take, drop, refl, sym, subst, Option, Some, None}
use Rattle.std.proofs.lemmas.List.{take-append-drop}
use Rattle.lwkt_base.specs.declared.asks.Ask.{Ask}
use Rattle.lwkt_base.specs.declared.asks.Answer.{Answer}
use Rattle.lwkt_core.specs.declared.events.Event.{Event}
use Rattle.lwkt_core.specs.Machine.{Machine, after}
use Rattle.lwkt_core.specs.Trace.{Run}
use Rattle.lwkt_script.specs.declared.scripts.ThreadSpec.{ThreadSpec}
use Rattle.lwkt_base.specs.declared.threads.ThreadLine.{ThreadLine}
use Rattle.lwkt_verdict.specs.declared.turns.Poll.{Poll}
use Rattle.lwkt_verdict.specs.declared.turns.Turn.{Turn}
use Rattle.lwkt_verdict.specs.declared.progress.Piece.{Piece}
use Rattle.lwkt_verdict.specs.Owns.{own_place}
use Rattle.lwkt_verdict.specs.TurnParts.{after_all, GoesQuietly, GoesFrom}
use Rattle.lwkt_verdict.specs.Run.{poll_of, piece, MakesPart, RunsThrough}
use Rattle.lwkt_verdict.specs.Laws.{TracesOfRunsHappen}
use Rattle.lwkt_verdict.proofs.PartMoves.{after_cut}

-- quiet events happen one after another
pub quiet_happens : (m : Machine) (es : List Event) → GoesQuietly m es → Run m es (after_all m es)
quiet_happens m [] quiet = refl
quiet_happens m (e ∷ es) quiet = (after m e, ((quiet.0, refl), quiet_happens (after m e) es quiet.1.1))

-- so do those from the place of an ask's own event on
from_happens : (m : Machine) (ask : Ask) (answer : Option Answer) (es : List Event) → GoesFrom m ask answer es → Run m es (after_all m es)
from_happens m ask answer [] goes = refl
from_happens m ask answer (e ∷ es) (inl own) = (after m e, ((own.2, refl), quiet_happens (after m e) es own.3))
from_happens m ask answer (e ∷ es) (inr quiet) = quiet_happens m (e ∷ es) quiet.1

-- a run goes on by another
run_join : (m n k : Machine) (xs ys : List Event) → Run m xs n → Run n ys k → Run m (xs ++ ys) k
run_join m n k [] ys run next = subst (λ (x : Machine). Run x ys k) run next
run_join m n k (x ∷ xs) ys run next = (run.0, (run.1.0, run_join run.0 n k xs ys run.1.1 next))

-- a run by a front of its events and the rest
run_cut : (m n k : Machine) (es : List Event) (i : ℕ) → Run m (take i es) n → Run n (drop i es) k → Run m es k
run_cut m n k es i run next =
    subst (λ (ys : List Event). Run m ys k) (take-append-drop i es) (run_join m n k (take i es) (drop i es) run next)

-- the events of a turn's part happen one after another
pub part_happens : (m : Machine) (poll : Option Poll) (part : List Event) → MakesPart m poll part → Run m part (after_all m part)
part_happens m None part makes = quiet_happens m part makes
part_happens m (Some q) part makes =
    let i : ℕ = own_place q.ask part in
    let mid : Machine = after_all m (take i part) in
    subst (λ (k : Machine). Run m part k) (sym (after_cut m part i)) (run_cut m mid (after_all mid (drop i part)) part i (quiet_happens m (take i part) makes.0) (from_happens mid q.ask q.answer (drop i part) makes.1))

runs_happen : (plans : List ThreadSpec) (lines : List ThreadLine) (polls : List Poll) (order : List ℕ) (m : Machine) (before : List Piece) (turns : List Turn) (events : List Event) → RunsThrough plans lines polls order m before turns events → (end : Machine) × Run m events end
runs_happen plans lines polls order m before [] events closes = (after_all m events, quiet_happens m events closes.quiet)
runs_happen plans lines polls order m before (t ∷ ts) events runs =
    let part : List Event = take t.events events in
    let rest = runs_happen plans lines polls order (after_all m part) (before ++ piece (poll_of polls t) part ∷ []) ts (drop t.events events) runs.1.1 in
    (rest.0, run_cut m (after_all m part) rest.0 events t.events (part_happens m (poll_of polls t) part runs.1.0.makes) rest.1)

pub traces_happen : TracesOfRunsHappen
traces_happen plans pace order opening polls turns trace lines run =
    runs_happen plans lines polls order opening [] turns trace run.runs
