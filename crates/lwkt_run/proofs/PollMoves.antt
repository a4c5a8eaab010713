-- What a turn asked, of the machine that it left.
use Rattle.std.proofs.Common.{◌≡◌, ℕ, ◌<◌, ◌≤◌, List, length, refl, rules, ap, sym, ◌∙◌, subst, inl, inr, arith, Option, Some, None}
use Rattle.std.specs.Prelude.{Vec, IsSomeAnd, option_map, slice_get}
use Rattle.std.specs.Option.{IsSome}
use Rattle.std.specs.declared.alloc.Global.{Global}
use Rattle.std.proofs.lemmas.List.{length-set}
use Rattle.std.proofs.lemmas.Option.{slice_get_within}
use Rattle.lwkt_base.specs.declared.asks.Ask.{Ask}
use Rattle.lwkt_core.specs.declared.events.Event.{Event}
use Rattle.lwkt_cpu.specs.declared.answers.Turned.{Turned}
use Rattle.lwkt_cpu.specs.declared.answers.Turned.TheVariants.{Ran, Idle, AllExited}
use Rattle.lwkt_cpu.specs.Processors.{Processor}
use Rattle.lwkt_lane.proofs.PlaceMoves.{get_set_same}
use Rattle.lwkt_machine.specs.Bodies.{Scripted, IsPolled}
use Rattle.lwkt_machine.specs.Machines.{Rig, ShowsBody}
use Rattle.lwkt_machine.specs.Turns.{TurnsAt}
use Rattle.lwkt_run.specs.Running.{WasPolled, HasPolled}

-- the thread that a turn ran was polled, with the answer that was kept for it, and its body asked
pub turn_polled : (cpu : ℕ) (old new : Rig Scripted) (t u : Vec Event Global) (turned : Turned) → TurnsAt IsPolled cpu old new t u turned → HasPolled cpu new turned
turn_polled cpu old new t u (Ran place) made =
    let d = made.turns in
    let m = d.does in
    let mid = m.turns.0 in
    let runs = m.turns.1.1.1 in
    let here : slice_get new.cpus cpu ≡ Some d.now = ap (λ (ps : List (Processor Scripted)). slice_get ps cpu) d.cpus ∙ get_set_same made.seen cpu d.now (slice_get_within made.seen cpu d.before d.at_before) in
    let long : length d.now.threads ≡ length mid.threads = ap length runs.threads ∙ length-set mid.threads place runs.now in
    let within : place < length d.now.threads = omega (arith, slice_get_within mid.threads place runs.before runs.at_before, long) in
    let few : place < 16 = omega (arith, within, m.rest.few) in
    let T : Option (Processor Scripted) → Type 0 = λ o. IsSomeAnd o (λ q. place < length q.threads) in
    let B : Option (Processor Scripted) → Type 0 = λ o. IsSomeAnd o (λ q. slice_get q.bodies place ≡ Some runs.next_body) in
    let body : slice_get d.now.bodies place ≡ Some runs.next_body = ap (λ (bs : List Scripted). slice_get bs place) runs.bodies ∙ get_set_same mid.bodies place runs.next_body (slice_get_within mid.bodies place runs.body runs.at_body) in
    let once = runs.polls.polled_once in (
      few,
      (
        subst T (sym here) within,
        (
          record { thread = record { cpu = record { 0 = cpu }; thread = place }; heard = runs.before.last; asked = runs.polls.ask },
          record {
            id = refl;
            body = runs.next_body;
            shown = subst B (sym here) body;
            heard = ap (λ (b : Scripted). b.heard) once.1;
            asked = ap (λ (b : Scripted). b.asked) once.1 ∙ ap (λ (a : Ask). Some a) (sym once.0);
          },
        ),
      ),
    )
turn_polled cpu old new t u Idle d = record {}
turn_polled cpu old new t u AllExited d = record {}

-- a body that is there is shown
nothing_there : (m : Rig Scripted) (cpu thread : ℕ) → (o : Option (Processor Scripted)) → slice_get m.cpus cpu ≡ o → IsSomeAnd o (λ q. thread < length q.threads) → ShowsBody m cpu thread None → ⊥
nothing_there m cpu thread None at some none = some
nothing_there m cpu thread (Some q) at some (inl far) = absurd (omega (arith, far, slice_get_within m.cpus cpu q at))
nothing_there m cpu thread (Some q) at some (inr few) =
    let F : Option (Processor Scripted) → Type 0 = λ o. IsSomeAnd o (λ p. length p.threads ≤ thread) in
    absurd (omega (arith, some, subst F at few))

pub body_shown : {A : Type 0} (f : A → Scripted) (m : Rig Scripted) (cpu thread : ℕ) (o : Option A) → WasPolled m cpu thread → ShowsBody m cpu thread (option_map f o) → IsSome o
body_shown f m cpu thread None was shown = absurd (nothing_there m cpu thread (slice_get m.cpus cpu) refl was.0 shown)
body_shown f m cpu thread (Some x) was shown = search rules
