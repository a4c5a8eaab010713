-- What a processor has put into its queues waits there while others make turns, and is received in the next one of its target.
use Rattle.std.proofs.Common.{◌≡◌, ◌≢◌, ℕ, zero, suc, ◌<◌, ◌≤◌, List, length, get_or, refl, ap, sym, ◌∙◌, subst, arith, Some}
use Rattle.std.proofs.lemmas.Option.{slice_get_within, unwrap_or-slice_get}
use Rattle.std.specs.Prelude.{◌⊎◌, All, IsSome, slice_get, slice_index_or}
use mathlib.Core.List.{IsPrefix}
use Rattle.lwkt_lane.specs.declared.notes.Note.{Note}
use Rattle.lwkt_lane.specs.Lane.{queued, received}
use Rattle.lwkt_port.specs.declared.lines.Lane.{Lane}
use Rattle.lwkt_port.specs.Chains.{Chain}
use Rattle.lwkt_cpu.specs.Processors.{Processor}
use Rattle.lwkt_lane.proofs.PlaceMoves.{some_same, get_there, get_set_other}
use Rattle.lwkt_cpu.proofs.SightMoves.{IsLooked}
use Rattle.lwkt_machine.specs.Bodies.{Scripted}
use Rattle.lwkt_machine.proofs.ListMoves.{zip_long, zip_get}
use Rattle.lwkt_machine.proofs.SightMoves.{sent_looked}
use Rattle.lwkt_verdict.specs.Run.{whose}
use Rattle.lwkt_run.specs.Arriving.{NotesArrive}
use Rattle.lwkt_run.specs.Running.{Scene, MakesTurnAt}

-- the queues of a processor's sending ends are as they were
record Waits (from : ℕ) (s : Processor Scripted) (z : Scene) : Type 0 where
  now : Processor Scripted
  here : slice_get z.machine.cpus from ≡ Some now
  queues : (to : ℕ) (d : Lane) → queued (get_or now.post.lanes to d).out ≡ queued (get_or s.post.lanes to d).out

-- another processor's turn leaves them so
waits_turn : (cpu from : ℕ) (s : Processor Scripted) (x y : Scene) → cpu ≢ from → MakesTurnAt cpu x y → Waits from s x → Waits from s y
waits_turn cpu from s x y apart turn w =
    let made = turn.1.makes in
    let zip = sent_looked cpu x.machine.cpus made.seen made.sees in
    let there = get_there made.seen from (omega (arith, zip_long (IsLooked {B = Scripted}) x.machine.cpus made.seen zip, slice_get_within x.machine.cpus from w.now w.here)) in
    let was = zip_get (IsLooked {B = Scripted}) x.machine.cpus made.seen zip from there.0 there.1 in
    let same : was.0 ≡ w.now = some_same was.0 w.now (slice_get x.machine.cpus from) was.1.0 w.here in
    record {
      now = there.0;
      here = ap (λ (ps : List (Processor Scripted)). slice_get ps from) made.turns.cpus ∙ get_set_other made.seen cpu from made.turns.now (λ is. apart (sym is)) ∙ there.1;
      queues = λ to d. was.1.1.queues to d ∙ ap (λ (p : Processor Scripted). queued (get_or p.post.lanes to d).out) same ∙ w.queues to d;
    }

waits_turns : (order : List ℕ) (from : ℕ) (s : Processor Scripted) → All (λ cpu. cpu ≢ from) order → (n : ℕ) → n ≤ length order → (x y : Scene) → Chain Scene (λ k. MakesTurnAt (whose order k)) n x y → Waits from s x → Waits from s y
unfolding Chain
waits_turns order from s others zero few x y chain w = let F : Scene → Type 0 = λ z. Waits from s z in subst F (sym chain) w
waits_turns order from s others (suc n) few x y chain w =
    let within : n < length order = omega (arith, few) in
    let less : n ≤ length order = omega (arith, few) in
    let apart : whose order n ≢ from = λ is. others n 0 within (sym (unwrap_or-slice_get order n 0) ∙ is) in
    waits_turn (whose order n) from s chain.0 y apart chain.2 (waits_turns order from s others n less x chain.0 chain.1 w)

pub notes_arrive : NotesArrive
notes_arrive from to order x y z others turns turn s d e at =
    let all : length order ≤ length order = omega arith in
    let w : Waits from s y = waits_turns order from s others (length order) all x y turns (record { now = s; here = at; queues = λ k l. refl }) in
    let mail = turn.1.makes.turns.does.mail in
    let line : Lane = slice_index_or mail.post.lanes from e in
    let F : List Note → Type 0 = λ l. IsPrefix l (received line.into) ⊎ (IsSome line.kept ⊎ (16 ≤ mail.count)) in
    subst F (w.queues to d) (turn.1.makes.delivered from w.now d e w.here)
