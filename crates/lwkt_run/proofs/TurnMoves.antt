-- What the processors did in turns, one after another, and then as they stopped, is one run.
use Rattle.std.proofs.Common.{◌≡◌, ℕ, ◌+◌, ◌<◌, List, [], ◌++◌, length, set, refl, ap, sym, ◌∙◌, subst, inl, inr, arith, append-nil, Some}
use Rattle.std.specs.Prelude.{All, Vec, slice_get}
use Rattle.std.specs.List.{AllZip}
use Rattle.std.specs.declared.alloc.Global.{Global}
use Rattle.std.proofs.lemmas.Bool.{cases_eq}
use Rattle.std.proofs.lemmas.List.{length-set}
use Rattle.std.proofs.lemmas.List.FromFn.{length-map-range_with_len, get_or-map-range_with_len}
use Rattle.std.proofs.lemmas.Option.{slice_get_within, get_or_from_slice_get}
use Rattle.lwkt_core.specs.declared.events.Event.{Event}
use Rattle.lwkt_core.specs.declared.finals.Final.{Final}
use Rattle.lwkt_core.specs.Events.{cpu_of}
use Rattle.lwkt_bank.specs.Seats.{BankId}
use Rattle.lwkt_lane.proofs.PlaceMoves.{get_set_other, get_set_same, some_same}
use Rattle.lwkt_core.specs.Opening.{AreWithin, AllOpenLawfully}
use Rattle.lwkt_cpu.specs.declared.answers.Turned.{Turned}
use Rattle.lwkt_cpu.specs.Turning.{IsOfThread, MakesTurn}
use Rattle.lwkt_cpu.specs.Processors.{Processor}
use Rattle.lwkt_cpu.proofs.SightMoves.{IsLooked}
use Rattle.lwkt_machine.proofs.ListMoves.{zip_long, zip_get}
use Rattle.lwkt_machine.proofs.SightMoves.{sent_looked}
use Rattle.lwkt_machine.specs.Bodies.{Scripted, IsPolled}
use Rattle.lwkt_machine.specs.Machines.{Rig}
use Rattle.lwkt_machine.specs.Scripts.{bodies_on, IsOpenedScript}
use Rattle.lwkt_script.specs.declared.scripts.Script.{Script}
use Rattle.lwkt_machine.specs.ProcessorParts.{ArePartsOfRuns}
use Rattle.lwkt_run.specs.TraceParts.{of_cpu}
use Rattle.lwkt_machine.proofs.PartMoves.{IsTracedAt, closed_are_parts, stop_own, traced_done, traced_opened}
use Rattle.lwkt_run.proofs.PartMoves.{of_cpu_more, of_cpu_other, of_cpu_own, of_cpu_stops}
use Rattle.lwkt_run.specs.Keeping.{Kept, none_kept}
use Rattle.lwkt_run.specs.Leaving.{Leaves}
use Rattle.lwkt_run.specs.Running.{Scene, scene, MakesTurnAt, MakesTurns, HasMadeRounds}
use Rattle.lwkt_run.specs.Joining.{AreOneRun}
use Rattle.lwkt_run.specs.Run.{parts_in, IsTraceOfOneRun}
use Rattle.lwkt_run.proofs.ChainMoves.{trace_chains}
use Rattle.lwkt_run.proofs.JoinMoves.{one_run}
use Rattle.lwkt_run.proofs.RoundMoves.{rounds_keep, turns_keep}
use Rattle.lwkt_run.proofs.ThreadedMoves.{tokens_from, messages_from}

-- the machine of a scene is still the one that was opened, and each of its processors is traced by its own events among the scene's
record IsTracedSoFar (opened : Rig Scripted) (z : Scene) : Type 0 where
  as_many : length z.machine.cpus ≡ length opened.cpus
  traced : (k : ℕ) (p : Processor Scripted) → slice_get z.machine.cpus k ≡ Some p → IsTracedAt k p (of_cpu k z.trace)
  bank : z.machine.bank ≡ opened.bank
  book : z.machine.book ≡ opened.book

-- processors that were looked at are traced by the same events
traced_looked : (fronts : ℕ → List Event) (olds news : List (Processor Scripted)) → AllZip (IsLooked {B = Scripted}) olds news → ((k : ℕ) (p : Processor Scripted) → slice_get olds k ≡ Some p → IsTracedAt k p (fronts k)) → (k : ℕ) (q : Processor Scripted) → slice_get news k ≡ Some q → IsTracedAt k q (fronts k)
traced_looked fronts olds news zip traced k q at =
    let x = zip_get (IsLooked {B = Scripted}) olds news zip k q at in
    let w = traced k x.0 x.1.0 in
    let F : Processor Scripted → Type 0 = λ y. IsTracedAt k y (fronts k) in
    subst F (sym x.1.1.else_same) (record { seat = w.seat; desk = w.desk; tokens = w.tokens; mails = w.mails })

-- a turn of one of them
traced_turn : (trace : List Event) (cpu : ℕ) (bank : BankId) (olds : List (Processor Scripted)) (p q : Processor Scripted) (room part : Vec Event Global) (turned : Turned) → room.items ≡ [] → slice_get olds cpu ≡ Some p → MakesTurn IsPolled bank p q room part turned → ((k : ℕ) (x : Processor Scripted) → slice_get olds k ≡ Some x → IsTracedAt k x (of_cpu k trace)) → (k : ℕ) (x : Processor Scripted) → slice_get (set olds cpu q) k ≡ Some x → IsTracedAt k x (of_cpu k (trace ++ part.items))
traced_turn trace cpu bank olds p q room part turned none at made traced k x is =
    let done = made.ran.done in
    let items : done ≡ part.items = sym (made.ran.trace ∙ ap (λ (es : List Event). es ++ done) none) in
    let before : IsTracedAt cpu p (of_cpu cpu trace) = traced cpu p at in
    let O : ℕ × List Event → Type 0 = λ i. All (λ (e : Event). cpu_of e ≡ i.0) i.1 in
    let own : All (λ (e : Event). cpu_of e ≡ cpu) part.items = subst O (λ i. (before.seat i, items i)) made.ran.own in
    elim (cases_eq k cpu) [
      | inl same ↦
          let within : cpu < length olds = slice_get_within olds cpu p at in
          let F : ℕ → Type 0 = λ i. slice_get (set olds cpu q) i ≡ Some x in
          let e : q ≡ x = some_same q x (Some q) refl (sym (get_set_same olds cpu q within) ∙ subst F same is) in
          let now = traced_done cpu (IsOfThread p.threads q.threads) 4096 p q room part none made.ran made.traced (of_cpu cpu trace) before in
          let mine : of_cpu cpu trace ++ part.items ≡ of_cpu cpu (trace ++ part.items) = ap (λ (es : List Event). of_cpu cpu trace ++ es) (sym (of_cpu_own cpu part.items own)) ∙ sym (of_cpu_more cpu trace (trace ++ part.items) part.items refl) in
          let G : List Event → Type 0 = λ es. IsTracedAt cpu q es in
          let H : Processor Scripted → Type 0 = λ z. IsTracedAt cpu z (of_cpu cpu (trace ++ part.items)) in
          let K : ℕ → Type 0 = λ i. IsTracedAt i x (of_cpu i (trace ++ part.items)) in
          subst K (sym same) (subst H e (subst G mine now))
      | inr apart ↦
          let was : slice_get olds k ≡ Some x = sym (get_set_other olds cpu k q apart) ∙ is in
          let mine : of_cpu k trace ≡ of_cpu k (trace ++ part.items) = sym (append-nil (of_cpu k trace)) ∙ ap (λ (es : List Event). of_cpu k trace ++ es) (sym (of_cpu_other k cpu part.items (λ other. apart (sym other)) own)) ∙ sym (of_cpu_more k trace (trace ++ part.items) part.items refl) in
          let G : List Event → Type 0 = λ es. IsTracedAt k x es in
          subst G mine (traced k x was)
    ]

stands_turn : (opened : Rig Scripted) (cpu : ℕ) (x y : Scene) → MakesTurnAt cpu x y → IsTracedSoFar opened x → IsTracedSoFar opened y
stands_turn opened cpu x y turn s =
    let t = turn.1 in
    let m = t.makes in
    let d = m.turns in
    let zip = sent_looked cpu x.machine.cpus m.seen m.sees in
    let first = traced_looked (λ k. of_cpu k x.trace) x.machine.cpus m.seen zip s.traced in
    record {
      as_many = ap length d.cpus ∙ length-set m.seen cpu d.now ∙ zip_long (IsLooked {B = Scripted}) x.machine.cpus m.seen zip ∙ s.as_many;
      traced = λ k p at.
          let here : slice_get (set m.seen cpu d.now) k ≡ Some p = ap (λ (ps : List (Processor Scripted)). slice_get ps k) (sym d.cpus) ∙ at in
          let F : List Event → Type 0 = λ es. IsTracedAt k p (of_cpu k es) in
          subst F (sym t.grown) (traced_turn x.trace cpu x.machine.bank m.seen d.before d.now t.room t.part turn.0 t.none d.at_before d.does first k p here);
      bank = m.bank ∙ s.bank;
      book = m.book ∙ s.book;
    }

stands_opened : (script : Script) (opened : Rig Scripted) → IsOpenedScript script opened → IsTracedSoFar opened (scene opened [] none_kept)
stands_opened script opened opens = record {
  as_many = refl;
  traced = λ k p at. traced_opened opened.bank opened.book k (bodies_on k script.threads) p (opens.each k p at);
  bank = refl;
  book = refl;
}

-- the part of a processor
part_in : (cpus : ℕ) (trace : List Event) (k : ℕ) (part : List Event) → slice_get (parts_in cpus trace) k ≡ Some part → (k < cpus) × (part ≡ of_cpu k trace)
part_in cpus trace k part at =
    let f : ℕ → List Event = λ cpu. of_cpu cpu trace in
    let within : k < cpus = subst (λ n. k < n) (length-map-range_with_len f 0 cpus) (slice_get_within (parts_in cpus trace) k part at) in
    let here : 0 + k ≡ k = omega arith in
    (within, sym (get_or_from_slice_get (parts_in cpus trace) k part [] at) ∙ get_or-map-range_with_len f 0 cpus k k [] within here)

stands_are_parts : (script : Script) (opened : Rig Scripted) (z : Scene) (stops : List Event) (last : Final) (leaves : Leaves z.machine stops last) → IsOpenedScript script opened → AreWithin script.cpus script.tokens script.messages → AllOpenLawfully script.tokens → IsTracedSoFar opened z → IsTraceOfOneRun script opened leaves.closed last (z.trace ++ stops)
stands_are_parts script opened z stops last leaves opens within lawful s =
    let whole : List Event = z.trace ++ stops in
    let fronts : ℕ → List Event = λ k. of_cpu k z.trace in
    let parts = parts_in script.cpus whole in
    let own = stop_own z.machine leaves.closed leaves.closes (λ k p at. (s.traced k p at).seat) in
    let modelled : ArePartsOfRuns opened leaves.closed parts = closed_are_parts opened z.machine fronts leaves.closed parts s.bank s.book s.as_many s.traced leaves.closes (λ k part at.
    let p = part_in script.cpus whole k part at in (
      subst (λ n. k < n) (sym opens.as_many) p.0,
      λ stop there. p.1 ∙ of_cpu_more k z.trace whole stops refl ∙ ap (λ (es : List Event). fronts k ++ es) (ap (of_cpu k) leaves.stops_are ∙ of_cpu_stops leaves.closed.stops.items own k stop there),
    )) in
    let one : AreOneRun script.cpus script.tokens script.messages last parts = one_run script.cpus script.tokens script.messages opened leaves.closed last parts modelled (tokens_from script opened opens within) (messages_from script opened opens) leaves.rows leaves.gens leaves.tallies leaves.blobs leaves.messages in
    record {
      modelled = modelled;
      one = one;
      chains = trace_chains script.cpus script.tokens script.messages one.events last within lawful one.lawful;
    }

pub rounds_are_parts : (script : Script) (opened made : Rig Scripted) (traced : List Event) (stops : List Event) (kept : Kept) (last : Final) (leaves : Leaves made stops last) → IsOpenedScript script opened → AreWithin script.cpus script.tokens script.messages → AllOpenLawfully script.tokens → HasMadeRounds script.turns (scene opened [] none_kept) (scene made traced kept) → IsTraceOfOneRun script opened leaves.closed last (traced ++ stops)
rounds_are_parts script opened made traced stops kept last leaves opens within lawful rounds =
    stands_are_parts script opened (scene made traced kept) stops last leaves opens within lawful
    (rounds_keep (IsTracedSoFar opened) (stands_turn opened) script.turns (scene opened [] none_kept) (scene made traced kept) rounds (stands_opened script opened opens))

pub turns_are_parts : (script : Script) (order : List ℕ) (opened made : Rig Scripted) (traced : List Event) (stops : List Event) (kept : Kept) (last : Final) (leaves : Leaves made stops last) → IsOpenedScript script opened → AreWithin script.cpus script.tokens script.messages → AllOpenLawfully script.tokens → MakesTurns order (scene opened [] none_kept) (scene made traced kept) → IsTraceOfOneRun script opened leaves.closed last (traced ++ stops)
turns_are_parts script order opened made traced stops kept last leaves opens within lawful along =
    stands_are_parts script opened (scene made traced kept) stops last leaves opens within lawful
    (turns_keep (IsTracedSoFar opened) (stands_turn opened) order (scene opened [] none_kept) (scene made traced kept) along (stands_opened script opened opens))
