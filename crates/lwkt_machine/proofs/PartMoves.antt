-- What the processors of a machine did, in their turns and as they stopped, are the parts of one run.
use Rattle.std.proofs.Common.{◌≡◌, ◌∙◌, ℕ, zero, suc, ◌<◌, List, [], ◌∷◌, ◌++◌, length, map, refl, ap, sym, subst, arith, Option, Some, None}
use Rattle.std.specs.Prelude.{All, Bool, Vec, slice_get, option_map}
use Rattle.std.specs.Option.{option_map_or}
use Rattle.std.specs.declared.alloc.Global.{Global}
use Rattle.std.proofs.lemmas.Option.{slice_get-map, slice_get_within}
use Rattle.lwkt_base.specs.declared.asks.Ask.{Ask}
use Rattle.lwkt_base.specs.declared.asks.Answer.{Answer}
use Rattle.lwkt_base.specs.declared.names.CpuId.{CpuId}
use Rattle.lwkt_base.specs.Holding.{Holding}
use Rattle.lwkt_core.specs.declared.events.Event.{Event}
use Rattle.lwkt_core.specs.Events.{cpu_of}
use Rattle.lwkt_table.specs.declared.seats.SeatKind.{SeatKind}
use Rattle.lwkt_drive.specs.ShortEvents.{KeptTrace}
use Rattle.lwkt_bank.specs.Seats.{BankId}
use Rattle.lwkt_hold.specs.Runs.{Ran}
use Rattle.lwkt_lane.proofs.PlaceMoves.{some_same, get_there}
use Rattle.lwkt_msg.specs.Desks.{Shelf, desk_cpu}
use Rattle.lwkt_msg.specs.Views.{seat_cpu}
use Rattle.lwkt_cpu.specs.Processors.{Processor}
use Rattle.lwkt_cpu.specs.Traced.{TracesMail}
use Rattle.lwkt_cpu.specs.Turning.{IsMailed}
use Rattle.lwkt_drive.specs.declared.driven.Driven.{Driven}
use Rattle.lwkt_drive.specs.declared.driven.Limits.{Limits}
use Rattle.lwkt_drive.specs.Course.{IsDriven}
use Rattle.lwkt_drive.specs.Traced.{TracesSeat, IsMailTraced, ArePartsOfOneRun, ArePartsOfOneMailRun}
use Rattle.lwkt_drive.proofs.TracedMoves.{traced_new, traced_kept, traced_made, one_run, mail_new, mail_kept, mail_made, mail_same, one_mail_run}
use Rattle.lwkt_script.specs.declared.scripts.Script.{Script}
use Rattle.lwkt_machine.specs.declared.closings.Closed.{Closed}
use Rattle.lwkt_machine.specs.Bodies.{Scripted, IsPolled}
use Rattle.lwkt_machine.specs.Drives.{IsDrivenMachine}
use Rattle.lwkt_machine.specs.Ended.{EndsWith, IsClosedMachine}
use Rattle.lwkt_machine.specs.Machines.{Rig, processors}
use Rattle.lwkt_machine.specs.Opened.{IsOpenedCpu}
use Rattle.lwkt_machine.specs.ProcessorParts.{AreJustOpened, parts_of, ArePartsOfRuns}
use Rattle.lwkt_machine.specs.Scripts.{bodies_on, IsOpenedScript}
use Rattle.lwkt_machine.proofs.DrivenMoves.{driven_at, long_processors, processor_at}
use Rattle.lwkt_machine.proofs.ListMoves.{zip_get, zip_long}

none_part : (part : List Event) → ◌≡◌ {A = Option (List Event)} None (Some part) → ⊥
none_part part is = cc

-- the part of a processor
parts_at : (traces : List KeptTrace) (stops : List (Vec Event Global)) (k : ℕ) (part : List Event) → slice_get (parts_of traces stops) k ≡ Some part → (trace : KeptTrace) × ((stop : Vec Event Global) × ((slice_get traces k ≡ Some trace) × ((slice_get stops k ≡ Some stop) × (part ≡ trace.items ++ stop.items))))
parts_at [] stops k part at = absurd (none_part part at)
parts_at (trace ∷ traces) [] k part at = absurd (none_part part at)
parts_at (trace ∷ traces) (stop ∷ stops) zero part at =
    let e : trace.items ++ stop.items ≡ part = cc in
    (trace, (stop, (refl, (refl, sym e))))
parts_at (trace ∷ traces) (stop ∷ stops) (suc k) part at = parts_at traces stops k part at

module _ {B : Type 0} where
  -- a processor at its number, of which these events trace both seats
  pub record IsTracedAt (k : ℕ) (p : Processor B) (part : List Event) : Type 0 where
    pub seat : p.seat.cpu.0 ≡ k
    pub desk : (desk_cpu p.post.seat).0 ≡ k
    pub tokens : TracesSeat p.seat part
    pub mails : IsMailTraced p.post.seat part

  pub traced_opened : (bank : BankId) (book : Shelf) (k : ℕ) (bodies : List B) (p : Processor B) → IsOpenedCpu bank book k bodies p → IsTracedAt k p []
  traced_opened bank book k bodies p o = record {
    seat = o.seat.number;
    desk = ap (λ (kind : SeatKind). (seat_cpu kind).0) o.desk.kind;
    tokens = traced_new p.seat o.seat.new;
    mails = mail_new k book p.post.seat o.desk;
  }

  -- what a processor did is traced behind what was traced before
  pub traced_done : (k : ℕ) (P : Holding → Type 0) (most : ℕ) (p q : Processor B) (room part : Vec Event Global) → room.items ≡ [] → Ran P most p.seat q.seat room part → TracesMail p.post.seat q.post.seat room.items part.items → (t : List Event) → IsTracedAt k p t → IsTracedAt k q (t ++ part.items)
  traced_done k P most p q room part none ran mail t traced = record {
    seat = ap (λ (c : CpuId). c.0) ran.cpu ∙ traced.seat;
    desk = ap (λ (kind : SeatKind). (seat_cpu kind).0) mail.same.kind ∙ traced.desk;
    tokens = traced_kept P most p.seat q.seat room part none ran t (t ++ part.items) refl traced.tokens;
    mails = mail_kept p.post.seat q.post.seat room part none mail t (t ++ part.items) refl traced.mails;
  }

  -- a processor that was driven is traced in its trace, if it was before
  traced_driven : (polled : B → Answer → Ask → B → Type 0) (answers : CpuId → ℕ → Bool → Type 0) (limits : Limits) (bank : BankId) (k : ℕ) (d e : Driven B) → IsDriven polled answers bank limits d e e.ending → IsTracedAt k d.cpu d.trace.items → IsTracedAt k e.cpu e.trace.items
  traced_driven polled answers limits bank k d e is before = record {
    seat = ap (λ (c : CpuId). c.0) is.seat ∙ before.seat;
    desk = ap (λ (c : CpuId). c.0) (mail_same polled bank d.cpu e.cpu d.trace.items e.trace.items is.turns is.made) ∙ before.desk;
    tokens = traced_made polled bank d.cpu e.cpu d.trace.items e.trace.items is.turns is.made before.tokens;
    mails = mail_made polled bank d.cpu e.cpu d.trace.items e.trace.items is.turns is.made before.mails;
  }

  -- a processor of a machine that closed: as it was, as it stopped, and the events of its stop
  pub record IsEndedAt (m : Rig B) (closed : Closed B) (last : List (Driven B)) (k : ℕ) : Type 0 where
    pub was : Driven B
    pub now : Driven B
    pub stop : Vec Event Global
    pub was_at : slice_get m.driven k ≡ Some was
    pub cpu_at : slice_get m.cpus k ≡ Some was.cpu
    pub now_at : slice_get last k ≡ Some now
    pub stop_at : slice_get closed.stops.items k ≡ Some stop
    pub ends : EndsWith was now stop

  pub ended_at : (m : Rig B) (closed : Closed B) (closes : IsClosedMachine m closed) (k : ℕ) → k < length m.cpus → IsEndedAt m closed closes.last k
  ended_at m closed closes k less =
      let ended = closes.ended in
      let long = ap length closes.cpus ∙ long_processors m.driven in
      let within : k < length m.driven = omega (arith, long, less) in
      let was = get_there m.driven k within in
      let now = get_there closes.last k (omega (arith, within, ended.as_many)) in
      let stop = get_there closed.stops.items k (omega (arith, within, ended.stops_are)) in
      record {
        was = was.0;
        now = now.0;
        stop = stop.0;
        was_at = was.1;
        cpu_at = ap (λ (cpus : List (Processor B)). slice_get cpus k) closes.cpus ∙ processor_at m.driven k was.0 was.1;
        now_at = now.1;
        stop_at = stop.1;
        ends = ended.below k was.0 now.0 stop.0 within was.1 now.1 stop.1;
      }

  -- the events of a stop are of its processor
  pub stop_own : (m : Rig B) (closed : Closed B) (closes : IsClosedMachine m closed) → ((k : ℕ) (p : Processor B) → slice_get m.cpus k ≡ Some p → p.seat.cpu.0 ≡ k) → (k : ℕ) (stop : Vec Event Global) → slice_get closed.stops.items k ≡ Some stop → All (λ e. cpu_of e ≡ k) stop.items
  stop_own m closed closes numbered k stop at =
      let long = ap length closes.cpus ∙ long_processors m.driven in
      let e = ended_at m closed closes k (omega (arith, long, closes.ended.stops_are, slice_get_within closed.stops.items k stop at)) in
      let s = e.ends.stops in
      let done = s.does.ran.done in
      let items : done ≡ e.stop.items = sym (s.grown ∙ s.does.ran.trace ∙ ap (λ (es : List Event). es ++ done) s.none) in
      let same : e.stop ≡ stop = some_same e.stop stop (slice_get closed.stops.items k) e.stop_at at in
      let F : ℕ → Type 0 = λ i. All (λ (x : Event). cpu_of x ≡ i) done in
      let G : List Event → Type 0 = λ es. All (λ (x : Event). cpu_of x ≡ k) es in
      subst G (items ∙ ap (λ (v : Vec Event Global). v.items) same) (subst F (numbered k e.was.cpu e.cpu_at) s.does.ran.own)

  -- what was traced of processors before their machine closed, and what they did as they stopped, are the parts of such runs
  pub closed_are_parts : (opened made : Rig B) (fronts : ℕ → List Event) (closed : Closed B) (parts : List (List Event)) → made.bank ≡ opened.bank → made.book ≡ opened.book → length made.cpus ≡ length opened.cpus → ((k : ℕ) (p : Processor B) → slice_get made.cpus k ≡ Some p → IsTracedAt k p (fronts k)) → IsClosedMachine made closed → ((k : ℕ) (part : List Event) → slice_get parts k ≡ Some part → (k < length opened.cpus) × ((stop : Vec Event Global) → slice_get closed.stops.items k ≡ Some stop → part ≡ fronts k ++ stop.items)) → ArePartsOfRuns opened closed parts
  closed_are_parts opened made fronts closed parts bank book many traced closes are =
      let last = closes.last in
      let found : (cpu : ℕ) (part : List Event) → slice_get parts cpu ≡ Some part → (d : Driven B) × ((slice_get last cpu ≡ Some d) × IsTracedAt cpu d.cpu part) = λ cpu part at.
      let x = are cpu part at in
      let e = ended_at made closed closes cpu (omega (arith, x.0, many)) in
      let s = e.ends.stops in
      let now = traced_done cpu (IsMailed e.was.cpu.threads) 258 e.was.cpu e.now.cpu s.room s.part s.none s.does.ran s.does.traced (fronts cpu) (traced cpu e.was.cpu e.cpu_at) in
      let items : fronts cpu ++ s.part.items ≡ part = ap (λ (es : List Event). fronts cpu ++ es) (sym s.grown) ∙ sym (x.1 e.stop e.stop_at) in
      let F : List Event → Type 0 = λ es. IsTracedAt cpu e.now.cpu es in
      (e.now, (e.now_at, subst F items now)) in
      let T : BankId → Type 0 = λ b. ArePartsOfOneRun b (length opened.cpus) closed.tokens parts in
      let N : ℕ → Type 0 = λ n. ArePartsOfOneRun made.bank n closed.tokens parts in
      let S : Shelf → Type 0 = λ b. ArePartsOfOneMailRun b closed.messages.items parts in
      record {
        tokens = subst T bank (subst N many (one_run made.bank (length made.cpus) (map (λ (d : Driven B). d.cpu.seat) last) closed.tokens parts closes.tokens (λ cpu part at.
            let f = found cpu part at in
            (f.0.cpu.seat, (slice_get-map (λ (d : Driven B). d.cpu.seat) last cpu ∙ ap (option_map (λ (d : Driven B). d.cpu.seat)) f.1.0, f.1.1.seat, f.1.1.tokens)))));
        messages = subst S book (one_mail_run made.book (map (λ (d : Driven B). d.cpu.post.seat) last) closed.messages.items parts closes.messages (λ cpu part at.
            let f = found cpu part at in
            (f.0.cpu.post.seat, (slice_get-map (λ (d : Driven B). d.cpu.post.seat) last cpu ∙ ap (option_map (λ (d : Driven B). d.cpu.post.seat)) f.1.0, f.1.1.desk, f.1.1.mails))));
      }

  -- the events of the trace of each processor
  abbrev pub fronts_of : List (Driven B) → ℕ → List Event
  fronts_of driven k = option_map_or (λ (d : Driven B). d.trace.items) (slice_get driven k) []

  pub front_is : (driven : List (Driven B)) (k : ℕ) (d : Driven B) → slice_get driven k ≡ Some d → fronts_of driven k ≡ d.trace.items
  front_is driven k d at = ap (λ (o : Option (Driven B)). option_map_or (λ (e : Driven B). e.trace.items) o []) at

  -- processors that were driven from their opening on are traced in their traces
  pub by_own_traces : (polled : B → Answer → Ask → B → Type 0) (answers : CpuId → ℕ → Bool → Type 0) (limits : Limits) (opened driven : Rig B) → AreJustOpened opened → IsDrivenMachine polled answers limits opened driven → (k : ℕ) (p : Processor B) → slice_get driven.cpus k ≡ Some p → IsTracedAt k p (fronts_of driven.driven k)
  by_own_traces polled answers limits opened driven opens drives k p at =
      let Is : Driven B → Driven B → Type 0 = λ d e. IsDriven polled answers opened.bank limits d e e.ending in
      let here : slice_get (processors driven.driven) k ≡ Some p = ap (λ (cpus : List (Processor B)). slice_get cpus k) (sym drives.news) ∙ at in
      let e = driven_at driven.driven k p here in
      let d = zip_get Is opened.driven driven.driven drives.driven k e.0 e.1.0 in
      let o = opens.each k d.0 d.1.0 in
      let F : List Event → Type 0 = λ es. IsTracedAt k d.0.cpu es in
      let before : IsTracedAt k d.0.cpu d.0.trace.items = subst F (sym o.1.fresh.trace) (traced_opened opened.bank opened.book k o.0 d.0.cpu o.1.opened) in
      let now = traced_driven polled answers limits opened.bank k d.0 e.0 d.1.1 before in
      let G : List Event → Type 0 = λ es. IsTracedAt k e.0.cpu es in
      let H : Processor B → Type 0 = λ q. IsTracedAt k q (fronts_of driven.driven k) in
      subst H e.1.1 (subst G (sym (front_is driven.driven k e.0 e.1.0)) now)

  -- a machine has as many processors when it was driven
  pub driven_many : (polled : B → Answer → Ask → B → Type 0) (answers : CpuId → ℕ → Bool → Type 0) (limits : Limits) (opened driven : Rig B) → IsDrivenMachine polled answers limits opened driven → length driven.cpus ≡ length opened.cpus
  driven_many polled answers limits opened driven drives =
      let Is : Driven B → Driven B → Type 0 = λ d e. IsDriven polled answers opened.bank limits d e e.ending in
      ap length drives.news ∙ long_processors driven.driven ∙ zip_long Is opened.driven driven.driven drives.driven ∙ sym (long_processors opened.driven) ∙ sym (ap length drives.olds)

  -- the trace that a processor closed with is that of its turns
  pub trace_at : (m : Rig B) (closed : Closed B) (closes : IsClosedMachine m closed) (k : ℕ) (trace : KeptTrace) → slice_get closed.traces.items k ≡ Some trace → k < length m.cpus → fronts_of m.driven k ≡ trace.items
  trace_at m closed closes k trace at less =
      let e = ended_at m closed closes k less in
      let there : slice_get closed.traces.items k ≡ Some e.now.trace = ap (λ (ts : List KeptTrace). slice_get ts k) closes.traces ∙ slice_get-map (λ (d : Driven B). d.trace) closes.last k ∙ ap (option_map (λ (d : Driven B). d.trace)) e.now_at in
      let is : e.now.trace ≡ trace = some_same e.now.trace trace (slice_get closed.traces.items k) there at in
      front_is m.driven k e.was e.was_at ∙ ap (λ (d : Driven B). d.trace.items) (sym e.ends.rest) ∙ ap (λ (v : KeptTrace). v.items) is

  pub drives_are_parts : (polled : B → Answer → Ask → B → Type 0) (answers : CpuId → ℕ → Bool → Type 0) (limits : Limits) (opened driven : Rig B) (closed : Closed B) → AreJustOpened opened → IsDrivenMachine polled answers limits opened driven → IsClosedMachine driven closed → ArePartsOfRuns opened closed (parts_of closed.traces.items closed.stops.items)
  drives_are_parts polled answers limits opened driven closed opens drives closes =
      let many = driven_many polled answers limits opened driven drives in
      closed_are_parts opened driven (fronts_of driven.driven) closed (parts_of closed.traces.items closed.stops.items) drives.bank drives.book many (by_own_traces polled answers limits opened driven opens drives) closes (λ k part at.
      let x = parts_at closed.traces.items closed.stops.items k part at in
      let long = ap length closes.cpus ∙ long_processors driven.driven in
      let less : k < length driven.cpus = omega (arith, long, closes.ended.stops_are, slice_get_within closed.stops.items k x.1.0 x.1.1.1.0) in (
        omega (arith, less, many),
        λ stop here.
            let same : x.1.0 ≡ stop = some_same x.1.0 stop (slice_get closed.stops.items k) x.1.1.1.0 here in
            x.1.1.1.1 ∙ ap (λ (v : Vec Event Global). x.0.items ++ v.items) same ∙ ap (λ (es : List Event). es ++ stop.items) (sym (trace_at driven closed closes k x.0 x.1.1.0 less)),
      ))

-- the processors of a script's machine as it is opened
pub script_opened : (script : Script) (opened : Rig Scripted) → IsOpenedScript script opened → AreJustOpened opened
script_opened script opened opens = record {
  cpus = opens.cpus;
  each = λ k d at.
      let here : slice_get opened.cpus k ≡ Some d.cpu = ap (λ (cpus : List (Processor Scripted)). slice_get cpus k) opens.cpus ∙ processor_at opened.driven k d at in
      (bodies_on k script.threads, record { opened = opens.each k d.cpu here; fresh = opens.fresh k d at });
}

pub threads_are_parts : (answers : CpuId → ℕ → Bool → Type 0) (limits : Limits) (script : Script) (opened driven : Rig Scripted) (closed : Closed Scripted) → IsOpenedScript script opened → IsDrivenMachine IsPolled answers limits opened driven → IsClosedMachine driven closed → ArePartsOfRuns opened closed (parts_of closed.traces.items closed.stops.items)
threads_are_parts answers limits script opened driven closed opens drives closes = drives_are_parts IsPolled answers limits opened driven closed (script_opened script opened opens) drives closes
