use Rattle.std.proofs.Common.{◌≡◌, ℕ, ◌<◌, List, [], ◌∷◌, ◌++◌, length, refl, ap, sym, ◌∙◌, subst, arith}
use Rattle.std.specs.Prelude.{All, filter, Vec, Some, slice_get}
use Rattle.std.specs.declared.alloc.Global.{Global}
use Rattle.std.proofs.lemmas.List.Elements.{All-append, All-nil, filter-append}
use Rattle.std.proofs.lemmas.Option.{get_or_from_slice_get, slice_get_within}
use Rattle.lwkt_base.specs.Holding.{Holding}
use Rattle.lwkt_base.specs.declared.asks.Ask.{Ask}
use Rattle.lwkt_base.specs.declared.asks.Answer.{Answer}
use Rattle.lwkt_base.specs.declared.names.CpuId.{CpuId}
use Rattle.lwkt_core.specs.declared.events.Event.{Event}
use Rattle.lwkt_table.specs.declared.seats.Deed.{Deed}
use Rattle.lwkt_core.specs.Events.{cpu_of}
use Rattle.lwkt_table.specs.History.{events_by, events_in}
use Rattle.lwkt_table.proofs.HistoryLemmas.{events_by-grows}
use Rattle.lwkt_cpu.specs.Traced.{is_of_message, TracesMail}
use Rattle.lwkt_base.specs.declared.owners.MsgEnd.{MsgEnd}
use Rattle.lwkt_bank.specs.declared.seats.CpuSeat.{CpuSeat}
use Rattle.lwkt_bank.specs.Gathered.{IsNew}
use Rattle.lwkt_bank.specs.Seats.{BankId, past_of, events_of}
use Rattle.lwkt_hold.specs.Runs.{Ran}
use Rattle.lwkt_hold.specs.Steps.{is_of_token, AreTraced}
use Rattle.lwkt_hold.proofs.RunMoves.{AreTraced-append}
use Rattle.lwkt_core.specs.Trace.{end_of}
use Rattle.lwkt_msg.specs.Book.{mail_at}
use Rattle.lwkt_msg.specs.Desks.{Desk, Shelf, desk_cpu, past_of as mail_past, events_of as mail_of, IsOpened as IsOpenedDesk, AreClosed}
use Rattle.lwkt_msg.specs.Views.{seat_cpu}
use Rattle.lwkt_port.specs.Posts.{IsSamePost}
use Rattle.lwkt_cpu.specs.declared.answers.Turned.{Turned}
use Rattle.lwkt_cpu.proofs.WakeMoves.{post_none, post_then}
use Rattle.lwkt_cpu.specs.Processors.{Processor}
use Rattle.lwkt_cpu.specs.Turning.{IsOfThread}
use Rattle.lwkt_drive.specs.Appending.{AppendsTurns}
use Rattle.lwkt_drive.specs.Traced.{TracesSeat, IsMailTraced, ArePartsOfOneMailRun, TracesArePartsOfOneRun}

pub traced_new : (s : CpuSeat) → IsNew s → TracesSeat s []
traced_new s new = record {
  in_trace = let F : List Deed → Type 0 = λ past. AreTraced (events_by s.cpu.0 past) [] in subst F (sym new.past) refl;
  own = All-nil (λ (e : Event). cpu_of e ≡ s.cpu.0);
}

-- each processor's part of the history is what its trace has
pub traced_part : (history : List Deed) (seats : List CpuSeat) (cpu : ℕ) (trace : List Event) (s : CpuSeat) → All (λ (x : CpuSeat). events_of x ≡ events_by x.cpu.0 history) seats → slice_get seats cpu ≡ Some s → s.cpu.0 ≡ cpu → TracesSeat s trace → AreTraced (events_by cpu history) (filter is_of_token trace) × All (λ e. cpu_of e ≡ cpu) trace
traced_part history seats cpu trace s all at same traced =
    let F : CpuSeat → Type 0 = λ x. events_of x ≡ events_by x.cpu.0 history in
    let here : events_of s ≡ events_by s.cpu.0 history = subst F (get_or_from_slice_get seats cpu s s at) (all cpu s (slice_get_within seats cpu s at)) in
    let N : ℕ → Type 0 = λ k. AreTraced (events_by k history) (filter is_of_token trace) in
    let E : List Event → Type 0 = λ es. AreTraced es (filter is_of_token trace) in
    let C : ℕ → Type 0 = λ k. All (λ (e : Event). cpu_of e ≡ k) trace in
    (subst N same (subst E here traced.in_trace), subst C same traced.own)

-- what was done more, wherever it was traced: a processor's trace that had all that its seat did, with these events more, has it afterwards
pub traced_more : (P : Holding → Type 0) (most : ℕ) (a b : CpuSeat) (t u : Vec Event Global) (r : Ran P most a b t u) (trace : List Event) → TracesSeat a trace → TracesSeat b (trace ++ r.done)
traced_more P most a b t u ran trace traced =
    let grown : events_of b ≡ events_of a ++ events_in ran.deeds = ap (λ (k : CpuId). events_by k.0 (past_of b)) ran.cpu ∙ events_by-grows a.cpu.0 (past_of a) ran.deeds (past_of b) ran.grows ran.mine in
    let E : List Event → Type 0 = λ es. AreTraced es (filter is_of_token (trace ++ ran.done)) in
    let S : List Event → Type 0 = λ xs. AreTraced (events_of a ++ events_in ran.deeds) xs in
    let C : CpuId → Type 0 = λ k. All (λ (e : Event). cpu_of e ≡ k.0) (trace ++ ran.done) in
    record {
      in_trace = subst E (sym grown) (subst S (sym (filter-append is_of_token trace ran.done)) (AreTraced-append (events_of a) (events_in ran.deeds) (filter is_of_token trace) (filter is_of_token ran.done) traced.in_trace ran.in_trace));
      own = subst C (sym ran.cpu) (All-append (λ (e : Event). cpu_of e ≡ a.cpu.0) trace ran.done traced.own ran.own);
    }

pub traced_ran : (P : Holding → Type 0) (most : ℕ) (a b : CpuSeat) (t u : Vec Event Global) → Ran P most a b t u → TracesSeat a t.items → TracesSeat b u.items
traced_ran P most a b t u ran traced =
    let F : List Event → Type 0 = λ es. TracesSeat b es in
    subst F (sym ran.trace) (traced_more P most a b t u ran t.items traced)

-- what was traced into an empty room
done_is : {P : Holding → Type 0} {most : ℕ} (a b : CpuSeat) (room part : Vec Event Global) → room.items ≡ [] → (r : Ran P most a b room part) → r.done ≡ part.items
done_is a b room part none r = sym (r.trace ∙ ap (λ (es : List Event). es ++ r.done) none)

-- what was done and traced into an empty room is in the trace
pub traced_kept : (P : Holding → Type 0) (most : ℕ) (a b : CpuSeat) (room part : Vec Event Global) → room.items ≡ [] → Ran P most a b room part → (t u : List Event) → u ≡ t ++ part.items → TracesSeat a t → TracesSeat b u
traced_kept P most a b room part none ran t u grown traced =
    let F : List Event → Type 0 = λ es. TracesSeat b es in
    subst F (ap (λ (es : List Event). t ++ es) (done_is a b room part none ran) ∙ sym grown) (traced_more P most a b room part ran t traced)

-- turns, each traced into an empty room and kept, are in the trace
pub traced_made : {B : Type 0} (polled : B → Answer → Ask → B → Type 0) (bank : BankId) (old new : Processor B) (t u : List Event) (turns : List Turned) → AppendsTurns polled bank old new t u turns → TracesSeat old.seat t → TracesSeat new.seat u
traced_made {B} polled bank old new t u [] made traced =
    let F : Processor B → Type 0 = λ p. TracesSeat p.seat u in
    let G : List Event → Type 0 = λ es. TracesSeat old.seat es in
    subst F (sym made.0) (subst G (sym made.1) traced)
traced_made polled bank old new t u (turned ∷ turns) made traced =
    let k = made.1.1.0 in
    let step : TracesSeat made.0.seat made.1.0 = traced_kept (IsOfThread old.threads made.0.threads) 4096 old.seat made.0.seat k.room k.part k.none k.does.ran t made.1.0 k.grown traced in
    traced_made polled bank made.0 new made.1.0 u turns made.1.1.1 step

-- the same of messages
pub mail_more : (a b : Desk) (t u : List Event) (traced : TracesMail a b t u) (trace : List Event) → IsMailTraced a trace → IsMailTraced b (trace ++ traced.done)
mail_more a b t u traced trace before =
    let same : desk_cpu b ≡ desk_cpu a = ap seat_cpu traced.same.kind in
    let grown : mail_of b ≡ mail_of a ++ events_in traced.deeds = ap (λ (k : CpuId). events_by k.0 (mail_past b)) same ∙ events_by-grows (desk_cpu a).0 (mail_past a) traced.deeds (mail_past b) traced.grows traced.mine in
    filter-append is_of_message trace traced.done ∙ ap (λ xs. xs ++ filter is_of_message traced.done) before ∙ ap (λ xs. mail_of a ++ xs) traced.traced ∙ sym grown

pub mail_stays : (a b : Desk) (t u : List Event) → TracesMail a b t u → IsMailTraced a t → IsMailTraced b u
mail_stays a b t u traced before =
    let F : List Event → Type 0 = λ es. IsMailTraced b es in
    subst F (sym traced.trace_is) (mail_more a b t u traced t before)

pub mail_new : (cpu : ℕ) (book : Shelf) (d : Desk) → IsOpenedDesk cpu book d → IsMailTraced d []
mail_new cpu book d new = sym new.no_events

-- the same of messages
pub mail_kept : (a b : Desk) (room part : Vec Event Global) → room.items ≡ [] → TracesMail a b room.items part.items → (t u : List Event) → u ≡ t ++ part.items → IsMailTraced a t → IsMailTraced b u
mail_kept a b room part none mail t u grown traced =
    let F : List Event → Type 0 = λ es. IsMailTraced b es in
    let done : mail.done ≡ part.items = sym (mail.trace_is ∙ ap (λ (es : List Event). es ++ mail.done) none) in
    subst F (ap (λ (es : List Event). t ++ es) done ∙ sym grown) (mail_more a b room.items part.items mail t traced)

pub mail_made : {B : Type 0} (polled : B → Answer → Ask → B → Type 0) (bank : BankId) (old new : Processor B) (t u : List Event) (turns : List Turned) → AppendsTurns polled bank old new t u turns → IsMailTraced old.post.seat t → IsMailTraced new.post.seat u
mail_made {B} polled bank old new t u [] made traced =
    let F : Processor B → Type 0 = λ p. IsMailTraced p.post.seat u in
    let G : List Event → Type 0 = λ es. IsMailTraced old.post.seat es in
    subst F (sym made.0) (subst G (sym made.1) traced)
mail_made polled bank old new t u (turned ∷ turns) made traced =
    let k = made.1.1.0 in
    mail_made polled bank made.0 new made.1.0 u turns made.1.1.1 (mail_kept old.post.seat made.0.post.seat k.room k.part k.none k.does.traced t made.1.0 k.grown traced)

-- each processor's part of the history are its trace's events of messages
pub mail_part : (history : List Deed) (seats : List Desk) (cpu : ℕ) (trace : List Event) (d : Desk) → All (λ (x : Desk). mail_of x ≡ events_by (desk_cpu x).0 history) seats → slice_get seats cpu ≡ Some d → (desk_cpu d).0 ≡ cpu → IsMailTraced d trace → filter is_of_message trace ≡ events_by cpu history
mail_part history seats cpu trace d all at same traced =
    let F : Desk → Type 0 = λ x. mail_of x ≡ events_by (desk_cpu x).0 history in
    let here : mail_of d ≡ events_by (desk_cpu d).0 history = subst F (get_or_from_slice_get seats cpu d d at) (all cpu d (slice_get_within seats cpu d at)) in
    traced ∙ here ∙ ap (λ k. events_by k history) same

pub one_mail_run : (book : Shelf) (seats : List Desk) (ends : List MsgEnd) (traces : List (List Event)) → AreClosed book seats ends
    → ((cpu : ℕ) (trace : List Event) → slice_get traces cpu ≡ Some trace → (d : Desk) × ((slice_get seats cpu ≡ Some d) × ((desk_cpu d).0 ≡ cpu) × IsMailTraced d trace))
    → ArePartsOfOneMailRun book ends traces
one_mail_run book seats ends traces is traced = record {
  history = is.history;
  last = is.mails;
  passes = is.is_history.passes;
  run = is.is_history.run;
  as_many = is.as_many;
  ends_are = λ m end at.
      let within = slice_get_within ends m end at in
      let less : m < length book.specs = omega (arith, within, is.as_many) in
      let F : MsgEnd → Type 0 = λ x. x ≡ end_of (mail_at is.mails m).msg in
      subst F (get_or_from_slice_get ends m end end at) (is.each m end less).end_is;
  traced = λ cpu trace at. let d = traced cpu trace at in mail_part is.history seats cpu trace d.0 is.is_history.events d.1.0 d.1.1 d.1.2;
  others = is.is_history.no_others;
}

-- the turns of a processor leave its seat at the book the same processor's
pub mail_same : {B : Type 0} (polled : B → Answer → Ask → B → Type 0) (bank : BankId) (old new : Processor B) (t u : List Event) (turns : List Turned) → AppendsTurns polled bank old new t u turns → desk_cpu new.post.seat ≡ desk_cpu old.post.seat
mail_same {B} polled bank old new t u [] made = ap (λ (p : Processor B). desk_cpu p.post.seat) made.0
mail_same polled bank old new t u (turned ∷ turns) made = mail_same polled bank made.0 new made.1.0 u turns made.1.1.1 ∙ ap seat_cpu made.1.1.0.does.traced.same.kind

pub one_run : TracesArePartsOfOneRun
one_run bank cpus seats closed traces is traced = record {
  history = is.history;
  last = is.is_history.last;
  passes = is.is_history.passes;
  run = is.is_history.run;
  ends = is.is_history.ends;
  traced = λ cpu trace at. let s = traced cpu trace at in traced_part is.history seats cpu trace s.0 is.is_history.events s.1.0 s.1.1 s.1.2;
  others = is.is_history.others;
}

-- turns that are kept leave the ports the same ones
pub kept_ports : {B : Type 0} (polled : B → Answer → Ask → B → Type 0) (bank : BankId) (old new : Processor B) (t u : List Event) (turns : List Turned) → AppendsTurns polled bank old new t u turns → IsSamePost old.post new.post
kept_ports {B} polled bank old new t u [] made =
    let F : Processor B → Type 0 = λ p. IsSamePost old.post p.post in
    subst F (sym made.0) (post_none old.post)
kept_ports polled bank old new t u (turned ∷ turns) made = post_then old.post made.0.post new.post made.1.1.0.does.ports (kept_ports polled bank made.0 new made.1.0 u turns made.1.1.1)
