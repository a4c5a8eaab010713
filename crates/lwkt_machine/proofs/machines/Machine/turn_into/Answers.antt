use Rattle.std.proofs.Common.{◌++◌, ◌∙◌, List, length, take, drop, sym, subst}
use Rattle.std.specs.List.{AllZip}
use Rattle.lwkt_bank.specs.Seats.{id_of, cpus_of}
use Rattle.lwkt_drive.specs.declared.driven.Driven.{Driven}
use Rattle.lwkt_machine.specs.Machines.{Rig, rig_of, processors, AreOneMachine}
use Rattle.lwkt_machine.specs.Sights.{KeepsLog}
use Rattle.lwkt_machine.specs.Turns.{TurnsAt}
use Rattle.lwkt_lane.proofs.PlaceMoves.{refilled}
use Rattle.lwkt_machine.proofs.DrivenMoves.{logs_none}
use Rattle.lwkt_machine.proofs.machines.Machine.turn_into.Goals as goal

pub turn_traced-requires-clause-whole : goal.turn_traced-requires-clause-whole
turn_traced-requires-clause-whole g c =
    let i = c.self.inside in
    let F : List (Driven g.row.B.Denot) → Type 0 = λ xs. AreOneMachine {B = g.row.B.Denot} g.B.Lasting.kept (cpus_of i.bank) (id_of i.bank) i.book (processors xs) in
    subst F (sym c.deref_mut.ensures.value) c.self.invariant

pub invariant_of-self : goal.invariant_of-self
invariant_of-self g c =
    let i = c.self.inside in
    let news : List (Driven g.row.B.Denot) = c.turn_traced.new.cpus in
    let back = refilled {A = Driven g.row.B.Denot} news i.cpus.items i.cpus.len (c.turn_traced.ensures.as_many ∙ c.deref_mut.ensures.len) in
    let F : List (Driven g.row.B.Denot) → Type 0 = λ xs. AreOneMachine {B = g.row.B.Denot} g.B.Lasting.kept (cpus_of i.bank) (id_of i.bank) i.book (processors xs) in
    subst F (sym back) c.turn_traced.ensures.whole

pub returns-clause-ok : goal.returns-clause-ok
returns-clause-ok g c =
    let i = c.self.inside in
    let k = c.args.cpu in
    let turned = c.turn_traced.result in
    let u = c.turn_traced.new.trace in
    let e = c.reserve.ensures in
    let news : List (Driven g.row.B.Denot) = c.turn_traced.new.cpus in
    let back = refilled {A = Driven g.row.B.Denot} news i.cpus.items i.cpus.len (c.turn_traced.ensures.as_many ∙ c.deref_mut.ensures.len) in
    let rig : List (Driven g.row.B.Denot) → Rig g.row.B.Denot = λ xs. rig_of (id_of i.bank) i.book xs in
    let O : List (Driven g.row.B.Denot) → Type 0 = λ xs. TurnsAt {B = g.row.B.Denot} g.B.Body.polled k (rig xs) (rig news) c.args.trace.now u turned in
    let made : TurnsAt {B = g.row.B.Denot} g.B.Body.polled k (rig i.cpus.items) (rig news) c.args.trace.now u turned = subst O c.deref_mut.ensures.value (c.turn_traced.ensures.turns c.args.trace.now e.items e.len e.capacity) in
    let F : List (Driven g.row.B.Denot) → Type 0 = λ xs. TurnsAt {B = g.row.B.Denot} g.B.Body.polled k (rig i.cpus.items) (rig xs) c.args.trace.now u turned in
    let H : Rig g.row.B.Denot → Type 0 = λ m. TurnsAt {B = g.row.B.Denot} g.B.Body.polled k m (rig (take i.cpus.len (news ++ drop (length news) i.cpus.items))) c.args.trace.now u turned in
    subst H c.self.view_is (subst F (sym back) made)

pub returns-in_err-reserve-clause-logs : goal.returns-in_err-reserve-clause-logs
returns-in_err-reserve-clause-logs g c = logs_none c.args.self.now.driven

pub returns-clause-logs : goal.returns-clause-logs
returns-clause-logs g c =
    let i = c.self.inside in
    let news : List (Driven g.row.B.Denot) = c.turn_traced.new.cpus in
    let back = refilled {A = Driven g.row.B.Denot} news i.cpus.items i.cpus.len (c.turn_traced.ensures.as_many ∙ c.deref_mut.ensures.len) in
    let O : List (Driven g.row.B.Denot) → Type 0 = λ xs. AllZip KeepsLog xs news in
    let F : List (Driven g.row.B.Denot) → Type 0 = λ xs. AllZip KeepsLog i.cpus.items xs in
    let H : Rig g.row.B.Denot → Type 0 = λ m. AllZip KeepsLog m.driven (take i.cpus.len (news ++ drop (length news) i.cpus.items)) in
    subst H c.self.view_is (subst F (sym back) (subst O c.deref_mut.ensures.value c.turn_traced.ensures.logs))
