use Rattle.std.proofs.Common.{◌++◌, ◌∙◌, List, length, take, drop, sym, subst}
use Rattle.std.specs.Prelude.{IfOk, OnErr}
use Rattle.lwkt_bank.specs.Seats.{id_of, cpus_of}
use Rattle.lwkt_drive.specs.declared.driven.Driven.{Driven}
use Rattle.lwkt_machine.specs.Machines.{Rig, rig_of, processors, AreOneMachine}
use Rattle.lwkt_machine.specs.Turns.{StaysAt, TurnsKept}
use Rattle.lwkt_lane.proofs.PlaceMoves.{refilled}
use Rattle.lwkt_machine.proofs.machines.Machine.turn_at.Goals as goal

pub turn_kept-requires-clause-whole : goal.turn_kept-requires-clause-whole
turn_kept-requires-clause-whole g c =
    let i = c.self.inside in
    let F : List (Driven g.row.B.Denot) → Type 0 = λ xs. AreOneMachine {B = g.row.B.Denot} g.B.Lasting.kept (cpus_of i.bank) (id_of i.bank) i.book (processors xs) in
    subst F (sym c.deref_mut.ensures.value) c.self.invariant

pub invariant_of-self : goal.invariant_of-self
invariant_of-self g c =
    let i = c.self.inside in
    let news : List (Driven g.row.B.Denot) = c.turn_kept.new.cpus in
    let back = refilled {A = Driven g.row.B.Denot} news i.cpus.items i.cpus.len (c.turn_kept.ensures.as_many ∙ c.deref_mut.ensures.len) in
    let F : List (Driven g.row.B.Denot) → Type 0 = λ xs. AreOneMachine {B = g.row.B.Denot} g.B.Lasting.kept (cpus_of i.bank) (id_of i.bank) i.book (processors xs) in
    subst F (sym back) c.turn_kept.ensures.whole

pub returns-clause-ok : goal.returns-clause-ok
returns-clause-ok g c =
    let i = c.self.inside in
    let k = c.args.cpu in
    let news : List (Driven g.row.B.Denot) = c.turn_kept.new.cpus in
    let back = refilled {A = Driven g.row.B.Denot} news i.cpus.items i.cpus.len (c.turn_kept.ensures.as_many ∙ c.deref_mut.ensures.len) in
    let rig : List (Driven g.row.B.Denot) → Rig g.row.B.Denot = λ xs. rig_of (id_of i.bank) i.book xs in
    let O : List (Driven g.row.B.Denot) → Type 0 = λ xs. IfOk c.turn_kept.result (λ turned. TurnsKept {B = g.row.B.Denot} g.B.Body.polled k (rig xs) (rig news) turned) in
    let F : List (Driven g.row.B.Denot) → Type 0 = λ xs. IfOk c.turn_kept.result (λ turned. TurnsKept {B = g.row.B.Denot} g.B.Body.polled k (rig i.cpus.items) (rig xs) turned) in
    let H : Rig g.row.B.Denot → Type 0 = λ m. IfOk c.turn_kept.result (λ turned. TurnsKept {B = g.row.B.Denot} g.B.Body.polled k m (rig (take i.cpus.len (news ++ drop (length news) i.cpus.items))) turned) in
    subst H c.self.view_is (subst F (sym back) (subst O c.deref_mut.ensures.value c.turn_kept.ensures.ok))

pub returns-clause-err : goal.returns-clause-err
returns-clause-err g c =
    let i = c.self.inside in
    let k = c.args.cpu in
    let news : List (Driven g.row.B.Denot) = c.turn_kept.new.cpus in
    let back = refilled {A = Driven g.row.B.Denot} news i.cpus.items i.cpus.len (c.turn_kept.ensures.as_many ∙ c.deref_mut.ensures.len) in
    let rig : List (Driven g.row.B.Denot) → Rig g.row.B.Denot = λ xs. rig_of (id_of i.bank) i.book xs in
    let O : List (Driven g.row.B.Denot) → Type 0 = λ xs. OnErr c.turn_kept.result (StaysAt {B = g.row.B.Denot} k (rig xs) (rig news)) in
    let F : List (Driven g.row.B.Denot) → Type 0 = λ xs. OnErr c.turn_kept.result (StaysAt {B = g.row.B.Denot} k (rig i.cpus.items) (rig xs)) in
    let H : Rig g.row.B.Denot → Type 0 = λ m. OnErr c.turn_kept.result (StaysAt {B = g.row.B.Denot} k m (rig (take i.cpus.len (news ++ drop (length news) i.cpus.items)))) in
    subst H c.self.view_is (subst F (sym back) (subst O c.deref_mut.ensures.value c.turn_kept.ensures.err))
