use Rattle.std.proofs.Common.{◌++◌, ◌∙◌, List, length, take, drop, sym, subst}
use Rattle.std.specs.Prelude.{All, OnErr, OnOk}
use Rattle.std.proofs.lemmas.Result.{on_ok_weaker}
use Rattle.lwkt_bank.specs.Seats.{id_of, cpus_of}
use Rattle.lwkt_drive.specs.declared.driven.Driven.{Driven}
use Rattle.lwkt_drive.specs.Course.{IsAtTables}
use Rattle.lwkt_machine.specs.Ended.{AreOver, AreSameCpus, AreStopped, AreStoppedShort}
use Rattle.lwkt_machine.specs.Machines.{Has, Rig, Lasts, processors, AreOneMachine}
use Rattle.lwkt_lane.proofs.PlaceMoves.{refilled}
use Rattle.lwkt_machine.proofs.DrivenMoves.{at_tables, each_driven, each_processor}
use Rattle.lwkt_machine.proofs.SameMoves.{parts_same}
use Rattle.lwkt_machine.proofs.StopMoves.{stopped_over}
use Rattle.lwkt_machine.proofs.machines.Machine.stop.Goals as goal

pub stop_all-requires-clause-at : goal.stop_all-requires-clause-at
stop_all-requires-clause-at g c =
    let i = c.self.inside in
    let F : List (Driven g.row.B.Denot) → Type 0 = λ xs. All (IsAtTables {B = g.row.B.Denot} (id_of i.bank) i.book.table) xs in
    subst F (sym c.deref_mut.ensures.value) (at_tables (id_of i.bank) i.book i.cpus.items c.self.invariant.each)

pub stop_all-requires-clause-kept : goal.stop_all-requires-clause-kept
stop_all-requires-clause-kept g c =
    let i = c.self.inside in
    let F : List (Driven g.row.B.Denot) → Type 0 = λ xs. All (Lasts {B = g.row.B.Denot} g.B.Lasting.kept) xs in
    subst F (sym c.deref_mut.ensures.value) (each_driven (Has {B = g.row.B.Denot} g.B.Lasting.kept) i.cpus.items c.self.invariant.lasting)

pub invariant_of-self : goal.invariant_of-self
invariant_of-self g c =
    let i = c.self.inside in
    let news : List (Driven g.row.B.Denot) = c.stop_all.new.cpus in
    let back = refilled {A = Driven g.row.B.Denot} news i.cpus.items i.cpus.len (c.stop_all.ensures.as_many ∙ c.deref_mut.ensures.len) in
    let F : List (Driven g.row.B.Denot) → Type 0 = λ xs. AreOneMachine {B = g.row.B.Denot} g.B.Lasting.kept (cpus_of i.bank) (id_of i.bank) i.book (processors xs) in
    let G : List (Driven g.row.B.Denot) → Type 0 = λ xs. AreSameCpus (processors xs) (processors news) in
    subst F (sym back) (parts_same g.B.Lasting.kept (cpus_of i.bank) (id_of i.bank) i.book (processors i.cpus.items) (processors news) (subst G c.deref_mut.ensures.value c.stop_all.ensures.same) (each_processor (Has {B = g.row.B.Denot} g.B.Lasting.kept) news c.stop_all.ensures.kept) c.self.invariant)

pub returns-clause-ok : goal.returns-clause-ok
returns-clause-ok g c =
    let i = c.self.inside in
    let news : List (Driven g.row.B.Denot) = c.stop_all.new.cpus in
    let back = refilled {A = Driven g.row.B.Denot} news i.cpus.items i.cpus.len (c.stop_all.ensures.as_many ∙ c.deref_mut.ensures.len) in
    let O : List (Driven g.row.B.Denot) → Type 0 = λ xs. OnOk c.stop_all.result (AreStopped xs news) in
    let F : List (Driven g.row.B.Denot) → Type 0 = λ xs. OnOk c.stop_all.result (AreStopped i.cpus.items xs) in
    let H : Rig g.row.B.Denot → Type 0 = λ m. OnOk c.stop_all.result (AreStopped m.driven (take i.cpus.len (news ++ drop (length news) i.cpus.items))) in
    subst H c.self.view_is (subst F (sym back) (subst O c.deref_mut.ensures.value c.stop_all.ensures.ok))

pub returns-clause-over : goal.returns-clause-over
returns-clause-over g c =
    let i = c.self.inside in
    let olds : List (Driven g.row.B.Denot) = c.deref_mut.result.now in
    let news : List (Driven g.row.B.Denot) = c.stop_all.new.cpus in
    let back = refilled {A = Driven g.row.B.Denot} news i.cpus.items i.cpus.len (c.stop_all.ensures.as_many ∙ c.deref_mut.ensures.len) in
    let F : List (Driven g.row.B.Denot) → Type 0 = λ xs. OnOk c.stop_all.result (AreOver (processors xs)) in
    subst F (sym back) (on_ok_weaker {P = AreStopped olds news} {Q = AreOver (processors news)} c.stop_all.result (λ yes. stopped_over olds news yes) c.stop_all.ensures.ok)

pub returns-clause-err : goal.returns-clause-err
returns-clause-err g c =
    let i = c.self.inside in
    let news : List (Driven g.row.B.Denot) = c.stop_all.new.cpus in
    let back = refilled {A = Driven g.row.B.Denot} news i.cpus.items i.cpus.len (c.stop_all.ensures.as_many ∙ c.deref_mut.ensures.len) in
    let O : List (Driven g.row.B.Denot) → Type 0 = λ xs. OnErr c.stop_all.result (AreStoppedShort xs news) in
    let F : List (Driven g.row.B.Denot) → Type 0 = λ xs. OnErr c.stop_all.result (AreStoppedShort i.cpus.items xs) in
    let H : Rig g.row.B.Denot → Type 0 = λ m. OnErr c.stop_all.result (AreStoppedShort m.driven (take i.cpus.len (news ++ drop (length news) i.cpus.items))) in
    subst H c.self.view_is (subst F (sym back) (subst O c.deref_mut.ensures.value c.stop_all.ensures.err))

pub returns-clause-same : goal.returns-clause-same
returns-clause-same g c =
    let i = c.self.inside in
    let news : List (Driven g.row.B.Denot) = c.stop_all.new.cpus in
    let back = refilled {A = Driven g.row.B.Denot} news i.cpus.items i.cpus.len (c.stop_all.ensures.as_many ∙ c.deref_mut.ensures.len) in
    let O : List (Driven g.row.B.Denot) → Type 0 = λ xs. AreSameCpus (processors xs) (processors news) in
    let F : List (Driven g.row.B.Denot) → Type 0 = λ xs. AreSameCpus (processors i.cpus.items) (processors xs) in
    let H : Rig g.row.B.Denot → Type 0 = λ m. AreSameCpus m.cpus (processors (take i.cpus.len (news ++ drop (length news) i.cpus.items))) in
    subst H c.self.view_is (subst F (sym back) (subst O c.deref_mut.ensures.value c.stop_all.ensures.same))
