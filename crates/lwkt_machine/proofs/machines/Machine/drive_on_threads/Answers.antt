use Rattle.std.proofs.Common.{◌≡◌, ◌++◌, ◌∙◌, List, length, take, drop, refl, sym, subst, None}
use Rattle.std.specs.Prelude.{All, OnErr, Result}
use Rattle.std.specs.List.{AllZip}
use Rattle.lwkt_bank.specs.Seats.{id_of, cpus_of}
use Rattle.lwkt_drive.specs.declared.driven.Driven.{Driven}
use Rattle.lwkt_drive.specs.Course.{IsAtTables, IsDriven}
use Rattle.lwkt_base.specs.declared.memory.OutOfMemory.{OutOfMemory}
use Rattle.lwkt_machine.specs.Drives.{IsAmple, IsDrivenMachine}
use Rattle.lwkt_machine.specs.Machines.{Rig, rig_of, processors, AreOneMachine}
use Rattle.lwkt_machine.proofs.DriveMoves.{driven_whole}
use Rattle.lwkt_machine.proofs.DrivenMoves.{at_tables}
use Rattle.lwkt_lane.proofs.PlaceMoves.{refilled}
use Rattle.lwkt_machine.proofs.machines.Machine.drive_on_threads.Goals.{in-None, in-Some}
use Rattle.lwkt_machine.proofs.machines.Machine.drive_on_threads.Goals as goal

pub drive_on_threads-requires-clause-at : goal.drive_on_threads-requires-clause-at
drive_on_threads-requires-clause-at g c κs within =
    let i = c.self.inside in
    let F : List (Driven g.row.B.Denot) → Type 0 = λ xs. All (IsAtTables {B = g.row.B.Denot} (id_of i.bank) i.book.table) xs in
    subst F (sym c.deref_mut.ensures.value) (at_tables (id_of i.bank) i.book i.cpus.items c.self.invariant.each)

pub invariant_of-self : goal.invariant_of-self
invariant_of-self g c =
    let i = c.self.inside in
    let news : List (Driven g.row.B.Denot) = c.drive_on_threads.new.all in
    let back = refilled {A = Driven g.row.B.Denot} news i.cpus.items i.cpus.len (c.drive_on_threads.auto.all ∙ c.deref_mut.ensures.len) in
    let F : List (Driven g.row.B.Denot) → Type 0 = λ xs. AreOneMachine {B = g.row.B.Denot} g.B.Lasting.kept (cpus_of i.bank) (id_of i.bank) i.book (processors xs) in
    let G : List (Driven g.row.B.Denot) → Type 0 = λ xs. AreOneMachine {B = g.row.B.Denot} g.B.Lasting.kept (cpus_of i.bank) (id_of i.bank) i.book (processors xs) in
    subst F (sym back) (driven_whole {B = g.row.B.Denot} g.B.Body.polled g.B.Lasting.kept (g.met.B.Lasting g.world.𝓛 g.world.𝓜 g.world.𝓡 ((λ s x. x), (λ x. x), (λ x. x), λ x. x)).keeps (g.G.Gate.answers c.args.gate.now) (cpus_of i.bank) (id_of i.bank) i.book c.args.limits.now c.deref_mut.result.now news c.drive_on_threads.ensures.driven c.drive_on_threads.ensures.at (subst G (sym c.deref_mut.ensures.value) c.self.invariant))

pub returns-clause-driven : goal.returns-clause-driven
returns-clause-driven g c =
    let i = c.self.inside in
    let olds : List (Driven g.row.B.Denot) = i.cpus.items in
    let news : List (Driven g.row.B.Denot) = c.drive_on_threads.new.all in
    let back = refilled {A = Driven g.row.B.Denot} news olds i.cpus.len (c.drive_on_threads.auto.all ∙ c.deref_mut.ensures.len) in
    let R : Driven g.row.B.Denot → Driven g.row.B.Denot → Type 0 = λ old new. IsDriven {B = g.row.B.Denot} g.B.Body.polled (g.G.Gate.answers c.args.gate.now) (id_of i.bank) c.args.limits.now old new new.ending in
    let G : List (Driven g.row.B.Denot) → Type 0 = λ xs. AllZip R xs news in
    let F : List (Driven g.row.B.Denot) → Type 0 = λ xs. IsDrivenMachine {B = g.row.B.Denot} g.B.Body.polled (g.G.Gate.answers c.args.gate.now) c.args.limits.now (rig_of (id_of i.bank) i.book olds) (rig_of (id_of i.bank) i.book xs) in
    let H : Rig g.row.B.Denot → Type 0 = λ m. IsDrivenMachine {B = g.row.B.Denot} g.B.Body.polled (g.G.Gate.answers c.args.gate.now) c.args.limits.now m (rig_of (id_of i.bank) i.book (take i.cpus.len (news ++ drop (length news) olds))) in
    subst H c.self.view_is (subst F (sym back) (record { bank = refl; book = refl; driven = subst G c.deref_mut.ensures.value c.drive_on_threads.ensures.driven; olds = refl; news = refl }))

pub returns-clause-err : goal.returns-clause-err
returns-clause-err g c =
    let i = c.self.inside in
    let news : List (Driven g.row.B.Denot) = c.drive_on_threads.new.all in
    let all : List (Driven g.row.B.Denot) = take i.cpus.len (news ++ drop (length news) i.cpus.items) in
    let A : List (Driven g.row.B.Denot) → Type 0 = λ xs. All (λ d. IsAmple d.ending) xs in
    let O : Result (Unit {0}) OutOfMemory → Type 0 = λ r. OnErr r (¬ A all) in
    elim c.match-refusal_among.branch [
      | in-None w ↦ subst O (sym w.result-is) tt
      | in-Some w ↦ subst O (sym w.result-is) (λ ample.
          let none : c.refusal_among.result ≡ None = c.refusal_among.ensures.1 (subst A (sym c.deref.ensures.value) ample) in
          let some = w.in-Some.is in
          absurd cc)
    ]
