use Rattle.std.proofs.Common.{◌≡◌, ◌∙◌, ◌++◌, ℕ, List, length, map, take, drop, refl, sym, subst}
use Rattle.std.specs.Prelude.{All, Vec}
use Rattle.std.specs.declared.alloc.Global.{Global}
use Rattle.lwkt_core.specs.declared.events.Event.{Event}
use Rattle.lwkt_bank.specs.declared.seats.CpuSeat.{CpuSeat}
use Rattle.lwkt_bank.specs.Gathered.{IsClosed}
use Rattle.lwkt_bank.specs.Seats.{id_of}
use Rattle.lwkt_msg.specs.Desks.{Desk, AreClosed}
use Rattle.lwkt_cpu.specs.Processors.{Processor}
use Rattle.lwkt_drive.specs.declared.driven.Driven.{Driven}
use Rattle.lwkt_drive.specs.Course.{IsAtTables}
use Rattle.lwkt_machine.specs.Ended.{HaveEnded, AreOver, AreRetired}
use Rattle.lwkt_machine.specs.Machines.{Has, Rig, AreLawful, Lasts, processors}
use Rattle.lwkt_machine.proofs.DrivenMoves.{at_tables, each_driven}
use Rattle.lwkt_lane.proofs.PlaceMoves.{refilled}
use Rattle.lwkt_machine.proofs.RetireMoves.{seats_ready, desks_of, kept_back}
use Rattle.lwkt_machine.proofs.RowMoves.{lawful_closed}
use Rattle.lwkt_machine.proofs.StopMoves.{ended_over}
use Rattle.lwkt_machine.proofs.machines.Machine.close_in.Goals as goal

pub all-seats-requires-clause-over : goal.all-seats-requires-clause-over
all-seats-requires-clause-over g c =
    let i = c.self.inside in
    let news = c.end_all.new.cpus in
    let back = refilled news i.cpus.items i.cpus.len (c.end_all.ensures.as_many ∙ c.deref_mut.ensures.len) in
    let F : List (Driven g.row.B.Denot) → Type 0 = λ xs. AreOver (processors xs) in
    subst F (sym back) (ended_over {B = g.row.B.Denot} c.deref_mut.result.now news c.end_all.new.stops c.end_all.ensures.ended)

pub close_in-tokens-requires-clause-ready : goal.close_in-tokens-requires-clause-ready
close_in-tokens-requires-clause-ready g c =
    let i = c.self.inside in
    let news = c.end_all.new.cpus in
    let back = refilled news i.cpus.items i.cpus.len (c.end_all.ensures.as_many ∙ c.deref_mut.ensures.len) in
    let F : List (Driven g.row.B.Denot) → Type 0 = λ xs. AreRetired xs c.all-seats.result in
    seats_ready {B = g.row.B.Denot} (id_of i.bank) i.book news c.all-seats.result c.end_all.ensures.at (subst F back c.all-seats.ensures)

pub close_in-messages-requires-clause-of_book : goal.close_in-messages-requires-clause-of_book
close_in-messages-requires-clause-of_book g c =
    let i = c.self.inside in
    let news = c.end_all.new.cpus in
    let back = refilled news i.cpus.items i.cpus.len (c.end_all.ensures.as_many ∙ c.deref_mut.ensures.len) in
    let F : List (Driven g.row.B.Denot) → Type 0 = λ xs. AreRetired xs c.all-seats.result in
    desks_of {B = g.row.B.Denot} (id_of i.bank) i.book news c.all-seats.result c.end_all.ensures.at (subst F back c.all-seats.ensures)

pub end_all-requires-clause-at : goal.end_all-requires-clause-at
end_all-requires-clause-at g c =
    let i = c.self.inside in
    let F : List (Driven g.row.B.Denot) → Type 0 = λ xs. All (IsAtTables {B = g.row.B.Denot} (id_of i.bank) i.book.table) xs in
    subst F (sym c.deref_mut.ensures.value) (at_tables (id_of i.bank) i.book i.cpus.items c.self.invariant.each)

pub end_all-requires-clause-kept : goal.end_all-requires-clause-kept
end_all-requires-clause-kept g c =
    let i = c.self.inside in
    let F : List (Driven g.row.B.Denot) → Type 0 = λ xs. All (Lasts {B = g.row.B.Denot} g.B.Lasting.kept) xs in
    subst F (sym c.deref_mut.ensures.value) (each_driven (Has {B = g.row.B.Denot} g.B.Lasting.kept) i.cpus.items c.self.invariant.lasting)

pub returns-clause-lawful : goal.returns-clause-lawful
returns-clause-lawful g c =
    let F : Rig g.row.B.Denot → Type 0 = λ m. AreLawful 0 m.bank.plans c.close_in-tokens.result in
    subst F c.self.view_is (lawful_closed (id_of c.self.inside.bank) _ _ c.close_in-tokens.result c.close_in-tokens.ensures)

pub returns-clause-closed : goal.returns-clause-closed
returns-clause-closed g c =
    let i = c.self.inside in
    let room = c.args.room in
    let news = c.end_all.new.cpus in
    let stopped = c.end_all.new.stops in
    let all = c.all-seats.result in
    let tokens = c.close_in-tokens.result in
    let messages = c.close_in-messages.result in
    let back = refilled news i.cpus.items i.cpus.len (c.end_all.ensures.as_many ∙ c.deref_mut.ensures.len) in
    let stops_back = refilled stopped room.stops.items room.stops.len (c.end_all.auto.stops ∙ c.deref_mut-2.ensures.len) in
    let F : List (Driven g.row.B.Denot) → Type 0 = λ xs. AreRetired xs all in
    let retired : AreRetired news all = subst F back c.all-seats.ensures in
    let G : List (Driven g.row.B.Denot) → Type 0 = λ xs. HaveEnded (length xs) xs news stopped in
    let N : List (Vec Event Global) → Type 0 = λ stops. HaveEnded (length i.cpus.items) i.cpus.items news stops in
    let H : ℕ → Type 0 = λ n. IsClosed (id_of i.bank) n all.seats.items tokens in
    let cpus : List (Processor g.row.B.Denot) = processors i.cpus.items in
    let V : Rig g.row.B.Denot → Type 0 = λ m. m.cpus ≡ processors m.driven in
    let K : List CpuSeat → Type 0 = λ seats. IsClosed (id_of i.bank) (length cpus) seats tokens in
    let L : List Desk → Type 0 = λ desks. AreClosed i.book desks messages.items in
    let P : Rig g.row.B.Denot → Type 0 = λ m. HaveEnded (length m.driven) m.driven news (take room.stops.len (stopped ++ drop (length stopped) room.stops.items)) in
    let Q : Rig g.row.B.Denot → Type 0 = λ m. IsClosed m.bank (length m.cpus) (map (λ (d : Driven g.row.B.Denot). d.cpu.seat) news) tokens in
    let R : Rig g.row.B.Denot → Type 0 = λ m. AreClosed m.book (map (λ (d : Driven g.row.B.Denot). d.cpu.post.seat) news) messages.items in
    record {
      cpus = subst V c.self.view_is refl;
      last = news;
      ended = subst P c.self.view_is (subst N (sym stops_back) (subst G c.deref_mut.ensures.value c.end_all.ensures.ended));
      tokens = subst Q c.self.view_is (subst K retired.seats (subst H c.self.invariant.seats_are c.close_in-tokens.ensures));
      messages = subst R c.self.view_is (subst L retired.mails c.close_in-messages.ensures);
      bodies = retired.bodies;
      traces = retired.traces;
    }

pub returns-clause-kept : goal.returns-clause-kept
returns-clause-kept g c =
    let i = c.self.inside in
    let news = c.end_all.new.cpus in
    let back = refilled news i.cpus.items i.cpus.len (c.end_all.ensures.as_many ∙ c.deref_mut.ensures.len) in
    let F : List (Driven g.row.B.Denot) → Type 0 = λ xs. AreRetired xs c.all-seats.result in
    kept_back {B = g.row.B.Denot} g.B.Lasting.kept news c.all-seats.result.bodies.items (subst F back c.all-seats.ensures).bodies c.end_all.ensures.kept
