use Rattle.std.proofs.Common.{refl, ◌∙◌}
use Rattle.lwkt_bank.specs.Views.{stored}
use Rattle.lwkt_bank.specs.Seats.{entry}
use Rattle.lwkt_hold.specs.Fronts.{IsFront}
use Rattle.lwkt_hold.proofs.ReadMoves.{exclusive_listed, traced_store, write_ran, unchanged_kept, unchanged_ran}
use Rattle.lwkt_hold.proofs.RunMoves.{holding_kept}
use Rattle.lwkt_hold.proofs.OutcomeMoves.{kept_still}
use Rattle.lwkt_hold.proofs.holds.Hold.write.Goals as goal

pub store-requires-clause-held : goal.store-requires-clause-held
store-requires-clause-held c = exclusive_listed c.args.self.now.seat c.args.list.now c.args.tok.0 c.requires.held c.in_ok-may_write.ensures.ok

pub returns-then-tok-tokens-clause-keeps : goal.returns-then-tok-tokens-clause-keeps
returns-then-tok-tokens-clause-keeps c = kept_still c.args.list.now c.args.self.now.seat c.args.trace.now c.requires.held

pub returns-then-cell-cells-clause-keeps : goal.returns-then-cell-cells-clause-keeps
returns-then-cell-cells-clause-keeps c = kept_still c.args.list.now c.args.self.now.seat c.args.trace.now c.requires.held

pub returns-in_err-may_write-clause-keeps : goal.returns-in_err-may_write-clause-keeps
returns-in_err-may_write-clause-keeps c = kept_still c.args.list.now c.args.self.now.seat c.args.trace.now c.requires.held

pub returns-in_err-store-clause-keeps : goal.returns-in_err-store-clause-keeps
returns-in_err-store-clause-keeps c =
    let same = c.in_err-store.ensures.only.1 in
    record {
      ran = unchanged_ran (IsFront c.args.list.now) 1 c.args.self.now.seat c.store.new.self c.args.trace.now same;
      held = unchanged_kept c.args.self.now.seat c.store.new.self same ∙ c.requires.held;
    }

pub returns-clause-keeps : goal.returns-clause-keeps
returns-clause-keeps c =
    let s = c.args.self.now.seat in
    let k = c.in_ok-store.ensures.ok in
    let e = stored (entry s c.args.tok.0) c.args.cell c.args.value in
    let traced = traced_store s c.args.tok c.cpu-cpu.result c.args.cell c.args.value c.cpu-cpu.ensures.is in
    record {
      ran = write_ran c.args.list.now s c.store.new.self c.args.tok e _ c.cpu-cpu.result c.args.cell c.args.value c.args.trace.now c.note_write.new.trace k traced.0 traced.1 refl c.requires.held c.cpu-cpu.ensures.is c.note_write.ensures.items c.note_write.ensures.longer c.note_write.ensures.room;
      held = holding_kept s c.store.new.self c.args.tok.0 (record e { known = k.known }) _ k.changes refl ∙ c.requires.held;
    }
