use Rattle.std.proofs.Common.{inl, inr, ◌≡◌, ℕ, ◌+◌, [], ◌∷◌, ◌++◌, refl, sym, subst, ◌∙◌}
use Rattle.std.specs.Prelude.{slice_index}
use Rattle.lwkt_table.specs.History.{events_in, steps_in}
use Rattle.lwkt_core.specs.declared.events.Event.TheVariants.{Write}
use Rattle.lwkt_bank.specs.Views.{raised}
use Rattle.lwkt_bank.specs.Deeds.{writes}
use Rattle.lwkt_bank.specs.Seats.{entry, first_load}
use Rattle.lwkt_hold.specs.Fronts.{IsFront}
use Rattle.lwkt_hold.specs.Outcomes.{ChangesNothing}
use Rattle.lwkt_hold.specs.Steps.{AreTraced}
use Rattle.lwkt_hold.proofs.ReadMoves.{exclusive_listed, traced_store, write_ran, unchanged_kept, unchanged_ran}
use Rattle.lwkt_hold.proofs.GiveMoves.{first_load_ran, knowing_kept}
use Rattle.lwkt_hold.proofs.RunMoves.{holding_kept}
use Rattle.lwkt_hold.proofs.OutcomeMoves.{on_err, kept_still, nothing_changed, nothing_but_known}
use Rattle.lwkt_hold.proofs.holds.Hold.add.Goals as goal

pub add-requires-clause-held : goal.add-requires-clause-held
add-requires-clause-held c = exclusive_listed c.args.self.now.seat c.args.list.now c.args.tok.0 c.requires.held c.in_ok-may_write.ensures.ok

pub returns-in_err-value-clause-err : goal.returns-in_err-value-clause-err
returns-in_err-value-clause-err c = on_err c.from_residual-in_err-value.result (ChangesNothing c.args.self.now.seat c.add.new.self c.args.trace.now c.args.trace.now) (elim (c.in_err-value.ensures.only) [
  | inl same ↦ nothing_changed c.args.self.now.seat c.add.new.self c.args.trace.now same.1
  | inr known ↦ nothing_but_known c.args.self.now.seat c.add.new.self c.args.tok.0 0 c.args.trace.now known.1
])

pub returns-then-tok-tokens-clause-keeps : goal.returns-then-tok-tokens-clause-keeps
returns-then-tok-tokens-clause-keeps c = kept_still c.args.list.now c.args.self.now.seat c.args.trace.now c.requires.held

pub returns-in_err-may_write-clause-keeps : goal.returns-in_err-may_write-clause-keeps
returns-in_err-may_write-clause-keeps c = kept_still c.args.list.now c.args.self.now.seat c.args.trace.now c.requires.held

pub returns-in_err-value-clause-keeps : goal.returns-in_err-value-clause-keeps
returns-in_err-value-clause-keeps c =
    let s = c.args.self.now.seat in
    let s' = c.add.new.self in
    elim (c.in_err-value.ensures.only) [
      | inl same ↦ record { ran = unchanged_ran (IsFront c.args.list.now) 1 s s' c.args.trace.now same.1; held = unchanged_kept s s' same.1 ∙ c.requires.held }
      | inr known ↦ record { ran = first_load_ran (IsFront c.args.list.now) 1 s s' c.args.tok.0 0 c.args.trace.now known.1; held = knowing_kept s s' c.args.tok.0 _ known.1 ∙ c.requires.held }
    ]

pub returns-clause-keeps : goal.returns-clause-keeps
returns-clause-keeps c =
    let s = c.args.self.now.seat in
    let sum = slice_index (entry s c.args.tok.0).row 0 + c.args.k in
    let k = c.in_ok-value.ensures.ok in
    let e = raised (entry s c.args.tok.0) s.cpu c.args.k in
    let F : ℕ → Type 0 = λ v. AreTraced (events_in (first_load s.cpu c.args.tok.0 (entry s c.args.tok.0) 0 ++ writes s.cpu c.args.tok.0 0 sum ∷ [])) (Write c.cpu-cpu.result c.args.tok 0 v ∷ []) × (steps_in (first_load s.cpu c.args.tok.0 (entry s c.args.tok.0) 0 ++ writes s.cpu c.args.tok.0 0 sum ∷ []) ≡ []) in
    let traced = subst F (sym c.in_ok-value.ensures.value) (traced_store s c.args.tok c.cpu-cpu.result 0 sum c.cpu-cpu.ensures.is) in
    record {
      ran = write_ran c.args.list.now s c.add.new.self c.args.tok e _ c.cpu-cpu.result 0 c.in_ok-value.value c.args.trace.now c.note_write.new.trace k traced.0 traced.1 refl c.requires.held c.cpu-cpu.ensures.is c.note_write.ensures.items c.note_write.ensures.longer c.note_write.ensures.room;
      held = holding_kept s c.add.new.self c.args.tok.0 (record e { known = k.known }) _ k.changes refl ∙ c.requires.held;
    }
