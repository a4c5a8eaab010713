use Rattle.std.proofs.Common.{refl, ap, sym, ◌∙◌}
use Rattle.std.specs.Prelude.{not}
use Rattle.std.specs.Option.{is_some}
use Rattle.std.proofs.lemmas.Bool.{false≢true}
use Rattle.lwkt_base.specs.declared.names.Mode.{Mode}
use Rattle.lwkt_bank.specs.Views.{read}
use Rattle.lwkt_bank.specs.Seats.{entry}
use Rattle.lwkt_hold.proofs.ReadMoves.{held_listed, read_ran}
use Rattle.lwkt_hold.proofs.RunMoves.{holding_kept}
use Rattle.lwkt_hold.proofs.OutcomeMoves.{kept_still}
use Rattle.lwkt_hold.proofs.holds.Hold.read.Goals as goal

pub load-value-requires-clause-held : goal.load-value-requires-clause-held
load-value-requires-clause-held c = held_listed c.args.self.now.seat c.args.list.now c.args.tok.0 c.requires.held (λ none. false≢true (sym (ap (is_some {T = Mode}) (c.mode.ensures ∙ none)) ∙ c.is_none.ensures ∙ ap not c.if-is_none.false))

pub returns-then-tok-tokens-clause-keeps : goal.returns-then-tok-tokens-clause-keeps
returns-then-tok-tokens-clause-keeps c = kept_still c.args.list.now c.args.self.now.seat c.args.trace.now c.requires.held

pub returns-then-cell-cells-clause-keeps : goal.returns-then-cell-cells-clause-keeps
returns-then-cell-cells-clause-keeps c = kept_still c.args.list.now c.args.self.now.seat c.args.trace.now c.requires.held

pub returns-then-is_none-clause-keeps : goal.returns-then-is_none-clause-keeps
returns-then-is_none-clause-keeps c = kept_still c.args.list.now c.args.self.now.seat c.args.trace.now c.requires.held

pub returns-clause-keeps : goal.returns-clause-keeps
returns-clause-keeps c =
    let s = c.args.self.now.seat in
    let l = c.load-value in
    let e = read (entry s c.args.tok.0) c.args.cell in
    record {
      ran = read_ran c.args.list.now s l.new.self c.args.tok e c.cpu-cpu.result c.args.cell l.result c.args.trace.now c.note_read.new.trace l.ensures.changes refl c.requires.held c.cpu-cpu.ensures.is c.note_read.ensures.items c.note_read.ensures.longer c.note_read.ensures.room;
      held = holding_kept s l.new.self c.args.tok.0 e _ l.ensures.changes refl ∙ c.requires.held;
    }
