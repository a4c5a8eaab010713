use Rattle.std.proofs.Common.{sym, ◌∙◌}
use Rattle.lwkt_seats.specs.declared.answers.Loaded.TheVariants.{Value}
use Rattle.lwkt_seats.specs.Cells.{Loads}
use Rattle.lwkt_seats.proofs.BriefMoves as brief
use Rattle.lwkt_seats.proofs.CountMoves as count
use Rattle.lwkt_seats.proofs.sitters.Sitter.load_held.Goals as goal

pub invariant_of-self : goal.invariant_of-self
invariant_of-self c =
    let old = c.args.self.now in
    let does : Loads c.args.tok.0 c.args.cell old.seat c.load.new.self (Value c.load.result) = (c.requires.there, c.requires.held, c.load.ensures.value, c.load.ensures.changes) in
    record {
      of = c.load.ensures.changes.bank ∙ old.of;
      counted = old.counted ∙ sym (count.loads c.args.tok.0 c.args.cell old.seat c.load.new.self (Value c.load.result) does);
      brief = brief.loads c.args.tok.0 c.args.cell old.seat c.load.new.self (Value c.load.result) does old.brief;
    }
