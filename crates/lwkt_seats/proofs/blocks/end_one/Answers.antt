use Rattle.std.proofs.Common.{ap, ◌∙◌}
use Rattle.lwkt_base.specs.Holding.{Holding, removed}
use Rattle.lwkt_seats.proofs.BlockMoves.{gives_one_holding, gives_one_others, knowing_holding}
use Rattle.lwkt_seats.proofs.blocks.end_one.Goals as goal

pub returns-in-Given-clause-given : goal.returns-in-Given-clause-given
returns-in-Given-clause-given c = gives_one_holding c.args.seat.now c.give.new.seat c.args.tok.0 c.in-Given.ensures.does.2

pub returns-in-Given-clause-others : goal.returns-in-Given-clause-others
returns-in-Given-clause-others c = gives_one_others c.args.seat.now c.give.new.seat c.args.tok.0 c.in-Given.ensures.does.2

pub returns-in-Broken-clause-does : goal.returns-in-Broken-clause-does
returns-in-Broken-clause-does c =
    let broke = c.in-Broken.ensures.does in
    (broke.1, broke.2, (c.give.new.seat, (broke.3, c.end_restored.ensures.does)))

pub returns-in-Broken-clause-given : goal.returns-in-Broken-clause-given
returns-in-Broken-clause-given c =
    c.end_restored.ensures.given ∙ ap (λ (h : Holding). removed h c.args.tok.0) (knowing_holding c.args.seat.now c.give.new.seat c.args.tok.0 _ c.in-Broken.ensures.does.3)

pub returns-in-Broken-clause-others : goal.returns-in-Broken-clause-others
returns-in-Broken-clause-others c = λ other away. c.end_restored.ensures.others other away ∙ c.in-Broken.ensures.does.3.changes.else_ other away
