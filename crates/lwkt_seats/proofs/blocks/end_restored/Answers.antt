use Rattle.std.proofs.Common.{inl, ap, ◌∙◌}
use Rattle.lwkt_base.specs.Holding.{Holding, is_held, removed}
use Rattle.lwkt_seats.proofs.BlockMoves.{restored_holding, restored_clean, gave_clean, gave_others}
use Rattle.lwkt_bank.proofs.HoldMoves.{giving_removes}
use Rattle.lwkt_seats.proofs.blocks.end_restored.Goals as goal

pub give-requires-clause-held : goal.give-requires-clause-held
give-requires-clause-held c =
    let r = c.restore.ensures.restored c.requires.untallied in
    ap (λ (h : Holding). is_held (h c.args.tok.0)) (restored_holding c.args.seat.now c.restore.new.self c.args.tok.0 c.restore.result.cells c.restore.result.blob r) ∙ ap is_held c.requires.last

pub give-requires-clause-lawful : goal.give-requires-clause-lawful
give-requires-clause-lawful c = λ last. inl (restored_clean c.args.seat.now c.restore.new.self c.args.tok.0 c.restore.result.cells c.restore.result.blob (c.restore.ensures.restored c.requires.untallied))

pub returns-clause-does : goal.returns-clause-does
returns-clause-does c =
    let s = c.args.seat.now in
    let m = c.restore.new.self in
    let tok = c.args.tok.0 in
    let r = c.restore.ensures.restored c.requires.untallied in
    let last = ap (λ (h : Holding). h tok) (restored_holding s m tok c.restore.result.cells c.restore.result.blob r) ∙ c.requires.last in (
      m,
      (
        (λ untallied. (c.restore.result.cells, (c.restore.result.blob, c.restore.ensures.restored untallied)), λ tally. (c.restore.ensures.tally tally).2),
        gave_clean m c.give.new.self tok c.give.result last (restored_clean s m tok c.restore.result.cells c.restore.result.blob r) c.give.ensures,
      ),
    )

pub returns-clause-given : goal.returns-clause-given
returns-clause-given c =
    let s = c.args.seat.now in
    let m = c.restore.new.self in
    let tok = c.args.tok.0 in
    let r = c.restore.ensures.restored c.requires.untallied in
    giving_removes m c.give.new.self tok c.give.result c.give.ensures ∙ ap (λ (h : Holding). removed h tok) (restored_holding s m tok c.restore.result.cells c.restore.result.blob r)

pub returns-clause-others : goal.returns-clause-others
returns-clause-others c = λ other away.
    let r = c.restore.ensures.restored c.requires.untallied in
    gave_others c.restore.new.self c.give.new.self c.args.tok.0 c.give.result c.give.ensures other away ∙ r.changes.else_ other away
