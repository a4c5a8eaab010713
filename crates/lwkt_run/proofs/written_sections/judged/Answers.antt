use Rattle.std.proofs.Common.{◌∙◌, ap, length, sym}
use Rattle.lwkt_core.specs.SectionChain.{RowsAt}
use Rattle.lwkt_run.proofs.GatherMoves.{as_many_rows}
use Rattle.lwkt_run.proofs.written_sections.judged.Goals as goal

pub verdict_on-requires : goal.verdict_on-requires
verdict_on-requires c =
    let last = c.args.last.now in
    ap (λ (rows : RowsAt). length rows) c.in_ok-first.ensures
    ∙ as_many_rows c.args.specs.now last.rows.items last.gens.items c.requires.opened c.requires.as_many
    ∙ sym (ap (λ (rows : RowsAt). length rows) c.in_ok-closing.ensures)
