use Rattle.std.proofs.Common.{◌∙◌, List, ap, length, sym, subst}
use Rattle.lwkt_base.specs.declared.sections.Section.{Section}
use Rattle.lwkt_core.specs.SectionChain.{RowsAt}
use Rattle.lwkt_run.specs.NamedSections.{opening_rows, closing_rows, sections_of_all, IsVerdictOn}
use Rattle.lwkt_run.proofs.GatherMoves.{as_many_rows}
use Rattle.lwkt_run.proofs.SectionMoves.{on_all}
use Rattle.lwkt_run.proofs.written_sections.judged_by_stretches.Goals as goal

pub verdict_on-requires : goal.verdict_on-requires
verdict_on-requires g c =
    let last = c.args.last.now in
    ap (λ (rows : RowsAt). length rows) c.in_ok-first.ensures
    ∙ as_many_rows c.args.specs.now last.rows.items last.gens.items c.requires.opened c.requires.as_many
    ∙ sym (ap (λ (rows : RowsAt). length rows) c.in_ok-closing.ensures)

pub returns : goal.returns
returns g c =
    let first : RowsAt = opening_rows c.args.specs.now in
    let last : RowsAt = closing_rows c.args.last.now in
    let sections : List Section = c.in_ok-sections.sections.items in
    let one = subst (λ (xs : List Section). IsVerdictOn c.verdict_on.result c.in_ok-first.first c.in_ok-closing.closing xs) c.deref.ensures.value c.verdict_on.ensures in
    let two = subst (λ (rows : RowsAt). IsVerdictOn c.verdict_on.result rows c.in_ok-closing.closing sections) c.in_ok-first.ensures one in
    let on = subst (λ (rows : RowsAt). IsVerdictOn c.verdict_on.result first rows sections) c.in_ok-closing.ensures two in
    on_all c.verdict_on.result first last (sections_of_all c.args.traces.items c.args.stops.now) sections c.in_ok-sections.ensures.named c.in_ok-sections.ensures.sorted on
