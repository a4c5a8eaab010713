use Rattle.std.proofs.Common.{subst, sym, IfOk, string_bytes, option_copied}
use Rattle.lwkt_show.specs.Lines.{AreLinesOf}
use Rattle.lwkt_show.specs.Showing.{ShowsBy}
use Rattle.lwkt_show.proofs.shows.text_of.Goals as goal

pub returns-in-Lines : goal.returns-in-Lines
returns-in-Lines c =
    let run = c.args.run.now in
    let script = c.args.script.now in
    let order = option_copied c.args.order in
    let names = option_copied c.args.names in
    let answer = c.lines_of.result in
    let polled = subst (λ ps. IfOk answer (λ text. AreLinesOf names c.args.options order script ps c.deref-3.result.now run.closing (string_bytes text))) c.deref-2.ensures.value c.lines_of.ensures.lines in
    let turned = subst (λ ts. IfOk answer (λ text. AreLinesOf names c.args.options order script run.polls.items ts run.closing (string_bytes text))) c.deref-3.ensures.value polled in
    record { shows = subst (λ rendering. IfOk answer (λ text. ShowsBy names rendering c.args.options order script run (string_bytes text))) (sym c.in-Lines.is) turned; refused = c.lines_of.ensures.refused }
