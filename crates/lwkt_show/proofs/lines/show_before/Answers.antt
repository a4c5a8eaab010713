use Rattle.std.proofs.Common.{Bool, ◌++◌, ne_eqb, codes, decimal, sym, subst, if◌then◌else◌, []}
use Rattle.lwkt_refusals.specs.Pages.{GrowsBy}
use Rattle.lwkt_show.proofs.Pieces.{joined}
use Rattle.lwkt_show.proofs.lines.show_before.Goals as goal

pub returns-else-first-eq0 : goal.returns-else-first-eq0
returns-else-first-eq0 c =
    let Said : Bool → Type 0 = λ none. GrowsBy c.args.out.now c.add-else-first-eq0.new.self (if none then [] else codes "turns before turn " ++ decimal c.args.first ++ codes " are not shown\n") in
    subst Said (sym (ne_eqb c.args.first 0 c.if-first-eq0.false)) (joined c.size.ensures c.add-else-first-eq0.ensures)
