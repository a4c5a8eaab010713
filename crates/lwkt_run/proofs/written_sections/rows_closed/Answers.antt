use Rattle.std.proofs.Common.{arith, ◌≡◌, ◌+◌, ◌<◌, ◌++◌, ◌∷◌, [], length, take, get_or, rules}
use Rattle.std.specs.Prelude.{zip}
use Rattle.std.proofs.lemmas.Grind.{common_steps}
use Rattle.lwkt_run.proofs.GatherMoves.{zip_more}
use Rattle.lwkt_run.proofs.written_sections.rows_closed.Goals as goal

pub loop-i-preserved : goal.loop-i-preserved
loop-i-preserved c =
    let last = c.args.last.now in
    let low : c.loop-i.i < length last.rows.items = search rules in
    let also : c.loop-i.i < length last.gens.items = search rules in
    let more : zip (take (c.loop-i.i + 1) last.rows.items) (take (c.loop-i.i + 1) last.gens.items) ≡ zip (take c.loop-i.i last.rows.items) (take c.loop-i.i last.gens.items) ++ (get_or last.rows.items c.loop-i.i [], get_or last.gens.items c.loop-i.i 0) ∷ [] = zip_more last.rows.items last.gens.items c.loop-i.i [] 0 low also in
    let pushed = c.in_ok-push.ensures.items in
    let here = c.row-item.is in
    let there = c.index.ensures in
    grind (arith, common_steps)
