use Rattle.std.proofs.Common.{◌≡◌, drop}
use Rattle.lwkt_text.specs.Parting.{cells_added, no_cells}
use Rattle.lwkt_text.proofs.declarations.cells_added.Given as goal

abbrev pub invariant-loop-word : goal.invariant-loop-word
invariant-loop-word l = cells_added l.cells (drop l.word-index l.words) ≡ cells_added no_cells l.words
