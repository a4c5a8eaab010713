use Rattle.std.proofs.Common.{ℕ, List, ◌++◌, length, ap, ◌∙◌}
use Rattle.std.specs.Prelude.{drop, replicate}
use Rattle.std.proofs.lemmas.List.{drop-replicate}
use Rattle.lwkt_seats.proofs.closings.sixty_four.Goals as goal

pub returns : goal.returns
returns c =
    let bytes = c.args.bytes.now in
    ap (λ (xs : List ℕ). xs ++ drop (length bytes) (replicate 64 0)) c.copy_from_slice.ensures.after ∙ ap (λ (xs : List ℕ). bytes ++ xs) (drop-replicate (length bytes) 64 0)
