use Rattle.std.proofs.Common.{◌<◌, ℕ, [], ◌∷◌, sym, subst}
use Rattle.lwkt_bank.specs.Views.{generation_in, looked}
use Rattle.lwkt_bank.specs.Deeds.{loads}
use Rattle.lwkt_bank.specs.Seats.{entry}
use Rattle.lwkt_bank.proofs.TurnMoves.{seen-keeps}
use Rattle.lwkt_bank.proofs.ChangeMoves.{same_references}
use Rattle.lwkt_bank.proofs.seats.CpuSeat.try_take.Goals as goal

pub take_at-requires-clause-few : goal.take_at-requires-clause-few
take_at-requires-clause-few c =
    let s = c.args.self.now in
    let mid = c.word-word.new.self in
    let t = c.args.tok.0 in
    let word = c.word-word.result in
    let same = same_references s mid t (looked (entry s t) word) (loads s.cpu t word ∷ []) c.word-word.ensures.changes (seen-keeps (entry s t) (generation_in word)).1 in
    subst (λ (n : ℕ). n < 32) (sym same) c.requires.few
