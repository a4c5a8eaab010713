use Rattle.std.proofs.Common.{◌≡◌, Option, Result, Ok, Err, IfOk, Vec, length, true, lit<, subst}
use Rattle.std.proofs.lemmas.Iterator.{IsCollectResult}
use Rattle.std.proofs.lemmas.Iterator.Consumers.{map_from_collect}
use Rattle.std.proofs.lemmas.Iterator.Splits.{YieldsList-from_str_split}
use Rattle.std.specs.Iterator.{DrainsIf}
use Rattle.std.specs.Iterator.Runs.{WholeRun, YieldsRun}
use Rattle.std.specs.Prelude.{⊤, vec_len}
use Rattle.lwkt_ffi.proofs.words.parts_of.Goals as goal

-- a list of all that a run gave
collected : {S A Z E : Type 0} (steps : S → Option A → S → Type 0) (s : S) (r : Result (Vec A Z) E) → IfOk r (λ v. WholeRun steps s (λ p. (v.items ≡ p.items) × (vec_len v ≡ length p.items))) → IsCollectResult steps s r
unfolding YieldsRun
collected {A = A} steps s (Ok v) h =
    let gave : DrainsIf steps (h.0.whole ≡ true) h.0.from h.0.items = h.0.gave.0 in
    (h.0.items, subst (λ from. DrainsIf steps ⊤ from h.0.items) h.1 (gave.0, gave.1, λ _. gave.2 h.2), h.3)
collected steps s (Err e) h = tt

pub returns : goal.returns
returns c = map_from_collect _ (collected _ _ _ c.collect.ensures.runs) (YieldsList-from_str_split 32 c.args.text.now (lit< tt) c.split.ensures.text c.split.ensures.has_more c.split.ensures.pattern)
