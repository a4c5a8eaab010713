use Rattle.std.proofs.Common.{◌≡◌, List, [], ◌∷◌, length, ap, sym, ◌∙◌, inl, inr, arith}
use Rattle.std.specs.Prelude.{codes, String, Bool, IsTrue, Result}
use Rattle.std.specs.Global.{Global}
use Rattle.lwkt_report.specs.Stream.{BlamesFailed}
use Rattle.lwkt_report.specs.declared.streams.RunFault.{RunFault}
use Rattle.lwkt_run.specs.declared.runs.End.{End}
use Rattle.lwkt_run.specs.Run.{AsksTurns}
use Rattle.lwkt_run.specs.Threaded.{AsksThreads}

words_apart : codes "turns" ≡ codes "threads" → ⊥
words_apart e = let n : 5 ≡ 7 = ap length e in absurd (omega (arith, n))

-- no arguments ask for both
pub asks_one : (words : List (String Global)) → AsksTurns words → AsksThreads words → ⊥
asks_one [] turns threads = absurd (omega (arith, turns.0))
asks_one (w ∷ ws) turns threads = words_apart (sym (turns.1 0 w (omega (arith, turns.0))) ∙ threads.1 0 w (omega (arith, turns.0)))

-- a sink that had failed has failed still, so a stream that was blamed rightly is blamed rightly
pub still_failed : (source before after : Bool) (outcome : Result End RunFault) → BlamesFailed source before outcome → (IsTrue before → IsTrue after) → BlamesFailed source after outcome
still_failed source before after outcome blames kept = λ is. elim (blames is) [ inl s ↦ inl s | inr k ↦ inr (kept k) ]
