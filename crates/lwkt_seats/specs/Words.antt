-- What a step on a word answers to C (own).
use Rattle.std.specs.Prelude.{◌≡◌, ℕ, Result, Ok, Err}
use Rattle.lwkt_base.specs.declared.faults.Fault.{Fault}
use Rattle.lwkt_base.specs.Fault.{number_of}

-- 0 with the next word in its place, or the number of the fault with nothing changed there
abbrev pub AnswersStep : Result ℕ Fault → ℕ → ℕ → ℕ → Type 0
AnswersStep (Ok word) old new answer = (answer ≡ 0) × (new ≡ word)
AnswersStep (Err fault) old new answer = (answer ≡ number_of fault) × (new ≡ old)
