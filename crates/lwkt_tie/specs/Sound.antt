use Rattle.std.specs.Prelude.{◌≡◌, ℕ, ◌<◌, List, length, All, slice_index}
use Rattle.lwkt_core.specs.Tokens.{held_by}
use Rattle.lwkt_core.specs.Machine.{IsSafe}
use Rattle.lwkt_core.specs.Safety.{IsCompatible, IsWriting, KeepsLaw}
use Rattle.lwkt_table.specs.History.{IsPastOf, events_in, events_by, steps_by}
use Rattle.lwkt_core.specs.Trace.{Run}
use Rattle.lwkt_bank.specs.declared.views.Plan.{Plan}
use Rattle.lwkt_bank.specs.declared.seats.CpuSeat.{CpuSeat}
use Rattle.lwkt_bank.specs.Rule.{Bench, Knows, Pictures, token_word, token_at}
use Rattle.lwkt_bank.specs.Ledger.{Ledger, first_machine, word_in}
use Rattle.lwkt_bank.specs.Seats.{BankId, entry, holding, past_of, events_of, steps_of}

-- the headline in a state of a bank's table: words and views show a machine that is safe, which a run of the model leads to from
-- the machine declared; in it each token has one exclusive holder or only shared ones, and one that no exclusive holder is
-- writing keeps its declared law
pub record IsSound (plans : List Plan) (cpus : ℕ) (s : Bench) (ledger : Ledger plans cpus s) : Type 0 where
  pub run : Run (first_machine plans cpus) (events_in ledger.chronicle.history) ledger.rule.model
  pub shown : Pictures plans cpus s ledger.rule.model
  pub safe : IsSafe ledger.rule.model
  pub compatible : All IsCompatible ledger.rule.model.tokens
  pub lawful : All (λ tok. ((cpu : ℕ) → ¬ IsWriting tok cpu) → KeepsLaw tok) ledger.rule.model.tokens

-- this was found as the word of a token: it is that of a state of the bank's table in which the headline holds, and is the
-- picture of the token there
pub record IsFoundWord (bank : BankId) (cpus tok found : ℕ) : Type 0 where
  pub state : Bench
  pub ledger : Ledger bank.plans cpus state
  pub sound : IsSound bank.plans cpus state ledger
  pub word : found ≡ slice_index state.words (token_word tok)
  pub picture : found ≡ word_in ledger.rule.model tok

-- and in that state what a seat says is so: its processor holds of each token what the seat says, what the seat knows of it is
-- true, what it has seen is the front of the history, and its events and steps are all that are its processor's
pub record IsFoundBeside (bank : BankId) (cpus : ℕ) (s : CpuSeat) (tok found : ℕ) : Type 0 where
  pub seen : IsFoundWord bank cpus tok found
  pub held : (other : ℕ) → other < length bank.plans → held_by (token_at seen.ledger.rule.model other) s.cpu.0 ≡ holding s other
  pub knows : (other : ℕ) → other < length bank.plans → Knows (token_at seen.ledger.rule.model other) (entry s other)
  pub past : IsPastOf seen.ledger.chronicle.history s.cpu.0 (past_of s)
  pub events : events_by s.cpu.0 seen.ledger.chronicle.history ≡ events_of s
  pub steps : steps_by s.cpu.0 seen.ledger.chronicle.history ≡ steps_of s
