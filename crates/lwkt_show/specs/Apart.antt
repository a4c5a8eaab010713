-- What can be told from the line of a turn (own).
use Rattle.std.specs.Prelude.{◌≡◌, ◌<◌, ◌^◌, ℕ, Bool, true, false, List, [], ◌∷◌, Option, None, Some, IfSome}
use Rattle.std.specs.List.{flat_map}
use Rattle.lwkt_base.specs.declared.asks.Ask.{Ask}
use Rattle.lwkt_base.specs.declared.asks.Ask.TheVariants.{WriteBlob}
use Rattle.lwkt_base.specs.declared.steps.Part.{Part}
use Rattle.lwkt_base.specs.declared.steps.Part.TheVariants as parts
use Rattle.lwkt_base.specs.Step.{step_of}
use Rattle.lwkt_verdict.specs.declared.turns.Poll.{Poll}
use Rattle.lwkt_show.specs.Words.{ask_text, ask_word, flags_number}
use Rattle.lwkt_show.specs.Lines.{IsLine}

-- a turn as its line shows it: its number, its round, its processor, and its poll if it has one
pub record TurnOfLine : Type 0 where
  pub number : ℕ
  pub round : ℕ
  pub cpu : ℕ
  pub poll : Option Poll

-- the numbers of a turn are some of a word each
pub record AreWords (turn : TurnOfLine) : Type 0 where
  pub number : turn.number < 2 ^ 64
  pub round : turn.round < 2 ^ 64
  pub cpu : turn.cpu < 2 ^ 64
  pub poll : IfSome turn.poll (λ poll. (poll.thread.cpu.0 < 2 ^ 64) × (poll.thread.thread < 2 ^ 64))

-- a line is that of a turn, in numbers
abbrev pub IsLineOf : TurnOfLine → List ℕ → Type 0
IsLineOf turn line = IsLine None turn.number turn.round turn.cpu turn.poll line

-- two polls are of one thread, and their asks have one word, and are the same step of a script
pub record AskAlike (one other : Poll) : Type 0 where
  pub thread : one.thread ≡ other.thread
  pub word : ask_word one.ask ≡ ask_word other.ask
  pub step : ask_text one.ask ≡ ask_text other.ask

-- two turns have no poll, or two that ask alike
abbrev pub PollAlike : Option Poll → Option Poll → Type 0
PollAlike None None = Unit {0}
PollAlike None (Some other) = ⊥
PollAlike (Some one) None = ⊥
PollAlike (Some one) (Some other) = AskAlike one other

-- two turns are alike in all that a line says of them for certain
pub record AreAlike (one other : TurnOfLine) : Type 0 where
  pub number : one.number ≡ other.number
  pub round : one.round ≡ other.round
  pub cpu : one.cpu ≡ other.cpu
  pub poll : PollAlike one.poll other.poll

-- turns that have the same line are alike
abbrev pub LinesDecideTurns : Type 0
LinesDecideTurns = (one other : TurnOfLine) (line : List ℕ) → AreWords one → AreWords other → IsLineOf one line → IsLineOf other line → AreAlike one other

-- the numbers of a part of a step
abbrev pub part_numbers : Part → List ℕ
part_numbers (parts.Token tok) = tok.0 ∷ []
part_numbers (parts.Cell tok cell) = tok.0 ∷ cell ∷ []
part_numbers (parts.Value value) = value ∷ []
part_numbers (parts.Record blob) = []
part_numbers (parts.Message message) = message.0 ∷ []
part_numbers (parts.Target to) = to.cpu.0 ∷ to.thread ∷ []
part_numbers (parts.Call call) = call.op ∷ call.arg ∷ []
part_numbers (parts.Flags flags) = flags_number flags ∷ []
part_numbers (parts.Code error) = error ∷ []
part_numbers (parts.Outcome outcome) = outcome ∷ []

-- the numbers that stand behind the word of an ask
abbrev pub numbers_of : Ask → List ℕ
numbers_of ask = flat_map part_numbers (step_of ask).1

-- numbers of a word each
abbrev pub AreAllWords : List ℕ → Type 0
AreAllWords [] = Unit {0}
AreAllWords (n ∷ ns) = (n < 2 ^ 64) × AreAllWords ns

-- whether an ask writes a record, of which its text may not say all
abbrev pub ask_writes_record : Ask → Bool
ask_writes_record (WriteBlob tok blob) = true
ask_writes_record _ = false

-- asks with the same text are the same, but for writes of records
abbrev pub TextsDecideAsks : Type 0
TextsDecideAsks = (one other : Ask) → ask_writes_record one ≡ false → AreAllWords (numbers_of one) → AreAllWords (numbers_of other) → ask_text one ≡ ask_text other → one ≡ other
