-- What a thread does in a turn, in few letters (own).
use Rattle.std.specs.Prelude.{ℕ, List, [], ◌++◌, codes, Option, Some, slice_get}
use Rattle.std.specs.Fmt.{decimal}
use Rattle.lwkt_base.specs.declared.asks.Answer.{Answer}
use Rattle.lwkt_base.specs.declared.asks.Answer.TheVariants.{Value}
use Rattle.lwkt_base.specs.declared.asks.Ask.{Ask}
use Rattle.lwkt_base.specs.declared.asks.Ask.TheVariants.{Read, Write, Add, Rel}
use Rattle.lwkt_base.specs.declared.steps.Part.{Part}
use Rattle.lwkt_base.specs.declared.steps.Part.TheVariants.{Token, Message}
use Rattle.lwkt_base.specs.Step.{step_of, word_of}
use Rattle.lwkt_text.specs.declared.tables.Names.{Names}
use Rattle.lwkt_show.specs.Words.{token_said, message_said}

-- what a step is about, by its first part: a token or a message
abbrev pub object_text : Option Names → Option Part → List ℕ
object_text names (Some (Token tok)) = codes " " ++ token_said names tok.0
object_text names (Some (Message msg)) = codes " " ++ message_said names msg.0
object_text names _ = []

-- a cell is read, and had this value
abbrev pub read_text : Option Answer → List ℕ
read_text (Some (Value value)) = codes "read " ++ decimal value
read_text _ = codes "read"

-- a step by its word and by what it is about
abbrev pub verb_text : Option Names → Ask → List ℕ
verb_text names ask = word_of (step_of ask).0 ++ object_text names (slice_get (step_of ask).1 0)

-- what a thread does by an ask: a read by its value, a write and an addition by what they write and add, each other one by its word
abbrev pub deed_text : Option Names → Ask → Option Answer → List ℕ
deed_text names (Read tok cell) answer = read_text answer
deed_text names (Write tok cell value) answer = codes "=" ++ decimal value
deed_text names (Add tok value) answer = codes "+" ++ decimal value
deed_text names (Rel tok) answer = codes "rel"
deed_text names ask answer = verb_text names ask
