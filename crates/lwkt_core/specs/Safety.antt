use Rattle.std.specs.Prelude.{◌≡◌, ◌≢◌, ◌⊎◌, ℕ, ◌+◌, ◌≤◌, List}
use Rattle.lwkt_base.specs.declared.opening_specs.TokSpec.{TokSpec}
use Rattle.lwkt_base.specs.declared.opening_specs.MsgSpec.{MsgSpec}
use Rattle.lwkt_base.specs.declared.holdings.Held.TheVariants.{Nothing}
use Rattle.lwkt_base.specs.Law.{IsTallied}
use Rattle.lwkt_core.specs.declared.tokens.Token.{Token}
use Rattle.lwkt_core.specs.declared.messages.Message.{Message}
use Rattle.lwkt_core.specs.declared.events.Event.{Event}
use Rattle.lwkt_core.specs.Tokens.{held_by, IsExclusiveHolder, IsOpen, IsClean, IsLawful, IsSafeToken}
use Rattle.lwkt_core.specs.Messages.{IsSafeMessage}
use Rattle.lwkt_core.specs.Machine.{Machine, IsSafe}
use Rattle.lwkt_core.specs.Opening.{opening, AreWithin, AllOpenLawfully}
use Rattle.lwkt_core.specs.Trace.{Run}

-- a processor holds the token, exclusively, and no other one holds it, or no processor holds it exclusively (token(9))
abbrev pub IsCompatible : Token → Type 0
IsCompatible tok = ((cpu : ℕ) × (IsExclusiveHolder tok cpu × ((other : ℕ) → cpu ≢ other → held_by tok other ≡ Nothing))) ⊎ IsOpen tok

-- a processor writes the token: it holds it exclusively, and the row or the record isn't that of the section's beginning (own)
abbrev pub IsWriting : Token → ℕ → Type 0
IsWriting tok cpu = IsExclusiveHolder tok cpu × (¬ IsClean tok)

-- the token's row, with the length of its record, obeys its declared law, and the cell of a Tally token is the parameter plus what all processors have added
abbrev pub KeepsLaw : Token → Type 0
KeepsLaw tok = IsLawful tok × IsTallied tok.law tok.param tok.row tok.tallies

-- a law: a machine that was opened within the limits and lawfully is safe
abbrev pub OpeningsAreSafe : Type 0
OpeningsAreSafe = (cpus : ℕ) (tokens : List TokSpec) (messages : List MsgSpec) → AreWithin cpus tokens messages → AllOpenLawfully tokens → IsSafe (opening cpus tokens messages)

-- a law: a machine stays safe, whatever events of its processors happen, in whatever order
abbrev pub RunsStaySafe : Type 0
RunsStaySafe = (m : Machine) (events : List Event) (n : Machine) → IsSafe m → Run m events n → IsSafe n

-- a law: a safe token has one exclusive holder or only shared ones
abbrev pub HoldersAreCompatible : Type 0
HoldersAreCompatible = (cpus : ℕ) (tok : Token) → IsSafeToken cpus tok → IsCompatible tok

-- a law: a safe token that no processor is writing keeps its declared law
abbrev pub UnwrittenRowsAreLawful : Type 0
UnwrittenRowsAreLawful = (cpus : ℕ) (tok : Token) → IsSafeToken cpus tok → ((cpu : ℕ) → ¬ IsWriting tok cpu) → KeepsLaw tok

-- a law: of a safe message each send is taken or dropped at most once, and replied to at most once
abbrev pub SendsAreAnsweredOnce : Type 0
SendsAreAnsweredOnce = (cpus : ℕ) (msg : Message) → IsSafeMessage cpus msg → (msg.takes + msg.drops ≤ msg.sends) × (msg.sends ≤ msg.takes + msg.drops + 1) × (msg.replies ≤ msg.takes) × (msg.takes ≤ msg.replies + 1)
