use Rattle.std.specs.Prelude.{◌≡◌, ℕ, ◌<◌, ◌≤◌, true, false, List, length, map, All, replicate, None}
use Rattle.std.specs.Option.{is_some}
use Rattle.lwkt_base.specs.declared.laws.Law.TheVariants.{Tally, Len}
use Rattle.lwkt_base.specs.declared.holdings.Held.TheVariants.{Nothing}
use Rattle.lwkt_base.specs.declared.owners.Owner.TheVariants.{Rest}
use Rattle.lwkt_base.specs.declared.opening_specs.TokSpec.{TokSpec}
use Rattle.lwkt_base.specs.declared.opening_specs.MsgSpec.{MsgSpec}
use Rattle.lwkt_base.specs.Law.{OpensLawfully}
use Rattle.lwkt_core.specs.declared.tokens.Token.{Token}
use Rattle.lwkt_base.specs.declared.limits.TheConstants.{CPU_LIMIT, LAST_GENERATION, LAST_ROUND, CELL_LIMIT, MESSAGE_LIMIT, THREAD_LIMIT, TOKEN_LIMIT}
use Rattle.lwkt_core.specs.declared.messages.Message.{Message}
use Rattle.lwkt_core.specs.Tokens.{IsShort, length_of}
use Rattle.lwkt_core.specs.Machine.{Machine}

-- a token at the opening: nobody holds it, it has no mark, and nothing is added yet
abbrev pub opened_token : TokSpec → Token
opened_token spec = record { law = spec.law; param = spec.param; generation = spec.generation; mark = false; row = spec.cells; first = spec.cells; blob = spec.blob; first_blob = spec.blob; holders = replicate CPU_LIMIT Nothing; tallies = replicate CPU_LIMIT 0 }

-- a message at the opening: at rest, with no abort asked for
abbrev pub opened_message : MsgSpec → Message
opened_message spec = record { origin = spec.origin; opening = spec.round; round = spec.round; owner = Rest spec.origin.cpu; asked = false; sends = 0; takes = 0; drops = 0; replies = 0; reaps = 0 }

-- the machine at the opening
abbrev pub opening : ℕ → List TokSpec → List MsgSpec → Machine
opening cpus tokens messages = record { cpus = cpus; tokens = map opened_token tokens; messages = map opened_message messages }

-- an opening token's record keeps the limits: at most 64 bytes; under Len there is one, and a cell; under Tally there is none (own)
pub record IsRecordWithin (spec : TokSpec) : Type 0 where
  pub short : IsShort spec.blob
  pub of_len : spec.law ≡ Len → (0 < length spec.cells) × (is_some spec.blob ≡ true)
  pub of_tally : spec.law ≡ Tally → spec.blob ≡ None

-- an opening token keeps the limits: 0 to 4 cells, exactly 1 under Tally, a generation not past the last, and those of its
-- record (own)
abbrev pub IsTokenWithin : TokSpec → Type 0
IsTokenWithin spec = (length spec.cells ≤ CELL_LIMIT) × (spec.law ≡ Tally → length spec.cells ≡ 1) × (spec.generation ≤ LAST_GENERATION) × IsRecordWithin spec

-- an opening message keeps the limits: its origin's processor exists, the thread's number is below 16, and its round is not
-- past the last (own)
abbrev pub IsMessageWithin : ℕ → MsgSpec → Type 0
IsMessageWithin cpus spec = (spec.origin.cpu.0 < cpus) × (spec.origin.thread < THREAD_LIMIT) × (spec.round ≤ LAST_ROUND)

-- an opening keeps the limits: 1 to 8 processors, at most 64 tokens and 64 messages (own)
pub record AreWithin (cpus : ℕ) (tokens : List TokSpec) (messages : List MsgSpec) : Type 0 where
  pub some_processor : 0 < cpus
  pub processors : cpus ≤ CPU_LIMIT
  pub token_limit : length tokens ≤ TOKEN_LIMIT
  pub each_token : All IsTokenWithin tokens
  pub message_limit : length messages ≤ MESSAGE_LIMIT
  pub each_message : All (IsMessageWithin cpus) messages

-- each opening row, with the length of its record, obeys its law
abbrev pub AllOpenLawfully : List TokSpec → Type 0
AllOpenLawfully tokens = All (λ spec. OpensLawfully spec.law spec.param spec.cells (length_of spec.blob)) tokens
