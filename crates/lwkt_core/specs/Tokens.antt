use Rattle.std.specs.Prelude.{◌≡◌, ◌≢◌, ℕ, ◌+◌, ◌-◌, ◌<◌, ◌≤◌, true, false, List, length, Option, Some, slice_get, IfSome, option_map, slice_index, slice_index_or, slice_set}
use Rattle.std.specs.Option.{is_some}
use Rattle.lwkt_base.specs.declared.names.Mode.{Mode}
use Rattle.lwkt_base.specs.declared.names.TokId.{TokId}
use Rattle.lwkt_base.specs.declared.sections.Section.{Section}
use Rattle.lwkt_base.specs.declared.names.Mode.TheVariants.{Exclusive, Shared}
use Rattle.lwkt_base.specs.declared.laws.Law.{Law}
use Rattle.lwkt_base.specs.declared.laws.Law.TheVariants.{Any, Sum, Order, Cap, Tally, Len}
use Rattle.lwkt_base.specs.declared.holdings.Held.{Held}
use Rattle.lwkt_base.specs.declared.holdings.Held.TheVariants.{Nothing, Holds}
use Rattle.lwkt_base.specs.Holding.{is_exclusive, is_held, one_more, one_less}
use Rattle.lwkt_base.specs.Law.{Obeys, IsTallied}
use Rattle.lwkt_core.specs.declared.tokens.Token.{Token}
use Rattle.lwkt_base.specs.declared.limits.TheConstants.{CPU_LIMIT, LAST_GENERATION, CELL_LIMIT, RECORD_LIMIT}
use Rattle.lwkt_core.specs.declared.events.Event.{Event}
use Rattle.lwkt_core.specs.declared.events.Event.TheVariants.{Load, Take, Share, Again, Mark, GiveOne, GiveClean, GiveWritten, Read, Write, ReadBlob, WriteBlob, Send, TakeMsg, DropMsg, Reply, Reap, Abort}

-- what a processor holds of the token
abbrev pub held_by : Token → ℕ → Held
held_by tok cpu = slice_index_or tok.holders cpu Nothing

-- what a processor has added to the token's cell
abbrev pub tally_of : Token → ℕ → ℕ
tally_of tok cpu = slice_index tok.tallies cpu

-- nobody holds the token
abbrev pub IsFree : Token → Type 0
IsFree tok = (cpu : ℕ) → held_by tok cpu ≡ Nothing

-- nobody holds the token exclusively
abbrev pub IsOpen : Token → Type 0
IsOpen tok = (cpu : ℕ) → is_exclusive (held_by tok cpu) ≡ false

-- the processor holds the token, in either mode
abbrev pub IsHolder : Token → ℕ → Type 0
IsHolder tok cpu = is_held (held_by tok cpu) ≡ true

-- the processor holds the token exclusively
abbrev pub IsExclusiveHolder : Token → ℕ → Type 0
IsExclusiveHolder tok cpu = is_exclusive (held_by tok cpu) ≡ true

-- the length of a record, if there is one
abbrev pub length_of : Option (List ℕ) → Option ℕ
length_of blob = option_map length blob

-- the token has a record, or none
abbrev pub HasRecord : Token → Type 0
HasRecord tok = is_some tok.blob ≡ true

-- nothing is written: row and record are those of the beginning of the section (own)
abbrev pub IsClean : Token → Type 0
IsClean tok = (tok.row ≡ tok.first) × (tok.blob ≡ tok.first_blob)

-- the row and the length of the record obey the token's law
abbrev pub IsLawful : Token → Type 0
IsLawful tok = Obeys tok.law tok.param tok.row (length_of tok.blob)

-- a record has at most 64 bytes (own)
abbrev pub IsShort : Option (List ℕ) → Type 0
IsShort blob = IfSome blob (λ bytes. length bytes ≤ RECORD_LIMIT)

-- a token of a machine of so many processors is safe: it has one exclusive holder or only shared ones (token(9)); a row and a
-- record that nobody writes are the first ones; the first row and record obey the law, and a tally cell its sum; a token has a
-- record always or never, of at most 64 bytes; generations are in range (own)
pub record IsSafeToken (cpus : ℕ) (tok : Token) : Type 0 where
  pub eight_holders : length tok.holders ≡ CPU_LIMIT
  pub eight_tallies : length tok.tallies ≡ CPU_LIMIT
  pub absent : (cpu : ℕ) → cpus ≤ cpu → (held_by tok cpu ≡ Nothing) × (tally_of tok cpu ≡ 0)
  pub few_cells : length tok.row ≤ CELL_LIMIT
  pub same_cells : length tok.first ≡ length tok.row
  pub compatible : (cpu other : ℕ) → IsExclusiveHolder tok cpu → cpu ≢ other → held_by tok other ≡ Nothing
  pub settled : IsOpen tok → tok.row ≡ tok.first
  pub settled_blob : IsOpen tok → tok.blob ≡ tok.first_blob
  pub short : IsShort tok.blob
  pub same_guard : is_some tok.first_blob ≡ is_some tok.blob
  pub lawful : Obeys tok.law tok.param tok.first (length_of tok.first_blob)
  pub tallied : IsTallied tok.law tok.param tok.row tok.tallies
  pub in_range : tok.generation ≤ LAST_GENERATION
  pub not_worn : (cpu : ℕ) → IsExclusiveHolder tok cpu → tok.generation < LAST_GENERATION

-- a reference may be given back that doesn't end an exclusive holding
abbrev pub IsNotLastExclusive : Held → Type 0
IsNotLastExclusive Nothing = ⊥
IsNotLastExclusive (Holds Shared further) = Unit {0}
IsNotLastExclusive (Holds Exclusive further) = 0 < further

-- a tally cell is only raised
abbrev pub MayWrite : Law → ℕ → ℕ → Type 0
MayWrite Tally old value = old ≤ value
MayWrite Any old value = Unit {0}
MayWrite Sum old value = Unit {0}
MayWrite Order old value = Unit {0}
MayWrite Cap old value = Unit {0}
MayWrite Len old value = Unit {0}

-- the section of this number's token that would end now: its generation, its first row and its row (own)
abbrev pub section_at : TokId → Token → Section
section_at t tok = record { before = tok.first; after = tok.row; generation = tok.generation; tok = t }

-- what an event needs of its token (token(9) and lwkt_token.c's comments; laws and generations are own)
abbrev pub TokenNeeds : Token → Event → Type 0
TokenNeeds tok (Load cpu t) = Unit {0}
TokenNeeds tok (Take cpu t) = IsFree tok × (tok.generation < LAST_GENERATION)
TokenNeeds tok (Share cpu t) = IsOpen tok × (held_by tok cpu.0 ≡ Nothing)
TokenNeeds tok (Again cpu t) = IsHolder tok cpu.0
TokenNeeds tok (Mark cpu t) = Unit {0}
TokenNeeds tok (GiveOne cpu t) = IsNotLastExclusive (held_by tok cpu.0)
TokenNeeds tok (GiveClean cpu t) = (held_by tok cpu.0 ≡ Holds Exclusive 0) × IsClean tok
TokenNeeds tok (GiveWritten cpu t section) = (held_by tok cpu.0 ≡ Holds Exclusive 0) × (¬ IsClean tok) × IsLawful tok × (section ≡ section_at t tok)
TokenNeeds tok (Read cpu t cell value) = IsHolder tok cpu.0 × (slice_get tok.row cell ≡ Some value)
TokenNeeds tok (Write cpu t cell value) = IsExclusiveHolder tok cpu.0 × (cell < length tok.row) × MayWrite tok.law (slice_index tok.row cell) value
TokenNeeds tok (ReadBlob cpu t blob) = IsExclusiveHolder tok cpu.0 × (tok.blob ≡ Some blob)
TokenNeeds tok (WriteBlob cpu t blob) = IsExclusiveHolder tok cpu.0 × HasRecord tok × (length blob ≤ RECORD_LIMIT)
TokenNeeds tok (Send cpu msg to round) = ⊥
TokenNeeds tok (TakeMsg cpu msg round) = ⊥
TokenNeeds tok (DropMsg cpu msg) = ⊥
TokenNeeds tok (Reply cpu msg) = ⊥
TokenNeeds tok (Reap cpu msg) = ⊥
TokenNeeds tok (Abort cpu msg) = ⊥

-- the token with one reference of the processor more
abbrev pub with_more : Token → ℕ → Mode → Token
with_more tok cpu mode = record tok { holders = slice_set tok.holders cpu (one_more (held_by tok cpu) mode) }

-- the token with one reference of the processor less
abbrev pub with_less : Token → ℕ → Token
with_less tok cpu = record tok { holders = slice_set tok.holders cpu (one_less (held_by tok cpu)) }

-- what the processors have added after one of them has raised a cell
abbrev pub tallies_after : Law → List ℕ → ℕ → ℕ → List ℕ
tallies_after Tally tallies cpu raised = slice_set tallies cpu (slice_index tallies cpu + raised)
tallies_after Any tallies cpu raised = tallies
tallies_after Sum tallies cpu raised = tallies
tallies_after Order tallies cpu raised = tallies
tallies_after Cap tallies cpu raised = tallies
tallies_after Len tallies cpu raised = tallies

-- what an event leaves of its token (token(9) and lwkt_token.c's comments; laws and generations are own)
abbrev pub token_after : Token → Event → Token
token_after tok (Load cpu t) = tok
token_after tok (Take cpu t) = record (with_more tok cpu.0 Exclusive) { mark = false }
token_after tok (Share cpu t) = with_more tok cpu.0 Shared
token_after tok (Again cpu t) = with_more tok cpu.0 Shared
token_after tok (Mark cpu t) = record tok { mark = true }
token_after tok (GiveOne cpu t) = with_less tok cpu.0
token_after tok (GiveClean cpu t) = with_less tok cpu.0
token_after tok (GiveWritten cpu t section) = record (with_less tok cpu.0) { generation = tok.generation + 1; first = tok.row; first_blob = tok.blob }
token_after tok (Read cpu t cell value) = tok
token_after tok (Write cpu t cell value) = record tok { row = slice_set tok.row cell value; tallies = tallies_after tok.law tok.tallies cpu.0 (value - slice_index tok.row cell) }
token_after tok (ReadBlob cpu t blob) = tok
token_after tok (WriteBlob cpu t blob) = record tok { blob = Some blob }
token_after tok (Send cpu msg to round) = tok
token_after tok (TakeMsg cpu msg round) = tok
token_after tok (DropMsg cpu msg) = tok
token_after tok (Reply cpu msg) = tok
token_after tok (Reap cpu msg) = tok
token_after tok (Abort cpu msg) = tok
