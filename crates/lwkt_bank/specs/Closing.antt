use Rattle.std.specs.Prelude.{◌≡◌, ◌≢◌, ℕ, ◌+◌, ◌<◌, ◌≤◌, ◌==◌, if◌then◌else◌, List, [], ◌++◌, length, All, None, Some, slice_get, slice_index, slice_index_or, vec_capacity}
use Rattle.lwkt_base.specs.declared.holdings.Held.TheVariants.{Nothing}
use Rattle.lwkt_table.specs.declared.seats.SeatKind.TheVariants.{Clerk}
use Rattle.lwkt_table.specs.Seating.{total}
use mathlib.Core.Option.{some}
use lib.ListN.{get_elem?}
use Rattle.lwkt_bank.specs.declared.views.Plan.{Plan}
use Rattle.lwkt_bank.specs.Rule.{Bench, token_word, cell_word, plan_at}
use Rattle.lwkt_bank.specs.Ledger.{Ledger}
use Rattle.lwkt_base.specs.declared.laws.Law.TheVariants.{Tally}
use Rattle.lwkt_bank.specs.declared.closed.Closed.{Closed}
use Rattle.lwkt_bank.specs.declared.views.View.{View}
use Rattle.lwkt_bank.specs.declared.views.TokenEntry.{TokenEntry}
use Rattle.lwkt_bank.specs.declared.seats.CpuSeat.{CpuSeat}
use Rattle.lwkt_bank.specs.declared.kept.Kept.{Kept}
use Rattle.lwkt_bank.specs.declared.rooms.CloseRoom.{CloseRoom}
use Rattle.lwkt_bank.specs.Views.{RecordOf, at, amount, generation_in}
use Rattle.lwkt_bank.specs.Notes.{note_at}
use Rattle.lwkt_bank.specs.Seats.{BankId, bank_of, entry, past_of, holding}
use Rattle.lwkt_bank.specs.Gathered.{written_by, added_by}

-- a seat of this bank that holds nothing
pub record IsReady (bank : BankId) (s : CpuSeat) : Type 0 where
  pub of : bank_of s ≡ bank
  pub empty : (tok : ℕ) → tok < length bank.plans → holding s tok ≡ Nothing

-- what a processor has added to a token, by what one seat had kept, and by all
abbrev pub kept_tally : ℕ → ℕ → Kept → ℕ
kept_tally tok cpu k = if k.cpu.0 == cpu then (note_at k.notes tok).tally else 0

abbrev pub kept_by : List Kept → ℕ → ℕ → ℕ
kept_by kept tok cpu = total (kept_tally tok cpu) kept

-- one entry of a token says at least what another says: no earlier generation, and at an equal one each cell known there
pub record Recalls (d e : TokenEntry) : Type 0 where
  pub rises : e.generation ≤ d.generation
  pub cells : e.generation ≡ d.generation → (row : List ℕ) → All (λ c. slice_get row c.at ≡ Some c.value) d.known → All (λ c. slice_get row c.at ≡ Some c.value) e.known
  pub records : e.generation ≡ d.generation → (blob : RecordOf) → All (λ bytes. blob ≡ Some bytes) d.known_blob → All (λ bytes. blob ≡ Some bytes) e.known_blob

-- what a seat had seen is a chapter of the clerk's
abbrev pub IsChapter : View → CpuSeat → Type 0
IsChapter v s = (i : ℕ) × (get_elem? v.chapters i ≡ some (record { cpu = s.cpu; past = past_of s }))

-- the clerk has taken back all of these seats but the rest: what it knows and what was kept say of them what they did
pub record Gathering (bank : BankId) (v : View) (all rest : List CpuSeat) (kept : List Kept) (back : ℕ) : Type 0 where
  pub made : ℕ
  pub desk : v.kind ≡ Clerk made back
  pub counted : back + length rest ≡ length all
  pub informed : length v.plans ≡ length bank.plans
  pub ready : All (IsReady bank) rest
  pub written : (tok : ℕ) → tok < length bank.plans → (at v.tokens tok).written + written_by rest tok ≡ written_by all tok
  pub added : (tok cpu : ℕ) → tok < length bank.plans → amount cpu (at v.tokens tok).added + added_by rest tok cpu ≡ added_by all tok cpu
  pub adds_up : (tok cpu : ℕ) → tok < length bank.plans → kept_by kept tok cpu + added_by rest tok cpu ≡ added_by all tok cpu
  pub behind : List CpuSeat
  pub in_order : all ≡ rest ++ behind
  pub recalls : (tok : ℕ) → tok < length bank.plans → All (λ s. Recalls (at v.tokens tok) (entry s tok)) behind
  pub chapters : All (IsChapter v) behind

-- the words of a state of the rule in which a seat has this view, and what lies in the slots
abbrev pub Left : List Plan → ℕ → ℕ → View → List ℕ → List (List ℕ) → Type 0
Left plans cpus id v words slots = (s : Bench) × (Ledger plans cpus s × ((get_elem? s.views id ≡ some v) × ((s.words ≡ words) × ((tok : ℕ) (bytes : List ℕ) → get_elem? s.homes tok ≡ some (some bytes) → get_elem? slots tok ≡ some bytes))))

-- the record of a token at the close: what lies in its slot, if a record was declared
abbrev pub shown_blob : RecordOf → List ℕ → RecordOf
shown_blob None bytes = None
shown_blob (Some first) bytes = Some bytes

-- a token's row, generation, tallies and record as the words, the slots and what was kept say
pub record IsRead (plan : Plan) (cpus : ℕ) (words : List ℕ) (slots : List (List ℕ)) (kept : List Kept) (tok : ℕ) (row : List ℕ) (generation : ℕ) (tallies : List ℕ) (blob : RecordOf) : Type 0 where
  pub long : length row ≡ plan.cells
  pub cells : (i : ℕ) → i < plan.cells → slice_index row i ≡ slice_index words (cell_word tok i)
  pub generation_is : generation ≡ generation_in (slice_index words (token_word tok))
  pub none : plan.law ≢ Tally → tallies ≡ []
  pub as_many : plan.law ≡ Tally → length tallies ≡ cpus
  pub each : plan.law ≡ Tally → (cpu : ℕ) → cpu < cpus → slice_index tallies cpu ≡ kept_by kept tok cpu
  pub blob_is : blob ≡ shown_blob plan.blob (slice_index_or slots tok [])

-- the first so many tokens are read
pub record AreRead (plans : List Plan) (cpus : ℕ) (words : List ℕ) (slots : List (List ℕ)) (kept : List Kept) (closed : Closed) (count : ℕ) : Type 0 where
  pub rows : length closed.rows.items ≡ count
  pub gens : length closed.gens.items ≡ count
  pub tallies : length closed.tallies.items ≡ count
  pub blobs : length closed.blobs.items ≡ count
  pub each : (tok : ℕ) → tok < count → IsRead (plan_at plans tok) cpus words slots kept tok (slice_index_or closed.rows.items tok []) (slice_index closed.gens.items tok) (slice_index_or closed.tallies.items tok []) (slice_index_or closed.blobs.items tok None)

-- there is room for the closing values of so many tokens
pub record HasRoom (closed : Closed) (tokens : ℕ) : Type 0 where
  pub rows : tokens ≤ vec_capacity closed.rows
  pub gens : tokens ≤ vec_capacity closed.gens
  pub tallies : tokens ≤ vec_capacity closed.tallies
  pub blobs : tokens ≤ vec_capacity closed.blobs

-- and nothing was read yet
pub record IsEmptyRoom (closed : Closed) (tokens : ℕ) : Type 0 where
  pub room : HasRoom closed tokens
  pub no_rows : closed.rows.items ≡ []
  pub no_gens : closed.gens.items ≡ []
  pub no_tallies : closed.tallies.items ≡ []
  pub no_blobs : closed.blobs.items ≡ []

-- room for all that a close of so many tokens, processors, words and slots reads and makes; and of this bank
pub record IsRoomOf (tokens cpus words slots : ℕ) (room : CloseRoom) : Type 0 where
  pub none : (room.kept.items ≡ []) × (room.words.items ≡ []) × (room.slots.items ≡ [])
  pub seats : cpus ≤ vec_capacity room.kept
  pub words_fit : words ≤ vec_capacity room.words
  pub slots_fit : slots ≤ vec_capacity room.slots
  pub blank : length room.blanks.items ≡ tokens
  pub closing : IsEmptyRoom room.closed tokens

abbrev pub IsRoomFor : BankId → ℕ → CloseRoom → Type 0
IsRoomFor bank cpus room = IsRoomOf (length bank.plans) cpus bank.table.words bank.table.slots room
