use Rattle.std.specs.Prelude.{◌≡◌, ◌⊎◌, ℕ, ◌+◌, ◌*◌, ◌<◌, ◌≤◌, Bool, true, false, List, [], ◌∷◌, length, map, All, Some, None, slice_get, slice_set, slice_index, slice_index_or}
use Rattle.std.specs.Option.{is_some}
use mathlib.Core.Option.{Option, some, none}
use lib.ListN.{get_elem?}
use Rattle.atomic_table.specs.Table.{State}
use Rattle.lwkt_base.specs.declared.laws.Law.{Law}
use Rattle.lwkt_base.specs.declared.laws.Law.TheVariants.{Any, Sum, Order, Cap, Tally, Len}
use Rattle.lwkt_base.specs.declared.holdings.Held.{Held}
use Rattle.lwkt_base.specs.declared.holdings.Held.TheVariants.{Nothing}
use Rattle.lwkt_base.specs.Holding.{is_held}
use Rattle.lwkt_base.specs.TokenWord.{word_of}
use Rattle.lwkt_table.specs.declared.seats.SeatKind.{SeatKind}
use Rattle.lwkt_table.specs.declared.seats.SeatKind.TheVariants.{Clerk, Of, Spent}
use Rattle.lwkt_core.specs.declared.tokens.Token.{Token}
use Rattle.lwkt_core.specs.Tokens.{held_by, tally_of}
use Rattle.lwkt_core.specs.Machine.{Machine, IsSafe}
use Rattle.lwkt_core.specs.Picture.{picture_of}
use Rattle.lwkt_table.specs.Seating.{total, AreSeated}
use Rattle.lwkt_bank.specs.declared.views.Plan.{Plan}
use Rattle.lwkt_bank.specs.declared.views.TokenEntry.{TokenEntry}
use Rattle.lwkt_bank.specs.declared.views.View.{View}
use Rattle.lwkt_bank.specs.Views.{RecordOf, at, amount, spent}

-- the bank's table: each token has a slot, for its record
abbrev pub Bench : Type 0
Bench = State (List ℕ) View

-- how many words the table of so many tokens has: word 0, and 16 for each token
abbrev pub table_words : ℕ → ℕ
table_words tokens = 16 * tokens + 1

-- where a token's words lie: 16 words for each, so that no two tokens share a cache line
abbrev pub token_word : ℕ → ℕ
token_word tok = 16 * tok + 1

abbrev pub cell_word : ℕ → ℕ → ℕ
cell_word tok cell = 16 * tok + 2 + cell

abbrev pub law_word : ℕ → ℕ
law_word tok = 16 * tok + 6

abbrev pub param_word : ℕ → ℕ
param_word tok = 16 * tok + 7

-- the word that shows a law (own)
abbrev pub law_number : Law → ℕ
law_number Any = 0
law_number Sum = 1
law_number Order = 2
law_number Cap = 3
law_number Tally = 4
law_number Len = 5

-- one view, as a token sees it
pub record Seen : Type 0 where
  pub kind : SeatKind
  pub entry : TokenEntry

abbrev pub seen_by : ℕ → View → Seen
seen_by tok v = record { kind = v.kind; entry = at v.tokens tok }

-- what each view says of a token
abbrev pub column : ℕ → List View → List Seen
column tok views = map (seen_by tok) views

-- what the seat of this kind holds of a token: the clerk and a seat that was taken back hold nothing
abbrev pub held_by_kind : Token → SeatKind → Held
held_by_kind tok (Of cpu) = held_by tok cpu.0
held_by_kind tok (Clerk made back) = Nothing
held_by_kind tok Spent = Nothing

-- what is known of a token is true: the known generation isn't above the token's; at an equal one each known cell is that
-- of the first row, and a record that is known is the first one; and who holds the token knows its generation, its first row and its
-- row, its first record and its record (own)
pub record Knows (tok : Token) (e : TokenEntry) : Type 0 where
  pub not_above : e.generation ≤ tok.generation
  pub cells : e.generation ≡ tok.generation → All (λ c. slice_get tok.first c.at ≡ Some c.value) e.known
  pub records : e.generation ≡ tok.generation → All (λ bytes. tok.first_blob ≡ Some bytes) e.known_blob
  pub holder : is_held e.held ≡ true → (e.generation ≡ tok.generation) × (e.first ≡ tok.first) × (e.row ≡ tok.row) × (e.first_blob ≡ tok.first_blob) × (e.blob ≡ tok.blob)

-- the cells of a row are those of the opening row
abbrev pub IsOpeningRow : Plan → List ℕ → Type 0
IsOpeningRow plan row = (i : ℕ) → i < plan.cells → slice_index row i ≡ slice_index plan.first i

-- what lies in the slot of a token: its record, but nothing while somebody holds the token exclusively; an empty record, always, of
-- a token that has none (own)
abbrev pub lies_in : RecordOf → Bool → Option (List ℕ)
lies_in None exclusive = some []
lies_in (Some bytes) true = none
lies_in (Some bytes) false = some bytes

abbrev pub in_slot : Token → Option (List ℕ)
in_slot tok = lies_in tok.blob (picture_of tok).exclusive

-- words and views show a token of the model: the count word is its picture, the cells are its row, each seat's view has what
-- its processor holds, nobody else holds the token, what the views added are the tallies, the generation is the opening one
-- plus the written sections of all views, and at the opening generation the first row and record are the opening ones; the token
-- has a record if one was declared, which lies in its slot exactly while nobody holds the token exclusively
pub record ShowsToken (plan : Plan) (home : Option (Option (List ℕ))) (word : ℕ) (cells : ℕ → ℕ) (views : List Seen) (tok : Token) : Type 0 where
  pub slot : home ≡ some (in_slot tok)
  pub guard : is_some tok.blob ≡ is_some plan.blob
  pub law : tok.law ≡ plan.law
  pub param : tok.param ≡ plan.param
  pub long : length tok.row ≡ plan.cells
  pub count_word : word ≡ word_of (picture_of tok)
  pub row : (i : ℕ) → i < plan.cells → cells i ≡ slice_index tok.row i
  pub held : (j : ℕ) (x : Seen) → get_elem? views j ≡ some x → x.entry.held ≡ held_by_kind tok x.kind
  pub seated : (cpu : ℕ) → (held_by tok cpu ≡ Nothing) ⊎ ((j : ℕ) × ((x : Seen) × ((get_elem? views j ≡ some x) × (x.kind ≡ Of (record { 0 = cpu })))))
  pub tallies : (cpu : ℕ) → tally_of tok cpu ≡ total (λ x. amount cpu x.entry.added) views
  pub sections : plan.generation + total (λ x. x.entry.written) views ≡ tok.generation
  pub opening : tok.generation ≡ plan.generation → IsOpeningRow plan tok.first
  pub opening_blob : tok.generation ≡ plan.generation → tok.first_blob ≡ plan.blob
  pub known : (j : ℕ) (x : Seen) → get_elem? views j ≡ some x → Knows tok x.entry

-- what lies in the slots of all tokens
abbrev pub Homes : Type 0
Homes = List (Option (List ℕ))

-- after a take of a token that has a record nothing lies in its slot, and after the give that ends the section the record again; the
-- slot of a token without a record stays as it is
abbrev pub without : RecordOf → ℕ → Homes → Homes
without None tok homes = homes
without (Some bytes) tok homes = slice_set homes tok none

abbrev pub with_back : RecordOf → ℕ → Homes → Homes
with_back None tok homes = homes
with_back (Some bytes) tok homes = slice_set homes tok (some bytes)

-- the table after a step on a word, with the stepping seat's new view, and with this in the slots
abbrev pub moved : Bench → ℕ → ℕ → ℕ → View → Homes → Bench
moved s i n id w homes = record { words = slice_set s.words i n; homes = homes; views = slice_set s.views id w }

-- what stands for a token or a plan past the last
abbrev pub no_plan : Plan
no_plan = record { generation = 0; param = 0; first = 0 ∷ 0 ∷ 0 ∷ 0 ∷ []; cells = 0; law = Any; blob = None }

abbrev pub no_token : Token
no_token = record { law = Any; param = 0; generation = 0; mark = false; row = []; first = []; blob = None; first_blob = None; holders = []; tallies = [] }

abbrev pub plan_at : List Plan → ℕ → Plan
plan_at plans tok = slice_index_or plans tok no_plan

abbrev pub token_at : Machine → ℕ → Token
token_at m tok = slice_index_or m.tokens tok no_token

-- the words and views of the bank show a machine
pub record Pictures (plans : List Plan) (cpus : ℕ) (s : Bench) (m : Machine) : Type 0 where
  pub processors : m.cpus ≡ cpus
  pub as_many : length m.tokens ≡ length plans
  pub no_messages : m.messages ≡ []
  pub each_token : (tok : ℕ) → tok < length plans → ShowsToken (plan_at plans tok) (get_elem? s.homes tok) (slice_index s.words (token_word tok)) (λ i. slice_index s.words (cell_word tok i)) (column tok s.views) (token_at m tok)

-- the bank's rule: words and views show a machine that is safe; law words don't change; there is one clerk and one seat for
-- each processor; and each view but those taken back knows what was declared
pub record Rule (plans : List Plan) (cpus : ℕ) (s : Bench) : Type 0 where
  pub model : Machine
  pub safe : IsSafe model
  pub pictures : Pictures plans cpus s model
  pub wide : length s.words ≡ table_words (length plans)
  pub zero_word : slice_index s.words 0 ≡ 0
  pub laws : (tok : ℕ) → tok < length plans → (slice_index s.words (law_word tok) ≡ law_number (plan_at plans tok).law) × (slice_index s.words (param_word tok) ≡ (plan_at plans tok).param)
  pub seats : AreSeated cpus (map (λ v. v.kind) s.views)
  pub informed : (j : ℕ) (v : View) → get_elem? s.views j ≡ some v → (v.plans ≡ plans) ⊎ (v ≡ spent)
  pub gone : (j : ℕ) (v : View) → get_elem? s.views j ≡ some v → v.kind ≡ Spent → v.tokens ≡ []
