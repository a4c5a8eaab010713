use Rattle.std.specs.Prelude.{◌≡◌, ◌≢◌, ℕ, ◌+◌, ◌<◌, ◌≤◌, List, ◌∷◌, length, All, Some, slice_get, slice_index, is_some}
use Rattle.atomic_table.specs.Table.{Me, Step, rest}
use Rattle.lwkt_base.specs.declared.names.Mode.{Mode}
use Rattle.lwkt_base.specs.declared.laws.Law.TheVariants.{Tally}
use Rattle.lwkt_base.specs.declared.names.Mode.TheVariants.{Exclusive, Shared}
use Rattle.lwkt_base.specs.declared.limits.TheConstants.{CELL_LIMIT}
use Rattle.lwkt_base.specs.Law.{Obeys}
use Rattle.lwkt_core.specs.Tokens.{IsShort, length_of}
use Rattle.lwkt_bank.specs.Hands.{TakesOut, PutsBack, Brings}
use Rattle.lwkt_table.specs.declared.seats.Deed.{Deed}
use Rattle.lwkt_table.specs.History.{AreOthers}
use Rattle.lwkt_bank.specs.declared.views.Plan.{Plan}
use Rattle.lwkt_bank.specs.declared.views.TokenEntry.{TokenEntry}
use Rattle.lwkt_bank.specs.declared.views.View.{View}
use Rattle.lwkt_bank.specs.Views.{RecordOf, at, amount, generation_in, looked, taken, more, less, ended, ended_section, read, wrote_record, stored, raised, who, noted}
use Rattle.lwkt_bank.specs.Deeds.{loads, takes, loses, adds_one, marks, gives_one, gives_clean, gives_written, reads, writes, reads_blob, writes_blob}
use Rattle.lwkt_bank.specs.Rule.{token_word, cell_word, IsOpeningRow, plan_at}

-- since the last deed of the seat with this view others have acted, and its step shows this after what they did
abbrev pub Amid : View → (List Deed → Type 0) → Type 0
Amid v R = (between : List Deed) × (AreOthers (who v).0 between × R between)

-- what a step on the count word of a token shows: the word's place says which token it is
abbrev pub at_word : (List Deed → ℕ → View → ℕ → View → Type 0) → Step (List ℕ) → Me (List ℕ) View → ℕ → Me (List ℕ) View → Type 0
at_word R st m n m' = (m'.1 ≡ m.1) × ((tok : ℕ) → st.word ≡ token_word tok → Amid m.0 (λ between. R between tok m.0 n m'.0))

-- what a step on a cell of a token says
abbrev pub at_cell : (List Deed → ℕ → ℕ → View → ℕ → View → Type 0) → Step (List ℕ) → Me (List ℕ) View → ℕ → Me (List ℕ) View → Type 0
at_cell R st m n m' = (m'.1 ≡ m.1) × ((tok cell : ℕ) → cell < CELL_LIMIT → st.word ≡ cell_word tok cell → Amid m.0 (λ between. R between tok cell m.0 n m'.0))

-- a load of the word: its generation is no lower than the seat knew, and the count has room for one more reference
abbrev pub Looks : List Deed → ℕ → View → ℕ → View → Type 0
Looks between tok v n w = (n + 4 < 18446744073709551616) × ((at v.tokens tok).generation ≤ generation_in n) × (w ≡ noted between v (looked (at v.tokens tok) n) (loads (who v) tok n))

-- the row and the record that a take at this word finds: they obey the law, the generation doesn't fall, at an equal generation they
-- are those that the seat knew, and at the opening generation they are the opening ones; there is a record if one was declared
pub record IsTakenRow (plan : Plan) (e : TokenEntry) (word : ℕ) (row : List ℕ) (blob : RecordOf) : Type 0 where
  pub long : length row ≡ plan.cells
  pub lawful : Obeys plan.law plan.param row (length_of blob)
  pub rises : e.generation ≤ generation_in word
  pub fresh : e.generation ≡ generation_in word → All (λ c. slice_get row c.at ≡ Some c.value) e.known
  pub opening : generation_in word ≡ plan.generation → IsOpeningRow plan row
  pub guard : is_some blob ≡ is_some plan.blob
  pub short : IsShort blob
  pub fresh_blob : e.generation ≡ generation_in word → All (λ bytes. blob ≡ Some bytes) e.known_blob
  pub opening_blob : generation_in word ≡ plan.generation → blob ≡ plan.blob

-- an exchange that takes the token, or finds another word
abbrev pub Exchanges : Mode → ℕ → ℕ → List Deed → ℕ → View → ℕ → View → Type 0
Exchanges mode old new between tok v n w =
    (n ≡ old → (row : List ℕ) × ((blob : RecordOf) × (IsTakenRow (plan_at v.plans tok) (at v.tokens tok) n row blob × (w ≡ noted between v (taken (at v.tokens tok) n mode row blob) (takes (who v) tok mode old new n)))))
    × (n ≢ old → ((at v.tokens tok).generation ≤ generation_in n) × (w ≡ noted between v (looked (at v.tokens tok) n) (loses (who v) tok old new n)))

abbrev pub shares : Step (List ℕ) → Me (List ℕ) View → ℕ → Me (List ℕ) View → Type 0
shares st = at_word (Exchanges Shared st.first st.second) st

-- an exclusive take takes the token's record in hand, if it has one
abbrev pub takes_out : Step (List ℕ) → Me (List ℕ) View → ℕ → Me (List ℕ) View → Type 0
takes_out st m n m' = (tok : ℕ) → st.word ≡ token_word tok → Amid m.0 (λ between. Exchanges Exclusive st.first st.second between tok m.0 n m'.0)
    × (n ≡ st.first → TakesOut (at m'.0.tokens tok).blob tok m.1 m'.1) × (n ≢ st.first → m'.1 ≡ m.1)

-- a further reference, a mark, and the three ways of giving a reference back; the end of a written section finds the generation
-- that the seat knows
abbrev pub AddsOne : List Deed → ℕ → View → ℕ → View → Type 0
AddsOne between tok v n w = w ≡ noted between v (more (at v.tokens tok)) (adds_one (who v) tok n)

abbrev pub Marks : List Deed → ℕ → View → ℕ → View → Type 0
Marks between tok v n w = w ≡ noted between v (at v.tokens tok) (marks (who v) tok n)

abbrev pub GivesOne : List Deed → ℕ → View → ℕ → View → Type 0
GivesOne between tok v n w = w ≡ noted between v (less (at v.tokens tok)) (gives_one (who v) tok n)

abbrev pub GivesClean : List Deed → ℕ → View → ℕ → View → Type 0
GivesClean between tok v n w = w ≡ noted between v (less (at v.tokens tok)) (gives_clean (who v) tok n)

abbrev pub GivesWritten : List Deed → ℕ → View → ℕ → View → Type 0
GivesWritten between tok v n w = (generation_in n ≡ (at v.tokens tok).generation) × (w ≡ noted between v (ended (at v.tokens tok)) (gives_written (ended_section tok (at v.tokens tok)) (who v) tok n))

-- what a step shows that ends a section: it puts the token's record back, if it has one
abbrev pub puts_back : (List Deed → ℕ → View → ℕ → View → Type 0) → Step (List ℕ) → Me (List ℕ) View → ℕ → Me (List ℕ) View → Type 0
puts_back R st m n m' = (tok : ℕ) → st.word ≡ token_word tok → Amid m.0 (λ between. R between tok m.0 n m'.0) × PutsBack (at m.0.tokens tok).blob tok m.1 m'.1

-- the record that is read: the access is noted at a load of the word of the token's first cell
abbrev pub ReadsBlob : List Deed → ℕ → View → View → Type 0
ReadsBlob between tok v w = (bytes : List ℕ) × (((at v.tokens tok).blob ≡ Some bytes) × (w ≡ noted between v (at v.tokens tok) (reads_blob (who v) tok bytes)))

abbrev pub reads_record : Step (List ℕ) → Me (List ℕ) View → ℕ → Me (List ℕ) View → Type 0
reads_record st m n m' = (tok : ℕ) → st.word ≡ cell_word tok 0 → Amid m.0 (λ between. ReadsBlob between tok m.0 m'.0) × Brings tok m.1 m'.1

-- a record that is brought to the front: a load of that word, which is no deed
abbrev pub brings_record : Step (List ℕ) → Me (List ℕ) View → ℕ → Me (List ℕ) View → Type 0
brings_record st m n m' = (tok : ℕ) → st.word ≡ cell_word tok 0 → (m'.0 ≡ m.0) × Brings tok m.1 m'.1

-- and one that was written: noted at a load of that word, when it lies in front
abbrev pub WritesBlob : List ℕ → List Deed → ℕ → View → View → Type 0
WritesBlob bytes between tok v w = w ≡ noted between v (wrote_record (at v.tokens tok) bytes) (writes_blob (who v) tok bytes)

abbrev pub writes_record : Step (List ℕ) → Me (List ℕ) View → ℕ → Me (List ℕ) View → Type 0
writes_record st m n m' = (tok : ℕ) (bytes : List ℕ) → st.word ≡ cell_word tok 0 → m.1 ≡ (tok, bytes) ∷ rest m.1 → Amid m.0 (λ between. WritesBlob bytes between tok m.0 m'.0) × (m'.1 ≡ m.1)

-- what an exchange does to the records in hand
abbrev pub TakesHands : Mode → ℕ → ℕ → ℕ → Me (List ℕ) View → Me (List ℕ) View → Type 0
TakesHands Exclusive old tok n m m' = (n ≡ old → TakesOut (at m'.0.tokens tok).blob tok m.1 m'.1) × (n ≢ old → m'.1 ≡ m.1)
TakesHands Shared old tok n m m' = m'.1 ≡ m.1

-- a cell that is read, which is at least what any processor has added if the token keeps tallies; one that is stored to, and the cell of a Tally token that is raised
abbrev pub ReadsCell : List Deed → ℕ → ℕ → View → ℕ → View → Type 0
ReadsCell between tok cell v n w = (n ≡ slice_index (at v.tokens tok).row cell) × (w ≡ noted between v (read (at v.tokens tok) cell) (reads (who v) tok cell n))
    × ((plan_at v.plans tok).law ≡ Tally → (cpu : ℕ) → amount cpu (at v.tokens tok).added ≤ slice_index (at v.tokens tok).row 0)

abbrev pub StoresCell : List Deed → ℕ → ℕ → View → ℕ → View → Type 0
StoresCell between tok cell v n w = w ≡ noted between v (stored (at v.tokens tok) cell n) (writes (who v) tok cell n)

abbrev pub RaisesCell : List Deed → ℕ → ℕ → View → ℕ → View → Type 0
RaisesCell between tok cell v n w = (k : ℕ) → n ≡ slice_index (at v.tokens tok).row 0 + k → w ≡ noted between v (raised (at v.tokens tok) (who v) k) (writes (who v) tok 0 n)
