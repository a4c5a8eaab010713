use Rattle.std.specs.Prelude.{◌≡◌, ◌≢◌, ◌⊎◌, ℕ, ◌+◌, ◌<◌, ◌≤◌, zero, suc, if◌then◌else◌, Bool, true, List, [], ◌∷◌, ◌++◌, length, Option, Some, None, slice_get, slice_index, slice_set, is_some}
use Rattle.atomic_table.specs.Seated.{TableId}
use Rattle.atomic_table.specs.declared.shared.Seat.{Seat}
use Rattle.lwkt_base.specs.declared.names.CpuId.{CpuId}
use Rattle.lwkt_base.specs.declared.names.Mode.{Mode}
use Rattle.lwkt_base.specs.declared.names.Mode.TheVariants.{Exclusive}
use Rattle.lwkt_base.specs.declared.laws.Law.{Law}
use Rattle.lwkt_base.specs.declared.laws.Law.TheVariants.{Any, Sum, Order, Cap, Tally, Len}
use Rattle.lwkt_base.specs.declared.holdings.Held.TheVariants.{Holds}
use Rattle.lwkt_base.specs.Law.{Obeys}
use Rattle.lwkt_core.specs.Tokens.{IsNotLastExclusive, length_of}
use Rattle.lwkt_base.specs.declared.sections.Section.{Section}
use Rattle.lwkt_base.specs.declared.words.TokWord.{TokWord}
use Rattle.lwkt_base.specs.declared.words.Decision.{Decision}
use Rattle.lwkt_base.specs.declared.words.Decision.TheVariants.{Take, Held, Marked, Worn as IsWorn}
use Rattle.lwkt_base.specs.Holding.{Holding}
use Rattle.lwkt_base.specs.TokenWord.{word_of, Fits, decision}
use Rattle.lwkt_table.specs.declared.seats.SeatKind.TheVariants.{Of}
use Rattle.lwkt_table.specs.declared.seats.WordStep.{WordStep}
use Rattle.lwkt_bank.specs.declared.views.Plan.{Plan}
use Rattle.lwkt_bank.specs.declared.views.KnownCell.{KnownCell}
use Rattle.lwkt_bank.specs.declared.views.TokenEntry.{TokenEntry}
use Rattle.lwkt_bank.specs.declared.views.View.{View}
use Rattle.lwkt_bank.specs.declared.banks.Bank.{Bank}
use Rattle.lwkt_bank.specs.declared.clerks.ClerkDesk.{ClerkDesk}
use Rattle.lwkt_bank.specs.declared.seats.CpuSeat.{CpuSeat}
use Rattle.lwkt_bank.specs.declared.answers.Try.{Try}
use Rattle.lwkt_bank.specs.declared.answers.Try.TheVariants.{Got, Busy, Again, Worn}
use Rattle.lwkt_bank.specs.declared.answers.Given.{Given}
use Rattle.lwkt_bank.specs.declared.answers.Given.TheVariants.{One, Clean, Written}
use Rattle.lwkt_table.specs.declared.seats.Deed.{Deed}
use Rattle.lwkt_core.specs.declared.events.Event.{Event}
use Rattle.lwkt_table.specs.History.{steps_by, events_by, AreOwn, Grows}
use Rattle.lwkt_bank.specs.Views.{RecordOf, at, count_from, held_of, generation_in, is_touched, looked, taken, less, ended, ended_section, who}
use Rattle.lwkt_bank.specs.Deeds.{loads, takes, loses, gives_one, gives_clean, gives_written, reads, writes_all, reads_blob, writes_blob_if}
use Rattle.lwkt_bank.specs.Plays.{IsTakenRow}
use Rattle.lwkt_bank.specs.Rule.{plan_at}

-- which bank it is, and what was declared of its tokens
pub record BankId : Type 0 where
  pub table : TableId
  pub plans : List Plan

abbrev pub id_of : Bank → BankId
id_of bank = record { table = bank.table.shared.table_id; plans = bank.key.plans.items }

abbrev pub id_of_desk : ClerkDesk → BankId
id_of_desk desk = record { table = desk.table.shared.table_id; plans = desk.key.plans.items }

abbrev pub bank_of : CpuSeat → BankId
bank_of s = record { table = s.seat.table_id; plans = s.seat.me.0.plans }

-- how many processors a bank has, and so how many seats
abbrev pub cpus_of : Bank → ℕ
cpus_of bank = bank.key.cpus

-- how many tokens a bank has, and what was declared of one
abbrev pub tokens_of : BankId → ℕ
tokens_of bank = length bank.plans

abbrev pub plan_of : BankId → ℕ → Plan
plan_of bank tok = plan_at bank.plans tok

-- what a seat knows of a token, what it holds, and how many references it has
abbrev pub entry : CpuSeat → ℕ → TokenEntry
entry s tok = at s.seat.me.0.tokens tok

abbrev pub holding : CpuSeat → Holding
holding s = held_of s.seat.me.0.tokens

abbrev pub references : CpuSeat → ℕ
references s = count_from 0 (tokens_of (bank_of s)) (holding s)

-- what a seat has seen of the bank's history, the front of it up to the seat's own last deed; and of that the seat's steps on
-- token words and its events, in order
abbrev pub past_of : CpuSeat → List Deed
past_of s = s.seat.me.0.past

abbrev pub steps_of : CpuSeat → List WordStep
steps_of s = steps_by s.cpu.0 (past_of s)

abbrev pub events_of : CpuSeat → List Event
events_of s = events_by s.cpu.0 (past_of s)

-- record and first record of a token that a seat holds are there exactly if a record was declared
abbrev pub IsGuarded : CpuSeat → ℕ → Type 0
IsGuarded s tok = (is_some (entry s tok).blob ≡ is_some (plan_of (bank_of s) tok).blob) × (is_some (entry s tok).first_blob ≡ is_some (plan_of (bank_of s) tok).blob)

-- a seat of the table, by its view and its table alone
pub record IsOf (bank : Bank) (seat : Seat (List ℕ) View) : Type 0 where
  pub table : seat.table_id ≡ bank.table.shared.table_id
  pub plans : seat.me.0.plans ≡ bank.key.plans.items
  pub named : seat.me.0.kind ≡ Of (who seat.me.0)

pub record IsSame (old new : Seat (List ℕ) View) : Type 0 where
  pub table : new.table_id ≡ old.table_id
  pub slots : new.me.1 ≡ old.me.1

-- the word of every parts that fit it answers a request so
abbrev pub Decides : ℕ → Mode → Bool → Decision → Type 0
Decides word mode alone answer = (w : TokWord) → Fits w → word_of w ≡ word → decision w mode alone ≡ answer

-- what a call on one token does to its seat: of this token the seat knows e now, of every other what it knew before; it stays that
-- processor's seat of that bank; its own steps were these deeds, and other seats may have made steps in between
pub record Changes (s s' : CpuSeat) (tok : ℕ) (e : TokenEntry) (deeds : List Deed) : Type 0 where
  pub bank : bank_of s' ≡ bank_of s
  pub cpu : s'.cpu ≡ s.cpu
  pub here : entry s' tok ≡ e
  pub else_ : (other : ℕ) → other ≢ tok → entry s' other ≡ entry s other
  pub grows : Grows s.cpu.0 (past_of s) deeds (past_of s')
  pub own : AreOwn s.cpu.0 deeds

-- a load of a token's word that gave `found`: its generation is no lower than the seat knew, and the count has room for one more reference
pub record Looked (s s' : CpuSeat) (tok found : ℕ) : Type 0 where
  pub room : found + 4 < 18446744073709551616
  pub rises : (entry s tok).generation ≤ generation_in found
  pub changes : Changes s s' tok (looked (entry s tok) found) (loads s.cpu tok found ∷ [])

-- a try that took the token at this generation: the word that `decide` takes was found twice; row and record obey the law, the
-- generation doesn't fall, and at an equal one they are those that the seat knew
pub record Took (s s' : CpuSeat) (tok : ℕ) (mode : Mode) (alone : Bool) (generation : ℕ) : Type 0 where
  pub word : ℕ
  pub next : ℕ
  pub row : List ℕ
  pub blob : RecordOf
  pub decided : Decides word mode alone (Take next)
  pub generation_is : generation ≡ generation_in word
  pub found : IsTakenRow (plan_of (bank_of s) tok) (entry s tok) word row blob
  pub changes : Changes s s' tok (taken (entry s tok) word mode row blob) (loads s.cpu tok word ∷ takes s.cpu tok mode word next word ∷ [])

-- a try that lost: `decide` takes the word that the load found, and the exchange found another
pub record Lost (s s' : CpuSeat) (tok : ℕ) (mode : Mode) (alone : Bool) : Type 0 where
  pub word : ℕ
  pub next : ℕ
  pub found : ℕ
  pub decided : Decides word mode alone (Take next)
  pub other : found ≢ word
  pub rises : ((entry s tok).generation ≤ generation_in word) × (generation_in word ≤ generation_in found)
  pub changes : Changes s s' tok (looked (looked (entry s tok) word) found) (loads s.cpu tok word ∷ loses s.cpu tok word next found ∷ [])

-- what a try says, by its answer
abbrev pub Tried : CpuSeat → CpuSeat → ℕ → Mode → Bool → Try → Type 0
Tried s s' tok mode alone (Got generation) = Took s s' tok mode alone generation
Tried s s' tok mode alone (Busy word) = (Decides word mode alone Held ⊎ Decides word mode alone Marked) × Looked s s' tok word
Tried s s' tok mode alone Again = Lost s s' tok mode alone
Tried s s' tok mode alone Worn = (word : ℕ) × (Decides word mode alone IsWorn × Looked s s' tok word)

-- nothing is written in the section: row and record are the first ones
abbrev pub IsCleanIn : TokenEntry → Type 0
IsCleanIn e = (e.row ≡ e.first) × (e.blob ≡ e.first_blob)

-- row and record obey the law that is declared
abbrev pub IsLawfulIn : Plan → TokenEntry → Type 0
IsLawfulIn plan e = Obeys plan.law plan.param e.row (length_of e.blob)

-- an exchange that took the token at this word
pub record Hit (s s' : CpuSeat) (tok : ℕ) (mode : Mode) (word next : ℕ) : Type 0 where
  pub row : List ℕ
  pub blob : RecordOf
  pub found : IsTakenRow (plan_of (bank_of s) tok) (entry s tok) word row blob
  pub changes : Changes s s' tok (taken (entry s tok) word mode row blob) (takes s.cpu tok mode word next word ∷ [])

-- an exchange that found another word
pub record Miss (s s' : CpuSeat) (tok word next : ℕ) : Type 0 where
  pub found : ℕ
  pub other : found ≢ word
  pub rises : (entry s tok).generation ≤ generation_in found
  pub changes : Changes s s' tok (looked (entry s tok) found) (loses s.cpu tok word next found ∷ [])

-- a deed that is a step on the word of the token, which found some word
pub record Stepped (s s' : CpuSeat) (tok : ℕ) (e : TokenEntry) (deed : CpuId → ℕ → ℕ → Deed) : Type 0 where
  pub found : ℕ
  pub changes : Changes s s' tok e (deed s.cpu tok found ∷ [])

-- the load of a cell of a token, if it wasn't stored to since the section began: before the first store to it, or at the end
abbrev pub first_load : CpuId → ℕ → TokenEntry → ℕ → List Deed
first_load cpu tok e cell = if is_touched e cell then [] else (reads cpu tok cell (slice_index e.first cell) ∷ [])

-- the loads at the end of a written section: of each cell below a number that wasn't stored to since the section began, rising
abbrev pub last_loads : CpuId → ℕ → TokenEntry → ℕ → List Deed
last_loads cpu tok e zero = []
last_loads cpu tok e (suc cells) = last_loads cpu tok e cells ++ first_load cpu tok e cells

-- the end of a written section, which is named: each cell that wasn't stored to in it was loaded once before, and no other
pub record SectionEnded (s s' : CpuSeat) (tok : ℕ) (section : Section) : Type 0 where
  pub section_is : section ≡ ended_section tok (entry s tok)
  pub found : ℕ
  pub changes : Changes s s' tok (ended (entry s tok)) (last_loads s.cpu tok (entry s tok) (plan_of (bank_of s) tok).cells ++ gives_written section s.cpu tok found ∷ [])

-- what giving a reference back says, by its answer: Written exactly if row or record differ from the first ones, and then the section
abbrev pub Gave : CpuSeat → CpuSeat → ℕ → Given → Type 0
Gave s s' tok One = IsNotLastExclusive (holding s tok) × Stepped s s' tok (less (entry s tok)) gives_one
Gave s s' tok Clean = (holding s tok ≡ Holds Exclusive 0) × IsCleanIn (entry s tok) × Stepped s s' tok (less (entry s tok)) gives_clean
Gave s s' tok (Written section) = (holding s tok ≡ Holds Exclusive 0) × (¬ IsCleanIn (entry s tok)) × SectionEnded s s' tok section

-- a call that leaves this entry, apart from the known cells, of which there may be more; it has done these deeds
pub record Knowing (s s' : CpuSeat) (tok : ℕ) (e : TokenEntry) (deeds : List Deed) : Type 0 where
  pub known : List KnownCell
  pub new : List KnownCell
  pub grown : known ≡ new ++ e.known
  pub changes : Changes s s' tok (record e { known = known }) deeds

-- a call that leaves the seat as it was
pub record IsUnchanged (s s' : CpuSeat) : Type 0 where
  pub bank : bank_of s' ≡ bank_of s
  pub cpu : s'.cpu ≡ s.cpu
  pub entries : (tok : ℕ) → entry s' tok ≡ entry s tok
  pub past : past_of s' ≡ past_of s

-- the loads of a token's row in a question for its law: none where the law asks nothing of a row
abbrev pub lawful_loads : Law → List Deed → List Deed
lawful_loads Any deeds = []
lawful_loads Sum deeds = deeds
lawful_loads Order deeds = deeds
lawful_loads Cap deeds = deeds
lawful_loads Len deeds = deeds
lawful_loads Tally deeds = []

-- the access to a token's record in a question for its law: none but for its length
abbrev pub asked_record : Law → CpuId → ℕ → RecordOf → List Deed
asked_record Len cpu tok (Some bytes) = reads_blob cpu tok bytes ∷ []
asked_record Len cpu tok None = []
asked_record Any cpu tok blob = []
asked_record Sum cpu tok blob = []
asked_record Order cpu tok blob = []
asked_record Cap cpu tok blob = []
asked_record Tally cpu tok blob = []

-- a row after these values were stored in its cells, from a cell on
abbrev pub written_over : ℕ → List (Option ℕ) → List ℕ → List ℕ
written_over cell [] row = row
written_over cell (None ∷ made) row = written_over (suc cell) made row
written_over cell (Some value ∷ made) row = written_over (suc cell) made (slice_set row cell value)

-- the first record is put back, if the record isn't that one
abbrev pub PutsFirst : TokenEntry → RecordOf → Type 0
PutsFirst e None = e.blob ≡ e.first_blob
PutsFirst e (Some bytes) = (e.blob ≢ e.first_blob) × (e.first_blob ≡ Some bytes)

-- a restore of the row: it stored these values, which are the first values of the cells that were stored to since the section began,
-- each in its cell, rising; and the row is the section's first row
pub record RowRestored (s s' : CpuSeat) (tok : ℕ) (made : List (Option ℕ)) : Type 0 where
  pub changes : Changes s s' tok (record (entry s tok) { row = (entry s tok).first }) (writes_all s.cpu tok 0 made)
  pub writes : written_over 0 made (entry s tok).row ≡ (entry s tok).first
  pub inside : (cell value : ℕ) → slice_get made cell ≡ Some (Some value) → cell < (plan_of (bank_of s) tok).cells
  pub touched : (cell value : ℕ) → slice_get made cell ≡ Some (Some value) → (is_touched (entry s tok) cell ≡ true) × (value ≡ slice_index (entry s tok).first cell)
  pub each : (cell : ℕ) → cell < (plan_of (bank_of s) tok).cells → is_touched (entry s tok) cell ≡ true → slice_get made cell ≡ Some (Some (slice_index (entry s tok).first cell))

-- a restore: the row is restored, and then the record, which is the section's first one
pub record Restored (s s' : CpuSeat) (tok : ℕ) (made : List (Option ℕ)) (bytes : RecordOf) : Type 0 where
  pub changes : Changes s s' tok (record (entry s tok) { row = (entry s tok).first; blob = (entry s tok).first_blob }) (writes_all s.cpu tok 0 made ++ writes_blob_if s.cpu tok bytes)
  pub puts : PutsFirst (entry s tok) bytes
  pub writes : written_over 0 made (entry s tok).row ≡ (entry s tok).first
  pub inside : (cell value : ℕ) → slice_get made cell ≡ Some (Some value) → cell < (plan_of (bank_of s) tok).cells
  pub touched : (cell value : ℕ) → slice_get made cell ≡ Some (Some value) → (is_touched (entry s tok) cell ≡ true) × (value ≡ slice_index (entry s tok).first cell)
  pub each : (cell : ℕ) → cell < (plan_of (bank_of s) tok).cells → is_touched (entry s tok) cell ≡ true → slice_get made cell ≡ Some (Some (slice_index (entry s tok).first cell))
