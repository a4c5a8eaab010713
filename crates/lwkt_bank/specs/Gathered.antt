use Rattle.std.specs.Prelude.{◌≡◌, ◌≢◌, ℕ, ◌+◌, ◌<◌, ◌≤◌, List, [], ◌∷◌, length, map, All, Some, None, slice_get, slice_index, slice_index_or, sum, zip, is_some}
use Rattle.lwkt_table.specs.declared.seats.SeatKind.TheVariants.{Clerk}
use Rattle.lwkt_bank.specs.declared.banks.Bank.{Bank}
use Rattle.lwkt_bank.specs.declared.clerks.ClerkDesk.{ClerkDesk}
use Rattle.lwkt_bank.specs.declared.seats.CpuSeat.{CpuSeat}
use Rattle.lwkt_base.specs.declared.laws.Law.TheVariants.{Tally}
use Rattle.lwkt_base.specs.Law.{Obeys}
use Rattle.lwkt_table.specs.Seating.{total}
use Rattle.lwkt_bank.specs.declared.views.Plan.{Plan}
use Rattle.lwkt_bank.specs.declared.views.TokenEntry.{TokenEntry}
use Rattle.lwkt_bank.specs.declared.closed.Closed.{Closed}
use Rattle.lwkt_table.specs.declared.seats.Deed.{Deed}
use Rattle.lwkt_core.specs.Tokens.{IsFree, IsShort, length_of}
use Rattle.lwkt_core.specs.Machine.{Machine}
use Rattle.lwkt_core.specs.RunSections.{rows_of}
use Rattle.lwkt_table.specs.Sections.{sections_by}
use Rattle.lwkt_core.specs.SectionChain.{AreSectionChains}
use Rattle.lwkt_core.specs.Trace.{Run, shown_tallies}
use Rattle.lwkt_table.specs.History.{Passes, AreOthers, IsPastOf, events_in, events_by, steps_by}
use Rattle.lwkt_bank.specs.Rule.{IsOpeningRow}
use Rattle.lwkt_bank.specs.Ledger.{IsDone, first_machine}
use Rattle.lwkt_bank.specs.Views.{RecordOf, blank, amount}
use Rattle.lwkt_bank.specs.Seats.{BankId, id_of, bank_of, cpus_of, tokens_of, plan_of, entry, past_of, events_of, steps_of}
use Rattle.lwkt_bank.specs.Opened.{plans_of}
use Rattle.lwkt_base.specs.declared.opening_specs.TokSpec.{TokSpec}

-- the bank's clerk has made so many seats, and knows what was declared
pub record HasMade (desk : ClerkDesk) (made : ℕ) : Type 0 where
  pub kind : desk.clerk.me.0.kind ≡ Clerk made 0
  pub plans : desk.clerk.me.0.plans ≡ desk.key.plans.items

-- a seat that knows nothing of any token and has done nothing
pub record IsNew (s : CpuSeat) : Type 0 where
  pub entries : (tok : ℕ) → entry s tok ≡ blank tok
  pub past : past_of s ≡ []

-- these seats are of the bank, each new, one for each processor in order
pub record AreHandedOut (bank : BankId) (seats : List CpuSeat) : Type 0 where
  pub each : (k : ℕ) (s : CpuSeat) → k < length seats → (bank_of (slice_index_or seats k s) ≡ bank) × IsNew (slice_index_or seats k s) × ((slice_index_or seats k s).cpu.0 ≡ k)

-- a bank at its opening, with a new seat for each processor
pub record IsOpened (cpus : ℕ) (specs : List TokSpec) (bank : Bank) (seats : List CpuSeat) : Type 0 where
  pub plans : (id_of bank).plans ≡ plans_of specs
  pub processors : cpus_of bank ≡ cpus
  pub as_many : length seats ≡ cpus
  pub seats_out : AreHandedOut (id_of bank) seats

-- what a list of seats has written of a token, and what a processor has added to it
abbrev pub written_by : List CpuSeat → ℕ → ℕ
written_by seats tok = total (λ s. (entry s tok).written) seats

abbrev pub added_by : List CpuSeat → ℕ → ℕ → ℕ
added_by seats tok cpu = total (λ s. amount cpu (entry s tok).added) seats

-- what a seat knew of a token is so at the close: the generation isn't below the one that it last saw, and at an equal one the
-- row has each cell that it knew, and the record is the one that it knew
pub record IsStill (e : TokenEntry) (row : List ℕ) (blob : RecordOf) (generation : ℕ) : Type 0 where
  pub not_above : e.generation ≤ generation
  pub cells : e.generation ≡ generation → All (λ c. slice_get row c.at ≡ Some c.value) e.known
  pub records : e.generation ≡ generation → All (λ bytes. blob ≡ Some bytes) e.known_blob

-- a token at the close: what each seat knew of it is so, its row and record obey its law, its generation is the opening one plus the
-- written sections of all seats, without such a section row and record are the opening ones, and a Tally token shows for each processor what it has added, and its cell is the parameter plus all of it
pub record IsClosedToken (plan : Plan) (cpus : ℕ) (seats : List CpuSeat) (tok : ℕ) (row : List ℕ) (generation : ℕ) (tallies : List ℕ) (blob : RecordOf) : Type 0 where
  pub long : length row ≡ plan.cells
  pub lawful : Obeys plan.law plan.param row (length_of blob)
  pub guard : is_some blob ≡ is_some plan.blob
  pub short : IsShort blob
  pub generation_is : generation ≡ plan.generation + written_by seats tok
  pub none : plan.law ≢ Tally → tallies ≡ []
  pub as_many : plan.law ≡ Tally → length tallies ≡ cpus
  pub each : plan.law ≡ Tally → (cpu : ℕ) → cpu < cpus → slice_index tallies cpu ≡ added_by seats tok cpu
  pub stands : All (λ s. IsStill (entry s tok) row blob generation) seats
  pub unwritten : generation ≡ plan.generation → IsOpeningRow plan row
  pub unwritten_blob : generation ≡ plan.generation → blob ≡ plan.blob
  pub all_added : plan.law ≡ Tally → row ≡ (plan.param + sum tallies) ∷ []

-- a machine has these closing values, and nobody holds a token of it
pub record Ends (m : Machine) (closed : Closed) : Type 0 where
  pub free : All IsFree m.tokens
  pub rows : closed.rows.items ≡ map (λ tok. tok.row) m.tokens
  pub gens : closed.gens.items ≡ map (λ tok. tok.generation) m.tokens
  pub tallies : closed.tallies.items ≡ map (λ tok. shown_tallies tok.law m.cpus tok.tallies) m.tokens
  pub blobs : closed.blobs.items ≡ map (λ tok. tok.blob) m.tokens
  pub messages : m.messages ≡ []

-- one history of all seats: its deeds are done one after another from the machine that was declared to one with the closing
-- values, its events are a run of the model between the two, the events and steps of each seat are its processor's part, no other
-- processor has a deed, and the sections that the processors' events name, put together, are for each token one chain from the row
-- and generation declared to the closing ones
pub record IsHistory (bank : BankId) (cpus : ℕ) (seats : List CpuSeat) (closed : Closed) (history : List Deed) : Type 0 where
  pub last : Machine
  pub passes : Passes IsDone (first_machine bank.plans cpus) history last
  pub run : Run (first_machine bank.plans cpus) (events_in history) last
  pub ends : Ends last closed
  pub parts : All (λ s. IsPastOf history s.cpu.0 (past_of s)) seats
  pub events : All (λ s. events_of s ≡ events_by s.cpu.0 history) seats
  pub steps : All (λ s. steps_of s ≡ steps_by s.cpu.0 history) seats
  pub others : (cpu : ℕ) → cpus ≤ cpu → AreOthers cpu history
  pub sections : AreSectionChains (rows_of (first_machine bank.plans cpus)) (zip closed.rows.items closed.gens.items) (sections_by cpus history)

-- the closing values of a bank of so many processors that took back these seats
pub record IsClosed (bank : BankId) (cpus : ℕ) (seats : List CpuSeat) (closed : Closed) : Type 0 where
  pub rows : length closed.rows.items ≡ tokens_of bank
  pub gens : length closed.gens.items ≡ tokens_of bank
  pub tallies : length closed.tallies.items ≡ tokens_of bank
  pub blobs : length closed.blobs.items ≡ tokens_of bank
  pub each : (tok : ℕ) → tok < tokens_of bank → IsClosedToken (plan_of bank tok) cpus seats tok (slice_index_or closed.rows.items tok []) (slice_index closed.gens.items tok) (slice_index_or closed.tallies.items tok []) (slice_index_or closed.blobs.items tok None)
  pub history : List Deed
  pub is_history : IsHistory bank cpus seats closed history
