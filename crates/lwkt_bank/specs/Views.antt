use Rattle.std.specs.Prelude.{Option, Some, None, ℕ, Bool, max, ◌+◌, ◌/◌, ◌==◌, zero, suc, if◌then◌else◌, List, [], ◌∷◌, ◌++◌, length, slice_set, slice_index, sum_by}
use Rattle.lwkt_base.specs.declared.names.CpuId.{CpuId}
use Rattle.std.specs.List.{list_any}
use Rattle.lwkt_base.specs.declared.names.TokId.{TokId}
use Rattle.lwkt_base.specs.declared.sections.Section.{Section}
use Rattle.lwkt_base.specs.declared.names.Mode.{Mode}
use Rattle.lwkt_base.specs.declared.names.Mode.TheVariants.{Shared}
use Rattle.lwkt_base.specs.declared.holdings.Held.TheVariants.{Nothing, Holds}
use Rattle.lwkt_base.specs.Holding.{Holding, references_in, one_more, one_less}
use Rattle.lwkt_table.specs.declared.seats.SeatKind.{SeatKind}
use Rattle.lwkt_table.specs.declared.seats.SeatKind.TheVariants.{Clerk, Of, Spent}
use Rattle.lwkt_table.specs.declared.seats.WordStep.{WordStep}
use Rattle.lwkt_table.specs.declared.seats.Operation.TheVariants.{Load, Exchange, Add, Sub, Or}
use Rattle.lwkt_table.specs.declared.seats.Deed.{Deed}
use Rattle.lwkt_table.specs.declared.seats.Chapter.{Chapter}
use Rattle.lwkt_table.specs.History.{Page}
use Rattle.lwkt_table.specs.Seating.{after_made, after_back, next_seat}
use Rattle.lwkt_bank.specs.declared.views.Plan.{Plan}
use Rattle.lwkt_bank.specs.declared.views.KnownCell.{KnownCell}
use Rattle.lwkt_bank.specs.declared.views.Added.{Added}
use Rattle.lwkt_bank.specs.declared.views.TokenEntry.{TokenEntry}
use Rattle.lwkt_bank.specs.declared.views.View.{View}

-- the bytes of a token's record, if it has one
abbrev pub RecordOf : Type 0
RecordOf = Option (List ℕ)

-- what a seat knows of a token that it never looked at
abbrev pub blank : ℕ → TokenEntry
blank tok = record { tok = tok; held = Nothing; generation = 0; known = []; first = []; row = []; known_blob = []; first_blob = None; blob = None; touched = []; written = 0; added = [] }

-- what a list of entries says of a token: its first entry counts
abbrev pub at : List TokenEntry → ℕ → TokenEntry
at [] tok = blank tok
at (e ∷ es) tok = if e.tok == tok then e else at es tok

-- how many references are held of so many tokens from a number on
abbrev pub count_from : ℕ → ℕ → Holding → ℕ
count_from tok zero holding = 0
count_from tok (suc n) holding = references_in (holding tok) + count_from (suc tok) n holding

-- what a list of entries holds
abbrev pub held_of : List TokenEntry → Holding
held_of entries tok = (at entries tok).held

-- how much of what was added is a processor's
abbrev pub amount : ℕ → List Added → ℕ
amount cpu added = sum_by (λ a. if a.cpu.0 == cpu then a.amount else 0) added

-- how much one generation is in a token word
abbrev pub one_generation : ℕ
one_generation = 262144

-- what the end of a written section adds to a token word: a generation, less the exclusive bit
abbrev pub one_section : ℕ
one_section = 262143

-- the generation in a token word
abbrev pub generation_in : ℕ → ℕ
generation_in word = word / one_generation

-- the entry after the seat has seen this generation: a new one empties what is known of cells and record
abbrev pub seen : TokenEntry → ℕ → TokenEntry
seen e generation = if e.generation == generation then e else record e { generation = generation; known = []; known_blob = [] }

-- the entry after a look at this word
abbrev pub looked : TokenEntry → ℕ → TokenEntry
looked e word = seen e (generation_in word)

-- a record, if there is one, as a list
abbrev pub listed : RecordOf → List (List ℕ)
listed None = []
listed (Some bytes) = bytes ∷ []

-- the entry of a token that was taken at this word, with this row and record
abbrev pub taken : TokenEntry → ℕ → Mode → List ℕ → RecordOf → TokenEntry
taken e word mode row blob = record (looked e word) { held = Holds mode 0; first = row; row = row; known_blob = listed blob; first_blob = blob; blob = blob; touched = [] }

-- the entry with one reference more, and with one less
abbrev pub more : TokenEntry → TokenEntry
more e = record e { held = one_more e.held Shared }

abbrev pub less : TokenEntry → TokenEntry
less e = record e { held = one_less e.held }

-- the cells of a row with their numbers, from a number on
abbrev pub numbered : ℕ → List ℕ → List KnownCell
numbered i [] = []
numbered i (x ∷ xs) = record { at = i; value = x } ∷ numbered (suc i) xs

-- the entry after a written section has ended
abbrev pub ended : TokenEntry → TokenEntry
ended e = record e { held = Nothing; generation = e.generation + 1; known = numbered 0 e.row; first = e.row; known_blob = listed e.blob; first_blob = e.blob; written = e.written + 1 }

-- the entry after a cell was read: one cell more of the first row is known
abbrev pub read : TokenEntry → ℕ → TokenEntry
read e cell = record e { known = record { at = cell; value = slice_index e.first cell } ∷ e.known }

-- the entry after the record was written
abbrev pub wrote_record : TokenEntry → List ℕ → TokenEntry
wrote_record e bytes = record e { blob = Some bytes }

-- whether the cell was stored to since the section began, and the cells that were after one more store
abbrev pub is_touched : TokenEntry → ℕ → Bool
is_touched e cell = list_any (λ c. c == cell) e.touched

abbrev pub touching : TokenEntry → ℕ → List ℕ
touching e cell = if is_touched e cell then e.touched else (cell ∷ e.touched)

-- the entry after a value was stored in a cell
abbrev pub stored : TokenEntry → ℕ → ℕ → TokenEntry
stored e cell value = record e { row = slice_set e.row cell value; touched = touching e cell }

-- the entry after a processor has added to the cell of a Tally token
abbrev pub raised : TokenEntry → CpuId → ℕ → TokenEntry
raised e cpu k = record e { row = slice_set e.row 0 (slice_index e.row 0 + k); touched = touching e 0; added = record { cpu = cpu; amount = k } ∷ e.added }

-- the processor of a seat: the clerk and a seat that was taken back have none
abbrev pub seat_cpu : SeatKind → CpuId
seat_cpu (Of cpu) = cpu
seat_cpu (Clerk made back) = record { 0 = 0 }
seat_cpu Spent = record { 0 = 0 }

abbrev pub who : View → CpuId
who v = seat_cpu v.kind

-- the view with another entry for a token after a deed: since the seat's last deed others have acted
abbrev pub noted : List Deed → View → TokenEntry → Deed → View
noted between v e d = record v { tokens = e ∷ v.tokens; past = v.past ++ (between ++ d ∷ []) }

-- a view as the history sees it
abbrev pub page_of : View → Page
page_of v = record { kind = v.kind; past = v.past; chapters = v.chapters }

-- a token by its number
abbrev pub named : ℕ → TokId
named tok = record { 0 = tok }

-- the section that a holder ends: its first row, its row, and the generation at which it began
abbrev pub ended_section : ℕ → TokenEntry → Section
ended_section tok e = record { before = e.first; after = e.row; generation = e.generation; tok = named tok }

-- the view of the clerk at the opening
abbrev pub first_view : List Plan → View
first_view plans = record { kind = Clerk 0 0; plans = plans; tokens = []; past = []; chapters = [] }

-- the clerk's view after a seat was split off, and the view of that seat
abbrev pub clerk_after : View → View
clerk_after v = record v { kind = after_made v.kind }

abbrev pub new_seat : View → View
new_seat v = record { kind = next_seat v.kind; plans = v.plans; tokens = []; past = []; chapters = [] }

-- the cells that an entry knows of this generation's first row
abbrev pub known_of : TokenEntry → ℕ → List KnownCell
known_of e generation = if e.generation == generation then e.known else []

-- the records that an entry knows to be this generation's first
abbrev pub known_blob_of : TokenEntry → ℕ → List (List ℕ)
known_blob_of e generation = if e.generation == generation then e.known_blob else []

-- what two views together say of a token that neither holds: the later generation, and what both know of it
abbrev pub both_of : ℕ → TokenEntry → TokenEntry → TokenEntry
both_of tok d e = record (blank tok) { generation = max d.generation e.generation; known = known_of d (max d.generation e.generation) ++ known_of e (max d.generation e.generation); known_blob = known_blob_of d (max d.generation e.generation) ++ known_blob_of e (max d.generation e.generation); written = d.written + e.written; added = d.added ++ e.added }

-- what two views together say of the tokens below a number
abbrev pub merged : ℕ → List TokenEntry → List TokenEntry → List TokenEntry
merged zero ds es = []
merged (suc n) ds es = both_of n (at ds n) (at es n) ∷ merged n ds es

-- a seat is taken back: the clerk's view gets the seat's past as a chapter, and what the seat knew of the tokens; the seat's own view is
-- spent then
abbrev pub chapter_of : View → Chapter
chapter_of w = record { cpu = who w; past = w.past }

abbrev pub joined : View → View → View
joined v w = record v { kind = after_back v.kind; tokens = merged (length v.plans) v.tokens w.tokens; chapters = chapter_of w ∷ v.chapters }

abbrev pub spent : View
spent = record { kind = Spent; plans = []; tokens = []; past = []; chapters = [] }

-- a load of the word of a token, and an exchange of it, that found this word
abbrev pub load : ℕ → ℕ → WordStep
load tok found = record { at = tok; operation = Load; found = found }

abbrev pub exchange : ℕ → ℕ → ℕ → ℕ → WordStep
exchange tok old new found = record { at = tok; operation = Exchange old new; found = found }

-- an addition to the word of a token, a subtraction from it, and bits set in it, that found this word
abbrev pub add : ℕ → ℕ → ℕ → WordStep
add tok k found = record { at = tok; operation = Add k; found = found }

abbrev pub sub : ℕ → ℕ → ℕ → WordStep
sub tok k found = record { at = tok; operation = Sub k; found = found }

abbrev pub or : ℕ → ℕ → ℕ → WordStep
or tok bits found = record { at = tok; operation = Or bits; found = found }
