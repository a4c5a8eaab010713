-- What asking for references, marking and giving back does, by its answer.
use Rattle.std.specs.Prelude.{◌≡◌, ◌≢◌, ◌⊎◌, ◌++◌, ℕ, ◌<◌, ◌≤◌, ◌==◌, Bool, true, false}
use Rattle.lwkt_base.specs.declared.names.Mode.{Mode}
use Rattle.lwkt_base.specs.declared.names.Mode.TheVariants.{Exclusive, Shared}
use Rattle.lwkt_base.specs.declared.holdings.Held.{Held}
use Rattle.lwkt_base.specs.declared.holdings.Held.TheVariants.{Nothing, Holds}
use Rattle.lwkt_base.specs.declared.words.Decision.TheVariants.{Held as IsHeld, Marked as IsMarked, Worn as IsWorn}
use Rattle.lwkt_base.specs.declared.limits.TheConstants.{LIST_LIMIT}
use Rattle.lwkt_base.specs.Holding.{is_held}
use Rattle.lwkt_bank.specs.declared.seats.CpuSeat.{CpuSeat}
use Rattle.lwkt_bank.specs.declared.answers.Given.{Given}
use Rattle.lwkt_bank.specs.Views.{more}
use Rattle.lwkt_bank.specs.Deeds.{adds_one, marks, reads_all}
use Rattle.lwkt_bank.specs.Seats.{bank_of, tokens_of, plan_of, entry, holding, references, Looked, Took, Lost, Decides, Stepped, Gave, Knowing, IsLawfulIn, lawful_loads, asked_record}
use Rattle.lwkt_seats.specs.declared.answers.Asked.{Asked}
use Rattle.lwkt_seats.specs.declared.answers.Asked.TheVariants as asked
use Rattle.lwkt_seats.specs.declared.answers.Furthered.{Furthered}
use Rattle.lwkt_seats.specs.declared.answers.Furthered.TheVariants as furthered
use Rattle.lwkt_seats.specs.declared.answers.Marked.{Marked}
use Rattle.lwkt_seats.specs.declared.answers.Marked.TheVariants as marked
use Rattle.lwkt_seats.specs.declared.answers.GaveBack.{GaveBack}
use Rattle.lwkt_seats.specs.declared.answers.GaveBack.TheVariants as gave

-- the bank has such a token, and it doesn't
abbrev pub IsThere : CpuSeat → ℕ → Type 0
IsThere s tok = tok < tokens_of (bank_of s)

abbrev pub IsMissing : CpuSeat → ℕ → Type 0
IsMissing s tok = tokens_of (bank_of s) ≤ tok

-- an exclusive reference is asked for under a shared one
abbrev pub is_upgrade : Mode → Held → Bool
is_upgrade Exclusive Nothing = false
is_upgrade Exclusive (Holds Exclusive further) = false
is_upgrade Exclusive (Holds Shared further) = true
is_upgrade Shared Nothing = false
is_upgrade Shared (Holds mode further) = false

-- whether the seat has no reference
abbrev pub has_no_reference : CpuSeat → Bool
has_no_reference s = references s == 0

-- a first reference may be asked for
abbrev pub MayAskFirst : CpuSeat → ℕ → Type 0
MayAskFirst s tok = IsThere s tok × (references s < LIST_LIMIT) × (holding s tok ≡ Nothing)

abbrev pub AsksFor : Mode → ℕ → CpuSeat → CpuSeat → Asked → Type 0
AsksFor mode tok old new asked.Taken = MayAskFirst old tok × ((generation : ℕ) × Took old new tok mode (has_no_reference old) generation)
AsksFor mode tok old new asked.Further = IsThere old tok × (references old < LIST_LIMIT) × (is_held (holding old tok) ≡ true) × (is_upgrade mode (holding old tok) ≡ false) × Stepped old new tok (more (entry old tok)) adds_one
AsksFor mode tok old new asked.NoToken = IsMissing old tok × (new ≡ old)
AsksFor mode tok old new asked.ListFull = IsThere old tok × (LIST_LIMIT ≤ references old) × (new ≡ old)
AsksFor mode tok old new asked.Upgrade = IsThere old tok × (references old < LIST_LIMIT) × (is_upgrade mode (holding old tok) ≡ true) × (new ≡ old)
AsksFor mode tok old new asked.Busy = MayAskFirst old tok × ((word : ℕ) × ((Decides word mode (has_no_reference old) IsHeld ⊎ Decides word mode (has_no_reference old) IsMarked) × Looked old new tok word))
AsksFor mode tok old new asked.Again = MayAskFirst old tok × Lost old new tok mode (has_no_reference old)
AsksFor mode tok old new asked.Worn = MayAskFirst old tok × ((word : ℕ) × (Decides word mode (has_no_reference old) IsWorn × Looked old new tok word))

abbrev pub Furthers : ℕ → CpuSeat → CpuSeat → Furthered → Type 0
Furthers tok old new furthered.Further = IsThere old tok × (is_held (holding old tok) ≡ true) × (references old < LIST_LIMIT) × Stepped old new tok (more (entry old tok)) adds_one
Furthers tok old new furthered.NoToken = IsMissing old tok × (new ≡ old)
Furthers tok old new furthered.NotHeld = IsThere old tok × (is_held (holding old tok) ≡ false) × (new ≡ old)
Furthers tok old new furthered.ListFull = IsThere old tok × (is_held (holding old tok) ≡ true) × (LIST_LIMIT ≤ references old) × (new ≡ old)

abbrev pub MarksToken : ℕ → CpuSeat → CpuSeat → Marked → Type 0
MarksToken tok old new marked.Set = IsThere old tok × Stepped old new tok (entry old tok) marks
MarksToken tok old new marked.NoToken = IsMissing old tok × (new ≡ old)

-- row and record of a token obey its law
abbrev pub ObeysItsLaw : CpuSeat → ℕ → Type 0
ObeysItsLaw s tok = IsLawfulIn (plan_of (bank_of s) tok) (entry s tok)

-- a question for the law of a token: the row is loaded, if the law asks something of it, and the record read, if it asks for its length
abbrev pub Asked_for : CpuSeat → CpuSeat → ℕ → Type 0
Asked_for old new tok = Knowing old new tok (entry old tok) (lawful_loads (plan_of (bank_of old) tok).law (reads_all old.cpu tok 0 (entry old tok).row ++ asked_record (plan_of (bank_of old) tok).law old.cpu tok (entry old tok).blob))

-- a reference given back: where a section ends, its law was asked for before
abbrev pub GivesReference : ℕ → CpuSeat → CpuSeat → Type 0
GivesReference tok old new =
    ((holding old tok ≢ Holds Exclusive 0) × ((given : Given) × Gave old new tok given))
    ⊎ ((holding old tok ≡ Holds Exclusive 0) × ObeysItsLaw old tok × ((asked : CpuSeat) × (Asked_for old asked tok × ((given : Given) × Gave asked new tok given))))

abbrev pub GivesToken : ℕ → CpuSeat → CpuSeat → GaveBack → Type 0
GivesToken tok old new gave.Given = IsThere old tok × (is_held (holding old tok) ≡ true) × GivesReference tok old new
GivesToken tok old new gave.NoToken = IsMissing old tok × (new ≡ old)
GivesToken tok old new gave.NotHeld = IsThere old tok × (is_held (holding old tok) ≡ false) × (new ≡ old)
GivesToken tok old new gave.Broken = IsThere old tok × (holding old tok ≡ Holds Exclusive 0) × (¬ ObeysItsLaw old tok) × Asked_for old new tok
