-- Lists of references taken all or none, and all that a seat holds given up, by the answer.
use Rattle.std.specs.Prelude.{◌≡◌, ◌≢◌, ◌⊎◌, ℕ, ◌<◌, ◌≤◌, ◌==◌, if◌then◌else◌, Bool, true, false, List, [], ◌∷◌, length, map, take, All, Option, None, Some, IsSomeAnd, slice_get}
use Rattle.std.specs.List.{list_all}
use Rattle.lwkt_base.specs.declared.names.TokId.{TokId}
use Rattle.lwkt_base.specs.declared.names.Mode.{Mode}
use Rattle.lwkt_base.specs.declared.names.Mode.TheVariants.{Exclusive, Shared}
use Rattle.lwkt_base.specs.declared.names.Ref.{Ref}
use Rattle.lwkt_base.specs.declared.holdings.Held.TheVariants.{Nothing, Holds}
use Rattle.lwkt_base.specs.declared.words.Decision.TheVariants.{Held as IsHeld, Marked as IsMarked, Worn as IsWorn}
use Rattle.lwkt_base.specs.declared.limits.TheConstants.{LIST_LIMIT}
use Rattle.lwkt_base.specs.Holding.{is_held, holding_of, holds_nothing}
use Rattle.lwkt_base.specs.Refs.{is_to, first_mode, IsLawfulList}
use Rattle.lwkt_bank.specs.declared.seats.CpuSeat.{CpuSeat}
use Rattle.lwkt_bank.specs.declared.answers.Given.TheVariants.{One, Clean}
use Rattle.lwkt_bank.specs.Views.{more}
use Rattle.lwkt_bank.specs.Deeds.{adds_one}
use Rattle.lwkt_bank.specs.Seats.{BankId, bank_of, tokens_of, entry, holding, IsCleanIn, Looked, Took, Lost, Decides, Stepped, Gave}
use Rattle.lwkt_seats.specs.declared.references.LwktReference.{LwktReference}
use Rattle.lwkt_seats.specs.declared.list_answers.Unlisted.{Unlisted}
use Rattle.lwkt_seats.specs.declared.list_answers.Unlisted.TheVariants as unlisted
use Rattle.lwkt_seats.specs.declared.list_answers.Missed.{Missed}
use Rattle.lwkt_seats.specs.declared.list_answers.Missed.TheVariants as missed
use Rattle.lwkt_seats.specs.declared.list_answers.Resumed.{Resumed}
use Rattle.lwkt_seats.specs.declared.list_answers.Resumed.TheVariants as resumed
use Rattle.lwkt_seats.specs.Asks.{ObeysItsLaw, Asked_for, GivesReference}
use Rattle.lwkt_seats.specs.Cells.{IsMine, RestoresRow}

-- one thing after another is done, from the first seat to the last
abbrev pub DoneInTurn : {A : Type 0} → (A → CpuSeat → CpuSeat → Type 0) → List A → CpuSeat → CpuSeat → Type 0
DoneInTurn Does [] old new = new ≡ old
DoneInTurn Does (x ∷ xs) old new = (next : CpuSeat) × (Does x old next × DoneInTurn Does xs next new)

-- a reference as C names it
abbrev pub mode_of_number : ℕ → Mode
mode_of_number number = if number == 0 then Shared else Exclusive

abbrev pub ref_of : LwktReference → Ref
ref_of r = record { tok = record { 0 = r.token }; mode = mode_of_number r.mode }

abbrev pub refs_of : List LwktReference → List Ref
refs_of refs = map ref_of refs

-- the bank has the token of a reference, and its mode is one
abbrev pub IsReference : BankId → LwktReference → Type 0
IsReference bank r = (r.token < tokens_of bank) × (r.mode ≤ 1)

-- an exclusive reference to a token whose first one in front of it is shared
abbrev pub IsUpgrade : List Ref → LwktReference → Type 0
IsUpgrade front r = ((ref_of r).mode ≡ Exclusive) × (first_mode front r.token ≡ Some Shared)

-- a reference can't follow those in front of it
abbrev pub Unlists : BankId → List Ref → LwktReference → Unlisted → Type 0
Unlists bank front r unlisted.NoToken = tokens_of bank ≤ r.token
Unlists bank front r unlisted.NoMode = (r.token < tokens_of bank) × (1 < r.mode)
Unlists bank front r unlisted.ListFull = IsReference bank r × (length front ≡ LIST_LIMIT)
Unlists bank front r unlisted.Upgrade = IsReference bank r × (length front < LIST_LIMIT) × IsUpgrade front r

-- these are references, at most 32, and a token whose first one is shared has no exclusive one among them
abbrev pub IsList : BankId → List LwktReference → Type 0
IsList bank refs = All (IsReference bank) refs × (length refs ≤ LIST_LIMIT) × IsLawfulList (refs_of refs)

-- the references in front of this place are a list, and the one at it can't follow them
abbrev pub IsUnlisted : BankId → List LwktReference → ℕ → Unlisted → Type 0
IsUnlisted bank refs at why = IsList bank (take at refs) × IsSomeAnd (slice_get refs at) (λ r. Unlists bank (refs_of (take at refs)) r why)

-- whether a list has no reference to another token
abbrev pub has_only : List Ref → ℕ → Bool
has_only refs tok = list_all (is_to tok) refs

-- a reference of a list is taken: a further one where the seat holds the token, else a first one
abbrev pub TakesOne : List Ref → Ref → CpuSeat → CpuSeat → Type 0
TakesOne refs r old new =
    ((is_held (holding old r.tok.0) ≡ true) × Stepped old new r.tok.0 (more (entry old r.tok.0)) adds_one)
    ⊎ ((holding old r.tok.0 ≡ Nothing) × ((generation : ℕ) × Took old new r.tok.0 r.mode (has_only refs r.tok.0) generation))

-- a first reference of a list is missed
abbrev pub MissesOne : List Ref → Ref → CpuSeat → CpuSeat → Missed → Type 0
MissesOne refs r old new missed.Busy = (holding old r.tok.0 ≡ Nothing) × ((word : ℕ) × ((Decides word r.mode (has_only refs r.tok.0) IsHeld ⊎ Decides word r.mode (has_only refs r.tok.0) IsMarked) × Looked old new r.tok.0 word))
MissesOne refs r old new missed.Again = (holding old r.tok.0 ≡ Nothing) × Lost old new r.tok.0 r.mode (has_only refs r.tok.0)
MissesOne refs r old new missed.Worn = (holding old r.tok.0 ≡ Nothing) × ((word : ℕ) × (Decides word r.mode (has_only refs r.tok.0) IsWorn × Looked old new r.tok.0 word))

-- row and record of each token that a seat holds are its section's first ones
abbrev pub HoldsClean : CpuSeat → Type 0
HoldsClean s = (tok : ℕ) → is_held (holding s tok) ≡ true → IsCleanIn (entry s tok)

-- a reference is given back, and no section is written
abbrev pub GivesUnwritten : ℕ → CpuSeat → CpuSeat → Type 0
GivesUnwritten tok old new = Gave old new tok One ⊎ Gave old new tok Clean

-- the references of a list are taken in order: all of them, or those in front of the first that is missed
abbrev pub TakesAll : List Ref → CpuSeat → CpuSeat → Type 0
TakesAll refs old new = DoneInTurn (TakesOne refs) refs old new × (holding new ≡ holding_of refs)

abbrev pub TakesUpTo : List Ref → ℕ → Missed → CpuSeat → CpuSeat → Type 0
TakesUpTo refs at why old new = IsSomeAnd (slice_get refs at) (λ r. (taken : CpuSeat) × (DoneInTurn (TakesOne refs) (take at refs) old taken × MissesOne refs r taken new why))

-- a list is missed at a place, and those in front of it are given back: nothing is held
abbrev pub GivesBackAll : CpuSeat → CpuSeat → Type 0
GivesBackAll old new = (holding new ≡ holds_nothing) × ((done : List ℕ) × DoneInTurn GivesUnwritten done old new)

abbrev pub TakesNone : List Ref → ℕ → Missed → CpuSeat → CpuSeat → Type 0
TakesNone refs at why old new = (tried : CpuSeat) × (TakesUpTo refs at why old tried × GivesBackAll tried new)

abbrev pub ResumesSeat : List LwktReference → CpuSeat → CpuSeat → Resumed → Type 0
ResumesSeat refs old new resumed.All = (holding old ≡ holds_nothing) × IsList (bank_of old) refs × TakesAll (refs_of refs) old new
ResumesSeat refs old new resumed.Holds = (holding old ≢ holds_nothing) × (new ≡ old)
ResumesSeat refs old new (resumed.Unlisted at why) = (holding old ≡ holds_nothing) × IsUnlisted (bank_of old) refs at why × (new ≡ old)
ResumesSeat refs old new (resumed.Missed at why) = (holding old ≡ holds_nothing) × IsList (bank_of old) refs × TakesNone (refs_of refs) at why old new

-- a section's first row and record are stored again, and its last reference is given back
abbrev pub EndsRestored : ℕ → CpuSeat → CpuSeat → Type 0
EndsRestored tok old new = (mended : CpuSeat) × (RestoresRow tok old mended × Gave mended new tok Clean)

-- a reference is given back; where that ends a section that has broken its law, row and record are restored before
abbrev pub EndsOne : ℕ → CpuSeat → CpuSeat → Bool → Type 0
EndsOne tok old new false = GivesReference tok old new
EndsOne tok old new true = (holding old tok ≡ Holds Exclusive 0) × (¬ ObeysItsLaw old tok) × ((asked : CpuSeat) × (Asked_for old asked tok × EndsRestored tok asked new))

-- the same of a token and whether it was restored
abbrev pub EndsPair : TokId × Bool → CpuSeat → CpuSeat → Type 0
EndsPair x old new = EndsOne x.0.0 old new x.1

-- references are given back, one after another
abbrev pub EndsEach : CpuSeat → CpuSeat → Type 0
EndsEach old new = (done : List (TokId × Bool)) × DoneInTurn EndsPair done old new

-- the seat holds the token exclusively, and row and record break its law
abbrev pub BreaksLaw : CpuSeat → ℕ → Type 0
BreaksLaw s tok = IsMine s tok × (¬ ObeysItsLaw s tok)

-- each token below a number that the seat holds exclusively obeys its law
abbrev pub AreLawfulBelow : CpuSeat → ℕ → Type 0
AreLawfulBelow s n = (tok : ℕ) → tok < n → IsMine s tok → ObeysItsLaw s tok

-- the first token below a number that breaks its law, if there is one
abbrev pub IsFirstToBreak : CpuSeat → ℕ → Option TokId → Type 0
IsFirstToBreak s n None = AreLawfulBelow s n
IsFirstToBreak s n (Some tok) = (tok.0 < n) × BreaksLaw s tok.0 × AreLawfulBelow s tok.0

-- the first token that was restored so far, if any was, after one token more
abbrev pub first_restored : Option TokId → Bool → TokId → Option TokId
first_restored (Some first) restored tok = Some first
first_restored None true tok = Some tok
first_restored None false tok = None

-- all that a seat holds is given up; the first token that broke its law, if there is one, is named
abbrev pub BlocksSeat : CpuSeat → CpuSeat → Option TokId → Type 0
BlocksSeat old new first = (holding new ≡ holds_nothing) × IsFirstToBreak old (tokens_of (bank_of old)) first × EndsEach old new
