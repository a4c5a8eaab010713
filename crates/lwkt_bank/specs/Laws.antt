use Rattle.std.specs.Prelude.{◌≡◌, ◌≢◌, ℕ, ◌+◌, ◌-◌, ◌%◌, ◌^◌, ◌<◌, ◌==◌, ◌≤◌, if◌then◌else◌, Bool, true, List, Some, [], ◌∷◌, ◌++◌, length, slice_index, slice_set, bit_or}
use mathlib.Core.Option.{some}
use lib.ListN.{get_elem?}
use Rattle.atomic_table.specs.Table.{opening as table_opening}
use Rattle.lwkt_base.specs.declared.names.CpuId.{CpuId}
use Rattle.lwkt_base.specs.declared.names.Mode.TheVariants.{Exclusive, Shared}
use Rattle.lwkt_base.specs.declared.laws.Law.TheVariants.{Tally}
use Rattle.lwkt_base.specs.declared.holdings.Held.TheVariants.{Nothing, Holds}
use Rattle.lwkt_base.specs.declared.opening_specs.TokSpec.{TokSpec}
use Rattle.lwkt_base.specs.declared.words.Decision.TheVariants.{Take as Takes}
use Rattle.lwkt_base.specs.declared.limits.TheConstants.{LIST_LIMIT, RECORD_LIMIT}
use Rattle.lwkt_base.specs.Holding.{is_held, is_exclusive}
use Rattle.lwkt_bank.specs.Hands.{IsInHand}
use Rattle.lwkt_table.specs.declared.seats.SeatKind.TheVariants.{Clerk, Of}
use Rattle.lwkt_table.specs.declared.seats.Deed.{Deed}
use Rattle.lwkt_table.specs.declared.seats.WordStep.{WordStep}
use Rattle.lwkt_core.specs.declared.events.Event.{Event}
use Rattle.lwkt_core.specs.declared.events.Event.TheVariants.{Load, Take, Share, Again, Mark, GiveOne, GiveClean, GiveWritten, Read, Write, ReadBlob, WriteBlob, Send, TakeMsg, DropMsg, Reply, Reap, Abort}
use Rattle.lwkt_core.specs.Tokens.{held_by, IsNotLastExclusive}
use Rattle.lwkt_core.specs.Machine.{Machine, IsSafe}
use Rattle.lwkt_core.specs.Opening.{opening, AreWithin, AllOpenLawfully}
use Rattle.lwkt_core.specs.Trace.{Run}
use Rattle.lwkt_table.specs.History.{IsStepOver, AreOthers, IsPastOf, Passes, events_by, steps_by, events_in, steps_in, AreOwn, Grows, noted_page}
use Rattle.lwkt_bank.specs.declared.views.Plan.{Plan}
use Rattle.lwkt_bank.specs.declared.views.View.{View}
use Rattle.lwkt_bank.specs.declared.seats.CpuSeat.{CpuSeat}
use Rattle.lwkt_bank.specs.Views.{one_section, ended_section, at, who, page_of, named, count_from, held_of, exchange, first_view, clerk_after, new_seat, joined, spent}
use Rattle.lwkt_bank.specs.Deeds.{deed_by, loads, adds_one, marks, gives_one, gives_clean, gives_written, reads, writes, reads_blob, writes_blob}
use Rattle.lwkt_bank.specs.Rule.{Bench, Homes, moved, token_word, cell_word, plan_at, token_at, Knows, Pictures}
use Rattle.lwkt_bank.specs.Opened.{plans_of, opening_words, opening_slots}
use Rattle.lwkt_bank.specs.Ledger.{IsOperation, IsDone, first_machine, Ledger, stays, taken_home, given_home, FindsAt, Deeds}
use Rattle.lwkt_bank.specs.Plays.{Amid, Looks, Exchanges, AddsOne, Marks, GivesOne, GivesClean, GivesWritten, ReadsCell, StoresCell, RaisesCell, ReadsBlob, WritesBlob}
use Rattle.lwkt_bank.specs.Seats.{Decides, IsCleanIn, IsLawfulIn, past_of, steps_of, events_of}

-- whatever meets the rule shows a safe machine; each processor with a seat holds in it what its view says, and each view
-- knows what is true of it
abbrev pub RuleShowsSafety : Type 0
RuleShowsSafety = (plans : List Plan) (cpus : ℕ) (s : Bench) → Ledger plans cpus s → (m : Machine) × (IsSafe m × (Pictures plans cpus s m
    × (((j tok : ℕ) (v : View) → get_elem? s.views j ≡ some v → tok < length plans → Knows (token_at m tok) (at v.tokens tok))
    × ((j tok : ℕ) (v : View) (cpu : CpuId) → get_elem? s.views j ≡ some v → v.kind ≡ Of cpu → tok < length plans → held_by (token_at m tok) cpu.0 ≡ (at v.tokens tok).held))))

-- the seats' part of a history: what each has seen is the front of it up to its own last deed, and its events and steps are all
-- that are its processor's
abbrev pub AreParts : Bench → List Deed → Type 0
AreParts s history = (j : ℕ) (v : View) (cpu : CpuId) → get_elem? s.views j ≡ some v → v.kind ≡ Of cpu
    → IsPastOf history cpu.0 v.past × (events_by cpu.0 history ≡ events_by cpu.0 v.past) × (steps_by cpu.0 history ≡ steps_by cpu.0 v.past)

-- whatever meets the rule is reached from the machine that was declared by a run of the model, the events of one history, of
-- which each seat has its processor's part
abbrev pub StatesAreReached : Type 0
StatesAreReached = (plans : List Plan) (cpus : ℕ) (s : Bench) → Ledger plans cpus s → (history : List Deed) × ((m : Machine) × (Passes IsDone (first_machine plans cpus) history m × Run (first_machine plans cpus) (events_in history) m × Pictures plans cpus s m × AreParts s history))

-- words and views decide history and machine
abbrev pub ViewsDecide : Type 0
ViewsDecide = (plans : List Plan) (cpus : ℕ) (s : Bench) (one other : Ledger plans cpus s) → (one.chronicle.history ≡ other.chronicle.history) × (one.rule.model ≡ other.rule.model)

-- the opening table meets the rule, and shows the opening machine, which is the one that is declared, with no deed done
abbrev pub OpeningIsDeclared : Type 0
OpeningIsDeclared = (cpus : ℕ) (specs : List TokSpec) → AreWithin cpus specs [] → AllOpenLawfully specs
    → Ledger (plans_of specs) cpus (table_opening (opening_words specs) (opening_slots specs) (first_view (plans_of specs)))
    × ((ledger : Ledger (plans_of specs) cpus (table_opening (opening_words specs) (opening_slots specs) (first_view (plans_of specs)))) → (ledger.rule.model ≡ opening cpus specs []) × (ledger.rule.model ≡ first_machine (plans_of specs) cpus) × (ledger.chronicle.history ≡ []))

-- the clerk makes a seat, or takes one back: no deed is done, and the machine stays
abbrev pub SplitIsNoDeed : Type 0
SplitIsNoDeed = (plans : List Plan) (cpus : ℕ) (s : Bench) (id : ℕ) (v : View) (made back : ℕ) (ledger : Ledger plans cpus s) → get_elem? s.views id ≡ some v → v.kind ≡ Clerk made back → made < cpus
    → (after : Ledger plans cpus (record { words = s.words; homes = s.homes; views = slice_set s.views id (clerk_after v) ++ new_seat v ∷ [] })) × (after.rule.model ≡ ledger.rule.model) × (after.chronicle.history ≡ ledger.chronicle.history)

abbrev pub JoinIsNoDeed : Type 0
JoinIsNoDeed = (plans : List Plan) (cpus : ℕ) (s : Bench) (id : ℕ) (v : View) (made back other : ℕ) (cpu : CpuId) (w : View) (ledger : Ledger plans cpus s) → get_elem? s.views id ≡ some v → v.kind ≡ Clerk made back
    → other ≢ id → get_elem? s.views other ≡ some w → w.kind ≡ Of cpu → ((tok : ℕ) → tok < length plans → (at w.tokens tok).held ≡ Nothing)
    → (after : Ledger plans cpus (record { words = s.words; homes = s.homes; views = slice_set (slice_set s.views id (joined v w)) other spent })) × (after.rule.model ≡ ledger.rule.model) × (after.chronicle.history ≡ ledger.chronicle.history)

-- one spent view more among the views, as a look from outside leaves one: no deed is done, and the machine stays
abbrev pub SpentIsNoDeed : Type 0
SpentIsNoDeed = (plans : List Plan) (cpus : ℕ) (s : Bench) (ledger : Ledger plans cpus s)
    → (after : Ledger plans cpus (record { words = s.words; homes = s.homes; views = s.views ++ spent ∷ [] })) × (after.rule.model ≡ ledger.rule.model) × (after.chronicle.history ≡ ledger.chronicle.history)

-- what an event at a cell is to the words before and after it: a read has the value that is there, a write leaves its value
abbrev pub IsCellMade : List ℕ → List ℕ → Event → Type 0
IsCellMade words words' (Read cpu tok cell value) = value ≡ slice_index words (cell_word tok.0 cell)
IsCellMade words words' (Write cpu tok cell value) = slice_index words' (cell_word tok.0 cell) ≡ value
IsCellMade words words' (Load cpu tok) = Unit {0}
IsCellMade words words' (Take cpu tok) = Unit {0}
IsCellMade words words' (Share cpu tok) = Unit {0}
IsCellMade words words' (Again cpu tok) = Unit {0}
IsCellMade words words' (Mark cpu tok) = Unit {0}
IsCellMade words words' (GiveOne cpu tok) = Unit {0}
IsCellMade words words' (GiveClean cpu tok) = Unit {0}
IsCellMade words words' (GiveWritten cpu tok section) = Unit {0}
IsCellMade words words' (ReadBlob cpu tok blob) = Unit {0}
IsCellMade words words' (WriteBlob cpu tok blob) = Unit {0}
IsCellMade words words' (Send cpu msg to round) = Unit {0}
IsCellMade words words' (TakeMsg cpu msg round) = Unit {0}
IsCellMade words words' (DropMsg cpu msg) = Unit {0}
IsCellMade words words' (Reply cpu msg) = Unit {0}
IsCellMade words words' (Reap cpu msg) = Unit {0}
IsCellMade words words' (Abort cpu msg) = Unit {0}

-- the deed is what was made of the words: its step met and left the word of its token, by the operation of its event; at a cell
-- it read what is there, or wrote what is there afterwards; and no other word of a token and no other cell was changed
pub record IsMade (plans : List Plan) (words words' : List ℕ) (d : Deed) : Type 0 where
  pub event : Event
  pub events : d.events ≡ event ∷ []
  pub step : (step : WordStep) → d.steps ≡ step ∷ [] → (step.at < length plans) × IsOperation event step.operation (slice_index words (token_word step.at)) × IsStepOver (slice_index words (token_word step.at)) (slice_index words' (token_word step.at)) step
  pub cell : IsCellMade words words' event
  pub no_other_word : (tok : ℕ) → tok < length plans → slice_index words' (token_word tok) ≢ slice_index words (token_word tok) → (step : WordStep) × ((d.steps ≡ step ∷ []) × (step.at ≡ tok))
  pub no_other_cell : (tok cell : ℕ) → tok < length plans → cell < (plan_at plans tok).cells → slice_index words' (cell_word tok cell) ≢ slice_index words (cell_word tok cell) → (cpu : CpuId) × (event ≡ Write cpu (named tok) cell (slice_index words' (cell_word tok cell)))

-- whatever a play of a seat notes is what it made: in any state of the rule, where one word becomes any number and the seat notes
-- any deed, after which the rule holds
abbrev pub MadeAsNoted : Type 0
MadeAsNoted = (plans : List Plan) (cpus : ℕ) (s : Bench) (id i n : ℕ) (v w : View) (homes : Homes) (cpu : CpuId) (between : List Deed) (d : Deed) → Ledger plans cpus s → get_elem? s.views id ≡ some v → v.kind ≡ Of cpu
    → d.cpu ≡ cpu → AreOthers cpu.0 between → page_of w ≡ noted_page (page_of v) between d → Ledger plans cpus (moved s i n id w homes) → IsMade plans s.words (slice_set s.words i n) d

-- and where it notes nothing, no word of a token and no cell has changed
abbrev pub NothingUnnoted : Type 0
NothingUnnoted = (plans : List Plan) (cpus : ℕ) (s : Bench) (id i n : ℕ) (v w : View) (homes : Homes) → Ledger plans cpus s → get_elem? s.views id ≡ some v → page_of w ≡ page_of v → Ledger plans cpus (moved s i n id w homes)
    → (tok : ℕ) → tok < length plans → (slice_index (slice_set s.words i n) (token_word tok) ≡ slice_index s.words (token_word tok)) × ((cell : ℕ) → cell < (plan_at plans tok).cells → slice_index (slice_set s.words i n) (cell_word tok cell) ≡ slice_index s.words (cell_word tok cell))

-- the same of any number of deeds that a play notes at once: they are done one after another, from the machine that the words and
-- views show before it to the one that they show after it, and are what the history has more
abbrev pub AllMadeAsNoted : Type 0
AllMadeAsNoted = (plans : List Plan) (cpus : ℕ) (s : Bench) (id i n : ℕ) (v w : View) (homes : Homes) (cpu : CpuId) (deeds : List Deed) (ledger : Ledger plans cpus s) → get_elem? s.views id ≡ some v → v.kind ≡ Of cpu → w.kind ≡ Of cpu
    → Grows cpu.0 v.past deeds w.past → AreOwn cpu.0 deeds → (after : Ledger plans cpus (moved s i n id w homes))
    → Passes IsDone ledger.rule.model deeds after.rule.model × (after.chronicle.history ≡ ledger.chronicle.history ++ deeds)

-- something that is so of each seat and token
abbrev pub AtSeat : (List Plan → ℕ → ℕ → View → ℕ → Type 0) → Type 0
AtSeat P = (plans : List Plan) (cpus id : ℕ) (v : View) (tok : ℕ) → v.kind ≡ Of (who v) → tok < length plans → P plans cpus id v tok

-- each kind of step is its deed, for the machines shown before and after it: a load, and a lost exchange, is Load
abbrev pub LookIsLoad : Type 0
LookIsLoad = AtSeat (λ plans cpus id v tok. Deeds plans cpus id v (token_word tok) (λ n. n) (λ n. loads (who v) tok n) stays (λ _ n w. Amid v (λ between. Looks between tok v n w)))

abbrev pub ExchangeIsTake : Type 0
ExchangeIsTake = AtSeat (λ plans cpus id v tok. (old new : ℕ) (alone : Bool) → count_from 0 (length plans) (held_of v.tokens) < LIST_LIMIT → Decides old Exclusive alone (Takes new)
    → Deeds plans cpus id v (token_word tok) (λ n. if n == old then new else n) (λ n. deed_by (who v) (if n == old then Take (who v) (named tok) else Load (who v) (named tok)) (exchange tok old new n ∷ [])) (taken_home (plan_at plans tok).blob tok old) (λ homes n w. Amid v (λ between. Exchanges Exclusive old new between tok v n w × (n ≡ old → FindsAt (plan_at plans tok).blob tok homes (at w.tokens tok).blob))))

abbrev pub ExchangeIsShare : Type 0
ExchangeIsShare = AtSeat (λ plans cpus id v tok. (old new : ℕ) (alone : Bool) → count_from 0 (length plans) (held_of v.tokens) < LIST_LIMIT → Decides old Shared alone (Takes new) → (at v.tokens tok).held ≡ Nothing
    → Deeds plans cpus id v (token_word tok) (λ n. if n == old then new else n) (λ n. deed_by (who v) (if n == old then Share (who v) (named tok) else Load (who v) (named tok)) (exchange tok old new n ∷ [])) stays (λ _ n w. Amid v (λ between. Exchanges Shared old new between tok v n w)))

abbrev pub AddIsAgain : Type 0
AddIsAgain = AtSeat (λ plans cpus id v tok. is_held (at v.tokens tok).held ≡ true → count_from 0 (length plans) (held_of v.tokens) < LIST_LIMIT → Deeds plans cpus id v (token_word tok) (λ n. (n + 4) % 2 ^ 64) (λ n. adds_one (who v) tok n) stays (λ _ n w. Amid v (λ between. AddsOne between tok v n w)))

abbrev pub OrIsMark : Type 0
OrIsMark = AtSeat (λ plans cpus id v tok. Deeds plans cpus id v (token_word tok) (λ n. bit_or n 2) (λ n. marks (who v) tok n) stays (λ _ n w. Amid v (λ between. Marks between tok v n w)))

abbrev pub SubIsGiveOne : Type 0
SubIsGiveOne = AtSeat (λ plans cpus id v tok. IsNotLastExclusive (at v.tokens tok).held → is_held (at v.tokens tok).held ≡ true → Deeds plans cpus id v (token_word tok) (λ n. (n + (2 ^ 64 - 4)) % 2 ^ 64) (λ n. gives_one (who v) tok n) stays (λ _ n w. Amid v (λ between. GivesOne between tok v n w)))

abbrev pub SubIsGiveClean : Type 0
SubIsGiveClean = AtSeat (λ plans cpus id v tok. (at v.tokens tok).held ≡ Holds Exclusive 0 → IsCleanIn (at v.tokens tok) → Deeds plans cpus id v (token_word tok) (λ n. (n + (2 ^ 64 - 1)) % 2 ^ 64) (λ n. gives_clean (who v) tok n) (given_home (at v.tokens tok).blob tok) (λ _ n w. Amid v (λ between. GivesClean between tok v n w)))

abbrev pub AddIsGiveWritten : Type 0
AddIsGiveWritten = AtSeat (λ plans cpus id v tok. (at v.tokens tok).held ≡ Holds Exclusive 0 → ¬ IsCleanIn (at v.tokens tok) → IsLawfulIn (plan_at plans tok) (at v.tokens tok)
    → Deeds plans cpus id v (token_word tok) (λ n. (n + one_section) % 2 ^ 64) (λ n. gives_written (ended_section tok (at v.tokens tok)) (who v) tok n) (given_home (at v.tokens tok).blob tok) (λ _ n w. Amid v (λ between. GivesWritten between tok v n w)))

abbrev pub CellLoadIsRead : Type 0
CellLoadIsRead = AtSeat (λ plans cpus id v tok. is_held (at v.tokens tok).held ≡ true → (cell : ℕ) → cell < (plan_at plans tok).cells → Deeds plans cpus id v (cell_word tok cell) (λ n. n) (λ n. reads (who v) tok cell n) stays (λ _ n w. Amid v (λ between. ReadsCell between tok cell v n w)))

abbrev pub CellStoreIsWrite : Type 0
CellStoreIsWrite = AtSeat (λ plans cpus id v tok. is_exclusive (at v.tokens tok).held ≡ true → (plan_at plans tok).law ≢ Tally → (cell value : ℕ) → cell < (plan_at plans tok).cells → Deeds plans cpus id v (cell_word tok cell) (λ _. value) (λ _. writes (who v) tok cell value) stays (λ _ _ w. Amid v (λ between. StoresCell between tok cell v value w)))

abbrev pub TallyStoreIsWrite : Type 0
TallyStoreIsWrite = AtSeat (λ plans cpus id v tok. is_exclusive (at v.tokens tok).held ≡ true → (plan_at plans tok).law ≡ Tally → (k : ℕ) → Deeds plans cpus id v (cell_word tok 0) (λ _. slice_index (at v.tokens tok).row 0 + k) (λ _. writes (who v) tok 0 (slice_index (at v.tokens tok).row 0 + k)) stays (λ _ _ w. Amid v (λ between. RaisesCell between tok 0 v (slice_index (at v.tokens tok).row 0 + k) w)))

-- an access to the record of a token that is held exclusively is ReadBlob or WriteBlob; what lies in the slots stays, as nothing lies in
-- this token's
abbrev pub AccessIsReadBlob : Type 0
AccessIsReadBlob = AtSeat (λ plans cpus id v tok. (bytes : List ℕ) → is_exclusive (at v.tokens tok).held ≡ true → (at v.tokens tok).blob ≡ Some bytes → Deeds plans cpus id v (cell_word tok 0) (λ n. n) (λ _. reads_blob (who v) tok bytes) stays (λ _ _ w. Amid v (λ between. ReadsBlob between tok v w)))

abbrev pub AccessIsWriteBlob : Type 0
AccessIsWriteBlob = AtSeat (λ plans cpus id v tok. (bytes : List ℕ) → IsInHand v tok → length bytes ≤ RECORD_LIMIT → Deeds plans cpus id v (cell_word tok 0) (λ n. n) (λ _. writes_blob (who v) tok bytes) stays (λ _ _ w. Amid v (λ between. WritesBlob bytes between tok v w)))

-- what a call's deeds say of its seat's steps on token words and of its events: they are appended, in order
abbrev pub DeedsAreAppended : Type 0
DeedsAreAppended = (s s' : CpuSeat) (deeds : List Deed) → s'.cpu ≡ s.cpu → Grows s.cpu.0 (past_of s) deeds (past_of s') → AreOwn s.cpu.0 deeds → (steps_of s' ≡ steps_of s ++ steps_in deeds) × (events_of s' ≡ events_of s ++ events_in deeds)
