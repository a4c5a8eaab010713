use Rattle.std.specs.Prelude.{◌≡◌, ◌≢◌, ◌⊎◌, ℕ, ◌+◌, ◌-◌, ◌%◌, ◌^◌, ◌<◌, ◌≤◌, ◌==◌, if◌then◌else◌, List, [], ◌∷◌, ◌++◌, map, All, flat_map, bit_or}
use mathlib.Core.Option.{some}
use lib.ListN.{get_elem?}
use Rattle.lwkt_base.specs.declared.names.CpuId.{CpuId}
use Rattle.lwkt_core.specs.declared.events.Event.{Event}
use Rattle.lwkt_table.specs.declared.seats.SeatKind.{SeatKind}
use Rattle.lwkt_table.specs.declared.seats.SeatKind.TheVariants.{Clerk, Of, Spent}
use Rattle.lwkt_table.specs.declared.seats.Operation.{Operation}
use Rattle.lwkt_table.specs.declared.seats.Operation.TheVariants.{Load, Store, Exchange, Add, Sub, Or}
use Rattle.lwkt_table.specs.declared.seats.WordStep.{WordStep}
use Rattle.lwkt_table.specs.declared.seats.Deed.{Deed}
use Rattle.lwkt_table.specs.declared.seats.Chapter.{Chapter}
use Rattle.lwkt_table.specs.Seating.{after_made, after_back, next_seat}

-- the word that an operation leaves where it met this one
abbrev pub left_by : Operation → ℕ → ℕ
left_by Load n = n
left_by (Store new) n = new
left_by (Exchange old new) n = if n == old then new else n
left_by (Add k) n = (n + k) % 2 ^ 64
left_by (Sub k) n = (n + (2 ^ 64 - k)) % 2 ^ 64
left_by (Or bits) n = bit_or n bits

-- the word that an operation finds where it met this one: a store finds the word stored
abbrev pub word_by : Operation → ℕ → ℕ
word_by Load n = n
word_by (Store new) n = new
word_by (Exchange old new) n = n
word_by (Add k) n = n
word_by (Sub k) n = n
word_by (Or bits) n = n

-- a step on the word of a token or message met one word, and left another (own)
pub record IsStepOver (met left : ℕ) (step : WordStep) : Type 0 where
  pub found : step.found ≡ word_by step.operation met
  pub leaves : left ≡ left_by step.operation met

-- what a processor has among these deeds, in order: its steps on words, and its events
abbrev pub part_by : {A : Type 0} → ℕ → (Deed → List A) → List Deed → List A
part_by cpu f deeds = flat_map (λ d. if d.cpu.0 == cpu then f d else []) deeds

abbrev pub steps_by : ℕ → List Deed → List WordStep
steps_by cpu deeds = part_by cpu (λ d. d.steps) deeds

abbrev pub events_by : ℕ → List Deed → List Event
events_by cpu deeds = part_by cpu (λ d. d.events) deeds

-- the events of all deeds, in order, and the steps on words
abbrev pub events_in : List Deed → List Event
events_in deeds = flat_map (λ d. d.events) deeds

abbrev pub steps_in : List Deed → List WordStep
steps_in deeds = flat_map (λ d. d.steps) deeds

-- the deeds are done one after another, from the first state to the last
abbrev pub Passes : {S : Type 0} → (S → Deed → S → Type 0) → S → List Deed → S → Type 0
Passes Done m [] n = n ≡ m
Passes Done m (d ∷ deeds) n = (mid : _) × (Done m d mid × Passes Done mid deeds n)

-- none of the deeds is this processor's
abbrev pub AreOthers : ℕ → List Deed → Type 0
AreOthers cpu deeds = All (λ d. d.cpu.0 ≢ cpu) deeds

-- each of the deeds is this processor's
abbrev pub AreOwn : ℕ → List Deed → Type 0
AreOwn cpu deeds = All (λ d. d.cpu.0 ≡ cpu) deeds

-- what a processor has seen of a history is the front of it up to the processor's own last deed (own)
abbrev pub IsPastOf : List Deed → ℕ → List Deed → Type 0
IsPastOf history cpu past = (rest : List Deed) × ((history ≡ past ++ rest) × AreOthers cpu rest)

-- a processor that had seen this has since done these deeds, and sees that: between any two of them others may have acted
abbrev pub Grows : ℕ → List Deed → List Deed → List Deed → Type 0
Grows cpu past [] later = later ≡ past
Grows cpu past (d ∷ deeds) later = (between : List Deed) × (AreOthers cpu between × Grows cpu (past ++ (between ++ d ∷ [])) deeds later)

-- one view of a table of seats, as the history sees it: a seat has its past, the clerk the chapters of the seats that came back
pub record Page : Type 0 where
  pub kind : SeatKind
  pub past : List Deed
  pub chapters : List Chapter

abbrev pub kinds_of : List Page → List SeatKind
kinds_of pages = map (λ p. p.kind) pages

-- the clerk's page at the opening, and what stays of the page of a seat that was taken back
abbrev pub first_page : Page
first_page = record { kind = Clerk 0 0; past = []; chapters = [] }

abbrev pub spent_page : Page
spent_page = record { kind = Spent; past = []; chapters = [] }

-- a seat's page after a deed of its own, with what others did between
abbrev pub noted_page : Page → List Deed → Deed → Page
noted_page p between d = record p { past = p.past ++ (between ++ d ∷ []) }

-- the clerk's page after it has made a seat, and the page of that seat
abbrev pub made_page : Page → Page
made_page p = record p { kind = after_made p.kind }

abbrev pub seat_page : Page → Page
seat_page p = record { kind = next_seat p.kind; past = []; chapters = [] }

-- the clerk's page after it has taken back a processor's seat, which had seen this
abbrev pub back_page : Page → CpuId → List Deed → Page
back_page p cpu past = record p { kind = after_back p.kind; chapters = record { cpu = cpu; past = past } ∷ p.chapters }

-- among the pages is that of the clerk, who has made so many seats and taken so many back
pub record HasClerk (pages : List Page) (made back : ℕ) : Type 0 where
  pub at : ℕ
  pub page : Page
  pub here : get_elem? pages at ≡ some page
  pub kind : page.kind ≡ Clerk made back

-- among the pages is that of a processor's seat, which has seen this
pub record HasSeat (pages : List Page) (cpu : CpuId) (past : List Deed) : Type 0 where
  pub at : ℕ
  pub page : Page
  pub here : get_elem? pages at ≡ some page
  pub kind : page.kind ≡ Of cpu
  pub seen : page.past ≡ past

-- the clerk's page has this chapter
pub record HasChapter (pages : List Page) (c : Chapter) : Type 0 where
  pub made : ℕ
  pub back : ℕ
  pub clerk : HasClerk pages made back
  pub index : ℕ
  pub chapter : get_elem? clerk.page.chapters index ≡ some c

-- a processor's seat has seen this, or had seen it when the clerk took it back
abbrev pub HasSeen : List Page → CpuId → List Deed → Type 0
HasSeen pages cpu past = HasSeat pages cpu past ⊎ HasChapter pages (record { cpu = cpu; past = past })

-- there is one history of the deeds of all seats, from the first state to the last. What each seat has seen of it, and each seat
-- that was taken back had seen, is the front of it up to that seat's own last deed; a processor whose seat wasn't made yet has no
-- deed in it; and nothing is in it that no seat has seen (own)
pub record Chronicle {S : Type 0} (Done : S → Deed → S → Type 0) (first : S) (pages : List Page) (last : S) : Type 0 where
  pub history : List Deed
  pub passes : Passes Done first history last
  pub parts : (cpu : CpuId) (past : List Deed) → HasSeen pages cpu past → IsPastOf history cpu.0 past
  pub apart : (c : Chapter) (past : List Deed) → HasChapter pages c → ¬ HasSeat pages c.cpu past
  pub kept : (c : Chapter) (made back : ℕ) → HasChapter pages c → HasClerk pages made back → c.cpu.0 < made
  pub unmade : (made back cpu : ℕ) → HasClerk pages made back → made ≤ cpu → AreOthers cpu history
  pub met : (made back : ℕ) (cpu : CpuId) → HasClerk pages made back → cpu.0 < made → (past : List Deed) × HasSeen pages cpu past
  pub whole : (history ≡ []) ⊎ ((cpu : CpuId) × HasSeen pages cpu history)
