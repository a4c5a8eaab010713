-- What is said of the first event that can't happen: its index, the event, and its first need that isn't met; and of a close that
-- differs: the first value that does (own).
use Rattle.std.specs.Prelude.{◌≡◌, ◌≢◌, ◌⊎◌, ℕ, ◌+◌, ◌==◌, ◌<◌, Bool, true, false, not, List, [], ◌∷◌, ◌++◌, length, take, codes, nat_lt, is_some, if◌then◌else◌, string_bytes, Option, None, Some, MatchOption, option_map, slice_get}
use Rattle.std.specs.Fmt.{decimal}
use Rattle.std.specs.List.{list_all}
use Rattle.lwkt_base.specs.Hex.{bytes_text}
use Rattle.lwkt_base.specs.Holding.{is_held}
use Rattle.lwkt_base.specs.declared.holdings.Held.{Held as Holding}
use Rattle.lwkt_base.specs.declared.holdings.Held.TheVariants.{Nothing, Holds}
use Rattle.lwkt_base.specs.declared.laws.Law.{Law}
use Rattle.lwkt_base.specs.declared.laws.Law.TheVariants.{Len}
use Rattle.lwkt_base.specs.declared.names.Mode.{Mode}
use Rattle.lwkt_base.specs.declared.names.Mode.TheVariants.{Exclusive, Shared}
use Rattle.lwkt_base.specs.declared.owners.MsgEnd.{MsgEnd}
use Rattle.lwkt_base.specs.declared.owners.Owner.{Owner}
use Rattle.lwkt_base.specs.declared.owners.Owner.TheVariants.{Rest, Out, With, Back}
use Rattle.lwkt_base.specs.declared.limits.TheConstants.{RECORD_LIMIT}
use Rattle.lwkt_core.specs.Events.{cpu_of, place_of}
use Rattle.lwkt_core.specs.Lacks.{Lacks}
use Rattle.lwkt_core.specs.Machine.{Machine, Needs}
use Rattle.lwkt_core.specs.Tokens.{held_by, IsFree}
use Rattle.lwkt_core.specs.Trace.{Run, shown_tallies, end_of}
use Rattle.lwkt_core.specs.declared.events.Event.{Event}
use Rattle.lwkt_core.specs.declared.events.Event.TheVariants.{GiveWritten, Read, Write, ReadBlob, WriteBlob, Send, TakeMsg}
use Rattle.lwkt_core.specs.declared.events.Place.{Place}
use Rattle.lwkt_core.specs.declared.events.Place.TheVariants.{AtToken, AtMessage}
use Rattle.lwkt_core.specs.declared.finals.Final.{Final}
use Rattle.lwkt_core.specs.declared.lacks.Lack.{Lack}
use Rattle.lwkt_core.specs.declared.lacks.Lack.TheVariants.{NoProcessor, TooManyReferences, LastGeneration, LastExclusive, FurtherReferences, RowChanged, RecordChanged, RowUnchanged, LawBroken, OtherSection, NoCell, OtherValue, LessThanBefore, NoRecord, OtherRecord, RecordLong, NoTarget}
use Rattle.lwkt_core.specs.declared.messages.Message.{Message}
use Rattle.lwkt_core.specs.declared.tokens.Token.{Token}
use Rattle.lwkt_base.specs.Holding.{references_in}
use Rattle.lwkt_trace.specs.Words.{numbers_text}
use Rattle.lwkt_trace.specs.Written.{word_of_event, law_text}
use Rattle.lwkt_trace.specs.declared.traces.Stated.{Stated}
use Rattle.lwkt_trace.specs.declared.traces.Stated.TheVariants.{Whole, Given}
use Rattle.lwkt_checker.specs.Stated.{event_stated, events_stated}
use Rattle.lwkt_checker.specs.declared.differences.Other.{Other}
use Rattle.lwkt_checker.specs.declared.differences.Other.TheVariants.{Holders, Row, Generation, Tallies, Record}
use Rattle.lwkt_checker.specs.declared.judges.Finding.{Finding}
use Rattle.lwkt_checker.specs.declared.judges.Finding.TheVariants.{Lawful, Unlawful}

-- words, as they are
unfoldable pub said : List ℕ → List ℕ
said words = words

-- the word of an event, as in a trace, but for a message's taking
abbrev pub word_said : Event → List ℕ
word_said (TakeMsg cpu msg round) = codes "take"
word_said e = word_of_event e

-- what an event is at
abbrev pub place_said : Place → List ℕ
place_said (AtToken tok) = codes " of token " ++ decimal tok
place_said (AtMessage msg) = codes " of message " ++ decimal msg

-- a record, if there is one; of one that is too long the first 64 bytes
abbrev pub record_said : Option (List ℕ) → List ℕ
record_said None = codes "no record"
record_said (Some blob) = codes "record " ++ bytes_text (take RECORD_LIMIT blob)

-- the record that an event says: one that is too long by its length
unfoldable pub stated_record_said : List ℕ → List ℕ
stated_record_said blob = if nat_lt RECORD_LIMIT (length blob) then codes ", a record of " ++ decimal (length blob) ++ codes " bytes" else codes ", " ++ record_said (Some blob)

-- what else an event says
abbrev pub rest_said : Event → List ℕ
rest_said (Read cpu tok cell value) = codes ", cell " ++ decimal cell ++ codes ", value " ++ decimal value
rest_said (Write cpu tok cell value) = codes ", cell " ++ decimal cell ++ codes ", value " ++ decimal value
rest_said (ReadBlob cpu tok blob) = stated_record_said blob
rest_said (WriteBlob cpu tok blob) = stated_record_said blob
rest_said (Send cpu msg to round) = codes " to " ++ decimal to.0 ++ codes ", round " ++ decimal round
rest_said (TakeMsg cpu msg round) = codes ", round " ++ decimal round
rest_said e = []

-- the generation of a section
unfoldable pub generation_said : ℕ → List ℕ
generation_said generation = said (codes "generation ") ++ decimal generation ++ codes ", rows"

-- a section: its generation, and the rows at its beginning and at its end
unfoldable pub section_said : ℕ → List ℕ → List ℕ → List ℕ
section_said generation before after = generation_said generation ++ numbers_text before ++ codes " to" ++ numbers_text after

-- the section of a written give
abbrev pub given_said : Event → List ℕ
given_said (GiveWritten cpu tok section) = codes ", " ++ section_said section.generation section.before section.after
given_said e = []

-- the section that is stated of a written give
abbrev pub stated_section_said : Stated → List ℕ
stated_section_said (Whole e) = given_said e
stated_section_said (Given cpu tok) = []

-- an event as it is stated
unfoldable pub event_said : Event → Stated → List ℕ
event_said e stated = word_said e ++ codes " by " ++ decimal (cpu_of e) ++ place_said (place_of e) ++ rest_said e ++ stated_section_said stated

-- where a message is
abbrev pub owner_said : Owner → List ℕ
owner_said (Rest origin) = codes "at rest with " ++ decimal origin.0
owner_said (Out origin target) = codes "out from " ++ decimal origin.0 ++ codes " to " ++ decimal target.0
owner_said (With origin target) = codes "with " ++ decimal target.0 ++ codes " from " ++ decimal origin.0
owner_said (Back origin target) = codes "back to " ++ decimal origin.0 ++ codes " from " ++ decimal target.0

-- whether a holding is in a mode
abbrev pub is_in : Mode → Holding → Bool
is_in mode Nothing = false
is_in Exclusive (Holds Exclusive further) = true
is_in Exclusive (Holds Shared further) = false
is_in Shared (Holds Exclusive further) = false
is_in Shared (Holds Shared further) = true

-- what stands before a processor: some words before the first, a comma before each further one
abbrev pub before_said : List ℕ → Bool → List ℕ
before_said words found = if found then codes ", " else words

-- the processors, numbered from n, that hold a token in a mode; whether one was found before them
abbrev pub mode_said : Mode → List ℕ → Bool → ℕ → List Holding → List ℕ
mode_said mode words found n [] = []
mode_said mode words found n (held ∷ rest) = if is_in mode held then before_said words found ++ decimal n ++ mode_said mode words true (n + 1) rest else mode_said mode words found (n + 1) rest

-- whether nobody holds anything
abbrev pub are_idle : List Holding → Bool
are_idle held = list_all (λ h. not (is_held h)) held

-- who holds a token exclusively, and who shared
unfoldable pub exclusive_said : List Holding → List ℕ
exclusive_said held = mode_said Exclusive (codes "held exclusively by ") false 0 held

unfoldable pub shared_said : List Holding → List ℕ
shared_said held = mode_said Shared (codes "held shared by ") false 0 held

-- who holds a token
abbrev pub holders_said : Token → List ℕ
holders_said tok = if are_idle tok.holders then codes "held by nobody" else exclusive_said tok.holders ++ shared_said tok.holders

-- the row of a token, and that of the beginning of the section
unfoldable pub rows_said : Token → List ℕ
rows_said tok = codes "the row is" ++ numbers_text tok.row ++ codes " and was at the beginning of the section" ++ numbers_text tok.first

-- the record of a token, and that of the beginning of the section
unfoldable pub records_said : Token → List ℕ
records_said tok = codes "it has " ++ record_said tok.blob ++ codes " and had at the beginning of the section " ++ record_said tok.first_blob

-- that the record hasn't changed, where there is one
abbrev pub unwritten_record_said : Token → List ℕ
unwritten_record_said tok = if is_some tok.blob then codes ", and " ++ records_said tok else []

-- the value of a cell, or how many there are
abbrev pub value_said : List ℕ → Option ℕ → List ℕ
value_said row None = codes "it has " ++ decimal (length row) ++ codes " cells"
value_said row (Some value) = codes "the cell has " ++ decimal value

-- the value of the cell that an event is at
abbrev pub cell_said : Token → Event → List ℕ
cell_said tok (Read cpu t cell value) = value_said tok.row (slice_get tok.row cell)
cell_said tok (Write cpu t cell value) = value_said tok.row (slice_get tok.row cell)
cell_said tok e = []

-- the same of a value that is less than the one before it
unfoldable pub raised_said : Token → Event → List ℕ
raised_said tok e = cell_said tok e ++ said (codes ", and a tally is only raised")

-- the length of a record, where the law is of it
abbrev pub length_said : Law → Option (List ℕ) → List ℕ
length_said Len (Some blob) = codes ", the record has " ++ decimal (length blob) ++ codes " bytes"
length_said law blob = []

-- the law that a row breaks
unfoldable pub broken_law_text : Law → ℕ → List ℕ
broken_law_text law param = said (codes " breaks the law ") ++ law_text law ++ codes " " ++ decimal param

-- the law of a token, and the row that breaks it
unfoldable pub broken_said : Token → List ℕ
broken_said tok = codes "the row" ++ numbers_text tok.row ++ broken_law_text tok.law tok.param ++ length_said tok.law tok.blob

-- the section of a token that would end now
unfoldable pub own_said : Token → List ℕ
own_said tok = said (codes "the section is of ") ++ section_said tok.generation tok.first tok.row

-- why a token doesn't meet a need of an event
abbrev pub token_lack_said : Token → Event → Lack → List ℕ
token_lack_said tok e LastGeneration = codes "its generation " ++ decimal tok.generation ++ codes " is the last"
token_lack_said tok e LastExclusive = codes "it is the last reference of an exclusive holding"
token_lack_said tok e FurtherReferences = decimal (references_in (held_by tok (cpu_of e))) ++ codes " references are held"
token_lack_said tok e RowChanged = rows_said tok
token_lack_said tok e RowUnchanged = rows_said tok ++ unwritten_record_said tok
token_lack_said tok e RecordChanged = records_said tok
token_lack_said tok e NoRecord = codes "it has no record"
token_lack_said tok e OtherRecord = codes "it has " ++ record_said tok.blob
token_lack_said tok e RecordLong = codes "a record has at most 64 bytes"
token_lack_said tok e LawBroken = broken_said tok
token_lack_said tok e OtherSection = own_said tok
token_lack_said tok e NoCell = cell_said tok e
token_lack_said tok e OtherValue = cell_said tok e
token_lack_said tok e LessThanBefore = raised_said tok e
token_lack_said tok e _ = holders_said tok

-- why a message doesn't meet a need of an event
abbrev pub message_lack_said : Message → ℕ → Lack → List ℕ
message_lack_said msg cpus NoTarget = codes "there are " ++ decimal cpus ++ codes " processors"
message_lack_said msg cpus _ = owner_said msg.owner ++ codes ", round " ++ decimal msg.round

-- why the token or message of a number doesn't meet it, or that there is none
abbrev pub token_said : Option Token → Event → Lack → List ℕ
token_said None e lack = codes "no such token"
token_said (Some tok) e lack = token_lack_said tok e lack

abbrev pub message_said : Option Message → ℕ → Lack → List ℕ
message_said None cpus lack = codes "no such message"
message_said (Some msg) cpus lack = message_lack_said msg cpus lack

-- why what stands at a place doesn't meet a need of an event
abbrev pub place_lack_said : Machine → Event → Lack → Place → List ℕ
place_lack_said m e lack (AtToken tok) = token_said (slice_get m.tokens tok) e lack
place_lack_said m e lack (AtMessage msg) = message_said (slice_get m.messages msg) m.cpus lack

-- which need of an event isn't met
abbrev pub lack_said : Machine → Event → Lack → List ℕ
lack_said m e NoProcessor = codes "there are " ++ decimal m.cpus ++ codes " processors"
lack_said m e TooManyReferences = codes "the processor has 32 references"
lack_said m e lack = place_lack_said m e lack (place_of e)

-- the same, where one is named
abbrev pub some_lack_said : Machine → Event → Option Lack → List ℕ
some_lack_said m e None = []
some_lack_said m e (Some lack) = lack_said m e lack

-- the line of an index, an event that is stated, and a need of it
unfoldable pub reason_text : Machine → ℕ → Stated → Option Lack → List ℕ
reason_text m index stated lack = codes "event " ++ decimal index ++ codes ": " ++ event_said (event_stated m stated) stated ++ codes ": " ++ some_lack_said m (event_stated m stated) lack ++ codes "\n"

-- a text is the line of an index, the event that is stated in a machine, and the first need of it that isn't met; none is named
-- only where all are met
pub record IsReason (m : Machine) (index : ℕ) (stated : Stated) (text : List ℕ) : Type 0 where
  pub lack : Option Lack
  pub is_need : MatchOption lack (Needs m (event_stated m stated)) (λ l. Lacks m (event_stated m stated) l)
  pub is : text ≡ reason_text m index stated lack

-- the numbers that are given, where there are some
abbrev pub given_numbers_said : Option (List ℕ) → List ℕ
given_numbers_said None = []
given_numbers_said (Some numbers) = numbers_text numbers

-- the generation that is given, where there is one
abbrev pub given_generation_said : Option ℕ → List ℕ
given_generation_said None = []
given_generation_said (Some generation) = decimal generation

-- the record that is given, or none, where that is stated
abbrev pub given_record_said : Option (Option (List ℕ)) → List ℕ
given_record_said None = []
given_record_said (Some blob) = record_said blob

-- the row of a token and the one that is given, its generation, its tallies and its record
unfoldable pub rows_differ_said : Token → Final → ℕ → List ℕ
rows_differ_said tok last place = codes "the row is" ++ numbers_text tok.row ++ codes " and not" ++ given_numbers_said (slice_get last.rows.items place)

unfoldable pub generations_differ_said : Token → Final → ℕ → List ℕ
generations_differ_said tok last place = codes "the generation is " ++ decimal tok.generation ++ codes " and not " ++ given_generation_said (slice_get last.gens.items place)

-- the tallies that a token shows
unfoldable pub shown_said : Token → ℕ → List ℕ
shown_said tok cpus = numbers_text (shown_tallies tok.law cpus tok.tallies)

unfoldable pub tallies_differ_said : Token → ℕ → Final → ℕ → List ℕ
tallies_differ_said tok cpus last place = codes "the tallies are" ++ shown_said tok cpus ++ codes " and not" ++ given_numbers_said (slice_get last.tallies.items place)

unfoldable pub records_differ_said : Token → Final → ℕ → List ℕ
records_differ_said tok last place = codes "it has " ++ record_said tok.blob ++ codes " and not " ++ given_record_said (slice_get last.blobs.items place)

-- what is said of a thing that a token has otherwise than the closing values of its place, with both values
abbrev pub other_said : ℕ → Final → ℕ → Token → Other → List ℕ
other_said cpus last place tok Holders = holders_said tok
other_said cpus last place tok Row = rows_differ_said tok last place
other_said cpus last place tok Generation = generations_differ_said tok last place
other_said cpus last place tok Tallies = tallies_differ_said tok cpus last place
other_said cpus last place tok Record = records_differ_said tok last place

-- the same, behind the token's number
unfoldable pub token_other_said : ℕ → Final → ℕ → Token → Other → List ℕ
token_other_said cpus last place tok other = codes "token " ++ decimal place ++ codes ": " ++ other_said cpus last place tok other

-- the first thing that a token has otherwise than these closing values, in the order in which they are compared: nobody may hold
-- it, and its row, its generation, its tallies and its record are to be these
abbrev pub IsOther : Token → ℕ → List ℕ → ℕ → List ℕ → Option (List ℕ) → Option Other → Type 0
IsOther tok cpus row generation tallies blob None = IsFree tok × ((row ≡ tok.row) × ((generation ≡ tok.generation) × ((tallies ≡ shown_tallies tok.law cpus tok.tallies) × (tok.blob ≡ blob))))
IsOther tok cpus row generation tallies blob (Some Holders) = ¬ IsFree tok
IsOther tok cpus row generation tallies blob (Some Row) = IsFree tok × (row ≢ tok.row)
IsOther tok cpus row generation tallies blob (Some Generation) = IsFree tok × ((row ≡ tok.row) × (generation ≢ tok.generation))
IsOther tok cpus row generation tallies blob (Some Tallies) = IsFree tok × ((row ≡ tok.row) × ((generation ≡ tok.generation) × (tallies ≢ shown_tallies tok.law cpus tok.tallies)))
IsOther tok cpus row generation tallies blob (Some Record) = IsFree tok × ((row ≡ tok.row) × ((generation ≡ tok.generation) × ((tallies ≡ shown_tallies tok.law cpus tok.tallies) × (tok.blob ≢ blob))))

-- the same of the closing values of a place; a token differs only where all of them are given
abbrev pub IsOtherAt : Token → ℕ → Final → ℕ → Option Other → Type 0
IsOtherAt tok cpus last place other =
    MatchOption (slice_get last.rows.items place) (other ≡ None) (λ row. MatchOption (slice_get last.gens.items place) (other ≡ None) (λ generation.
    MatchOption (slice_get last.tallies.items place) (other ≡ None) (λ tallies. MatchOption (slice_get last.blobs.items place) (other ≡ None) (λ blob. IsOther tok cpus row generation tallies blob other))))

-- what is said of the token of a place, or nothing where there is none, or where it doesn't differ
abbrev pub SaysToken : Machine → Final → ℕ → Option (List ℕ) → Type 0
SaysToken m last place said =
    MatchOption (slice_get m.tokens place) (said ≡ None) (λ tok. (other : Option Other) × (IsOtherAt tok m.cpus last place other × (said ≡ option_map (λ o. token_other_said m.cpus last place tok o) other)))

-- where a message is and its round, and where it is stated to be
unfoldable pub message_other_said : ℕ → Message → MsgEnd → List ℕ
message_other_said place msg end =
    codes "message " ++ decimal place ++ codes ": " ++ owner_said msg.owner ++ codes ", round " ++ decimal msg.round ++ codes ", and not " ++ owner_said end.state ++ codes ", round " ++ decimal end.round

-- what is said of a message that is to be this at the close
abbrev pub SaysEnd : ℕ → Message → MsgEnd → Option (List ℕ) → Type 0
SaysEnd place msg end None = end ≡ end_of msg
SaysEnd place msg end (Some text) = (end ≢ end_of msg) × (text ≡ message_other_said place msg end)

-- what is said of the message of a place, or nothing where there is none or its end isn't given, or where it doesn't differ
abbrev pub SaysMessage : Machine → Final → ℕ → Option (List ℕ) → Type 0
SaysMessage m last place said = MatchOption (slice_get m.messages place) (said ≡ None) (λ msg. MatchOption (slice_get last.messages.items place) (said ≡ None) (λ end. SaysEnd place msg end said))

-- a text is what is said at the first place at which anything is said
abbrev pub IsFirst : (ℕ → Option (List ℕ) → Type 0) → List ℕ → Type 0
IsFirst Says text = (place : ℕ) × (Says place (Some text) × ((p : ℕ) → p < place → Says p None))

-- nothing is said at any place; there are at most 64 tokens and messages
abbrev pub IsSilent : (ℕ → Option (List ℕ) → Type 0) → Type 0
IsSilent Says = (p : ℕ) → p < 64 → Says p None

-- how many records were given, where that isn't as many as rows
abbrev pub records_given_said : Final → List ℕ
records_given_said last = if length last.blobs.items == length last.rows.items then [] else codes ", and " ++ decimal (length last.blobs.items) ++ codes " records"

-- how many rows and generations were given
unfoldable pub rows_given_said : Final → List ℕ
rows_given_said last = decimal (length last.rows.items) ++ codes " rows, " ++ decimal (length last.gens.items) ++ codes " generations, "

-- how many lists of tallies and ends of messages were given
unfoldable pub lists_given_said : Final → List ℕ
lists_given_said last = decimal (length last.tallies.items) ++ codes " lists of tallies and " ++ decimal (length last.messages.items) ++ codes " ends of messages were given"

-- how many closing values were given
unfoldable pub given_in_all_said : Final → List ℕ
given_in_all_said last = rows_given_said last ++ lists_given_said last ++ records_given_said last

-- a text says how a machine differs from closing values: it is that of the first token that differs, or of the first message where no
-- token does, or where no message does either it says how many values were given
abbrev pub SaysClose : Machine → Final → List ℕ → Type 0
SaysClose m last text =
    IsFirst (SaysToken m last) text ⊎ (IsSilent (SaysToken m last) × (IsFirst (SaysMessage m last) text ⊎ (IsSilent (SaysMessage m last) × (text ≡ given_in_all_said last))))

-- a text is the line that says how a machine differs from closing values
pub record IsDifference (m : Machine) (last : Final) (text : List ℕ) : Type 0 where
  pub said : List ℕ
  pub says : SaysClose m last said
  pub is : text ≡ codes "close: " ++ said ++ codes "\n"

-- the same where closing values are given
abbrev pub IsDifferenceOf : Machine → Option Final → List ℕ → Type 0
IsDifferenceOf m None text = Unit {0}
IsDifferenceOf m (Some last) text = IsDifference m last text

-- the line beside an index says why the event of that index can't happen in the machine that those before it lead to, or where only
-- the close differs how the machine at the end does
abbrev pub SaysWhy : Machine → List Stated → Option Final → Finding → Type 0
SaysWhy m stated last Lawful = Unit {0}
SaysWhy m stated last (Unlawful index why) =
    (mid : Machine) × (Run m (take index (events_stated m stated)) mid × MatchOption (slice_get stated index) (IsDifferenceOf mid last (string_bytes why)) (λ t. IsReason mid index t (string_bytes why)))
