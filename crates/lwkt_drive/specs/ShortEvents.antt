-- Events without room for a section or a record, and the traces that are kept by them (own).
use Rattle.std.specs.Prelude.{◌≡◌, ℕ, ◌+◌, ◌-◌, ◌<◌, ◌≤◌, ◌==◌, ◌&&◌, nat_lt, not, min, Bool, true, false, if◌then◌else◌, List, [], ◌∷◌, ◌++◌, All, length, map, slice_get, Vec, vec_len, vec_capacity}
use Rattle.std.specs.declared.alloc.Global.{Global}
use Rattle.std.specs.Option.{option_map_or}
use Rattle.lwkt_base.specs.declared.names.CpuId.{CpuId}
use Rattle.lwkt_base.specs.declared.names.TokId.{TokId}
use Rattle.lwkt_base.specs.declared.sections.Section.{Section}
use Rattle.lwkt_core.specs.declared.events.Event.{Event}
use Rattle.lwkt_core.specs.declared.events.Event.TheVariants.{Load, Take, Share, Again, Mark, GiveOne, GiveClean, GiveWritten, Read, Write, ReadBlob, WriteBlob, Send, TakeMsg, DropMsg, Reply, Reap, Abort}
use Rattle.lwkt_drive.specs.declared.short_events.CellSection.{CellSection}
use Rattle.lwkt_drive.specs.declared.short_events.ShortEvent.{ShortEvent}
use Rattle.lwkt_drive.specs.declared.short_events.ShortEvent.TheVariants.{Load as ShortLoad, Take as ShortTake, Share as ShortShare, Again as ShortAgain, Mark as ShortMark, GiveOne as ShortGiveOne, GiveClean as ShortGiveClean, GaveCell, Read as ShortRead, Write as ShortWrite, Send as ShortSend, TakeMsg as ShortTakeMsg, DropMsg as ShortDropMsg, Reply as ShortReply, Reap as ShortReap, Abort as ShortAbort, Wide as WideAt, Long as LongAt}
use Rattle.lwkt_drive.specs.declared.wide_events.WideEvent.{WideEvent}
use Rattle.lwkt_drive.specs.declared.wide_events.WideEvent.TheVariants.{Read as WideRead, Write as WideWrite, Send as WideSend, TakeMsg as WideTakeMsg}

-- the whole section of a token with one cell
abbrev pub section_of_cell : TokId → CellSection → Section
section_of_cell tok c = record { before = c.before ∷ []; after = c.after ∷ []; generation = c.generation; tok = tok }

-- the written give of a token with one cell that has this section
abbrev pub gave_cell : CpuId → TokId → CellSection → Event
gave_cell cpu tok c = GiveWritten cpu tok (section_of_cell tok c)

-- a number that a row has no room for: it is of more than 32 bits
abbrev pub is_wide : ℕ → Bool
is_wide number = nat_lt 4294967295 number

-- a list has one element, which fits 32 bits
abbrev pub is_one_short : List ℕ → Bool
is_one_short [] = false
is_one_short (x ∷ []) = not (is_wide x)
is_one_short (x ∷ y ∷ more) = false

-- a section of this token, which has one cell, and each number of it fits 32 bits
abbrev pub is_short_section : TokId → Section → Bool
is_short_section tok section = (section.tok.0 == tok.0) && is_one_short section.before && is_one_short section.after && not (is_wide section.generation)

-- the events that are kept with a short section: written gives of a token with one cell, by numbers of 32 bits
abbrev pub has_cell : Event → Bool
has_cell (GiveWritten cpu tok section) = is_short_section tok section
has_cell _ = false

-- the events that are kept wide: those with a number that a row has no room for
abbrev pub is_wide_event : Event → Bool
is_wide_event (Read cpu tok cell value) = is_wide value
is_wide_event (Write cpu tok cell value) = is_wide value
is_wide_event (Send cpu msg to round) = is_wide round
is_wide_event (TakeMsg cpu msg round) = is_wide round
is_wide_event _ = false

-- the events that are kept whole: all other written gives, and records that are read or stored
abbrev pub is_long_event : Event → Bool
is_long_event (GiveWritten cpu tok section) = not (is_short_section tok section)
is_long_event (ReadBlob cpu tok blob) = true
is_long_event (WriteBlob cpu tok blob) = true
is_long_event _ = false

-- how many there are with one more, if it is one of these
abbrev pub one_more_if : Bool → ℕ → ℕ
one_more_if is many = if is then many + 1 else many

-- the event that a wide one is
abbrev pub wide_event : WideEvent → Event
wide_event (WideRead cpu tok cell value) = Read cpu tok cell value
wide_event (WideWrite cpu tok cell value) = Write cpu tok cell value
wide_event (WideSend cpu msg to round) = Send cpu msg to round
wide_event (WideTakeMsg cpu msg round) = TakeMsg cpu msg round

-- what stands for an event whose place isn't there
abbrev pub no_event : Event
no_event = Load (record { 0 = 0 }) (record { 0 = 0 })

-- the event that a short one stands for, where the short sections, the wide events and the long events are these
abbrev pub long_event : List CellSection → List WideEvent → List Event → ShortEvent → Event
long_event cells wides longs (ShortLoad cpu tok) = Load cpu tok
long_event cells wides longs (ShortTake cpu tok) = Take cpu tok
long_event cells wides longs (ShortShare cpu tok) = Share cpu tok
long_event cells wides longs (ShortAgain cpu tok) = Again cpu tok
long_event cells wides longs (ShortMark cpu tok) = Mark cpu tok
long_event cells wides longs (ShortGiveOne cpu tok) = GiveOne cpu tok
long_event cells wides longs (ShortGiveClean cpu tok) = GiveClean cpu tok
long_event cells wides longs (GaveCell cpu tok place) = option_map_or (gave_cell cpu tok) (slice_get cells place) (Load cpu tok)
long_event cells wides longs (ShortRead cpu tok cell value) = Read cpu tok cell value
long_event cells wides longs (ShortWrite cpu tok cell value) = Write cpu tok cell value
long_event cells wides longs (ShortSend cpu msg to round) = Send cpu msg to round
long_event cells wides longs (ShortTakeMsg cpu msg round) = TakeMsg cpu msg round
long_event cells wides longs (ShortDropMsg cpu msg) = DropMsg cpu msg
long_event cells wides longs (ShortReply cpu msg) = Reply cpu msg
long_event cells wides longs (ShortReap cpu msg) = Reap cpu msg
long_event cells wides longs (ShortAbort cpu msg) = Abort cpu msg
long_event cells wides longs (WideAt place) = option_map_or wide_event (slice_get wides place) no_event
long_event cells wides longs (LongAt place) = option_map_or (λ e. e) (slice_get longs place) no_event

-- the place of a short event among so many short sections, wide events or long events is there
abbrev pub IsEventIn : ℕ → ℕ → ℕ → ShortEvent → Type 0
IsEventIn cells wides longs (GaveCell cpu tok place) = place < cells
IsEventIn cells wides longs (WideAt place) = place < wides
IsEventIn cells wides longs (LongAt place) = place < longs
IsEventIn cells wides longs _ = Unit {0}

-- the events that short ones stand for
abbrev pub events_in : List CellSection → List WideEvent → List Event → List ShortEvent → List Event
events_in cells wides longs rows = map (long_event cells wides longs) rows

-- a list has more behind what it had, or nothing more
pub record GrowsBehind {A : Type 0} (old new : List A) : Type 0 where
  pub more : List A
  pub is : new ≡ old ++ more

-- a vector has at most one element more, and as much room
abbrev pub TakesAtMostOne : {A : Type 0} → Vec A Global → Vec A Global → Type 0
TakesAtMostOne old new = (vec_len new ≤ vec_len old + 1) × (vec_capacity new ≡ vec_capacity old)

-- a vector has room for one element more, whose place fits 32 bits
abbrev pub HasPlace : {A : Type 0} → Vec A Global → Type 0
HasPlace v = (vec_len v < vec_capacity v) × (vec_len v < 4294967296)

-- the events of a trace that is kept, and how many it may have in all before it asks for memory, of whatever kinds they are
pub record KeptTrace : Type 0 where
  pub items : List Event
  pub capacity : ℕ

-- packed events with whole ones behind them: more packed ones are taken until there is room for whole ones
abbrev pub trace_of : KeptTrace → Vec Event Global → KeptTrace
trace_of packed whole = record { items = packed.items ++ whole.items; capacity = if vec_capacity whole == 0 then packed.capacity else length packed.items + vec_capacity whole }

-- how many elements more a vector takes before it asks for memory
abbrev pub spare : {A : Type 0} → Vec A Global → ℕ
spare v = vec_capacity v - vec_len v

-- how many elements more a vector takes before it asks for memory, of which the places fit 32 bits
abbrev pub spare_places : {A : Type 0} → Vec A Global → ℕ
spare_places v = min (spare v) (4294967296 - vec_len v)

-- how many more each of the lists beside the rows takes before it asks for memory
abbrev pub room_beside : Vec CellSection Global → Vec WideEvent Global → Vec Event Global → ℕ
room_beside cells wides longs = min (spare_places cells) (min (spare_places wides) (spare_places longs))

-- how many events have room in these lists, each of which may take the next one; of what lies beside the rows the places fit 32 bits
abbrev pub capacity_in : Vec ShortEvent Global → Vec CellSection Global → Vec WideEvent Global → Vec Event Global → ℕ
capacity_in rows cells wides longs = vec_len rows + min (spare rows) (room_beside cells wides longs)

-- the lists by which a trace is kept: what a row has the place of is there, and each of those beside the rows takes so many more
pub record AreKept (rows : Vec ShortEvent Global) (cells : Vec CellSection Global) (wides : Vec WideEvent Global) (longs : Vec Event Global) (beside : ℕ) : Type 0 where
  pub inside : All (IsEventIn (length cells.items) (length wides.items) (length longs.items)) rows.items
  pub room : beside ≤ room_beside cells wides longs

-- the caller's conditions of keeping one more event: each list beside the rows has a place for it, and room for so many more (own)
pub record HavePlaces (cells : Vec CellSection Global) (wides : Vec WideEvent Global) (longs : Vec Event Global) (beside : ℕ) : Type 0 where
  pub cell : HasPlace cells
  pub wide : HasPlace wides
  pub long : HasPlace longs
  pub room : beside ≤ room_beside cells wides longs

-- a list beside the rows has one element more, behind the others, if the event is of its kind, and no less room (own)
pub record GrowsIf {A : Type 0} (kind : Bool) (old new : Vec A Global) : Type 0 where
  pub count_is : length new.items ≡ one_more_if kind (length old.items)
  pub behind : GrowsBehind old.items new.items
  pub takes : TakesAtMostOne old new

-- what an event takes beside the rows: of each list what is of its kind (own)
pub record TakesBeside (event : Event) (cells cells' : Vec CellSection Global) (wides wides' : Vec WideEvent Global) (longs longs' : Vec Event Global) : Type 0 where
  pub cell : GrowsIf (has_cell event) cells cells'
  pub wide : GrowsIf (is_wide_event event) wides wides'
  pub long : GrowsIf (is_long_event event) longs longs'
