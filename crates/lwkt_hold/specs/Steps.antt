use Rattle.std.specs.Prelude.{◌≡◌, ◌⊎◌, ℕ, ◌==◌, Bool, true, false, List, [], ◌∷◌}
use Rattle.lwkt_base.specs.declared.names.Mode.TheVariants.{Exclusive, Shared}
use Rattle.lwkt_base.specs.Holding.{Holding, added, removed}
use Rattle.lwkt_core.specs.declared.events.Event.{Event}
use Rattle.lwkt_bank.specs.Views.{one_section}
use Rattle.lwkt_core.specs.declared.events.Event.TheVariants.{Load, Take, Share, Again, Mark, GiveOne, GiveClean, GiveWritten, Read, Write, ReadBlob, WriteBlob, Send, TakeMsg, DropMsg, Reply, Reap, Abort}
use Rattle.lwkt_table.specs.declared.seats.WordStep.{WordStep}
use Rattle.lwkt_table.specs.declared.seats.Operation.{Operation}
use Rattle.lwkt_table.specs.declared.seats.Operation.TheVariants.{Load as Loads, Store, Exchange, Add, Sub, Or}

-- what a processor holds after an event of its own (token(9))
abbrev pub held_after : Event → Holding → Holding
held_after (Take cpu tok) h = added h tok.0 Exclusive
held_after (Share cpu tok) h = added h tok.0 Shared
held_after (Again cpu tok) h = added h tok.0 Shared
held_after (GiveOne cpu tok) h = removed h tok.0
held_after (GiveClean cpu tok) h = removed h tok.0
held_after (GiveWritten cpu tok section) h = removed h tok.0
held_after (Load cpu tok) h = h
held_after (Mark cpu tok) h = h
held_after (Read cpu tok cell value) h = h
held_after (Write cpu tok cell value) h = h
held_after (ReadBlob cpu tok blob) h = h
held_after (WriteBlob cpu tok blob) h = h
held_after (Send cpu msg to round) h = h
held_after (TakeMsg cpu msg round) h = h
held_after (DropMsg cpu msg) h = h
held_after (Reply cpu msg) h = h
held_after (Reap cpu msg) h = h
held_after (Abort cpu msg) h = h

-- whether an operation that found this word has an event: a load and an exchange that lost have none (own)
abbrev pub has_event : Operation → ℕ → Bool
has_event Loads found = false
has_event (Store word) found = true
has_event (Exchange old new) found = found == old
has_event (Add k) found = true
has_event (Sub k) found = true
has_event (Or bits) found = true

abbrev pub is_counted : WordStep → Bool
is_counted s = has_event s.operation s.found

-- whether an event is a look at the word of a token, which no trace has; and whether it is one or the load of a cell or of a
-- record, which a trace has only where it was asked for (own)
abbrev pub is_look : Event → Bool
is_look (Load cpu tok) = true
is_look (Take cpu tok) = false
is_look (Share cpu tok) = false
is_look (Again cpu tok) = false
is_look (Mark cpu tok) = false
is_look (GiveOne cpu tok) = false
is_look (GiveClean cpu tok) = false
is_look (GiveWritten cpu tok section) = false
is_look (Read cpu tok cell value) = false
is_look (Write cpu tok cell value) = false
is_look (ReadBlob cpu tok blob) = false
is_look (WriteBlob cpu tok blob) = false
is_look (Send cpu msg to round) = false
is_look (TakeMsg cpu msg round) = false
is_look (DropMsg cpu msg) = false
is_look (Reply cpu msg) = false
is_look (Reap cpu msg) = false
is_look (Abort cpu msg) = false

abbrev pub may_be_untraced : Event → Bool
may_be_untraced (Read cpu tok cell value) = true
may_be_untraced (Load cpu tok) = true
may_be_untraced (Take cpu tok) = false
may_be_untraced (Share cpu tok) = false
may_be_untraced (Again cpu tok) = false
may_be_untraced (Mark cpu tok) = false
may_be_untraced (GiveOne cpu tok) = false
may_be_untraced (GiveClean cpu tok) = false
may_be_untraced (GiveWritten cpu tok section) = false
may_be_untraced (Write cpu tok cell value) = false
may_be_untraced (ReadBlob cpu tok blob) = true
may_be_untraced (WriteBlob cpu tok blob) = false
may_be_untraced (Send cpu msg to round) = false
may_be_untraced (TakeMsg cpu msg round) = false
may_be_untraced (DropMsg cpu msg) = false
may_be_untraced (Reply cpu msg) = false
may_be_untraced (Reap cpu msg) = false
may_be_untraced (Abort cpu msg) = false

-- a trace has these events in order, without the looks at words and without loads of cells and records that weren't asked for
abbrev pub AreTraced : List Event → List Event → Type 0
AreTraced [] traced = traced ≡ []
AreTraced (e ∷ events) traced = ((may_be_untraced e ≡ true) × AreTraced events traced) ⊎ ((is_look e ≡ false) × ((rest : List Event) × ((traced ≡ e ∷ rest) × AreTraced events rest)))

-- whether an event is one of a token
abbrev pub is_of_token : Event → Bool
is_of_token (Load cpu tok) = true
is_of_token (Take cpu tok) = true
is_of_token (Share cpu tok) = true
is_of_token (Again cpu tok) = true
is_of_token (Mark cpu tok) = true
is_of_token (GiveOne cpu tok) = true
is_of_token (GiveClean cpu tok) = true
is_of_token (GiveWritten cpu tok section) = true
is_of_token (Read cpu tok cell value) = true
is_of_token (Write cpu tok cell value) = true
is_of_token (ReadBlob cpu tok blob) = true
is_of_token (WriteBlob cpu tok blob) = true
is_of_token (Send cpu msg to round) = false
is_of_token (TakeMsg cpu msg round) = false
is_of_token (DropMsg cpu msg) = false
is_of_token (Reply cpu msg) = false
is_of_token (Reap cpu msg) = false
is_of_token (Abort cpu msg) = false

-- whether an event is a step on the word of a token
abbrev pub is_on_word : Event → Bool
is_on_word (Take cpu tok) = true
is_on_word (Share cpu tok) = true
is_on_word (Again cpu tok) = true
is_on_word (Mark cpu tok) = true
is_on_word (GiveOne cpu tok) = true
is_on_word (GiveClean cpu tok) = true
is_on_word (GiveWritten cpu tok section) = true
is_on_word (Load cpu tok) = true
is_on_word (Read cpu tok cell value) = false
is_on_word (Write cpu tok cell value) = false
is_on_word (ReadBlob cpu tok blob) = false
is_on_word (WriteBlob cpu tok blob) = false
is_on_word (Send cpu msg to round) = false
is_on_word (TakeMsg cpu msg round) = false
is_on_word (DropMsg cpu msg) = false
is_on_word (Reply cpu msg) = false
is_on_word (Reap cpu msg) = false
is_on_word (Abort cpu msg) = false

-- a step on a token word is this event: the operation that the event stands for (lwkt_token.c's count word; own)
abbrev pub ShowsEvent : WordStep → Event → Type 0
ShowsEvent s (Take cpu tok) = (s.at ≡ tok.0) × ((new : ℕ) × (s.operation ≡ Exchange s.found new))
ShowsEvent s (Share cpu tok) = (s.at ≡ tok.0) × ((new : ℕ) × (s.operation ≡ Exchange s.found new))
ShowsEvent s (Again cpu tok) = (s.at ≡ tok.0) × (s.operation ≡ Add 4)
ShowsEvent s (Mark cpu tok) = (s.at ≡ tok.0) × (s.operation ≡ Or 2)
ShowsEvent s (GiveOne cpu tok) = (s.at ≡ tok.0) × (s.operation ≡ Sub 4)
ShowsEvent s (GiveClean cpu tok) = (s.at ≡ tok.0) × (s.operation ≡ Sub 1)
ShowsEvent s (GiveWritten cpu tok section) = (s.at ≡ tok.0) × (s.operation ≡ Add one_section)
ShowsEvent s (Load cpu tok) = ⊥
ShowsEvent s (Read cpu tok cell value) = ⊥
ShowsEvent s (Write cpu tok cell value) = ⊥
ShowsEvent s (ReadBlob cpu tok blob) = ⊥
ShowsEvent s (WriteBlob cpu tok blob) = ⊥
ShowsEvent s (Send cpu msg to round) = ⊥
ShowsEvent s (TakeMsg cpu msg round) = ⊥
ShowsEvent s (DropMsg cpu msg) = ⊥
ShowsEvent s (Reply cpu msg) = ⊥
ShowsEvent s (Reap cpu msg) = ⊥
ShowsEvent s (Abort cpu msg) = ⊥
