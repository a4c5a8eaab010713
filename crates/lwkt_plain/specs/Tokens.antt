-- The tokens of a state, which are those of the model: a turn's steps on them are events of the model.
use Rattle.std.specs.Prelude.{ℕ, ◌+◌, ◌==◌, ◌&&◌, ◌||◌, nat_le, not, Bool, true, false, if◌then◌else◌, List, [], ◌∷◌, ◌++◌, length, sum, bytes_eq, Option, Some, None, option_and_then, slice_get}
use Rattle.std.specs.List.{list_all}
use Rattle.std.specs.Option.{option_map_or, option_eq}
use Rattle.lwkt_base.specs.declared.names.CpuId.{CpuId}
use Rattle.lwkt_base.specs.declared.names.TokId.{TokId}
use Rattle.lwkt_base.specs.declared.names.Ref.{Ref}
use Rattle.lwkt_base.specs.declared.names.Mode.TheVariants.{Exclusive, Shared}
use Rattle.lwkt_base.specs.declared.laws.Law.{Law}
use Rattle.lwkt_base.specs.declared.laws.Law.TheVariants.{Any, Sum, Order, Cap, Tally, Len}
use Rattle.lwkt_base.specs.declared.holdings.Held.{Held}
use Rattle.lwkt_base.specs.declared.holdings.Held.TheVariants.{Nothing, Holds}
use Rattle.lwkt_base.specs.declared.words.TokWord.{TokWord}
use Rattle.lwkt_base.specs.declared.words.Decision.{Decision}
use Rattle.lwkt_base.specs.declared.words.Decision.TheVariants.{Take, Held as IsHeld, Marked as IsMarked, Worn as IsWorn}
use Rattle.lwkt_base.specs.TokenWord.{word_of, decision}
use Rattle.lwkt_base.specs.Refs.{names, is_alone}
use Rattle.lwkt_core.specs.declared.tokens.Token.{Token}
use Rattle.lwkt_core.specs.declared.events.Event.{Event}
use Rattle.lwkt_core.specs.declared.events.Event.TheVariants.{GiveOne, GiveClean, GiveWritten}
use Rattle.lwkt_core.specs.Machine.{machine, changed, after}
use Rattle.lwkt_core.specs.Picture.{picture_of}
use Rattle.lwkt_core.specs.Takings.{taking_event}
use Rattle.lwkt_core.specs.Tokens.{held_by, length_of, section_at, token_after}
use Rattle.lwkt_plain.specs.declared.nexts.Miss.{Miss}
use Rattle.lwkt_plain.specs.declared.nexts.Miss.TheVariants.{Busy, Worn}
use Rattle.lwkt_plain.specs.declared.nexts.Missed.{Missed}

-- whether no cell is less than the one before it
abbrev pub do_not_fall : ℕ → List ℕ → Bool
do_not_fall low [] = true
do_not_fall low (cell ∷ cells) = nat_le low cell && do_not_fall cell cells

-- whether a row, with the length of its record, obeys its law: `Obeys` of lwkt_base as a test
abbrev pub obeys : Law → ℕ → List ℕ → Option ℕ → Bool
obeys Any param cells len = true
obeys Sum param cells len = sum cells == param
obeys Order param cells len = do_not_fall 0 cells
obeys Cap param cells len = list_all (λ cell. nat_le cell param) cells
obeys Tally param cells len = true
obeys Len param cells None = false
obeys Len param cells (Some len) = option_eq (λ (a b : ℕ). a == b) (slice_get cells 0) (Some len)

-- the tokens after an event at one of them, as the model has it
abbrev pub stepped : List Token → Event → List Token
stepped tokens e = (after (machine 0 tokens []) e).tokens

-- why a word lets no reference be had, if it doesn't (token(9))
abbrev pub refusal : TokWord → Decision → Option Miss
refusal w (Take next) = None
refusal w IsHeld = Some (Busy (word_of w))
refusal w IsMarked = Some (Busy (word_of w))
refusal w IsWorn = Some Worn

-- why a reference of a list isn't had, those in front of it being held: a further one always is, a first one as its token's word
-- decides (token(9))
abbrev pub miss_of : List Token → List Ref → List Ref → Ref → Option Miss
miss_of tokens refs front r =
    if names front r.tok.0 then None
    else option_and_then (λ tok. refusal (picture_of tok) (decision (picture_of tok) r.mode (is_alone refs r.tok.0))) (slice_get tokens r.tok.0)

-- whether giving back a reference of what is held ends a section
abbrev pub ends_section : Held → Bool
ends_section Nothing = false
ends_section (Holds Shared further) = false
ends_section (Holds Exclusive further) = further == 0

-- whether a reference that is given back ends a section that has broken its law (own)
abbrev pub is_broken : CpuId → Token → Bool
is_broken cpu tok = ends_section (held_by tok cpu.0) && not (obeys tok.law tok.param tok.row (length_of tok.blob))

-- the token with the first row and record of a section that has broken its law (own)
abbrev pub mended : CpuId → Token → Token
mended cpu tok = if is_broken cpu tok then record tok { row = tok.first; blob = tok.first_blob } else tok

-- whether nothing is written: `IsClean` of lwkt_core as a test
abbrev pub is_clean : Token → Bool
is_clean tok = bytes_eq tok.row tok.first && option_eq bytes_eq tok.blob tok.first_blob

-- the event of giving a reference back (token(9))
abbrev pub giving_event : CpuId → TokId → Token → Event
giving_event cpu t tok =
    if not (ends_section (held_by tok cpu.0)) then GiveOne cpu t
    else (if is_clean tok then GiveClean cpu t else GiveWritten cpu t (section_at t tok))

-- the token after a reference was given back
abbrev pub given : CpuId → TokId → Token → Token
given cpu t tok = token_after (mended cpu tok) (giving_event cpu t (mended cpu tok))

-- tokens after references were given back, and whether a section among these had broken its law
pub record Gave : Type 0 where
  pub tokens : List Token
  pub broken : Bool

abbrev pub gave : List Token → Bool → Gave
gave tokens broken = record { tokens = tokens; broken = broken }

abbrev pub give : CpuId → Gave → Ref → Gave
give cpu g r = gave (changed (given cpu r.tok) g.tokens r.tok.0) (g.broken || option_map_or (is_broken cpu) (slice_get g.tokens r.tok.0) false)

-- references are given back, the last one first (token(9))
unfoldable pub gives : CpuId → List Token → List Ref → Gave
gives cpu tokens [] = gave tokens false
gives cpu tokens (r ∷ refs) = give cpu (gives cpu tokens refs) r

-- the tokens after a list was tried, and what was missed, if it isn't held now
pub record Tried : Type 0 where
  pub tokens : List Token
  pub missed : Option Missed

abbrev pub tried : List Token → Option Missed → Tried
tried tokens missed = record { tokens = tokens; missed = missed }

-- the references of a list behind the front that is held are taken in order; at the first that isn't had all are given back
-- (token(9))
unfoldable pub takes : CpuId → List Ref → List Token → List Ref → List Ref → Tried
takes cpu refs tokens front [] = tried tokens None
takes cpu refs tokens front (r ∷ rest) =
    option_map_or (λ why. tried (gives cpu tokens front).tokens (Some (record { at = length front; why = why }))) (miss_of tokens refs front r)
    (takes cpu refs (stepped tokens (taking_event cpu front r)) (front ++ r ∷ []) rest)

-- a whole list is taken, or nothing of it (token(9))
abbrev pub resume : CpuId → List Token → List Ref → Tried
resume cpu tokens refs = takes cpu refs tokens [] refs
