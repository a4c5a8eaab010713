-- Lines that are read of a source, one after the other (own).
use Rattle.std.specs.Prelude.{◌≡◌, ◌⊎◌, ℕ, ◌+◌, ◌<◌, ◌≤◌, List, [], ◌∷◌, ◌++◌, length, take, drop, Bool, true, false, if◌then◌else◌, Option}
use Rattle.std.specs.List.{list_any}
use Rattle.std.specs.Io.KnownBytes.{Consumes, IsAtEnd, prepend_known}
use Rattle.lwkt_base.specs.declared.limits.TheConstants.{LINE_BYTES}
use Rattle.lwkt_checker.specs.declared.lines.Lines.{Lines}
use Rattle.lwkt_checker.specs.Line.{is_line_feed}

-- so many bytes stand before the first line feed, if there is one, else in all
pub record IsLineFront (bytes : List ℕ) (count : ℕ) (ended : Bool) : Type 0 where
  pub within : count ≤ length bytes
  pub no_feed : list_any is_line_feed (take count bytes) ≡ false
  pub feed : ended ≡ true → (count < length bytes) × (drop count bytes ≡ 10 ∷ drop (count + 1) bytes)
  pub whole : ended ≡ false → count ≡ length bytes

-- the bytes that were given by the source and stand in no line yet
abbrev pub unread : Lines → List ℕ
unread lines = drop lines.from lines.room.items

-- what is left of a source: the bytes that it gave and that stand in no line yet, and those that it still has
abbrev pub left_of : Lines → Option (List ℕ) → Option (List ℕ)
left_of lines left = prepend_known (unread lines) left

-- a line was read of what was left: up to its line feed; or without one, where no more is left or the line is too long
pub record IsNextLine (old new : Option (List ℕ)) (line : List ℕ) (ended : Bool) : Type 0 where
  pub no_feed : list_any is_line_feed line ≡ false
  pub taken : Consumes old new (if ended then line ++ 10 ∷ [] else line)
  pub last : ended ≡ false → IsAtEnd new ⊎ (LINE_BYTES < length line)
