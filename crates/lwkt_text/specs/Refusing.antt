-- Why a text isn't read (own).
use Rattle.std.specs.Prelude.{◌≡◌, ◌<◌, List, length, Result, Err}
use Rattle.lwkt_text.specs.declared.readers.Reading.{Reading}
use Rattle.lwkt_text.specs.declared.readers.Refusal.{Refusal}
use Rattle.lwkt_text.specs.declared.readers.Refusal.TheVariants.{Memory, Wrongs}
use Rattle.lwkt_text.specs.declared.wrongs.Wrong.{Wrong}

-- all that is wrong, and there is some; of a want of memory nothing is said
abbrev pub IsRefusalOf : Refusal → Result Reading (List Wrong) → Type 0
IsRefusalOf (Memory refused) read = Unit {0}
IsRefusalOf (Wrongs wrongs) read = (read ≡ Err wrongs) × (0 < length wrongs)
