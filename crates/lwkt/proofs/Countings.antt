-- What is written of a folder in which some failed.
use Rattle.std.proofs.Common.{◌<◌, ◌≤◌, ◌-◌, ℕ, List, Bool, Option}
use Rattle.std.specs.Io.KnownBytes.{Appends}
use Rattle.lwkt_refusals.proofs.Adding.{Appends-twice}
use Rattle.lwkt_refusals.specs.Sayings.{SaysMore}
use Rattle.lwkt.specs.Counting.{HaveFailed, count_line}

pub have_failed : {f g : Bool} {old mid : Option (List ℕ)} (new : Option (List ℕ)) (total failed : ℕ) → SaysMore f g old mid → Appends mid new (count_line (total - failed) failed) → failed ≤ total → 0 < failed → HaveFailed total old new
have_failed {old = old} {mid = mid} new total failed more line within some =
    (more.words, (failed, (some, (within, Appends-twice old mid new more.words (count_line (total - failed) failed) more.behind line))))
