-- What the program writes of all scripts of a folder (own).
use Rattle.std.specs.Prelude.{◌≡◌, ◌<◌, ◌≤◌, ◌-◌, ◌⊎◌, ◌++◌, ◌∷◌, ℕ, List, [], Bool, false, Option, codes}
use Rattle.std.specs.Fmt.{decimal}
use Rattle.std.specs.Io.KnownBytes.{Appends, Keeps}
use Rattle.lwkt.specs.declared.endings.Ending.{Ending}
use Rattle.lwkt.specs.declared.endings.Ending.TheVariants.{Done}
use Rattle.lwkt.specs.Ending.{HasFailed}

-- how many passed, and how many failed
abbrev pub count_line : ℕ → ℕ → List ℕ
count_line passed failed = decimal passed ++ (codes " passed, " ++ (decimal failed ++ (codes " failed" ++ 10 ∷ [])))

-- nothing is written but that all of so many passed
abbrev pub HavePassed : ℕ → Option (List ℕ) → Option (List ℕ) → Type 0
HavePassed total old new = Appends old new (count_line total 0)

-- behind other words it is written that some of so many failed
abbrev pub HaveFailed : ℕ → Option (List ℕ) → Option (List ℕ) → Type 0
HaveFailed total old new = (words : List ℕ) × ((failed : ℕ) × ((0 < failed) × ((failed ≤ total) × Appends old new (words ++ count_line (total - failed) failed))))

-- what the program does with all scripts of a folder, by how it ends: with 0 if all passed, 5 if not all did, 1 if there is none to try; or
-- the folder can't be read, memory is refused or a stream failed
abbrev pub Counts : Bool → Option (List ℕ) → Option (List ℕ) → Ending → Type 0
Counts sink_failed old new ending =
    ((ending ≡ Done 0) × ((sink_failed ≡ false) × ((total : ℕ) × ((0 < total) × HavePassed total old new))))
    ⊎ (((ending ≡ Done 5) × ((sink_failed ≡ false) × ((total : ℕ) × HaveFailed total old new)))
    ⊎ (((ending ≡ Done 1) × Keeps old new) ⊎ HasFailed ending))
