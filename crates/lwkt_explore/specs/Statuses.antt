-- The exit status of what was found (own).
use Rattle.std.specs.Prelude.{Bool, true, false, ℕ, if◌then◌else◌, is_some}
use Rattle.std.specs.List.{list_any}
use Rattle.lwkt_explore.specs.declared.outcomes.Kind.{Kind}
use Rattle.lwkt_explore.specs.declared.outcomes.Kind.TheVariants.{Ended, Stuck, Cut}
use Rattle.lwkt_explore.specs.declared.outcomes.Outcome.{Outcome}
use Rattle.lwkt_explore.specs.declared.searches.Found.{Found}
use Rattle.lwkt_explore.specs.Extents.{differs, is_complete}

abbrev pub is_stuck_kind : Kind → Bool
is_stuck_kind Ended = false
is_stuck_kind Stuck = true
is_stuck_kind Cut = false

-- whether an outcome is stuck
abbrev pub is_stuck : Outcome → Bool
is_stuck outcome = is_stuck_kind outcome.kind

-- the status: 4 where the real machine differs from its plain machine; 5 where not every order was tried; else 2 where a state was lost, or an outcome is stuck; else 0
abbrev pub status_of_found : Found → ℕ
status_of_found found =
    if differs found then 4 else if is_complete found then (if is_some found.lost then 2 else (if list_any is_stuck found.outcomes.all.items then 2 else 0)) else 5
