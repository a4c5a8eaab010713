use Rattle.std.proofs.Common.{◌≡◌, ◌∙◌, ℕ, ◌-◌, ◌++◌, List, length, take, drop, min, ap, arith}
use Rattle.std.proofs.lemmas.Grind.{common_steps}
use Rattle.lwkt_core.specs.declared.events.Event.{Event}
use Rattle.lwkt_drive.specs.ShortEvents.{KeptTrace}
use Rattle.lwkt_drive.proofs.BehindMoves.{copied_across}
use Rattle.lwkt_drive.proofs.event_lists.EventList.copy_across.Goals as goal

pub returns-clause-ok : goal.returns-clause-ok
returns-clause-ok c =
    let packed : List Event = c.self.inside.packed.items in
    let whole : List Event = c.self.inside.whole.items in
    let first : ℕ = c.args.first in
    let count : ℕ = c.args.count in
    let start : ℕ = c.min-start.result in
    let here : ℕ = c.min-here.result in
    let start_is : start ≡ min first (length packed) = omega (arith, c.min-start.ensures, c.len-packed.ensures.count) in
    let here_is : here ≡ min count (length packed - start) = omega (arith, c.min-here.ensures, c.len-packed.ensures.count) in
    let grown : c.extend_from_slice.new.list.items ≡ c.copy.new.room.items ++ take (count - here) (drop (first - start) whole) = grind (arith, common_steps) in
    grown
    ∙ ap (λ (xs : List Event). xs ++ take (count - here) (drop (first - start) whole)) c.in_ok-copy.ensures.ok
    ∙ copied_across packed whole first count start here start_is here_is
    ∙ ap (λ (t : KeptTrace). take count (drop first t.items)) c.self.view_is
