use Rattle.std.proofs.Common.{◌≡◌, ◌∙◌, List, [], ◌++◌, ap, sym, subst}
use Rattle.lwkt_base.specs.declared.sections.Section.{Section}
use Rattle.lwkt_core.specs.RunSections.{sections_named}
use Rattle.lwkt_drive.specs.declared.stretches.Stretch.{Stretch}
use Rattle.lwkt_drive.specs.Stretches.{StandFor}
use Rattle.lwkt_drive.proofs.StretchMoves.{none}
use Rattle.lwkt_run.specs.NamedSections.{sections_of_all}
use Rattle.lwkt_run.proofs.StretchLemmas.{stand_both}
use Rattle.lwkt_run.proofs.stretches.stretches_of.Goals as goal

pub returns : goal.returns
returns g c =
    let named : List Section = sections_named c.args.stops.now in
    let all : List Stretch = c.in_ok-all.all.items in
    let last : List Stretch = c.into_vec.result.items in
    let begun : StandFor c.new-last.result [] = subst (λ (l : List Stretch). StandFor l []) (sym c.new-last.ensures) none in
    let stops : StandFor last named = subst (λ (l : List Stretch). StandFor l named) (sym c.into_vec.ensures) (c.in_ok-add_named.ensures [] begun) in
    let items : c.extend_from_slice.new.list.items ≡ all ++ last = c.in_ok-extend_from_slice.ensures.items ∙ ap (λ (l : List Stretch). all ++ l) c.as_slice.ensures.value in
    subst (λ (l : List Stretch). StandFor l (sections_of_all c.args.traces.now c.args.stops.now)) (sym items) (stand_both all last _ named c.in_ok-all.ensures stops)
