use Rattle.std.proofs.Common.{List, [], subst, sym}
use Rattle.lwkt_base.specs.declared.sections.Section.{Section}
use Rattle.lwkt_core.specs.RunSections.{sections_named}
use Rattle.lwkt_drive.specs.declared.stretches.Stretch.{Stretch}
use Rattle.lwkt_drive.specs.Stretches.{StandFor}
use Rattle.lwkt_drive.proofs.StretchMoves.{none}
use Rattle.lwkt_run.proofs.stretches.stretches_in.Goals as goal

pub returns : goal.returns
returns c =
    let named : List Section = sections_named c.args.trace.now.items in
    let begun : StandFor c.new-stretches.result [] = subst (λ (l : List Stretch). StandFor l []) (sym c.new-stretches.ensures) none in
    subst (λ (l : List Stretch). StandFor l named) (sym c.into_vec.ensures) (c.in_ok-add_to_stretches.ensures [] begun)
