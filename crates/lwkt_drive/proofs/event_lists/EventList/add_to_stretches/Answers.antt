use Rattle.std.proofs.Common.{◌≡◌, ◌++◌, ◌∙◌, ap, subst, List}
use Rattle.std.specs.Prelude.{OnOk}
use Rattle.std.proofs.lemmas.Result.{on_ok_weaker}
use Rattle.lwkt_base.specs.declared.sections.Section.{Section}
use Rattle.lwkt_core.specs.declared.events.Event.{Event}
use Rattle.lwkt_core.specs.RunSections.{sections_named}
use Rattle.lwkt_drive.specs.ShortEvents.{KeptTrace}
use Rattle.lwkt_drive.specs.Stretches.{StandFor}
use Rattle.lwkt_drive.proofs.BehindMoves.{named_behind}
use Rattle.lwkt_drive.proofs.event_lists.EventList.add_to_stretches.Goals as goal

pub returns : goal.returns
returns c =
    let packed : List Event = c.self.inside.packed.items in
    let whole : List Event = c.deref.result.now in
    let all : packed ++ whole ≡ c.args.self.now.items = ap (λ (l : List Event). packed ++ l) c.deref.ensures.value ∙ ap (λ (t : KeptTrace). t.items) c.self.view_is in
    let F : List Event → Type 0 = λ l. OnOk c.add_named.result ((sections : List Section) → StandFor c.args.stretches.now sections → StandFor c.add_named.new.self (sections ++ sections_named l)) in
    subst F all (on_ok_weaker c.add_named.result (named_behind c.args.stretches.now c.add_to_stretches.new.stretches c.add_named.new.self packed whole c.in_ok-add_to_stretches.ensures) c.add_named.ensures)
