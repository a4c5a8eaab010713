use Rattle.std.proofs.Common.{ap, ◌∙◌}
use Rattle.atomic_table.specs.Table.{Me}
use Rattle.lwkt_base.specs.declared.records.Rec.{Rec}
use Rattle.lwkt_msg.specs.declared.views.View.{View}
use Rattle.lwkt_msg.specs.Desks.{Desk}
use Rattle.lwkt_msg.proofs.Splitting.{whole_splits, seat_joins}
use Rattle.lwkt_msg.proofs.closings.take_back.Goals as goal

pub split_seat-whole-requires : goal.split_seat-whole-requires
split_seat-whole-requires c =
    let place = c.into_place-place.result in
    let sat = c.into_place-place.ensures.sat in
    (ap (λ (d : Desk). d.table) c.into_place-place.ensures.place ∙ c.requires.table.1, c.requires.table.2, whole_splits c.args.top.now.key place.id place.me.0 sat.0 sat.1.kind)

pub join_seat-requires : goal.join_seat-requires
join_seat-requires c =
    let place = c.into_place-place.result in
    let sat = c.into_place-place.ensures.sat in
    let whole = c.split_seat-whole.result in
    let split = c.split_seat-whole.ensures in
    let clerk = c.requires.clerk in (
      c.requires.table.0,
      split.3 ∙ (ap (λ (d : Desk). d.table) c.into_place-place.ensures.place ∙ c.requires.table.1),
      ap (λ (x : Me Rec View). x.1) split.4,
      c.requires.table.2,
      seat_joins c.args.top.now.key c.args.clerk.now.id c.args.clerk.now.me.0 whole.id whole.me.0 clerk.0 clerk.1 sat.0 clerk.2 (ap (λ (x : Me Rec View). x.0.kind) split.4 ∙ sat.1.kind),
    )
