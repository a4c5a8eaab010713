use Rattle.std.proofs.Common.{◌<◌, ap, arith}
use Rattle.atomic_table.specs.Seated.{TableId}
use Rattle.lwkt_msg.proofs.Handing.{handing_fresh}
use Rattle.lwkt_msg.proofs.Splitting.{seat_splits}
use Rattle.lwkt_msg.proofs.first_tables.seat_for.Goals as goal

pub split_seat-place-requires : goal.split_seat-place-requires
split_seat-place-requires c =
    let k = c.requires.clerk in
    let words = k.words in
    let same = ap (λ (z : TableId). z.words) c.requires.table in
    let some_words : 0 < c.args.top.now.table_id.words = omega arith in
    let cpus = k.cpus_is in
    let room = c.requires.room in
    let room' : c.args.cpu.0 < c.args.clerk.now.me.0.cpus = omega arith in
    (c.requires.table, some_words, seat_splits c.args.top.now.key c.args.clerk.now.id c.args.clerk.now.me.0 c.args.cpu.0 0 k.kind room')

pub hand_out-requires-clause-fresh : goal.hand_out-requires-clause-fresh
hand_out-requires-clause-fresh c = handing_fresh c.args.clerk.now c.split_seat-place.result c.args.cpu c.args.cpus c.args.specs.now c.requires.clerk c.requires.room c.split_seat-place.ensures.3 c.split_seat-place.ensures.4
