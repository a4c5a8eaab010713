use Rattle.std.proofs.Common.{◌+◌, ◌*◌, ℕ, ◌<◌, ap, sym, subst, arith}
use mathlib.Core.Option.{none}
use Rattle.atomic_table.specs.Table.{step, Allows}
use Rattle.atomic_table.specs.Seated.{TableId}
use Rattle.lwkt_msg.specs.Ledger.{Ledger}
use Rattle.lwkt_msg.specs.Plays.{looks}
use Rattle.lwkt_msg.proofs.Allowing.{look_allowed}
use Rattle.lwkt_msg.proofs.Sitting.{sat_looked}
use Rattle.lwkt_msg.proofs.steps.look.Goals as goal

pub load-requires : goal.load-requires
load-requires c =
    let sat = c.requires.sat.1 in
    let within = c.requires.exists in
    let words = sat.words in
    let same = ap (λ (z : TableId). z.words) c.requires.table in
    let inside : 16 * c.args.m + 1 < c.args.top.now.table_id.words = omega arith in
    let F : ℕ → Type 0 = λ i. (i < c.args.top.now.table_id.words) × Allows (Ledger c.args.top.now.key) c.args.top.now.table_id.slots c.args.place.now.id c.args.place.now.me i (λ n. n) (looks (step c.args.top.now.table_id.slots i 0 0 none) c.args.place.now.me) in
    let allowed = subst F (sym c.word_of_message.ensures) (inside, look_allowed c.args.top.now.key c.args.top.now.table_id.slots c.args.place.now.id c.args.place.now.me c.requires.sat.0 c.args.m sat.kind within sat.hands) in
    (c.requires.table, allowed.0, allowed.1)

pub returns-clause-sat : goal.returns-clause-sat
returns-clause-sat c = λ cpu sat. sat_looked c.args.place.now c.load.new.seat cpu c.args.m c.load.result sat c.load.ensures.0 (c.load.ensures.2 c.args.m c.word_of_message.ensures)
