use Rattle.std.proofs.Common.{rules, ◌≡◌, ◌++◌, codes}
use Rattle.std.specs.Fmt.{decimal}
use Rattle.lwkt_explore.specs.Texts.{tried_text}
use Rattle.lwkt_explore.proofs.TextLemmas.{amount_one, one_order, more_orders}
use Rattle.lwkt_explore.proofs.lines.add_tried.Goals as goal

pub returns-in-States-eq1 : goal.returns-in-States-eq1
returns-in-States-eq1 c = search (rules, amount_one)

pub returns-in-Orders-eq1 : goal.returns-in-Orders-eq1
returns-in-Orders-eq1 c =
    let text : tried_text c.args.tried ≡ codes "1 random order" = one_order c.args.tried c.in-Orders-eq1.field-0 c.in-Orders-eq1.is cc in
    rw text (search rules)

pub returns-in-Orders : goal.returns-in-Orders
returns-in-Orders c =
    let test = c.in-Orders.orders-test.1 in
    let other : c.in-Orders.orders ≡ 1 → ⊥ = rw c.in-Orders.is at test in
    let text : tried_text c.args.tried ≡ decimal c.in-Orders.orders ++ codes " random orders" = more_orders c.args.tried c.in-Orders.orders c.in-Orders.is other in
    rw text (search rules)
