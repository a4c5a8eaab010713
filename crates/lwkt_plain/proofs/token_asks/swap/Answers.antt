use Rattle.std.proofs.Common.{ap, sym, ◌∙◌}
use Rattle.lwkt_base.specs.declared.faults.Fault.TheVariants.{SwapSame}
use Rattle.lwkt_plain.specs.TokenAsks.{asked}
use Rattle.lwkt_plain.proofs.AskLists.{swap_ok, ok_not_err}
use Rattle.lwkt_plain.proofs.token_asks.swap.Goals as goal

pub returns-in-Ok : goal.returns-in-Ok
returns-in-Ok c = λ tokens.
    ap (asked tokens c.swap.new.self) c.done.ensures
    ∙ sym (swap_ok tokens c.args.list.now c.swap.new.self c.in-Ok.ensures.ok (λ ends. ok_not_err c.in-Ok.field-0 SwapSame (c.in-Ok.ensures.same.1 ends)))
