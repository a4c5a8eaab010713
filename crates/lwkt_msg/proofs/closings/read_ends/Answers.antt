use Rattle.std.proofs.Common.{ℕ, ◌+◌, List, ap, sym, ◌∙◌, subst, arith}
use lib.ListN.{get_elem?}
use Rattle.std.specs.Slots.{slots_items}
use Rattle.lwkt_base.specs.declared.owners.MsgEnd.{MsgEnd}
use Rattle.lwkt_msg.specs.Desks.{AreShown}
use Rattle.lwkt_msg.proofs.Closing.{shown_more}
use Rattle.lwkt_msg.proofs.closings.read_ends.Goals as goal

pub loop-m-preserved : goal.loop-m-preserved
loop-m-preserved c =
    let F : List MsgEnd → Type 0 = λ xs. AreShown (c.loop-m.m + 1) (slots_items c.args.closed.now.words) xs in
    record {
      shown = subst F (sym c.push_reserved.ensures.items) (shown_more c.loop-m.m (slots_items c.args.closed.now.words) c.loop-m.ends.items c.word.result c.end_shown.result c.loop-m.invariant.shown (ap (λ (k : ℕ). get_elem? (slots_items c.args.closed.now.words) k) (sym c.word_of_message.ensures) ∙ c.word.ensures) c.end_shown.ensures);
      room = omega (arith, c.push_reserved.ensures.capacity, c.loop-m.invariant.room);
    }
