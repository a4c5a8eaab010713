use Rattle.std.proofs.Common.{◌≡◌, ℕ, refl, ap, sym, ◌∙◌, subst}
use Rattle.std.specs.Slots.{slots_items}
use Rattle.lwkt_msg.specs.Desks.{Shelf, AreClosed, AreShown}
use Rattle.lwkt_msg.proofs.Ending.{closes}
use Rattle.lwkt_msg.proofs.books.MsgBook.close_in.Goals as goal

pub returns : goal.returns
returns c =
    let inside = c.self.inside in
    let inv = c.self.invariant in
    let key = inside.table.shared.key in
    let book : Shelf = record { table = inside.table.shared.table_id; cpus = inside.cpus; specs = key.specs.items } in
    let final = c.close_with-closed.ensures.values.2 in
    let ends = c.read_and_free.result.items in
    let clerk = c.wake-clerk.result in
    let view_is : book ≡ c.args.self = c.self.view_is in
    let F : Shelf → Type 0 = λ b. AreClosed b c.args.seats.items ends in
    let G : ℕ → Type 0 = λ n. AreShown n (slots_items c.close_with-closed.result.words) ends in
    subst F view_is (closes book key c.args.seats.items clerk.me.0 c.take_all.new.clerk.me.0 c.take_all.new.clerk.id (slots_items c.close_with-closed.result.words) ends final.0 inv.cpus_is refl
    (c.requires.as_many ∙ ap (λ (b : Shelf). b.cpus) (sym view_is)) c.take_all.ensures.view final.1.0 final.1.1 final.2 (subst G inv.messages_is c.read_and_free.ensures))
