use Rattle.std.proofs.Common.{rules, ◌≡◌, ℕ, ◌*◌, [], List, length, replicate, ap, sym, ◌∙◌, subst}
use Rattle.lwkt_base.specs.declared.opening_specs.MsgSpec.{MsgSpec}
use Rattle.lwkt_core.specs.Opening.{AreWithin}
use Rattle.lwkt_msg.specs.declared.views.Key.{Key}
use Rattle.lwkt_msg.specs.Book.{no_rec}
use Rattle.lwkt_msg.specs.Desks.{AreOpeningWords}
use Rattle.lwkt_msg.proofs.Splitting.{rule_opens}
use Rattle.lwkt_msg.proofs.books.MsgBook.open_within.Goals as goal

pub table-requires : goal.table-requires
table-requires c =
    let key : Key = c.args.layout in
    let specs_is : key.specs.items ≡ c.args.specs.now = c.requires.known in
    let words_is : c.deref.result.now ≡ c.in_ok-words.words.items = search rules in
    let F : List MsgSpec → Type 0 = λ xs. AreWithin key.cpus [] xs in
    let G : List MsgSpec → Type 0 = λ xs. AreOpeningWords (length xs) xs c.in_ok-words.words.items in
    let H : List ℕ → Type 0 = λ ws. AreOpeningWords (length key.specs.items) key.specs.items ws in
    let opened : AreOpeningWords (length key.specs.items) key.specs.items c.deref.result.now = subst H (sym words_is) (subst G (sym specs_is) c.in_ok-words.ensures) in
    (rule_opens key c.deref.result.now c.in_ok-records.records.items (subst F (sym specs_is) c.requires.within) opened.wide opened.zero_word opened.each
    (c.in_ok-records.ensures ∙ ap (λ (xs : List MsgSpec). replicate (4 * length xs) no_rec) (sym specs_is))).0
