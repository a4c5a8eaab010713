use Rattle.std.proofs.Common.{rules, ◌≡◌, ◌∙◌, IsSomeAnd, List, ℕ, subst}
use Rattle.std.specs.Prelude.{Option, None, Some, IfSome, map, string_bytes}
use Rattle.std.specs.declared.alloc.Global.{Global}
use Rattle.lwkt_show.specs.declared.options.Options.{Options}
use Rattle.lwkt_ffi.specs.Answers.{Displays}
use Rattle.lwkt_ffi.proofs.ShowLemmas.{no_both, unread_displays}
use Rattle.lwkt_ffi.proofs.shows.show_words.Goals as goal

pub returns-in-Some-clause-shows : goal.returns-in-Some-clause-shows
returns-in-Some-clause-shows c = λ options are.
    let F : Option Options → Type 0 = λ o. IfSome o (λ x. Displays c.args.named x None c.args.script.now c.show_asked.result c.show_asked.new.page.text.items) in
    subst F (c.in-Some.ensures.only options are) c.show_asked.ensures

pub returns-in-Some-clause-along : goal.returns-in-Some-clause-along
returns-in-Some-clause-along c = λ options order are.
    absurd (no_both (map (string_bytes {Z = Global}) c.args.words.now) c.in-Some.options options order c.in-Some.ensures.some are)

pub returns-in-Ok-Some-clause-along : goal.returns-in-Ok-Some-clause-along
returns-in-Ok-Some-clause-along c = λ options order are.
    let along = c.in-Ok-Some.along in
    let some = subst (λ o. IsSomeAnd o (λ a. (a.options ≡ options) × (a.order.items ≡ order))) c.in-Ok-Some.field-0-is (c.in-Ok-Some.ensures.only options order are) in
    let F : Options → Type 0 = λ x. Displays c.args.named x (Some order) c.args.script.now c.show_asked-in-Ok-Some.result c.show_asked-in-Ok-Some.new.page.text.items in
    let G : List ℕ → Type 0 = λ x. Displays c.args.named along.options (Some x) c.args.script.now c.show_asked-in-Ok-Some.result c.show_asked-in-Ok-Some.new.page.text.items in
    subst F some.0 (subst G (c.as_slice.ensures.value ∙ some.1) c.show_asked-in-Ok-Some.ensures)

pub returns-in-Ok-None-clause-shows : goal.returns-in-Ok-None-clause-shows
returns-in-Ok-None-clause-shows c = λ options are.
    let some = c.options_of.ensures.only options are in
    search (rules, some)

pub returns-in-Ok-None-clause-along : goal.returns-in-Ok-None-clause-along
returns-in-Ok-None-clause-along c = λ options order are.
    let some = subst (λ o. IsSomeAnd o (λ a. (a.options ≡ options) × (a.order.items ≡ order))) c.in-Ok-None.field-0-is (c.in-Ok-None.ensures.only options order are) in
    absurd some

pub returns-in-Err-clause-shows : goal.returns-in-Err-clause-shows
returns-in-Err-clause-shows c = λ options are.
    unread_displays c.args.named options None c.args.script.now c.unread.new.page.text.items c.unread.result c.unread.ensures

pub returns-in-Err-clause-along : goal.returns-in-Err-clause-along
returns-in-Err-clause-along c = λ options order are.
    unread_displays c.args.named options (Some order) c.args.script.now c.unread.new.page.text.items c.unread.result c.unread.ensures
