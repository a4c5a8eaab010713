use Rattle.std.proofs.Common.{◌∙◌, ◌≡◌, ap, sym, subst}
use Rattle.std.specs.Prelude.{IfSome, None, Some, map, string_bytes}
use Rattle.std.specs.Str.{IsUtf8}
use Rattle.std.specs.declared.alloc.Global.{Global}
use Rattle.lwkt_ffi.specs.Answers.{in_names, without_names, words_in, AskNothing}
use Rattle.lwkt_ffi.proofs.ShowLemmas.{unread_displays}
use Rattle.lwkt_ffi.proofs.shows.show_onto.Goals as goal

pub returns-in-Ok-Some-clause-misused : goal.returns-in-Ok-Some-clause-misused
returns-in-Ok-Some-clause-misused c = λ misused.
    let valid = subst (λ o. IfSome o (λ w. IsUtf8 c.args.arguments.now)) c.in-Ok-Some.field-0-is c.in-Ok-Some.ensures.valid in
    let some = subst (λ o. IfSome o (λ w. map (string_bytes {Z = Global}) w.items ≡ words_in c.args.arguments.now)) c.in-Ok-Some.field-0-is c.in-Ok-Some.ensures.some in
    let here = ap (λ ws. map (string_bytes {Z = Global}) ws) c.deref-in-Ok-Some.ensures.value ∙ c.without_names-words.ensures ∙ ap without_names some in
    c.show_words.ensures.misused (subst AskNothing (sym here) (misused valid))

pub returns-in-Err-clause-shows : goal.returns-in-Err-clause-shows
returns-in-Err-clause-shows c = λ valid options are.
    unread_displays (in_names c.args.arguments.now) options None c.args.script.now c.unread.new.page.text.items c.unread.result c.unread.ensures

pub returns-in-Err-clause-along : goal.returns-in-Err-clause-along
returns-in-Err-clause-along c = λ valid options order are.
    unread_displays (in_names c.args.arguments.now) options (Some order) c.args.script.now c.unread.new.page.text.items c.unread.result c.unread.ensures
