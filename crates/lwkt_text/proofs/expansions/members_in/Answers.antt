use Rattle.std.proofs.Common.{◌≡◌, sym, ap, ◌∙◌, Some}
use Rattle.std.specs.Prelude.{slice_get}
use Rattle.std.proofs.lemmas.Option.{slice_get_past, slice_get-get_or}
use Rattle.lwkt_text.specs.declared.words.Word.{Word}
use Rattle.lwkt_text.proofs.Spreading.{members_end, members_on}
use Rattle.lwkt_text.proofs.expansions.members_in.Goals as goal

pub returns-in-None : goal.returns-in-None
returns-in-None c =
    members_end c.args.words.now c.loop-word.list _ c.loop-word._word-index c.loop-word.i c._word-item.result c.loop-word-test.true
    (slice_get_past c.args.words.now c.loop-word.i c.in-None.ensures.lookup.3) c.loop-word.invariant

pub loop-word-preserved : goal.loop-word-preserved
loop-word-preserved c =
    let there : slice_get c.args.words.now c.loop-word.i ≡ Some c.in-Some.word.now = slice_get-get_or c.args.words.now c.loop-word.i c.in-Some.word.now c.in-Some.ensures.lookup.3.0 ∙ ap (λ (w : Word). Some w) (sym c.in-Some.ensures.lookup.1) in
    rw c.in_ok-push-in-Some.ensures.ok
    (members_on c.args.words.now c.loop-word.list _ c.loop-word._word-index c.loop-word.i c.in-Some.word.now c._word-item.result c.in_ok-found-in-Some.found c.loop-word-test.true there c.in_ok-found-in-Some.ensures c.loop-word.invariant)
