-- A thread goes on past an ask that stands where it stands, or first among the steps.
use Rattle.std.proofs.Common.{◌≡◌, ◌+◌, ◌-◌, false, List, Option, Some, None, refl, ap, ◌∙◌, true}
use Rattle.std.specs.Prelude.{slice_get}
use Rattle.lwkt_base.specs.declared.asks.Ask.{Ask}
use Rattle.lwkt_base.specs.declared.asks.Answer.{Answer}
use Rattle.lwkt_code.specs.declared.steps.Step.{Step}
use Rattle.lwkt_code.specs.declared.steps.Step.TheVariants.{Fixed}
use Rattle.lwkt_code.specs.declared.locals.Local.{Local}
use Rattle.lwkt_code.specs.Accepted.{IsAccepted}
use Rattle.lwkt_code.specs.Answers.{taken}
use Rattle.lwkt_code.specs.Next.{is_last, ask_at, moved, ask_from, next}
use Rattle.lwkt_code.proofs.Walks.{ask_here, ask_on}

-- what is asked next where an ask stands, and where the thread stands then
pub passed_here : (steps : List Step) (s : Local) (last : Answer) (ask : Ask) → slice_get steps s.at ≡ Some (Fixed ask) → next steps s last ≡ (ask, record (taken steps s last) { at = s.at + 1; asked = true })
passed_here steps s last ask is =
    let t : Local = taken steps s last in
    ask_here steps t ask (ap (λ (o : Option Step). ask_at o t) is) ∙ ap (λ (o : Option Step). (ask, moved o t)) is

ends_silent : (s : Local) → is_last s ≡ false → ask_at None s ≡ None
ends_silent s more = rw more refl

ends_moved : (s : Local) → is_last s ≡ false → moved None s ≡ record s { at = 0; left = s.left - 1; asked = false }
ends_moved s more = rw more refl

-- the same at the end of a repetition that isn't the last
pub passed_again : (steps : List Step) (s : Local) (last : Answer) (ask : Ask) → IsAccepted steps → slice_get steps s.at ≡ None → is_last s ≡ false → slice_get steps 0 ≡ Some (Fixed ask)
    → next steps s last ≡ (ask, record (taken steps s last) { at = 1; left = s.left - 1; asked = true })
passed_again steps s last ask accepted ends more is =
    let t : Local = taken steps s last in
    let u : Local = record t { at = 0; left = t.left - 1; asked = false } in
    let silent : ask_at (slice_get steps s.at) t ≡ None = ap (λ (o : Option Step). ask_at o t) ends ∙ ends_silent t more in
    let on : ask_from steps t ≡ ask_from steps (moved (slice_get steps s.at) t) = ask_on steps t accepted silent in
    on ∙ ap (λ (o : Option Step). ask_from steps (moved o t)) ends ∙ ap (λ (v : Local). ask_from steps v) (ends_moved t more)
    ∙ (ask_here steps u ask (ap (λ (o : Option Step). ask_at o u) is) ∙ ap (λ (o : Option Step). (ask, moved o u)) is)
