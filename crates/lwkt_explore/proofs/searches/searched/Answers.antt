use Rattle.std.proofs.Common.{◌≡◌, ℕ, true, get_or, IfOk, IsTrue, subst, ap}
use Rattle.std.proofs.lemmas.Result.{IfOk-weaker}
use Rattle.lwkt_plain.specs.Deadlocks.{IsStandstill, ReadyThreadsWait}
use Rattle.lwkt_explore.specs.declared.searches.Found.{Found}
use Rattle.lwkt_explore.specs.Searches.{state_after, StuckAt}
use Rattle.lwkt_explore.specs.declared.explorers.Explorer.{Explorer}
use Rattle.lwkt_explore.specs.declared.searches.Method.{Method}
use Rattle.lwkt_explore.specs.declared.searches.Method.TheVariants.{Plain}
use Rattle.lwkt_explore.specs.Extents.{is_complete}
use Rattle.lwkt_explore.specs.Outcomes.{AreShort}
use Rattle.lwkt_explore.proofs.searches.searched.Goals as goal

pub returns-in-Some-clause-short : goal.returns-in-Some-clause-short
returns-in-Some-clause-short g c =
    let F : ℕ → Type 0 = λ turns. IfOk c.ended.result (λ found. AreShort turns found.outcomes) in
    subst F c.found_in.ensures.turns c.ended.ensures.short

pub returns-in-Some-clause-plain : goal.returns-in-Some-clause-plain
returns-in-Some-clause-plain g c =
    let F : Method → Type 0 = λ method. IfOk c.ended.result (λ found. method ≡ Plain → is_complete found ≡ true → IsTrue found.is_whole) in
    subst F (ap (λ (e : Explorer). e.method) c.found_in.ensures.machine) c.ended.ensures.plain

pub returns-in-Some-clause-waits : goal.returns-in-Some-clause-waits
returns-in-Some-clause-waits g c =
    let script = c.args.script.now in
    let P : Found → Type 0 = λ found. is_complete found ≡ true → StuckAt (IsStandstill script) script found.outcomes in
    let Q : Found → Type 0 = λ found. is_complete found ≡ true → StuckAt (ReadyThreadsWait script) script found.outcomes in
    IfOk-weaker c.ended.result P Q
    (λ found stands complete k d less stuck. c.standstills_are_waits.ensures script (state_after script (get_or found.outcomes.all.items k d).order.items) c.requires.sound (stands complete k d less stuck)) c.ended.ensures.stuck
