use Rattle.std.proofs.Common.{◌≡◌, ℕ, ◌<◌, List, [], All, length, true, arith, subst, sym, rules}
use Rattle.lwkt_search.specs.declared.searches.Outcome.{Outcome as Last}
use Rattle.lwkt_explore.specs.declared.outcomes.Outcome.{Outcome}
use Rattle.lwkt_explore.specs.declared.outcomes.Outcomes.{Outcomes}
use Rattle.lwkt_explore.specs.Outcomes.{HasReport}
use Rattle.lwkt_explore.specs.declared.outcomes.Kind.TheVariants.{Stuck}
use Rattle.lwkt_explore.specs.Searches.{state_after, AreShortest, IsLastAt, IsShortestOrder, StuckAt}
use Rattle.lwkt_plain.specs.Deadlocks.{IsStandstill}
use Rattle.lwkt_plain.specs.Stores.{kept}
use Rattle.lwkt_explore.proofs.ToldLemmas.{all_are_shortest, are_last}
use Rattle.lwkt_explore.proofs.searches.told_of.Goals as goal

pub returns-in-Ok-clause-told : goal.returns-in-Ok-clause-told
returns-in-Ok-clause-told g c = λ none met.
    let yes : c.in-Ok-true.field-0 ≡ true = search rules in
    let F : List Last → Type 0 = λ xs. All (λ (one : Last). HasReport c.args.script.now one.order.items c.tell.new.outcomes) xs in
    let G : Outcomes → Type 0 = λ outcomes. All (λ (one : Last). HasReport c.args.script.now one.order.items outcomes) c.args.found.now.outcomes.items in
    subst G (sym (c.tell_cut.ensures.same met)) (subst F c.as_slice.ensures.value (c.in-Ok-true.ensures.told yes))

pub returns-in-Ok-clause-shortest : goal.returns-in-Ok-clause-shortest
returns-in-Ok-clause-shortest g c = λ none whole.
    let script = c.args.script.now in
    let task = c.args.task.now in
    let found = c.args.found.now in
    let searched = c.requires.searched in
    let S : List Last → Type 0 = λ xs. All (λ (one : Last). IsShortestOrder script one.order.items) xs in
    let all : S found.outcomes.items = all_are_shortest script task.cpus task.turns task.bound found searched c.requires.cpus whole in
    let E : List Outcome → Type 0 = λ xs. All (λ (one : Outcome). IsShortestOrder script one.order.items) xs in
    let nothing : E [] = λ k d less. absurd (omega (arith, less)) in
    let G : Outcomes → Type 0 = AreShortest script in
    subst G (sym (c.tell_cut.ensures.same (searched.whole whole))) (c.tell.ensures.shortest (subst S (sym c.as_slice.ensures.value) all) (subst E (sym c.requires.none) nothing))

pub tell-requires-clause-ends : goal.tell-requires-clause-ends
tell-requires-clause-ends g c =
    let script = c.args.script.now in
    let task = c.args.task.now in
    let found = c.args.found.now in
    let L : List Last → Type 0 = λ xs. All (IsLastAt script (kept found.growth.store)) xs in
    subst L (sym c.as_slice.ensures.value) (are_last script task.cpus task.turns task.bound found c.requires.searched c.requires.cpus)

pub returns-in-Ok-clause-stuck : goal.returns-in-Ok-clause-stuck
returns-in-Ok-clause-stuck g c = λ none met.
    let script = c.args.script.now in
    let E : List Outcome → Type 0 = λ xs. All (λ (one : Outcome). one.kind ≡ Stuck → IsStandstill script (state_after script one.order.items)) xs in
    let nothing : E [] = λ k d less. absurd (omega (arith, less)) in
    let G : Outcomes → Type 0 = StuckAt (IsStandstill script) script in
    subst G (sym (c.tell_cut.ensures.same met)) (c.tell.ensures.stuck (subst E (sym c.requires.none) nothing))

pub returns-in-Err-tell_cut : goal.returns-in-Err-tell_cut
returns-in-Err-tell_cut g c = record {
  found = c.tell_cut.ensures.found;
  short = c.tell_cut.ensures.short;
  once = λ once. c.tell_cut.ensures.once (c.tell.ensures.once once);
  shortest = tt;
  stuck = tt;
  whole = tt;
  told = tt;
  refused = c.in-Err-tell_cut.ensures.refused;
}

pub tell_cut-requires : goal.tell_cut-requires
tell_cut-requires g c = record {
  is_script = c.requires.script;
  cpus = c.requires.cpus;
  searched = c.requires.searched;
  are_outcomes = c.tell.ensures.found;
  short = c.tell.ensures.short;
}
