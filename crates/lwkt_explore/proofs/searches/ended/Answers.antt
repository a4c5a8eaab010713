use Rattle.std.proofs.Common.{◌≡◌, ◌∙◌, ℕ, List, [], None, All, IfSome, arith, rules, subst, sym}
use Rattle.std.specs.List.{AllPairs}
use Rattle.lwkt_explore.specs.declared.outcomes.Outcome.{Outcome}
use Rattle.lwkt_explore.specs.declared.searches.Tried.{Tried}
use Rattle.lwkt_explore.specs.Tries.{HasTriedStates}
use Rattle.lwkt_script.specs.declared.scripts.Script.{Script}
use Rattle.lwkt_search.specs.declared.searches.Outcome.{Outcome as Last}
use Rattle.lwkt_explore.specs.declared.outcomes.Outcomes.{Outcomes}
use Rattle.lwkt_explore.specs.Outcomes.{AreAlike, AreOnce, AreOutcomes, AreShort, AreWhole, HasEnded, HasReport}
use Rattle.lwkt_explore.specs.Searches.{AreShortest, IsLostAlong, IsSearched, NoneIsLost, StuckAt}
use Rattle.lwkt_plain.specs.Deadlocks.{IsStandstill}
use Rattle.lwkt_explore.proofs.ToldLemmas.{all_are_told}
use Rattle.lwkt_explore.proofs.searches.ended.Goals as goal

-- nothing is there more than once
none_twice : AllPairs (λ (one other : Outcome). AreAlike one other → ⊥) []
none_twice = λ i j d before below. absurd (omega (arith, below))

pub returns-in-Some-clause-found : goal.returns-in-Some-clause-found
returns-in-Some-clause-found g c = let F : Outcomes → Type 0 = AreOutcomes c.args.script.now in subst F (sym c.part_of.ensures.outcomes) c.compared.ensures.found

pub returns-in-Some-clause-once : goal.returns-in-Some-clause-once
returns-in-Some-clause-once g c =
    let N : List Outcome → Type 0 = λ xs. AllPairs (λ one other. AreAlike one other → ⊥) xs in
    let F : Outcomes → Type 0 = AreOnce in
    subst F (sym c.part_of.ensures.outcomes) (c.compared.ensures.once (c.told_of.ensures.once (subst N (sym c.new-outcomes.ensures.none) none_twice)))

pub returns-in-Some-bound_of-clause-found : goal.returns-in-Some-bound_of-clause-found
returns-in-Some-bound_of-clause-found g c = let F : Outcomes → Type 0 = AreOutcomes c.args.script.now in subst F (sym c.part_of-in-Some-bound_of.ensures.outcomes) c.compared.ensures.found

pub returns-in-Some-bound_of-clause-once : goal.returns-in-Some-bound_of-clause-once
returns-in-Some-bound_of-clause-once g c =
    let N : List Outcome → Type 0 = λ xs. AllPairs (λ one other. AreAlike one other → ⊥) xs in
    let F : Outcomes → Type 0 = AreOnce in
    subst F (sym c.part_of-in-Some-bound_of.ensures.outcomes) (c.compared.ensures.once (c.told_of.ensures.once (subst N (sym c.new-outcomes.ensures.none) none_twice)))

pub returns-in-Some-told-clause-found : goal.returns-in-Some-told-clause-found
returns-in-Some-told-clause-found g c = let F : Outcomes → Type 0 = AreOutcomes c.args.script.now in subst F (sym c.part_of-in-Some-told.ensures.outcomes) c.compared.ensures.found

pub returns-in-Some-told-clause-once : goal.returns-in-Some-told-clause-once
returns-in-Some-told-clause-once g c =
    let N : List Outcome → Type 0 = λ xs. AllPairs (λ one other. AreAlike one other → ⊥) xs in
    let F : Outcomes → Type 0 = AreOnce in
    subst F (sym c.part_of-in-Some-told.ensures.outcomes) (c.compared.ensures.once (c.told_of.ensures.once (subst N (sym c.new-outcomes.ensures.none) none_twice)))

pub returns-in-None-clause-found : goal.returns-in-None-clause-found
returns-in-None-clause-found g c = let F : Outcomes → Type 0 = AreOutcomes c.args.script.now in subst F (sym c.whole_of.ensures.outcomes) c.compared.ensures.found

pub returns-in-None-clause-once : goal.returns-in-None-clause-once
returns-in-None-clause-once g c =
    let N : List Outcome → Type 0 = λ xs. AllPairs (λ one other. AreAlike one other → ⊥) xs in
    let F : Outcomes → Type 0 = AreOnce in
    subst F (sym c.whole_of.ensures.outcomes) (c.compared.ensures.once (c.told_of.ensures.once (subst N (sym c.new-outcomes.ensures.none) none_twice)))

pub returns-in-None-clause-ended : goal.returns-in-None-clause-ended
returns-in-None-clause-ended g c = λ complete none. let F : Outcomes → Type 0 = HasEnded in subst F (sym c.whole_of.ensures.outcomes) (c.whole_of.ensures.ended complete none)

pub returns-in-None-clause-stuck : goal.returns-in-None-clause-stuck
returns-in-None-clause-stuck g c = λ complete.
    let script = c.args.script.now in
    let unmet : c.bound_of.result ≡ None = search rules in
    let met : c.args.found.growth.met ≡ None = c.bound_of.ensures.none unmet in
    let same : c.compared.new.outcomes ≡ c.told_of.new.outcomes = c.in_ok-bound.ensures.same (search rules) in
    let G : Outcomes → Type 0 = StuckAt (IsStandstill script) script in
    subst G (sym (c.whole_of.ensures.outcomes ∙ same)) (c.in_ok-told.ensures.stuck c.in-None.is met)

pub returns-in-None-clause-all : goal.returns-in-None-clause-all
returns-in-None-clause-all g c = λ yes.
    let task = c.args.task.now in
    let script = c.args.script.now in
    let found = c.args.found in
    let whole = c.whole_of.ensures.whole yes in
    let unmet : c.bound_of.result ≡ None = search rules in
    let met : found.growth.met ≡ None = c.bound_of.ensures.none unmet in
    let same : c.compared.new.outcomes ≡ c.told_of.new.outcomes = c.in_ok-bound.ensures.same (search rules) in
    let reports : All (λ (one : Last). HasReport script one.order.items c.told_of.new.outcomes) found.outcomes.items = c.in_ok-told.ensures.told c.in-None.is met in
    let R : Outcomes → Type 0 = λ outcomes. All (λ (one : Last). HasReport script one.order.items outcomes) found.outcomes.items in
    let G : Outcomes → Type 0 = AreShortest script in
    let N : ℕ → Type 0 = λ cpus. NoneIsLost script cpus in
    let M : Script → Type 0 = λ s. NoneIsLost s task.cpus in
    let A : ℕ → Type 0 = λ cpus. IfSome c.whole_of.result.lost (λ one. IsLostAlong script cpus one.order.items) in
    let B : Script → Type 0 = λ s. IfSome c.whole_of.result.lost (λ one. IsLostAlong s task.cpus one.order.items) in
    record {
      complete = whole.1;
      all = all_are_told script task.cpus task.turns task.bound found c.whole_of.result.outcomes c.requires.searched c.requires.cpus whole.0 (subst R (sym (c.whole_of.ensures.outcomes ∙ same)) reports);
      shortest = subst G (sym (c.whole_of.ensures.outcomes ∙ same)) (c.in_ok-told.ensures.shortest c.in-None.is whole.0);
      none_lost = λ none. subst N c.requires.cpus (subst M c.requires.script (c.whole_of.ensures.none_lost yes none));
      one_lost = subst A c.requires.cpus (subst B c.requires.script (c.whole_of.ensures.one_lost yes));
    }

pub returns-in-Some-clause-tried : goal.returns-in-Some-clause-tried
returns-in-Some-clause-tried g c = let F : Tried → Type 0 = HasTriedStates c.args.task.now.bound in subst F (sym c.part_of.ensures.tried) c.states_in-tried.ensures

pub returns-in-Some-bound_of-clause-tried : goal.returns-in-Some-bound_of-clause-tried
returns-in-Some-bound_of-clause-tried g c = let F : Tried → Type 0 = HasTriedStates c.args.task.now.bound in subst F (sym c.part_of-in-Some-bound_of.ensures.tried) c.states_in-tried.ensures

pub returns-in-Some-told-clause-tried : goal.returns-in-Some-told-clause-tried
returns-in-Some-told-clause-tried g c = let F : Tried → Type 0 = HasTriedStates c.args.task.now.bound in subst F (sym c.part_of-in-Some-told.ensures.tried) c.states_in-tried.ensures

pub returns-in-None-clause-tried : goal.returns-in-None-clause-tried
returns-in-None-clause-tried g c = let F : Tried → Type 0 = HasTriedStates c.args.task.now.bound in subst F (sym c.whole_of.ensures.tried) c.states_in-tried.ensures

pub compared-requires : goal.compared-requires
compared-requires g c = record {
  is_script = c.requires.script;
  cpus = c.requires.cpus;
  searched = c.requires.searched;
  are_outcomes = c.told_of.ensures.found;
  short = c.told_of.ensures.short;
}

pub returns-in-Some-clause-short : goal.returns-in-Some-clause-short
returns-in-Some-clause-short g c = let F : Outcomes → Type 0 = AreShort c.args.task.now.turns in subst F (sym c.part_of.ensures.outcomes) c.compared.ensures.short

pub returns-in-Some-bound_of-clause-short : goal.returns-in-Some-bound_of-clause-short
returns-in-Some-bound_of-clause-short g c = let F : Outcomes → Type 0 = AreShort c.args.task.now.turns in subst F (sym c.part_of-in-Some-bound_of.ensures.outcomes) c.compared.ensures.short

pub returns-in-Some-told-clause-short : goal.returns-in-Some-told-clause-short
returns-in-Some-told-clause-short g c = let F : Outcomes → Type 0 = AreShort c.args.task.now.turns in subst F (sym c.part_of-in-Some-told.ensures.outcomes) c.compared.ensures.short

pub returns-in-None-clause-short : goal.returns-in-None-clause-short
returns-in-None-clause-short g c = let F : Outcomes → Type 0 = AreShort c.args.task.now.turns in subst F (sym c.whole_of.ensures.outcomes) c.compared.ensures.short

pub whole_of-requires-clause-searched : goal.whole_of-requires-clause-searched
whole_of-requires-clause-searched g c =
    let task = c.args.task.now in
    let F : Script → Type 0 = λ script. IsSearched script task.cpus task.turns task.bound c.args.found in
    subst F (sym c.requires.script) c.requires.searched

pub returns-in-None-clause-whole : goal.returns-in-None-clause-whole
returns-in-None-clause-whole g c = λ complete.
    let unmet : c.bound_of.result ≡ None = search rules in
    let met : c.args.found.growth.met ≡ None = c.bound_of.ensures.none unmet in
    let same : c.compared.new.outcomes ≡ c.told_of.new.outcomes = c.in_ok-bound.ensures.same (search rules) in
    let G : Outcomes → Type 0 = AreWhole in
    subst G (sym (c.whole_of.ensures.outcomes ∙ same)) (c.in_ok-told.ensures.whole c.in-None.is met)
