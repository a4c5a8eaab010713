use Rattle.std.proofs.Common.{◌≡◌, ℕ, ◌<◌, ◌≤◌, [], ◌∷◌, ◌++◌, List, length, get_or, rules, sym, subst}
use Rattle.std.proofs.lemmas.List.Elements.{All-head, All-push, All-rest, All-same}
use Rattle.std.proofs.lemmas.List.Quantifiers.{all_pairs_push}
use Rattle.std.specs.List.{AllPairs}
use Rattle.std.specs.Prelude.{All}
use Rattle.std.specs.Vec.Iter.{into_iter_items}
use Rattle.lwkt_script.specs.declared.scripts.Script.{Script}
use Rattle.lwkt_explore.specs.declared.outcomes.Outcome.{Outcome}
use Rattle.lwkt_explore.specs.Outcomes.{AreAlike, AreOnce, IsOutcome}
use Rattle.lwkt_explore.proofs.EndLemmas.{none_gives}
use Rattle.lwkt_explore.proofs.outcomes.Outcomes.take_in.Goals as goal

-- a property of all that were there, and of one more behind them, holds of all that are there now
all_with : (P : Outcome → Type 0) (olds news : List Outcome) (one : Outcome) → news ≡ olds ++ one ∷ [] → All P olds → P one → All P news
all_with P olds news one same all is = let F : List Outcome → Type 0 = λ xs. All P xs in subst F (sym same) (All-push P olds one all is)

-- a property of all that is left holds of the next one
of_next : (P : Outcome → Type 0) (left rest : List Outcome) (one : Outcome) → left ≡ one ∷ rest → All P left → P one
of_next P left rest one steps all = let F : List Outcome → Type 0 = λ xs. All P xs in All-head P one rest (subst F steps all)

pub loop-outcome-init : goal.loop-outcome-init
loop-outcome-init c =
    let given = into_iter_items c.into_iter-outcome-iterator.result in
    let gives : given ≡ c.args.others.all.items = c.into_iter-outcome-iterator.ensures.into_iter_gives.0 in
    let S : ℕ → Outcome → Type 0 = λ turns outcome. length outcome.order.items ≤ turns in
    record {
      found = λ script mine theirs. mine;
      once = λ mine. mine;
      rest = λ script theirs. All-same (IsOutcome script) given c.args.others.all.items gives theirs;
      short = λ turns mine theirs. mine;
      few = λ turns theirs. All-same (S turns) given c.args.others.all.items gives theirs;
    }

pub loop-outcome-preserved-then-is_none : goal.loop-outcome-preserved-then-is_none
loop-outcome-preserved-then-is_none c =
    let l = c.loop-outcome in
    let one = c.in-Some.outcome in
    let rest = into_iter_items c.next.new.self in
    let left = into_iter_items l.outcome-iterator in
    let steps : left ≡ one ∷ rest = c.in-Some.ensures.steps.0 in
    let news = c.keep.new.self.all.items in
    let same : news ≡ l.self.all.items ++ one ∷ [] = subst (λ xs. news ≡ xs ++ one ∷ []) c.make_room.ensures.all c.keep.ensures.all in
    let S : ℕ → Outcome → Type 0 = λ turns outcome. length outcome.order.items ≤ turns in
    let fresh : (k : ℕ) (d : Outcome) → k < length l.self.all.items → AreAlike (get_or l.self.all.items k d) one → ⊥ = none_gives c.place_of.result (search rules) c.place_of.ensures.fresh in
    record {
      once = λ mine.
          let R : Outcome → Outcome → Type 0 = λ a b. AreAlike a b → ⊥ in
          let F : List Outcome → Type 0 = λ xs. AllPairs R xs in
          let room = c.make_room.new.self.all.items in
          subst F (sym c.keep.ensures.all) (all_pairs_push R room one (subst F (sym c.make_room.ensures.all) (l.invariant.once mine))
          (λ k d less.
          let A : List Outcome → Type 0 = λ xs. (j : ℕ) (e : Outcome) → j < length xs → AreAlike (get_or xs j e) one → ⊥ in
          subst A (sym c.make_room.ensures.all) fresh k d less));
      found = λ script mine theirs. all_with (IsOutcome script) l.self.all.items news one same (l.invariant.found script mine theirs) (of_next (IsOutcome script) left rest one steps (l.invariant.rest script theirs));
      rest = λ script theirs. All-rest (IsOutcome script) one rest left steps (l.invariant.rest script theirs);
      short = λ turns mine theirs. all_with (S turns) l.self.all.items news one same (l.invariant.short turns mine theirs) (of_next (S turns) left rest one steps (l.invariant.few turns theirs));
      few = λ turns theirs. All-rest (S turns) one rest left steps (l.invariant.few turns theirs);
    }

pub returns-in_err-make_room-clause-found : goal.returns-in_err-make_room-clause-found
returns-in_err-make_room-clause-found c =
    let F : List Outcome → Type 0 = λ xs. (script : Script) → All (IsOutcome script) c.args.self.now.all.items → All (IsOutcome script) c.args.others.all.items → All (IsOutcome script) xs in
    subst F (sym c.make_room.ensures.all) c.loop-outcome.invariant.found

pub loop-outcome-preserved : goal.loop-outcome-preserved
loop-outcome-preserved c =
    let l = c.loop-outcome in
    let one = c.in-Some.outcome in
    let rest = into_iter_items c.next.new.self in
    let left = into_iter_items l.outcome-iterator in
    let steps : left ≡ one ∷ rest = c.in-Some.ensures.steps.0 in
    let S : ℕ → Outcome → Type 0 = λ turns outcome. length outcome.order.items ≤ turns in
    record {
      found = l.invariant.found;
      once = l.invariant.once;
      rest = λ script theirs. All-rest (IsOutcome script) one rest left steps (l.invariant.rest script theirs);
      short = l.invariant.short;
      few = λ turns theirs. All-rest (S turns) one rest left steps (l.invariant.few turns theirs);
    }

pub loop-outcome-preserved-else-is_none : goal.loop-outcome-preserved-else-is_none
loop-outcome-preserved-else-is_none c =
    let l = c.loop-outcome in
    let one = c.in-Some.outcome in
    let rest = into_iter_items c.next.new.self in
    let left = into_iter_items l.outcome-iterator in
    let steps : left ≡ one ∷ rest = c.in-Some.ensures.steps.0 in
    let S : ℕ → Outcome → Type 0 = λ turns outcome. length outcome.order.items ≤ turns in
    record {
      found = l.invariant.found;
      once = l.invariant.once;
      rest = λ script theirs. All-rest (IsOutcome script) one rest left steps (l.invariant.rest script theirs);
      short = l.invariant.short;
      few = λ turns theirs. All-rest (S turns) one rest left steps (l.invariant.few turns theirs);
    }

pub returns-in_err-make_room-clause-once : goal.returns-in_err-make_room-clause-once
returns-in_err-make_room-clause-once c = λ mine.
    let F : List Outcome → Type 0 = λ xs. AllPairs (λ one other. AreAlike one other → ⊥) xs in
    subst F (sym c.make_room.ensures.all) (c.loop-outcome.invariant.once mine)
