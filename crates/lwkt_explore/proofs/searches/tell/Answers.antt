use Rattle.std.proofs.Common.{◌≡◌, ◌≢◌, ◌∙◌, ℕ, ◌<◌, ◌≤◌, List, length, get_or, arith, rules, subst, sym, ap, below_more}
use Rattle.std.proofs.lemmas.List.{get_or_default}
use Rattle.lwkt_search.specs.declared.searches.Outcome.{Outcome as Last}
use Rattle.lwkt_explore.specs.declared.outcomes.Kind.TheVariants.{Cut}
use Rattle.std.specs.Prelude.{All}
use Rattle.lwkt_explore.specs.Outcomes.{HasReport}
use Rattle.lwkt_explore.specs.Searches.{IsLastAt, IsShortestOrder}
use Rattle.lwkt_plain.specs.Stores.{kept}
use Rattle.lwkt_explore.proofs.ToldLemmas.{still_at}
use Rattle.lwkt_explore.proofs.searches.tell.Goals as goal

pub returns-then-eq-clause-short : goal.returns-then-eq-clause-short
returns-then-eq-clause-short g c =
    let one : Last = c.index-told-at.result in
    let told = c.args.told.now in
    let turns : ℕ = c.args.turns in
    let below : c.loop-at.at < length told = omega arith in
    let order : c.in_ok-order.order.items ≡ one.order.items = c.in_ok-order.ensures.items ∙ c.as_slice.ensures.value in
    let F : Last → Type 0 = λ o. length o.order.items ≤ turns in
    let few : length one.order.items ≤ turns = subst F (sym c.index-told-at.is) (c.requires.few c.loop-at.at one below) in
    let G : List ℕ → Type 0 = λ xs. length xs ≤ turns in
    c.add.ensures.short turns (subst G (sym order) few) c.loop-at.invariant.short

pub loop-at-preserved : goal.loop-at-preserved
loop-at-preserved g c =
    let one : Last = c.index-told-at.result in
    let told = c.args.told.now in
    let script = c.args.script.now in
    let turns : ℕ = c.args.turns in
    let at = c.loop-at.at in
    let new = c.add.new.self in
    let below : at < length told = omega arith in
    let order : c.in_ok-order.order.items ≡ one.order.items = c.in_ok-order.ensures.items ∙ c.as_slice.ensures.value in
    let F : Last → Type 0 = λ o. length o.order.items ≤ turns in
    let few : length one.order.items ≤ turns = subst F (sym c.index-told-at.is) (c.requires.few at one below) in
    let G : List ℕ → Type 0 = λ xs. length xs ≤ turns in
    let uncut : c.in_ok-kind.kind ≢ Cut = search rules in
    let P : ℕ → Type 0 = λ k. (d : Last) → HasReport script (get_or told k d).order.items new in
    let R : List ℕ → Type 0 = λ xs. HasReport script xs new in
    let here : P at = λ d. subst R (order ∙ ap (λ (o : Last). o.order.items) (c.index-told-at.is ∙ get_or_default told at one d below)) c.in_ok-kind.ensures.told in
    let all : (k : ℕ) → k < at → P k = λ k less d. c.in_ok-kind.ensures.stays (get_or told k d).order.items (c.loop-at.invariant.told k d less) in
    record {
      found = c.in_ok-kind.ensures.found;
      short = c.in_ok-kind.ensures.short turns (subst G (sym order) few) c.loop-at.invariant.short;
      whole = c.in_ok-kind.ensures.whole uncut c.loop-at.invariant.whole;
      once = λ once. c.in_ok-kind.ensures.once (c.loop-at.invariant.once once);
      shortest = λ all mine.
          let S : Last → Type 0 = λ o. IsShortestOrder script o.order.items in
          let T : List ℕ → Type 0 = IsShortestOrder script in
          c.in_ok-kind.ensures.shortest (subst T (sym order) (subst S (sym c.index-told-at.is) (all at one below))) (c.loop-at.invariant.shortest all mine);
      stuck = λ mine.
          let L : Last → Type 0 = IsLastAt script (kept c.args.store.now) in
          let last : L one = subst L (sym c.index-told-at.is) (c.requires.ends at one below) in
          c.in_ok-kind.ensures.stuck (λ quiet. still_at script (kept c.args.store.now) one c.in_ok-order.order.items last order (c.last_state_of-last_state.ensures quiet)) (c.loop-at.invariant.stuck mine);
      told = λ k d less. below_more P at all here k less d;
    }

pub returns-then-eq-clause-shortest : goal.returns-then-eq-clause-shortest
returns-then-eq-clause-shortest g c = λ all mine.
    let one : Last = c.index-told-at.result in
    let told = c.args.told.now in
    let script = c.args.script.now in
    let below : c.loop-at.at < length told = omega arith in
    let order : c.in_ok-order.order.items ≡ one.order.items = c.in_ok-order.ensures.items ∙ c.as_slice.ensures.value in
    let S : Last → Type 0 = λ o. IsShortestOrder script o.order.items in
    let T : List ℕ → Type 0 = IsShortestOrder script in
    c.add.ensures.shortest (subst T (sym order) (subst S (sym c.index-told-at.is) (all c.loop-at.at one below))) (c.loop-at.invariant.shortest all mine)

pub returns-then-eq-clause-once : goal.returns-then-eq-clause-once
returns-then-eq-clause-once g c = λ once. c.add.ensures.once (c.loop-at.invariant.once once)

pub returns-then-eq-clause-stuck : goal.returns-then-eq-clause-stuck
returns-then-eq-clause-stuck g c = λ mine.
    let one : Last = c.index-told-at.result in
    let told = c.args.told.now in
    let script = c.args.script.now in
    let below : c.loop-at.at < length told = omega arith in
    let order : c.in_ok-order.order.items ≡ one.order.items = c.in_ok-order.ensures.items ∙ c.as_slice.ensures.value in
    let L : Last → Type 0 = IsLastAt script (kept c.args.store.now) in
    let last : L one = subst L (sym c.index-told-at.is) (c.requires.ends c.loop-at.at one below) in
    c.add.ensures.stuck (λ quiet. still_at script (kept c.args.store.now) one c.in_ok-order.order.items last order (c.last_state_of-last_state.ensures quiet)) (c.loop-at.invariant.stuck mine)
