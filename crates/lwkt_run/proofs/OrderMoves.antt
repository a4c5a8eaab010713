-- Rounds are the turns of an order that goes round the processors.
use Rattle.std.proofs.Common.{◌≡◌, ℕ, zero, suc, ◌+◌, ◌*◌, ◌%◌, ◌<◌, ◌≤◌, List, [], ◌∷◌, ◌++◌, length, take, get_or, refl, ap, sym, ◌∙◌, subst, inl, inr, arith, append-nil, append_assoc}
use Rattle.std.specs.Prelude.{Bool, true, false}
use Rattle.std.proofs.Math.Seq.{take-nil}
use Rattle.std.proofs.lemmas.List.{length-set, length_push, take_more, length-take-le}
use Rattle.std.proofs.lemmas.Option.{unwrap_or-slice_get}
use Rattle.std.proofs.lemmas.Nat.{mod-mul-add}
use Rattle.lwkt_port.specs.Chains.{Chain}
use Rattle.lwkt_port.proofs.Chaining.{chain_none, chain_more}
use Rattle.lwkt_machine.proofs.ListMoves.{zip_long}
use Rattle.lwkt_machine.proofs.SightMoves.{sent_looked}
use Rattle.lwkt_verdict.specs.Run.{whose, GoesRound}
use Rattle.lwkt_run.specs.Running.{Scene, scene, Going, going, TakesTurn, MakesTurnAt, MakesSome, MakesTurns, MakesKeptRound, HasMadeRounds}
use Rattle.lwkt_run.specs.Keeping.{none_kept}
use Rattle.lwkt_run.specs.Orders.{RoundsAreAnOrder}
use Rattle.lwkt_run.proofs.IdMoves.{opened_has}
use Rattle.lwkt_run.proofs.RoundMoves.{round_keeps}

-- the steps of a chain are steps of another one
pub chain_maps : (A B : Type 0) (f : A → B) (S : ℕ → A → A → Type 0) (T : ℕ → B → B → Type 0) (bound : ℕ) → ((k : ℕ) (u v : A) → k < bound → S k u v → T k (f u) (f v)) → (n : ℕ) (x y : A) → n ≤ bound → Chain A S n x y → Chain B T n (f x) (f y)
unfolding Chain
chain_maps A B f S T bound does zero x y few chain = ap f chain
chain_maps A B f S T bound does (suc n) x y few chain =
    let less : n ≤ bound = omega (arith, few) in
    let here : n < bound = omega (arith, few) in
    (f chain.0, chain_maps A B f S T bound does n x chain.0 less chain.1, does n chain.0 y here chain.2)

-- a chain behind another one
pub chain_then : (A : Type 0) (S : ℕ → A → A → Type 0) (n m : ℕ) (x y z : A) → Chain A S n x y → Chain A (λ j. S (n + j)) m y z → Chain A S (n + m) x z
unfolding Chain
chain_then A S n zero x y z front rest =
    let e : n ≡ n + zero = omega arith in
    let F : ℕ → Type 0 = λ k. Chain A S k x z in
    subst F e (subst (λ w. Chain A S n x w) (sym rest) front)
chain_then A S n (suc m) x y z front rest =
    let e : n + m + 1 ≡ n + suc m = omega arith in
    let F : ℕ → Type 0 = λ k. Chain A S k x z in
    subst F e (chain_more A S (n + m) x rest.0 z (chain_then A S n m x y rest.0 front rest.1) rest.2)

-- the turns of so many processors, again and again
abbrev pub GoTurns : ℕ → ℕ → Scene → Scene → Type 0
GoTurns cpus n x y = Chain Scene (λ k. MakesTurnAt (k % cpus)) n x y

-- a round behind so many others
one_round : (over : Bool) (number cpus count : ℕ) (x y : Scene) → length x.machine.cpus ≡ cpus → MakesKeptRound over number x y → Chain Scene (λ j. MakesTurnAt ((count * cpus + j) % cpus)) cpus x y
one_round over number cpus count x y same round =
    let f : Going → Scene = λ z. z.at in
    let T : ℕ → Scene → Scene → Type 0 = λ j. MakesTurnAt ((count * cpus + j) % cpus) in
    let does : (k : ℕ) (u v : Going) → k < cpus → TakesTurn k u v → T k (f u) (f v) = λ k u v less turn.
    subst (λ c. MakesTurnAt c (f u) (f v)) (sym (mod-mul-add count cpus k less)) (turn.0, turn.1.0) in
    let few : cpus ≤ cpus = omega arith in
    let chain : Chain Going TakesTurn cpus (going x true) (going y over) = subst (λ n. Chain Going TakesTurn n (going x true) (going y over)) same round in
    chain_maps Going Scene f TakesTurn T cpus does cpus (going x true) (going y over) few chain

-- a turn keeps the number of processors
pub turn_keeps : (cpus cpu : ℕ) (x y : Scene) → MakesTurnAt cpu x y → length x.machine.cpus ≡ cpus → length y.machine.cpus ≡ cpus
turn_keeps cpus cpu x y turn same =
    let d = turn.1.makes in
    ap length d.turns.cpus ∙ length-set d.seen cpu d.turns.now ∙ zip_long _ x.machine.cpus d.seen (sent_looked cpu x.machine.cpus d.seen d.sees) ∙ same

keeps_round : (cpus : ℕ) (over : Bool) (number : ℕ) (x y : Scene) → MakesKeptRound over number x y → length x.machine.cpus ≡ cpus → length y.machine.cpus ≡ cpus
keeps_round cpus over number x y round same = round_keeps (λ z. length z.machine.cpus ≡ cpus) (turn_keeps cpus) over number x y round same

-- a scene after so many rounds
pub record Turned (cpus count : ℕ) (x y : Scene) : Type 0 where
  pub turns : GoTurns cpus (count * cpus) x y
  pub same : length y.machine.cpus ≡ cpus

pub turned_more : (over : Bool) (number cpus count : ℕ) (x y z : Scene) → Turned cpus count x y → MakesKeptRound over number y z → Turned cpus (count + 1) x z
turned_more over number cpus count x y z turned round =
    let e : count * cpus + cpus ≡ (count + 1) * cpus = omega arith in
    let F : ℕ → Type 0 = λ n. GoTurns cpus n x z in
    record {
      turns = subst F e (chain_then Scene (λ k. MakesTurnAt (k % cpus)) (count * cpus) cpus x y z turned.turns (one_round over number cpus count y z turned.same round));
      same = keeps_round cpus over number y z round turned.same;
    }

pub rounds_turned : (cpus : ℕ) (count : ℕ) (x y : Scene) → length x.machine.cpus ≡ cpus → Chain Scene (MakesKeptRound false) count x y → Turned cpus count x y
unfolding Chain
rounds_turned cpus zero x y same chain =
    let F : Scene → Type 0 = λ z. Turned cpus zero x z in
    let e : 0 ≡ zero * cpus = omega arith in
    let G : ℕ → Type 0 = λ n. GoTurns cpus n x x in
    subst F (sym chain) (record { turns = subst G e (chain_none Scene (λ k. MakesTurnAt (k % cpus)) x); same = same })
rounds_turned cpus (suc count) x y same chain =
    let e : count + 1 ≡ suc count = omega arith in
    let F : ℕ → Type 0 = λ n. Turned cpus n x y in
    subst F e (turned_more false count cpus count x chain.0 y (rounds_turned cpus count x chain.0 same chain.1) chain.2)

-- the rounds of a run are turns
made_turned : (cpus limit : ℕ) (x y : Scene) → length x.machine.cpus ≡ cpus → HasMadeRounds limit x y → (n : ℕ) × GoTurns cpus n x y
made_turned cpus limit x y same rounds = elim rounds [
  | inl ended ↦
      let e = ended.1.1 in
      let t = turned_more true ended.0 cpus ended.0 x e.mid y (rounds_turned cpus ended.0 x e.mid same e.earlier) e.last in
      ((ended.0 + 1) * cpus, t.turns)
  | inr whole ↦ (limit * cpus, (rounds_turned cpus limit x y same whole).turns)
]

-- the order of so many turns in rounds
round_list : ℕ → ℕ → List ℕ
round_list cpus zero = []
round_list cpus (suc n) = round_list cpus n ++ (n % cpus) ∷ []

list_long : (cpus n : ℕ) → length (round_list cpus n) ≡ n
unfolding round_list
list_long cpus zero = refl
list_long cpus (suc n) =
    let e : n + 1 ≡ suc n = omega arith in
    length_push (round_list cpus n) (n % cpus) ∙ ap (λ j. j + 1) (list_long cpus n) ∙ e

pub goes_more : (cpus k : ℕ) (xs : List ℕ) (x : ℕ) → GoesRound cpus k xs → x ≡ (k + length xs) % cpus → GoesRound cpus k (xs ++ x ∷ [])
goes_more cpus k [] x goes is =
    let e : k + zero ≡ k = omega arith in
    (is ∙ ap (λ j. j % cpus) e, record {})
goes_more cpus k (y ∷ xs) x goes is =
    let e : k + length (y ∷ xs) ≡ k + 1 + length xs = omega arith in
    (goes.0, goes_more cpus (k + 1) xs x goes.1 (is ∙ ap (λ j. j % cpus) e))

list_goes : (cpus n : ℕ) → GoesRound cpus 0 (round_list cpus n)
unfolding round_list
list_goes cpus zero = record {}
list_goes cpus (suc n) =
    let e : n ≡ 0 + length (round_list cpus n) = omega (arith, list_long cpus n) in
    goes_more cpus 0 (round_list cpus n) (n % cpus) (list_goes cpus n) (ap (λ j. j % cpus) e)

whose_round : (cpus k : ℕ) (order : List ℕ) (i : ℕ) → GoesRound cpus k order → i < length order → whose order i ≡ (k + i) % cpus
whose_round cpus k [] i goes less = absurd (omega (arith, less))
whose_round cpus k (x ∷ order) zero goes less =
    let e : k ≡ k + zero = omega arith in
    goes.0 ∙ ap (λ j. j % cpus) e
whose_round cpus k (x ∷ order) (suc i) goes less =
    let few : i < length order = omega (arith, less) in
    let e : k + 1 + i ≡ k + suc i = omega arith in
    whose_round cpus (k + 1) order i goes.1 few ∙ ap (λ j. j % cpus) e

along : (cpus n : ℕ) (x y : Scene) → GoTurns cpus n x y → MakesTurns (round_list cpus n) x y
along cpus n x y turns =
    let order = round_list cpus n in
    let S : ℕ → Scene → Scene → Type 0 = λ k. MakesTurnAt (k % cpus) in
    let T : ℕ → Scene → Scene → Type 0 = λ k. MakesTurnAt (whose order k) in
    let does : (k : ℕ) (u v : Scene) → k < n → S k u v → T k u v = λ k u v less turn.
    let few : k < length order = omega (arith, less, list_long cpus n) in
    let z : 0 + k ≡ k = omega arith in
    let named : whose order k ≡ k % cpus = whose_round cpus 0 order k (list_goes cpus n) few ∙ ap (λ j. j % cpus) z in
    subst (λ c. MakesTurnAt c u v) (sym named) turn in
    let all : n ≤ n = omega arith in
    subst (λ m. Chain Scene T m x y) (sym (list_long cpus n)) (chain_maps Scene Scene (λ z. z) S T n does n x y all turns)

-- so many turns in rounds add their processors to the order that is kept
turned_order : (cpus n : ℕ) (x y : Scene) → GoTurns cpus n x y → y.kept.order ≡ x.kept.order ++ round_list cpus n
unfolding Chain round_list
turned_order cpus zero x y turns = ap (λ (z : Scene). z.kept.order) turns ∙ sym (append-nil x.kept.order)
turned_order cpus (suc n) x y turns =
    turns.2.1.keeps.order ∙ ap (λ (o : List ℕ). o ++ (n % cpus) ∷ []) (turned_order cpus n x turns.0 turns.1) ∙ append_assoc x.kept.order (round_list cpus n) ((n % cpus) ∷ [])

-- turns in rounds, by the order that is kept of them
pub record Rounded (cpus n : ℕ) (x y : Scene) : Type 0 where
  pub along : MakesTurns y.kept.order x y
  pub goes : GoesRound cpus 0 y.kept.order
  pub long : length y.kept.order ≡ n

pub rounded : (cpus n : ℕ) (x y : Scene) → x.kept.order ≡ [] → GoTurns cpus n x y → Rounded cpus n x y
rounded cpus n x y none turns =
    let is : y.kept.order ≡ round_list cpus n = turned_order cpus n x y turns ∙ ap (λ (o : List ℕ). o ++ round_list cpus n) none in
    record {
      along = subst (λ o. MakesTurns o x y) (sym is) (along cpus n x y turns);
      goes = subst (GoesRound cpus 0) (sym is) (list_goes cpus n);
      long = ap length is ∙ list_long cpus n;
    }

-- some turns of an order add its front to the order that is kept
some_order : (order : List ℕ) (n : ℕ) (x y : Scene) → n ≤ length order → MakesSome order n x y → y.kept.order ≡ x.kept.order ++ take n order
unfolding Chain
some_order order zero x y few turns = ap (λ (z : Scene). z.kept.order) turns ∙ sym (append-nil x.kept.order)
some_order order (suc n) x y few turns =
    let less : n ≤ length order = omega (arith, few) in
    let here : n < length order = omega (arith, few) in
    let w = whose order n in
    let named : get_or order n 0 ≡ w = sym (unwrap_or-slice_get order n 0) in
    let e : n + 1 ≡ suc n = omega arith in
    let more : take n order ++ w ∷ [] ≡ take (suc n) order = ap (λ (k : ℕ). take n order ++ k ∷ []) (sym named) ∙ sym (take_more order n 0 here) ∙ ap (λ (k : ℕ). take k order) e in
    turns.2.1.keeps.order ∙ ap (λ (o : List ℕ). o ++ w ∷ []) (some_order order n x turns.0 less turns.1) ∙ append_assoc x.kept.order (take n order) (w ∷ []) ∙ ap (λ (o : List ℕ). x.kept.order ++ o) more

whose_front : (order : List ℕ) (n k : ℕ) → k < n → whose (take n order) k ≡ whose order k
whose_front [] n k less = ap (λ (o : List ℕ). whose o k) (take-nil n)
whose_front (x ∷ order) zero k less = absurd (omega (arith, less))
whose_front (x ∷ order) (suc n) zero less = refl
whose_front (x ∷ order) (suc n) (suc k) less = whose_front order n k (omega (arith, less))

-- some turns of an order, by the order that is kept of them
pub record Fronted (order : List ℕ) (n : ℕ) (x y : Scene) : Type 0 where
  pub along : MakesTurns y.kept.order x y
  pub front : y.kept.order ≡ take n order

pub fronted : (order : List ℕ) (n : ℕ) (x y : Scene) → n ≤ length order → x.kept.order ≡ [] → MakesSome order n x y → Fronted order n x y
fronted order n x y few none turns =
    let front : y.kept.order ≡ take n order = some_order order n x y few turns ∙ ap (λ (o : List ℕ). o ++ take n order) none in
    let S : ℕ → Scene → Scene → Type 0 = λ k. MakesTurnAt (whose order k) in
    let T : ℕ → Scene → Scene → Type 0 = λ k. MakesTurnAt (whose (take n order) k) in
    let does : (k : ℕ) (u v : Scene) → k < n → S k u v → T k u v = λ k u v less turn. subst (λ c. MakesTurnAt c u v) (sym (whose_front order n k less)) turn in
    let all : n ≤ n = omega arith in
    let long : length (take n order) ≡ n = length-take-le n order few in
    let chain : MakesTurns (take n order) x y = subst (λ m. Chain Scene T m x y) (sym long) (chain_maps Scene Scene (λ z. z) S T n does n x y all turns) in
    record { along = subst (λ o. MakesTurns o x y) (sym front) chain; front = front }

pub rounds_along : RoundsAreAnOrder
rounds_along script lines kept trace last run =
    let has = opened_has script run.opened run.opens in
    let x = scene run.opened [] none_kept in
    let y = scene run.made run.traced kept in
    let t = made_turned script.cpus script.turns x y has.as_many run.rounds in (
      round_list script.cpus t.0,
      (
        list_goes script.cpus t.0,
        record {
          opened = run.opened;
          made = run.made;
          traced = run.traced;
          stops = run.stops;
          opens = run.opens;
          along = along script.cpus t.0 x y t.1;
          shown = run.shown;
          leaves = run.leaves;
          trace_is = run.trace_is;
          modelled = run.modelled;
        },
      ),
    )
