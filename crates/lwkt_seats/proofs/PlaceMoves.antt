-- Steps on the places of a bank's seats.
use Rattle.std.proofs.Common.{eqb, ◌≡◌, ◌≢◌, ℕ, zero, suc, ◌+◌, ◌*◌, ◌<◌, Bool, true, false, List, [], ◌∷◌, ◌++◌, map, length, set, Some, refl, ap, sym, ◌∙◌, subst, arith, ⊎_elim, length-set, get_or-set_same, get_or-set_other}
use Rattle.std.specs.Prelude.{None, IfSome, slice_index, slice_index_or, slice_set}
use Rattle.std.specs.Arc.{arc_value}
use Rattle.std.proofs.lemmas.Bool.{eqb-true, eqb-false, cases_eq}
use Rattle.std.proofs.lemmas.List.{get_or-append-add}
use mathlib.Core.Option.{some, none}
use lib.ListN.{get_elem?}
use Rattle.atomic_table.specs.Table.{State, Me, Step, step, Act, keeps, takes, gives, stepped, Allows, Arrives, Valid, carried_after, homes_after, opening}
use Rattle.lwkt_bank.specs.declared.banks.Bank.{Bank}
use Rattle.lwkt_seats.specs.Seated.{IsSeated}
use Rattle.lwkt_seats.specs.Places.{Share, Slot, word_of_place, IsHome, AreAtRest, HasTaken, claims, leaves}
use Rattle.lwkt_seats.specs.FirstPlaces.{AreSlotsOf, state_of_place, words_of_place, words_of_places}

abbrev Homes : Type 0
Homes = List (mathlib.Core.Option.Option Slot)

length_homes : (hs : Homes) (k : ℕ) (x : mathlib.Core.Option.Option Slot) → length (set hs k x) ≡ length hs
length_homes hs k x = length-set hs k x

at_other : (hs : Homes) (i k : ℕ) (x : mathlib.Core.Option.Option Slot) → k ≢ i → get_elem? (set hs i x) k ≡ get_elem? hs k
at_other [] i k x apart = refl
at_other (h ∷ hs) zero zero x apart = absurd (apart refl)
at_other (h ∷ hs) zero (suc k) x apart = refl
at_other (h ∷ hs) (suc i) zero x apart = refl
at_other (h ∷ hs) (suc i) (suc k) x apart = at_other hs i k x (λ same. apart (ap suc same))

at_same : (hs : Homes) (i : ℕ) (x : mathlib.Core.Option.Option Slot) → i < length hs → get_elem? (set hs i x) i ≡ some x
at_same [] i x within = absurd (omega arith)
at_same (h ∷ hs) zero x within = refl
at_same (h ∷ hs) (suc i) x within = at_same hs i x (omega arith)

-- the other places are as they were, once a word and its slot have changed
module _ (bank : Bank) (s : State Slot Share) (rests : AreAtRest bank s) (i : ℕ) (there : i < length s.homes) (n : ℕ) (x : mathlib.Core.Option.Option Slot) (views : List Share) where
  abbrev pub after : State Slot Share
  after = record { words = slice_set s.words (word_of_place i) n; homes = set s.homes i x; views = views }

  pub still : (n ≡ 0 → IsHome bank (set s.homes i x) i) → AreAtRest bank after
  still here = record {
    wide = length-set s.words (word_of_place i) n ∙ rests.wide ∙ ap (λ (m : ℕ). 16 * m) (sym (length_homes s.homes i x));
    home = λ k within zero_word. ⊎_elim
        (λ same. let F : ℕ → Type 0 = λ j. IsHome bank (set s.homes i x) j in
        let wide = rests.wide in
        let found : slice_index (slice_set s.words (word_of_place i) n) (word_of_place i) ≡ n = get_or-set_same s.words (word_of_place i) n 0 (omega arith) in
        let G : ℕ → Type 0 = λ j. slice_index (slice_set s.words (word_of_place i) n) (word_of_place j) ≡ 0 in
        subst F (sym same) (here (sym found ∙ subst G same zero_word)))
        (λ apart.
        let away : slice_index (slice_set s.words (word_of_place i) n) (word_of_place k) ≡ slice_index s.words (word_of_place k) = get_or-set_other s.words (word_of_place i) (word_of_place k) n 0 (λ e. apart (omega arith)) in
        let was = rests.home k (let e = length_homes s.homes i x in omega arith) (sym away ∙ zero_word) in
        (was.0, (at_other s.homes i k x apart ∙ was.1.0, was.1.1)))
        (cases_eq k i);
  }

-- and once only a word has, which doesn't say that its seat rests
module _ (bank : Bank) (s : State Slot Share) (rests : AreAtRest bank s) (i : ℕ) (there : i < length s.homes) (n : ℕ) (views : List Share) where
  pub unmoved : n ≢ 0 → AreAtRest bank record { words = slice_set s.words (word_of_place i) n; homes = s.homes; views = views }
  unmoved away = record {
    wide = length-set s.words (word_of_place i) n ∙ rests.wide;
    home = λ k within zero_word. ⊎_elim
        (λ same.
        let wide = rests.wide in
        let found : slice_index (slice_set s.words (word_of_place i) n) (word_of_place i) ≡ n = get_or-set_same s.words (word_of_place i) n 0 (omega arith) in
        let G : ℕ → Type 0 = λ j. slice_index (slice_set s.words (word_of_place i) n) (word_of_place j) ≡ 0 in
        absurd (away (sym found ∙ subst G same zero_word)))
        (λ apart.
        let still_there : slice_index (slice_set s.words (word_of_place i) n) (word_of_place k) ≡ slice_index s.words (word_of_place k) = get_or-set_other s.words (word_of_place i) (word_of_place k) n 0 (λ e. apart (omega arith)) in
        rests.home k within (sym still_there ∙ zero_word))
        (cases_eq k i);
  }

only : (k i : ℕ) → word_of_place i ≡ word_of_place k → i ≡ k
only k i e = omega arith

-- a swap that takes a seat that rests
pub claims_allowed : (key : Share) (slots number : ℕ) (st : Step Slot) → number < slots → st.word ≡ word_of_place number
    → Arrives (AreAtRest (arc_value key)) slots (word_of_place number) (λ _. 1) (claims st (key, []))
claims_allowed key slots number st there at s rests homes fits = go (eqb word 0) refl
  where
    word : ℕ
    word = slice_index s.words (word_of_place number)

    views : List Share
    views = s.views ++ key ∷ []

    Result : Type 0
    Result = (w : Share) × (a : Act Slot) × Valid s.homes [] a × AreAtRest (arc_value key) (record { words = slice_set s.words (word_of_place number) 1; homes = homes_after s.homes [] a; views = s.views ++ w ∷ [] }) × claims st (key, []) word (w, carried_after [] a)

    inside : number < length s.homes
    inside = omega arith

    go : (b : Bool) → eqb word 0 ≡ b → Result
    go false differs = (key, keeps, tt, unmoved (arc_value key) s rests number inside 1 views (λ e. let f : 1 ≡ 0 = e in omega arith), λ zero_word. absurd (eqb-false word 0 differs zero_word))
    go true equals =
        let found = rests.home number inside (eqb-true word 0 equals) in
        let Out : ℕ → Type 0 = λ k. HasTaken key k (key, (number, Some found.0) ∷ []) in (
          key,
          takes number (Some found.0),
          found.1.0,
          still (arc_value key) s rests number inside 1 none views (λ e. absurd (let f : 1 ≡ 0 = e in omega arith)),
          λ _ k at_k. subst Out (only k number (sym at ∙ at_k)) (found.0, (refl, found.1.1)),
        )

-- a store that puts the seat back
pub leaves_allowed : (key : Share) (slots number id : ℕ) (me : Me Slot Share) (st : Step Slot) → number < slots → HasTaken key number me
    → Allows (AreAtRest (arc_value key)) slots id me (word_of_place number) (λ _. 0) (λ _. leaves st me 0)
leaves_allowed key slots number id me st there out s rests homes here fits =
    let inside : number < length s.homes = omega arith in
    let b = out.0 in
    let home : IsHome (arc_value key) (set s.homes number (some (Some b))) number = (b, (at_same s.homes number (some (Some b)) inside, out.1.1)) in
    let F : Me Slot Share → Type 0 = λ m. AreAtRest (arc_value key) (stepped s (word_of_place number) 0 id m.1 key gives) in
    let is_key : me.0 ≡ key = ap (λ (m : Me Slot Share). m.0) out.1.0 in
    (key, gives, tt, subst F (sym out.1.0) (still (arc_value key) s rests number inside 0 (some (Some b)) (slice_set s.views id key) (λ _. home)), sym is_key)

-- the words of places at the opening
pub words_wide : (slots : List Slot) → length (words_of_places slots) ≡ 16 * length slots
words_wide [] = refl
words_wide (x ∷ xs) = let rest = words_wide xs in omega arith

word_at : (slots : List Slot) (k : ℕ) → k < length slots → slice_index (words_of_places slots) (word_of_place k) ≡ state_of_place (slice_index_or slots k None)
word_at [] k within = absurd (omega arith)
word_at (x ∷ xs) zero within = refl
word_at (x ∷ xs) (suc k) within =
    let F : ℕ → Type 0 = λ j. slice_index (words_of_places (x ∷ xs)) j ≡ state_of_place (slice_index_or xs k None) in
    let at : 16 + word_of_place k ≡ word_of_place (suc k) = omega arith in
    subst F at (get_or-append-add (words_of_place x) (words_of_places xs) (word_of_place k) 0 ∙ word_at xs k (omega arith))

home_at : (slots : List Slot) (k : ℕ) (x : Slot) → k < length slots → slice_index_or slots k None ≡ x → get_elem? (map some slots) k ≡ some (some x)
home_at [] k x within is = absurd (omega arith)
home_at (y ∷ ys) zero x within is = ap (λ (z : Slot). some (some z)) is
home_at (y ∷ ys) (suc k) x within is = home_at ys k x (omega arith) is

as_many_homes : (slots : List Slot) → length (map some slots) ≡ length slots
as_many_homes [] = refl
as_many_homes (x ∷ xs) = ap suc (as_many_homes xs)

at_home : (bank : Bank) (slots : List Slot) (k : ℕ) (x : Slot) → k < length slots → slice_index_or slots k None ≡ x → IfSome x (λ b. IsSeated bank k b.value) → state_of_place x ≡ 0 → IsHome bank (map some slots) k
at_home bank slots k (Some b) within is seated rests = (b, (home_at slots k (Some b) within is, seated))
at_home bank slots k None within is seated rests = absurd (let f : 1 ≡ 0 = rests in omega arith)

pub rest_first : (bank : Bank) (slots : List Slot) (words : List ℕ) (view : Share) → words ≡ words_of_places slots → AreSlotsOf bank slots → AreAtRest bank (opening words slots view)
rest_first bank slots words view are seated =
    let homes = as_many_homes slots in
    record {
      wide = ap length are ∙ words_wide slots ∙ ap (λ (m : ℕ). 16 * m) (sym homes);
      home = λ k within zero_word.
          let inside : k < length slots = omega arith in
          at_home bank slots k (slice_index_or slots k None) inside refl (seated k inside) (sym (word_at slots k inside) ∙ ap (λ (ws : List ℕ). slice_index ws (word_of_place k)) (sym are) ∙ zero_word);
    }

-- each step asks for no more
module _ (key : Share) (slots words number word : ℕ) (there : number < slots) (wide : words ≡ 16 * slots) (at : word ≡ word_of_place number) where
  pub inside : word < words
  inside = omega (arith, there, wide, at)

  pub claims_at : Arrives (AreAtRest (arc_value key)) slots word (λ _. 1) (claims (step slots word 1 0 none) (key, []))
  claims_at =
      let F : ℕ → Type 0 = λ w. Arrives (AreAtRest (arc_value key)) slots w (λ _. 1) (claims (step slots word 1 0 none) (key, [])) in
      subst F (sym at) (claims_allowed key slots number (step slots word 1 0 none) there at)

  pub leaves_at : (id : ℕ) (me : Me Slot Share) → HasTaken key number me → Allows (AreAtRest (arc_value key)) slots id me word (λ _. 0) (λ _. leaves (step slots word 0 0 none) me 0)
  leaves_at id me out =
      let F : ℕ → Type 0 = λ w. Allows (AreAtRest (arc_value key)) slots id me w (λ _. 0) (λ _. leaves (step slots word 0 0 none) me 0) in
      subst F (sym at) (leaves_allowed key slots number id me (step slots word 0 0 none) there out)
