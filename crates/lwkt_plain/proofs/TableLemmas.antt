use Rattle.std.proofs.Common.{◌≡◌, ◌≢◌, ℕ, ◌+◌, ◌<◌, ◌≤◌, List, [], ◌∷◌, ◌++◌, zero, suc, length, length-append, arith, ap, subst, sym, refl, ◌∙◌, below_more, slice_index_or, slice_get, slice_set, drop, get_or-set_other, get_or-set_same, All, HoldsAt, Option, Some, ◌⊎◌, inl, inr}
use Rattle.std.proofs.lemmas.List.{append-nil, append_assoc, get_or_append_left, get_or_default, get_or_push, length-set, set-get_or}
use Rattle.std.proofs.Math.Seq.{get_or-append_seam}
use Rattle.std.proofs.lemmas.List.Elements.{All-head, All-tail}
use Rattle.std.specs.Option.{option_map_or}
use Rattle.lwkt_search.specs.Indexes.{IsIndex, IsAdded}
use Rattle.lwkt_plain.specs.Tables.{key_at, named, IsTable, IsNamed, AreNamed, Extends}
use Rattle.lwkt_search.proofs.IndexLemmas.{index_same}

pub key_is : {P : Type 0} (hash : P → ℕ) (parts : List P) (k : ℕ) (d : P) → k < length parts → key_at hash parts k ≡ hash (slice_index_or parts k d)
key_is hash [] k d there = absurd (omega arith)
key_is hash (p ∷ parts) zero d there = refl
key_is hash (p ∷ parts) (suc k) d there = let less : k < length parts = omega arith in key_is hash parts k d less

pub key_left : {P : Type 0} (hash : P → ℕ) (parts more : List P) (k : ℕ) → k < length parts → key_at hash (parts ++ more) k ≡ key_at hash parts k
key_left hash [] more k there = absurd (omega arith)
key_left hash (p ∷ parts) more zero there = refl
key_left hash (p ∷ parts) more (suc k) there = let less : k < length parts = omega arith in key_left hash parts more k less

pub key_last : {P : Type 0} (hash : P → ℕ) (parts : List P) (p : P) → key_at hash (parts ++ p ∷ []) (length parts) ≡ hash p
key_last hash [] p = refl
key_last hash (q ∷ parts) p = key_last hash parts p

-- the key of a part that is found at a place
pub key_found : {P : Type 0} (hash : P → ℕ) (parts : List P) (part : P) (key : ℕ) → key ≡ hash part → (k : ℕ) → k < length parts → HoldsAt (λ (p : P). p ≡ part) parts k → key_at hash parts k ≡ key
key_found hash parts part key is k there at = key_is hash parts k part there ∙ (ap hash (at part) ∙ sym is)

pub table_none : {P : Type 0} (hash : P → ℕ) (parts : List P) (heads links : List ℕ) → parts ≡ [] → ((key : ℕ → ℕ) → IsIndex key heads links 0) → IsTable hash parts heads links
table_none {P} hash parts heads links none index =
    let F : List P → Type 0 = λ ps. IsTable hash ps heads links in
    subst F (sym none) (record { index = index (key_at hash []); distinct = λ i j less h d e. absurd (omega arith); few = omega arith })

-- a table with one part more
pub table_push : {P : Type 0} (hash : P → ℕ) (parts new : List P) (heads links heads' links' : List ℕ) (p : P) → IsTable hash parts heads links → All (λ (q : P). q ≡ p → ⊥) parts → IsAdded (hash p) heads links heads' links' → new ≡ parts ++ p ∷ [] → length parts < 4294967295 → IsTable hash new heads' links'
table_push {P} hash parts new heads links heads' links' p is fresh added pushed room =
    let list : List P = parts ++ p ∷ [] in
    let long : length list ≡ length parts + 1 = length-append parts (p ∷ []) in
    let was : IsIndex (key_at hash list) heads links (length parts) = index_same (key_at hash parts) (key_at hash list) heads links (length parts) (key_left hash parts (p ∷ [])) is.index in
    let F : List P → Type 0 = λ ps. IsTable hash ps heads' links' in
    let E : ℕ → Type 0 = λ n. IsIndex (key_at hash list) heads' links' n in
    let left : (k : ℕ) (d : P) → k < length parts → slice_index_or list k d ≡ slice_index_or parts k d = λ k d h. get_or_append_left parts (p ∷ []) d k h in
    let seam : (d : P) → slice_index_or list (length parts) d ≡ p = λ d. get_or-append_seam parts p [] d in
    let D : ℕ → Type 0 = λ j. (i : ℕ) → i < j → (d : P) → slice_index_or list i d ≡ slice_index_or list j d → ⊥ in
    let apart : (j : ℕ) → j < length parts + 1 → D j = below_more D (length parts)
    (λ j h i less d e.
    let h2 : i < length parts = omega arith in
    is.distinct i j less h d (sym (left i d h2) ∙ (e ∙ left j d h)))
    (λ i less d e. fresh i d less (sym (left i d less) ∙ (e ∙ seam d)))
    in
    subst F (sym pushed) (record {
      index = subst E (sym long) (added (key_at hash list) (length parts) was (key_last hash parts p));
      distinct = λ i j less h d e. let h2 : j < length parts + 1 = omega (arith, long, h) in apart j h2 i less d e;
      few = omega (arith, long, room);
    })

-- an index made anew
pub table_again : {P : Type 0} (hash : P → ℕ) (parts : List P) (heads links heads' links' : List ℕ) → IsTable hash parts heads links → IsIndex (key_at hash parts) heads' links' (length parts) → IsTable hash parts heads' links'
table_again hash parts heads links heads' links' is index = record { index = index; distinct = is.distinct; few = is.few }

pub extends_self : {P : Type 0} (parts : List P) → Extends parts parts
extends_self parts = record { more = []; is = sym (append-nil parts) }

pub get_some : {P : Type 0} (table : List P) (n : ℕ) (p : P) → n < length table → slice_index_or table n p ≡ p → slice_get table n ≡ Some p
get_some [] n p there is = absurd (omega arith)
get_some (q ∷ table) zero p there is = ap Some is
get_some (q ∷ table) (suc n) p there is = let less : n < length table = omega arith in get_some table n p less is

pub named_one : {P : Type 0} (table : List P) (n : ℕ) (numbers : List ℕ) (p : P) → IsNamed table n p → named table (n ∷ numbers) ≡ p ∷ named table numbers
named_one {P} table n numbers p is =
    let get : slice_get table n ≡ Some p = get_some table n p is.there (is.is p) in
    let F : Option P → List P = λ o. option_map_or (λ q. q ∷ named table numbers) o (named table numbers) in
    ap F get

-- the parts of numbers, told one by one, are those of the numbers
pub named_by : {P : Type 0} (table parts : List P) (numbers : List ℕ) → AreNamed table parts numbers → parts ≡ named table numbers
named_by table [] [] are = refl
named_by table [] (n ∷ numbers) are = let long = are.long in absurd (omega arith)
named_by table (p ∷ parts) [] are = let long = are.long in absurd (omega arith)
named_by {P} table (p ∷ parts) (n ∷ numbers) are =
    let first : IsNamed table n p = are.each 0 (omega arith) p in
    let long : length (p ∷ parts) ≡ length (n ∷ numbers) = are.long in
    let rest : AreNamed table parts numbers = record {
      long = omega arith;
      each = λ k h d. let up : suc k < length (n ∷ numbers) = omega arith in are.each (suc k) up d;
    }
    in
    let F : List P → List P = λ ps. p ∷ ps in
    ap F (named_by table parts numbers rest) ∙ sym (named_one table n numbers p first)

-- each number has a part
pub part_below : {P : Type 0} (table : List P) (n : ℕ) → n < length table → (p : P) × IsNamed table n p
part_below [] n there = absurd (omega arith)
part_below {P} (p ∷ table) zero there = (p, record { there = there; is = λ d. refl })
part_below {P} (p ∷ table) (suc n) there =
    let less : n < length table = omega arith in
    let one : (q : P) × IsNamed table n q = part_below table n less in
    (one.0, record { there = there; is = one.1.is })

pub named_more : {P : Type 0} (table more : List P) (n : ℕ) (p : P) → IsNamed table n p → IsNamed (table ++ more) n p
named_more table more n p is = record {
  there = omega (arith, is.there, length-append table more);
  is = λ d. get_or_append_left table more d n is.there ∙ is.is d;
}

-- the parts of numbers stay where the table has more behind
pub named_left : {P : Type 0} (table more : List P) (numbers : List ℕ) → All (λ n. n < length table) numbers → named (table ++ more) numbers ≡ named table numbers
named_left table more [] below = refl
named_left {P} table more (n ∷ numbers) below =
    let B : ℕ → Type 0 = λ n. n < length table in
    let one : (p : P) × IsNamed table n p = part_below table n (All-head B n numbers below) in
    let F : List P → List P = λ ps. one.0 ∷ ps in
    named_one (table ++ more) n numbers one.0 (named_more table more n one.0 one.1) ∙ (ap F (named_left table more numbers (All-tail B n numbers below)) ∙ sym (named_one table n numbers one.0 one.1))

pub number_cases : (i j : ℕ) → (i < j) ⊎ ((j < i) ⊎ (i ≡ j))
number_cases i j = grind arith

-- a part has one number
pub number_same : {P : Type 0} (table : List P) (i j : ℕ) (p : P) → ((i j : ℕ) → i < j → j < length table → (d : P) → slice_index_or table i d ≡ slice_index_or table j d → ⊥) → IsNamed table i p → IsNamed table j p → i ≡ j
number_same table i j p distinct one other =
    elim (number_cases i j) [
      | inl less ↦ absurd (distinct i j less other.there p (one.is p ∙ sym (other.is p)))
      | inr more ↦ elim more [ inl less ↦ absurd (distinct j i less one.there p (other.is p ∙ sym (one.is p))) | inr is ↦ is ]
    ]

-- and so have parts
pub numbers_same : {P : Type 0} (table : List P) (one other : List ℕ) → ((i j : ℕ) → i < j → j < length table → (d : P) → slice_index_or table i d ≡ slice_index_or table j d → ⊥) → All (λ n. n < length table) one → All (λ n. n < length table) other → named table one ≡ named table other → length one ≡ length other → one ≡ other
numbers_same table [] [] distinct low high same long = refl
numbers_same table [] (n ∷ other) distinct low high same long = absurd (omega arith)
numbers_same table (m ∷ one) [] distinct low high same long = absurd (omega arith)
numbers_same {P} table (m ∷ one) (n ∷ other) distinct low high same long =
    let B : ℕ → Type 0 = λ n. n < length table in
    let p : (p : P) × IsNamed table m p = part_below table m (All-head B m one low) in
    let q : (p : P) × IsNamed table n p = part_below table n (All-head B n other high) in
    let both : p.0 ∷ named table one ≡ q.0 ∷ named table other = sym (named_one table m one p.0 p.1) ∙ (same ∙ named_one table n other q.0 q.1) in
    let heads : p.0 ≡ q.0 = ap (λ (ps : List P). slice_index_or ps 0 p.0) both in
    let tails : named table one ≡ named table other = ap (λ (ps : List P). drop 1 ps) both in
    let N : P → Type 0 = λ x. IsNamed table n x in
    let first : m ≡ n = number_same table m n p.0 distinct p.1 (subst N (sym heads) q.1) in
    let less : length one ≡ length other = omega arith in
    let rest : one ≡ other = numbers_same table one other distinct (All-tail B m one low) (All-tail B n other high) tails less in
    ap (λ (k : ℕ). k ∷ one) first ∙ ap (λ (ks : List ℕ). n ∷ ks) rest

same_or_not : (i j : ℕ) → (i ≡ j) ⊎ (i ≢ j)
same_or_not i j = grind arith

-- one number and its part more
pub set_named : {P : Type 0} (table parts : List P) (numbers : List ℕ) (k n : ℕ) (p : P) → AreNamed table parts numbers → k < length numbers → IsNamed table n p → AreNamed table (slice_set parts k p) (slice_set numbers k n)
set_named {P} table parts numbers k n p are there is =
    let long : length parts ≡ length numbers = are.long in
    let same : length (slice_set numbers k n) ≡ length numbers = length-set numbers k n in
    let still : length (slice_set parts k p) ≡ length parts = length-set parts k p in
    let in_parts : k < length parts = omega arith in
    record {
      long = still ∙ (long ∙ sym same);
      each = λ j h d. elim (same_or_not j k) [
        | inl here ↦
            let J : ℕ → Type 0 = λ i. IsNamed table (slice_index_or (slice_set numbers k n) i 0) (slice_index_or (slice_set parts k p) i d) in
            let N : ℕ → Type 0 = λ m. IsNamed table m (slice_index_or (slice_set parts k p) k d) in
            let Q : P → Type 0 = λ q. IsNamed table n q in
            subst J (sym here) (subst N (sym (get_or-set_same numbers k n 0 there)) (subst Q (sym (get_or-set_same parts k p d in_parts)) is))
        | inr other ↦
            let low : j < length numbers = omega (arith, h, same) in
            let N : ℕ → Type 0 = λ m. IsNamed table m (slice_index_or (slice_set parts k p) j d) in
            let Q : P → Type 0 = λ q. IsNamed table (slice_index_or numbers j 0) q in
            subst N (sym (get_or-set_other numbers k j n 0 other)) (subst Q (sym (get_or-set_other parts k j p d other)) (are.each j low d))
      ];
    }

-- the same number again
pub set_again : {P : Type 0} (table parts : List P) (numbers : List ℕ) (k n : ℕ) → AreNamed table parts numbers → k < length numbers → slice_index_or numbers k 0 ≡ n → AreNamed table parts (slice_set numbers k n)
set_again {P} table parts numbers k n are there is =
    let F : List ℕ → Type 0 = λ ns. AreNamed table parts ns in
    subst F (sym (ap (λ (m : ℕ). slice_set numbers k m) (sym is) ∙ set-get_or numbers k 0)) are

-- parts keep their numbers where the table has more behind
pub named_still : {P : Type 0} (table new : List P) (n : ℕ) (p : P) → Extends table new → IsNamed table n p → IsNamed new n p
named_still {P} table new n p more is =
    let F : List P → Type 0 = λ ps. IsNamed ps n p in
    subst F (sym more.is) (named_more table more.more n p is)

pub extends_long : {P : Type 0} (table new : List P) → Extends table new → length table ≤ length new
extends_long {P} table new more =
    let long : length new ≡ length table + length more.more = ap length more.is ∙ length-append table more.more in
    omega arith

pub extends_more : {P : Type 0} (a b c : List P) → Extends a b → Extends b c → Extends a c
extends_more {P} a b c one other = record {
  more = one.more ++ other.more;
  is = other.is ∙ (ap (λ (ps : List P). ps ++ other.more) one.is ∙ append_assoc a one.more other.more);
}

-- one number more is told
pub numbered_more : {P : Type 0} (table new parts : List P) (numbers : List ℕ) (k n : ℕ) (p : P) → Extends table new → k < length numbers → ((d : P) → slice_index_or parts k d ≡ p) → IsNamed new n p → ((j : ℕ) → j < k → (d : P) → IsNamed table (slice_index_or numbers j 0) (slice_index_or parts j d)) → (j : ℕ) → j < k + 1 → (d : P) → IsNamed new (slice_index_or (slice_set numbers k n) j 0) (slice_index_or parts j d)
numbered_more {P} table new parts numbers k n p more there at is was j below d =
    below_more (λ j. (d : P) → IsNamed new (slice_index_or (slice_set numbers k n) j 0) (slice_index_or parts j d)) k
    (λ j h d.
    let other : j ≢ k = omega arith in
    let N : ℕ → Type 0 = λ m. IsNamed new m (slice_index_or parts j d) in
    subst N (sym (get_or-set_other numbers k j n 0 other)) (named_still table new (slice_index_or numbers j 0) (slice_index_or parts j d) more (was j h d)))
    (λ d.
    let N : ℕ → Type 0 = λ m. IsNamed new m (slice_index_or parts k d) in
    let Q : P → Type 0 = λ q. IsNamed new n q in
    subst N (sym (get_or-set_same numbers k n 0 there)) (subst Q (sym (at d)) is))
    j below d

-- numbers stay below the length of a table that has more
pub known_more : {P : Type 0} (table new : List P) (numbers : List ℕ) (k n : ℕ) → Extends table new → n < length new → All (λ m. m < length table) numbers → All (λ m. m < length new) (slice_set numbers k n)
known_more {P} table new numbers k n more there was = λ j d h.
    let long : length (slice_set numbers k n) ≡ length numbers = length-set numbers k n in
    let low : j < length numbers = omega (arith, long, h) in
    let up : length table ≤ length new = extends_long table new more in
    elim (same_or_not j k) [
      | inl here ↦
          let in_it : k < length numbers = omega arith in
          let J : ℕ → Type 0 = λ i. slice_index_or (slice_set numbers k n) i d < length new in
          let B : ℕ → Type 0 = λ m. m < length new in
          subst J (sym here) (subst B (sym (get_or-set_same numbers k n d in_it)) there)
      | inr other ↦
          let B : ℕ → Type 0 = λ m. m < length new in
          let w : slice_index_or numbers j d < length table = was j d low in
          subst B (sym (get_or-set_other numbers k j n d other)) (omega arith)
    ]

pub index_some : {P : Type 0} (parts : List P) (k : ℕ) (p d : P) → slice_get parts k ≡ Some p → slice_index_or parts k d ≡ p
index_some [] k p d is = cc
index_some {P} (q ∷ parts) zero p d is = ap (λ (o : Option P). option_map_or (λ x. x) o q) is
index_some (q ∷ parts) (suc k) p d is = index_some parts k p d is

-- one part more has a number
pub named_push : {P : Type 0} (table new parts : List P) (numbers numbers' : List ℕ) (k n : ℕ) (p : P) → Extends table new → length numbers ≡ k → numbers' ≡ numbers ++ n ∷ [] → ((d : P) → slice_index_or parts k d ≡ p) → IsNamed new n p → ((j : ℕ) → j < k → (d : P) → IsNamed table (slice_index_or numbers j 0) (slice_index_or parts j d)) → (j : ℕ) → j < k + 1 → (d : P) → IsNamed new (slice_index_or numbers' j 0) (slice_index_or parts j d)
named_push {P} table new parts numbers numbers' k n p more long pushed at is was =
    let list : List ℕ = numbers ++ n ∷ [] in
    let F : List ℕ → Type 0 = λ ns. (j : ℕ) → j < k + 1 → (d : P) → IsNamed new (slice_index_or ns j 0) (slice_index_or parts j d) in
    subst F (sym pushed) (below_more (λ j. (d : P) → IsNamed new (slice_index_or list j 0) (slice_index_or parts j d)) k
    (λ j h d.
    let less : j < length numbers = omega (arith, h, long) in
    let N : ℕ → Type 0 = λ m. IsNamed new m (slice_index_or parts j d) in
    subst N (sym (get_or_append_left numbers (n ∷ []) 0 j less)) (named_still table new (slice_index_or numbers j 0) (slice_index_or parts j d) more (was j h d)))
    (λ d.
    let N : ℕ → Type 0 = λ m. IsNamed new m (slice_index_or parts k d) in
    let Q : P → Type 0 = λ q. IsNamed new n q in
    subst N (sym (get_or_push numbers n 0 k long)) (subst Q (sym (at d)) is)))

at_least : {P : Type 0} (table parts : List P) (numbers : List ℕ) (k : ℕ) → AreNamed table parts numbers → k < length numbers → slice_index_or numbers k 0 < length table
at_least table [] numbers k are h = let long = are.long in absurd (omega arith)
at_least table (p ∷ parts) numbers k are h = (are.each k h p).there

-- parts have numbers that are there
pub named_known : {P : Type 0} (table parts : List P) (numbers : List ℕ) → AreNamed table parts numbers → All (λ n. n < length table) numbers
named_known {P} table parts numbers are = λ k d h.
    let none : ℕ = 0 in
    let B : ℕ → Type 0 = λ n. n < length table in
    subst B (get_or_default numbers k none d h) (at_least table parts numbers k are h)

-- one of the parts of numbers
pub named_get : {P : Type 0} (table : List P) (numbers : List ℕ) (k : ℕ) (p : P) → All (λ n. n < length table) numbers → k < length numbers → IsNamed table (slice_index_or numbers k 0) p → slice_get (named table numbers) k ≡ Some p
named_get table [] k p known there is = absurd (omega arith)
named_get {P} table (n ∷ numbers) zero p known there is =
    let F : List P → Type 0 = λ ps. slice_get ps 0 ≡ Some p in
    subst F (sym (named_one table n numbers p is)) refl
named_get {P} table (n ∷ numbers) (suc k) p known there is =
    let B : ℕ → Type 0 = λ n. n < length table in
    let one : (q : P) × IsNamed table n q = part_below table n (All-head B n numbers known) in
    let less : k < length numbers = omega arith in
    let F : List P → Type 0 = λ ps. slice_get ps (suc k) ≡ Some p in
    subst F (sym (named_one table n numbers one.0 one.1)) (named_get table numbers k p (All-tail B n numbers known) less is)

pub named_count : {P : Type 0} (table : List P) (numbers : List ℕ) → All (λ n. n < length table) numbers → length (named table numbers) ≡ length numbers
named_count table [] known = refl
named_count {P} table (n ∷ numbers) known =
    let B : ℕ → Type 0 = λ n. n < length table in
    let one : (q : P) × IsNamed table n q = part_below table n (All-head B n numbers known) in
    ap length (named_one table n numbers one.0 one.1) ∙ ap suc (named_count table numbers (All-tail B n numbers known))
