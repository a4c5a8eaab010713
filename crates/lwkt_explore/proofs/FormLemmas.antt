use Rattle.std.proofs.Common.{◌≡◌, ◌&&◌, not, subst, Bool, true, false, List, [], ◌∷◌, ◌++◌, filter, append_assoc, append-nil, refl, sym, ap, ◌∙◌}
use Rattle.std.specs.Prelude.{IsPermutation, bytes_eq, string_bytes}
use Rattle.std.specs.List.{flat_map}
use Rattle.std.proofs.lemmas.Slice.Eq.{bytes_eq-Decides}
use Rattle.std.proofs.lemmas.List.Sorted.{IsPermutation-refl, IsPermutation-cons, IsPermutation-trans, IsPermutation-append_left, IsPermutation-append_right, IsPermutation-append_comm}
use Rattle.lwkt_explore.specs.declared.outcomes.Kind.{Kind}
use Rattle.lwkt_explore.specs.declared.outcomes.Kind.TheVariants.{Ended, Stuck, Cut}
use Rattle.lwkt_explore.specs.declared.outcomes.Outcome.{Outcome}
use Rattle.lwkt_explore.specs.Laws.{members}
use Rattle.lwkt_explore.specs.Texts.{Form, Group, is_kind, grouped_with, groups}

-- a filter of a filter
filter_twice_by : {X : Type 0} (p q r : X → Bool) (x : X) (xs : List X) (b a : Bool) → (p x && q x) ≡ r x → q x ≡ b → p x ≡ a → filter p (filter q xs) ≡ filter r xs → filter p (filter q (x ∷ xs)) ≡ filter r (x ∷ xs)
filter_twice_by p q r x xs true true same is so rest =
    let there : r x ≡ true = sym same ∙ rw (is, so) refl in
    rw (is, so, there) (ap (λ ys. x ∷ ys) rest)
filter_twice_by p q r x xs true false same is so rest =
    let there : r x ≡ false = sym same ∙ rw (is, so) refl in
    rw (is, so, there) rest
filter_twice_by p q r x xs false true same is so rest =
    let there : r x ≡ false = sym same ∙ rw (is, so) refl in
    rw (is, there) rest
filter_twice_by p q r x xs false false same is so rest =
    let there : r x ≡ false = sym same ∙ rw (is, so) refl in
    rw (is, there) rest

pub filter_twice : {X : Type 0} (p q r : X → Bool) → ((x : X) → (p x && q x) ≡ r x) → (xs : List X) → filter p (filter q xs) ≡ filter r xs
filter_twice p q r same [] = refl
filter_twice p q r same (x ∷ xs) = filter_twice_by p q r x xs (q x) (p x) (same x) refl refl (filter_twice p q r same xs)

-- filters by tests that are the same
pub filter_same : {X : Type 0} (p q : X → Bool) → ((x : X) → p x ≡ q x) → (xs : List X) → filter p xs ≡ filter q xs
filter_same p q same [] = refl
filter_same p q same (x ∷ xs) = rw (same x, filter_same p q same xs) refl

-- a filter that nothing passes
filter_none : {X : Type 0} (p : X → Bool) → ((x : X) → p x ≡ false) → (xs : List X) → filter p xs ≡ []
filter_none p never [] = refl
filter_none p never (x ∷ xs) = rw (never x) (filter_none p never xs)

kind_is : (a b : Kind) → is_kind a b ≡ true → a ≡ b
kind_is Ended Ended is = refl
kind_is Stuck Stuck is = refl
kind_is Cut Cut is = refl
kind_is Ended Stuck is = absurd cc
kind_is Ended Cut is = absurd cc
kind_is Stuck Ended is = absurd cc
kind_is Stuck Cut is = absurd cc
kind_is Cut Ended is = absurd cc
kind_is Cut Stuck is = absurd cc

kind_itself : (a : Kind) → is_kind a a ≡ true
kind_itself Ended = refl
kind_itself Stuck = refl
kind_itself Cut = refl

both_so : (a b : Bool) → (a && b) ≡ true → (a ≡ true) × (b ≡ true)
both_so true true is = (refl, refl)
both_so true false is = absurd cc
both_so false true is = absurd cc
both_so false false is = absurd cc

-- an outcome is grouped with itself, and two that are grouped are grouped with the same ones
pub itself : (x : Outcome) → grouped_with x x ≡ true
itself x = rw (kind_itself x.kind, (bytes_eq-Decides (string_bytes x.settled) (string_bytes x.settled)).1 refl) refl

pub alike : (x o m : Outcome) → grouped_with x o ≡ true → grouped_with x m ≡ grouped_with o m
alike x o m is =
    let both = both_so (is_kind x.kind o.kind) (bytes_eq (string_bytes x.settled) (string_bytes o.settled)) is in
    let kind : x.kind ≡ o.kind = kind_is x.kind o.kind both.0 in
    let text : string_bytes x.settled ≡ string_bytes o.settled = (bytes_eq-Decides (string_bytes x.settled) (string_bytes o.settled)).0 both.1 in
    rw (kind, text) refl

-- in either order
turned_by : (x o : Outcome) (a b : Bool) → grouped_with x o ≡ a → grouped_with o x ≡ b → a ≡ b
turned_by x o true true is so = refl
turned_by x o false false is so = refl
turned_by x o true false is so =
    let e : true ≡ false = sym (itself x) ∙ alike x o x is ∙ so in
    absurd cc
turned_by x o false true is so =
    let e : true ≡ false = sym (itself o) ∙ alike o x o so ∙ is in
    absurd cc

pub turned : (x o : Outcome) → grouped_with x o ≡ grouped_with o x
turned x o = turned_by x o (grouped_with x o) (grouped_with o x) refl refl

-- one that is grouped with neither isn't grouped with both
apart_by : (x o m : Outcome) (a b : Bool) → grouped_with x o ≡ false → grouped_with x m ≡ a → grouped_with o m ≡ b → (a && not b) ≡ a
apart_by x o m false true other is so = refl
apart_by x o m false false other is so = refl
apart_by x o m true false other is so = refl
apart_by x o m true true other is so =
    let e : true ≡ false = sym (itself o) ∙ alike o m o so ∙ sym (alike x m o is) ∙ other in
    absurd cc

apart : (x o m : Outcome) → grouped_with x o ≡ false → (grouped_with x m && not (grouped_with o m)) ≡ grouped_with x m
apart x o m other = apart_by x o m (grouped_with x m) (grouped_with o m) other refl refl

never_both : (a b : Bool) → a ≡ b → (a && not b) ≡ false
never_both true true is = refl
never_both false false is = refl
never_both true false is = absurd cc
never_both false true is = absurd cc

-- those that are grouped with one are grouped as one
class_by : (x : Outcome) (one : Form) (others : List Form) (b : Bool) → grouped_with x one.0 ≡ b → filter (λ form. grouped_with x form.0) others ≡ flat_map members (filter (λ t. grouped_with x t.0.0) (groups others))
    → filter (λ form. grouped_with x form.0) (one ∷ others) ≡ flat_map members (filter (λ t. grouped_with x t.0.0) (groups (one ∷ others)))
class_by x one others true is rest =
    let p : Group → Bool = λ t. grouped_with x t.0.0 in
    let q : Group → Bool = λ t. not (grouped_with one.0 t.0.0) in
    let neither : Group → Bool = λ t. false in
    let none : filter p (filter q (groups others)) ≡ [] = filter_twice p q neither (λ t. never_both (grouped_with x t.0.0) (grouped_with one.0 t.0.0) (alike x one.0 t.0.0 is)) (groups others) ∙ filter_none neither (λ t. refl) (groups others) in
    rw (is, none) (ap (λ rest'. one ∷ rest') (filter_same (λ (form : Form). grouped_with x form.0) (λ (form : Form). grouped_with one.0 form.0) (λ form. alike x one.0 form.0 is) others ∙ sym (append-nil (filter (λ (form : Form). grouped_with one.0 form.0) others))))
class_by x one others false is rest =
    let p : Group → Bool = λ t. grouped_with x t.0.0 in
    let q : Group → Bool = λ t. not (grouped_with one.0 t.0.0) in
    rw (is, filter_twice p q p (λ t. apart x one.0 t.0.0 is) (groups others)) rest

class_of : (x : Outcome) (others : List Form) → filter (λ form. grouped_with x form.0) others ≡ flat_map members (filter (λ t. grouped_with x t.0.0) (groups others))
class_of x [] = refl
class_of x (one ∷ others) = class_by x one others (grouped_with x one.0) refl (class_of x others)

-- the groups of some that pass a test, and of those that don't
split_by : (p : Group → Bool) (t : Group) (ts : List Group) (b : Bool) → p t ≡ b → IsPermutation (flat_map members ts) (flat_map members (filter p ts) ++ flat_map members (filter (λ u. not (p u)) ts))
    → IsPermutation (flat_map members (t ∷ ts)) (flat_map members (filter p (t ∷ ts)) ++ flat_map members (filter (λ u. not (p u)) (t ∷ ts)))
split_by p t ts true is rest =
    let yes = flat_map members (filter p ts) in
    let others = flat_map members (filter (λ u. not (p u)) ts) in
    let F : List Form → Type 0 = λ forms. IsPermutation (members t ++ flat_map members ts) forms in
    rw is (subst F (sym (append_assoc (members t) yes others)) (IsPermutation-append_right (members t) (flat_map members ts) (yes ++ others) rest))
split_by p t ts false is rest =
    let yes = flat_map members (filter p ts) in
    let others = flat_map members (filter (λ u. not (p u)) ts) in
    let first : IsPermutation (members t ++ flat_map members ts) (members t ++ (yes ++ others)) = IsPermutation-append_right (members t) (flat_map members ts) (yes ++ others) rest in
    let turned : IsPermutation (members t ++ yes) (yes ++ members t) = IsPermutation-append_comm (members t) yes in
    let moved : IsPermutation ((members t ++ yes) ++ others) ((yes ++ members t) ++ others) = IsPermutation-append_left others (members t ++ yes) (yes ++ members t) turned in
    let F : List Form → Type 0 = λ forms. IsPermutation (members t ++ (yes ++ others)) forms in
    let G : List Form → Type 0 = λ forms. IsPermutation forms ((yes ++ members t) ++ others) in
    let last : IsPermutation (members t ++ (yes ++ others)) (yes ++ (members t ++ others)) = subst F (append_assoc yes (members t) others) (subst G (append_assoc (members t) yes others) moved) in
    rw is (IsPermutation-trans (members t ++ flat_map members ts) (members t ++ (yes ++ others)) (yes ++ (members t ++ others)) first last)

split : (p : Group → Bool) (ts : List Group) → IsPermutation (flat_map members ts) (flat_map members (filter p ts) ++ flat_map members (filter (λ u. not (p u)) ts))
split p [] = IsPermutation-refl []
split p (t ∷ ts) = split_by p t ts (p t) refl (split p ts)

-- those that are grouped are all, each once
pub grouped_all : (forms : List Form) → IsPermutation forms (flat_map members (groups forms))
grouped_all [] = IsPermutation-refl []
grouped_all (one ∷ others) =
    let p : Group → Bool = λ t. grouped_with one.0 t.0.0 in
    let rest = flat_map members (filter (λ t. not (p t)) (groups others)) in
    let F : List Form → Type 0 = λ forms. IsPermutation others (forms ++ rest) in
    let there : IsPermutation others (filter (λ (form : Form). grouped_with one.0 form.0) others ++ rest) =
    subst F (sym (class_of one.0 others)) (IsPermutation-trans others (flat_map members (groups others)) (flat_map members (filter p (groups others)) ++ rest) (grouped_all others) (split p (groups others)))
    in
    IsPermutation-cons one others (filter (λ (form : Form). grouped_with one.0 form.0) others ++ rest) there
