use Rattle.std.proofs.Common.{◌≡◌, ◌&&◌, ◌||◌, not, map, ◌≤◌, cond, subst, add-one, ◌+◌, ◌<◌, ℕ, zero, suc, Bool, true, false, List, [], ◌∷◌, ◌++◌, length, min, sum, filter, drop, take, get_or, append_assoc, refl, sym, ap, ◌∙◌, arith}
use Rattle.std.proofs.Math.Seq.{drop-nil}
use Rattle.std.specs.Prelude.{IsPermutation, Option}
use Rattle.std.specs.List.{list_any, flat_map}
use Rattle.std.proofs.lemmas.Grind.{flat_map-append}
use Rattle.std.proofs.lemmas.List.{drop_all, length-map, length-append}
use Rattle.std.proofs.lemmas.List.Sums.{sum-map, sum_by-cons}
use Rattle.std.proofs.lemmas.List.Sorted.{IsPermutation-refl, IsPermutation-trans, IsPermutation-append_left, IsPermutation-append_right, IsPermutation-append_comm, IsPermutation-map, length_permutation}
use Rattle.lwkt_base.specs.declared.owners.MsgEnd.{MsgEnd}
use Rattle.lwkt_report.specs.Report.{numbered_lines}
use Rattle.lwkt_explore.specs.declared.forms.Telling.{Telling}
use Rattle.lwkt_explore.specs.declared.outcomes.Kind.{Kind}
use Rattle.lwkt_explore.specs.declared.outcomes.Kind.TheVariants.{Ended, Stuck, Cut}
use Rattle.lwkt_explore.specs.declared.outcomes.Outcome.{Outcome}
use Rattle.lwkt_explore.specs.declared.outcomes.Outcomes.{Outcomes}
use Rattle.lwkt_explore.specs.Laws.{members}
use Rattle.lwkt_explore.specs.Texts.{Form, Group, counted, is_kind, grouped_with, groups, group_at, later_forms, places_text, of_kind, by_kind}
use Rattle.lwkt_explore.proofs.FormLemmas.{filter_twice, turned, grouped_all}

-- the outcome at a place, with its count, and then the others
pub counted_at : (outcomes : List Outcome) (counts : List ℕ) (place : ℕ) (outcome : Outcome) → place < length outcomes → outcome ≡ get_or outcomes place outcome
    → counted (drop place outcomes) (drop place counts) ≡ (outcome, get_or counts place 0) ∷ counted (drop (suc place) outcomes) (drop (suc place) counts)
counted_at [] counts place outcome below is = absurd (omega arith)
counted_at (first ∷ outcomes) [] zero outcome below is = rw is refl
counted_at (first ∷ outcomes) (count ∷ counts) zero outcome below is = rw is refl
counted_at (first ∷ outcomes) [] (suc place) outcome below is =
    let rest = counted_at outcomes [] place outcome (omega arith) is in
    rw (drop-nil {A = ℕ} place) at rest
counted_at (first ∷ outcomes) (count ∷ counts) (suc place) outcome below is = counted_at outcomes counts place outcome (omega arith) is

-- those that are grouped from a place on, of a kind and grouped with none before it
abbrev pub kind_from : Kind → ℕ → List Outcome → List ℕ → List Group
kind_from kind place outcomes counts =
    filter (λ t. not (list_any (grouped_with t.0.0) (take place outcomes)) && is_kind kind t.0.0.kind) (groups (counted (drop place outcomes) (drop place counts)))

and_both : (a b k : Bool) → ((not a && k) && not b) ≡ (not (a || (b || false)) && k)
and_both true true true = refl
and_both true true false = refl
and_both true false true = refl
and_both true false false = refl
and_both false true true = refl
and_both false true false = refl
and_both false false true = refl
and_both false false false = refl

any_append_by : {X : Type 0} (p : X → Bool) (x : X) (xs ys : List X) (b : Bool) → p x ≡ b → list_any p (xs ++ ys) ≡ (list_any p xs || list_any p ys) → list_any p (x ∷ xs ++ ys) ≡ (list_any p (x ∷ xs) || list_any p ys)
any_append_by p x xs ys true is rest = rw is refl
any_append_by p x xs ys false is rest = rw is rest

any_append : {X : Type 0} (p : X → Bool) (xs ys : List X) → list_any p (xs ++ ys) ≡ (list_any p xs || list_any p ys)
any_append p [] ys = refl
any_append p (x ∷ xs) ys = any_append_by p x xs ys (p x) refl (any_append p xs ys)

take_next : (outcomes : List Outcome) (place : ℕ) (outcome : Outcome) → place < length outcomes → outcome ≡ get_or outcomes place outcome → take (suc place) outcomes ≡ take place outcomes ++ outcome ∷ []
take_next [] place outcome below is = absurd (omega arith)
take_next (first ∷ outcomes) zero outcome below is = rw is refl
take_next (first ∷ outcomes) (suc place) outcome below is = ap (λ xs. first ∷ xs) (take_next outcomes place outcome (omega arith) is)

-- what is grouped behind a place, once the outcome there is
grouped_behind : (kind : Kind) (place : ℕ) (outcomes : List Outcome) (counts : List ℕ) (outcome : Outcome) → place < length outcomes → outcome ≡ get_or outcomes place outcome
    → filter (λ t. not (list_any (grouped_with t.0.0) (take place outcomes)) && is_kind kind t.0.0.kind) (filter (λ t. not (grouped_with outcome t.0.0)) (groups (counted (drop (suc place) outcomes) (drop (suc place) counts))))
    ≡ kind_from kind (place + 1) outcomes counts
grouped_behind kind place outcomes counts outcome below is =
    rw add-one
    (filter_twice (λ (t : Group). not (list_any (grouped_with t.0.0) (take place outcomes)) && is_kind kind t.0.0.kind) (λ (t : Group). not (grouped_with outcome t.0.0)) (λ (t : Group). not (list_any (grouped_with t.0.0) (take (suc place) outcomes)) && is_kind kind t.0.0.kind)
    (λ (t : Group). rw (take_next outcomes place outcome below is, any_append (grouped_with t.0.0) (take place outcomes) (outcome ∷ []))
    (rw (turned outcome t.0.0) (and_both (list_any (grouped_with t.0.0) (take place outcomes)) (grouped_with t.0.0 outcome) (is_kind kind t.0.0.kind))))
    (groups (counted (drop (suc place) outcomes) (drop (suc place) counts))))

-- one that is grouped, and one that isn't
pub kind_here : (kind : Kind) (place : ℕ) (outcomes : Outcomes) (outcome : Outcome) → place < length outcomes.all.items → outcome ≡ get_or outcomes.all.items place outcome
    → (not (list_any (grouped_with outcome) (take place outcomes.all.items)) && is_kind kind outcome.kind) ≡ true
    → kind_from kind place outcomes.all.items outcomes.counts.items ≡ group_at outcome place outcomes ∷ kind_from kind (place + 1) outcomes.all.items outcomes.counts.items
kind_here kind place outcomes outcome below is test =
    rw (sym (grouped_behind kind place outcomes.all.items outcomes.counts.items outcome below is), counted_at outcomes.all.items outcomes.counts.items place outcome below is, test, add-one) refl

pub kind_passed : (kind : Kind) (place : ℕ) (outcomes : Outcomes) (outcome : Outcome) → place < length outcomes.all.items → outcome ≡ get_or outcomes.all.items place outcome
    → (not (list_any (grouped_with outcome) (take place outcomes.all.items)) && is_kind kind outcome.kind) ≡ false
    → kind_from kind place outcomes.all.items outcomes.counts.items ≡ kind_from kind (place + 1) outcomes.all.items outcomes.counts.items
kind_passed kind place outcomes outcome below is test =
    rw (sym (grouped_behind kind place outcomes.all.items outcomes.counts.items outcome below is), counted_at outcomes.all.items outcomes.counts.items place outcome below is, test) refl

-- those behind a place that are grouped with an outcome: one there, one that isn't, and none behind the last
pub later_here : (one : Outcome) (at : ℕ) (outcomes : Outcomes) (other : Outcome) → at < length outcomes.all.items → other ≡ get_or outcomes.all.items at other → grouped_with one other ≡ true
    → later_forms one at outcomes ≡ (other, get_or outcomes.counts.items at 0) ∷ later_forms one (at + 1) outcomes
later_here one at outcomes other below is test = rw (add-one, counted_at outcomes.all.items outcomes.counts.items at other below is, test) refl

pub later_passed : (one : Outcome) (at : ℕ) (outcomes : Outcomes) (other : Outcome) → at < length outcomes.all.items → other ≡ get_or outcomes.all.items at other → grouped_with one other ≡ false
    → later_forms one at outcomes ≡ later_forms one (at + 1) outcomes
later_passed one at outcomes other below is test = rw (add-one, counted_at outcomes.all.items outcomes.counts.items at other below is, test) refl

pub later_end : (one : Outcome) (at : ℕ) (outcomes : Outcomes) → length outcomes.all.items ≤ at → later_forms one at outcomes ≡ []
later_end one at outcomes over = rw (drop_all at outcomes.all.items over) refl

-- one more form is written
pub flat_on : (f : Form → List ℕ) (old new whole : List ℕ) (one : Form) (all rest : List Form) → all ≡ one ∷ rest → new ≡ old ++ f one → old ++ flat_map f all ≡ whole → new ++ flat_map f rest ≡ whole
flat_on f old new whole one all rest more is so = rw is (append_assoc old (f one) (flat_map f rest) ∙ (rw more at so))

-- one more is counted
pub count_on : (total next count : ℕ) (one : Form) (all rest : List Form) → all ≡ one ∷ rest → count ≡ one.1 → next ≡ min (total + count) 18446744073709551615
    → min 18446744073709551615 (next + sum (map (λ (form : Form). form.1) rest)) ≡ min 18446744073709551615 (total + sum (map (λ (form : Form). form.1) all))
count_on total next count one all rest more is after =
    let s = sum (map (λ (form : Form). form.1) rest) in
    let e : sum (map (λ (form : Form). form.1) (one ∷ rest)) ≡ one.1 + s = sum-map (λ (form : Form). form.1) (one ∷ rest) ∙ sum_by-cons (λ (form : Form). form.1) one rest ∙ ap (λ (n : ℕ). one.1 + n) (sym (sum-map (λ (form : Form). form.1) rest)) in
    let so : sum (map (λ (form : Form). form.1) all) ≡ one.1 + s = ap (λ (forms : List Form). sum (map (λ (form : Form). form.1) forms)) more ∙ e in
    rw so (omega arith)

-- no message is left behind the last place
pub places_end : (telling : Option Telling) (is_first : Bool) (n : ℕ) (owns ends : List MsgEnd) → ends ≡ [] → places_text telling is_first n owns ends ≡ []
places_end telling is_first n [] ends none = refl
places_end telling is_first n (own ∷ owns) ends none = rw none refl

-- one more is written, under the next number
pub written_on : (line : ℕ → Group → List ℕ) (old new whole : List ℕ) (n next : ℕ) (one : Group) (all rest : List Group)
    → next ≡ n + 1 → all ≡ one ∷ rest → new ≡ old ++ line next one → old ++ numbered_lines line (n + 1) all ≡ whole → new ++ numbered_lines line (next + 1) rest ≡ whole
written_on line old new whole n next one all rest after is more so =
    rw (more, after) (append_assoc old (line (n + 1) one) (numbered_lines line (n + 1 + 1) rest) ∙ (rw is at so))

-- none is left behind the last place
pub kind_end : (kind : Kind) (place : ℕ) (outcomes : List Outcome) (counts : List ℕ) → length outcomes ≤ place → kind_from kind place outcomes counts ≡ []
kind_end kind place outcomes counts over = rw (drop_all place outcomes over) refl

-- lines numbered on
numbered_append : (line : ℕ → Group → List ℕ) (n : ℕ) (xs ys : List Group) → numbered_lines line n (xs ++ ys) ≡ numbered_lines line n xs ++ numbered_lines line (n + length xs) ys
numbered_append line n [] ys =
    let F : ℕ → Type 0 = λ m. numbered_lines line n ys ≡ numbered_lines line m ys in
    let same : n ≡ n + 0 = omega arith in
    subst F same refl
numbered_append line n (x ∷ xs) ys =
    let F : ℕ → Type 0 = λ m. numbered_lines line n (x ∷ xs ++ ys) ≡ line n x ++ numbered_lines line (n + 1) xs ++ numbered_lines line m ys in
    let next : n + 1 + length xs ≡ n + length (x ∷ xs) = omega arith in
    subst F next (ap (λ rest. line n x ++ rest) (numbered_append line (n + 1) xs ys) ∙ sym (append_assoc (line n x) (numbered_lines line (n + 1) xs) (numbered_lines line (n + 1 + length xs) ys)))

-- one that is grouped behind others
moved : (one : Group) (all : List Form) (before behind : List Group) → IsPermutation all (flat_map members (before ++ behind)) → IsPermutation (members one ++ all) (flat_map members (before ++ one ∷ behind))
moved one all before behind so =
    let b = flat_map members before in
    let c = flat_map members behind in
    let m = members one in
    let F : List Form → Type 0 = λ forms. IsPermutation (m ++ all) forms in
    let so' : IsPermutation (m ++ all) (m ++ (b ++ c)) = IsPermutation-append_right m all (b ++ c) (rw (flat_map-append members before behind) at so) in
    let turned : IsPermutation ((m ++ b) ++ c) ((b ++ m) ++ c) = IsPermutation-append_left c (m ++ b) (b ++ m) (IsPermutation-append_comm m b) in
    let G : List Form → Type 0 = λ forms. IsPermutation forms ((b ++ m) ++ c) in
    let H : List Form → Type 0 = λ forms. IsPermutation (m ++ (b ++ c)) forms in
    let last : IsPermutation (m ++ (b ++ c)) (b ++ (m ++ c)) = subst H (append_assoc b m c) (subst G (append_assoc m b c) turned) in
    rw (flat_map-append members before (one ∷ behind)) (IsPermutation-trans (m ++ all) (m ++ (b ++ c)) (b ++ (m ++ c)) so' last)

-- each of those that are grouped is of one kind
kinds_more : (kind : Kind) (one : Group) (all : List Form) (e s c : List Group) → IsPermutation all (flat_map members (e ++ s ++ c))
    → IsPermutation (members one ++ all) (flat_map members (cond (is_kind Ended kind) (one ∷ e) e ++ cond (is_kind Stuck kind) (one ∷ s) s ++ cond (is_kind Cut kind) (one ∷ c) c))
kinds_more Ended one all e s c so = IsPermutation-append_right (members one) all (flat_map members (e ++ s ++ c)) so
kinds_more Stuck one all e s c so =
    let F : List Group → Type 0 = λ ts. IsPermutation all (flat_map members ts) in
    let G : List Group → Type 0 = λ ts. IsPermutation (members one ++ all) (flat_map members ts) in
    subst G (sym (append_assoc e (one ∷ s) c)) (moved one all e (s ++ c) (subst F (append_assoc e s c) so))
kinds_more Cut one all e s c so = moved one all (e ++ s) c so

kinds_of : (ts : List Group) → IsPermutation (flat_map members ts) (flat_map members (filter (λ t. is_kind Ended t.0.0.kind) ts ++ filter (λ t. is_kind Stuck t.0.0.kind) ts ++ filter (λ t. is_kind Cut t.0.0.kind) ts))
kinds_of [] = IsPermutation-refl []
kinds_of (one ∷ ts) =
    kinds_more one.0.0.kind one (flat_map members ts) (filter (λ t. is_kind Ended t.0.0.kind) ts) (filter (λ t. is_kind Stuck t.0.0.kind) ts) (filter (λ t. is_kind Cut t.0.0.kind) ts) (kinds_of ts)

-- each outcome keeps its place beside its count
counted_outcomes : (outcomes : List Outcome) (counts : List ℕ) → map (λ (one : Form). one.0) (counted outcomes counts) ≡ outcomes
counted_outcomes [] counts = refl
counted_outcomes (outcome ∷ outcomes) [] = ap (λ rest. outcome ∷ rest) (counted_outcomes outcomes [])
counted_outcomes (outcome ∷ outcomes) (count ∷ counts) = ap (λ rest. outcome ∷ rest) (counted_outcomes outcomes counts)

-- those that are written are those that were found, each once
pub written_once : (outcomes : Outcomes) → IsPermutation outcomes.all.items (map (λ (one : Form). one.0) (flat_map members (by_kind outcomes)))
written_once outcomes =
    let all = counted outcomes.all.items outcomes.counts.items in
    let F : List Outcome → Type 0 = λ list. IsPermutation list (map (λ (one : Form). one.0) (flat_map members (by_kind outcomes))) in
    let there : IsPermutation all (flat_map members (by_kind outcomes)) = IsPermutation-trans all (flat_map members (groups all)) (flat_map members (by_kind outcomes)) (grouped_all all) (kinds_of (groups all)) in
    subst F (counted_outcomes outcomes.all.items outcomes.counts.items) (IsPermutation-map (λ (one : Form). one.0) all (flat_map members (by_kind outcomes)) there)

members_many : (ts : List Group) → length ts ≤ length (flat_map members ts)
members_many [] = omega arith
members_many (t ∷ ts) =
    let rest = members_many ts in
    let long = length-append (members t) (flat_map members ts) in
    omega arith

-- so there are no more of them
pub kinds : (outcomes : Outcomes) → length (of_kind Ended outcomes) + length (of_kind Stuck outcomes) + length (of_kind Cut outcomes) ≤ length outcomes.all.items
kinds outcomes =
    let all = length_permutation outcomes.all.items (map (λ (one : Form). one.0) (flat_map members (by_kind outcomes))) (written_once outcomes) in
    let same : length (map (λ (one : Form). one.0) (flat_map members (by_kind outcomes))) ≡ length (flat_map members (by_kind outcomes)) = simp length-map in
    let many = members_many (by_kind outcomes) in
    let first = length-append (of_kind Ended outcomes ++ of_kind Stuck outcomes) (of_kind Cut outcomes) in
    let rest = length-append (of_kind Ended outcomes) (of_kind Stuck outcomes) in
    omega arith

-- what is written of all kinds
pub numbered_kinds : (line : ℕ → Group → List ℕ) (e s c : List Group)
    → numbered_lines line 1 e ++ numbered_lines line (length e + 1) s ++ numbered_lines line (length e + length s + 1) c ≡ numbered_lines line 1 (e ++ s ++ c)
numbered_kinds line e s c =
    let after : 1 + length e ≡ length e + 1 = omega arith in
    let last : 1 + length (e ++ s) ≡ length e + length s + 1 = omega (arith, length-append e s) in
    sym (numbered_append line 1 (e ++ s) c ∙ rw (last, numbered_append line 1 e s, after) refl)

-- a text that was written in five parts, the first three of which are the outcomes
pub written_all : (start first second third fourth out a b c all lost sum : List ℕ)
    → start ≡ [] → first ≡ start ++ a → second ≡ first ++ b → third ≡ second ++ c → fourth ≡ third ++ lost → out ≡ fourth ++ sum → a ++ b ++ c ≡ all → out ≡ all ++ lost ++ sum
written_all start first second third fourth out a b c all lost sum empty one two three four five so = rw (five, four, three, two, one, empty, so) refl
