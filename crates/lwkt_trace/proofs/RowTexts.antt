-- The numbers of a list, and the row that they are.
use Rattle.std.proofs.Common.{◌≡◌, ℕ, ◌+◌, ◌<◌, ◌≤◌, List, [], ◌∷◌, ◌++◌, length, drop, take, slice_set, get_or, Option, Some, refl, sym, ◌∙◌, ap, arith, le-leb}
use Rattle.std.proofs.lemmas.List.{take_more_set, drop_more, drop_all}
use Rattle.serde_json.specs.View.{view, items_view}
use Rattle.serde_json.specs.declared.value.Value.{Value}
use Rattle.lwkt_script.proofs.Counts.{items_counted}
use Rattle.lwkt_script.specs.Field.{whole}
use Rattle.lwkt_script.specs.Step.{◌>>=◌}
use Rattle.lwkt_trace.specs.Words.{numbers_behind, row_of}

-- a list of at most four items is read as a row
pub row_short : (items : List Value) → length items ≤ 4 → row_of (items_view items) ≡ numbers_behind [] (items_view items)
row_short items short = rw (items_counted items, le-leb (length items) 4 short) refl

-- the next item of a list
numbers_next : (before : List ℕ) (value : Value) (items : List Value) (number : Option ℕ) → whole (view value) ≡ number → numbers_behind before (items_view (value ∷ items)) ≡ (number >>= λ n. numbers_behind (before ++ n ∷ []) (items_view items))
numbers_next before value items number is = rw is refl

at_next : (before : List ℕ) (items : List Value) (place : ℕ) (value : Value) → place < length items → numbers_behind before (items_view (drop place items)) ≡ numbers_behind before (items_view (get_or items place value ∷ drop (place + 1) items))
at_next before items place value inside = ap (λ (vs : List Value). numbers_behind before (items_view vs)) (drop_more items place value inside)

-- a number more
pub number_read : (cells : List ℕ) (items : List Value) (place n : ℕ) (value : Value) → place < length items → place < length cells → whole (view (get_or items place value)) ≡ Some n
    → numbers_behind (take (place + 1) (slice_set cells place n)) (items_view (drop (place + 1) items)) ≡ numbers_behind (take place cells) (items_view (drop place items))
number_read cells items place n value inside room is =
    ap (λ (before : List ℕ). numbers_behind before (items_view (drop (place + 1) items))) (take_more_set cells place n room)
    ∙ sym (at_next (take place cells) items place value inside ∙ numbers_next (take place cells) (get_or items place value) (drop (place + 1) items) (Some n) is)

-- all numbers
pub row_read : (items : List Value) (cells : List ℕ) (place : ℕ) (row : List ℕ) → length items ≤ 4 → length items ≤ place → place ≤ length items
    → numbers_behind (take place cells) (items_view (drop place items)) ≡ numbers_behind [] (items_view items) → row ≡ take (length items) cells → Some row ≡ row_of (items_view items)
row_read items cells place row short past within read is =
    let all : place ≡ length items = omega arith in
    let rest : drop place items ≡ [] = drop_all place items past in
    let ends : numbers_behind (take place cells) (items_view (drop place items)) ≡ Some (take place cells) = ap (λ (vs : List Value). numbers_behind (take place cells) (items_view vs)) rest in
    ap (λ (r : List ℕ). Some r) (is ∙ ap (λ (n : ℕ). take n cells) (sym all)) ∙ sym ends ∙ read ∙ sym (row_short items short)
