use Rattle.std.proofs.Common.{◌≡◌, ℕ, ◌+◌, ◌<◌, List, ◌∷◌, length, drop, get_or, sym, ap, ◌∙◌, rules, Option, Some}
use Rattle.std.specs.Prelude.{slice_get}
use Rattle.std.proofs.lemmas.List.{drop_more}
use Rattle.std.proofs.lemmas.Option.{slice_get-get_or}
use Rattle.lwkt_script.specs.declared.scripts.ThreadSpec.{ThreadSpec}
use Rattle.lwkt_base.specs.declared.threads.ThreadLine.{ThreadLine}
use Rattle.lwkt_verdict.specs.Threads.{slot_of, plan_of_thread, line_of}

-- the first of some lines, where it is the one that is looked for
line_head : (slot : ℕ) (l : ThreadLine) (ls : List ThreadLine) → slot_of l.id ≡ slot → line_of slot (l ∷ ls) ≡ Some l
line_head slot l ls is = search rules

-- the first of some threads, where it is the one that is looked for
thread_head : (cpu n : ℕ) (t : ThreadSpec) (ts : List ThreadSpec) → t.cpu.0 ≡ cpu → n ≡ 0 → plan_of_thread cpu n (t ∷ ts) ≡ Some t
thread_head cpu n t ts is first = search rules

-- an element at an index, and the rest of the list from there
at_index : {A : Type 0} (xs : List A) (i : ℕ) (x : A) (F : List A → Option A) → i < length xs → x ≡ get_or xs i x → F (x ∷ drop (i + 1) xs) ≡ Some x → slice_get xs i ≡ F (drop i xs)
at_index xs i x F inside is head =
    let get : slice_get xs i ≡ Some x = slice_get-get_or xs i x inside ∙ ap (λ y. Some y) (sym is) in
    let rest : drop i xs ≡ x ∷ drop (i + 1) xs = drop_more xs i x inside ∙ ap (λ y. y ∷ drop (i + 1) xs) (sym is) in
    get ∙ sym head ∙ ap F (sym rest)

pub line_found : (slot : ℕ) (lines : List ThreadLine) (i : ℕ) (l : ThreadLine) → i < length lines → l ≡ get_or lines i l → slot_of l.id ≡ slot → line_of slot lines ≡ line_of slot (drop i lines) → slice_get lines i ≡ line_of slot lines
line_found slot lines i l inside is here so_far =
    at_index lines i l (λ ls. line_of slot ls) inside is (line_head slot l (drop (i + 1) lines) here) ∙ sym so_far

pub thread_found : (cpu n left : ℕ) (plans : List ThreadSpec) (i : ℕ) (t : ThreadSpec) → i < length plans → t ≡ get_or plans i t → t.cpu.0 ≡ cpu → left ≡ 0 → plan_of_thread cpu n plans ≡ plan_of_thread cpu left (drop i plans) → slice_get plans i ≡ plan_of_thread cpu n plans
thread_found cpu n left plans i t inside is here first so_far =
    at_index plans i t (λ ts. plan_of_thread cpu left ts) inside is (thread_head cpu left t (drop (i + 1) plans) here first) ∙ sym so_far
