use Rattle.std.proofs.Common.{zero, suc, ◌≡◌, ℕ, ◌+◌, ◌-◌, ◌<◌, List, [], ◌∷◌, ◌++◌, length, refl, sym, ap, ◌∙◌, arith, rules, Option, Some, None, append-nil, append_assoc}
use Rattle.std.specs.Prelude.{Bool, min, option_to_list, slice_get, slice_set}
use Rattle.std.specs.Option.{option_map_or}
use Rattle.std.proofs.lemmas.List.{length_push}
use Rattle.lwkt_base.specs.declared.entries.Entry.{Entry}
use Rattle.lwkt_base.specs.declared.asks.Ask.{Ask}
use Rattle.lwkt_code.specs.declared.locals.Local.{Local}
use Rattle.lwkt_code.specs.declared.steps.Step.{Step}
use Rattle.lwkt_code.specs.Next.{next, local_after, asks_by}
use Rattle.lwkt_code.specs.Programs.{Program, start}
use Rattle.lwkt_script.specs.declared.scripts.ThreadSpec.{ThreadSpec}
use Rattle.lwkt_verdict.specs.declared.turns.Poll.{Poll}
use Rattle.lwkt_verdict.specs.declared.progress.Asked.{Asked}
use Rattle.lwkt_verdict.specs.declared.progress.Progress.{Progress}
use Rattle.lwkt_verdict.specs.declared.progress.Piece.{Piece}
use Rattle.lwkt_verdict.specs.Threads.{slot_of, asked_in, asked_by, last_of, told, told_by, program_of, stands_after, logged_by, entries_from, entries_of, progress_of, progress_after}
use Rattle.lwkt_verdict.specs.Run.{came_by, asked_of_poll}

-- what a turn more asked of a thread
pub asked_push : (slot : ℕ) (before : List Piece) (p : Piece) → asked_by slot (before ++ p ∷ []) ≡ asked_by slot before ++ asked_in slot p
asked_push slot [] p = append-nil (asked_in slot p)
asked_push slot (x ∷ xs) p = ap (λ (ys : List Asked). asked_in slot x ++ ys) (asked_push slot xs p) ∙ sym (append_assoc (asked_in slot x) (asked_by slot xs) (asked_in slot p))

-- the last of a list with one element more
pub last_push : (xs : List Asked) (a : Asked) → slice_get (xs ++ a ∷ []) (length xs) ≡ Some a
last_push [] a = refl
last_push (x ∷ xs) a = last_push xs a

-- the least of 32 and a number that grows by one
min_more : (n : ℕ) → min 32 (n + 1) ≡ min 32 (min 32 n + 1)
min_more n = omega arith

-- how many entries there are with one more, or none
one_more : (es : List Entry) (o : Option Entry) → min 32 (length (es ++ option_to_list o)) ≡ option_map_or (λ (e : Entry). min 32 (min 32 (length es) + 1)) o (min 32 (length es))
one_more es None = ap (λ (xs : List Entry). min 32 (length xs)) (append-nil es)
one_more es (Some e) = ap (λ n. min 32 n) (length_push es e) ∙ min_more (length es)

-- the last of some asks, or the one before them
abbrev pub last_or : Option Asked → List Asked → Option Asked
last_or last [] = last
last_or last (x ∷ xs) = last_or (Some x) xs

last_or_some : (x : Asked) (xs : List Asked) → last_or (Some x) xs ≡ slice_get (x ∷ xs) (length xs)
last_or_some x [] = refl
last_or_some x (y ∷ ys) = last_or_some y ys

pub last_or_is : (xs : List Asked) → last_or None xs ≡ last_of xs
last_or_is [] = refl
last_or_is (x ∷ xs) =
    let place : length xs ≡ length (x ∷ xs) - 1 = omega arith in
    last_or_some x xs ∙ ap (λ k. slice_get (x ∷ xs) k) place

-- where a thread stands after one ask more, what it asked, and what it put in the log
pub stand_push : (steps : List Step) (s : Local) (last : Option Asked) (xs : List Asked) (a : Asked) → local_after steps s (told_by last (xs ++ a ∷ [])) ≡ (next steps (local_after steps s (told_by last xs)) (told (last_or last xs))).1
stand_push steps s last [] a = refl
stand_push steps s last (x ∷ xs) a = stand_push steps (next steps s (told last)).1 (Some x) xs a

pub asks_push : (steps : List Step) (s : Local) (last : Option Asked) (xs : List Asked) (a : Asked) → asks_by steps s (told_by last (xs ++ a ∷ [])) ≡ asks_by steps s (told_by last xs) ++ (next steps (local_after steps s (told_by last xs)) (told (last_or last xs))).0 ∷ []
asks_push steps s last [] a = refl
asks_push steps s last (x ∷ xs) a = ap (λ (asks : List Ask). (next steps s (told last)).0 ∷ asks) (asks_push steps (next steps s (told last)).1 (Some x) xs a)

pub entries_push : (steps : List Step) (s : Local) (last : Option Asked) (xs : List Asked) (a : Asked) → entries_from steps s last (xs ++ a ∷ []) ≡ entries_from steps s last xs ++ option_to_list (logged_by steps (next steps (local_after steps s (told_by last xs)) (told (last_or last xs))).1 a)
entries_push steps s last [] a = append-nil (option_to_list (logged_by steps (next steps s (told last)).1 a))
entries_push steps s last (x ∷ xs) a =
    let t : Local = (next steps s (told last)).1 in
    let first : List Entry = option_to_list (logged_by steps t x) in
    ap (λ (es : List Entry). first ++ es) (entries_push steps t (Some x) xs a)
    ∙ sym (append_assoc first (entries_from steps t (Some x) xs) (option_to_list (logged_by steps (next steps (local_after steps t (told_by (Some x) xs)) (told (last_or (Some x) xs))).1 a)))

-- the entries of a thread with one ask more
pub entries_more : (p : Program) (xs : List Asked) (a : Asked) → entries_of p (xs ++ a ∷ []) ≡ entries_of p xs ++ option_to_list (logged_by p.steps (next p.steps (stands_after p xs) (told (last_of xs))).1 a)
entries_more p xs a =
    entries_push p.steps (start p) None xs a
    ∙ ap (λ (o : Option Asked). entries_of p xs ++ option_to_list (logged_by p.steps (next p.steps (stands_after p xs) (told o)).1 a)) (last_or_is xs)

abbrev made_so : Local → Option Asked → ℕ → Progress
made_so local last logged = record { local = local; last = last; logged = logged }

-- how far a thread has come with one ask more
progress_push : (p : Program) (xs : List Asked) (a : Asked) → progress_of p (xs ++ a ∷ []) ≡ progress_after p.steps (progress_of p xs) a
progress_push p xs a =
    let ys : List Asked = xs ++ a ∷ [] in
    let many : length ys ≡ length xs + 1 = length_push xs a in
    let place : length ys - 1 ≡ length xs = omega arith in
    let last : last_of ys ≡ Some a = ap (λ k. slice_get ys k) place ∙ last_push xs a in
    let after : Option Asked → Local = λ o. (next p.steps (stands_after p xs) (told o)).1 in
    let stands : stands_after p ys ≡ after (last_of xs) = stand_push p.steps (start p) None xs a ∙ ap after (last_or_is xs) in
    let logged = ap (λ (es : List Entry). min 32 (length es)) (entries_more p xs a) ∙ one_more (entries_of p xs) (logged_by p.steps (after (last_of xs)) a) in
    ap (λ (s : Local). made_so s (last_of ys) (min 32 (length (entries_of p ys)))) stands ∙ ap (λ (o : Option Asked). made_so (after (last_of xs)) o (min 32 (length (entries_of p ys)))) last ∙ ap (λ n. made_so (after (last_of xs)) (Some a) n) logged

-- a turn that polls another thread, or none, leaves a thread where it was
pub came_other : (plan : Option ThreadSpec) (slot : ℕ) (before : List Piece) (p : Piece) → asked_in slot p ≡ [] → came_by plan (before ++ p ∷ []) slot ≡ came_by plan before slot
came_other plan slot before p none =
    ap (progress_of (program_of plan)) (asked_push slot before p ∙ ap (λ (ys : List Asked). asked_by slot before ++ ys) none ∙ append-nil (asked_by slot before))

-- a turn that polls a thread takes it further
pub came_next : (plan : Option ThreadSpec) (slot : ℕ) (before : List Piece) (p : Piece) (a : Asked) → asked_in slot p ≡ a ∷ [] → came_by plan (before ++ p ∷ []) slot ≡ progress_after (program_of plan).steps (came_by plan before slot) a
came_next plan slot before p a one =
    ap (progress_of (program_of plan)) (asked_push slot before p ∙ ap (λ (ys : List Asked). asked_by slot before ++ ys) one) ∙ progress_push (program_of plan) (asked_by slot before) a

-- what a poll asks of its thread, and of another
pub asked_here : (slot : ℕ) (q : Poll) (blocked : Bool) → slot_of q.thread ≡ slot → asked_in slot (record { poll = Some q; blocked = blocked }) ≡ asked_of_poll q blocked ∷ []
asked_here slot q blocked is = search rules

pub asked_there : (slot : ℕ) (q : Poll) (blocked : Bool) → (slot_of q.thread ≡ slot → ⊥) → asked_in slot (record { poll = Some q; blocked = blocked }) ≡ []
asked_there slot q blocked not = search rules

-- an element after a write, to its place and to another
pub get_set : {A : Type 0} (xs : List A) (i : ℕ) (v : A) → i < length xs → slice_get (slice_set xs i v) i ≡ Some v
get_set [] i v inside = absurd (omega arith)
get_set (x ∷ xs) zero v inside = refl
get_set (x ∷ xs) (suc i) v inside = get_set xs i v (omega arith)

pub get_set_other : {A : Type 0} (xs : List A) (i j : ℕ) (v : A) → (i ≡ j → ⊥) → slice_get (slice_set xs i v) j ≡ slice_get xs j
get_set_other [] i j v apart = refl
get_set_other (x ∷ xs) zero zero v apart = absurd (apart refl)
get_set_other (x ∷ xs) zero (suc j) v apart = refl
get_set_other (x ∷ xs) (suc i) zero v apart = refl
get_set_other (x ∷ xs) (suc i) (suc j) v apart = get_set_other xs i j v (λ is. apart (ap suc is))
