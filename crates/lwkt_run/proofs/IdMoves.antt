-- The threads of a machine are those of its script.
use Rattle.std.proofs.Common.{◌≡◌, ℕ, zero, suc, ◌+◌, ◌==◌, List, [], ◌∷◌, ◌++◌, length, map, filter, replicate, refl, ap, sym, ◌∙◌, arith, append_assoc, append-nil, Option, Some}
use Rattle.std.specs.Prelude.{slice_get}
use Rattle.std.specs.List.{enumerate_from, flat_map}
use Rattle.std.proofs.lemmas.List.{length-map, map-append}
use Rattle.std.proofs.lemmas.List.Sums.{length-filter}
use Rattle.lwkt_base.specs.declared.names.ThreadId.{ThreadId}
use Rattle.lwkt_cpu.specs.declared.threads.Thread.{Thread}
use Rattle.lwkt_cpu.specs.Fresh.{fresh}
use Rattle.lwkt_cpu.specs.Processors.{Processor, is_running}
use Rattle.lwkt_machine.specs.declared.statuses.ThreadStatus.{ThreadStatus}
use Rattle.lwkt_machine.specs.Bodies.{Scripted}
use Rattle.lwkt_machine.specs.Machines.{Rig}
use Rattle.lwkt_machine.specs.Scripts.{body_of, bodies_on, IsOpenedScript}
use Rattle.lwkt_machine.specs.Statuses.{status_of, statuses_on, statuses_of}
use Rattle.lwkt_script.specs.declared.scripts.Script.{Script}
use Rattle.lwkt_script.specs.declared.scripts.ThreadSpec.{ThreadSpec}
use Rattle.lwkt_script.specs.Format.{threads_on}
use Rattle.lwkt_run.specs.Judging.{ids_on, ids_of}
use Rattle.lwkt_run.specs.Running.{HasThreads}

abbrev id_of : ThreadStatus → ThreadId
id_of s = s.id

-- the threads of a processor from a number on
on_from : (cpu : ℕ) (runs : Option ℕ) (threads : List Thread) (n : ℕ) → ids_on cpu n ++ map id_of (map (λ (e : ℕ × Thread). status_of cpu e.0 (is_running runs e.0) e.1) (enumerate_from n threads)) ≡ ids_on cpu (n + length threads)
on_from cpu runs [] n =
    let z : n ≡ n + 0 = omega arith in
    append-nil (ids_on cpu n) ∙ ap (ids_on cpu) z
on_from cpu runs (t ∷ threads) n =
    let z : n + 1 + length threads ≡ n + suc (length threads) = omega arith in
    let s : suc n ≡ n + 1 = omega arith in
    let one : ThreadId = record { cpu = record { 0 = cpu }; thread = n } in
    let rest : List ThreadId = map id_of (map (λ (e : ℕ × Thread). status_of cpu e.0 (is_running runs e.0) e.1) (enumerate_from (n + 1) threads)) in
    sym (append_assoc (ids_on cpu n) (one ∷ []) rest) ∙ ap (λ (m : ℕ). ids_on cpu m ++ rest) s ∙ on_from cpu runs threads (n + 1) ∙ ap (ids_on cpu) z

on_all : (cpu : ℕ) (p : Processor Scripted) → map id_of (statuses_on cpu p) ≡ ids_on cpu (length p.threads)
on_all cpu p =
    let z : 0 + length p.threads ≡ length p.threads = omega arith in
    on_from cpu p.running p.threads 0 ∙ ap (ids_on cpu) z

-- the threads of processors from a number on
ids_from : (threads : List ThreadSpec) (cpus : List (Processor Scripted)) (n : ℕ) → ((k : ℕ) (p : Processor Scripted) → slice_get cpus k ≡ Some p → length p.threads ≡ threads_on (n + k) threads) → ids_of n threads ++ map id_of (flat_map (λ (e : ℕ × Processor Scripted). statuses_on e.0 e.1) (enumerate_from n cpus)) ≡ ids_of (n + length cpus) threads
ids_from threads [] n each =
    let z : n ≡ n + 0 = omega arith in
    append-nil (ids_of n threads) ∙ ap (λ (m : ℕ). ids_of m threads) z
ids_from threads (p ∷ cpus) n each =
    let f : ℕ × Processor Scripted → List ThreadStatus = λ e. statuses_on e.0 e.1 in
    let rest : List ThreadStatus = flat_map f (enumerate_from (n + 1) cpus) in
    let z : n + 1 + length cpus ≡ n + suc (length cpus) = omega arith in
    let s : suc n ≡ n + 1 = omega arith in
    let n0 : n + 0 ≡ n = omega arith in
    let count : length p.threads ≡ threads_on n threads = each 0 p refl ∙ ap (λ (m : ℕ). threads_on m threads) n0 in
    let here : map id_of (statuses_on n p) ≡ ids_on n (threads_on n threads) = on_all n p ∙ ap (ids_on n) count in
    let later : (k : ℕ) (q : Processor Scripted) → slice_get cpus k ≡ Some q → length q.threads ≡ threads_on (n + 1 + k) threads = λ k q at.
    let e : n + suc k ≡ n + 1 + k = omega arith in
    each (suc k) q at ∙ ap (λ (m : ℕ). threads_on m threads) e in
    ap (λ xs. ids_of n threads ++ xs) (map-append id_of (statuses_on n p) rest ∙ ap (λ xs. xs ++ map id_of rest) here)
    ∙ sym (append_assoc (ids_of n threads) (ids_on n (threads_on n threads)) (map id_of rest))
    ∙ ap (λ (m : ℕ). ids_of m threads ++ map id_of rest) s
    ∙ ids_from threads cpus (n + 1) later
    ∙ ap (λ (m : ℕ). ids_of m threads) z

pub ids_are : (cpus : ℕ) (threads : List ThreadSpec) (processors : List (Processor Scripted)) → HasThreads cpus threads processors → map (λ (s : ThreadStatus). s.id) (statuses_of processors) ≡ ids_of cpus threads
ids_are cpus threads processors has =
    let later : (k : ℕ) (p : Processor Scripted) → slice_get processors k ≡ Some p → length p.threads ≡ threads_on (0 + k) threads = λ k p at.
    let e : k ≡ 0 + k = omega arith in
    has.each k p at ∙ ap (λ (m : ℕ). threads_on m threads) e in
    let z : 0 + length processors ≡ cpus = omega (arith, has.as_many) in
    ids_from threads processors 0 later ∙ ap (λ (m : ℕ). ids_of m threads) z

long_copies : {A : Type 0} (n : ℕ) (x : A) → length (replicate n x) ≡ n
long_copies zero x = refl
long_copies (suc n) x = ap suc (long_copies n x)

-- a machine as it is opened has the script's threads
pub opened_has : (script : Script) (m : Rig Scripted) → IsOpenedScript script m → HasThreads script.cpus script.threads m.cpus
opened_has script m opened = record {
  as_many = opened.as_many;
  each = λ k p at.
      let o = opened.each k p at in
      let mine : List ThreadSpec = filter (λ (t : ThreadSpec). t.cpu.0 == k) script.threads in
      ap length o.threads_are ∙ long_copies (length (bodies_on k script.threads)) fresh ∙ length-map mine body_of ∙ length-filter (λ (t : ThreadSpec). t.cpu.0 == k) script.threads;
}

-- one line more shows one standing more
pub shown_more : {A B C : Type 0} (f : A → C) (g : B → C) (xs ys : List A) (zs : List B) (x : A) (z : B) → ys ≡ xs ++ x ∷ [] → map f xs ≡ map g zs → f x ≡ g z → map f ys ≡ map g (zs ++ z ∷ [])
shown_more {A} {B} {C} f g xs ys zs x z same shown last =
    ap (map f) same ∙ map-append f xs (x ∷ []) ∙ ap (λ (l : List C). l ++ f x ∷ []) shown ∙ ap (λ (c : C). map g zs ++ c ∷ []) last ∙ sym (map-append g zs (z ∷ []))
