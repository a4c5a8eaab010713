-- A script has few threads, since each of its few processors has few.
use Rattle.std.proofs.Common.{◌≡◌, ℕ, zero, suc, ◌+◌, ◌*◌, ◌<◌, ◌≤◌, List, [], ◌∷◌, ◌++◌, length, count_by, nat_lt, ◌==◌, cond, Bool, refl, arith}
use Rattle.std.proofs.lemmas.List.{length-append}
use Rattle.std.proofs.lemmas.List.Sums.{sum_by_push, sum_by-cons}
use Rattle.std.proofs.lemmas.Bool.Decides.{nat_tests}
use Rattle.lwkt_script.specs.declared.scripts.ThreadSpec.{ThreadSpec}
use Rattle.lwkt_script.specs.Format.{threads_on}

-- how many threads are of a processor below k
abbrev pub threads_below : ℕ → List ThreadSpec → ℕ
threads_below k threads = count_by (λ t. nat_lt t.cpu.0 k) threads

-- each thread is of a processor below cpus, and no processor has more than 16
pub record AreFew (cpus : ℕ) (threads : List ThreadSpec) : Type 0 where
  pub below : threads_below cpus threads ≡ length threads
  pub few : (cpu : ℕ) → threads_on cpu threads ≤ 16

-- 1 for what is counted
abbrev mark : Bool → ℕ
mark b = cond b 1 0

abbrev below_mark : ℕ → ThreadSpec → ℕ
below_mark k t = mark (nat_lt t.cpu.0 k)

abbrev on_mark : ℕ → ThreadSpec → ℕ
on_mark k t = mark (t.cpu.0 == k)

marks : (k cpu : ℕ) → mark (nat_lt cpu (k + 1)) ≡ mark (nat_lt cpu k) + mark (cpu == k)
marks k cpu = grind (arith, nat_tests)

no_mark : (cpu : ℕ) → mark (nat_lt cpu 0) ≡ 0
no_mark cpu = grind (arith, nat_tests)

below_none : (threads : List ThreadSpec) → threads_below 0 threads ≡ 0
below_none [] = refl
below_none (t ∷ ts) = omega (arith, sum_by-cons (below_mark 0) t ts, no_mark t.cpu.0, below_none ts)

below_more : (k : ℕ) (threads : List ThreadSpec) → threads_below (k + 1) threads ≡ threads_below k threads + threads_on k threads
below_more k [] = refl
below_more k (t ∷ ts) = omega (arith, sum_by-cons (below_mark (k + 1)) t ts, sum_by-cons (below_mark k) t ts, sum_by-cons (on_mark k) t ts, marks k t.cpu.0, below_more k ts)

below_bound : (k : ℕ) (threads : List ThreadSpec) → ((cpu : ℕ) → threads_on cpu threads ≤ 16) → threads_below k threads ≤ 16 * k
below_bound zero threads few = omega (arith, below_none threads)
below_bound (suc k) threads few = step k (suc k) threads few (omega arith) (below_bound k threads few)
  where
    step : (k next : ℕ) (threads : List ThreadSpec) → ((cpu : ℕ) → threads_on cpu threads ≤ 16) → next ≡ k + 1 → threads_below k threads ≤ 16 * k → threads_below next threads ≤ 16 * next
    step k next threads few is so_far = rw is (omega (arith, below_more k threads, few k))

-- at most 128 threads on 8 processors
pub few_in_all : (cpus : ℕ) (threads : List ThreadSpec) → cpus ≤ 8 → AreFew cpus threads → length threads ≤ 128
few_in_all cpus threads most few = omega (arith, few.below, below_bound cpus threads few.few)

-- a count with one thread more, of its processor or of another one
mark_cases : (cpu other count count_other : ℕ) → (cpu ≡ other → count ≡ count_other) → count_other < 16 → count ≤ 16 → count + mark (other == cpu) ≤ 16
mark_cases cpu other count count_other same free few = grind (arith, nat_tests)

on_more : (cpu : ℕ) (threads : List ThreadSpec) (t : ThreadSpec) → threads_on t.cpu.0 threads < 16 → threads_on cpu threads ≤ 16 → threads_on cpu (threads ++ t ∷ []) ≤ 16
on_more cpu threads t free few =
    let one : threads_on cpu threads + on_mark cpu t ≤ 16 = mark_cases cpu t.cpu.0 (threads_on cpu threads) (threads_on t.cpu.0 threads) (λ e. cc) free few in
    omega (arith, sum_by_push (on_mark cpu) threads t)

full_mark : (cpu cpus : ℕ) → cpu < cpus → mark (nat_lt cpu cpus) ≡ 1
full_mark cpu cpus below = grind (arith, nat_tests)

-- a thread of a processor that has room leaves them few
pub one_more_few : (cpus : ℕ) (threads : List ThreadSpec) (t : ThreadSpec) → t.cpu.0 < cpus → threads_on t.cpu.0 threads < 16 → AreFew cpus threads → AreFew cpus (threads ++ t ∷ [])
one_more_few cpus threads t below free few = record {
  below = omega (arith, few.below, sum_by_push (below_mark cpus) threads t, full_mark t.cpu.0 cpus below, length-append threads (t ∷ []));
  few = λ cpu. on_more cpu threads t free (few.few cpu);
}
