use Rattle.std.proofs.Common.{◌≡◌, ℕ, ◌<◌, ◌≤◌, List, length, arith, ap, subst, sym, ◌∙◌, refl, rules, true, false, IsTrue, slice_index_or, []}
use Rattle.std.specs.Option.{option_map_or}
use Rattle.lwkt_plain.specs.declared.states.Plain.{Plain}
use Rattle.lwkt_plain.specs.declared.states.Processor.{Processor}
use Rattle.lwkt_plain.specs.declared.states.Thread.{Thread}
use Rattle.lwkt_plain.specs.Endings.{are_over, threads_at, HasEnded}
use Rattle.lwkt_plain.specs.Openings.{threads_of, opened}
use Rattle.lwkt_plain.specs.Stores.{kept, state_of}
use Rattle.lwkt_plain.proofs.StoreLemmas.{first_at, first_long, cpus_kept}
use Rattle.lwkt_plain.proofs.stores.Store.has_ended.Goals as goal

pub returns-then-not-are_over : goal.returns-then-not-are_over
returns-then-not-are_over c =
    let s = c.args.self.now in
    let script = c.args.script.now in
    let count : ℕ = length s.codes.index.links.items in
    let there : c.args.at < count = omega (arith, c.requires.there, first_long count (state_of s)) in
    let state : slice_index_or (kept s) c.args.at (opened script) ≡ state_of s c.args.at = first_at count (state_of s) c.args.at (opened script) there in
    let few : length (state_of s c.args.at).cpus ≡ length s.cpus.numbers.items = cpus_kept s c.args.at c.requires.store there in
    let here : c.loop-c.c < length (state_of s c.args.at).cpus = omega (arith, c.loop-c.invariant.end) in
    let at : threads_at (state_of s c.args.at) c.loop-c.c ≡ c.processor-cpu.result.now.threads = ap (λ o. option_map_or (λ (cpu : Processor). cpu.threads) o []) c.processor-cpu.ensures in
    let not_over : IsTrue (are_over (threads_of script c.loop-c.c) c.processor-cpu.result.now.threads) → false ≡ true = search rules in (
      (λ (so : false ≡ true). cc),
      (λ (ended : HasEnded script (slice_index_or (kept s) c.args.at (opened script))).
          let E : Plain → Type 0 = λ p. HasEnded script p in
          let T : List Thread → Type 0 = λ ts. IsTrue (are_over (threads_of script c.loop-c.c) ts) in
          not_over (subst T at (subst E state ended c.loop-c.c here))),
    )

pub returns : goal.returns
returns c =
    let s = c.args.self.now in
    let script = c.args.script.now in
    let count : ℕ = length s.codes.index.links.items in
    let there : c.args.at < count = omega (arith, c.requires.there, first_long count (state_of s)) in
    let state : slice_index_or (kept s) c.args.at (opened script) ≡ state_of s c.args.at = first_at count (state_of s) c.args.at (opened script) there in
    let few : length (state_of s c.args.at).cpus ≡ length s.cpus.numbers.items = cpus_kept s c.args.at c.requires.store there in
    let E : Plain → Type 0 = λ p. HasEnded script p in
    let all : HasEnded script (state_of s c.args.at) = λ k here. let low : k < c.loop-c.c = omega (arith, c.loop-c.invariant.end) in c.loop-c.invariant.over k low in
    ((λ (so : true ≡ true). subst E (sym state) all), (λ (ended : HasEnded script (slice_index_or (kept s) c.args.at (opened script))). refl))
