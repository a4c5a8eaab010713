-- The thread of a turn runs, and its list is held.
use Rattle.std.proofs.Common.{◌≡◌, ◌<◌, ◌≤◌, ◌+◌, ◌-◌, ℕ, List, [], ◌∷◌, ◌++◌, length, get_or, map, refl, ap, sym, ◌∙◌, subst, arith, Option, Some, None, Bool, true, false}
use Rattle.std.specs.Prelude.{slice_get, IfSome}
use Rattle.std.specs.Option.{option_map_or}
use Rattle.std.proofs.lemmas.List.{length-map}
use Rattle.std.proofs.lemmas.Option.{none-some, same_Some}
use Rattle.lwkt_base.specs.declared.names.Ref.{Ref}
use Rattle.lwkt_base.specs.declared.limits.TheConstants.{CPU_LIMIT}
use Rattle.lwkt_plain.specs.declared.states.Plain.{Plain}
use Rattle.lwkt_plain.specs.declared.states.Processor.{Processor}
use Rattle.lwkt_plain.specs.declared.states.Thread.{Thread}
use Rattle.lwkt_plain.specs.Places.{cpu_at, no_processor, with_cpu, with_tokens}
use Rattle.lwkt_plain.specs.Sound.{AreHeld, lists_of, running_refs, AreSoundLists, IsSound}
use Rattle.lwkt_plain.specs.Turns.{list_at, Found, found, finds, round_from, runs_at, chooses, IsRunning, IsIdle}
use Rattle.lwkt_plain.proofs.Changes.{get_or_changed}
use Rattle.lwkt_plain.proofs.Soundness.{list_same, lists_sound, few_cpus, sound_cpu, running_there}
use Rattle.lwkt_plain.proofs.TurnSound.{length_changed, StaysIdle, HeldNow, Comes, finds_come}

-- a state in which the thread of a number runs
pub record RunsNow (c k : ℕ) (p q : Plain) : Type 0 where
  pub sound : IsSound q
  pub running : IsRunning q c k
  pub there : k < length (cpu_at q c).threads
  pub cpus : length q.cpus ≡ length p.cpus

abbrev pub run_on : ℕ → Processor → Processor
run_on k cpu = record cpu { running = Some k; cursor = k + 1 }

held_runs : (c k : ℕ) (p q : Plain) → c < length p.cpus → HeldNow c k p q → RunsNow c k p (with_cpu (run_on k) c q)
held_runs c k p q inside now =
    let b = now.before in
    let cpus = now.stays.cpus in
    let within : c < length b.cpus = omega (arith, cpus, inside) in
    let cpu = cpu_at b c in
    let lists = lists_sound b c now.stays.sound within in
    let long = length-map cpu.threads (λ (t : Thread). t.list) in
    let there = now.there in
    let ok : AreSoundLists (length b.tokens) (lists_of (run_on k cpu)) = record { few = lists.few; each = lists.each; running = omega (arith, long, there) } in
    let held : AreHeld c (running_refs (lists_of (run_on k cpu))) now.tokens =
    subst (λ (refs : List Ref). AreHeld c refs now.tokens) (sym (list_same (λ (t : Thread). t.list) cpu.threads k [])) now.held in
    let sound = sound_cpu b c now.tokens (run_on k) within now.stays.sound now.keeps ok held in
    let S : Plain → Type 0 = λ x. RunsNow c k p (with_cpu (run_on k) c x) in
    let at : cpu_at (with_cpu (run_on k) c (with_tokens now.tokens b)) c ≡ run_on k cpu = get_or_changed (run_on k) b.cpus c no_processor within in
    subst S (sym now.is) (record {
      sound = sound;
      running = ap (λ (x : Processor). x.running) at;
      there = (let same = ap (λ (x : Processor). length x.threads) at in omega (arith, same, there));
      cpus = length_changed (run_on k) b.cpus c ∙ cpus;
    })

-- what a search comes to
abbrev pub Chosen : ℕ → Plain → Found → Type 0
Chosen c p x = ((x.place ≡ None) → StaysIdle c p x.plain) × ((k : ℕ) → x.place ≡ Some k → RunsNow c k p x.plain)

searched : (c : ℕ) (p : Plain) (x : Found) (o : Option ℕ) → c < length p.cpus → x.place ≡ o → Comes c p x → Chosen c p (option_map_or (λ k. found (with_cpu (run_on k) c x.plain) (Some k)) o x)
searched c p x None inside is comes = (λ none. comes.0 is, λ k same. absurd (none-some k (sym is ∙ same)))
searched c p x (Some j) inside is comes = (
  λ none. absurd (none-some j (sym none)),
  λ k same. subst (λ (n : ℕ). RunsNow c n p (with_cpu (run_on j) c x.plain)) (same_Some j k same) (held_runs c j p x.plain inside (comes.1 j is)),
)

chosen_by : (c : ℕ) (p : Plain) (o : Option ℕ) → (cpu_at p c).running ≡ o → c < length p.cpus → IsSound p → Chosen c p (option_map_or (λ k. found p (Some k)) o (runs_at c (finds c p (round_from (cpu_at p c).cursor (length (cpu_at p c).threads)))))
chosen_by c p None idle inside sound =
    let few = few_cpus p sound in
    let x = finds c p (round_from (cpu_at p c).cursor (length (cpu_at p c).threads)) in
    searched c p x x.place inside refl (finds_come c (round_from (cpu_at p c).cursor (length (cpu_at p c).threads)) p inside sound idle (omega (arith, few, inside)))
chosen_by c p (Some j) running inside sound = (
  λ none. absurd (none-some j (sym none)),
  λ k same. subst (λ (n : ℕ). RunsNow c n p p) (same_Some j k same) (record { sound = sound; running = running; there = running_there p c j sound inside running; cpus = refl }),
)

pub chosen : (c : ℕ) (p : Plain) → c < length p.cpus → IsSound p → Chosen c p (chooses c p)
chosen c p inside sound = chosen_by c p (cpu_at p c).running refl inside sound

-- the same of a state that is known to be that
pub chosen_runs : (c k : ℕ) (p q : Plain) → c < length p.cpus → IsSound p → found q (Some k) ≡ chooses c p → RunsNow c k p q
chosen_runs c k p q inside sound is =
    let x = chosen c p inside sound in
    let place : (chooses c p).place ≡ Some k = ap (λ (y : Found). y.place) (sym is) in
    subst (RunsNow c k p) (ap (λ (y : Found). y.plain) (sym is)) (x.1 k place)

pub chosen_none : (c : ℕ) (p q : Plain) → c < length p.cpus → IsSound p → found q None ≡ chooses c p → IsSound q
chosen_none c p q inside sound is =
    let x = chosen c p inside sound in
    let place : (chooses c p).place ≡ None = ap (λ (y : Found). y.place) (sym is) in
    subst IsSound (ap (λ (y : Found). y.plain) (sym is)) (x.0 place).sound
