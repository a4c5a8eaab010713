-- What a processor's step keeps of a sound state.
use Rattle.std.proofs.Common.{◌≡◌, ◌≢◌, ◌<◌, ◌≤◌, ◌+◌, ◌-◌, ℕ, zero, suc, List, [], ◌∷◌, ◌++◌, length, get_or, set, map, take, refl, ap, sym, ◌∙◌, subst, arith, inl, inr, Option, Some, None, Bool, true, false, length-set}
use Rattle.std.specs.Prelude.{slice_get, slice_set, All, IfSome}
use Rattle.std.specs.Option.{option_map_or}
use Rattle.std.proofs.lemmas.Bool.{cases_lt, cases_eq}
use Rattle.std.proofs.lemmas.List.{get_or_past, get_or-map, get_or-set_same, get_or-set_other, map-set, length-map}
use Rattle.std.proofs.lemmas.List.Elements.{All-set, All-weaker}
use Rattle.std.proofs.lemmas.Option.{slice_get_within, slice_get-get_or, get_or_from_slice_get}
use Rattle.lwkt_base.specs.declared.names.Ref.{Ref}
use Rattle.lwkt_base.specs.declared.limits.TheConstants.{CPU_LIMIT}
use Rattle.lwkt_core.specs.declared.tokens.Token.{Token}
use Rattle.lwkt_core.specs.Machine.{changed}
use Rattle.lwkt_plain.specs.declared.states.Plain.{Plain}
use Rattle.lwkt_plain.specs.declared.states.Processor.{Processor}
use Rattle.lwkt_plain.specs.declared.states.Thread.{Thread}
use Rattle.lwkt_plain.specs.Places.{cpu_at, thread_at, no_processor, with_cpu, with_tokens}
use Rattle.lwkt_plain.specs.Sound.{AreSoundTokens, holding_in, AreHeld, KeepsTokens, Lists, Frame, lists_of, round_of, frame, no_lists, running_refs, IsSoundList, AreSoundLists, IsSoundFrame, IsSound}
use Rattle.lwkt_plain.specs.Turns.{list_at, with_list}
use Rattle.lwkt_plain.proofs.Changes.{changed_in, set_back}

-- the lists of a processor of a state
pub lists_at : (p : Plain) (c : ℕ) → get_or (map lists_of p.cpus) c no_lists ≡ lists_of (cpu_at p c)
lists_at p c = elim (cases_lt c (length p.cpus)) [
  | inl inside ↦ get_or-map lists_of p.cpus c no_processor no_lists inside
  | inr past ↦ past_lists p c past
]
  where
    past_lists : (q : Plain) (d : ℕ) → length q.cpus ≤ d → get_or (map lists_of q.cpus) d no_lists ≡ lists_of (cpu_at q d)
    past_lists q d past =
        let long = length-map q.cpus lists_of in
        get_or_past (map lists_of q.cpus) d no_lists (omega (arith, long, past)) ∙ sym (ap lists_of (get_or_past q.cpus d no_processor past))

pub list_same : {A B : Type 0} (f : A → B) (xs : List A) (k : ℕ) (d : B) → get_or (map f xs) k d ≡ option_map_or f (slice_get xs k) d
list_same f [] k d = get_or_past [] k d (omega arith)
list_same f (x ∷ xs) zero d = refl
list_same f (x ∷ xs) (suc k) d = list_same f xs k d

-- what a processor holds in a sound state: its running thread's list, or nothing
pub held_idle : (p : Plain) (c : ℕ) → IsSound p → c < CPU_LIMIT → (cpu_at p c).running ≡ None → AreHeld c [] p.tokens
held_idle p c sound here idle =
    let e : running_refs (get_or (map lists_of p.cpus) c no_lists) ≡ [] =
    ap running_refs (lists_at p c) ∙ ap (λ (o : Option ℕ). option_map_or (λ k. get_or (map (λ (t : Thread). t.list) (cpu_at p c).threads) k []) o []) idle in
    subst (λ (refs : List Ref). AreHeld c refs p.tokens) e (sound.held c here)

pub held_running : (p : Plain) (c k : ℕ) → IsSound p → c < CPU_LIMIT → (cpu_at p c).running ≡ Some k → AreHeld c (list_at p c k) p.tokens
held_running p c k sound here running =
    let e : running_refs (get_or (map lists_of p.cpus) c no_lists) ≡ list_at p c k =
    ap running_refs (lists_at p c)
    ∙ ap (λ (o : Option ℕ). option_map_or (λ j. get_or (map (λ (t : Thread). t.list) (cpu_at p c).threads) j []) o []) running
    ∙ list_same (λ (t : Thread). t.list) (cpu_at p c).threads k [] in
    subst (λ (refs : List Ref). AreHeld c refs p.tokens) e (sound.held c here)

pub lists_sound : (p : Plain) (c : ℕ) → IsSound p → c < length p.cpus → AreSoundLists (length p.tokens) (lists_of (cpu_at p c))
lists_sound p c sound inside =
    let long = length-map p.cpus lists_of in
    subst (AreSoundLists (length p.tokens)) (lists_at p c) (sound.each c no_lists (omega (arith, long, inside)))

pub list_fits : (p : Plain) (c k : ℕ) → IsSound p → c < length p.cpus → k < length (cpu_at p c).threads → IsSoundList (length p.tokens) (list_at p c k)
list_fits p c k sound inside there =
    let long = length-map (cpu_at p c).threads (λ (t : Thread). t.list) in
    subst (IsSoundList (length p.tokens)) (list_same (λ (t : Thread). t.list) (cpu_at p c).threads k [])
    ((lists_sound p c sound inside).each k [] (omega (arith, long, there)))

pub few_cpus : (p : Plain) → IsSound p → length p.cpus ≤ CPU_LIMIT
few_cpus p sound = (let long = length-map p.cpus lists_of in let few = sound.processors in omega (arith, long, few))

pub running_there : (p : Plain) (c k : ℕ) → IsSound p → c < length p.cpus → (cpu_at p c).running ≡ Some k → k < length (cpu_at p c).threads
running_there p c k sound inside running =
    let long = length-map (cpu_at p c).threads (λ (t : Thread). t.list) in
    let below : k < length (map (λ (t : Thread). t.list) (cpu_at p c).threads) =
    subst (λ (o : Option ℕ). IfSome o (λ j. j < length (map (λ (t : Thread). t.list) (cpu_at p c).threads))) running (lists_sound p c sound inside).running in
    omega (arith, long, below)

-- a state in which one processor has taken a step: others hold what they held, and it holds the list of its running thread
pub sound_step : (f : Frame) (c : ℕ) (tokens : List Token) (l : Lists) → c < length f.cpus → IsSoundFrame f → KeepsTokens c f.tokens tokens → AreSoundLists (length f.tokens) l → AreHeld c (running_refs l) tokens → IsSoundFrame (record f { tokens = tokens; cpus = set f.cpus c l })
sound_step f c tokens l inside sound keeps lists held = record {
  tokens = keeps.sound;
  messages = sound.messages;
  rounds = sound.rounds;
  processors = (let same = length-set f.cpus c l in let few = sound.processors in omega (arith, same, few));
  each = subst (λ (n : ℕ). All (AreSoundLists n) (set f.cpus c l)) (sym keeps.same) (All-set (AreSoundLists (length f.tokens)) f.cpus c l lists sound.each);
  held = λ d here. elim (cases_eq d c) [
    | inl same ↦
        subst (λ (e : ℕ). AreHeld e (running_refs (get_or (set f.cpus c l) e no_lists)) tokens) (sym same)
        (subst (λ (m : Lists). AreHeld c (running_refs m) tokens) (sym (get_or-set_same f.cpus c l no_lists inside)) held)
    | inr differ ↦
        λ t. keeps.others d differ t ∙ subst (λ (m : Lists). AreHeld d (running_refs m) f.tokens) (sym (get_or-set_other f.cpus c d l no_lists differ)) (sound.held d here) t
  ];
}

-- the frame of a state with one processor changed
pub frame_at : (f : Processor → Processor) (c : ℕ) (p : Plain) → c < length p.cpus → map lists_of (changed f p.cpus c) ≡ set (map lists_of p.cpus) c (lists_of (f (cpu_at p c)))
frame_at f c p inside = ap (map lists_of) (changed_in f p.cpus c (cpu_at p c) (slice_get-get_or p.cpus c no_processor inside)) ∙ map-set lists_of p.cpus c (f (cpu_at p c))

-- a processor's step on tokens and on its own lists
pub sound_cpu : (p : Plain) (c : ℕ) (tokens : List Token) (f : Processor → Processor) → c < length p.cpus → IsSound p → KeepsTokens c p.tokens tokens → AreSoundLists (length p.tokens) (lists_of (f (cpu_at p c))) → AreHeld c (running_refs (lists_of (f (cpu_at p c)))) tokens → IsSound (with_cpu f c (with_tokens tokens p))
sound_cpu p c tokens f inside sound keeps lists held =
    let long = length-map p.cpus lists_of in
    let there : c < length (map lists_of p.cpus) = omega (arith, long, inside) in
    let S : List Lists → Type 0 = λ ls. IsSoundFrame (record { tokens = tokens; rounds = map round_of p.letters; cpus = ls }) in
    subst S (sym (frame_at f c p inside)) (sound_step (frame p) c tokens (lists_of (f (cpu_at p c))) there sound keeps lists held)

-- of one of its threads
abbrev pub on_thread : (Thread → Thread) → ℕ → Processor → Processor
on_thread f k cpu = record cpu { threads = changed f cpu.threads k }

pub changed_list : (f : Thread → Thread) (threads : List Thread) (k : ℕ) → k < length threads → map (λ (t : Thread). t.list) (changed f threads k) ≡ set (map (λ (t : Thread). t.list) threads) k (option_map_or (λ (t : Thread). (f t).list) (slice_get threads k) [])
changed_list f [] k inside = absurd (omega arith)
changed_list f (x ∷ xs) zero inside = refl
changed_list f (x ∷ xs) (suc k) inside =
    changed_tail f x xs k ∙ ap (λ (lists : List (List Ref)). x.list ∷ lists) (changed_list f xs k (omega arith))
  where
    changed_tail : (g : Thread → Thread) (y : Thread) (ys : List Thread) (j : ℕ) → map (λ (t : Thread). t.list) (changed g (y ∷ ys) (suc j)) ≡ y.list ∷ map (λ (t : Thread). t.list) (changed g ys j)
    changed_tail g y ys j = go (slice_get ys j)
      where
        go : (o : Option Thread) → map (λ (t : Thread). t.list) (option_map_or (λ t. slice_set (y ∷ ys) (suc j) (g t)) o (y ∷ ys)) ≡ y.list ∷ map (λ (t : Thread). t.list) (option_map_or (λ t. slice_set ys j (g t)) o ys)
        go None = refl
        go (Some t) = refl

-- lists of which one is another, that fits
pub lists_with : (n : ℕ) (l : Lists) (k : ℕ) (refs : List Ref) → AreSoundLists n l → IsSoundList n refs → AreSoundLists n (record l { lists = set l.lists k refs })
lists_with n l k refs sound fits = record {
  few = (let same = length-set l.lists k refs in let few = sound.few in omega (arith, same, few));
  each = All-set (IsSoundList n) l.lists k refs fits sound.each;
  running = subst (λ (m : ℕ). IfSome l.running (λ j. j < m)) (sym (length-set l.lists k refs)) sound.running;
}

-- parts that were read
pub cpu_got : (p : Plain) (c : ℕ) (cpu : Processor) → slice_get p.cpus c ≡ Some cpu → cpu_at p c ≡ cpu
cpu_got p c cpu at = get_or_from_slice_get p.cpus c cpu no_processor at

pub list_got : (p : Plain) (c k : ℕ) (cpu : Processor) (t : Thread) → slice_get p.cpus c ≡ Some cpu → slice_get cpu.threads k ≡ Some t → list_at p c k ≡ t.list
list_got p c k cpu t at there =
    ap (λ (x : Processor). option_map_or (λ (s : Thread). s.list) (slice_get x.threads k) []) (cpu_got p c cpu at) ∙ ap (λ (o : Option Thread). option_map_or (λ (s : Thread). s.list) o []) there

pub put_is : (p : Plain) (c k : ℕ) (cpu : Processor) (t : Thread) (tokens : List Token) (refs : List Ref) → slice_get p.cpus c ≡ Some cpu → slice_get cpu.threads k ≡ Some t → with_list refs c k (with_tokens tokens p) ≡ record { tokens = tokens; letters = p.letters; mails = p.mails; cpus = set p.cpus c (record cpu { threads = set cpu.threads k (record t { list = refs }) }) }
put_is p c k cpu t tokens refs at there =
    let f : Thread → Thread = λ s. record s { list = refs } in
    ap (λ (cpus : List Processor). record { tokens = tokens; letters = p.letters; mails = p.mails; cpus = cpus })
    (changed_in (λ (x : Processor). record x { threads = changed f x.threads k }) p.cpus c cpu at
    ∙ ap (λ (ts : List Thread). set p.cpus c (record cpu { threads = ts })) (changed_in f cpu.threads k t there))

-- tokens and a list that are put back where they were
pub put_back : (p : Plain) (c k : ℕ) (cpu : Processor) (t : Thread) → slice_get p.cpus c ≡ Some cpu → slice_get cpu.threads k ≡ Some t → with_list t.list c k (with_tokens p.tokens p) ≡ p
put_back p c k cpu t at there =
    put_is p c k cpu t p.tokens t.list at there
    ∙ ap (λ (cpus : List Processor). record p { cpus = cpus })
    (ap (λ (ts : List Thread). set p.cpus c (record cpu { threads = ts })) (set_back cpu.threads k t there)
    ∙ set_back p.cpus c cpu at)
