-- What the search for a thread leaves of a sound state.
use Rattle.std.proofs.Common.{◌≡◌, ◌≢◌, ◌<◌, ◌≤◌, ◌+◌, ◌-◌, ℕ, zero, suc, List, [], ◌∷◌, ◌++◌, length, get_or, set, map, refl, ap, sym, ◌∙◌, subst, arith, Option, Some, None, Bool, true, false, length-set}
use Rattle.std.specs.Prelude.{slice_get, slice_set, All, IfSome, if◌then◌else◌, fold, is_some}
use Rattle.std.specs.Option.{option_map_or}
use Rattle.std.specs.List.{range_with_len}
use Rattle.std.proofs.lemmas.Bool.{false≢true}
use Rattle.std.proofs.lemmas.List.{length-map, get_or_past}
use Rattle.std.proofs.lemmas.List.Elements.{All-nil}
use Rattle.std.proofs.lemmas.Option.{slice_get_within, none-some, same_Some}
use Rattle.lwkt_base.specs.declared.names.CpuId.{CpuId}
use Rattle.lwkt_base.specs.declared.names.Ref.{Ref}
use Rattle.lwkt_base.specs.declared.limits.TheConstants.{CPU_LIMIT}
use Rattle.lwkt_core.specs.declared.tokens.Token.{Token}
use Rattle.lwkt_core.specs.Machine.{changed}
use Rattle.lwkt_plain.specs.declared.letters.Letter.{Letter}
use Rattle.lwkt_plain.specs.declared.nexts.Miss.{Miss}
use Rattle.lwkt_plain.specs.declared.nexts.Miss.TheVariants.{Busy, Worn}
use Rattle.lwkt_plain.specs.declared.nexts.Missed.{Missed}
use Rattle.lwkt_plain.specs.declared.states.BusyAt.{BusyAt}
use Rattle.lwkt_plain.specs.declared.states.Phase.{Phase}
use Rattle.lwkt_plain.specs.declared.states.Phase.TheVariants.{Live, AwaitsItem, AwaitsReply, Exited, Faulted}
use Rattle.lwkt_plain.specs.declared.states.Plain.{Plain}
use Rattle.lwkt_plain.specs.declared.states.Processor.{Processor}
use Rattle.lwkt_plain.specs.declared.states.Thread.{Thread}
use Rattle.lwkt_base.specs.declared.faults.Fault.TheVariants.{Worn as WornOut}
use Rattle.lwkt_plain.specs.Letters.{left_by, is_shown_to}
use Rattle.lwkt_plain.specs.Places.{cpu_at, thread_at, no_processor, with_cpu, with_thread, with_tokens, with_letter}
use Rattle.lwkt_plain.specs.Intakes.{below}
use Rattle.lwkt_plain.specs.Sound.{AreSoundTokens, AreHeld, KeepsTokens, Lists, Frame, lists_of, round_of, frame, no_lists, running_refs, IsSoundList, AreSoundLists, IsSoundFrame, IsSound}
use Rattle.lwkt_plain.specs.Tokens.{Tried, resume}
use Rattle.lwkt_plain.specs.Turns.{list_at, ended_by, leaves, ends, is_still_busy, may_try_in, may_try, Found, found, missed_by, after_try, tries, finds, IsIdle}
use Rattle.lwkt_plain.proofs.Changes.{map_changed, get_or_changed}
use Rattle.lwkt_plain.proofs.Folds.{fold_keeps}
use Rattle.lwkt_plain.proofs.Frames.{frame_thread, frame_letter, sound_by, few_threads}
use Rattle.lwkt_plain.proofs.TokenSteps.{keeps_same}
use Rattle.lwkt_plain.proofs.Takings.{takes_keeps, held_of}
use Rattle.lwkt_plain.proofs.Soundness.{lists_at, held_idle, lists_sound, list_fits, few_cpus, sound_cpu, on_thread, changed_list, lists_with}

pub length_changed : {A : Type 0} (f : A → A) (xs : List A) (i : ℕ) → length (changed f xs i) ≡ length xs
length_changed {A} f xs i = go (slice_get xs i)
  where
    go : (o : Option A) → length (option_map_or (λ x. slice_set xs i (f x)) o xs) ≡ length xs
    go None = refl
    go (Some x) = length-set xs i (f x)

-- tokens changed, or lists
pub sound_tokens : (p : Plain) (c : ℕ) (tokens : List Token) → c < length p.cpus → IsSound p → KeepsTokens c p.tokens tokens → AreHeld c (running_refs (lists_of (cpu_at p c))) tokens → IsSound (with_tokens tokens p)
sound_tokens p c tokens inside sound keeps held =
    let S : List Lists → Type 0 = λ ls. IsSoundFrame (record { tokens = tokens; rounds = map round_of p.letters; cpus = ls }) in
    subst S (map_changed lists_of (λ (cpu : Processor). cpu) p.cpus c (λ cpu. refl)) (sound_cpu p c tokens (λ (cpu : Processor). cpu) inside sound keeps (lists_sound p c sound inside) held)

pub sound_lists : (p : Plain) (c : ℕ) (f : Processor → Processor) → c < length p.cpus → IsSound p → AreSoundLists (length p.tokens) (lists_of (f (cpu_at p c))) → AreHeld c (running_refs (lists_of (f (cpu_at p c)))) p.tokens → IsSound (with_cpu f c p)
sound_lists p c f inside sound lists held = sound_cpu p c p.tokens f inside sound (keeps_same c p.tokens sound.tokens) lists held

-- an idle processor in a state that is sound, with as many threads as before
pub record StaysIdle (c : ℕ) (p q : Plain) : Type 0 where
  pub sound : IsSound q
  pub idle : IsIdle q c
  pub cpus : length q.cpus ≡ length p.cpus
  pub threads : length (cpu_at q c).threads ≡ length (cpu_at p c).threads

pub stays_here : (c : ℕ) (p : Plain) → IsSound p → IsIdle p c → StaysIdle c p p
stays_here c p sound idle = record { sound = sound; idle = idle; cpus = refl; threads = refl }

pub stays_on : (c : ℕ) (p q r : Plain) → StaysIdle c p q → StaysIdle c q r → StaysIdle c p r
stays_on c p q r one other = record { sound = other.sound; idle = other.idle; cpus = other.cpus ∙ one.cpus; threads = other.threads ∙ one.threads }

idle_refs : (cpu : Processor) → cpu.running ≡ None → running_refs (lists_of cpu) ≡ []
idle_refs cpu idle = ap (λ (o : Option ℕ). option_map_or (λ k. get_or (map (λ (t : Thread). t.list) cpu.threads) k []) o []) idle

idle_held : (c : ℕ) (cpu : Processor) (tokens : List Token) → cpu.running ≡ None → AreHeld c [] tokens → AreHeld c (running_refs (lists_of cpu)) tokens
idle_held c cpu tokens idle held = subst (λ (refs : List Ref). AreHeld c refs tokens) (sym (idle_refs cpu idle)) held

-- a thread of an idle processor changed
thread_idle : (c k : ℕ) (f : Thread → Thread) (p : Plain) → c < length p.cpus → IsIdle p c → IsSound (with_thread f c k p) → StaysIdle c p (with_thread f c k p)
thread_idle c k f p inside idle sound =
    let is : cpu_at (with_thread f c k p) c ≡ on_thread f k (cpu_at p c) = get_or_changed (on_thread f k) p.cpus c no_processor inside in
    record {
      sound = sound;
      idle = ap (λ (cpu : Processor). cpu.running) is ∙ idle;
      cpus = length_changed (on_thread f k) p.cpus c;
      threads = ap (λ (cpu : Processor). length cpu.threads) is ∙ length_changed f (cpu_at p c).threads k;
    }

-- a thread that ends leaves what it was shown
left_round : (b : Bool) (l own : Letter) → round_of l ≡ round_of own → round_of (if b then l else own) ≡ round_of own
left_round true l own same = same
left_round false l own same = refl

leaves_frame : (c k : ℕ) (p : Plain) → frame (leaves c k p) ≡ frame p
unfolding leaves
leaves_frame c k p =
    fold_keeps frame (λ now m. with_letter (left_by c k) m now)
    (λ now m. frame_letter (left_by c k) m now (λ l. left_round (is_shown_to c k l) _ l refl)) p (below (length p.letters))

pub leaves_cpus : (c k : ℕ) (p : Plain) → (leaves c k p).cpus ≡ p.cpus
unfolding leaves
leaves_cpus c k p = fold_keeps (λ (q : Plain). q.cpus) (λ now m. with_letter (left_by c k) m now) (λ now m. refl) p (below (length p.letters))

pub leaves_tokens : (c k : ℕ) (p : Plain) → (leaves c k p).tokens ≡ p.tokens
unfolding leaves
leaves_tokens c k p = fold_keeps (λ (q : Plain). q.tokens) (λ now m. with_letter (left_by c k) m now) (λ now m. refl) p (below (length p.letters))

leaves_idle : (c k : ℕ) (p : Plain) → StaysIdle c p p → StaysIdle c p (leaves c k p)
leaves_idle c k p stays =
    let cpu : cpu_at (leaves c k p) c ≡ cpu_at p c = ap (λ (cpus : List Processor). get_or cpus c no_processor) (leaves_cpus c k p) in
    record {
      sound = sound_by p (leaves c k p) (leaves_frame c k p) stays.sound;
      idle = ap (λ (x : Processor). x.running) cpu ∙ stays.idle;
      cpus = ap length (leaves_cpus c k p);
      threads = ap (λ (x : Processor). length x.threads) cpu;
    }

no_list : (phase : Phase) (o : Option Thread) → option_map_or (λ (t : Thread). (ended_by phase t).list) o [] ≡ []
no_list phase None = refl
no_list phase (Some t) = refl

ended_lists : (phase : Phase) (k : ℕ) (cpu : Processor) → k < length cpu.threads → lists_of (on_thread (ended_by phase) k cpu) ≡ record (lists_of cpu) { lists = set (map (λ (t : Thread). t.list) cpu.threads) k [] }
ended_lists phase k cpu there =
    ap (λ (lists : List (List Ref)). record { running = cpu.running; lists = lists })
    (changed_list (ended_by phase) cpu.threads k there ∙ ap (set (map (λ (t : Thread). t.list) cpu.threads) k) (no_list phase (slice_get cpu.threads k)))

ended_idle : (c k : ℕ) (phase : Phase) (p : Plain) → c < length p.cpus → k < length (cpu_at p c).threads → c < CPU_LIMIT → StaysIdle c p p → StaysIdle c p (with_thread (ended_by phase) c k p)
ended_idle c k phase p inside there here stays =
    let cpu = cpu_at p c in
    let empty : IsSoundList (length p.tokens) [] = (omega arith, All-nil (λ (r : Ref). r.tok.0 < length p.tokens)) in
    let lists = subst (AreSoundLists (length p.tokens)) (sym (ended_lists phase k cpu there)) (lists_with (length p.tokens) (lists_of cpu) k [] (lists_sound p c stays.sound inside) empty) in
    thread_idle c k (ended_by phase) p inside stays.idle
    (sound_lists p c (on_thread (ended_by phase) k) inside stays.sound lists (idle_held c (on_thread (ended_by phase) k cpu) p.tokens stays.idle (held_idle p c stays.sound here stays.idle)))

pub ends_idle : (c k : ℕ) (phase : Phase) (p : Plain) → c < length p.cpus → k < length (cpu_at p c).threads → c < CPU_LIMIT → IsSound p → IsIdle p c → StaysIdle c p (ends c k phase p)
ends_idle c k phase p inside there here sound idle =
    let q = leaves c k p in
    let one = leaves_idle c k p (stays_here c p sound idle) in
    let cpus = one.cpus in
    let threads = one.threads in
    stays_on c p q (ends c k phase p) one
    (ended_idle c k phase q (omega (arith, cpus, inside)) (omega (arith, threads, there)) here (stays_here c q one.sound one.idle))

-- a try of a list that was missed
busy_idle : (c k : ℕ) (busy : BusyAt) (p : Plain) → c < length p.cpus → IsSound p → IsIdle p c → StaysIdle c p (with_thread (λ (t : Thread). record t { busy = Some busy }) c k p)
busy_idle c k busy p inside sound idle =
    let f : Thread → Thread = λ t. record t { busy = Some busy } in
    thread_idle c k f p inside idle (sound_by p (with_thread f c k p) (frame_thread f c k p (λ t. refl)) sound)

pub missed_idle : (c k at : ℕ) (why : Miss) (p : Plain) → c < length p.cpus → k < length (cpu_at p c).threads → c < CPU_LIMIT → IsSound p → IsIdle p c → StaysIdle c p (missed_by c k p at why)
missed_idle c k at (Busy word) p inside there here sound idle = busy_idle c k (record { word = word; at = at }) p inside sound idle
missed_idle c k at Worn p inside there here sound idle = ends_idle c k (Faulted WornOut) p inside there here sound idle

-- a thread that may be tried is there
tried_there : (p : Plain) (c k : ℕ) (o : Option Thread) → thread_at p c k ≡ o → option_map_or (λ t. may_try_in t.phase p.tokens t) o false ≡ true → k < length (cpu_at p c).threads
tried_there p c k None at may = absurd (false≢true may)
tried_there p c k (Some t) at may = slice_get_within (cpu_at p c).threads k t at

pub may_there : (p : Plain) (c k : ℕ) → may_try p c k ≡ true → k < length (cpu_at p c).threads
may_there p c k may = tried_there p c k (thread_at p c k) refl may

-- a list that is held now, of a thread of a processor that is idle yet
pub record HeldNow (c k : ℕ) (p q : Plain) : Type 0 where
  pub before : Plain
  pub stays : StaysIdle c p before
  pub tokens : List Token
  pub is : q ≡ with_tokens tokens before
  pub there : k < length (cpu_at before c).threads
  pub keeps : KeepsTokens c before.tokens tokens
  pub held : AreHeld c (list_at before c k) tokens

-- what a try or a search comes to
abbrev pub Comes : ℕ → Plain → Found → Type 0
Comes c p x = ((x.place ≡ None) → StaysIdle c p x.plain) × ((k : ℕ) → x.place ≡ Some k → HeldNow c k p x.plain)

some_not : {A P : Type 0} (x : A) → Some x ≡ None → P
some_not x is = absurd (none-some x (sym is))

none_not : {A P : Type 0} (x : A) → None ≡ Some x → P
none_not x is = absurd (none-some x is)

module _ (c k : ℕ) (p : Plain) (inside : c < length p.cpus) (sound : IsSound p) (idle : IsIdle p c) (here : c < CPU_LIMIT) where
  tried_comes : k < length (cpu_at p c).threads → Comes c p (after_try c k p (resume (record { 0 = c }) p.tokens (list_at p c k)))
  tried_comes there =
      let x = resume (record { 0 = c }) p.tokens (list_at p c k) in
      let r = takes_keeps (record { 0 = c }) (list_at p c k) (list_at p c k) [] p.tokens here sound.tokens (held_idle p c sound here idle) (list_fits p c k sound inside there) in
      go x.missed refl r.keeps r.held
    where
      go : (o : Option Missed) → (resume (record { 0 = c }) p.tokens (list_at p c k)).missed ≡ o → KeepsTokens c p.tokens (resume (record { 0 = c }) p.tokens (list_at p c k)).tokens → AreHeld c (held_of (list_at p c k) (resume (record { 0 = c }) p.tokens (list_at p c k)).missed) (resume (record { 0 = c }) p.tokens (list_at p c k)).tokens → Comes c p (after_try c k p (resume (record { 0 = c }) p.tokens (list_at p c k)))
      go None is keeps held =
          let t = (resume (record { 0 = c }) p.tokens (list_at p c k)).tokens in
          let F : Option Missed → Type 0 = λ o. Comes c p (option_map_or (λ (m : Missed). found (missed_by c k (with_tokens t p) m.at m.why) None) o (found (with_tokens t p) (Some k))) in
          subst F (sym is) (
            λ none. some_not k none,
            λ j same.
                subst (λ (n : ℕ). HeldNow c n p (with_tokens t p)) (same_Some k j same) (record {
                  before = p;
                  stays = stays_here c p sound idle;
                  tokens = t;
                  is = refl;
                  there = there;
                  keeps = keeps;
                  held = subst (λ (o : Option Missed). AreHeld c (held_of (list_at p c k) o) t) is held;
                }),
          )
      go (Some m) is keeps held =
          let t = (resume (record { 0 = c }) p.tokens (list_at p c k)).tokens in
          let F : Option Missed → Type 0 = λ o. Comes c p (option_map_or (λ (m : Missed). found (missed_by c k (with_tokens t p) m.at m.why) None) o (found (with_tokens t p) (Some k))) in
          let nothing : AreHeld c [] t = subst (λ (o : Option Missed). AreHeld c (held_of (list_at p c k) o) t) is held in
          let q = with_tokens t p in
          let ok : IsSound q = sound_tokens p c t inside sound keeps (idle_held c (cpu_at p c) t idle nothing) in
          let one : StaysIdle c p q = record { sound = ok; idle = idle; cpus = refl; threads = refl } in
          subst F (sym is) (λ none. stays_on c p q (missed_by c k q m.at m.why) one (missed_idle c k m.at m.why q inside there here ok idle), λ j same. none_not j same)

  pub try_comes : Comes c p (tries c k p)
  try_comes = go (may_try p c k) refl
    where
      go : (b : Bool) → may_try p c k ≡ b → Comes c p (if b then after_try c k p (resume (record { 0 = c }) p.tokens (list_at p c k)) else found p None)
      go true may = tried_comes (may_there p c k may)
      go false may = (λ none. stays_here c p sound idle, λ j same. none_not j same)

-- the threads of some numbers
pub finds_none : (c : ℕ) (p : Plain) → finds c p [] ≡ found p None
unfolding finds
finds_none c p = refl

abbrev pub find_on : ℕ → List ℕ → Found → Found
find_on c ks x = if is_some x.place then x else finds c x.plain ks

pub finds_more : (c : ℕ) (p : Plain) (k : ℕ) (ks : List ℕ) → finds c p (k ∷ ks) ≡ find_on c ks (tries c k p)
unfolding finds
finds_more c p k ks = refl

held_on : (c k : ℕ) (p q r : Plain) → StaysIdle c p q → HeldNow c k q r → HeldNow c k p r
held_on c k p q r one held = record { before = held.before; stays = stays_on c p q held.before one held.stays; tokens = held.tokens; is = held.is; there = held.there; keeps = held.keeps; held = held.held }

found_on : (c : ℕ) (p : Plain) (ks : List ℕ) (x : Found) (o : Option ℕ) → x.place ≡ o → Comes c p x → (StaysIdle c p x.plain → Comes c x.plain (finds c x.plain ks)) → Comes c p (find_on c ks x)
found_on c p ks x None is comes ih =
    let stays = comes.0 is in
    let more = ih stays in
    let F : Bool → Type 0 = λ b. Comes c p (if b then x else finds c x.plain ks) in
    subst F (sym (ap is_some is)) (λ none. stays_on c p x.plain (finds c x.plain ks).plain stays (more.0 none), λ k same. held_on c k p x.plain (finds c x.plain ks).plain stays (more.1 k same))
found_on c p ks x (Some k) is comes ih =
    let F : Bool → Type 0 = λ b. Comes c p (if b then x else finds c x.plain ks) in
    subst F (sym (ap is_some is)) comes

pub finds_come : (c : ℕ) (ks : List ℕ) (p : Plain) → c < length p.cpus → IsSound p → IsIdle p c → c < CPU_LIMIT → Comes c p (finds c p ks)
finds_come c [] p inside sound idle here = subst (Comes c p) (sym (finds_none c p)) (λ none. stays_here c p sound idle, λ k same. none_not k same)
finds_come c (k ∷ ks) p inside sound idle here =
    let x = tries c k p in
    subst (Comes c p) (sym (finds_more c p k ks)) (found_on c p ks x x.place refl (try_comes c k p inside sound idle here)
    (λ stays. (let cpus = stays.cpus in finds_come c ks x.plain (omega (arith, cpus, inside)) stays.sound stays.idle here)))

-- the threads of some numbers, one after another
pub scan_hit : (c : ℕ) (p q : Plain) (k n m : ℕ) → n ≡ suc m → found q (Some k) ≡ tries c k p → finds c p (range_with_len k n) ≡ found q (Some k)
scan_hit c p q k n m e tried =
    ap (λ (i : ℕ). finds c p (range_with_len k i)) e ∙ finds_more c p k (range_with_len (k + 1) m) ∙ ap (find_on c (range_with_len (k + 1) m)) (sym tried)

pub scan_miss : (c : ℕ) (p q : Plain) (k n m : ℕ) → n ≡ suc m → found q None ≡ tries c k p → finds c p (range_with_len k n) ≡ finds c q (range_with_len (k + 1) m)
scan_miss c p q k n m e tried =
    ap (λ (i : ℕ). finds c p (range_with_len k i)) e ∙ finds_more c p k (range_with_len (k + 1) m) ∙ ap (find_on c (range_with_len (k + 1) m)) (sym tried)

pub scan_end : (c : ℕ) (p : Plain) (k n : ℕ) → n ≡ 0 → finds c p (range_with_len k n) ≡ found p None
scan_end c p k n e = ap (λ (i : ℕ). finds c p (range_with_len k i)) e ∙ finds_none c p

find_twice : (c : ℕ) (xs ys : List ℕ) (x : Found) (o : Option ℕ) → x.place ≡ o → (finds c x.plain (xs ++ ys) ≡ find_on c ys (finds c x.plain xs)) → find_on c (xs ++ ys) x ≡ find_on c ys (find_on c xs x)
find_twice c xs ys x None is ih =
    let F : Bool → Found = λ b. if b then x else finds c x.plain (xs ++ ys) in
    let G : Bool → Found = λ b. find_on c ys (if b then x else finds c x.plain xs) in
    let no : is_some x.place ≡ false = ap is_some is in
    ap F no ∙ ih ∙ sym (ap G no)
find_twice c xs ys x (Some k) is ih =
    let F : Bool → Found = λ b. if b then x else finds c x.plain (xs ++ ys) in
    let G : Bool → Found = λ b. find_on c ys (if b then x else finds c x.plain xs) in
    let H : Bool → Found = λ b. if b then x else finds c x.plain ys in
    let yes : is_some x.place ≡ true = ap is_some is in
    ap F yes ∙ sym (ap H yes) ∙ sym (ap G yes)

pub finds_append : (c : ℕ) (xs ys : List ℕ) (p : Plain) → finds c p (xs ++ ys) ≡ find_on c ys (finds c p xs)
finds_append c [] ys p = sym (ap (find_on c ys) (finds_none c p))
finds_append c (k ∷ xs) ys p =
    finds_more c p k (xs ++ ys)
    ∙ find_twice c xs ys (tries c k p) (tries c k p).place refl (finds_append c xs ys (tries c k p).plain)
    ∙ sym (ap (find_on c ys) (finds_more c p k xs))

-- a search that found none
pub after_none : (c : ℕ) (p q : Plain) (ks : List ℕ) → c < length p.cpus → IsSound p → IsIdle p c → found q None ≡ finds c p ks → StaysIdle c p q
after_none c p q ks inside sound idle is =
    let few = few_cpus p sound in
    let comes = finds_come c ks p inside sound idle (omega (arith, few, inside)) in
    subst (StaysIdle c p) (ap (λ (x : Found). x.plain) (sym is)) (comes.0 (ap (λ (x : Found). x.place) (sym is)))

-- the number of a thread that was found
pub found_small : (c k : ℕ) (p q : Plain) (ks : List ℕ) → c < length p.cpus → IsSound p → IsIdle p c → found q (Some k) ≡ finds c p ks → k < 16
found_small c k p q ks inside sound idle is =
    let few = few_cpus p sound in
    let comes = finds_come c ks p inside sound idle (omega (arith, few, inside)) in
    let now = comes.1 k (ap (λ (x : Found). x.place) (sym is)) in
    let there = now.there in
    let most = few_threads now.before c now.stays.sound in
    omega (arith, there, most)
