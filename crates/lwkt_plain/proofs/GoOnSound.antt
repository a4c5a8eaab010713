-- What comes next after an ask leaves a sound state.
use Rattle.std.proofs.Common.{◌≡◌, ◌≢◌, ◌<◌, ◌≤◌, ◌+◌, ◌-◌, ℕ, zero, suc, List, [], ◌∷◌, ◌++◌, length, get_or, set, map, take, refl, ap, sym, ◌∙◌, subst, arith, Option, Some, None, Bool, true, false, length-set}
use Rattle.std.specs.Prelude.{slice_get, slice_set, All, IfSome, if◌then◌else◌}
use Rattle.std.specs.Option.{option_map_or}
use Rattle.std.proofs.lemmas.List.{length-map, get_or-set_same, set-set, take_all}
use Rattle.std.proofs.lemmas.Option.{slice_get_within, slice_get-get_or, get_or_from_slice_get, none-some}
use Rattle.lwkt_base.specs.declared.names.CpuId.{CpuId}
use Rattle.lwkt_base.specs.declared.names.Ref.{Ref}
use Rattle.lwkt_base.specs.declared.asks.Answer.{Answer}
use Rattle.lwkt_base.specs.declared.asks.Answer.TheVariants.{Done}
use Rattle.lwkt_base.specs.declared.faults.Fault.TheVariants.{Broken}
use Rattle.lwkt_base.specs.declared.limits.TheConstants.{CPU_LIMIT}
use Rattle.lwkt_core.specs.declared.tokens.Token.{Token}
use Rattle.lwkt_core.specs.Machine.{changed}
use Rattle.lwkt_plain.specs.declared.nexts.Next.{Next}
use Rattle.lwkt_plain.specs.declared.nexts.Next.TheVariants.{Runs, Leaves}
use Rattle.lwkt_plain.specs.declared.states.Phase.{Phase}
use Rattle.lwkt_plain.specs.declared.states.Phase.TheVariants.{Faulted}
use Rattle.lwkt_plain.specs.declared.states.Plain.{Plain}
use Rattle.lwkt_plain.specs.declared.states.Processor.{Processor}
use Rattle.lwkt_plain.specs.declared.states.Thread.{Thread}
use Rattle.lwkt_plain.specs.Intakes.{has_ended}
use Rattle.lwkt_plain.specs.Places.{cpu_at, thread_at, no_processor, with_cpu, with_thread, with_tokens}
use Rattle.lwkt_plain.specs.Sound.{AreSoundTokens, AreHeld, KeepsTokens, Lists, lists_of, frame, running_refs, IsSoundList, AreSoundLists, IsSound}
use Rattle.lwkt_plain.specs.Tokens.{gives}
use Rattle.lwkt_plain.specs.Turns.{list_at, with_list, ends, rests, becomes, gives_up, breaks, goes_on, still_held, GivesWithin, IsRunning, IsIdle}
use Rattle.lwkt_plain.proofs.Changes.{changed_in, changed_out, get_or_changed}
use Rattle.lwkt_plain.proofs.Frames.{frame_thread, sound_by}
use Rattle.lwkt_plain.proofs.TokenSteps.{keeps_same, keeps_both}
use Rattle.lwkt_plain.proofs.Givings.{gives_keeps}
use Rattle.lwkt_plain.proofs.Soundness.{lists_sound, few_cpus, sound_cpu, on_thread, changed_list, lists_with, list_fits, held_running}
use Rattle.lwkt_plain.proofs.TurnSound.{length_changed, ends_idle}

-- an element changed twice
changed_twice : {A : Type 0} (f g : A → A) (xs : List A) (i : ℕ) → changed f (changed g xs i) i ≡ changed (λ x. f (g x)) xs i
changed_twice f g [] i = refl
changed_twice f g (x ∷ xs) zero = refl
changed_twice {A} f g (x ∷ xs) (suc i) =
    ap (λ (ys : List A). changed f ys (suc i)) (changed_tail g) ∙ changed_on f (changed g xs i) ∙ ap (λ (ys : List A). x ∷ ys) (changed_twice f g xs i) ∙ sym (changed_tail (λ y. f (g y)))
  where
    changed_on : (h : A → A) (ys : List A) → changed h (x ∷ ys) (suc i) ≡ x ∷ changed h ys i
    changed_on h ys = go (slice_get ys i)
      where
        go : (o : Option A) → option_map_or (λ y. slice_set (x ∷ ys) (suc i) (h y)) o (x ∷ ys) ≡ x ∷ option_map_or (λ y. slice_set ys i (h y)) o ys
        go None = refl
        go (Some y) = refl

    changed_tail : (h : A → A) → changed h (x ∷ xs) (suc i) ≡ x ∷ changed h xs i
    changed_tail h = changed_on h xs

-- a thread's list put there
abbrev put : List Ref → Thread → Thread
put refs t = record t { list = refs }

put_list : (refs : List Ref) (k : ℕ) (threads : List Thread) → k < length threads → option_map_or (λ (t : Thread). (put refs t).list) (slice_get threads k) [] ≡ refs
put_list refs k [] inside = absurd (omega arith)
put_list refs zero (t ∷ ts) inside = refl
put_list refs (suc k) (t ∷ ts) inside = put_list refs k ts (omega arith)

put_lists : (refs : List Ref) (k : ℕ) (cpu : Processor) → k < length cpu.threads → lists_of (on_thread (put refs) k cpu) ≡ record (lists_of cpu) { lists = set (map (λ (t : Thread). t.list) cpu.threads) k refs }
put_lists refs k cpu there =
    ap (λ (lists : List (List Ref)). record { running = cpu.running; lists = lists })
    (changed_list (put refs) cpu.threads k there ∙ ap (set (map (λ (t : Thread). t.list) cpu.threads) k) (put_list refs k cpu.threads there))

-- a state after an ask: that of a sound one, with other tokens and another list of the running thread
pub record LeavesSoundly (c k : ℕ) (x : Plain) (next : Next) : Type 0 where
  pub before : Plain
  pub sound : IsSound before
  pub inside : c < length before.cpus
  pub there : k < length (cpu_at before c).threads
  pub running : IsRunning before c k
  pub tokens : List Token
  pub refs : List Ref
  pub is : x ≡ with_list refs c k (with_tokens tokens before)
  pub keeps : KeepsTokens c before.tokens tokens
  pub held : AreHeld c (still_held next refs) tokens
  pub fits : IsSoundList (length tokens) refs
  pub within : GivesWithin next (length refs)

module _ (c k : ℕ) (p : Plain) (sound : IsSound p) (inside : c < length p.cpus) (there : k < length (cpu_at p c).threads) (tokens : List Token) (refs : List Ref) (keeps : KeepsTokens c p.tokens tokens) (fits : IsSoundList (length tokens) refs) where
  lists_put : AreSoundLists (length p.tokens) (record (lists_of (cpu_at p c)) { lists = set (map (λ (t : Thread). t.list) (cpu_at p c).threads) k refs })
  lists_put = lists_with (length p.tokens) (lists_of (cpu_at p c)) k refs (lists_sound p c sound inside) (subst (λ (n : ℕ). IsSoundList n refs) keeps.same fits)

  -- the thread goes on running
  put_runs : IsRunning p c k → AreHeld c refs tokens → IsSound (with_list refs c k (with_tokens tokens p))
  put_runs running held =
      let cpu = cpu_at p c in
      let is = put_lists refs k cpu there in
      let long = length-map cpu.threads (λ (t : Thread). t.list) in
      let own : running_refs (lists_of (on_thread (put refs) k cpu)) ≡ refs =
      ap running_refs is
      ∙ ap (λ (o : Option ℕ). option_map_or (λ j. get_or (set (map (λ (t : Thread). t.list) cpu.threads) k refs) j []) o []) running
      ∙ get_or-set_same (map (λ (t : Thread). t.list) cpu.threads) k refs [] (omega (arith, long, there)) in
      sound_cpu p c tokens (on_thread (put refs) k) inside sound keeps (subst (AreSoundLists (length p.tokens)) (sym is) lists_put)
      (subst (λ (all : List Ref). AreHeld c all tokens) (sym own) held)

  -- or no thread does
  put_rests : AreHeld c [] tokens → IsSound (with_cpu (λ (cpu : Processor). record (on_thread (put refs) k cpu) { running = None }) c (with_tokens tokens p))
  put_rests held =
      let cpu = cpu_at p c in
      let is = put_lists refs k cpu there in
      let rest : lists_of (record (on_thread (put refs) k cpu) { running = None }) ≡ record { running = None; lists = set (map (λ (t : Thread). t.list) cpu.threads) k refs } =
      ap (λ (l : Lists). record l { running = None }) is in
      let all : AreSoundLists (length p.tokens) (record { running = None; lists = set (map (λ (t : Thread). t.list) cpu.threads) k refs }) =
      record { few = lists_put.few; each = lists_put.each; running = tt } in
      sound_cpu p c tokens (λ (x : Processor). record (on_thread (put refs) k x) { running = None }) inside sound keeps (subst (AreSoundLists (length p.tokens)) (sym rest) all)
      (subst (λ (l : Lists). AreHeld c (running_refs l) tokens) (sym rest) held)

-- a thread goes on
runs_sound : (cpu : CpuId) (k : ℕ) (x : Plain) (answer : Answer) → LeavesSoundly cpu.0 k x (Runs answer) → IsSound (goes_on cpu k x (Runs answer))
runs_sound cpu k x answer so =
    let f : Thread → Thread = λ t. record t { last = answer } in
    let ok : IsSound x = subst IsSound (sym so.is) (put_runs cpu.0 k so.before so.sound so.inside so.there so.tokens so.refs so.keeps so.fits so.running so.held) in
    sound_by x (with_thread f cpu.0 k x) (frame_thread f cpu.0 k x (λ t. refl)) ok

-- an element that was changed
pub get_changed : {A : Type 0} (f : A → A) (xs : List A) (i : ℕ) → i < length xs → slice_get (changed f xs i) i ≡ option_map_or (λ x. Some (f x)) (slice_get xs i) None
get_changed f [] i inside = absurd (omega arith)
get_changed f (x ∷ xs) zero inside = refl
get_changed {A} f (x ∷ xs) (suc i) inside = ap (λ (ys : List A). slice_get ys (suc i)) (changed_on (slice_get xs i)) ∙ get_changed f xs i (omega arith)
  where
    changed_on : (o : Option A) → option_map_or (λ y. slice_set (x ∷ xs) (suc i) (f y)) o (x ∷ xs) ≡ x ∷ option_map_or (λ y. slice_set xs i (f y)) o xs
    changed_on None = refl
    changed_on (Some y) = refl

put_got : (refs : List Ref) (threads : List Thread) (k : ℕ) → k < length threads → option_map_or (λ (t : Thread). t.list) (slice_get (changed (put refs) threads k) k) [] ≡ refs
put_got refs threads k there =
    ap (λ (o : Option Thread). option_map_or (λ (t : Thread). t.list) o []) (get_changed (put refs) threads k there) ∙ of_put (slice_get threads k) ∙ put_list refs k threads there
  where
    of_put : (o : Option Thread) → option_map_or (λ (t : Thread). t.list) (option_map_or (λ (t : Thread). Some (put refs t)) o None) [] ≡ option_map_or (λ (t : Thread). (put refs t).list) o []
    of_put None = refl
    of_put (Some t) = refl

-- the list of a thread that was put there
pub put_at : (refs : List Ref) (c k : ℕ) (tokens : List Token) (p : Plain) → c < length p.cpus → k < length (cpu_at p c).threads → list_at (with_list refs c k (with_tokens tokens p)) c k ≡ refs
put_at refs c k tokens p inside there =
    ap (λ (cpu : Processor). option_map_or (λ (t : Thread). t.list) (slice_get cpu.threads k) []) (get_or_changed (on_thread (put refs) k) p.cpus c no_processor inside)
    ∙ put_got refs (cpu_at p c).threads k there

-- a thread gives up what it holds, and no thread runs
module _ (cpu : CpuId) (k held : ℕ) (phase : Phase) (x : Plain) (so : LeavesSoundly cpu.0 k x (Leaves held phase)) (here : cpu.0 < CPU_LIMIT) where
  kept : KeepsTokens cpu.0 so.before.tokens (gives cpu so.tokens (take held so.refs)).tokens × AreHeld cpu.0 [] (gives cpu so.tokens (take held so.refs)).tokens
  kept =
      let one = gives_keeps so.tokens cpu [] (take held so.refs) here so.keeps.sound so.held in
      (keeps_both cpu.0 so.before.tokens so.tokens (gives cpu so.tokens (take held so.refs)).tokens so.keeps one.0, one.1)

  rested : gives_up cpu k held x ≡ with_cpu (λ (y : Processor). record (on_thread (put so.refs) k y) { running = None }) cpu.0 (with_tokens (gives cpu so.tokens (take held so.refs)).tokens so.before)
  rested =
      let t = (gives cpu so.tokens (take held so.refs)).tokens in
      let q = with_list so.refs cpu.0 k (with_tokens so.tokens so.before) in
      ap (gives_up cpu k held) so.is
      ∙ ap (λ (refs : List Ref). rests cpu.0 (with_tokens (gives cpu so.tokens (take held refs)).tokens q)) (put_at so.refs cpu.0 k so.tokens so.before so.inside so.there)
      ∙ ap (λ (cpus : List Processor). record { tokens = t; letters = so.before.letters; mails = so.before.mails; cpus = cpus })
      (changed_twice (λ (y : Processor). record y { running = None }) (on_thread (put so.refs) k) so.before.cpus cpu.0)

  up_sound : IsSound (gives_up cpu k held x)
  up_sound =
      subst IsSound (sym rested)
      (put_rests cpu.0 k so.before so.sound so.inside so.there (gives cpu so.tokens (take held so.refs)).tokens so.refs kept.0
      (subst (λ (n : ℕ). IsSoundList n so.refs) (so.keeps.same ∙ sym kept.0.same) so.fits) kept.1)

  cpu_now : cpu_at (gives_up cpu k held x) cpu.0 ≡ record (on_thread (put so.refs) k (cpu_at so.before cpu.0)) { running = None }
  cpu_now =
      ap (λ (p : Plain). cpu_at p cpu.0) rested
      ∙ get_or_changed (λ (y : Processor). record (on_thread (put so.refs) k y) { running = None }) so.before.cpus cpu.0 no_processor so.inside

  becomes_sound : (b : Bool) (other : Phase) → has_ended other ≡ b → IsSound (if b then ends cpu.0 k other (gives_up cpu k held x) else with_thread (λ (t : Thread). record t { phase = other; last = Done }) cpu.0 k (gives_up cpu k held x))
  becomes_sound true other is =
      let q = gives_up cpu k held x in
      let cpus : length q.cpus ≡ length so.before.cpus = ap (λ (p : Plain). length p.cpus) rested ∙ length_changed (λ (y : Processor). record (on_thread (put so.refs) k y) { running = None }) so.before.cpus cpu.0 in
      let threads : length (cpu_at q cpu.0).threads ≡ length (cpu_at so.before cpu.0).threads =
      ap (λ (y : Processor). length y.threads) cpu_now ∙ length_changed (put so.refs) (cpu_at so.before cpu.0).threads k in
      let inside = so.inside in
      let there = so.there in
      (ends_idle cpu.0 k other q (omega (arith, cpus, inside)) (omega (arith, threads, there)) here up_sound (ap (λ (y : Processor). y.running) cpu_now)).sound
  becomes_sound false other is =
      let f : Thread → Thread = λ t. record t { phase = other; last = Done } in
      let q = gives_up cpu k held x in
      sound_by q (with_thread f cpu.0 k q) (frame_thread f cpu.0 k q (λ t. refl)) up_sound

  leaves_sound : IsSound (goes_on cpu k x (Leaves held phase))
  leaves_sound =
      let other = if breaks cpu k held x then Faulted Broken else phase in
      becomes_sound (has_ended other) other refl

-- whatever comes next, the state is sound
pub goes_on_sound : (cpu : CpuId) (k : ℕ) (x : Plain) (next : Next) → LeavesSoundly cpu.0 k x next → cpu.0 < CPU_LIMIT → IsSound (goes_on cpu k x next)
goes_on_sound cpu k x (Runs answer) so here = runs_sound cpu k x answer so
goes_on_sound cpu k x (Leaves held phase) so here = leaves_sound cpu k held phase x so here
