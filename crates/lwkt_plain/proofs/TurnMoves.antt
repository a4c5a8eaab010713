-- A turn by its parts.
use Rattle.std.proofs.Common.{◌≡◌, ◌<◌, ◌≤◌, ◌+◌, ℕ, zero, suc, List, [], ◌∷◌, length, map, refl, ap, sym, ◌∙◌, subst, arith, Option, Some, None}
use Rattle.std.specs.Prelude.{slice_get, Result, Ok, Err, OnOk}
use Rattle.std.specs.Option.{option_map_or}
use Rattle.std.proofs.lemmas.List.{length-map}
use Rattle.lwkt_base.specs.declared.names.CpuId.{CpuId}
use Rattle.lwkt_base.specs.declared.asks.Ask.{Ask}
use Rattle.lwkt_base.specs.declared.limits.TheConstants.{CPU_LIMIT}
use Rattle.lwkt_code.specs.Programs.{Program}
use Rattle.lwkt_script.specs.declared.scripts.Script.{Script}
use Rattle.lwkt_script.specs.declared.scripts.ThreadSpec.{ThreadSpec}
use Rattle.lwkt_plain.specs.declared.nexts.Next.{Next}
use Rattle.lwkt_plain.specs.declared.states.Plain.{Plain}
use Rattle.lwkt_plain.specs.declared.states.Processor.{Processor}
use Rattle.lwkt_plain.specs.declared.states.Thread.{Thread}
use Rattle.lwkt_plain.specs.Places.{cpu_at, thread_at, no_processor, with_thread}
use Rattle.lwkt_plain.specs.Intakes.{takes_mail}
use Rattle.lwkt_plain.specs.Sound.{Frame, lists_of, frame, AreSoundTokens, IsSound}
use Rattle.lwkt_plain.specs.Turns.{Found, found, chooses, spec_at, next_of, polled, Performed, performed, performs, goes_on, makes, polls_thread, polls_at, turn, IsRunning, MayGoOn}
use Rattle.lwkt_plain.proofs.Changes.{get_or_changed}
use Rattle.lwkt_plain.proofs.Frames.{frame_thread, takes_mail_frame, sound_by}
use Rattle.lwkt_plain.proofs.Soundness.{few_cpus, on_thread}
use Rattle.lwkt_plain.proofs.TurnSound.{length_changed}
use Rattle.lwkt_plain.proofs.ChosenSound.{RunsNow}
use Rattle.lwkt_plain.proofs.GoOnSound.{LeavesSoundly, goes_on_sound}
use Rattle.lwkt_plain.proofs.PollSound.{performs_soundly, may_go_on}

pub same_cpus : (p q : Plain) → frame q ≡ frame p → length q.cpus ≡ length p.cpus
same_cpus p q same = sym (length-map q.cpus lists_of) ∙ ap (λ (f : Frame). length f.cpus) same ∙ length-map p.cpus lists_of

pub mail_inside : (p q : Plain) (c : ℕ) → q ≡ takes_mail c p → c < length p.cpus → c < length q.cpus
mail_inside p q c is inside = (let same = same_cpus p q (ap frame is ∙ takes_mail_frame c p) in omega (arith, same, inside))

-- what holds where a result is right
pub on_ok : {T E P Q : Type 0} (r : Result T E) → (P → Q) → OnOk r P → OnOk r Q
on_ok (Ok x) so p = so p
on_ok (Err e) so p = p

pub turn_some : (script : Script) (c : ℕ) (p mid q n : Plain) (k : ℕ) → mid ≡ takes_mail c p → found q (Some k) ≡ chooses c mid → n ≡ polls_at script c q k → n ≡ turn script p c
turn_some script c p mid q n k mail chose polls =
    let F : Found → Plain = λ x. option_map_or (polls_at script c x.plain) x.place x.plain in
    polls ∙ ap F (chose ∙ ap (chooses c) mail)

pub turn_none : (script : Script) (c : ℕ) (p mid q : Plain) → mid ≡ takes_mail c p → found q None ≡ chooses c mid → q ≡ turn script p c
turn_none script c p mid q mail chose =
    let F : Found → Plain = λ x. option_map_or (polls_at script c x.plain) x.place x.plain in
    ap F (chose ∙ ap (chooses c) mail)

-- a thread that is polled runs on
pub polled_runs : (c k : ℕ) (program : Program) (p q : Plain) → c < length p.cpus → k < length (cpu_at p c).threads → IsSound p → IsRunning p c k → q ≡ with_thread (polled program) c k p → RunsNow c k p q
polled_runs c k program p q inside there sound running is =
    let r = with_thread (polled program) c k p in
    let at : cpu_at r c ≡ on_thread (polled program) k (cpu_at p c) = get_or_changed (on_thread (polled program) k) p.cpus c no_processor inside in
    subst (RunsNow c k p) (sym is) (record {
      sound = sound_by p r (frame_thread (polled program) c k p (λ t. refl)) sound;
      running = ap (λ (x : Processor). x.running) at ∙ running;
      there = (let same = ap (λ (x : Processor). length x.threads) at in let long = length_changed (polled program) (cpu_at p c).threads k in omega (arith, same, long, there));
      cpus = length_changed (on_thread (polled program) k) p.cpus c;
    })

-- an ask that was performed
pub performed_soundly : (c k : ℕ) (p x : Plain) (next : Next) (ask : Ask) → IsSound p → c < length p.cpus → k < length (cpu_at p c).threads → IsRunning p c k → performed x next ≡ performs (record { 0 = c }) k p ask → LeavesSoundly c k x next
performed_soundly c k p x next ask sound inside there running is =
    let S : Performed → Type 0 = λ y. LeavesSoundly c k y.plain y.next in
    subst S (sym is) (performs_soundly (record { 0 = c }) k p ask sound inside there running)

pub goes_soundly : (c k : ℕ) (x n : Plain) (next : Next) → LeavesSoundly c k x next → c < CPU_LIMIT → n ≡ goes_on (record { 0 = c }) k x next → IsSound n
goes_soundly c k x n next so here is = subst IsSound (sym is) (goes_on_sound (record { 0 = c }) k x next so here)

pub tokens_soundly : (c k : ℕ) (x : Plain) (next : Next) → LeavesSoundly c k x next → AreSoundTokens x.tokens
tokens_soundly c k x next so = subst AreSoundTokens (sym (ap (λ (p : Plain). p.tokens) so.is)) so.keeps.sound

-- an ask that was made
pub makes_is : (c k : ℕ) (p x n : Plain) (next : Next) (ask : Ask) → performed x next ≡ performs (record { 0 = c }) k p ask → n ≡ goes_on (record { 0 = c }) k x next → n ≡ makes (record { 0 = c }) k p ask
makes_is c k p x n next ask done goes =
    let G : Performed → Plain = λ y. goes_on (record { 0 = c }) k y.plain y.next in
    goes ∙ ap G done

-- a poll by its parts
pub polls_is : (script : Script) (c k : ℕ) (p n : Plain) (spec : ThreadSpec) (t : Thread) → spec_at script c k ≡ Some spec → thread_at p c k ≡ Some t → n ≡ makes (record { 0 = c }) k (with_thread (polled spec.code) c k p) (next_of spec.code t).0 → n ≡ polls_at script c p k
polls_is script c k p n spec t plan at made =
    let F : Option ThreadSpec → Plain = λ o. option_map_or (λ (s : ThreadSpec). option_map_or (polls_thread (record { 0 = c }) k p s.code) (thread_at p c k) p) o p in
    made ∙ sym (ap F plan ∙ ap (λ (o : Option Thread). option_map_or (polls_thread (record { 0 = c }) k p spec.code) o p) at)

pub polls_not : (script : Script) (c k : ℕ) (p : Plain) → spec_at script c k ≡ None → p ≡ polls_at script c p k
polls_not script c k p none =
    let F : Option ThreadSpec → Plain = λ o. option_map_or (λ (s : ThreadSpec). option_map_or (polls_thread (record { 0 = c }) k p s.code) (thread_at p c k) p) o p in
    sym (ap F none)

-- a thread that is there
some_at : (xs : List Thread) (k : ℕ) → k < length xs → (t : Thread) × (slice_get xs k ≡ Some t)
some_at [] k inside = absurd (omega arith)
some_at (x ∷ xs) zero inside = (x, refl)
some_at (x ∷ xs) (suc k) inside = some_at xs k (omega arith)

pub thread_there : (p : Plain) (c k : ℕ) → k < length (cpu_at p c).threads → (t : Thread) × (thread_at p c k ≡ Some t)
thread_there p c k there = some_at (cpu_at p c).threads k there

-- a state after an ask has the same processors and threads
pub still_inside : (c k : ℕ) (x : Plain) (next : Next) → LeavesSoundly c k x next → (c < length x.cpus) × (k < length (cpu_at x c).threads) × (length x.cpus ≤ CPU_LIMIT)
still_inside c k x next so =
    let b = so.before in
    let f : Thread → Thread = λ t. record t { list = so.refs } in
    let cpus : length x.cpus ≡ length b.cpus = ap (λ (p : Plain). length p.cpus) so.is ∙ length_changed (on_thread f k) b.cpus c in
    let at : cpu_at x c ≡ on_thread f k (cpu_at b c) = ap (λ (p : Plain). cpu_at p c) so.is ∙ get_or_changed (on_thread f k) b.cpus c no_processor so.inside in
    let threads : length (cpu_at x c).threads ≡ length (cpu_at b c).threads = ap (λ (y : Processor). length y.threads) at ∙ length_changed f (cpu_at b c).threads k in
    let inside = so.inside in
    let there = so.there in
    let few = few_cpus b so.sound in
    (omega (arith, cpus, inside), omega (arith, threads, there), omega (arith, cpus, few))
