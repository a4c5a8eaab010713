-- Turns don't tell states of one form apart.
use Rattle.std.proofs.Common.{◌≡◌, ◌<◌, ◌≤◌, ◌+◌, ℕ, zero, suc, List, [], ◌∷◌, length, map, refl, ap, sym, ◌∙◌, subst, arith, Option, Some, None, Bool, true, false}
use Rattle.std.specs.Prelude.{slice_get, option_map, if◌then◌else◌, All, IfSome}
use Rattle.std.specs.Option.{option_map_or}
use Rattle.std.proofs.lemmas.List.{length-map}
use Rattle.std.proofs.lemmas.List.FromFn.{length-range_with_len}
use Rattle.std.proofs.lemmas.Option.{none-some, same_Some}
use Rattle.lwkt_base.specs.declared.names.CpuId.{CpuId}
use Rattle.lwkt_base.specs.declared.asks.Ask.{Ask}
use Rattle.lwkt_base.specs.declared.asks.Answer.{Answer}
use Rattle.lwkt_base.specs.declared.asks.Answer.TheVariants.{Done}
use Rattle.lwkt_base.specs.declared.faults.Fault.TheVariants.{Broken}
use Rattle.lwkt_base.specs.declared.limits.TheConstants.{CPU_LIMIT}
use Rattle.lwkt_code.specs.declared.locals.Local.{Local}
use Rattle.lwkt_code.specs.Programs.{Program}
use Rattle.lwkt_core.specs.declared.tokens.Token.{Token}
use Rattle.lwkt_core.specs.Opening.{opened_token, AllOpenLawfully}
use Rattle.lwkt_script.specs.declared.scripts.Script.{Script}
use Rattle.lwkt_script.specs.declared.scripts.ThreadSpec.{ThreadSpec}
use Rattle.lwkt_script.specs.Limits.{IsWithinLimits}
use Rattle.lwkt_plain.specs.declared.nexts.Next.{Next}
use Rattle.lwkt_plain.specs.declared.nexts.Next.TheVariants.{Runs, Leaves}
use Rattle.lwkt_plain.specs.declared.states.Phase.{Phase}
use Rattle.lwkt_plain.specs.declared.states.Phase.TheVariants.{Faulted}
use Rattle.lwkt_plain.specs.declared.states.Plain.{Plain}
use Rattle.lwkt_plain.specs.declared.states.Processor.{Processor}
use Rattle.lwkt_plain.specs.declared.states.Thread.{Thread}
use Rattle.lwkt_plain.specs.Forms.{kept_word, thread_by, cpu_by, form, FormsRespectTurns}
use Rattle.lwkt_plain.specs.Intakes.{below, has_ended, takes_mail}
use Rattle.lwkt_plain.specs.Mailing.{Mailed}
use Rattle.lwkt_plain.specs.Openings.{opened_cpu, opened}
use Rattle.lwkt_plain.specs.Places.{cpu_at, thread_at, no_processor, with_cpu, with_thread, with_tokens}
use Rattle.lwkt_plain.specs.Sound.{lists_of, IsSound}
use Rattle.lwkt_plain.specs.TokenAsks.{Asked}
use Rattle.lwkt_plain.specs.Turns.{list_at, ends, ended_by, leaves, Found, chooses, spec_at, next_of, polled, Performed, performed, with_list, of_tokens, of_mail, token_ask, mail_ask, phase_for, performs, rests, becomes, gives_up, breaks, goes_on, makes, polls_thread, polls_at, turn, run, IsRunning}
use Rattle.lwkt_plain.proofs.Changes.{get_or_changed}
use Rattle.lwkt_plain.proofs.Frames.{takes_mail_frame, sound_by}
use Rattle.lwkt_plain.proofs.Soundness.{few_cpus, on_thread}
use Rattle.lwkt_plain.proofs.TurnSound.{length_changed, leaves_cpus}
use Rattle.lwkt_plain.proofs.ChosenSound.{RunsNow, Chosen, chosen}
use Rattle.lwkt_plain.proofs.GoOnSound.{LeavesSoundly, goes_on_sound, get_changed}
use Rattle.lwkt_plain.proofs.MailSound.{MailsSoundly, mail_soundly}
use Rattle.lwkt_plain.proofs.PollSound.{performs_soundly}
use Rattle.lwkt_plain.proofs.TurnMoves.{mail_inside, same_cpus, polled_runs, thread_there}
use Rattle.lwkt_plain.proofs.OpenedSound.{opened_sound, openable}
use Rattle.lwkt_plain.proofs.FormLaws.{opened_by}
use Rattle.lwkt_plain.proofs.OldWords.{sift, may_be, AreOld}
use Rattle.lwkt_plain.proofs.Alikes.{Alike, alike_self, alike_sym, alike_form, same_thread, alike_thread, alike_mail, HasNoWord, form_sound}
use Rattle.lwkt_plain.proofs.TryForms.{SameFound, chooses_alike}
use Rattle.lwkt_plain.proofs.AskForms.{makes_alike}

-- a thread that was polled has no word
polled_none : (program : Program) (c k : ℕ) (p : Plain) → c < length p.cpus → k < length (cpu_at p c).threads → HasNoWord (with_thread (polled program) c k p) c k
polled_none program c k p inside there t at =
    let f = polled program in
    let one = thread_there p c k there in
    let here : cpu_at (with_thread f c k p) c ≡ on_thread f k (cpu_at p c) = get_or_changed (on_thread f k) p.cpus c no_processor inside in
    let got : Some t ≡ Some (f one.0) =
    sym at
    ∙ ap (λ (cpu : Processor). slice_get cpu.threads k) here
    ∙ get_changed f (cpu_at p c).threads k there
    ∙ ap (λ (o : Option Thread). option_map_or (λ (x : Thread). Some (f x)) o None) one.1 in
    ap (λ (x : Thread). x.busy) (same_Some t (f one.0) got)

-- a thread that runs in a sound state
pub record Ready (c k : ℕ) (p : Plain) : Type 0 where
  pub inside : c < length p.cpus
  pub there : k < length (cpu_at p c).threads
  pub sound : IsSound p
  pub running : IsRunning p c k

pub ready_by : (c k : ℕ) (p q : Plain) → c < length p.cpus → RunsNow c k p q → Ready c k q
ready_by c k p q inside now =
    let same = now.cpus in
    record { inside = omega (arith, same, inside); there = now.there; sound = now.sound; running = now.running }

pub ready_polled : (c k : ℕ) (program : Program) (p : Plain) → Ready c k p → Ready c k (with_thread (polled program) c k p)
ready_polled c k program p r =
    ready_by c k p (with_thread (polled program) c k p) r.inside (polled_runs c k program p (with_thread (polled program) c k p) r.inside r.there r.sound r.running refl)

-- a poll, in both
module _ (c k : ℕ) (p q : Plain) (r : Ready c k p) (r_too : Ready c k q) (a : Alike p q) where
  thread_alike : (program : Program) (s t : Thread) → thread_at p c k ≡ Some s → thread_at q c k ≡ Some t → Alike (polls_thread (record { 0 = c }) k p program s) (polls_thread (record { 0 = c }) k q program t)
  thread_alike program s t at at_too =
      let cpu : CpuId = record { 0 = c } in
      let f = polled program in
      let one : thread_by (kept_word p.tokens) s ≡ thread_by (kept_word q.tokens) t =
      same_Some (thread_by (kept_word p.tokens) s) (thread_by (kept_word q.tokens) t)
      (sym (ap (option_map (thread_by (kept_word p.tokens))) at) ∙ same_thread p q a c k ∙ ap (option_map (thread_by (kept_word q.tokens))) at_too) in
      let next : (next_of program s).0 ≡ (next_of program t).0 = ap (λ (x : Thread). (next_of program x).0) one in
      let now = ready_polled c k program p r in
      let now_too = ready_polled c k program q r_too in
      subst (λ (ask : Ask). Alike (polls_thread cpu k p program s) (makes cpu k (with_thread f c k q) ask)) next
      (makes_alike cpu k (with_thread f c k p) (with_thread f c k q) (next_of program s).0 now.sound now_too.sound (polled_none program c k p r.inside r.there) (polled_none program c k q r_too.inside r_too.there)
      (alike_thread f (λ can x. refl) c k p q a))

  spec_alike : (o : Option ThreadSpec) → Alike (option_map_or (λ (spec : ThreadSpec). option_map_or (polls_thread (record { 0 = c }) k p spec.code) (thread_at p c k) p) o p) (option_map_or (λ (spec : ThreadSpec). option_map_or (polls_thread (record { 0 = c }) k q spec.code) (thread_at q c k) q) o q)
  spec_alike None = a
  spec_alike (Some spec) =
      let cpu : CpuId = record { 0 = c } in
      let one = thread_there p c k r.there in
      let other = thread_there q c k r_too.there in
      let F : Option Thread → Option Thread → Type 0 = λ o u. Alike (option_map_or (polls_thread cpu k p spec.code) o p) (option_map_or (polls_thread cpu k q spec.code) u q) in
      subst (λ (o : Option Thread). F o (thread_at q c k)) (sym one.1) (subst (F (Some one.0)) (sym other.1) (thread_alike spec.code one.0 other.0 one.1 other.1))

  pub polls_alike : (script : Script) → Alike (polls_at script c p k) (polls_at script c q k)
  polls_alike script = spec_alike (spec_at script c k)

-- a turn, in both
small : (p : Plain) (c : ℕ) → IsSound p → c < length p.cpus → c < CPU_LIMIT
small p c sound inside = (let few = few_cpus p sound in omega (arith, few, inside))

polled_alike : (script : Script) (c : ℕ) (p q : Plain) (x y : Found) → c < length p.cpus → c < length q.cpus → Chosen c p x → Chosen c q y → SameFound x y → Alike (option_map_or (polls_at script c x.plain) x.place x.plain) (option_map_or (polls_at script c y.plain) y.place y.plain)
polled_alike script c p q x y inside inside_too chose chose_too s =
    subst (λ (o : Option ℕ). Alike (option_map_or (polls_at script c x.plain) x.place x.plain) (option_map_or (polls_at script c y.plain) o y.plain)) s.place (go x.place refl)
  where
    go : (o : Option ℕ) → x.place ≡ o → Alike (option_map_or (polls_at script c x.plain) o x.plain) (option_map_or (polls_at script c y.plain) o y.plain)
    go None is = s.alike
    go (Some k) is =
        polls_alike c k x.plain y.plain (ready_by c k p x.plain inside (chose.1 k is)) (ready_by c k q y.plain inside_too (chose_too.1 k (sym s.place ∙ is))) s.alike script

pub turn_alike : (script : Script) (c : ℕ) (p q : Plain) → c < length p.cpus → IsSound p → c < length q.cpus → IsSound q → Alike p q → Alike (turn script p c) (turn script q c)
turn_alike script c p q inside sound inside_too sound_too a =
    let m = takes_mail c p in
    let n = takes_mail c q in
    let within = mail_inside p m c refl inside in
    let within_too = mail_inside q n c refl inside_too in
    let ok = sound_by p m (takes_mail_frame c p) sound in
    let ok_too = sound_by q n (takes_mail_frame c q) sound_too in
    polled_alike script c m n (chooses c m) (chooses c n) within within_too (chosen c m within ok) (chosen c n within_too ok_too)
    (chooses_alike c m n within ok within_too ok_too (small p c sound inside) (alike_mail c p q a))

-- a turn leaves a sound state, with as many processors
becomes_cpus : (c k : ℕ) (phase : Phase) (p : Plain) → length (becomes c k phase p).cpus ≡ length p.cpus
becomes_cpus c k phase p = go (has_ended phase)
  where
    go : (b : Bool) → length (if b then ends c k phase p else with_thread (λ (t : Thread). record t { phase = phase; last = Done }) c k p).cpus ≡ length p.cpus
    go true = length_changed (on_thread (ended_by phase) k) (leaves c k p).cpus c ∙ ap length (leaves_cpus c k p)
    go false = length_changed (on_thread (λ (t : Thread). record t { phase = phase; last = Done }) k) p.cpus c

goes_on_cpus : (cpu : CpuId) (k : ℕ) (p : Plain) (next : Next) → length (goes_on cpu k p next).cpus ≡ length p.cpus
goes_on_cpus cpu k p (Runs answer) = length_changed (on_thread (λ (t : Thread). record t { last = answer }) k) p.cpus cpu.0
goes_on_cpus cpu k p (Leaves held phase) =
    becomes_cpus cpu.0 k (if breaks cpu k held p then Faulted Broken else phase) (gives_up cpu k held p) ∙ length_changed (λ (x : Processor). record x { running = None }) p.cpus cpu.0

performs_cpus : (cpu : CpuId) (k : ℕ) (p : Plain) (ask : Ask) → IsSound p → length (performs cpu k p ask).plain.cpus ≡ length p.cpus
performs_cpus cpu k p ask sound = of_asked (token_ask cpu p.tokens (list_at p cpu.0 k) ask)
  where
    of_mailed : (o : Option Mailed) → IfSome o (MailsSoundly p (length (list_at p cpu.0 k))) → length (option_map_or of_mail o (performed p (Leaves (length (list_at p cpu.0 k)) (phase_for ask)))).plain.cpus ≡ length p.cpus
    of_mailed None so = refl
    of_mailed (Some m) so = sym (length-map m.plain.cpus lists_of) ∙ ap length so.keeps.lists ∙ length-map p.cpus lists_of

    of_asked : (o : Option Asked) → length (option_map_or (of_tokens cpu k p) o (option_map_or of_mail (mail_ask cpu.0 k p (length (list_at p cpu.0 k)) ask) (performed p (Leaves (length (list_at p cpu.0 k)) (phase_for ask))))).plain.cpus ≡ length p.cpus
    of_asked None = of_mailed (mail_ask cpu.0 k p (length (list_at p cpu.0 k)) ask) (mail_soundly cpu.0 k p (length (list_at p cpu.0 k)) ask sound)
    of_asked (Some a) = length_changed (on_thread (λ (t : Thread). record t { list = a.refs }) k) p.cpus cpu.0

pub record StaysSound (p q : Plain) : Type 0 where
  pub sound : IsSound q
  pub cpus : length q.cpus ≡ length p.cpus

thread_sound : (c k : ℕ) (p : Plain) (program : Program) (t : Thread) → Ready c k p → StaysSound p (polls_thread (record { 0 = c }) k p program t)
thread_sound c k p program t r =
    let cpu : CpuId = record { 0 = c } in
    let q = with_thread (polled program) c k p in
    let ask = (next_of program t).0 in
    let now = ready_polled c k program p r in
    let x = performs cpu k q ask in
    record {
      sound = goes_on_sound cpu k x.plain x.next (performs_soundly cpu k q ask now.sound now.inside now.there now.running) (small p c r.sound r.inside);
      cpus = goes_on_cpus cpu k x.plain x.next ∙ performs_cpus cpu k q ask now.sound ∙ length_changed (on_thread (polled program) k) p.cpus c;
    }

polls_sound : (script : Script) (c k : ℕ) (p : Plain) → Ready c k p → StaysSound p (polls_at script c p k)
polls_sound script c k p r = go (spec_at script c k)
  where
    go : (o : Option ThreadSpec) → StaysSound p (option_map_or (λ (spec : ThreadSpec). option_map_or (polls_thread (record { 0 = c }) k p spec.code) (thread_at p c k) p) o p)
    go None = record { sound = r.sound; cpus = refl }
    go (Some spec) =
        let one = thread_there p c k r.there in
        subst (λ (o : Option Thread). StaysSound p (option_map_or (polls_thread (record { 0 = c }) k p spec.code) o p)) (sym one.1) (thread_sound c k p spec.code one.0 r)

stays_both : (p q r : Plain) → StaysSound q r → length q.cpus ≡ length p.cpus → StaysSound p r
stays_both p q r so same = record { sound = so.sound; cpus = so.cpus ∙ same }

chosen_sound : (script : Script) (c : ℕ) (p : Plain) (x : Found) → c < length p.cpus → Chosen c p x → (o : Option ℕ) → x.place ≡ o → StaysSound p (option_map_or (polls_at script c x.plain) o x.plain)
chosen_sound script c p x inside chose None is = (let stays = chose.0 is in record { sound = stays.sound; cpus = stays.cpus })
chosen_sound script c p x inside chose (Some k) is =
    let now = chose.1 k is in
    stays_both p x.plain (polls_at script c x.plain k) (polls_sound script c k x.plain (ready_by c k p x.plain inside now)) now.cpus

pub turn_sound : (script : Script) (c : ℕ) (p : Plain) → c < length p.cpus → IsSound p → StaysSound p (turn script p c)
turn_sound script c p inside sound =
    let m = takes_mail c p in
    let within = mail_inside p m c refl inside in
    let x = chooses c m in
    stays_both p m (turn script p c) (chosen_sound script c m x within (chosen c m within (sound_by p m (takes_mail_frame c p) sound)) x.place refl) (same_cpus p m (takes_mail_frame c p))

-- the states that a script comes to
pub record Reached (script : Script) (p : Plain) : Type 0 where
  pub sound : IsSound p
  pub old : AreOld p
  pub cpus : length p.cpus ≡ script.cpus

opened_reached : (script : Script) → IsWithinLimits script → AllOpenLawfully script.tokens → Reached script (opened script)
unfolding below
opened_reached script limits lawful = record {
  sound = opened_sound script (openable script limits lawful);
  old = opened_by (sift (may_be (map opened_token script.tokens))) (λ refs. refl) script;
  cpus = length-map (below script.cpus) (opened_cpu script) ∙ length-range_with_len 0 script.cpus;
}

pub turn_reached : (script : Script) (c : ℕ) (p : Plain) → c < script.cpus → Reached script p → Reached script (turn script p c)
turn_reached script c p below_count r =
    let same = r.cpus in
    let inside : c < length p.cpus = omega (arith, same, below_count) in
    let now = turn_sound script c p inside r.sound in
    record { sound = now.sound; old = (turn_alike script c p p inside r.sound inside r.sound (alike_self p r.old)).old; cpus = now.cpus ∙ r.cpus }

run_reached : (script : Script) (order : List ℕ) (p : Plain) → All (λ cpu. cpu < script.cpus) order → Reached script p → Reached script (run script p order)
run_reached script [] p all r = r
run_reached script (c ∷ order) p all r =
    run_reached script order (turn script p c) (λ k d inside. all (suc k) d (omega (arith, inside))) (turn_reached script c p (all 0 c (omega arith)) r)

pub reached : (script : Script) (order : List ℕ) → IsWithinLimits script → AllOpenLawfully script.tokens → All (λ cpu. cpu < script.cpus) order → Reached script (run script (opened script) order)
reached script order limits lawful all = run_reached script order (opened script) all (opened_reached script limits lawful)

pub turns_respect : FormsRespectTurns
turns_respect script order c limits lawful all below_count =
    let p = run script (opened script) order in
    let r = reached script order limits lawful all in
    let same = r.cpus in
    let long = length-map p.cpus (cpu_by (kept_word p.tokens)) in
    let inside : c < length p.cpus = omega (arith, same, below_count) in
    let inside_too : c < length (form p).cpus = omega (arith, inside, long) in
    (turn_alike script c (form p) p inside_too (form_sound p r.sound) inside r.sound (alike_sym p (form p) (alike_form p r.old))).forms
