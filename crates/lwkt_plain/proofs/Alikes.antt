-- States of one form, whose words are old: what is done to both leaves such states.
use Rattle.std.proofs.Common.{◌≡◌, ◌<◌, ◌≤◌, ◌+◌, ℕ, zero, suc, List, [], ◌∷◌, ◌++◌, length, get_or, set, map, refl, ap, sym, ◌∙◌, subst, arith, Option, Some, None, Bool, true, false}
use Rattle.std.specs.Prelude.{slice_get, slice_set, option_map, option_and_then, if◌then◌else◌, ◌==◌, fold}
use Rattle.std.specs.Option.{option_map_or}
use Rattle.std.proofs.lemmas.List.{length-map}
use Rattle.std.proofs.lemmas.Option.{slice_get_within, none-some, same_Some, get_or_from_slice_get}
use Rattle.lwkt_base.specs.declared.names.Ref.{Ref}
use Rattle.lwkt_base.specs.declared.asks.Answer.TheVariants.{Done}
use Rattle.lwkt_core.specs.declared.tokens.Token.{Token}
use Rattle.lwkt_core.specs.Machine.{changed}
use Rattle.lwkt_plain.specs.declared.letters.Letter.{Letter}
use Rattle.lwkt_plain.specs.declared.states.BusyAt.{BusyAt}
use Rattle.lwkt_plain.specs.declared.states.Phase.{Phase}
use Rattle.lwkt_plain.specs.declared.states.Plain.{Plain}
use Rattle.lwkt_plain.specs.declared.states.Processor.{Processor}
use Rattle.lwkt_plain.specs.declared.states.Thread.{Thread}
use Rattle.lwkt_plain.specs.Forms.{can_match, kept_word, thread_by, cpu_by, plain_by, form}
use Rattle.lwkt_plain.specs.Letters.{left_by}
use Rattle.lwkt_plain.specs.Places.{cpu_at, thread_at, no_processor, with_cpu, with_thread, with_letter, with_tokens}
use Rattle.lwkt_plain.specs.Intakes.{below, has_ended, takes_mail}
use Rattle.lwkt_plain.specs.Sound.{Lists, Frame, lists_of, round_of, frame, IsSoundFrame, IsSound}
use Rattle.lwkt_plain.specs.Turns.{list_at, ended_by, leaves, ends, with_list, rests, becomes}
use Rattle.lwkt_plain.proofs.Soundness.{cpu_got, on_thread}
use Rattle.lwkt_plain.proofs.Frames.{takes_mail_frame}
use Rattle.lwkt_plain.proofs.TurnSound.{leaves_tokens}
use Rattle.lwkt_plain.proofs.FormLaws.{own_form}
use Rattle.lwkt_plain.proofs.FormMail.{Words, cpu_with, thread_with, cpu_at_by, thread_at_by, fold_by, takes_mail_by, mail_forms}
use Rattle.lwkt_plain.proofs.Risings.{Rises}
use Rattle.lwkt_plain.proofs.OldWords.{Test, sift, may_be, AreOld, map_twice, by_twice, sift_swap, sift_under, may_on, kept_on, fixed_at, fixed_changed, changed_agree, changed_over, map_changed_at}

-- states of one form, with old words
pub record Alike (p q : Plain) : Type 0 where
  pub forms : form p ≡ form q
  pub old : AreOld p
  pub old_too : AreOld q

pub alike_self : (p : Plain) → AreOld p → Alike p p
alike_self p old = record { forms = refl; old = old; old_too = old }

pub alike_sym : (p q : Plain) → Alike p q → Alike q p
alike_sym p q a = record { forms = sym a.forms; old = a.old_too; old_too = a.old }

-- a state and its form
form_old : (p : Plain) → AreOld p → AreOld (form p)
form_old p old =
    let can = can_match p.tokens in
    let may = may_be p.tokens in
    by_twice (sift may) (sift can) (λ refs busy. sift may refs (sift can refs busy)) (λ refs busy. refl) p
    ∙ sym (by_twice (sift can) (sift may) (λ refs busy. sift may refs (sift can refs busy)) (λ refs busy. sift_swap can may refs busy) p)
    ∙ ap (plain_by (sift can)) old

pub alike_form : (p : Plain) → AreOld p → Alike p (form p)
alike_form p old = record { forms = sym (own_form p); old = old; old_too = form_old p old }

-- what states of one form have in common
module _ (p q : Plain) (a : Alike p q) where
  pub same_tokens : p.tokens ≡ q.tokens
  same_tokens = ap (λ (x : Plain). x.tokens) a.forms

  pub same_letters : p.letters ≡ q.letters
  same_letters = ap (λ (x : Plain). x.letters) a.forms

  -- of a processor what words don't bear on
  pub same_of : {A : Type 0} (F : Processor → A) → ((g : Words) (cpu : Processor) → F (cpu_by g cpu) ≡ F cpu) → (c : ℕ) → F (cpu_at p c) ≡ F (cpu_at q c)
  same_of F keep c =
      sym (keep (kept_word p.tokens) (cpu_at p c))
      ∙ sym (ap F (cpu_at_by (kept_word p.tokens) p c))
      ∙ ap (λ (x : Plain). F (cpu_at x c)) a.forms
      ∙ ap F (cpu_at_by (kept_word q.tokens) q c)
      ∙ keep (kept_word q.tokens) (cpu_at q c)

  pub same_thread : (c k : ℕ) → option_map (thread_by (kept_word p.tokens)) (thread_at p c k) ≡ option_map (thread_by (kept_word q.tokens)) (thread_at q c k)
  same_thread c k = sym (thread_at_by (kept_word p.tokens) p c k) ∙ ap (λ (x : Plain). thread_at x c k) a.forms ∙ thread_at_by (kept_word q.tokens) q c k

  pub same_running : (c : ℕ) → (cpu_at p c).running ≡ (cpu_at q c).running
  same_running c = same_of (λ cpu. cpu.running) (λ g cpu. refl) c

  pub same_cursor : (c : ℕ) → (cpu_at p c).cursor ≡ (cpu_at q c).cursor
  same_cursor c = same_of (λ cpu. cpu.cursor) (λ g cpu. refl) c

  pub same_count : (c : ℕ) → length (cpu_at p c).threads ≡ length (cpu_at q c).threads
  same_count c = same_of (λ cpu. length cpu.threads) (λ g cpu. length-map cpu.threads (thread_by g)) c

  pub same_cpus : length p.cpus ≡ length q.cpus
  same_cpus = sym (length-map p.cpus (cpu_by (kept_word p.tokens))) ∙ ap (λ (x : Plain). length x.cpus) a.forms ∙ length-map q.cpus (cpu_by (kept_word q.tokens))

-- a thread of one, and that of the other
listed : (g : Words) (o : Option Thread) → option_map_or (λ (t : Thread). t.list) (option_map (thread_by g) o) [] ≡ option_map_or (λ (t : Thread). t.list) o []
listed g None = refl
listed g (Some t) = refl

pub same_list : (p q : Plain) → Alike p q → (c k : ℕ) → list_at p c k ≡ list_at q c k
same_list p q a c k =
    sym (listed (kept_word p.tokens) (thread_at p c k)) ∙ ap (λ (o : Option Thread). option_map_or (λ (t : Thread). t.list) o []) (same_thread p q a c k) ∙ listed (kept_word q.tokens) (thread_at q c k)

-- tokens whose generations have risen
kept_risen : (p : Plain) (tokens : List Token) → AreOld p → Rises p.tokens tokens → plain_by (kept_word tokens) (form p) ≡ plain_by (kept_word tokens) p
kept_risen p tokens old rises =
    let may = sift (may_be p.tokens) in
    let kept = kept_word p.tokens in
    let now = kept_word tokens in
    let one : Words = λ refs busy. kept refs (may refs busy) in
    let all : Words = λ refs busy. now refs (may refs busy) in
    ap (λ (x : Plain). plain_by now (plain_by kept x)) (sym old)
    ∙ ap (plain_by now) (by_twice kept may one (λ refs busy. refl) p)
    ∙ by_twice now one all (λ refs busy. kept_on p.tokens tokens rises refs busy) p
    ∙ sym (by_twice now may all (λ refs busy. refl) p)
    ∙ ap (plain_by now) old

pub risen_old : (p : Plain) (tokens : List Token) → AreOld p → Rises p.tokens tokens → AreOld (with_tokens tokens p)
risen_old p tokens old rises =
    let was = sift (may_be p.tokens) in
    let now = sift (may_be tokens) in
    let same : plain_by now p ≡ p =
    ap (plain_by now) (sym old) ∙ by_twice now was was (λ refs busy. sift_under (may_be tokens) (may_be p.tokens) (may_on p.tokens tokens rises) refs busy) p ∙ old in
    ap (with_tokens tokens) same

pub alike_tokens : (p q : Plain) (tokens : List Token) → Alike p q → Rises p.tokens tokens → Alike (with_tokens tokens p) (with_tokens tokens q)
alike_tokens p q tokens a rises =
    let rises_too : Rises q.tokens tokens = subst (λ (ts : List Token). Rises ts tokens) (same_tokens p q a) rises in
    let same : plain_by (kept_word tokens) p ≡ plain_by (kept_word tokens) q =
    sym (kept_risen p tokens a.old rises) ∙ ap (plain_by (kept_word tokens)) a.forms ∙ kept_risen q tokens a.old_too rises_too in
    record {
      forms = ap (with_tokens tokens) same;
      old = risen_old p tokens a.old rises;
      old_too = risen_old q tokens a.old_too rises_too;
    }

-- something done to a thread that doesn't read its word, and leaves that or forgets it
abbrev pub Passes : (Thread → Thread) → Type 0
Passes f = (can : Test) (t : Thread) → thread_by (sift can) (f t) ≡ f (thread_by (sift can) t)

pub alike_thread : (f : Thread → Thread) → Passes f → (c k : ℕ) (p q : Plain) → Alike p q → Alike (with_thread f c k p) (with_thread f c k q)
alike_thread f passes c k p q a =
    let through : (can : Test) (x : Plain) → with_thread f c k (plain_by (sift can) x) ≡ plain_by (sift can) (with_thread f c k x) =
    λ can x. thread_with (sift can) f (λ t. passes can t) c k x in
    record {
      forms = sym (through (can_match p.tokens) p) ∙ ap (with_thread f c k) a.forms ∙ through (can_match q.tokens) q;
      old = sym (through (may_be p.tokens) p) ∙ ap (with_thread f c k) a.old;
      old_too = sym (through (may_be q.tokens) q) ∙ ap (with_thread f c k) a.old_too;
    }

-- and to a processor
pub alike_cpu : (f : Processor → Processor) → ((g : Words) (cpu : Processor) → cpu_by g (f cpu) ≡ f (cpu_by g cpu)) → (c : ℕ) (p q : Plain) → Alike p q → Alike (with_cpu f c p) (with_cpu f c q)
alike_cpu f passes c p q a =
    let through : (can : Test) (x : Plain) → with_cpu f c (plain_by (sift can) x) ≡ plain_by (sift can) (with_cpu f c x) =
    λ can x. cpu_with (sift can) f (passes (sift can)) c x in
    record {
      forms = sym (through (can_match p.tokens) p) ∙ ap (with_cpu f c) a.forms ∙ through (can_match q.tokens) q;
      old = sym (through (may_be p.tokens) p) ∙ ap (with_cpu f c) a.old;
      old_too = sym (through (may_be q.tokens) q) ∙ ap (with_cpu f c) a.old_too;
    }

-- what passes over words and leaves the tokens: then it leaves states alike
pub alike_by : (h : Plain → Plain) → ((g : Words) (x : Plain) → h (plain_by g x) ≡ plain_by g (h x)) → ((x : Plain) → (h x).tokens ≡ x.tokens) → (p q : Plain) → Alike p q → Alike (h p) (h q)
alike_by h through same p q a =
    let F : (x : Plain) → List Token → Plain = λ x tokens. plain_by (kept_word tokens) x in
    let M : (x : Plain) → List Token → Plain = λ x tokens. plain_by (sift (may_be tokens)) x in
    record {
      forms = ap (F (h p)) (same p) ∙ sym (through (kept_word p.tokens) p) ∙ ap h a.forms ∙ through (kept_word q.tokens) q ∙ sym (ap (F (h q)) (same q));
      old = ap (M (h p)) (same p) ∙ sym (through (sift (may_be p.tokens)) p) ∙ ap h a.old;
      old_too = ap (M (h q)) (same q) ∙ sym (through (sift (may_be q.tokens)) q) ∙ ap h a.old_too;
    }

mail_tokens : (c : ℕ) (p : Plain) → (takes_mail c p).tokens ≡ p.tokens
mail_tokens c p = ap (λ (f : Frame). f.tokens) (takes_mail_frame c p)

pub alike_mail : (c : ℕ) (p q : Plain) → Alike p q → Alike (takes_mail c p) (takes_mail c q)
alike_mail c p q a = alike_by (takes_mail c) (λ g x. takes_mail_by g c x) (mail_tokens c) p q a

-- a thread that ends
leaves_by : (c k : ℕ) (g : Words) (p : Plain) → leaves c k (plain_by g p) ≡ plain_by g (leaves c k p)
unfolding leaves
leaves_by c k g p = fold_by (plain_by g) (λ now m. with_letter (left_by c k) m now) (λ now m. refl) p (below (length p.letters))

pub alike_ends : (c k : ℕ) (phase : Phase) (p q : Plain) → Alike p q → Alike (ends c k phase p) (ends c k phase q)
alike_ends c k phase p q a =
    alike_thread (ended_by phase) (λ can t. refl) c k (leaves c k p) (leaves c k q)
    (alike_by (leaves c k) (leaves_by c k) (leaves_tokens c k) p q a)

pub alike_becomes : (c k : ℕ) (phase : Phase) (p q : Plain) → Alike p q → Alike (becomes c k phase p) (becomes c k phase q)
alike_becomes c k phase p q a = go (has_ended phase)
  where
    go : (b : Bool) → Alike (if b then ends c k phase p else with_thread (λ (t : Thread). record t { phase = phase; last = Done }) c k p) (if b then ends c k phase q else with_thread (λ (t : Thread). record t { phase = phase; last = Done }) c k q)
    go true = alike_ends c k phase p q a
    go false = alike_thread (λ (t : Thread). record t { phase = phase; last = Done }) (λ can t. refl) c k p q a

-- a thread that has no word gets a list
abbrev pub HasNoWord : Plain → ℕ → ℕ → Type 0
HasNoWord p c k = (t : Thread) → thread_at p c k ≡ Some t → t.busy ≡ None

-- what two changes of a thread have in common that agree on it
pub thread_agree : (f g : Thread → Thread) (c k : ℕ) (p : Plain) → ((t : Thread) → thread_at p c k ≡ Some t → f t ≡ g t) → with_thread f c k p ≡ with_thread g c k p
thread_agree f g c k p same =
    let own : (cpu : Processor) → slice_get p.cpus c ≡ Some cpu → on_thread f k cpu ≡ on_thread g k cpu =
    λ cpu at.
    ap (λ (threads : List Thread). record cpu { threads = threads })
    (changed_agree f g cpu.threads k (λ t there. same t (ap (λ (x : Processor). slice_get x.threads k) (cpu_got p c cpu at) ∙ there))) in
    ap (λ (cpus : List Processor). record p { cpus = cpus }) (changed_agree (on_thread f k) (on_thread g k) p.cpus c own)

listed_new : (refs : List Ref) (c k : ℕ) (p : Plain) → HasNoWord p c k → with_list refs c k p ≡ with_thread (λ (t : Thread). record t { list = refs; busy = None }) c k p
listed_new refs c k p none =
    thread_agree (λ (t : Thread). record t { list = refs }) (λ (t : Thread). record t { list = refs; busy = None }) c k p
    (λ t at. ap (λ (busy : Option BusyAt). record t { list = refs; busy = busy }) (none t at))

pub alike_list : (refs : List Ref) (c k : ℕ) (p q : Plain) → HasNoWord p c k → HasNoWord q c k → Alike p q → Alike (with_list refs c k p) (with_list refs c k q)
alike_list refs c k p q none none_too a =
    let f : Thread → Thread = λ t. record t { list = refs; busy = None } in
    subst (λ (x : Plain). Alike x (with_list refs c k q)) (sym (listed_new refs c k p none))
    (subst (λ (x : Plain). Alike (with_thread f c k p) x) (sym (listed_new refs c k q none_too)) (alike_thread f (λ can t. refl) c k p q a))

-- a thread whose list is refused by a word
abbrev pub set_busy : BusyAt → Thread → Thread
set_busy b t = record t { busy = Some b }

may_one : (b : BusyAt) (x : Bool) → x ≡ true → (if x then Some b else None) ≡ Some b
may_one b x is = ap (λ (a : Bool). if a then Some b else None) is

-- a change that the words of a state's threads stay old by
pub old_thread : (f : Thread → Thread) (c k : ℕ) (p : Plain) → AreOld p → ((t : Thread) → thread_at p c k ≡ Some t → thread_by (sift (may_be p.tokens)) (f t) ≡ f t) → AreOld (with_thread f c k p)
old_thread f c k p old same =
    let g = sift (may_be p.tokens) in
    let cpus : map (cpu_by g) p.cpus ≡ p.cpus = ap (λ (x : Plain). x.cpus) old in
    let own : (cpu : Processor) → slice_get p.cpus c ≡ Some cpu → cpu_by g (on_thread f k cpu) ≡ on_thread f k cpu =
    λ cpu at.
    ap (λ (threads : List Thread). record cpu { threads = threads })
    (fixed_changed (thread_by g) f cpu.threads k (ap (λ (x : Processor). x.threads) (fixed_at (cpu_by g) p.cpus c cpu cpus at))
    (λ t there. same t (ap (λ (x : Processor). slice_get x.threads k) (cpu_got p c cpu at) ∙ there))) in
    ap (λ (xs : List Processor). record p { cpus = xs }) (fixed_changed (cpu_by g) (on_thread f k) p.cpus c cpus own)

pub old_busy : (b : BusyAt) (c k : ℕ) (p : Plain) → AreOld p → may_be p.tokens (list_at p c k) b ≡ true → AreOld (with_thread (set_busy b) c k p)
old_busy b c k p old may =
    old_thread (set_busy b) c k p old
    (λ t at.
    (let list : list_at p c k ≡ t.list = ap (λ (o : Option Thread). option_map_or (λ (s : Thread). s.list) o []) at in
    ap (λ (busy : Option BusyAt). record t { busy = busy }) (may_one b (may_be p.tokens t.list b) (sym (ap (λ (refs : List Ref). may_be p.tokens refs b) list) ∙ may))))

busy_over : (tokens : List Token) (b : BusyAt) (c k : ℕ) (p : Plain) → with_thread (λ (t : Thread). thread_by (kept_word tokens) (set_busy b t)) c k (plain_by (kept_word tokens) p) ≡ plain_by (kept_word tokens) (with_thread (set_busy b) c k p)
busy_over tokens b c k p =
    let g = kept_word tokens in
    let h : Thread → Thread = λ t. thread_by g (set_busy b t) in
    ap (λ (cpus : List Processor). record p { cpus = cpus })
    (changed_over (cpu_by g) (on_thread (set_busy b) k) (on_thread h k)
    (λ cpu. ap (λ (threads : List Thread). record cpu { threads = threads }) (changed_over (thread_by g) (set_busy b) h (λ t. refl) cpu.threads k)) p.cpus c)

pub alike_busy : (b : BusyAt) (c k : ℕ) (p q : Plain) → may_be p.tokens (list_at p c k) b ≡ true → Alike p q → Alike (with_thread (set_busy b) c k p) (with_thread (set_busy b) c k q)
alike_busy b c k p q may a =
    let H : List Token → Plain → Plain = λ tokens x. with_thread (λ (t : Thread). thread_by (kept_word tokens) (set_busy b t)) c k x in
    let may_too : may_be q.tokens (list_at q c k) b ≡ true =
    sym (ap (λ (tokens : List Token). may_be tokens (list_at q c k) b) (same_tokens p q a)) ∙ sym (ap (λ (refs : List Ref). may_be p.tokens refs b) (same_list p q a c k)) ∙ may in
    record {
      forms = sym (busy_over p.tokens b c k p) ∙ ap (H p.tokens) a.forms ∙ ap (λ (tokens : List Token). H tokens (form q)) (same_tokens p q a) ∙ busy_over q.tokens b c k q;
      old = old_busy b c k p a.old may;
      old_too = old_busy b c k q a.old_too may_too;
    }

-- a word that the form forgets, put where the form had forgotten one
pub forgotten : (f : Thread → Thread) (c k : ℕ) (p : Plain) → ((t : Thread) → thread_at p c k ≡ Some t → thread_by (kept_word p.tokens) (f t) ≡ thread_by (kept_word p.tokens) t) → form (with_thread f c k p) ≡ form p
forgotten f c k p same =
    let g = kept_word p.tokens in
    let own : (cpu : Processor) → slice_get p.cpus c ≡ Some cpu → cpu_by g (on_thread f k cpu) ≡ cpu_by g cpu =
    λ cpu at.
    ap (λ (threads : List Thread). record cpu { threads = threads })
    (map_changed_at (thread_by g) f cpu.threads k (λ t there. same t (ap (λ (x : Processor). slice_get x.threads k) (cpu_got p c cpu at) ∙ there))) in
    ap (λ (cpus : List Processor). record p { cpus = cpus }) (map_changed_at (cpu_by g) (on_thread f k) p.cpus c own)

-- a form has the frame of its state
pub form_frame : (p : Plain) → frame (form p) ≡ frame p
form_frame p =
    let g = kept_word p.tokens in
    let own : (cpu : Processor) → lists_of (cpu_by g cpu) ≡ lists_of cpu =
    λ cpu. ap (λ (lists : List (List Ref)). record { running = cpu.running; lists = lists }) (map_twice (λ (t : Thread). t.list) (thread_by g) (λ (t : Thread). t.list) (λ t. refl) cpu.threads) in
    ap (λ (cpus : List Lists). record { tokens = p.tokens; rounds = map round_of p.letters; cpus = cpus }) (map_twice lists_of (cpu_by g) lists_of own p.cpus)

pub form_sound : (p : Plain) → IsSound p → IsSound (form p)
form_sound p sound = subst IsSoundFrame (sym (form_frame p)) sound

-- a thread of a state whose words are old
pub old_at : (p : Plain) (c k : ℕ) (t : Thread) → AreOld p → thread_at p c k ≡ Some t → thread_by (sift (may_be p.tokens)) t ≡ t
old_at p c k t old at =
    let g = sift (may_be p.tokens) in
    same_Some (thread_by g t) t (sym (ap (option_map (thread_by g)) at) ∙ sym (thread_at_by g p c k) ∙ ap (λ (x : Plain). thread_at x c k) old ∙ at)
