-- Words that refused lists: which of them a thread can have, and what a test keeps of them.
use Rattle.std.proofs.Common.{◌≡◌, ◌<◌, ◌≤◌, ◌+◌, ◌*◌, ◌/◌, ◌%◌, ℕ, zero, suc, List, [], ◌∷◌, length, map, take, refl, ap, sym, ◌∙◌, subst, arith, Option, Some, None, Bool, true, false}
use Rattle.std.specs.Prelude.{slice_get, slice_set, option_map, option_and_then, if◌then◌else◌, ◌==◌, ◌&&◌, not, nat_le, nat_lt}
use Rattle.std.specs.Option.{option_map_or}
use Rattle.std.proofs.lemmas.Bool.{false≢true, and_parts, and_from, eq-eqb, eqb-true, le-leb, leb-true}
use Rattle.std.proofs.lemmas.List.{map-set}
use Rattle.std.proofs.lemmas.Option.{slice_get-map, none-some, same_Some}
use Rattle.lwkt_base.specs.declared.names.Ref.{Ref}
use Rattle.lwkt_base.specs.declared.words.TokWord.{TokWord}
use Rattle.lwkt_base.specs.TokenWord.{bit, word_of, decision, Fits}
use Rattle.lwkt_base.specs.Refs.{names, is_alone}
use Rattle.lwkt_core.specs.declared.tokens.Token.{Token}
use Rattle.lwkt_core.specs.Machine.{changed}
use Rattle.lwkt_plain.specs.declared.nexts.Miss.{Miss}
use Rattle.lwkt_plain.specs.declared.nexts.Miss.TheVariants.{Busy, Worn}
use Rattle.lwkt_plain.specs.declared.states.BusyAt.{BusyAt}
use Rattle.lwkt_plain.specs.declared.states.Plain.{Plain}
use Rattle.lwkt_plain.specs.declared.states.Processor.{Processor}
use Rattle.lwkt_plain.specs.declared.states.Thread.{Thread}
use Rattle.lwkt_plain.specs.Tokens.{refusal}
use Rattle.lwkt_plain.specs.Forms.{generation_in, can_match, kept_word, thread_by, cpu_by, plain_by, form}
use Rattle.lwkt_plain.proofs.Changes.{set_back}
use Rattle.lwkt_plain.proofs.FormMail.{Words}
use Rattle.lwkt_plain.proofs.Risings.{RisesAt, Rises}

-- the parts of a word
abbrev pub word_parts : ℕ → TokWord
word_parts n = record { generation = n / 262144; count = n / 4 % 65536; exclusive = n % 2 == 1; mark = n / 2 % 2 == 1 }

record Digits (n e m c g : ℕ) : Type 0 where
  e_is : n % 2 ≡ e
  m_is : n / 2 % 2 ≡ m
  c_is : n / 4 % 65536 ≡ c
  g_is : n / 262144 ≡ g

digits : (n e m c g : ℕ) → e < 2 → m < 2 → c < 65536 → e + 2 * m + 4 * c + 262144 * g ≡ n → Digits n e m c g
digits n e m c g one two few is = record { e_is = omega arith; m_is = omega arith; c_is = omega arith; g_is = omega arith }

bit_few : (b : Bool) → bit b < 2
bit_few true = omega arith
bit_few false = omega arith

is_bit : (b : Bool) (n : ℕ) → n ≡ bit b → (n == 1) ≡ b
is_bit true n e = ap (λ k. k == 1) e
is_bit false n e = ap (λ k. k == 1) e

digits_of : (w : TokWord) → Fits w → Digits (word_of w) (bit w.exclusive) (bit w.mark) w.count w.generation
digits_of w fits = digits (word_of w) (bit w.exclusive) (bit w.mark) w.count w.generation (bit_few w.exclusive) (bit_few w.mark) fits.0 refl

-- parts that fit are those that their word shows
pub parts_are : (w : TokWord) → Fits w → word_parts (word_of w) ≡ w
parts_are w fits =
    let d = digits_of w fits in
    λ i. record {
      generation = d.g_is i;
      count = d.c_is i;
      exclusive = is_bit w.exclusive (word_of w % 2) d.e_is i;
      mark = is_bit w.mark (word_of w / 2 % 2) d.m_is i;
    }

pub generation_is : (w : TokWord) → Fits w → generation_in (word_of w) ≡ w.generation
generation_is w fits = (digits_of w fits).g_is

-- what a test keeps
abbrev pub Test : Type 0
Test = List Ref → BusyAt → Bool

abbrev pub sift : Test → Words
sift can refs busy = option_and_then (λ b. if can refs b then Some b else None) busy

-- whether a word refuses a reference of a list
abbrev pub is_word : Option Miss → ℕ → Bool
is_word None word = false
is_word (Some Worn) word = false
is_word (Some (Busy other)) word = other == word

abbrev pub refuses : TokWord → List Ref → Ref → ℕ → Bool
refuses w refs r word = is_word (refusal w (decision w r.mode (is_alone refs r.tok.0))) word

-- whether a word refuses the reference at its place, those in front of it being held
abbrev pub has_refused : List Ref → BusyAt → Bool
has_refused refs b = option_map_or (λ r. not (names (take b.at refs) r.tok.0) && refuses (word_parts b.word) refs r b.word) (slice_get refs b.at) false

-- whether a word is no younger than its token
abbrev pub is_behind : ℕ → Option Token → Bool
is_behind word None = true
is_behind word (Some tok) = nat_le (generation_in word) tok.generation

abbrev pub is_old : List Token → Test
is_old tokens refs b = option_map_or (λ r. is_behind b.word (slice_get tokens r.tok.0)) (slice_get refs b.at) true

-- whether a word can be one that refused a list: then it would refuse it again; and its token is at the word's generation or behind that
abbrev pub may_be : List Token → Test
may_be tokens refs b = has_refused refs b && is_old tokens refs b

-- the words of a state are such
abbrev pub AreOld : Plain → Type 0
AreOld p = plain_by (sift (may_be p.tokens)) p ≡ p

-- maps of maps
pub map_twice : {A B C : Type 0} (f : B → C) (g : A → B) (h : A → C) → ((x : A) → f (g x) ≡ h x) → (xs : List A) → map f (map g xs) ≡ map h xs
map_twice f g h same [] = refl
map_twice f g h same (x ∷ xs) = ap (λ y. y ∷ map f (map g xs)) (same x) ∙ ap (λ ys. h x ∷ ys) (map_twice f g h same xs)

pub map_same : {A B : Type 0} (f g : A → B) → ((x : A) → f x ≡ g x) → (xs : List A) → map f xs ≡ map g xs
map_same f g same [] = refl
map_same f g same (x ∷ xs) = ap (λ y. y ∷ map f xs) (same x) ∙ ap (λ ys. g x ∷ ys) (map_same f g same xs)

-- words put in place of words
pub by_twice : (g h k : Words) → ((refs : List Ref) (busy : Option BusyAt) → g refs (h refs busy) ≡ k refs busy) → (p : Plain) → plain_by g (plain_by h p) ≡ plain_by k p
by_twice g h k same p =
    let thread : (t : Thread) → thread_by g (thread_by h t) ≡ thread_by k t = λ t. ap (λ (busy : Option BusyAt). record t { busy = busy }) (same t.list t.busy) in
    let cpu : (c : Processor) → cpu_by g (cpu_by h c) ≡ cpu_by k c =
    λ c. ap (λ (threads : List Thread). record c { threads = threads }) (map_twice (thread_by g) (thread_by h) (thread_by k) thread c.threads) in
    ap (λ (cpus : List Processor). record p { cpus = cpus }) (map_twice (cpu_by g) (cpu_by h) (cpu_by k) cpu p.cpus)

-- two tests, one after another
swap_tests : (f g : BusyAt → Bool) (b : BusyAt) (x y : Bool) → f b ≡ x → g b ≡ y → option_and_then (λ z. if f z then Some z else None) (if y then Some b else None) ≡ option_and_then (λ z. if g z then Some z else None) (if x then Some b else None)
swap_tests f g b true true fx gy = ap (λ (a : Bool). if a then Some b else None) fx ∙ sym (ap (λ (a : Bool). if a then Some b else None) gy)
swap_tests f g b true false fx gy = sym (ap (λ (a : Bool). if a then Some b else None) gy)
swap_tests f g b false true fx gy = ap (λ (a : Bool). if a then Some b else None) fx
swap_tests f g b false false fx gy = refl

pub sift_swap : (can may : Test) (refs : List Ref) (busy : Option BusyAt) → sift can refs (sift may refs busy) ≡ sift may refs (sift can refs busy)
sift_swap can may refs None = refl
sift_swap can may refs (Some b) = swap_tests (can refs) (may refs) b (can refs b) (may refs b) refl refl

-- a test that keeps what another one keeps
under_if : (can may : BusyAt → Bool) (b : BusyAt) (x : Bool) → may b ≡ x → (may b ≡ true → can b ≡ true) → option_and_then (λ z. if can z then Some z else None) (if x then Some b else None) ≡ (if x then Some b else None)
under_if can may b true is more = ap (λ (a : Bool). if a then Some b else None) (more is)
under_if can may b false is more = refl

pub sift_under : (can may : Test) → ((refs : List Ref) (b : BusyAt) → may refs b ≡ true → can refs b ≡ true) → (refs : List Ref) (busy : Option BusyAt) → sift can refs (sift may refs busy) ≡ sift may refs busy
sift_under can may more refs None = refl
sift_under can may more refs (Some b) = under_if (can refs) (may refs) b (may refs b) refl (more refs b)

-- words stay old where generations rise
pub behind_on : (word : ℕ) (old new : Option Token) → RisesAt new old → is_behind word old ≡ true → is_behind word new ≡ true
behind_on word old None rises is = refl
behind_on word None (Some tok) rises is = absurd rises
behind_on word (Some tok) (Some new) rises is = le-leb (generation_in word) new.generation (let low = leb-true (generation_in word) tok.generation is in omega (arith, low, rises))

old_on : (old new : List Token) → Rises old new → (refs : List Ref) (b : BusyAt) → is_old old refs b ≡ true → is_old new refs b ≡ true
old_on old new rises refs b is = go (slice_get refs b.at) is
  where
    go : (o : Option Ref) → option_map_or (λ r. is_behind b.word (slice_get old r.tok.0)) o true ≡ true → option_map_or (λ r. is_behind b.word (slice_get new r.tok.0)) o true ≡ true
    go None was = refl
    go (Some r) was = behind_on b.word (slice_get old r.tok.0) (slice_get new r.tok.0) (rises r.tok.0) was

pub may_on : (old new : List Token) → Rises old new → (refs : List Ref) (b : BusyAt) → may_be old refs b ≡ true → may_be new refs b ≡ true
may_on old new rises refs b is =
    let parts = and_parts (has_refused refs b) (is_old old refs b) is in
    and_from (has_refused refs b) (is_old new refs b) parts.0 (old_on old new rises refs b parts.1)

-- a word that can match after generations have risen could match before
matched : (word : ℕ) (old new : Option Token) → RisesAt new old → is_behind word old ≡ true → option_map_or (λ (t : Token). t.generation == generation_in word) new false ≡ true → option_map_or (λ (t : Token). t.generation == generation_in word) old false ≡ true
matched word old None rises is now = absurd (false≢true now)
matched word None (Some tok) rises is now = absurd rises
matched word (Some tok) (Some new) rises is now =
    eq-eqb tok.generation (generation_in word) (let low = leb-true (generation_in word) tok.generation is in let same = eqb-true new.generation (generation_in word) now in omega (arith, low, same, rises))

pub match_on : (old new : List Token) → Rises old new → (refs : List Ref) (b : BusyAt) → is_old old refs b ≡ true → can_match new refs b ≡ true → can_match old refs b ≡ true
match_on old new rises refs b is now =
    let parts = and_parts (nat_lt 0 b.at) (option_map_or (λ r. option_map_or (λ (t : Token). t.generation == generation_in b.word) (slice_get new r.tok.0) false) (slice_get refs b.at) false) now in
    and_from (nat_lt 0 b.at) (option_map_or (λ r. option_map_or (λ (t : Token). t.generation == generation_in b.word) (slice_get old r.tok.0) false) (slice_get refs b.at) false) parts.0 (go (slice_get refs b.at) is parts.1)
  where
    go : (o : Option Ref) → option_map_or (λ r. is_behind b.word (slice_get old r.tok.0)) o true ≡ true → option_map_or (λ r. option_map_or (λ (t : Token). t.generation == generation_in b.word) (slice_get new r.tok.0) false) o false ≡ true → option_map_or (λ r. option_map_or (λ (t : Token). t.generation == generation_in b.word) (slice_get old r.tok.0) false) o false ≡ true
    go None was kept = kept
    go (Some r) was kept = matched b.word (slice_get old r.tok.0) (slice_get new r.tok.0) (rises r.tok.0) was kept

-- of an old word the form after generations have risen keeps as much, whether the form before was taken or not
keep_twice : (f g : BusyAt → Bool) (b : BusyAt) (x y : Bool) → f b ≡ x → g b ≡ y → (g b ≡ true → f b ≡ true) → option_and_then (λ z. if g z then Some z else None) (if f b then Some b else None) ≡ (if g b then Some b else None)
keep_twice f g b true y fx gy more = ap (λ (a : Bool). option_and_then (λ z. if g z then Some z else None) (if a then Some b else None)) fx
keep_twice f g b false true fx gy more = absurd (false≢true (sym fx ∙ more gy))
keep_twice f g b false false fx gy more = ap (λ (a : Bool). option_and_then (λ z. if g z then Some z else None) (if a then Some b else None)) fx ∙ sym (ap (λ (a : Bool). if a then Some b else None) gy)

old_kept : (old new : List Token) → Rises old new → (refs : List Ref) (b : BusyAt) (x : Bool) → may_be old refs b ≡ x → kept_word new refs (kept_word old refs (if x then Some b else None)) ≡ kept_word new refs (if x then Some b else None)
old_kept old new rises refs b false is = refl
old_kept old new rises refs b true is =
    let behind = (and_parts (has_refused refs b) (is_old old refs b) is).1 in
    keep_twice (can_match old refs) (can_match new refs) b (can_match old refs b) (can_match new refs b) refl refl (match_on old new rises refs b behind)

pub kept_on : (old new : List Token) → Rises old new → (refs : List Ref) (busy : Option BusyAt) → kept_word new refs (kept_word old refs (sift (may_be old) refs busy)) ≡ kept_word new refs (sift (may_be old) refs busy)
kept_on old new rises refs None = refl
kept_on old new rises refs (Some b) = old_kept old new rises refs b (may_be old refs b) refl

-- an element changed, of a list that a map leaves as it is
pub fixed_at : {A : Type 0} (h : A → A) (xs : List A) (i : ℕ) (x : A) → map h xs ≡ xs → slice_get xs i ≡ Some x → h x ≡ x
fixed_at {A} h xs i x fixed at =
    same_Some (h x) x (sym (ap (option_map h) at) ∙ sym (slice_get-map h xs i) ∙ ap (λ (ys : List A). slice_get ys i) fixed ∙ at)

fixed_by : {A : Type 0} (h f : A → A) (xs : List A) (i : ℕ) (o : Option A) → slice_get xs i ≡ o → map h xs ≡ xs → ((x : A) → slice_get xs i ≡ Some x → h (f x) ≡ f x) → map h (option_map_or (λ x. slice_set xs i (f x)) o xs) ≡ option_map_or (λ x. slice_set xs i (f x)) o xs
fixed_by h f xs i None at fixed same = fixed
fixed_by {A} h f xs i (Some x) at fixed same = map-set h xs i (f x) ∙ ap (λ (ys : List A). slice_set ys i (h (f x))) fixed ∙ ap (slice_set xs i) (same x at)

pub fixed_changed : {A : Type 0} (h f : A → A) (xs : List A) (i : ℕ) → map h xs ≡ xs → ((x : A) → slice_get xs i ≡ Some x → h (f x) ≡ f x) → map h (changed f xs i) ≡ changed f xs i
fixed_changed h f xs i fixed same = fixed_by h f xs i (slice_get xs i) refl fixed same

-- an element changed in two ways that agree on it
agree_by : {A : Type 0} (f g : A → A) (xs : List A) (i : ℕ) (o : Option A) → ((x : A) → o ≡ Some x → f x ≡ g x) → option_map_or (λ x. slice_set xs i (f x)) o xs ≡ option_map_or (λ x. slice_set xs i (g x)) o xs
agree_by f g xs i None same = refl
agree_by f g xs i (Some x) same = ap (slice_set xs i) (same x refl)

pub changed_agree : {A : Type 0} (f g : A → A) (xs : List A) (i : ℕ) → ((x : A) → slice_get xs i ≡ Some x → f x ≡ g x) → changed f xs i ≡ changed g xs i
changed_agree f g xs i same = agree_by f g xs i (slice_get xs i) same

-- an element changed over a map
over_by : {A : Type 0} (h f g : A → A) (xs : List A) (i : ℕ) (o : Option A) → ((x : A) → g (h x) ≡ h (f x)) → option_map_or (λ x. slice_set (map h xs) i (g x)) (option_map h o) (map h xs) ≡ map h (option_map_or (λ x. slice_set xs i (f x)) o xs)
over_by h f g xs i None same = refl
over_by h f g xs i (Some x) same = ap (slice_set (map h xs) i) (same x) ∙ sym (map-set h xs i (f x))

pub changed_over : {A : Type 0} (h f g : A → A) → ((x : A) → g (h x) ≡ h (f x)) → (xs : List A) (i : ℕ) → changed g (map h xs) i ≡ map h (changed f xs i)
changed_over h f g same xs i = ap (λ o. option_map_or (λ x. slice_set (map h xs) i (g x)) o (map h xs)) (slice_get-map h xs i) ∙ over_by h f g xs i (slice_get xs i) same

-- and an element that a map takes for the same
alike_by : {A B : Type 0} (h : A → B) (f : A → A) (xs : List A) (i : ℕ) (o : Option A) → slice_get xs i ≡ o → ((x : A) → slice_get xs i ≡ Some x → h (f x) ≡ h x) → map h (option_map_or (λ x. slice_set xs i (f x)) o xs) ≡ map h xs
alike_by h f xs i None at same = refl
alike_by {A} {B} h f xs i (Some x) at same =
    map-set h xs i (f x) ∙ ap (λ (y : B). slice_set (map h xs) i y) (same x at) ∙ sym (map-set h xs i x) ∙ ap (map h) (set_back xs i x at)

pub map_changed_at : {A B : Type 0} (h : A → B) (f : A → A) (xs : List A) (i : ℕ) → ((x : A) → slice_get xs i ≡ Some x → h (f x) ≡ h x) → map h (changed f xs i) ≡ map h xs
map_changed_at h f xs i same = alike_by h f xs i (slice_get xs i) refl same
