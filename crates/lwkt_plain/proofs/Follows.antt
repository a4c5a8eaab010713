-- What the parts of a state may have become by the form of a turn.
use Rattle.std.proofs.Common.{◌≡◌, ℕ, ◌<◌, ◌≤◌, ◌++◌, List, [], ◌∷◌, length, get_or, map, ap, ◌∙◌, refl, sym, arith, length-set, Option, Some, None, All, slice_index_or, inl, inr}
use Rattle.std.specs.Prelude.{slice_get, slice_set, unwrap_or}
use Rattle.std.specs.Option.{option_map_or}
use Rattle.std.proofs.lemmas.Bool.{cases_eq}
use Rattle.std.proofs.lemmas.List.{get_or-map, length-map, get_or_append_left, ext_get_or}
use Rattle.std.proofs.lemmas.List.Elements.{All-get_or}
use Rattle.std.proofs.lemmas.Option.{slice_get_past, slice_get_within, get_or_from_slice_get, unwrap_or-slice_get}
use Rattle.lwkt_base.specs.declared.names.Ref.{Ref}
use Rattle.lwkt_core.specs.Machine.{changed}
use Rattle.lwkt_plain.specs.declared.letters.Lane.{Lane}
use Rattle.lwkt_plain.specs.declared.letters.Port.{Port}
use Rattle.lwkt_plain.specs.declared.states.BusyAt.{BusyAt}
use Rattle.lwkt_script.specs.declared.scripts.Script.{Script}
use Rattle.lwkt_plain.specs.declared.states.Mail.{Mail}
use Rattle.lwkt_plain.specs.declared.states.Plain.{Plain}
use Rattle.lwkt_plain.specs.declared.states.Processor.{Processor}
use Rattle.lwkt_plain.specs.declared.states.Thread.{Thread}
use Rattle.lwkt_plain.specs.Forms.{form, cpu_by, thread_by, kept_word}
use Rattle.lwkt_plain.specs.Others.{wordless, wordless_thread, mail_but, CpuFollows, MailFollows}
use Rattle.lwkt_plain.specs.Places.{cpu_at, empty_lane, no_mail, no_processor}
use Rattle.lwkt_plain.specs.Tables.{AreFollowed, AreNamed, Extends}
use Rattle.lwkt_plain.specs.Turns.{turn}
use Rattle.lwkt_plain.proofs.OtherMail.{get_or_other}
use Rattle.lwkt_plain.proofs.OtherTurns.{turn_other}
use Rattle.lwkt_plain.proofs.TableLemmas.{get_some}

-- words that are forgotten, twice
words_gone : (g : List Ref → Option BusyAt → Option BusyAt) (threads : List Thread) → map wordless_thread (map (thread_by g) threads) ≡ map wordless_thread threads
words_gone g [] = refl
words_gone g (t ∷ threads) = ap (λ (rest : List Thread). wordless_thread t ∷ rest) (words_gone g threads)

formed : (p : Plain) (k : ℕ) (now : Processor) → slice_get (form p).cpus k ≡ Some now → wordless now ≡ wordless (cpu_at p k)
formed p k now at =
    let f : Processor → Processor = cpu_by (kept_word p.tokens) in
    let inside = slice_get_within (map f p.cpus) k now at in
    let long = length-map p.cpus f in
    let there : k < length p.cpus = omega (arith, inside, long) in
    let is : now ≡ f (cpu_at p k) = sym (get_or_from_slice_get (map f p.cpus) k now now at) ∙ get_or-map f p.cpus k no_processor now there in
    ap wordless is ∙ ap (λ (threads : List Thread). record (cpu_at p k) { threads = threads }) (words_gone (kept_word p.tokens) (cpu_at p k).threads)

pub cpu_follows : (script : Script) (p : Plain) (c k : ℕ) (old now : Processor) → slice_get p.cpus k ≡ Some old → slice_get (form (turn script p c)).cpus k ≡ Some now → CpuFollows c k old now
cpu_follows script p c k old now was is apart =
    formed (turn script p c) k now is ∙ (ap (λ (o : Processor × Mail). wordless o.0) (turn_other script p c k apart) ∙ ap wordless (get_or_from_slice_get p.cpus k old no_processor was))

pub mail_follows : (script : Script) (p : Plain) (c k : ℕ) (old now : Mail) → slice_get p.mails k ≡ Some old → slice_get (form (turn script p c)).mails k ≡ Some now → MailFollows c k old now
mail_follows script p c k old now was is apart =
    let next : Plain = turn script p c in
    ap (mail_but c) (sym (get_or_from_slice_get next.mails k now no_mail is)) ∙ (ap (λ (o : Processor × Mail). o.1) (turn_other script p c k apart) ∙ ap (mail_but c) (get_or_from_slice_get p.mails k old no_mail was))

-- parts that follow those of the numbers
pub followed : {P : Type 0} (F : ℕ → P → P → Type 0) (table old now : List P) (numbers : List ℕ) → AreNamed table old numbers → ((k : ℕ) (x y : P) → slice_get old k ≡ Some x → slice_get now k ≡ Some y → F k x y) → AreFollowed F table now numbers
followed {P} F table old now numbers names follow = record {
  each = λ k h x y was is.
      let named = names.each k h x in
      let there : k < length old = omega (arith, h, names.long) in
      let at : slice_index_or old k x ≡ x = sym (named.is x) ∙ get_or_from_slice_get table (slice_index_or numbers k 0) x x was in
      follow k x y (get_some old k x there at) is;
}

pub number_follows : {P : Type 0} (F : ℕ → P → P → Type 0) (first table now : List P) (origin : List ℕ) (own k : ℕ) (y : P) → AreFollowed F first now origin → Extends first table → All (λ n. n < length first) origin → k < length origin → own ≡ slice_index_or origin k 0 → slice_get now k ≡ Some y
    → (x : P) → slice_get table own ≡ Some x → F k x y
number_follows {P} F first table now origin own k y are more known there same at x was =
    let B : ℕ → Type 0 = λ n. n < length first in
    let n : ℕ = slice_index_or origin k 0 in
    let low : n < length first = All-get_or B origin k 0 there known in
    let all : slice_get (first ++ more.more) n ≡ Some x = ap (λ (xs : List P). slice_get xs n) (sym more.is) ∙ (ap (slice_get table) (sym same) ∙ was) in
    let here : slice_index_or first n x ≡ x = sym (get_or_append_left first more.more x n low) ∙ get_or_from_slice_get (first ++ more.more) n x x all in
    are.each k there x y (get_some first n x low here) at

-- what is the same but for one element
length_changed : {A : Type 0} (f : A → A) (xs : List A) (i : ℕ) → length (changed f xs i) ≡ length xs
length_changed {A} f xs i = go (slice_get xs i)
  where
    go : (o : Option A) → length (option_map_or (λ y. slice_set xs i (f y)) o xs) ≡ length xs
    go None = refl
    go (Some x) = length-set xs i (f x)

pub same_but_one : {A : Type 0} (e : A) (xs ys : List A) (i : ℕ) → changed (λ x. e) xs i ≡ changed (λ x. e) ys i → slice_get xs i ≡ slice_get ys i → xs ≡ ys
same_but_one {A} e xs ys i all same =
    let long : length xs ≡ length ys = sym (length_changed (λ x. e) xs i) ∙ (ap (λ (zs : List A). length zs) all ∙ length_changed (λ x. e) ys i) in
    ext_get_or e xs ys long (λ k h. elim (cases_eq k i) [
      | inl here ↦
          ap (λ (n : ℕ). get_or xs n e) here ∙ (sym (unwrap_or-slice_get xs i e) ∙ (ap (λ (o : Option A). unwrap_or o e) same ∙ (unwrap_or-slice_get ys i e ∙ ap (λ (n : ℕ). get_or ys n e) (sym here))))
      | inr apart ↦ sym (get_or_other (λ x. e) xs i k e apart) ∙ (ap (λ (zs : List A). get_or zs k e) all ∙ get_or_other (λ x. e) ys i k e apart)
    ])

pub past_both : {A : Type 0} (e : A) (xs ys : List A) (i : ℕ) → changed (λ x. e) xs i ≡ changed (λ x. e) ys i → length xs ≤ i → slice_get xs i ≡ slice_get ys i
past_both {A} e xs ys i all past =
    let long : length xs ≡ length ys = sym (length_changed (λ x. e) xs i) ∙ (ap (λ (zs : List A). length zs) all ∙ length_changed (λ x. e) ys i) in
    slice_get_past xs i past ∙ sym (slice_get_past ys i (omega (arith, past, long)))

pub mail_same : (c : ℕ) (one two : Mail) → mail_but c one ≡ mail_but c two → slice_get one.lanes c ≡ slice_get two.lanes c → one ≡ two
mail_same c one two all same =
    let lanes : one.lanes ≡ two.lanes = same_but_one empty_lane one.lanes two.lanes c (ap (λ (m : Mail). m.lanes) all) same in
    ap (λ (ls : List Lane). record one { lanes = ls }) lanes ∙ ap (λ (ps : List Port). record { lanes = two.lanes; ports = ps }) (ap (λ (m : Mail). m.ports) all)

pub thread_same : (one two : Thread) → wordless_thread one ≡ wordless_thread two → one.busy ≡ two.busy → one ≡ two
thread_same one two all same = ap (λ (t : Thread). record t { busy = one.busy }) all ∙ ap (λ (b : Option BusyAt). record two { busy = b }) same

pub cpu_same : (one two : Processor) → wordless one ≡ wordless two → one.threads ≡ two.threads → one ≡ two
cpu_same one two all same = ap (λ (c : Processor). record c { threads = one.threads }) all ∙ ap (λ (ts : List Thread). record two { threads = ts }) same

pub thread_at_both : (one two : List Thread) (k : ℕ) (d e : Thread) → map wordless_thread one ≡ map wordless_thread two → k < length one → wordless_thread (get_or one k d) ≡ wordless_thread (get_or two k e)
thread_at_both one two k d e all there =
    let a = length-map one wordless_thread in
    let b = length-map two wordless_thread in
    let long : length (map wordless_thread one) ≡ length (map wordless_thread two) = ap (λ (ts : List Thread). length ts) all in
    let there2 : k < length two = omega (arith, there, a, b, long) in
    sym (get_or-map wordless_thread one k d d there) ∙ (ap (λ (ts : List Thread). get_or ts k d) all ∙ get_or-map wordless_thread two k e d there2)
