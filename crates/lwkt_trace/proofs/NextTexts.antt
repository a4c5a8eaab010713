-- The event that a text begins with.
use Rattle.std.proofs.Common.{◌≡◌, ℕ, suc, ◌+◌, ◌<◌, ◌≤◌, List, [], ◌∷◌, ◌++◌, length, take, Bool, true, false, ◌==◌, refl, sym, ap, ap₂, ◌∙◌, subst, arith, append_assoc, append-nil}
use Rattle.std.specs.Prelude.{codes, if◌then◌else◌}
use Rattle.std.specs.List.{IsSplitAt}
use Rattle.std.proofs.lemmas.List.{length-append, take-append-drop}
use Rattle.std.proofs.Math.Seq.{take-append_seam}
use Rattle.lwkt_core.specs.declared.events.Event.{Event}
use Rattle.lwkt_trace.specs.Printed.{HasWords, ItemsHaveWords}
use Rattle.lwkt_trace.specs.Readback.{event_data, events_data, IsWritable, AreWritable}
use Rattle.lwkt_trace.specs.Recognised.{IsWritten, IsNextWritten, AreWritten}
use Rattle.lwkt_trace.specs.Written.{parted, line_at, event_text}

-- something stands before each event
some_either : (b : Bool) → 0 < length (if b then codes "\n" else codes ",\n")
some_either true = omega arith
some_either false = omega arith

-- the front of a text that has two parts before its rest
front_of : (a b rest : List ℕ) → take (length a + length b) (a ++ (b ++ rest)) ≡ a ++ b
front_of a b rest =
    ap₂ (λ (n : ℕ) (l : List ℕ). take n l) (sym (length-append a b)) (sym (append_assoc a b rest)) ∙ take-append_seam (a ++ b) rest

within : (a b rest : List ℕ) → length a + length b ≤ length (a ++ (b ++ rest))
within a b rest = let one = length-append a (b ++ rest) in let two = length-append b rest in omega (arith, one, two)

-- a list that is cut at a place is its two parts
pub cut : {A : Type 0} (xs a b : List A) (mid : ℕ) → IsSplitAt xs mid a b → xs ≡ a ++ b
cut {A} xs a b mid is = sym (take-append-drop mid xs) ∙ sym (ap₂ (λ (l m : List A). l ++ m) is.1 is.2)

pub next_is : (text before first behind line more : List ℕ) (number : ℕ) (e : Event) → text ≡ first ++ behind → behind ≡ line ++ more → first ≡ before → before ≡ line_at number → IsWritten line e
    → IsNextWritten text number e (length before + length line)
next_is text before first behind line more number e whole rest same gap is =
    let parts : text ≡ before ++ (line ++ more) = whole ∙ ap₂ (λ (a b : List ℕ). a ++ b) same rest in
    let some : 0 < length before = subst (λ (l : List ℕ). 0 < length l) (sym gap) (some_either (number == 0)) in
    record {
      some = omega (arith, some);
      within = subst (λ (l : List ℕ). length before + length line ≤ length l) (sym parts) (within before line more);
      text_is = ap (λ (l : List ℕ). take (length before + length line) l) parts ∙ front_of before line more ∙ ap₂ (λ (a b : List ℕ). a ++ b) gap is.text;
      writable = is.writable;
      words = is.words;
    }

-- ---- one event more

parted_more : (n : ℕ) (es : List Event) (e : Event) → parted line_at event_text n (es ++ e ∷ []) ≡ parted line_at event_text n es ++ (line_at (n + length es) ++ event_text e)
parted_more n [] e =
    let same : n ≡ n + 0 = omega arith in
    append-nil (line_at n ++ event_text e) ∙ ap (λ (k : ℕ). line_at k ++ event_text e) same
parted_more n (x ∷ es) e =
    let same : (n + 1) + length es ≡ n + suc (length es) = omega arith in
    let more : parted line_at event_text (n + 1) (es ++ e ∷ []) ≡ parted line_at event_text (n + 1) es ++ (line_at (n + suc (length es)) ++ event_text e) =
    parted_more (n + 1) es e ∙ ap (λ (k : ℕ). parted line_at event_text (n + 1) es ++ (line_at k ++ event_text e)) same in
    ap (λ (l : List ℕ). (line_at n ++ event_text x) ++ l) more
    ∙ sym (append_assoc (line_at n ++ event_text x) (parted line_at event_text (n + 1) es) (line_at (n + suc (length es)) ++ event_text e))

writable_more : (es : List Event) (e : Event) → AreWritable es → IsWritable e → AreWritable (es ++ e ∷ [])
writable_more [] e are is = (is, tt)
writable_more (x ∷ es) e are is = (are.0, writable_more es e are.1 is)

words_more : (es : List Event) (e : Event) → ItemsHaveWords (events_data es) → HasWords (event_data e) → ItemsHaveWords (events_data (es ++ e ∷ []))
words_more [] e are is = (is, tt)
words_more (x ∷ es) e are is = (are.0, words_more es e are.1 is)

pub none_written : AreWritten [] []
none_written = record { text_is = refl; writable = tt; words = tt }

zero_more : (n : ℕ) → n ≡ 0 + n
zero_more n = omega arith

-- events, and behind them the next
pub written_more : (text behind : List ℕ) (es : List Event) (e : Event) (size number : ℕ) → AreWritten text es → number ≡ length es → IsNextWritten behind number e size → AreWritten (text ++ take size behind) (es ++ e ∷ [])
written_more text behind es e size number are counted is =
    let line : take size behind ≡ line_at (0 + length es) ++ event_text e = is.text_is ∙ ap (λ (n : ℕ). line_at n ++ event_text e) (counted ∙ zero_more (length es)) in
    record {
      text_is = ap₂ (λ (a b : List ℕ). a ++ b) are.text_is line ∙ sym (parted_more 0 es e);
      writable = writable_more es e are.writable is.writable;
      words = words_more es e are.words is.words;
    }
