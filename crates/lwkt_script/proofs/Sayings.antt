-- The steps of a thread have no more sentences than are counted, and those are few.
use Rattle.std.proofs.Common.{◌≡◌, ℕ, zero, suc, ◌+◌, ◌<◌, ◌≤◌, List, [], ◌∷◌, ◌++◌, length, nat_lt, cond, Bool, true, false, refl, ap, ◌∙◌, subst, arith, IfSome, IfOk, Option, Some, None, Result, Ok, Err}
use Rattle.std.specs.Prelude.{option_and_then, bytes_eq, codes}
use Rattle.std.proofs.lemmas.Bool.Decides.{nat_tests}
use Rattle.std.proofs.lemmas.List.Sums.{sum_by_push, sum_by-cons}
use Rattle.serde_json.specs.Data.{Data, Items, no_items, item}
use Rattle.lwkt_base.specs.declared.asks.Ask.{Ask}
use Rattle.lwkt_code.specs.declared.steps.Step.{Step}
use Rattle.lwkt_code.specs.declared.steps.Step.TheVariants.{Fixed}
use Rattle.lwkt_code.specs.Programs.{Program, listed, listed_program}
use Rattle.lwkt_script.specs.declared.drafts.Draft.{Draft}
use Rattle.lwkt_script.specs.declared.scopes.Scope.{Scope}
use Rattle.lwkt_script.specs.Field.{has_items}
use Rattle.lwkt_script.specs.Frames.{Nest, sentence_word, size_in, block_at, if_alone, if_else, if_frame, while_frame, times_at, times_frame, loop_frame, frame_of, holds_others, plain_step}
use Rattle.lwkt_script.specs.Limits.{is_sentence, sentences_in, AreCounted}
use Rattle.lwkt_script.specs.Outcome.{◌>>=◌, ◌>>◌, part, demand}
use Rattle.lwkt_script.specs.Sentences.{place, outermost, nothing_said, one_said, with_step, other_read, frame_read, nested, plain, sentence, in_turn, turn, sentences}
use Rattle.lwkt_script.specs.Wish.{formula_at}

-- 1 for a sentence
abbrev mark : Bool → ℕ
mark b = cond b 1 0

few_mark : (b : Bool) → mark b ≤ 1
few_mark true = omega arith
few_mark false = omega arith

-- one step more, be it a sentence or not
one_more : (steps : List Step) (s : Step) → sentences_in (steps ++ s ∷ []) ≤ sentences_in steps + 1
one_more steps s = omega (arith, sum_by_push (λ (x : Step). mark (is_sentence x)) steps s, few_mark (is_sentence s))

-- one step more that is none
none_more : (steps : List Step) (s : Step) → is_sentence s ≡ false → sentences_in (steps ++ s ∷ []) ≡ sentences_in steps
none_more steps s is =
    let zero_more : mark (is_sentence s) ≡ 0 = ap mark is in
    omega (arith, sum_by_push (λ (x : Step). mark (is_sentence x)) steps s, zero_more)

-- a list of asks has as many as it is long
pub asks_are_sentences : (asks : List Ask) → sentences_in (listed asks) ≡ length asks
asks_are_sentences [] = refl
asks_are_sentences (ask ∷ asks) = omega (arith, sum_by-cons (λ (x : Step). mark (is_sentence x)) (Fixed ask) (listed asks), asks_are_sentences asks)

pub listed_said : (code : Program) (asks : List Ask) (repeat : ℕ) → code ≡ listed_program asks repeat → length asks ≤ 256 → sentences_in code.steps ≤ 256
listed_said code asks repeat is few =
    let e : sentences_in code.steps ≡ length asks = ap (λ (p : Program). sentences_in p.steps) is ∙ asks_are_sentences asks in
    omega arith

-- a sentence more, and a step more that is none
pub said_one : (steps : List Step) (s : Step) (said : ℕ) → said < 256 → AreCounted steps said → AreCounted (steps ++ s ∷ []) (said + 1)
said_one steps s said room is = let more = one_more steps s in let all = is.0 in (omega arith, omega arith)

pub said_none : (steps : List Step) (s : Step) (said : ℕ) → is_sentence s ≡ false → AreCounted steps said → AreCounted (steps ++ s ∷ []) said
said_none steps s said without is = let none = none_more steps s without in let all = is.0 in (omega arith, is.1)

abbrev IsCounted : Draft → Type 0
IsCounted draft = AreCounted draft.steps draft.said

-- a sentence that holds others, whose other steps are none
record Closes (f : Nest) : Type 0 where
  end : is_sentence f.end ≡ false
  other : IfSome f.other (λ o. is_sentence o.0 ≡ false)

-- what is read only where something else is
found : {A : Type 0} (o : Option A) (f : A → Option Nest) → ((x : A) → IfSome (f x) Closes) → IfSome (option_and_then f o) Closes
found None f h = tt
found (Some x) f h = h x

chosen : (b : Bool) (x y : Option Nest) → IfSome x Closes → IfSome y Closes → IfSome (cond b x y) Closes
chosen true x y p q = p
chosen false x y p q = q

alone_closes : (size : Items → ℕ) (scope : Scope) (i : ℕ) (d : Data) → IfSome (if_alone size scope i d) Closes
alone_closes size scope i d = found (formula_at 1 d) _ (λ c. found (block_at 2 d) _ (λ body. record { end = refl; other = tt }))

else_closes : (size : Items → ℕ) (scope : Scope) (i : ℕ) (d : Data) → IfSome (if_else size scope i d) Closes
else_closes size scope i d = found (formula_at 1 d) _ (λ c. found (block_at 2 d) _ (λ body. found (block_at 3 d) _ (λ other. record { end = refl; other = refl })))

if_closes : (size : Items → ℕ) (scope : Scope) (i : ℕ) (d : Data) → IfSome (if_frame size scope i d) Closes
if_closes size scope i d =
    chosen (has_items 4 d) (if_else size scope i d) (cond (has_items 3 d) (if_alone size scope i d) None) (else_closes size scope i d)
    (chosen (has_items 3 d) (if_alone size scope i d) None (alone_closes size scope i d) tt)

while_closes : (size : Items → ℕ) (scope : Scope) (i j : ℕ) (d : Data) → IfSome (while_frame size scope i j d) Closes
while_closes size scope i j d = found (formula_at 1 d) _ (λ c. found (block_at 2 d) _ (λ body. record { end = refl; other = tt }))

times_closes : (size : Items → ℕ) (scope : Scope) (i j : ℕ) (d : Data) → IfSome (times_frame size scope i j d) Closes
times_closes size scope i j d = found (times_at d) _ (λ k. found (block_at 2 d) _ (λ body. record { end = refl; other = tt }))

loop_closes : (size : Items → ℕ) (scope : Scope) (i j : ℕ) (d : Data) → IfSome (loop_frame size scope i j d) Closes
loop_closes size scope i j d = found (block_at 1 d) _ (λ body. record { end = refl; other = tt })

frame_closes : (size : Items → ℕ) (scope : Scope) (i j : ℕ) (word : List ℕ) (d : Data) → IfSome (frame_of size scope i j word d) Closes
frame_closes size scope i j word d =
    chosen (bytes_eq word (codes "if")) _ _ (if_closes size scope i d)
    (chosen (bytes_eq word (codes "while")) _ _ (chosen (has_items 3 d) (while_frame size scope i j d) None (while_closes size scope i j d) tt)
    (chosen (bytes_eq word (codes "times")) _ _ (chosen (has_items 3 d) (times_frame size scope i j d) None (times_closes size scope i j d) tt)
    (chosen (has_items 2 d) (loop_frame size scope i j d) None (loop_closes size scope i j d) tt)))

-- what is read only where nothing was wrong before
demanded : (place : ℕ) (b : Bool) (rest : Result Draft ℕ) → (b ≡ true → IfOk rest IsCounted) → IfOk (demand place b >> rest) IsCounted
demanded place true rest h = h refl
demanded place false rest h = tt

parted : {A : Type 0} (place : ℕ) (o : Option A) (f : A → Result Draft ℕ) → ((x : A) → o ≡ Some x → IfOk (f x) IsCounted) → IfOk (part place o >>= f) IsCounted
parted place None f h = tt
parted place (Some x) f h = h x refl

after : (r : Result Draft ℕ) (f : Draft → Result Draft ℕ) → IfOk r IsCounted → ((x : Draft) → IsCounted x → IfOk (f x) IsCounted) → IfOk (r >>= f) IsCounted
after (Ok x) f is h = h x is
after (Err place) f is h = tt

-- what reads a list
abbrev Keeps : (Scope → Draft → Items → Result Draft ℕ) → Type 0
Keeps inside = (scope : Scope) (draft : Draft) (ds : Items) → IsCounted draft → IfOk (inside scope draft ds) IsCounted

other_counted : (inside : Scope → Draft → Items → Result Draft ℕ) (scope : Scope) (j : ℕ) (other : Option (Step × Items)) (draft : Draft) → Keeps inside → IfSome other (λ o. is_sentence o.0 ≡ false) → IsCounted draft
    → IfOk (other_read inside scope j other draft) IsCounted
other_counted inside scope j None draft keeps ends is = is
other_counted inside scope j (Some other) draft keeps ends is = keeps scope (with_step scope j other.0 draft) other.1 (said_none draft.steps other.0 draft.said ends is)

frame_counted : (inside : Scope → Draft → Items → Result Draft ℕ) (j : ℕ) (f : Nest) (draft : Draft) → Keeps inside → Closes f → draft.said < 256 → IsCounted draft → IfOk (frame_read inside j f draft) IsCounted
frame_counted inside j f draft keeps closes room is =
    after (inside f.scope (with_step f.scope j f.head (one_said draft)) f.body) (λ body. other_read inside f.scope j f.other body >>= λ all. Ok (with_step f.scope j f.end all))
    (keeps f.scope (with_step f.scope j f.head (one_said draft)) f.body (said_one draft.steps f.head draft.said room is))
    (λ body so. after (other_read inside f.scope j f.other body) (λ all. Ok (with_step f.scope j f.end all)) (other_counted inside f.scope j f.other body keeps closes.other so) (λ all so. said_none all.steps f.end all.said closes.end so))

worded_counted : (inside : Scope → Draft → Items → Result Draft ℕ) (size : Items → ℕ) (n : ℕ) (scope : Scope) (draft : Draft) (d : Data) (word : List ℕ) (b : Bool) → Keeps inside → draft.said < 256 → IsCounted draft
    → IfOk (cond b (nested inside size n scope draft word d) (plain n scope draft word d)) IsCounted
worded_counted inside size n scope draft d word true keeps room is =
    let o : Option Nest = frame_of size scope (length draft.steps) draft.said word d in
    parted (place n draft.said) o (λ f. frame_read inside draft.said f draft)
    (λ f e. frame_counted inside draft.said f draft keeps (subst (λ (x : Option Nest). IfSome x Closes) e (frame_closes size scope (length draft.steps) draft.said word d)) room is)
worded_counted inside size n scope draft d word false keeps room is =
    parted (place n draft.said) (plain_step scope word d) (λ step. Ok (with_step scope draft.said step (one_said draft))) (λ step e. said_one draft.steps step draft.said room is)

less : (n m : ℕ) → nat_lt n m ≡ true → n < m
less n m h = grind (arith, nat_tests)

sentence_counted : (inside : Scope → Draft → Items → Result Draft ℕ) (size : Items → ℕ) (n : ℕ) (scope : Scope) (draft : Draft) (d : Data) → Keeps inside → IsCounted draft → IfOk (sentence inside size n scope draft d) IsCounted
sentence_counted inside size n scope draft d keeps is =
    let rest : List ℕ → Result Draft ℕ = λ word. cond (holds_others word) (nested inside size n scope draft word d) (plain n scope draft word d) in
    demanded (3000 + n) (nat_lt draft.said 256) (part (place n draft.said) (sentence_word d) >>= rest)
    (λ room. parted (place n draft.said) (sentence_word d) rest (λ word e. worded_counted inside size n scope draft d word (holds_others word) keeps (less draft.said 256 room) is))

in_turn_counted : (f : Draft → Data → Result Draft ℕ) → ((draft : Draft) (d : Data) → IsCounted draft → IfOk (f draft d) IsCounted) → (draft : Draft) (ds : Items) → IsCounted draft → IfOk (in_turn f draft ds) IsCounted
in_turn_counted f h draft no_items is = is
in_turn_counted f h draft (item d ds) is = after (f draft d) (λ next. in_turn f next ds) (h draft d is) (λ next so. in_turn_counted f h next ds so)

turn_counted : (deep n : ℕ) (scope : Scope) (draft : Draft) (d : Data) → IsCounted draft → IfOk (turn deep n scope draft d) IsCounted
unfolding turn
turn_counted zero n scope draft d is = demanded (3000 + n) (nat_lt draft.said 256) (Err (place n draft.said)) (λ room. tt)
turn_counted (suc deep) n scope draft d is =
    sentence_counted (λ inner before ds. in_turn (turn deep n inner) before ds) (size_in deep) n scope draft d (λ inner before ds so. in_turn_counted (turn deep n inner) (turn_counted deep n inner) before ds so) is

-- the program of sentences
pub program_said : (n repeat : ℕ) (vars : List ℕ) (ds : Items) (draft : Draft) (code : Program) → sentences 9 n outermost nothing_said ds ≡ Ok draft → code ≡ record { steps = draft.steps; repeat = repeat; vars = vars } → sentences_in code.steps ≤ 256
program_said n repeat vars ds draft code read is =
    let counted : IsCounted draft = subst (λ (r : Result Draft ℕ). IfOk r IsCounted) read (in_turn_counted (turn 9 n outermost) (turn_counted 9 n outermost) nothing_said ds (omega arith, omega arith)) in
    let all = counted.0 in
    let few = counted.1 in
    let same : sentences_in code.steps ≡ sentences_in draft.steps = ap (λ (p : Program). sentences_in p.steps) is in
    omega arith
