use Rattle.std.proofs.Common.{◌≡◌, ◌==◌, if◌then◌else◌, ℕ, List, ◌∷◌, ◌++◌, append_assoc, codes, refl, ap, arith}
use Rattle.std.proofs.lemmas.Fmt.{decimal_digit}
use Rattle.std.proofs.lemmas.Grind.{common_steps}
use Rattle.std.specs.Fmt.{decimal}
use Rattle.lwkt_report.specs.Report.{line_feed}
use Rattle.lwkt_explore.specs.declared.losses.Lost.{Lost}
use Rattle.lwkt_explore.specs.declared.searches.Tried.{Tried}
use Rattle.lwkt_explore.specs.declared.searches.Tried.TheVariants.{Orders}
use Rattle.lwkt_explore.specs.Texts.{amount_text, order_bytes, lost_line, tried_text}

-- the words for another number than one
more_words : (n : ℕ) (one more : List ℕ) → (n ≡ 1 → ⊥) → (if n == 1 then one else more) ≡ more
more_words n one more other = grind (arith, common_steps)

-- one thing
pub amount_one : (one more : List ℕ) → amount_text 1 one more ≡ 49 ∷ 32 ∷ one
amount_one one more = rw (decimal_digit 1 (omega arith)) refl

-- another number of things
pub amount_more : (n : ℕ) (one more : List ℕ) → (n ≡ 1 → ⊥) → amount_text n one more ≡ decimal n ++ (codes " " ++ more)
amount_more n one more other = rw (more_words n one more other) (append_assoc (decimal n) (codes " ") more)

-- what was tried, in words
pub one_order : (tried : Tried) (n : ℕ) → tried ≡ Orders n → n ≡ 1 → tried_text tried ≡ codes "1 random order"
one_order tried n is one = rw (is, one) (amount_one (codes "random order") (codes "random orders"))

pub more_orders : (tried : Tried) (n : ℕ) → tried ≡ Orders n → (n ≡ 1 → ⊥) → tried_text tried ≡ decimal n ++ codes " random orders"
more_orders tried n is other = rw is (amount_more n (codes "random order") (codes "random orders") other)

-- what is said of a lost state, and of more
pub one_lost : (lost : Lost) → lost.count ≡ 1 → lost_line lost ≡ codes "lost: 1 state, from which no end can be reached; after order" ++ order_bytes lost.order.items ++ line_feed
one_lost lost one = rw one (rw (decimal_digit 1 (omega arith)) refl)

-- six pieces, taken together in two ways
regrouped : (a b c d e f : List ℕ) → a ++ (b ++ c ++ d) ++ e ++ f ≡ a ++ b ++ (c ++ (d ++ (e ++ f)))
regrouped a b c d e f = simp append_assoc

pub more_lost : (lost : Lost) → (lost.count ≡ 1 → ⊥) → lost_line lost ≡ codes "lost: " ++ decimal lost.count ++ codes " states, from which no end can be reached; the first after order" ++ order_bytes lost.order.items ++ line_feed
more_lost lost other =
    rw (more_words lost.count (codes "state") (codes "states") other, more_words lost.count (codes "after order") (codes "the first after order") other)
    (ap (λ (x : List ℕ). x ++ order_bytes lost.order.items ++ line_feed) (regrouped (codes "lost: ") (decimal lost.count) (codes " ") (codes "states") (codes ", from which no end can be reached; ") (codes "the first after order")))

-- what is written, and what comes behind it
pub written : (old new piece a b : List ℕ) → new ≡ old ++ piece → new ++ a ++ b ≡ old ++ (piece ++ a ++ b)
written old new piece a b is = rw is (simp append_assoc)

-- the word that was chosen by a number
pub word_one : (n : ℕ) (word one more : List ℕ) → n ≡ 1 → word ≡ one → word ≡ (if n == 1 then one else more)
word_one n word one more is so = rw is so

pub word_more : (n : ℕ) (word one more : List ℕ) → (n ≡ 1 → ⊥) → word ≡ more → word ≡ (if n == 1 then one else more)
word_more n word one more other so = rw (more_words n one more other) so

-- a sum that was written in three parts
pub summed : (before first second out n space noun stop tried comma t made part end : List ℕ)
    → first ≡ before ++ (n ++ space ++ noun ++ stop) → second ≡ first ++ tried → out ≡ second ++ (comma ++ t ++ space ++ made ++ (stop ++ part ++ end))
    → out ≡ before ++ ((n ++ space ++ noun) ++ stop ++ tried ++ comma ++ (t ++ space ++ made) ++ stop ++ part ++ end)
summed before first second out n space noun stop tried comma t made part end is so last = rw (last, so, is) (simp append_assoc)

-- an outcome that was written in eight parts
pub outlined : (old a b c d e f g out outcome n space word count order turns feed text forms why : List ℕ)
    → a ≡ old ++ (outcome ++ n ++ space ++ word) → b ≡ a ++ count → c ≡ b ++ order → d ≡ c ++ turns → e ≡ d ++ feed → f ≡ e ++ text → g ≡ f ++ forms → out ≡ g ++ why
    → out ≡ old ++ (outcome ++ n ++ space ++ word ++ count ++ order ++ turns ++ feed ++ text ++ forms ++ why)
outlined old a b c d e f g out outcome n space word count order turns feed text forms why one two three four five six seven last = rw (last, seven, six, five, four, three, two, one) (simp append_assoc)
