-- Texts in columns, and lists that are shorter than what is taken of them.
use Rattle.std.proofs.Common.{◌≡◌, ◌-◌, ◌+◌, ◌≤◌, ℕ, List, ◌++◌, length, take, replicate, append_assoc, refl, arith, ap, sym, ◌∙◌}
use Rattle.std.proofs.lemmas.List.{length-append, take_all}

-- how much longer a text is with another behind it
pub grown : (old name : List ℕ) → length (old ++ name) - length old ≡ length name
grown old name =
    let e : length (old ++ name) ≡ length old + length name = length-append old name in
    omega arith

-- a name is written, and then the blanks that it lacks
pub columned : (old name mid new : List ℕ) (width before after more count : ℕ)
    → before ≡ length old → mid ≡ old ++ name → after ≡ length mid → more ≡ after - before → count ≡ width - more → new ≡ mid ++ replicate count 32
    → new ≡ old ++ (name ++ replicate (width - length name) 32)
columned old name mid new width before after more count one two three four five six =
    rw (six, five, four, three, two, one, grown old name) (append_assoc old name (replicate (width - length name) 32))

-- all of a list
pub all_taken : {A : Type 0} (n : ℕ) (l : List A) → length l ≤ n → take n l ≡ l
all_taken n l few = take_all n l few

-- a text that was written in seven pieces
pub seven_pieces : (old a b c d e f g o p q r s t new : List ℕ) → o ≡ old ++ a → p ≡ o ++ b → q ≡ p ++ c → r ≡ q ++ d → s ≡ r ++ e → t ≡ s ++ f → new ≡ t ++ g → new ≡ old ++ (a ++ b ++ c ++ d ++ e ++ f ++ g)
seven_pieces old a b c d e f g o p q r s t new one two three four five six seven = rw (seven, six, five, four, three, two, one) (simp append_assoc)
