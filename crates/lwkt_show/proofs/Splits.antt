-- A text that is cut at the first of some characters.
use Rattle.std.proofs.Common.{◌≡◌, ◌≢◌, ◌≤◌, ◌<◌, ◌+◌, ◌/◌, ◌%◌, ◌^◌, ◌==◌, ◌&&◌, ℕ, suc, zero, Bool, true, false, not, List, [], ◌∷◌, ◌++◌, refl, sym, subst, ap, ◌∙◌, arith, if◌then◌else◌, get_or, drop}
use Rattle.std.specs.List.{list_all, flat_map}
use Rattle.std.specs.Fmt.{decimal, digits, digits_onto, digit_glyph}
use Rattle.std.proofs.lemmas.Bool.{false≢true, lt-ltb}
use Rattle.std.proofs.lemmas.Fmt.{decimal_injective}

-- each character of a text is so
abbrev pub Each : (ℕ → Type 0) → List ℕ → Type 0
Each P [] = Unit {0}
Each P (x ∷ xs) = P x × Each P xs

pub each_append : (P : ℕ → Type 0) (xs ys : List ℕ) → Each P xs → Each P ys → Each P (xs ++ ys)
each_append P [] ys a b = b
each_append P (x ∷ xs) ys a b = (a.0, each_append P xs ys a.1 b)

pub each_more : (P Q : ℕ → Type 0) → ((x : ℕ) → P x → Q x) → (xs : List ℕ) → Each P xs → Each Q xs
each_more P Q more [] a = tt
each_more P Q more (x ∷ xs) a = (more x a.0, each_more P Q more xs a.1)

pub each_if : (P : ℕ → Type 0) (b : Bool) (xs ys : List ℕ) → Each P xs → Each P ys → Each P (if b then xs else ys)
each_if P true xs ys a b = a
each_if P false xs ys a b = b

pub each_flat : (P : ℕ → Type 0) (f : ℕ → List ℕ) → ((x : ℕ) → Each P (f x)) → (xs : List ℕ) → Each P (flat_map f xs)
each_flat P f each [] = tt
each_flat P f each (x ∷ xs) = each_append P (f x) (flat_map f xs) (each x) (each_flat P f each xs)

both_true : (a b : Bool) → (a && b) ≡ true → (a ≡ true) × (b ≡ true)
both_true true b is = (refl, is)
both_true false b is = absurd (false≢true is)

-- a text has no character of this code
pub none_of : (c : ℕ) → (c == c) ≡ true → (xs : List ℕ) → list_all (λ x. not (x == c)) xs ≡ true → Each (λ x. x ≢ c) xs
none_of c same [] all = tt
none_of c same (x ∷ xs) all =
    let both = both_true (not (x == c)) (list_all (λ y. not (y == c)) xs) all in (
      λ is. false≢true (sym (ap not same) ∙ ap (λ y. not (y == c)) (sym is) ∙ both.0),
      none_of c same xs both.1,
    )

-- two texts cut at the first character that isn't so are cut alike
pub same_split : (P : ℕ → Type 0) (xs ys : List ℕ) (c d : ℕ) (us vs : List ℕ) → Each P xs → Each P ys → (P c → ⊥) → (P d → ⊥) → xs ++ (c ∷ us) ≡ ys ++ (d ∷ vs) → (xs ≡ ys) × (c ∷ us ≡ d ∷ vs)
same_split P [] [] c d us vs a b stop stop' e = (refl, e)
same_split P [] (y ∷ ys) c d us vs a b stop stop' e = absurd (stop (subst P (sym (ap (λ l. get_or l 0 0) e)) b.0))
same_split P (x ∷ xs) [] c d us vs a b stop stop' e = absurd (stop' (subst P (ap (λ l. get_or l 0 0) e) a.0))
same_split P (x ∷ xs) (y ∷ ys) c d us vs a b stop stop' e =
    let rest = same_split P xs ys c d us vs a.1 b.1 stop stop' (ap (drop 1) e) in
    (ap (λ z. z ∷ xs) (ap (λ l. get_or l 0 0) e) ∙ ap (λ zs. y ∷ zs) rest.0, rest.1)

-- a character is a digit
abbrev pub IsDigit : ℕ → Type 0
IsDigit c = (48 ≤ c) × (c ≤ 57)

glyph_is : (d : ℕ) → d < 10 → digit_glyph false d ≡ 48 + d
glyph_is d small = ap (λ (b : Bool). if b then 48 + d else (if false then 55 + d else 87 + d)) (lt-ltb d 10 small)

glyph_digit : (n : ℕ) → IsDigit (digit_glyph false (n % 10))
glyph_digit n =
    let small : n % 10 < 10 = omega arith in
    let is = glyph_is (n % 10) small in
    (omega (arith, is), omega (arith, is))

onto_digits : (k n : ℕ) (acc : List ℕ) → Each IsDigit acc → Each IsDigit (digits_onto k 10 false n acc)
onto_digits zero n acc a = a
onto_digits (suc k) n acc a =
    each_if IsDigit (n / 10 == 0) (digit_glyph false (n % 10) ∷ acc) (digits_onto k 10 false (n / 10) (digit_glyph false (n % 10) ∷ acc)) (glyph_digit n, a) (onto_digits k (n / 10) (digit_glyph false (n % 10) ∷ acc) (glyph_digit n, a))

-- a number is written in digits
pub decimal_digits : (n : ℕ) → Each IsDigit (decimal n)
unfolding digits
decimal_digits n = onto_digits 64 n [] tt

-- and has none of this character, which is no digit
pub decimal_none : (c n : ℕ) → (IsDigit c → ⊥) → Each (λ x. x ≢ c) (decimal n)
decimal_none c n never = each_more IsDigit (λ x. x ≢ c) (λ x digit is. never (subst IsDigit is digit)) (decimal n) (decimal_digits n)

-- two texts that begin with a number, and go on with no digit, begin with the same one
pub same_number : (m n c d : ℕ) (us vs : List ℕ) → m < 2 ^ 64 → n < 2 ^ 64 → (IsDigit c → ⊥) → (IsDigit d → ⊥) → decimal m ++ (c ∷ us) ≡ decimal n ++ (d ∷ vs) → (m ≡ n) × (c ∷ us ≡ d ∷ vs)
same_number m n c d us vs small small' stop stop' e =
    let split = same_split IsDigit (decimal m) (decimal n) c d us vs (decimal_digits m) (decimal_digits n) stop stop' e in
    (decimal_injective m n small small' split.0, split.1)
