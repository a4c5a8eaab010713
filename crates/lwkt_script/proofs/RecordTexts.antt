-- The digits of a text, and the record that they are.
use Rattle.std.proofs.Common.{◌≡◌, ℕ, ◌+◌, ◌-◌, ◌*◌, ◌<◌, ◌≤◌, List, [], ◌∷◌, ◌++◌, length, drop, take, replicate, slice_set, get_or, Option, Some, None, refl, sym, ◌∙◌, ap, arith, le-leb}
use Rattle.std.specs.Prelude.{option_and_then}
use Rattle.std.proofs.lemmas.List.{take_more_set, drop_more, drop_all, length-append, length-take, length-take-le, length-replicate}
use Rattle.lwkt_base.specs.Blob.{kept_of}
use Rattle.lwkt_script.specs.Record.{byte_of, bytes_behind, blob_of}

-- what comes to nothing with each value comes to nothing
none_then : (o : Option ℕ) (f : ℕ → Option (List ℕ)) → ((n : ℕ) → f n ≡ None) → option_and_then f o ≡ None
none_then None f h = refl
none_then (Some n) f h = h n

-- an odd number of digits
pub odd_none : (before text : List ℕ) (k : ℕ) → length text ≡ 2 * k + 1 → bytes_behind before text ≡ None
odd_none before [] k odd = absurd (omega arith)
odd_none before (a ∷ []) k odd = refl
odd_none before (a ∷ b ∷ text) k odd = none_then (byte_of a b) (λ byte. bytes_behind (before ++ byte ∷ []) text) (λ byte. odd_none (before ++ byte ∷ []) text (k - 1) (omega arith))

pub odd_refused : (most : ℕ) (text : List ℕ) (k : ℕ) → length text ≤ 2 * most → length text ≡ 2 * k + 1 → blob_of most text ≡ None
odd_refused most text k short odd = rw (le-leb (length text) (2 * most) short, odd_none [] text k odd) refl

-- two digits more
two_more : (text : List ℕ) (place : ℕ) (d : ℕ) → 2 * place + 1 < length text → drop (2 * place) text ≡ get_or text (2 * place) d ∷ get_or text (2 * place + 1) d ∷ drop (2 * place + 2) text
two_more text place d inside =
    drop_more text (2 * place) d (omega arith)
    ∙ ap (λ (xs : List ℕ). get_or text (2 * place) d ∷ xs) (drop_more text (2 * place + 1) d inside ∙ ap (λ (n : ℕ). get_or text (2 * place + 1) d ∷ drop n text) (let e : 2 * place + 1 + 1 ≡ 2 * place + 2 = omega arith in e))

behind_next : (before : List ℕ) (a b : ℕ) (text : List ℕ) (o : Option ℕ) → byte_of a b ≡ o → bytes_behind before (a ∷ b ∷ text) ≡ option_and_then (λ byte. bytes_behind (before ++ byte ∷ []) text) o
behind_next before a b text o is = ap (λ (x : Option ℕ). option_and_then (λ byte. bytes_behind (before ++ byte ∷ []) text) x) is

at_place : (before : List ℕ) (text : List ℕ) (place d : ℕ) (o : Option ℕ) → 2 * place + 1 < length text → byte_of (get_or text (2 * place) d) (get_or text (2 * place + 1) d) ≡ o
    → bytes_behind before (drop (2 * place) text) ≡ option_and_then (λ byte. bytes_behind (before ++ byte ∷ []) (drop (2 * place + 2) text)) o
at_place before text place d o inside is =
    ap (λ (xs : List ℕ). bytes_behind before xs) (two_more text place d inside) ∙ behind_next before (get_or text (2 * place) d) (get_or text (2 * place + 1) d) (drop (2 * place + 2) text) o is

-- a byte more
pub byte_read : (bytes text : List ℕ) (place byte d : ℕ) → 2 * place + 1 < length text → place < length bytes → byte_of (get_or text (2 * place) d) (get_or text (2 * place + 1) d) ≡ Some byte
    → bytes_behind (take (place + 1) (slice_set bytes place byte)) (drop (2 * (place + 1)) text) ≡ bytes_behind (take place bytes) (drop (2 * place) text)
byte_read bytes text place byte d inside room is =
    ap (λ (before : List ℕ). bytes_behind before (drop (2 * (place + 1)) text)) (take_more_set bytes place byte room)
    ∙ ap (λ (n : ℕ). bytes_behind (take place bytes ++ byte ∷ []) (drop n text)) (let e : 2 * (place + 1) ≡ 2 * place + 2 = omega arith in e)
    ∙ sym (at_place (take place bytes) text place d (Some byte) inside is)

-- all bytes
pub blob_read : (text bytes blob : List ℕ) (place count most : ℕ) → length text ≤ 2 * most → length text ≡ 2 * count → place ≡ count
    → bytes_behind (take place bytes) (drop (2 * place) text) ≡ bytes_behind [] text → blob ≡ kept_of (take count bytes) → Some blob ≡ blob_of most text
blob_read text bytes blob place count most short even all so_far is =
    let rest : drop (2 * place) text ≡ [] = drop_all (2 * place) text (omega arith) in
    let ends : bytes_behind (take place bytes) (drop (2 * place) text) ≡ Some (take place bytes) = ap (λ (xs : List ℕ). bytes_behind (take place bytes) xs) rest in
    let found : bytes_behind [] text ≡ Some (take count bytes) = sym so_far ∙ ends ∙ ap (λ (n : ℕ). Some (take n bytes)) all in
    rw (le-leb (length text) (2 * most) short, found) (ap (λ (xs : List ℕ). Some xs) is)

-- what is kept of bytes is as long as they are
kept_long : (xs : List ℕ) → length (kept_of xs) ≡ length xs
kept_long xs = omega (arith, length-append (take 64 xs) (replicate (length xs - 64) 0), length-take 64 xs, length-replicate {A = ℕ} (length xs - 64) 0)

-- as few bytes as the text has room for
pub blob_short : (text bytes blob : List ℕ) (count most : ℕ) → length text ≤ 2 * most → length bytes ≡ 65 → most ≤ 65 → blob ≡ kept_of (take count bytes) → 2 * count ≤ length text → length blob ≤ most
blob_short text bytes blob count most short room few is half =
    let long : length (take count bytes) ≡ count = length-take-le count bytes (omega arith) in
    let same : length blob ≡ length (take count bytes) = ap length is ∙ kept_long (take count bytes) in
    omega arith
