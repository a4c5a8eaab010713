-- The digits of a record, and the record that they are.
use Rattle.std.proofs.Common.{inl, inr, ◌≡◌, ℕ, zero, suc, ◌+◌, ◌-◌, ◌*◌, ◌/◌, ◌%◌, ◌<◌, ◌≤◌, List, [], ◌∷◌, ◌++◌, length, take, replicate, Option, Some, refl, sym, ◌∙◌, ap, ap₂, arith, le-leb, le-ltb, lt-ltb, append_assoc, append-nil}
use Rattle.std.specs.Prelude.{option_and_then, option_map}
use Rattle.std.proofs.lemmas.Bool.{cases_lt}
use Rattle.std.proofs.lemmas.List.{length-append, take_all}
use Rattle.lwkt_base.specs.Blob.{kept_of}
use Rattle.lwkt_base.specs.Hex.{digit_text, hex_text}
use Rattle.lwkt_script.specs.Record.{digit_of, byte_of, bytes_behind, blob_of}
use Rattle.lwkt_trace.specs.Written.{past_text}
use Rattle.lwkt_trace.specs.Readback.{AreBytes, IsStatedBlob}

-- a digit, and its value
record IsDigit (n : ℕ) : Type 0 where
  digit : ℕ
  is : digit_text n ≡ digit ∷ []
  reads : digit_of digit ≡ Some n

digit : (n : ℕ) → n < 16 → IsDigit n
digit zero h = record { digit = 48; is = refl; reads = refl }
digit (suc zero) h = record { digit = 49; is = refl; reads = refl }
digit (suc (suc zero)) h = record { digit = 50; is = refl; reads = refl }
digit (suc (suc (suc zero))) h = record { digit = 51; is = refl; reads = refl }
digit (suc (suc (suc (suc zero)))) h = record { digit = 52; is = refl; reads = refl }
digit (suc (suc (suc (suc (suc zero))))) h = record { digit = 53; is = refl; reads = refl }
digit (suc (suc (suc (suc (suc (suc zero)))))) h = record { digit = 54; is = refl; reads = refl }
digit (suc (suc (suc (suc (suc (suc (suc zero))))))) h = record { digit = 55; is = refl; reads = refl }
digit (suc (suc (suc (suc (suc (suc (suc (suc zero)))))))) h = record { digit = 56; is = refl; reads = refl }
digit (suc (suc (suc (suc (suc (suc (suc (suc (suc zero))))))))) h = record { digit = 57; is = refl; reads = refl }
digit (suc (suc (suc (suc (suc (suc (suc (suc (suc (suc zero)))))))))) h = record { digit = 97; is = refl; reads = refl }
digit (suc (suc (suc (suc (suc (suc (suc (suc (suc (suc (suc zero))))))))))) h = record { digit = 98; is = refl; reads = refl }
digit (suc (suc (suc (suc (suc (suc (suc (suc (suc (suc (suc (suc zero)))))))))))) h = record { digit = 99; is = refl; reads = refl }
digit (suc (suc (suc (suc (suc (suc (suc (suc (suc (suc (suc (suc (suc zero))))))))))))) h = record { digit = 100; is = refl; reads = refl }
digit (suc (suc (suc (suc (suc (suc (suc (suc (suc (suc (suc (suc (suc (suc zero)))))))))))))) h = record { digit = 101; is = refl; reads = refl }
digit (suc (suc (suc (suc (suc (suc (suc (suc (suc (suc (suc (suc (suc (suc (suc zero))))))))))))))) h = record { digit = 102; is = refl; reads = refl }
digit (suc (suc (suc (suc (suc (suc (suc (suc (suc (suc (suc (suc (suc (suc (suc (suc n)))))))))))))))) h = absurd (omega arith)

high : (b : ℕ) → b < 256 → IsDigit (b / 16)
high b h = digit (b / 16) (omega arith)

low : (b : ℕ) → IsDigit (b % 16)
low b = digit (b % 16) (omega arith)

-- a byte's digits before others
byte_before : (b : ℕ) (bs rest : List ℕ) (h : b < 256) → hex_text (b ∷ bs) ++ rest ≡ (high b h).digit ∷ (low b).digit ∷ (hex_text bs ++ rest)
byte_before b bs rest h = ap₂ (λ (x y : List ℕ). ((x ++ y) ++ hex_text bs) ++ rest) (high b h).is (low b).is

byte_is : (b : ℕ) (h : b < 256) → byte_of (high b h).digit (low b).digit ≡ Some b
byte_is b h =
    let whole : 16 * (b / 16) + b % 16 ≡ b = omega arith in
    ap₂ (λ (x y : Option ℕ). option_and_then (λ m. option_map (λ l. 16 * m + l) y) x) (high b h).reads (low b).reads ∙ ap (λ (n : ℕ). Some n) whole

-- the bytes of the digits of some bytes are these, whatever digits come next
bytes_read : (before bs rest : List ℕ) → AreBytes bs → bytes_behind before (hex_text bs ++ rest) ≡ bytes_behind (before ++ bs) rest
bytes_read before [] rest are = ap (λ (l : List ℕ). bytes_behind l rest) (sym (append-nil before))
bytes_read before (b ∷ bs) rest are =
    ap (λ (l : List ℕ). bytes_behind before l) (byte_before b bs rest are.0)
    ∙ ap (λ (o : Option ℕ). option_and_then (λ byte. bytes_behind (before ++ byte ∷ []) (hex_text bs ++ rest)) o) (byte_is b are.0)
    ∙ bytes_read (before ++ b ∷ []) bs rest are.1 ∙ ap (λ (l : List ℕ). bytes_behind l rest) (append_assoc before (b ∷ []) bs)

digits_count : (bs : List ℕ) → AreBytes bs → length (hex_text bs) ≡ 2 * length bs
digits_count [] are = refl
digits_count (b ∷ bs) are =
    let more : length (hex_text (b ∷ bs)) ≡ suc (suc (length (hex_text bs))) = ap₂ (λ (x y : List ℕ). length ((x ++ y) ++ hex_text bs)) (high b are.0).is (low b).is in
    let rest : length (hex_text bs) ≡ 2 * length bs = digits_count bs are.1 in
    omega (arith, more, rest)

front_bytes : (n : ℕ) (bs : List ℕ) → AreBytes bs → AreBytes (take n bs)
front_bytes zero bs are = tt
front_bytes (suc n) [] are = tt
front_bytes (suc n) (b ∷ bs) are = (are.0, front_bytes n bs are.1)

front_short : (n : ℕ) (bs : List ℕ) → length (take n bs) ≤ n
front_short zero bs = omega arith
front_short (suc n) [] = omega arith
front_short (suc n) (b ∷ bs) = let rest = front_short n bs in omega (arith, rest)

-- a record of at most 64 bytes is what is kept of it
kept_short : (blob : List ℕ) → length blob ≤ 64 → kept_of blob ≡ blob
kept_short blob few =
    let none : length blob - 64 ≡ 0 = omega (arith, few) in
    ap (λ (n : ℕ). take 64 blob ++ replicate n 0) none ∙ append-nil (take 64 blob) ∙ take_all 64 blob few

-- a record of at most 64 bytes is one that an event may have
pub stated_short : (blob : List ℕ) → length blob ≤ 64 → AreBytes blob → IsStatedBlob blob
stated_short blob few bytes = record { short = omega (arith, few); bytes = bytes; kept = kept_short blob few }

-- a record of at most 64 bytes is read from its digits, where so many may stand
pub guard_digits : (most : ℕ) (blob : List ℕ) → length blob ≤ most → length blob ≤ 64 → AreBytes blob → blob_of most (hex_text (take 64 blob) ++ past_text blob) ≡ Some blob
guard_digits most blob within few bytes =
    let count : length (hex_text blob) ≡ 2 * length blob = digits_count blob bytes in
    let room : length (hex_text blob) ≤ 2 * most = omega (arith, count, within) in
    let read : bytes_behind [] (hex_text blob) ≡ Some blob = ap (λ (l : List ℕ). bytes_behind [] l) (sym (append-nil (hex_text blob))) ∙ bytes_read [] blob [] bytes in
    rw (le-ltb 64 (length blob) few, take_all 64 blob few, append-nil (hex_text blob), le-leb (length (hex_text blob)) (2 * most) room, read) (ap (λ (l : List ℕ). Some l) (kept_short blob few))

blob_long : (blob : List ℕ) → 64 < length blob → IsStatedBlob blob → blob_of 65 (hex_text (take 64 blob) ++ past_text blob) ≡ Some blob
blob_long blob many is =
    let front : AreBytes (take 64 blob) = front_bytes 64 blob is.bytes in
    let count = digits_count (take 64 blob) front in
    let few = front_short 64 blob in
    let both = length-append (hex_text (take 64 blob)) (48 ∷ 48 ∷ []) in
    let room : length (hex_text (take 64 blob) ++ 48 ∷ 48 ∷ []) ≤ 130 = omega (arith, both, count, few) in
    let read : bytes_behind [] (hex_text (take 64 blob) ++ 48 ∷ 48 ∷ []) ≡ Some (take 64 blob ++ 0 ∷ []) = bytes_read [] (take 64 blob) (48 ∷ 48 ∷ []) front in
    let one : length blob - 64 ≡ 1 = (let s = is.short in omega (arith, s, many)) in
    let same : take 64 blob ++ 0 ∷ [] ≡ blob = ap (λ (n : ℕ). take 64 blob ++ replicate n 0) (sym one) ∙ is.kept in
    rw (lt-ltb 64 (length blob) many, le-leb (length (hex_text (take 64 blob) ++ 48 ∷ 48 ∷ [])) 130 room, read) (ap (λ (l : List ℕ). Some (kept_of l)) same ∙ ap (λ (l : List ℕ). Some l) is.kept)

-- a record is read from its digits
pub blob_read : (blob : List ℕ) → IsStatedBlob blob → blob_of 65 (hex_text (take 64 blob) ++ past_text blob) ≡ Some blob
blob_read blob is = elim (cases_lt 64 (length blob)) [ inl many ↦ blob_long blob many is | inr few ↦ guard_digits 65 blob is.short few is.bytes ]
