use Rattle.std.specs.Prelude.{◌≡◌, ◌↔◌, Bool, true, false, IsTrue, bytes_eq, ℕ, ◌-◌, ◌<◌, ◌≤◌, List, ◌++◌, length, take, replicate}
use Rattle.std.proofs.Common.{true≢false, refl, ap, ◌∙◌, sym, arith}
use Rattle.std.proofs.Math.Seq.{drop-append_seam}
use Rattle.std.proofs.lemmas.List.{take_all, append-nil, length-append, length-replicate}
use Rattle.std.proofs.lemmas.Slice.Eq.{bytes_eq-Decides}
use Rattle.lwkt_base.specs.Blob.{IsPadded, padded, counted, counted_by, kept_of, blob_given_back}
use Rattle.lwkt_base.specs.declared.blobs.Blob.TheInside.{Inside}

-- the fields of a record, by its bytes
pub len_by : (bytes : List ℕ) (len : ℕ) → IsPadded bytes len → (xs : List ℕ) → counted bytes len ≡ xs → length xs ≡ len
len_by bytes len is xs same = ap length (sym same) ∙ ap (λ (i : Inside). i.len) (blob_given_back bytes len is)

pub bytes_by : (bytes : List ℕ) (len : ℕ) → IsPadded bytes len → (xs : List ℕ) → counted bytes len ≡ xs → padded (take 64 xs) ≡ bytes
bytes_by bytes len is xs same = ap (λ (ys : List ℕ). padded (take 64 ys)) (sym same) ∙ ap (λ (i : Inside). i.bytes) (blob_given_back bytes len is)

-- the bytes that are kept, of a length of at most 64 and of any other
pub front_by : (bytes : List ℕ) (len : ℕ) → IsPadded bytes len → (xs : List ℕ) → counted bytes len ≡ xs → take len bytes ≡ take 64 xs
front_by bytes len is xs same = sym (counted_by bytes len is).first ∙ ap (λ (ys : List ℕ). take 64 ys) same

pub all_by : (bytes : List ℕ) (len : ℕ) → IsPadded bytes len → (xs : List ℕ) → counted bytes len ≡ xs → 64 < len → bytes ≡ take 64 xs
all_by bytes len is xs same many = sym (take_all len bytes (let w = is.whole in omega arith)) ∙ front_by bytes len is xs same

-- a record of at most 64 bytes has just these
pub kept_short : (bytes : List ℕ) → length bytes ≤ 64 → kept_of bytes ≡ bytes
kept_short bytes few =
    let none : length bytes - 64 ≡ 0 = omega arith in
    ap (λ (n : ℕ). take 64 bytes ++ replicate n 0) none ∙ append-nil (take 64 bytes) ∙ take_all 64 bytes few

-- bytes with zeros behind them
pub padded_is : (bytes rest : List ℕ) → length bytes ≤ 64 → rest ≡ replicate (64 - length bytes) 0 → IsPadded (bytes ++ rest) (length bytes)
padded_is bytes rest few zeros =
    let both = length-append bytes rest in
    let long : length rest ≡ 64 - length bytes = ap length zeros ∙ length-replicate (64 - length bytes) 0 in
    record {
      whole = omega (arith, both, long, few);
      others = drop-append_seam bytes rest ∙ zeros;
    }

-- two records are the same exactly if their fields are
pub same_by : (bytes bytes' : List ℕ) (len len' : ℕ) (xs ys : List ℕ) → counted bytes len ≡ xs → counted bytes' len' ≡ ys → len ≡ len' → bytes ≡ bytes' → xs ≡ ys
same_by bytes bytes' len len' xs ys one other lens same = sym one ∙ ap (λ (n : ℕ). counted bytes n) lens ∙ ap (λ (bs : List ℕ). counted bs len') same ∙ other

pub same_len : (bytes bytes' : List ℕ) (len len' : ℕ) → IsPadded bytes len → IsPadded bytes' len' → (xs ys : List ℕ) → counted bytes len ≡ xs → counted bytes' len' ≡ ys → xs ≡ ys → len ≡ len'
same_len bytes bytes' len len' is is' xs ys one other same = sym (len_by bytes len is xs one) ∙ ap length same ∙ len_by bytes' len' is' ys other

pub same_bytes : (bytes bytes' : List ℕ) (len len' : ℕ) → IsPadded bytes len → IsPadded bytes' len' → (xs ys : List ℕ) → counted bytes len ≡ xs → counted bytes' len' ≡ ys → xs ≡ ys → bytes ≡ bytes'
same_bytes bytes bytes' len len' is is' xs ys one other same = sym (bytes_by bytes len is xs one) ∙ ap (λ (zs : List ℕ). padded (take 64 zs)) same ∙ bytes_by bytes' len' is' ys other

untrue : (b : Bool) → (b ≡ true → ⊥) → false ≡ b
untrue true isnt = absurd (isnt refl)
untrue false isnt = refl

-- a test that holds exactly of the same bytes is the one byte by byte
pub tested_bytes : (b : Bool) (xs ys : List ℕ) → IsTrue b ↔ (xs ≡ ys) → b ≡ bytes_eq xs ys
tested_bytes true xs ys is = sym ((bytes_eq-Decides xs ys).1 (is.0 refl))
tested_bytes false xs ys is = untrue (bytes_eq xs ys) (λ same. true≢false (sym (is.1 ((bytes_eq-Decides xs ys).0 same))))
