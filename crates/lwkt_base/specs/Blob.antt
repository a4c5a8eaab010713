use Rattle.std.specs.Prelude.{◌≡◌, ℕ, ◌+◌, ◌-◌, ◌<◌, ◌≤◌, List, ◌++◌, length, take, drop, replicate}
use Rattle.std.proofs.Common.{ap, ◌∙◌, sym, subst, arith, inl, inr}
use Rattle.std.proofs.lemmas.Bool.{cases_lt}
use Rattle.std.proofs.lemmas.List.{take-append-drop, take-append-le, take_all, length-take-le, length-append, length-replicate, append-nil}
use Rattle.lwkt_base.specs.declared.limits.TheConstants.{RECORD_LIMIT}
use Rattle.lwkt_base.specs.declared.blobs.Blob.TheInside.{Inside}

-- bytes with as many of value 0 behind them as they have fewer than 64
abbrev pub padded : List ℕ → List ℕ
padded bytes = bytes ++ replicate (RECORD_LIMIT - length bytes) 0

-- of 64 bytes, so many count, and the others are 0 (own)
pub record IsPadded (bytes : List ℕ) (len : ℕ) : Type 0 where
  pub whole : length bytes ≡ RECORD_LIMIT
  pub others : drop len bytes ≡ replicate (RECORD_LIMIT - len) 0

-- the bytes that count; those past the 64th count as 0
abbrev pub counted : List ℕ → ℕ → List ℕ
counted bytes len = take len bytes ++ replicate (len - RECORD_LIMIT) 0

-- what a record of these bytes is: those past the 64th count as 0 (own)
abbrev pub kept_of : List ℕ → List ℕ
kept_of bytes = take RECORD_LIMIT bytes ++ replicate (length bytes - RECORD_LIMIT) 0

-- the record by its parts
abbrev pub inside : List ℕ → ℕ → Inside
inside bytes len = record { len = len; bytes = bytes }

-- so many values of 0
abbrev zeros : ℕ → List ℕ
zeros n = replicate n 0

-- the bytes that count are as many as the length says, and the first 64 of them are those that are kept
pub record IsCounted (bytes : List ℕ) (len : ℕ) : Type 0 where
  pub long : length (counted bytes len) ≡ len
  pub first : take RECORD_LIMIT (counted bytes len) ≡ take len bytes
  pub front : padded (take RECORD_LIMIT (counted bytes len)) ≡ bytes

counted_short : (bytes : List ℕ) (len : ℕ) → len ≤ RECORD_LIMIT → IsPadded bytes len → IsCounted bytes len
counted_short bytes len few is =
    let none : len - RECORD_LIMIT ≡ 0 = omega arith in
    let same : counted bytes len ≡ take len bytes = ap (λ (n : ℕ). take len bytes ++ zeros n) none ∙ append-nil (take len bytes) in
    let within : len ≤ length bytes = subst (λ (n : ℕ). len ≤ n) (sym is.whole) few in
    let long : length (take len bytes) ≡ len = length-take-le len bytes within in
    let at_most : length (take len bytes) ≤ RECORD_LIMIT = subst (λ (n : ℕ). n ≤ RECORD_LIMIT) (sym long) few in
    let first : take RECORD_LIMIT (counted bytes len) ≡ take len bytes = ap (λ (xs : List ℕ). take RECORD_LIMIT xs) same ∙ take_all RECORD_LIMIT (take len bytes) at_most in
    record {
      long = ap length same ∙ long;
      first = first;
      front = ap padded first ∙ ap (λ (n : ℕ). take len bytes ++ zeros (RECORD_LIMIT - n)) long ∙ ap (λ (xs : List ℕ). take len bytes ++ xs) (sym is.others) ∙ take-append-drop len bytes;
    }

counted_long : (bytes : List ℕ) (len : ℕ) → RECORD_LIMIT < len → IsPadded bytes len → IsCounted bytes len
counted_long bytes len many is =
    let within : length bytes ≤ len = (let w = is.whole in omega arith) in
    let all : take len bytes ≡ bytes = take_all len bytes within in
    let same : counted bytes len ≡ bytes ++ zeros (len - RECORD_LIMIT) = ap (λ (xs : List ℕ). xs ++ zeros (len - RECORD_LIMIT)) all in
    let at_least : RECORD_LIMIT ≤ length bytes = (let w = is.whole in omega arith) in
    let at_most : length bytes ≤ RECORD_LIMIT = (let w = is.whole in omega arith) in
    let first : take RECORD_LIMIT (counted bytes len) ≡ bytes = ap (λ (xs : List ℕ). take RECORD_LIMIT xs) same ∙ take-append-le RECORD_LIMIT bytes (zeros (len - RECORD_LIMIT)) at_least ∙ take_all RECORD_LIMIT bytes at_most in
    let none : RECORD_LIMIT - length bytes ≡ 0 = (let w = is.whole in omega arith) in
    let both : length (bytes ++ zeros (len - RECORD_LIMIT)) ≡ length bytes + length (zeros (len - RECORD_LIMIT)) = length-append bytes (zeros (len - RECORD_LIMIT)) in
    let rest : length (zeros (len - RECORD_LIMIT)) ≡ len - RECORD_LIMIT = length-replicate (len - RECORD_LIMIT) 0 in
    record {
      long = ap length same ∙ (let w = is.whole in omega (arith, both, rest, w, many));
      first = first ∙ sym all;
      front = ap padded first ∙ ap (λ (n : ℕ). bytes ++ zeros n) none ∙ append-nil bytes;
    }

pub counted_by : (bytes : List ℕ) (len : ℕ) → IsPadded bytes len → IsCounted bytes len
counted_by bytes len is = elim (cases_lt RECORD_LIMIT len) [ inl many ↦ counted_long bytes len many is | inr few ↦ counted_short bytes len few is ]

-- the record gives its bytes back
pub blob_given_back : (bytes : List ℕ) (len : ℕ) → IsPadded bytes len → inside (padded (take RECORD_LIMIT (counted bytes len))) (length (counted bytes len)) ≡ inside bytes len
blob_given_back bytes len is =
    let is_counted : IsCounted bytes len = counted_by bytes len is in
    ap (λ (xs : List ℕ). inside xs (length (counted bytes len))) is_counted.front ∙ ap (λ (n : ℕ). inside bytes n) is_counted.long
