-- What several reads and several writes do together to known bytes.
use Rattle.std.proofs.Common.{◌≡◌, ℕ, ◌+◌, ◌-◌, ◌≤◌, List, ◌++◌, length, take, drop, arith, ◌∙◌, ap, sym, ◌⊎◌, inl, inr, append_assoc}
use Rattle.std.proofs.Math.Seq.{take-add}
use Rattle.std.proofs.lemmas.List.{take_rest, length-drop}
use Rattle.std.proofs.lemmas.Grind.{common_steps}
use Rattle.std.specs.Prelude.{Option, None, Some, IfSome}
use Rattle.std.specs.Io.KnownBytes.{Appends, Consumes, IsAtEnd}
use Rattle.lwkt_report.specs.Stream.{Gains}

-- one more read
pub Consumes-gained : (old mid new : Option (List ℕ)) (before after : List ℕ) (n : ℕ) → Consumes old mid before → Gains mid new before after n → Consumes old new after
Consumes-gained None mid new before after n c g = tt
Consumes-gained (Some xs) None new before after n c g = absurd c
Consumes-gained (Some xs) (Some ys) None before after n c g = absurd g.3
Consumes-gained (Some xs) (Some ys) (Some zs) before after n c (piece, is, count, lost) =
    c ∙ ap (λ (rest : List ℕ). before ++ rest) lost ∙ sym (append_assoc before piece zs) ∙ ap (λ (bs : List ℕ). bs ++ zs) (sym is)

-- all that was read, at the end or at the limit, is what the limit lets through
pub take-limit : (old new : Option (List ℕ)) (bytes : List ℕ) (limit : ℕ) → Consumes old new bytes → length bytes ≤ limit → IsAtEnd new ⊎ (length bytes ≡ limit) → IfSome old (λ left. bytes ≡ take limit left)
take-limit None new bytes limit c within end = tt
take-limit (Some xs) None bytes limit c within end = absurd c
take-limit (Some xs) (Some ys) bytes limit c within (inl end) = grind (arith, common_steps)
take-limit (Some xs) (Some ys) bytes limit c within (inr full) = grind (arith, common_steps)

-- one more write, of a front of the rest
pub Appends-more : (old mid new : Option (List ℕ)) (bytes : List ℕ) (m n : ℕ) → Appends old mid (take m bytes) → Appends mid new (take n (take (length bytes - m) (drop m bytes))) → Appends old new (take (m + n) bytes)
Appends-more None mid new bytes m n a b = tt
Appends-more (Some xs) None new bytes m n a b = absurd a
Appends-more (Some xs) (Some ys) None bytes m n a b = absurd b
Appends-more (Some xs) (Some ys) (Some zs) bytes m n a b =
    cc (take_rest bytes m, take-add m n bytes, append_assoc xs (take m bytes) (take n (drop m bytes)))

-- the length of the rest
pub length-rest : (bytes : List ℕ) (m : ℕ) → length (take (length bytes - m) (drop m bytes)) ≡ length bytes - m
length-rest bytes m = rw (take_rest bytes m) (length-drop m bytes)
