use Rattle.std.proofs.Common.{◌≡◌, ℕ, ◌+◌, ◌*◌, ◌<◌, ◌^◌, Bool, true, false, refl, ap, ◌∙◌, arith}
use Rattle.std.specs.Prelude.{bit_or}
use Rattle.std.proofs.lemmas.Nat.{or_block, or_comm}
use Rattle.lwkt_base.specs.declared.message_words.MsgWord.{MsgWord}
use Rattle.lwkt_base.specs.declared.message_words.MsgState.{MsgState}
use Rattle.lwkt_base.specs.declared.message_words.MsgState.TheVariants.{Rest, Out, With, Back}
use Rattle.lwkt_base.specs.TokenWord.{bit}
use Rattle.lwkt_base.specs.MessageWord.{state_number, message_word, MessageFits}

state_below : (s : MsgState) → state_number s < 4
state_below Rest = omega arith
state_below Out = omega arith
state_below With = omega arith
state_below Back = omega arith

bit_below : (b : Bool) → bit b < 2
bit_below true = omega arith
bit_below false = omega arith

state_same : (s t : MsgState) → state_number s ≡ state_number t → s ≡ t
state_same Rest Rest e = refl
state_same Rest Out e = absurd (omega arith)
state_same Rest With e = absurd (omega arith)
state_same Rest Back e = absurd (omega arith)
state_same Out Rest e = absurd (omega arith)
state_same Out Out e = refl
state_same Out With e = absurd (omega arith)
state_same Out Back e = absurd (omega arith)
state_same With Rest e = absurd (omega arith)
state_same With Out e = absurd (omega arith)
state_same With With e = refl
state_same With Back e = absurd (omega arith)
state_same Back Rest e = absurd (omega arith)
state_same Back Out e = absurd (omega arith)
state_same Back With e = absurd (omega arith)
state_same Back Back e = refl

bit_same : (a b : Bool) → bit a ≡ bit b → a ≡ b
bit_same true true e = refl
bit_same true false e = absurd (omega arith)
bit_same false true e = absurd (omega arith)
bit_same false false e = refl

-- nine digits, each within its place, are known by their sum
record Digits (s a y d b p o t r s' a' y' d' b' p' o' t' r' : ℕ) : Type 0 where
  s_is : s ≡ s'
  a_is : a ≡ a'
  y_is : y ≡ y'
  d_is : d ≡ d'
  b_is : b ≡ b'
  p_is : p ≡ p'
  o_is : o ≡ o'
  t_is : t ≡ t'
  r_is : r ≡ r'

digits : (s a y d b p o t r s' a' y' d' b' p' o' t' r' : ℕ) → s < 4 → a < 2 → y < 2 → d < 2 → b < 2 → p < 2 → o < 8 → t < 8 → s' < 4 → a' < 2 → y' < 2 → d' < 2 → b' < 2 → p' < 2 → o' < 8 → t' < 8
    → s + 4 * a + 8 * y + 16 * d + 32 * b + 64 * p + 128 * o + 1024 * t + 8192 * r ≡ s' + 4 * a' + 8 * y' + 16 * d' + 32 * b' + 64 * p' + 128 * o' + 1024 * t' + 8192 * r' → Digits s a y d b p o t r s' a' y' d' b' p' o' t' r'
digits s a y d b p o t r s' a' y' d' b' p' o' t' r' h1 h2 h3 h4 h5 h6 h7 h8 k1 k2 k3 k4 k5 k6 k7 k8 e =
    let r_is : r ≡ r' = omega arith in
    let t_is : t ≡ t' = omega arith in
    let o_is : o ≡ o' = omega arith in
    let p_is : p ≡ p' = omega arith in
    let b_is : b ≡ b' = omega arith in
    let d_is : d ≡ d' = omega arith in
    let y_is : y ≡ y' = omega arith in
    let a_is : a ≡ a' = omega arith in
    record { s_is = omega arith; a_is = a_is; y_is = y_is; d_is = d_is; b_is = b_is; p_is = p_is; o_is = o_is; t_is = t_is; r_is = r_is }

-- two words of parts that fit are equal only if the parts are
pub message_word-injective : (v w : MsgWord) → MessageFits v → MessageFits w → message_word v ≡ message_word w → v ≡ w
message_word-injective v w fv fw e =
    let g = digits (state_number v.state) (bit v.aborted) (bit v.sync) (bit v.dropable) (bit v.abortable) (bit v.priority) v.origin.0 v.target.0 v.round
    (state_number w.state) (bit w.aborted) (bit w.sync) (bit w.dropable) (bit w.abortable) (bit w.priority) w.origin.0 w.target.0 w.round
    (state_below v.state) (bit_below v.aborted) (bit_below v.sync) (bit_below v.dropable) (bit_below v.abortable) (bit_below v.priority) fv.0 fv.1
    (state_below w.state) (bit_below w.aborted) (bit_below w.sync) (bit_below w.dropable) (bit_below w.abortable) (bit_below w.priority) fw.0 fw.1 e in
    λ i. record {
      round = g.r_is i;
      state = state_same v.state w.state g.s_is i;
      origin = record { 0 = g.o_is i };
      target = record { 0 = g.t_is i };
      aborted = bit_same v.aborted w.aborted g.a_is i;
      sync = bit_same v.sync w.sync g.y_is i;
      dropable = bit_same v.dropable w.dropable g.d_is i;
      abortable = bit_same v.abortable w.abortable g.b_is i;
      priority = bit_same v.priority w.priority g.p_is i;
    }

-- one can be added to the word of a message that was taken, for it to be a word again
pub message_word-below : (w : MsgWord) → MessageFits w → w.state ≡ With → message_word w + 1 < 2 ^ 64
message_word-below w fits is =
    let a : state_number w.state ≡ 2 = ap state_number is in
    let b = bit_below w.aborted in
    let c = bit_below w.sync in
    let d = bit_below w.dropable in
    let e = bit_below w.abortable in
    let p = bit_below w.priority in
    let f = fits.0 in
    let g = fits.1 in
    let h = fits.2 in
    omega arith

-- the third bit of a word is that of the request to abort
low_bits : (t : MsgState) (a : Bool) → bit_or (state_number t + 4 * bit a) 4 ≡ state_number t + 4
low_bits Rest true = refl
low_bits Rest false = refl
low_bits Out true = refl
low_bits Out false = refl
low_bits With true = refl
low_bits With false = refl
low_bits Back true = refl
low_bits Back false = refl

low_below : (t : MsgState) (a : Bool) → state_number t + 4 * bit a < 2 ^ 3
low_below Rest true = omega arith
low_below Rest false = omega arith
low_below Out true = omega arith
low_below Out false = omega arith
low_below With true = omega arith
low_below With false = omega arith
low_below Back true = omega arith
low_below Back false = omega arith

pub requested_word : (w : MsgWord) → bit_or (message_word w) 4 ≡ message_word (record w { aborted = true })
requested_word w =
    let high : ℕ = bit w.sync + 2 * bit w.dropable + 4 * bit w.abortable + 8 * bit w.priority + 16 * w.origin.0 + 128 * w.target.0 + 1024 * w.round in
    let low : ℕ = state_number w.state + 4 * bit w.aborted in
    let cut : message_word w ≡ high * 2 ^ 3 + low = omega arith in
    let four : 4 ≡ 0 * 2 ^ 3 + 4 = refl in
    let blocks = or_block 3 high 0 low 4 (low_below w.state w.aborted) (omega arith) in
    let none_high : bit_or high 0 ≡ high = or_comm high 0 in
    let low_is : bit_or low 4 ≡ state_number w.state + 4 = low_bits w.state w.aborted in
    let whole : bit_or high 0 * 2 ^ 3 + bit_or low 4 ≡ message_word (record w { aborted = true }) = rw (none_high, low_is) (omega arith) in
    ap (λ (n : ℕ). bit_or n 4) cut ∙ (blocks ∙ whole)

-- a word says how its message was sent
pub flags_in_word : (w : MsgWord) (a b c d a' b' c' d' : Bool) → message_word (record w { sync = a; dropable = b; abortable = c; priority = d }) ≡ message_word (record w { sync = a'; dropable = b'; abortable = c'; priority = d' }) → (a ≡ a') × (b ≡ b') × (c ≡ c') × (d ≡ d')
flags_in_word w a b c d a' b' c' d' e =
    let h1 = bit_below a in
    let h2 = bit_below b in
    let h3 = bit_below c in
    let h4 = bit_below d in
    let k1 = bit_below a' in
    let k2 = bit_below b' in
    let k3 = bit_below c' in
    let k4 = bit_below d' in
    let one : bit a ≡ bit a' = omega arith in
    let two : bit b ≡ bit b' = omega arith in
    let three : bit c ≡ bit c' = omega arith in
    let four : bit d ≡ bit d' = omega arith in
    (bit_same a a' one, bit_same b b' two, bit_same c c' three, bit_same d d' four)
