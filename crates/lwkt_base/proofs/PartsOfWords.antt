-- A word gives the parts that it is made of.
use Rattle.std.proofs.Common.{◌≡◌, ℕ, ◌+◌, ◌*◌, ◌/◌, ◌%◌, ◌<◌, Bool, true, false, nat_eq, refl, ap, ◌∙◌, arith}
use Rattle.lwkt_base.specs.declared.message_words.MsgState.{MsgState}
use Rattle.lwkt_base.specs.declared.message_words.MsgState.TheVariants.{Rest, Out, With, Back}
use Rattle.lwkt_base.specs.declared.message_words.MsgWord.{MsgWord}
use Rattle.lwkt_base.specs.TokenWord.{bit}
use Rattle.lwkt_base.specs.MessageWord.{state_number, message_word, MessageFits}

state_few : (s : MsgState) → state_number s < 4
state_few Rest = omega arith
state_few Out = omega arith
state_few With = omega arith
state_few Back = omega arith

bit_few : (b : Bool) → bit b < 2
bit_few true = omega arith
bit_few false = omega arith

one_state : (s t : MsgState) → state_number s ≡ state_number t → s ≡ t
one_state Rest Rest e = refl
one_state Rest Out e = absurd (omega arith)
one_state Rest With e = absurd (omega arith)
one_state Rest Back e = absurd (omega arith)
one_state Out Rest e = absurd (omega arith)
one_state Out Out e = refl
one_state Out With e = absurd (omega arith)
one_state Out Back e = absurd (omega arith)
one_state With Rest e = absurd (omega arith)
one_state With Out e = absurd (omega arith)
one_state With With e = refl
one_state With Back e = absurd (omega arith)
one_state Back Rest e = absurd (omega arith)
one_state Back Out e = absurd (omega arith)
one_state Back With e = absurd (omega arith)
one_state Back Back e = refl

-- a bit that was read is the one that was written
is_bit : (b : Bool) (n : ℕ) → n ≡ bit b → nat_eq n 1 ≡ b
is_bit true n e = ap (λ k. nat_eq k 1) e
is_bit false n e = ap (λ k. nat_eq k 1) e

-- the places of a sum of nine digits
record Places (n s a y d b p o t r : ℕ) : Type 0 where
  s_is : n % 4 ≡ s
  a_is : n / 4 % 2 ≡ a
  y_is : n / 8 % 2 ≡ y
  d_is : n / 16 % 2 ≡ d
  b_is : n / 32 % 2 ≡ b
  p_is : n / 64 % 2 ≡ p
  o_is : n / 128 % 8 ≡ o
  t_is : n / 1024 % 8 ≡ t
  r_is : n / 8192 ≡ r

places : (n s a y d b p o t r : ℕ) → s < 4 → a < 2 → y < 2 → d < 2 → b < 2 → p < 2 → o < 8 → t < 8 → s + 4 * a + 8 * y + 16 * d + 32 * b + 64 * p + 128 * o + 1024 * t + 8192 * r ≡ n → Places n s a y d b p o t r
places n s a y d b p o t r h1 h2 h3 h4 h5 h6 h7 h8 e = record {
  s_is = omega arith;
  a_is = omega arith;
  y_is = omega arith;
  d_is = omega arith;
  b_is = omega arith;
  p_is = omega arith;
  o_is = omega arith;
  t_is = omega arith;
  r_is = omega arith;
}

-- parts that fit are the ones that are read from their word
pub only_parts : (n : ℕ) (s : MsgState) (w : MsgWord) → state_number s ≡ n % 4 → MessageFits w → message_word w ≡ n
    → record { round = n / 8192; state = s; origin = record { 0 = n / 128 % 8 }; target = record { 0 = n / 1024 % 8 }; aborted = nat_eq (n / 4 % 2) 1; sync = nat_eq (n / 8 % 2) 1; dropable = nat_eq (n / 16 % 2) 1; abortable = nat_eq (n / 32 % 2) 1; priority = nat_eq (n / 64 % 2) 1 } ≡ w
only_parts n s w state_is fits e =
    let g = places n (state_number w.state) (bit w.aborted) (bit w.sync) (bit w.dropable) (bit w.abortable) (bit w.priority) w.origin.0 w.target.0 w.round
    (state_few w.state) (bit_few w.aborted) (bit_few w.sync) (bit_few w.dropable) (bit_few w.abortable) (bit_few w.priority) fits.0 fits.1 e in
    λ i. record {
      round = g.r_is i;
      state = one_state s w.state (state_is ∙ g.s_is) i;
      origin = record { 0 = g.o_is i };
      target = record { 0 = g.t_is i };
      aborted = is_bit w.aborted (n / 4 % 2) g.a_is i;
      sync = is_bit w.sync (n / 8 % 2) g.y_is i;
      dropable = is_bit w.dropable (n / 16 % 2) g.d_is i;
      abortable = is_bit w.abortable (n / 32 % 2) g.b_is i;
      priority = is_bit w.priority (n / 64 % 2) g.p_is i;
    }
