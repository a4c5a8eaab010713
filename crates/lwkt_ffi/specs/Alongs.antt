-- Arguments that name an order of turns (own).
use Rattle.std.specs.Prelude.{◌≡◌, ◌≤◌, Bool, true, false, ℕ, ◌-◌, nat_le, ◌==◌, ◌&&◌, ◌||◌, List, [], ◌∷◌, if◌then◌else◌, codes}
use Rattle.std.specs.List.{list_all, flat_map}
use Rattle.lwkt_show.specs.declared.options.Counted.TheVariants.{Turns}
use Rattle.lwkt_show.specs.declared.options.Options.{Options}
use Rattle.lwkt_ffi.specs.Arguments.{Say, has_range, no_end}

-- whether a byte is a digit
abbrev pub is_digit : ℕ → Bool
is_digit byte = nat_le 48 byte && nat_le byte 57

-- whether a byte may stand in the text of an order: a digit, or a blank, a comma or a dash
abbrev pub is_part : ℕ → Bool
is_part byte = is_digit byte || byte == 32 || byte == 44 || byte == 45

-- the turn that a byte of a text names, if it is a digit: that of the processor of this number
abbrev pub turn_of_byte : ℕ → List ℕ
turn_of_byte byte = if is_digit byte then (byte - 48) ∷ [] else []

-- the order that a text is
abbrev pub turns_of : List ℕ → List ℕ
turns_of text = flat_map turn_of_byte text

-- the arguments are `turns`, `--order` and a text that is this order, and what is said of its turns by these options: anything that
-- may stand behind `turns`, but no rounds
pub record AreAlong (words : List (List ℕ)) (options : Options) (order : List ℕ) : Type 0 where
  pub text : List ℕ
  pub behind : List (List ℕ)
  pub are : words ≡ codes "turns" ∷ codes "--order" ∷ text ∷ behind
  pub parts : list_all is_part text ≡ true
  pub is_order : order ≡ turns_of text
  pub say : Say behind options
  pub rises : options.first ≤ options.last
  pub whole : has_range options.rendering ≡ false → (options.first ≡ 0) × (options.last ≡ no_end)
  pub turns : options.counted ≡ Turns
