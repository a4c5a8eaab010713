-- Numbers, ranges and orders, as texts (own).
use Rattle.std.specs.Prelude.{ℕ, ◌-◌, ◌+◌, ◌*◌, ◌^◌, ◌&&◌, ◌||◌, ◌==◌, nat_lt, nat_le, List, [], ◌∷◌, length, Bool, true, false, Option, None, Some, if◌then◌else◌, codes}
use Rattle.std.specs.List.{after_first, before_first, flat_map, list_all, position_or_len}
use Rattle.std.specs.Option.{option_and_then, option_map, option_map_or}
use Rattle.std.specs.Str.{all_ascii_digits, bytes_eq}
use Rattle.std.specs.Str.Parse.{digits_value, without_leading_plus}
use Rattle.clap.specs.Lexer.{strip_byte}
use Rattle.clap.specs.Words.{Text}
use Rattle.lwkt_show.specs.declared.options.Counted.{Counted}
use Rattle.lwkt_show.specs.declared.options.Counted.TheVariants.{Turns, Rounds}
use Rattle.lwkt_request.specs.declared.ranges.Range.{Range}

-- the number that a text is: its decimal digits, perhaps behind a plus, if there are any, for a number below 2 ^ 64
abbrev pub number_of_digits : Text → Option ℕ
number_of_digits digits = if all_ascii_digits digits && (nat_lt 0 (length digits) && nat_lt (digits_value 10 digits) (2 ^ 64)) then Some (digits_value 10 digits) else None

abbrev pub number_of : Text → Option ℕ
number_of text = number_of_digits (without_leading_plus text)

-- the number that an option has, or that stands for one that isn't named
abbrev pub number_or : ℕ → Option Text → Option ℕ
number_or without None = Some without
number_or without (Some text) = number_of text

-- the number that an option has, if it is named
abbrev pub number_named : Option Text → Option (Option ℕ)
number_named None = Some None
number_named (Some text) = option_map (λ n. Some n) (number_of text)

-- a text behind which nothing stands
abbrev pub whole_before : Text → Text → Option Text
whole_before front [] = Some front
whole_before front (byte ∷ back) = None

-- what stands before a byte that ends a text and stands nowhere else in it
abbrev pub before_end : ℕ → Text → Option Text
before_end byte text =
    if position_or_len (λ b. b == byte) text == length text then None else whole_before (before_first (λ b. b == byte) text) (after_first (λ b. b == byte) text)

-- so many times a number, below 2 ^ 64
abbrev pub times_number : ℕ → Text → Option ℕ
times_number unit text = option_and_then (λ n. if nat_lt (n * unit) (2 ^ 64) then Some (n * unit) else None) (number_of text)

-- how many bytes a text names: a number, and perhaps K, M or G behind it, for 1024, its square and its cube
abbrev pub bytes_named : Text → Option ℕ
bytes_named text =
    option_map_or (times_number 1024) (before_end 75 text) (option_map_or (times_number 1048576) (before_end 77 text) (option_map_or (times_number 1073741824) (before_end 71 text) (number_of text)))

-- how many bytes an option has; as many as 64 bits go to for one that isn't named
abbrev pub bytes_or : ℕ → Option Text → Option ℕ
bytes_or without None = Some without
bytes_or without (Some text) = bytes_named text

-- an end of a range that is left out
abbrev pub no_end : ℕ
no_end = 18446744073709551615

-- an end of a range, or what stands for one that is left out
abbrev pub bound_or : ℕ → Text → Option ℕ
bound_or without [] = Some without
bound_or without (byte ∷ text) = number_of (byte ∷ text)

abbrev pub is_stop : ℕ → Bool
is_stop byte = byte == 46

-- what stands behind a full stop
abbrev pub behind_stop : Text → Option Text
behind_stop text = strip_byte 46 text

-- what stands before the first two full stops of a range `A..B`, and behind them
abbrev pub ends_of : Text → Option (Text × Text)
ends_of text = option_map (λ to. (before_first is_stop text, to)) (behind_stop (after_first is_stop text))

abbrev pub rising : Counted → ℕ → ℕ → Option Range
rising counted first last = if nat_le first last then Some (record { counted = counted; first = first; last = last }) else None

-- the range with these ends; none if one is no number, or the first is greater than the last
abbrev pub range_between : Counted → Text × Text → Option Range
range_between counted ends = option_and_then (λ first. option_and_then (λ last. rising counted first last) (bound_or no_end ends.1)) (bound_or 0 ends.0)

-- the range that a text is
abbrev pub range_of : Counted → Text → Option Range
range_of counted text = option_and_then (range_between counted) (ends_of text)

-- all turns
abbrev pub all_turns : Range
all_turns = record { counted = Turns; first = 0; last = no_end }

-- the range that `--turns` or `--rounds` has, and all turns without one; none if both are named
abbrev pub range_named : Option Text → Option Text → Option Range
range_named None None = Some all_turns
range_named (Some turns) None = range_of Turns turns
range_named None (Some rounds) = range_of Rounds rounds
range_named (Some turns) (Some rounds) = None

-- whether a byte is a digit, and whether it may stand in the text of an order: a digit, or a blank, a comma or a dash
abbrev pub is_digit : ℕ → Bool
is_digit byte = nat_le 48 byte && nat_le byte 57

abbrev pub is_part : ℕ → Bool
is_part byte = is_digit byte || byte == 32 || byte == 44 || byte == 45

-- the turn that a byte of an order names, if it is a digit: that of the processor of this number
abbrev pub turn_of_byte : ℕ → List ℕ
turn_of_byte byte = if is_digit byte then (byte - 48) ∷ [] else []

-- the order that a text is
abbrev pub turns_of : Text → List ℕ
turns_of text = flat_map turn_of_byte text

-- the file that is named; none for standard input, which `-` is too
abbrev pub path_of : Option Text → Option Text
path_of None = None
path_of (Some file) = if bytes_eq file (codes "-") then None else Some file
