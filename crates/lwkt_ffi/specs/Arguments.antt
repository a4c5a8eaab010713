-- What the arguments of a call that shows a run say (own).
use Rattle.std.specs.Prelude.{◌≡◌, ◌⊎◌, Bool, true, false, ℕ, ◌<◌, ◌≤◌, ◌^◌, List, [], ◌∷◌, ◌==◌, codes}
use Rattle.std.specs.List.{before_first, after_first}
use Rattle.std.specs.Str.Parse.{digits_value, without_leading_plus, IsNumeral}
use Rattle.lwkt_show.specs.declared.options.Counted.{Counted}
use Rattle.lwkt_show.specs.declared.options.Counted.TheVariants.{Turns, Rounds}
use Rattle.lwkt_show.specs.declared.options.Rendering.{Rendering}
use Rattle.lwkt_show.specs.declared.options.Rendering.TheVariants.{Lines, Trace, Picture, Chains, Player, Timeline}
use Rattle.lwkt_show.specs.declared.options.Options.{Options}

-- an end of a range that is left out
abbrev pub no_end : ℕ
no_end = 18446744073709551615

-- an end of a range is this number, which is written there in decimal digits, with or without a plus before them, or what stands
-- for one that is left out
abbrev pub IsBound : ℕ → List ℕ → ℕ → Type 0
IsBound without [] n = n ≡ without
IsBound without (digit ∷ digits) n = IsNumeral 10 (without_leading_plus (digit ∷ digits)) × ((digits_value 10 (without_leading_plus (digit ∷ digits)) < 2 ^ 64) × (n ≡ digits_value 10 (without_leading_plus (digit ∷ digits))))

-- a byte is a full stop
abbrev pub is_stop : ℕ → Bool
is_stop byte = byte == 46

-- a text is the range `A..B` from one number to another: A is what stands before its first full stop, and behind that comes another
-- one and then B
pub record IsRange (text : List ℕ) (first last : ℕ) : Type 0 where
  pub to : List ℕ
  pub stops : after_first is_stop text ≡ 46 ∷ to
  pub is_first : IsBound 0 (before_first is_stop text) first
  pub is_last : IsBound no_end to last

-- a word asks for a view; no word asks for lines, a page or a timeline
abbrev pub IsRendering : List ℕ → Rendering → Type 0
IsRendering word Lines = ⊥
IsRendering word Trace = word ≡ codes "--trace"
IsRendering word Picture = word ≡ codes "--svg"
IsRendering word Chains = word ≡ codes "--chains"
IsRendering word Player = ⊥
IsRendering word Timeline = ⊥

-- whether a view is of turns that are chosen, and not of the whole run
abbrev pub has_range : Rendering → Bool
has_range Lines = true
has_range Trace = false
has_range Picture = true
has_range Chains = false
has_range Player = true
has_range Timeline = true

-- the word before a range, by what it counts
abbrev pub range_word : Counted → List ℕ
range_word Turns = codes "--turns"
range_word Rounds = codes "--rounds"

-- a word and the text behind it choose the turns of these options
abbrev pub Choose : List ℕ → List ℕ → Options → Type 0
Choose word text options = (word ≡ range_word options.counted) × IsRange text options.first options.last

-- all turns are chosen
abbrev pub HasAll : Options → Type 0
HasAll options = (options.counted ≡ Turns) × ((options.first ≡ 0) × (options.last ≡ no_end))

-- what the words behind `turns` say: nothing, a view, a range, or both in either order
abbrev pub Say : List (List ℕ) → Options → Type 0
Say [] options = HasAll options × (options.rendering ≡ Lines)
Say (rendering ∷ []) options = HasAll options × IsRendering rendering options.rendering
Say (word ∷ text ∷ []) options = Choose word text options × (options.rendering ≡ Lines)
Say (a ∷ b ∷ c ∷ []) options = (IsRendering a options.rendering × Choose b c options) ⊎ (Choose a b options × IsRendering c options.rendering)
Say (a ∷ b ∷ c ∷ d ∷ words) options = ⊥

-- the options that the arguments are: `turns`, and what is said behind it; a range rises, and a view that isn't of chosen turns is
-- of all
pub record AreOptions (words : List (List ℕ)) (options : Options) : Type 0 where
  pub behind : List (List ℕ)
  pub are : words ≡ codes "turns" ∷ behind
  pub say : Say behind options
  pub rises : options.first ≤ options.last
  pub whole : has_range options.rendering ≡ false → (options.first ≡ 0) × (options.last ≡ no_end)
