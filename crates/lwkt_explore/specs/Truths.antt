-- What is known to be so: yes, no, or neither (Kleene's strong logic of three values).
use Rattle.std.specs.Prelude.{Bool, true, false}
use Rattle.lwkt_explore.specs.declared.truths.Truth.{Truth}
use Rattle.lwkt_explore.specs.declared.truths.Truth.TheVariants.{Yes, No, Open}

-- what is known to be so, or not
abbrev pub known : Bool → Truth
known true = Yes
known false = No

abbrev pub opposite : Truth → Truth
opposite Yes = No
opposite No = Yes
opposite Open = Open

-- whether both are so: the lesser of them, where No is less than Open, and Open less than Yes
abbrev pub lesser : Truth → Truth → Truth
lesser No b = No
lesser Open No = No
lesser Open Open = Open
lesser Open Yes = Open
lesser Yes b = b

-- whether one of them is so, or both: the greater
abbrev pub greater : Truth → Truth → Truth
greater Yes b = Yes
greater Open Yes = Yes
greater Open Open = Open
greater Open No = Open
greater No b = b
