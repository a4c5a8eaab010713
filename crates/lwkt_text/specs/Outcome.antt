-- What reading gives: a value, or what is wrong and where (own).
use Rattle.std.specs.Prelude.{◌≡◌, Result, Ok, Err}
use Rattle.lwkt_text.specs.declared.wrongs.Slip.{Slip}
use Rattle.lwkt_text.specs.declared.wrongs.Slip.TheVariants as slips
use Rattle.lwkt_text.specs.declared.wrongs.Wrong.{Wrong}

infixl 10 ◌>>=◌
-- what comes next is read only where nothing was wrong before
abbrev pub ◌>>=◌ : {A B : Type 0} → Result A Wrong → (A → Result B Wrong) → Result B Wrong
(Ok x) >>= f = f x
(Err wrong) >>= f = Err wrong

infixl 10 ◌>>◌
abbrev pub ◌>>◌ : {A B : Type 0} → Result A Wrong → Result B Wrong → Result B Wrong
(Ok x) >> rest = rest
(Err wrong) >> rest = Err wrong

-- what is wrong; of a want of memory nothing is said
abbrev pub IsSlipAsRead : {A : Type 0} → Slip → Result A Wrong → Type 0
IsSlipAsRead (slips.Memory refused) read = Unit {0}
IsSlipAsRead (slips.Wrong wrong) read = read ≡ Err wrong

-- what a reader returned is what reading gives
abbrev pub IsAsRead : {A : Type 0} → Result A Slip → Result A Wrong → Type 0
IsAsRead (Ok x) read = read ≡ Ok x
IsAsRead (Err slip) read = IsSlipAsRead slip read
