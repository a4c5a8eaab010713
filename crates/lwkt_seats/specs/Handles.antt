-- What C has of a bank: its desk is there for the call, or all of it is C's; or there is none (own).
use Rattle.std.specs.Prelude.{◌≡◌, ℕ, [], Option, Some, None, MatchOption}
use Rattle.std.specs.Coded.{coded_option}
use Rattle.std.specs.Box.Ownership.{box_owns}
use Rattle.std.specs.declared.alloc.Global.{Global}
use Rattle.std.specs.contracts.impls.GlobalAllocator.TheImpl.{ghosts}
use base.Fml.{Fml, ftrue, fsep, fex}
use base.Stored.{Coded}
use denote.RawPtr.{Ptr, null_ptr, Testable}
use denote.Struct.Lending.{lent_at}
use Rattle.lwkt_seats.specs.declared.desks.Desk.{Desk}
use Rattle.lwkt_seats.specs.Desks.{IsAbsent}
use Rattle.lwkt_seats.specs.contracts.desks.Desk.{the_row}

-- the desk lies there, to be read; a bank of zeros has none
abbrev pub is_lent : Ptr → Option the_row.Denot → Fml
is_lent place None = fex (place ≡ null_ptr) (λ _. ftrue)
is_lent place (Some desk) = fsep (fex (Testable place) (λ _. ftrue)) (lent_at the_row place desk [])

-- the desk lies there in a block of its own, with the right to free it
abbrev pub is_held : Ptr → Option the_row.Denot → Fml
is_held place None = fex (place ≡ null_ptr) (λ _. ftrue)
is_held place (Some desk) = fex Global (λ alloc. box_owns (ghosts.dealloc_token alloc) the_row place desk)

abbrev pub desk_coded : Coded (Option the_row.Denot)
desk_coded = coded_option the_row.coded

-- why the seat wasn't there
abbrev pub IsAbsentIn : Option Desk → ℕ → ℕ → Type 0
IsAbsentIn bank number answer = MatchOption bank (answer ≡ 52) (λ desk. IsAbsent desk number answer)
