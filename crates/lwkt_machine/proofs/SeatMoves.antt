-- Seats and lanes' ends that are left, one processor after another.
use Rattle.std.specs.Global.{Global}
use Rattle.std.proofs.Common.{◌≡◌, ℕ, suc, ◌+◌, ◌<◌, ◌≤◌, List, length, map, get_or, refl, ap, sym, ◌∙◌, subst, arith, Some}
use Rattle.std.specs.Prelude.{Vec, slice_get}
use Rattle.std.specs.List.{remove}
use Rattle.std.proofs.lemmas.List.{length-map}
use Rattle.std.proofs.lemmas.Option.{slice_get_read}
use Rattle.lwkt_base.specs.declared.names.ThreadId.{ThreadId}
use Rattle.lwkt_base.specs.declared.opening_specs.MsgSpec.{MsgSpec}
use Rattle.lwkt_bank.specs.declared.seats.CpuSeat.{CpuSeat}
use Rattle.lwkt_bank.specs.Seats.{BankId}
use Rattle.lwkt_lane.specs.declared.ins.LaneIn.{LaneIn}
use Rattle.lwkt_lane.specs.declared.outs.LaneOut.{LaneOut}
use Rattle.lwkt_lane.proofs.CrossedMoves.{first_long, rest_long, none_gone, first_gone, more_gone}
use Rattle.lwkt_lane.proofs.PlaceMoves.{get_removed, length_removed}
use Rattle.lwkt_msg.specs.Desks.{Desk, Shelf, IsOpened}
use Rattle.lwkt_port.specs.OpenedPorts.{KeepLimits}
use Rattle.lwkt_machine.specs.Opened.{IsSeat}
use Rattle.lwkt_machine.specs.Seating.{SeatsFrom, DesksFrom, IsRest, AreLeft}
use Rattle.lwkt_machine.specs.declared.seatings.Rest.{Rest}

-- what holds of each place of a list, counted from a number on
from_first : {A : Type 0} (P : ℕ → A → Type 0) (first : ℕ) (xs : List A) (x : A) → 0 < length xs → x ≡ get_or xs 0 x → ((j : ℕ) (y : A) → slice_get xs j ≡ Some y → P (first + j) y) → P first x
from_first P first xs x some is each =
    let F : ℕ → Type 0 = λ n. P n x in
    let e : first + 0 ≡ first = omega arith in
    subst F e (each 0 x (slice_get_read xs (length xs) 0 x refl some is))

from_rest : {A : Type 0} (P : ℕ → A → Type 0) (first : ℕ) (xs ys : List A) → ys ≡ remove xs 0 → ((j : ℕ) (y : A) → slice_get xs j ≡ Some y → P (first + j) y) → (j : ℕ) (y : A) → slice_get ys j ≡ Some y → P (first + 1 + j) y
from_rest P first xs ys is each j y at =
    let F : ℕ → Type 0 = λ n. P n y in
    let e : first + suc j ≡ first + 1 + j = omega arith in
    subst F e (each (suc j) y (sym (get_removed xs j) ∙ ap (λ zs. slice_get zs j) (sym is) ∙ at))

pub first_seat : (bank : BankId) (first : ℕ) (seats : List CpuSeat) (s : CpuSeat) → 0 < length seats → s ≡ get_or seats 0 s → SeatsFrom bank first seats → IsSeat bank first s
first_seat bank first seats s some is from = from_first (λ n x. IsSeat bank n x) first seats s some is from

pub first_desk : (book : Shelf) (first : ℕ) (desks : List Desk) (d : Desk) → 0 < length desks → d ≡ get_or desks 0 d → DesksFrom book first desks → IsOpened first book d
first_desk book first desks d some is from = from_first (λ n x. IsOpened n book x) first desks d some is from

-- the next processor keeps the limits of its ports
pub first_within : (bank : BankId) (book : Shelf) (first : ℕ) (rest : Rest) (mail : Desk) (outs : Vec LaneOut Global) (ins : Vec LaneIn Global) (origins : List ThreadId) (threads : ℕ) → 0 < length rest.seats.items → IsOpened first book mail → outs ≡ get_or rest.outs.items 0 outs → ins ≡ get_or rest.ins.items 0 ins → origins ≡ map (λ (spec : MsgSpec). spec.origin) book.specs → threads ≤ 16 → IsRest bank book first rest → KeepLimits mail outs.items ins.items origins threads
first_within bank book first rest mail outs ins origins threads some opened out into are few r = record {
  few = few;
  outs_are = first_long book.cpus rest.outs.items outs (omega (arith, some, r.outs_are)) out r.outs_long ∙ sym opened.cpus;
  ins_are = first_long book.cpus rest.ins.items ins (omega (arith, some, r.ins_are)) into r.ins_long ∙ sym opened.cpus;
  origins_are = ap length are ∙ length-map book.specs (λ (spec : MsgSpec). spec.origin) ∙ ap length (sym opened.specs);
}

-- two lists of one length still have one when each is without its first element
fewer : {A B : Type 0} (xs vs : List A) (ys ws : List B) → 0 < length xs → length ys ≡ length xs → vs ≡ remove xs 0 → ws ≡ remove ys 0 → length ws ≡ length vs
fewer xs vs ys ws some same v w =
    let l = length_removed xs some in
    let m = length_removed ys (omega (arith, some, same)) in
    let a = ap length v in
    let b = ap length w in
    omega (arith, l, m, a, b, same)

pub rest_more : (bank : BankId) (book : Shelf) (first : ℕ) (old new : Rest) → 0 < length old.seats.items → new.seats.items ≡ remove old.seats.items 0 → new.mails.items ≡ remove old.mails.items 0 → new.outs.items ≡ remove old.outs.items 0 → new.ins.items ≡ remove old.ins.items 0 → IsRest bank book first old → IsRest bank book (first + 1) new
rest_more bank book first old new some seats mails outs ins rest = record {
  seats = from_rest (λ n x. IsSeat bank n x) first old.seats.items new.seats.items seats rest.seats;
  desks = from_rest (λ n x. IsOpened n book x) first old.mails.items new.mails.items mails rest.desks;
  mails_are = fewer old.seats.items new.seats.items old.mails.items new.mails.items some rest.mails_are seats mails;
  outs_are = fewer old.seats.items new.seats.items old.outs.items new.outs.items some rest.outs_are seats outs;
  ins_are = fewer old.seats.items new.seats.items old.ins.items new.ins.items some rest.ins_are seats ins;
  outs_long = rest_long book.cpus old.outs.items new.outs.items outs rest.outs_long;
  ins_long = rest_long book.cpus old.ins.items new.ins.items ins rest.ins_long;
}

-- what is left when none is gone, the first, or one more
pub left_none : (rest : Rest) → AreLeft 0 rest rest
left_none rest = record { outs = none_gone rest.outs.items; ins = none_gone rest.ins.items }

pub left_first : (old new : Rest) → new.outs.items ≡ remove old.outs.items 0 → new.ins.items ≡ remove old.ins.items 0 → AreLeft 1 old new
left_first old new outs ins = record { outs = first_gone old.outs.items new.outs.items outs; ins = first_gone old.ins.items new.ins.items ins }

pub left_more : (count : ℕ) (all mid left : Rest) → AreLeft count all mid → AreLeft 1 mid left → AreLeft (count + 1) all left
left_more count all mid left a b = record {
  outs = more_gone count all.outs.items mid.outs.items left.outs.items a.outs b.outs;
  ins = more_gone count all.ins.items mid.ins.items left.ins.items a.ins b.ins;
}
