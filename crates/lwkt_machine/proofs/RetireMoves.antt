-- Processors give back what they have, one after another.
use Rattle.std.proofs.Common.{◌≡◌, ◌∙◌, ℕ, ◌+◌, suc, ◌<◌, List, [], ◌∷◌, ◌++◌, length, get_or, map, ap, sym, subst, arith, append_assoc}
use Rattle.std.specs.Prelude.{All, Vec, slice_get}
use Rattle.std.specs.List.{remove}
use Rattle.std.specs.declared.alloc.Global.{Global}
use Rattle.std.proofs.lemmas.List.{map-append}
use Rattle.std.proofs.lemmas.List.Elements.{All-nil, All-cons, All-head, All-tail, All-push, All-map, All-weaker}
use Rattle.lwkt_base.specs.Holding.{holds_nothing}
use Rattle.lwkt_bank.specs.declared.seats.CpuSeat.{CpuSeat}
use Rattle.lwkt_bank.specs.Closing.{IsReady}
use Rattle.lwkt_bank.specs.Seats.{BankId, bank_of, holding}
use Rattle.lwkt_msg.specs.Desks.{Desk, Shelf}
use Rattle.lwkt_cpu.specs.Processors.{AllOver}
use Rattle.lwkt_drive.specs.declared.driven.Driven.{Driven}
use Rattle.lwkt_drive.specs.Course.{IsAtTables}
use Rattle.lwkt_machine.specs.Ended.{AreOver, AreRetired, HasRoom}
use Rattle.lwkt_machine.specs.Machines.{AreKept, Lasts, processors}
use Rattle.lwkt_machine.specs.declared.closings.Gathered.{Gathered}

-- some of the processors have given back what they have, and the rest are over
pub record IsRetiring {B : Type 0} (all rest : List (Driven B)) (r : Gathered B) : Type 0 where
  pub done : List (Driven B)
  pub in_order : all ≡ done ++ rest
  pub retired : AreRetired done r
  pub over : AreOver (processors rest)

head_removed : {A : Type 0} (xs : List A) (x : A) → 0 < length xs → x ≡ get_or xs 0 x → xs ≡ x ∷ remove xs 0
head_removed [] x some is = absurd (omega (arith, some))
head_removed (y ∷ xs) x some is = ap (λ z. z ∷ xs) (sym is)

pub over_first : {B : Type 0} (all rest : List (Driven B)) (r : Gathered B) (x : Driven B) → 0 < length rest → x ≡ get_or rest 0 x → IsRetiring all rest r → AllOver x.cpu.threads
over_first {B} all rest r x some is so_far = so_far.over 0 x.cpu (ap (λ (xs : List (Driven B)). slice_get (processors xs) 0) (head_removed rest x some is))

pub retiring_more : {B : Type 0} (all rest left : List (Driven B)) (r s : Gathered B) (x : Driven B) → 0 < length rest → x ≡ get_or rest 0 x → left ≡ remove rest 0 → (so_far : IsRetiring all rest r) → AreRetired (so_far.done ++ x ∷ []) s → IsRetiring all left s
retiring_more {B} all rest left r s x some is are so_far more =
    let whole : rest ≡ x ∷ left = head_removed rest x some is ∙ ap (λ xs. x ∷ xs) (sym are) in
    record {
      done = so_far.done ++ x ∷ [];
      in_order = so_far.in_order ∙ ap (λ xs. so_far.done ++ xs) whole ∙ sym (append_assoc so_far.done (x ∷ []) left);
      retired = more;
      over = λ k p at. so_far.over (suc k) p (ap (λ (xs : List (Driven B)). slice_get (processors xs) (suc k)) whole ∙ at);
    }

-- no processor has given back anything yet
pub retired_none : {B : Type 0} (all : Gathered B) → all.seats.items ≡ [] → all.mails.items ≡ [] → all.bodies.items ≡ [] → all.traces.items ≡ [] → AreRetired [] all
retired_none {B} all seats mails bodies traces = record {
  seats = seats;
  empty = subst (All (λ s. holding s ≡ holds_nothing)) (sym seats) (All-nil (λ s. holding s ≡ holds_nothing));
  mails = mails;
  bodies = ap (λ xs. map (λ (v : Vec B Global). v.items) xs) bodies;
  traces = traces;
}

-- room for one more than some is room for one
pub room_first : {B : Type 0} (count : ℕ) (all : Gathered B) → HasRoom (count + 1) all → HasRoom 1 all
room_first count all room = record { seats = omega (arith, room.seats); mails = omega (arith, room.mails); bodies = omega (arith, room.bodies); traces = omega (arith, room.traces) }

-- one processor more gives back what it has
pub retired_more : {B : Type 0} (done : List (Driven B)) (d : Driven B) (old new : Gathered B) (seat : CpuSeat) (mail : Desk) (bodies : Vec B Global) → seat ≡ d.cpu.seat → holding seat ≡ holds_nothing → mail ≡ d.cpu.post.seat → bodies.items ≡ d.cpu.bodies → new.seats.items ≡ old.seats.items ++ seat ∷ [] → new.mails.items ≡ old.mails.items ++ mail ∷ [] → new.bodies.items ≡ old.bodies.items ++ bodies ∷ [] → new.traces.items ≡ old.traces.items ++ d.trace ∷ [] → AreRetired done old → AreRetired (done ++ d ∷ []) new
retired_more {B} done d old new seat mail bodies seat_is empty mail_is bodies_are seats mails lists traces so_far = record {
  seats = seats ∙ ap (λ xs. xs ++ seat ∷ []) so_far.seats ∙ ap (λ s. map (λ (e : Driven B). e.cpu.seat) done ++ s ∷ []) seat_is ∙ sym (map-append (λ (e : Driven B). e.cpu.seat) done (d ∷ []));
  empty = subst (All (λ s. holding s ≡ holds_nothing)) (sym seats) (All-push (λ s. holding s ≡ holds_nothing) old.seats.items seat so_far.empty empty);
  mails = mails ∙ ap (λ xs. xs ++ mail ∷ []) so_far.mails ∙ ap (λ m. map (λ (e : Driven B). e.cpu.post.seat) done ++ m ∷ []) mail_is ∙ sym (map-append (λ (e : Driven B). e.cpu.post.seat) done (d ∷ []));
  bodies = ap (λ xs. map (λ (v : Vec B Global). v.items) xs) lists ∙ map-append (λ (v : Vec B Global). v.items) old.bodies.items (bodies ∷ []) ∙ ap (λ xs. xs ++ bodies.items ∷ []) so_far.bodies ∙ ap (λ b. map (λ (e : Driven B). e.cpu.bodies) done ++ b ∷ []) bodies_are ∙ sym (map-append (λ (e : Driven B). e.cpu.bodies) done (d ∷ []));
  traces = traces ∙ ap (λ xs. xs ++ d.trace ∷ []) so_far.traces ∙ sym (map-append (λ (e : Driven B). e.trace) done (d ∷ []));
}

-- the seats that were given back are of the bank, and hold nothing
pub seats_ready : {B : Type 0} (bank : BankId) (book : Shelf) (cpus : List (Driven B)) (r : Gathered B) → All (IsAtTables bank book.table) cpus → AreRetired cpus r → All (IsReady bank) r.seats.items
seats_ready {B} bank book cpus r places retired =
    let P : CpuSeat → Type 0 = λ s. bank_of s ≡ bank in
    let Q : Driven B → Type 0 = λ d. bank_of d.cpu.seat ≡ bank in
    let f : Driven B → CpuSeat = λ d. d.cpu.seat in
    let of : All P r.seats.items = subst (All P) (sym retired.seats) (All-map P f cpus (All-weaker (IsAtTables bank book.table) Q (λ d is. is.bank_is) cpus places)) in
    λ k d within. record { of = of k d within; empty = λ tok low. ap (λ h. h tok) (retired.empty k d within) }

-- so are those at the book
pub desks_of : {B : Type 0} (bank : BankId) (book : Shelf) (cpus : List (Driven B)) (r : Gathered B) → All (IsAtTables bank book.table) cpus → AreRetired cpus r → All (λ d. d.table ≡ book.table) r.mails.items
desks_of {B} bank book cpus r places retired =
    let P : Desk → Type 0 = λ d. d.table ≡ book.table in
    let Q : Driven B → Type 0 = λ d. d.cpu.post.seat.table ≡ book.table in
    let f : Driven B → Desk = λ d. d.cpu.post.seat in
    subst (All P) (sym retired.mails) (All-map P f cpus (All-weaker (IsAtTables bank book.table) Q (λ d is. is.book_is) cpus places))

-- what bodies keep holds of them when they come back
kept_lists : {B : Type 0} (kept : B → Type 0) (lists : List (Vec B Global)) (cpus : List (Driven B)) → map (λ (v : Vec B Global). v.items) lists ≡ map (λ (d : Driven B). d.cpu.bodies) cpus → All (Lasts kept) cpus → AreKept kept lists
kept_lists {B} kept [] cpus are all = All-nil (λ v. All kept v.items)
kept_lists {B} kept (v ∷ lists) [] are all = absurd cc
kept_lists {B} kept (v ∷ lists) (d ∷ cpus) are all =
    let one : v.items ≡ d.cpu.bodies = cc in
    let rest : map (λ (w : Vec B Global). w.items) lists ≡ map (λ (e : Driven B). e.cpu.bodies) cpus = cc in
    All-cons (λ w. All kept w.items) v lists (subst (λ xs. All kept xs) (sym one) (All-head (Lasts kept) d cpus all)) (kept_lists kept lists cpus rest (All-tail (Lasts kept) d cpus all))

pub kept_back : {B : Type 0} (kept : B → Type 0) (cpus : List (Driven B)) (lists : List (Vec B Global)) → map (λ (v : Vec B Global). v.items) lists ≡ map (λ (d : Driven B). d.cpu.bodies) cpus → All (Lasts kept) cpus → AreKept kept lists
kept_back kept cpus lists are all = kept_lists kept lists cpus are all
