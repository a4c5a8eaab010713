-- How the seats of a desk are taken out of their places, and out of their boxes.
use Rattle.std.proofs.Common.{◌≡◌, ◌⊎◌, ◌≢◌, ℕ, zero, suc, ◌+◌, ◌<◌, ◌≤◌, List, [], ◌∷◌, ◌++◌, length, map, refl, ap, sym, ◌∙◌, subst, arith, inl, inr}
use Rattle.std.specs.Prelude.{Option, Some, None, IfSome, MatchOption, Result, Ok, Err, IfOk, IfErr, All, slice_get, slice_index_or}
use Rattle.std.proofs.lemmas.Bool.{cases_lt}
use Rattle.std.proofs.lemmas.List.{get_or_past}
use Rattle.std.proofs.lemmas.Option.{slice_get-get_or}
use Rattle.lwkt_base.specs.Holding.{Holding, holds_nothing}
use Rattle.lwkt_bank.specs.declared.banks.Bank.{Bank}
use Rattle.lwkt_bank.specs.declared.seats.CpuSeat.{CpuSeat}
use Rattle.lwkt_core.specs.Tokens.{IsShort}
use Rattle.lwkt_bank.specs.declared.closed.Closed.{Closed}
use Rattle.lwkt_bank.specs.Gathered.{IsClosed}
use Rattle.lwkt_bank.specs.Seats.{id_of, cpus_of, tokens_of, plan_of, holding}
use Rattle.lwkt_bank.specs.Closing.{IsReady}
use Rattle.lwkt_seats.specs.declared.taken.Taken.{Taken}
use Rattle.lwkt_seats.specs.declared.desks.Desk.{Desk}
use Rattle.lwkt_seats.specs.Desks.{seats_of, bank_at, IsSeatAt}
use Rattle.lwkt_seats.specs.Closes.{HasOut, IsFreeAt, AreFree, SomeHolds, IsSized, ClosesDesk}
use Rattle.lwkt_seats.proofs.Answering.{seat_at}
use Rattle.lwkt_seats.proofs.BriefMoves.{tally_or_not}

abbrev pub seat_in : Taken → CpuSeat
seat_in x = x.sitter.value.seat

pub fewer : (xs : List Taken) (x : Taken) (ys : List Taken) → length xs < length (xs ++ x ∷ ys)
fewer [] x ys = omega arith
fewer (y ∷ xs) x ys = let r = fewer xs x ys in omega arith

pub seats_in : (xs : List Taken) → length (map seat_in xs) ≡ length xs
seats_in [] = refl
seats_in (x ∷ xs) = ap suc (seats_in xs)

pub whole_more : (xs : List Taken) (x : Taken) (ys : List Taken) → (xs ++ x ∷ []) ++ ys ≡ xs ++ x ∷ ys
whole_more [] x ys = refl
whole_more (y ∷ xs) x ys = ap (λ (zs : List Taken). y ∷ zs) (whole_more xs x ys)

map_more : (xs : List Taken) (x : Taken) → map seat_in (xs ++ x ∷ []) ≡ map seat_in xs ++ seat_in x ∷ []
map_more [] x = refl
map_more (y ∷ xs) x = ap (λ (zs : List CpuSeat). seat_in y ∷ zs) (map_more xs x)

pub seats_more : (xs : List Taken) (x : Taken) (seats : List CpuSeat) (seat : CpuSeat) → seats ≡ map seat_in xs → seat ≡ seat_in x → seats ++ seat ∷ [] ≡ map seat_in (xs ++ x ∷ [])
seats_more xs x seats seat is same = ap (λ (s : CpuSeat). seats ++ s ∷ []) same ∙ ap (λ (zs : List CpuSeat). zs ++ seat_in x ∷ []) is ∙ sym (map_more xs x)

-- the last of a list, and those in front of it
last_at : (xs : List Taken) (x : Taken) → slice_get (xs ++ x ∷ []) (length xs) ≡ Some x
last_at [] x = refl
last_at (y ∷ xs) x = last_at xs x

front_at : (xs : List Taken) (x y : Taken) (k : ℕ) → slice_get xs k ≡ Some y → slice_get (xs ++ x ∷ []) k ≡ Some y
front_at [] x y k is = absurd cc
front_at (z ∷ xs) x y zero is = is
front_at (z ∷ xs) x y (suc k) is = front_at xs x y k is

pub front_free : (desk : Desk) (all xs : List Taken) (x : Taken) → all ≡ xs ++ x ∷ [] → AreFree desk all → AreFree desk xs
front_free desk all xs x is free k y at = free k y (ap (λ (zs : List Taken). slice_get zs k) is ∙ front_at xs x y k at)

pub last_out : (desk : Desk) (all xs : List Taken) (x : Taken) (k : ℕ) → all ≡ xs ++ x ∷ [] → AreFree desk all → k ≡ length xs → HasOut desk k x
last_out desk all xs x k is free number =
    let there = free (length xs) x (ap (λ (zs : List Taken). slice_get zs (length xs)) is ∙ last_at xs x) in
    subst (λ (n : ℕ). HasOut desk n x) (sym number) there.0

-- a seat that was taken from its place is that of the place's number
pub seat_there : (desk : Desk) (number : ℕ) (x : Taken) → HasOut desk number x → IsSeatAt desk number (seat_in x)
seat_there desk number x out = seat_at desk number x.sitter.value out.there out.seated

pub holds_there : (desk : Desk) (number : ℕ) (x : Taken) → HasOut desk number x → (holding (seat_in x) ≢ holds_nothing) → SomeHolds desk
holds_there desk number x out holds = (number, (seat_in x, (seat_there desk number x out, holds)))

-- one seat more is taken from its place
some_is : {A : Type 0} (x y : A) → Some x ≡ Some y → x ≡ y
some_is {A} x y is = cc

at_end : {A : Type 0} (xs : List A) (x y : A) (k : ℕ) → slice_get (xs ++ x ∷ []) k ≡ Some y → (slice_get xs k ≡ Some y) ⊎ ((k ≡ length xs) × (x ≡ y))
at_end {A} [] x y zero is = inr (refl, some_is x y is)
at_end {A} [] x y (suc k) is = absurd cc
at_end {A} (z ∷ xs) x y zero is = inl is
at_end {A} (z ∷ xs) x y (suc k) is = elim (at_end xs x y k is) [ inl front ↦ inl front | inr last ↦ inr (ap suc last.0, last.1) ]

pub free_more : (desk : Desk) (xs : List Taken) (x : Taken) (number : ℕ) → AreFree desk xs → number ≡ length xs → IsFreeAt desk number x → AreFree desk (xs ++ x ∷ [])
free_more desk xs x number free count here = λ k y at. elim (at_end xs x y k at) [
  | inl front ↦ free k y front
  | inr last ↦
      let F : ℕ → Type 0 = λ n. IsFreeAt desk n y in
      subst F (count ∙ sym last.0) (subst (λ (z : Taken). IsFreeAt desk number z) last.1 here)
]

pub longer : (xs : List Taken) (x : Taken) → length (xs ++ x ∷ []) ≡ length xs + 1
longer [] x = refl
longer (y ∷ xs) x = let r = longer xs x in omega arith

seat_from : (xs : List Taken) (k : ℕ) (s : CpuSeat) → slice_get (map seat_in xs) k ≡ Some s → (x : Taken) × ((slice_get xs k ≡ Some x) × (seat_in x ≡ s))
seat_from [] k s is = absurd cc
seat_from (x ∷ xs) zero s is = (x, (refl, some_is (seat_in x) s is))
seat_from (x ∷ xs) (suc k) s is = seat_from xs k s is

-- the seats of a desk that were taken from their places are of one bank, hold nothing, and are as many as it has processors
module _ (desk : Desk) (xs : List Taken) (free : AreFree desk xs) where
  pub seated_at : (k : ℕ) (s : CpuSeat) → slice_get (map seat_in xs) k ≡ Some s → IsSeatAt desk k s
  seated_at k s at =
      let found = seat_from xs k s at in
      let there = free k found.0 found.1.0 in
      subst (IsSeatAt desk k) found.1.1 (seat_there desk k found.0 there.0)

  ready_at : (k : ℕ) (s : CpuSeat) → slice_get (map seat_in xs) k ≡ Some s → IsReady (id_of (bank_at desk)) s
  ready_at k s at =
      let found = seat_from xs k s at in
      let there = free k found.0 found.1.0 in
      let ready : IsReady (id_of (bank_at desk)) (seat_in found.0) = record { of = (seat_there desk k found.0 there.0).1; empty = λ tok below. ap (λ (h : Holding). h tok) there.1 } in
      subst (IsReady (id_of (bank_at desk))) found.1.1 ready

  pub all_ready : (seats : List CpuSeat) → seats ≡ map seat_in xs → All (IsReady (id_of (bank_at desk))) seats
  all_ready seats are = λ k d within.
      let F : List CpuSeat → Type 0 = λ ss. slice_get ss k ≡ Some (slice_index_or seats k d) in
      ready_at k (slice_index_or seats k d) (subst F are (slice_get-get_or seats k d within))

  pub as_many : (seats : List CpuSeat) → seats ≡ map seat_in xs → length xs ≡ seats_of desk → length seats ≡ cpus_of (bank_at desk)
  as_many seats are all = ap length are ∙ seats_in xs ∙ all ∙ sym desk.all

-- the closing values fit what C gets of them
pub sized : (bank : Bank) (seats : List CpuSeat) (closed : Closed) → cpus_of bank ≤ 8 → IsClosed (id_of bank) (cpus_of bank) seats closed → IsSized closed
sized bank seats closed few is tok = elim (cases_lt tok (tokens_of (id_of bank))) [
  | inl below ↦
      let t = is.each tok below in
      let long = t.long in
      let cells = bank.short tok in
      let tallies = elim (tally_or_not (plan_of (id_of bank) tok).law) as (λ x. length (slice_index_or closed.tallies.items tok []) ≤ 8) [
        | inl tally ↦ let e = t.as_many tally in omega (arith, e, few)
        | inr not ↦ let e = ap (λ (xs : List ℕ). length xs) (t.none not) in omega (arith, e)
      ] in
      (omega (arith, long, cells), tallies, t.short)
  | inr past ↦
      let many = is.rows in
      let many_tallies = is.tallies in
      let many_blobs = is.blobs in
      let row : length (slice_index_or closed.rows.items tok []) ≡ 0 = ap (λ (xs : List ℕ). length xs) (get_or_past closed.rows.items tok [] (omega (arith, many, past))) in
      let tallies : length (slice_index_or closed.tallies.items tok []) ≡ 0 = ap (λ (xs : List ℕ). length xs) (get_or_past closed.tallies.items tok [] (omega (arith, many_tallies, past))) in
      (omega (arith, row), omega (arith, tallies), subst IsShort (sym (get_or_past closed.blobs.items tok None (omega (arith, many_blobs, past)))) tt)
]

-- and so the desk ends
module _ (desk : Desk) (xs : List Taken) (free : AreFree desk xs) (seats : List CpuSeat) (room : ℕ) where
  abbrev B : Bank
  B = bank_at desk

  pub ends : (closed : Closed) → seats ≡ map seat_in xs → length xs ≡ seats_of desk → tokens_of (id_of B) ≤ room → IsClosed (id_of B) (cpus_of B) seats closed → ClosesDesk desk room closed
  ends closed are all fits is =
      let places = ap length are ∙ seats_in xs ∙ all in
      let few = desk.few in
      let many = desk.all in
      record {
        seats = seats;
        as_many = places;
        seated = λ k s here. seated_at desk xs free k s (subst (λ (ss : List CpuSeat). slice_get ss k ≡ Some s) are here);
        ready = all_ready desk xs free seats are;
        is_closed = is;
        lawful = λ tok below. (is.each tok below).lawful;
        sized = sized B seats closed (omega (arith, few, many)) is;
        fits = fits;
      }

  pub ended : (came : Result Closed ℕ) → seats ≡ map seat_in xs → length xs ≡ seats_of desk → tokens_of (id_of B) ≤ room
      → IfOk came (λ closed. IsClosed (id_of B) (cpus_of B) seats closed) → IfOk came (λ closed. ClosesDesk desk room closed)
  ended (Ok closed) are all fits is = ends closed are all fits is
  ended (Err answer) are all fits is = tt

-- no refusal is answered by 0
pub refuses : (answer : ℕ) → (answer ≡ 39) ⊎ ((answer ≡ 50) ⊎ ((answer ≡ 51) ⊎ ((answer ≡ 52) ⊎ (answer ≡ 53)))) → answer ≡ 0 → ⊥
refuses answer (inl wide) is = omega (arith, wide, is)
refuses answer (inr (inl used)) is = omega (arith, used, is)
refuses answer (inr (inr (inl holds))) is = omega (arith, holds, is)
refuses answer (inr (inr (inr (inl closed)))) is = omega (arith, closed, is)
refuses answer (inr (inr (inr (inr shared)))) is = omega (arith, shared, is)

-- what came of a bank that was told apart from one that is still in use
pub finished : (sole : Option Bank) (came : Result Closed ℕ) (bank : Bank) (seats : List CpuSeat) → IfSome sole (λ b. b ≡ bank)
    → MatchOption sole (came ≡ Err 53) (λ b. (closed : Closed) × ((came ≡ Ok closed) × IsClosed (id_of b) (cpus_of b) seats closed)) → IfOk came (λ closed. IsClosed (id_of bank) (cpus_of bank) seats closed)
finished None came bank seats is shared = subst (λ (x : Result Closed ℕ). IfOk x (λ closed. IsClosed (id_of bank) (cpus_of bank) seats closed)) (sym shared) tt
finished (Some b) came bank seats is found =
    let F : Bank → Closed → Type 0 = λ x closed. IsClosed (id_of x) (cpus_of x) seats closed in
    subst (λ (x : Result Closed ℕ). IfOk x (λ closed. F bank closed)) (sym found.1.0) (subst (λ (x : Bank). F x found.0) is found.1.1)

pub refused : (sole : Option Bank) (came : Result Closed ℕ) (seats : List CpuSeat)
    → MatchOption sole (came ≡ Err 53) (λ b. (closed : Closed) × ((came ≡ Ok closed) × IsClosed (id_of b) (cpus_of b) seats closed)) → IfErr came (λ answer. answer ≡ 53)
refused None came seats shared = subst (λ (x : Result Closed ℕ). IfErr x (λ answer. answer ≡ 53)) (sym shared) refl
refused (Some b) came seats found = subst (λ (x : Result Closed ℕ). IfErr x (λ answer. answer ≡ 53)) (sym found.1.0) tt
