-- What the openings of a bank, a book and lanes give is what processors are made of.
use Rattle.std.proofs.Common.{◌≡◌, ℕ, ◌+◌, List, get_or, sym, ◌∙◌, subst, arith}
use Rattle.std.proofs.lemmas.Option.{slice_get_within, get_or_from_slice_get}
use Rattle.lwkt_base.specs.declared.opening_specs.MsgSpec.{MsgSpec}
use Rattle.lwkt_base.specs.declared.opening_specs.TokSpec.{TokSpec}
use Rattle.lwkt_bank.specs.declared.banks.Bank.{Bank}
use Rattle.lwkt_bank.specs.declared.seats.CpuSeat.{CpuSeat}
use Rattle.lwkt_bank.specs.Seats.{id_of}
use Rattle.lwkt_bank.specs.Gathered.{IsOpened as IsOpenedBank}
use Rattle.lwkt_msg.specs.Desks.{Desk, Shelf, IsOpened, AreOpened}
use Rattle.lwkt_lane.specs.Crossed.{AreLanes}
use Rattle.lwkt_machine.specs.Opened.{IsSeat}
use Rattle.lwkt_machine.specs.Seating.{SeatsFrom, DesksFrom, IsRest}
use Rattle.lwkt_machine.specs.declared.seatings.Rest.{Rest}

seats_from : (cpus : ℕ) (specs : List TokSpec) (bank : Bank) (seats : List CpuSeat) → IsOpenedBank cpus specs bank seats → SeatsFrom (id_of bank) 0 seats
seats_from cpus specs bank seats opened j s at =
    let fits = opened.seats_out.each j s (slice_get_within seats j s at) in
    let e : get_or seats j s ≡ s = get_or_from_slice_get seats j s s at in
    let n : j ≡ 0 + j = omega arith in
    let F : CpuSeat → Type 0 = λ x. IsSeat (id_of bank) j x in
    let G : ℕ → Type 0 = λ k. IsSeat (id_of bank) k s in
    subst G n (subst F e (record { bank_is = fits.0; new = fits.1; number = fits.2 }))

desks_from : (cpus : ℕ) (specs : List MsgSpec) (book : Shelf) (desks : List Desk) → AreOpened cpus specs book desks → DesksFrom book 0 desks
desks_from cpus specs book desks opened j d at =
    let long = opened.seats_are.as_many in
    let within = slice_get_within desks j d at in
    let e : get_or desks j d ≡ d = get_or_from_slice_get desks j d d at in
    let n : j ≡ 0 + j = omega arith in
    let F : Desk → Type 0 = λ x. IsOpened j book x in
    let G : ℕ → Type 0 = λ k. IsOpened k book d in
    subst G n (subst F e (opened.seats_are.each j d (omega (arith, long, within))))

-- nothing was made yet
pub rest_first : (cpus : ℕ) (tokens : List TokSpec) (messages : List MsgSpec) (bank : Bank) (book : Shelf) (rest : Rest) → IsOpenedBank cpus tokens bank rest.seats.items → AreOpened cpus messages book rest.mails.items → AreLanes cpus cpus rest.outs.items rest.ins.items → IsRest (id_of bank) book 0 rest
rest_first cpus tokens messages bank book rest opened given lanes = record {
  seats = seats_from cpus tokens bank rest.seats.items opened;
  desks = desks_from cpus messages book rest.mails.items given;
  mails_are = given.seats_are.as_many ∙ sym opened.as_many;
  outs_are = lanes.outs_are ∙ sym opened.as_many;
  ins_are = lanes.ins_are ∙ sym opened.as_many;
  outs_long = λ k v at. lanes.outs_long k v at ∙ sym given.cpus_is;
  ins_long = λ k v at. lanes.ins_long k v at ∙ sym given.cpus_is;
}
