use Rattle.std.proofs.Common.{◌≡◌, ℕ, suc, ◌<◌, List, [], ◌∷◌, length, ap, arith}
use Rattle.std.specs.Prelude.{All, Vec, Result, IfOk, slice_index_or}
use Rattle.std.specs.declared.alloc.Global.{Global}
use Rattle.std.proofs.Math.Path.{fun_ext}
use Rattle.std.proofs.lemmas.List.Elements.{All-nil, All-cons}
use Rattle.std.proofs.lemmas.Result.{IfOk-weaker}
use Rattle.lwkt_base.specs.declared.faults.Fault.{Fault}
use Rattle.lwkt_base.specs.declared.opening_specs.TokSpec.{TokSpec}
use Rattle.lwkt_base.specs.Holding.{holds_nothing}
use Rattle.lwkt_bank.specs.declared.views.TokenEntry.{TokenEntry}
use Rattle.lwkt_bank.specs.declared.banks.Bank.{Bank}
use Rattle.lwkt_bank.specs.declared.seats.CpuSeat.{CpuSeat}
use Rattle.lwkt_bank.specs.Seats.{BankId, id_of, bank_of, holding}
use Rattle.lwkt_bank.specs.Gathered.{IsNew, IsOpened}
use Rattle.lwkt_bank.specs.Closing.{IsReady}

-- a new seat holds nothing
new_empty : (s : CpuSeat) → IsNew s → holding s ≡ holds_nothing
new_empty s new = fun_ext (λ tok. ap (λ (e : TokenEntry). e.held) (new.entries tok))

new_ready : (bank : BankId) (s : CpuSeat) → bank_of s ≡ bank → IsNew s → IsReady bank s
new_ready bank s of new = record { of = of; empty = λ tok low. ap (λ (e : TokenEntry). e.held) (new.entries tok) }

-- each seat of a list
each_seat : (P : CpuSeat → Type 0) (seats : List CpuSeat) → ((k : ℕ) (s : CpuSeat) → k < length seats → P (slice_index_or seats k s)) → All P seats
each_seat P [] each = All-nil P
each_seat P (s ∷ seats) each = All-cons P s seats (each 0 s (omega arith)) (each_seat P seats (λ k d low. each (suc k) d (omega arith)))

all_ready : (cpus : ℕ) (specs : List TokSpec) (bank : Bank) (seats : List CpuSeat) → IsOpened cpus specs bank seats → All (IsReady (id_of bank)) seats
all_ready cpus specs bank seats opened =
    each_seat (IsReady (id_of bank)) seats (λ k s low. let made = opened.seats_out.each k s low in new_ready (id_of bank) (slice_index_or seats k s) made.0 made.1)

all_empty : (cpus : ℕ) (specs : List TokSpec) (bank : Bank) (seats : List CpuSeat) → IsOpened cpus specs bank seats → All (λ (s : CpuSeat). holding s ≡ holds_nothing) seats
all_empty cpus specs bank seats opened =
    each_seat (λ (s : CpuSeat). holding s ≡ holds_nothing) seats (λ k s low. let made = opened.seats_out.each k s low in new_empty (slice_index_or seats k s) made.1)

pub opened_ready : (cpus : ℕ) (specs : List TokSpec) (r : Result (Bank × Vec CpuSeat Global) Fault) → IfOk r (λ o. IsOpened cpus specs o.0 o.1.items) → IfOk r (λ o. All (IsReady (id_of o.0)) o.1.items)
opened_ready cpus specs r opened =
    IfOk-weaker r (λ o. IsOpened cpus specs o.0 o.1.items) (λ o. All (IsReady (id_of o.0)) o.1.items) (λ o yes. all_ready cpus specs o.0 o.1.items yes) opened

pub opened_empty : (cpus : ℕ) (specs : List TokSpec) (r : Result (Bank × Vec CpuSeat Global) Fault) → IfOk r (λ o. IsOpened cpus specs o.0 o.1.items) → IfOk r (λ o. All (λ (s : CpuSeat). holding s ≡ holds_nothing) o.1.items)
opened_empty cpus specs r opened =
    IfOk-weaker r (λ o. IsOpened cpus specs o.0 o.1.items) (λ o. All (λ (s : CpuSeat). holding s ≡ holds_nothing) o.1.items) (λ o yes. all_empty cpus specs o.0 o.1.items yes) opened
