-- Ports of threads that end are closed: what that leaves as it was.
use Rattle.std.proofs.Common.{◌≡◌, ℕ, zero, suc, ap, ◌∙◌, List, Option}
use Rattle.std.specs.Prelude.{Bool, true, false}
use Rattle.lwkt_bank.specs.declared.seats.CpuSeat.{CpuSeat}
use Rattle.lwkt_port.specs.Chains.{Chain}
use Rattle.lwkt_port.specs.Posts.{Post, IsSamePost}
use Rattle.lwkt_cpu.specs.declared.phases.Phase.{Phase}
use Rattle.lwkt_cpu.specs.declared.threads.Thread.{Thread}
use Rattle.lwkt_cpu.specs.Processors.{IsAtRest, processor_of}
use Rattle.lwkt_cpu.specs.Ending.{ClosesIf, ClosesAt}
use Rattle.lwkt_cpu.proofs.WakeMoves.{woken_none, rest_mailed}

-- the seat at the book
if_seat : (ends : Bool) (number : ℕ) (p q : Post) → ClosesIf ends number p q → q.seat ≡ p.seat
if_seat true number p q closes = closes.seat_same
if_seat false number p q closes = ap (λ (x : Post). x.seat) closes

at_seat : (which : Phase → Bool) (threads : List Thread) (number : ℕ) (p q : Post) → ClosesAt which threads number p q → q.seat ≡ p.seat
at_seat which threads number p q closes = if_seat (which closes.0.phase) number p q closes.1.1

pub closed_seat : (which : Phase → Bool) (threads : List Thread) (count : ℕ) (p q : Post) → Chain Post (ClosesAt which threads) count p q → q.seat ≡ p.seat
unfolding Chain
closed_seat which threads zero p q chain = ap (λ (x : Post). x.seat) chain
closed_seat which threads (suc count) p q chain = at_seat which threads count chain.0 q chain.2 ∙ closed_seat which threads count p chain.0 chain.1

-- a processor whose ports are still the same ones is at rest
pub rest_posted : {B : Type 0} (s : CpuSeat) (p q : Post) (bodies : List B) (threads : List Thread) (running : Option ℕ) (cursor : ℕ) → IsSamePost p q → IsAtRest (processor_of s p bodies threads running cursor) → IsAtRest (processor_of s q bodies threads running cursor)
rest_posted {B} s p q bodies threads running cursor same rest = rest_mailed {B = B} s p q bodies threads threads running cursor same (woken_none threads) rest
