-- The rows at the close.
use Rattle.std.proofs.Common.{◌≡◌, ℕ, suc, ◌+◌, ◌<◌, List, [], ◌∷◌, length, subst, refl, arith}
use Rattle.std.specs.Prelude.{None, sum, slice_index_or}
use Rattle.lwkt_base.specs.declared.laws.Law.{Law}
use Rattle.lwkt_base.specs.declared.laws.Law.TheVariants.{Any, Sum, Order, Cap, Tally, Len}
use Rattle.lwkt_base.specs.Law.{IsTallied}
use Rattle.lwkt_bank.specs.declared.closed.Closed.{Closed}
use Rattle.lwkt_bank.specs.declared.seats.CpuSeat.{CpuSeat}
use Rattle.lwkt_bank.specs.declared.views.Plan.{Plan}
use Rattle.lwkt_bank.specs.Rule.{plan_at}
use Rattle.lwkt_bank.specs.Seats.{BankId}
use Rattle.lwkt_bank.specs.Gathered.{IsClosed}
use Rattle.lwkt_machine.specs.Machines.{EndsLawfully, AreLawful}

-- under Tally the cell is the parameter and all that was added; of the other laws nothing is said there
tallied : (law : Law) (param : ℕ) (row tallies : List ℕ) → (law ≡ Tally → row ≡ (param + sum tallies) ∷ []) → IsTallied law param row tallies
tallied Any param row tallies added = tt
tallied Sum param row tallies added = tt
tallied Order param row tallies added = tt
tallied Cap param row tallies added = tt
tallied Tally param row tallies added = added refl
tallied Len param row tallies added = tt

-- what a token of this number ends with meets the law of a plan
abbrev pub Ended : Plan → Closed → ℕ → Type 0
Ended plan closed n = EndsLawfully plan (slice_index_or closed.rows.items n []) (slice_index_or closed.blobs.items n None) (slice_index_or closed.tallies.items n [])

-- a token's number, counted from one further
lawful_next : (tok : ℕ) (plans : List Plan) (closed : Closed) (k : ℕ) → Ended (plan_at plans k) closed (tok + suc k) → Ended (plan_at plans k) closed (tok + 1 + k)
lawful_next tok plans closed k is =
    let next : tok + suc k ≡ tok + 1 + k = omega arith in
    subst (Ended (plan_at plans k) closed) next is

-- the tokens from this number on meet their laws, where each of them does
lawful_from : (tok : ℕ) (plans : List Plan) (closed : Closed) → ((k : ℕ) → k < length plans → Ended (plan_at plans k) closed (tok + k)) → AreLawful tok plans closed
lawful_from tok [] closed each = tt
lawful_from tok (plan ∷ plans) closed each =
    let here : tok + 0 ≡ tok = omega arith in
    (subst (Ended plan closed) here (each 0 (omega arith)), lawful_from (tok + 1) plans closed (λ k low. lawful_next tok plans closed k (each (suc k) (omega (arith, low)))))

lawful_at : (plan : Plan) (closed : Closed) (k : ℕ) → Ended plan closed k → Ended plan closed (0 + k)
lawful_at plan closed k is =
    let same : k ≡ 0 + k = omega arith in
    subst (Ended plan closed) same is

-- the tokens of a bank that was closed meet their laws
pub lawful_closed : (bank : BankId) (cpus : ℕ) (seats : List CpuSeat) (closed : Closed) → IsClosed bank cpus seats closed → AreLawful 0 bank.plans closed
lawful_closed bank cpus seats closed is =
    lawful_from 0 bank.plans closed (λ k low.
    let fits = is.each k low in
    lawful_at (plan_at bank.plans k) closed k (fits.lawful, tallied (plan_at bank.plans k).law (plan_at bank.plans k).param (slice_index_or closed.rows.items k []) (slice_index_or closed.tallies.items k []) fits.all_added))
