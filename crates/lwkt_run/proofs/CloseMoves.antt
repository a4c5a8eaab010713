use Rattle.std.proofs.Common.{◌≡◌, ◌≢◌, ◌∙◌, ap, sym, subst, ℕ, ◌<◌, List, [], length, get_or, false}
use Rattle.std.specs.Prelude.{slice_get, Some, option_map}
use Rattle.std.proofs.lemmas.Bool.{true≢false}
use Rattle.std.proofs.lemmas.List.{length-map}
use Rattle.std.proofs.lemmas.Option.{slice_get_within, slice_get-get_or, slice_get-map, get_or_from_slice_get}
use Rattle.lwkt_base.specs.declared.laws.Law.{Law}
use Rattle.lwkt_base.specs.declared.laws.Law.TheVariants.{Tally}
use Rattle.lwkt_base.specs.declared.opening_specs.TokSpec.{TokSpec}
use Rattle.lwkt_core.specs.declared.finals.Final.{Final}
use Rattle.lwkt_bank.specs.declared.closed.Closed.{Closed}
use Rattle.lwkt_bank.specs.declared.seats.CpuSeat.{CpuSeat}
use Rattle.lwkt_bank.specs.declared.views.Plan.{Plan}
use Rattle.lwkt_bank.specs.Gathered.{IsClosed}
use Rattle.lwkt_bank.specs.Opened.{plan_of_spec, plans_of}
use Rattle.lwkt_bank.specs.Rule.{no_plan}
use Rattle.lwkt_bank.specs.Seats.{BankId, plan_of}
use Rattle.lwkt_run.specs.Values.{is_tally, AreValuesOf}

-- a law without tallies isn't Tally
other_law : (law : Law) → is_tally law ≡ false → law ≢ Tally
other_law law other is = true≢false (sym (ap is_tally is) ∙ other)

-- the plan of a token is that of its opening
planned : (specs : List TokSpec) (bank : BankId) (k : ℕ) (spec : TokSpec) → bank.plans ≡ plans_of specs → slice_get specs k ≡ Some spec → plan_of bank k ≡ plan_of_spec spec
planned specs bank k spec same there =
    let at : slice_get (plans_of specs) k ≡ Some (plan_of_spec spec) = slice_get-map plan_of_spec specs k ∙ ap (option_map plan_of_spec) there in
    ap (λ (plans : List Plan). get_or plans k no_plan) same ∙ get_or_from_slice_get (plans_of specs) k (plan_of_spec spec) no_plan at

-- the closing values of a bank are those of the tokens that it was opened with
pub values_of : (specs : List TokSpec) (bank : BankId) (cpus : ℕ) (seats : List CpuSeat) (closed : Closed) (last : Final) → bank.plans ≡ plans_of specs → last.rows ≡ closed.rows → last.gens ≡ closed.gens → last.tallies ≡ closed.tallies → last.blobs ≡ closed.blobs → IsClosed bank cpus seats closed → AreValuesOf specs last
values_of specs bank cpus seats closed last same rows gens tallies blobs is =
    let many : length bank.plans ≡ length specs = ap length same ∙ length-map specs plan_of_spec in
    record {
      rows = ap (λ v. length v.items) rows ∙ is.rows ∙ many;
      gens = ap (λ v. length v.items) gens ∙ is.gens ∙ many;
      tallies = ap (λ v. length v.items) tallies ∙ is.tallies ∙ many;
      blobs = ap (λ v. length v.items) blobs ∙ is.blobs ∙ many;
      none = λ k spec there other.
          let within : k < length bank.plans = subst (λ n. k < n) (sym many) (slice_get_within specs k spec there) in
          let law : (plan_of bank k).law ≡ spec.law = ap (λ (p : Plan). p.law) (planned specs bank k spec same there) in
          let empty : get_or closed.tallies.items k [] ≡ [] = (is.each k within).none (λ tally. other_law spec.law other (sym law ∙ tally)) in
          let inside : k < length closed.tallies.items = subst (λ n. k < n) (sym is.tallies) within in
          ap (λ v. slice_get v.items k) tallies ∙ slice_get-get_or closed.tallies.items k [] inside ∙ ap Some empty;
    }
