-- What steps lead to if none is wrong by itself.
use Rattle.std.proofs.Common.{◌≡◌, ℕ, ◌+◌, ◌<◌, ◌≤◌, List, length, Option, Some, None, refl, inl, inr, ⊎_elim, arith}
use Rattle.std.specs.Prelude.{slice_get, option_and_then, ◌⊎◌, MatchOption}
use Rattle.std.specs.Option.{option_or}
use Rattle.std.proofs.lemmas.Bool.{cases_lt}
use Rattle.std.proofs.lemmas.Bool.Decides.{nat_tests}
use Rattle.std.proofs.lemmas.Option.{slice_get_within, slice_get_past}
use Rattle.lwkt_code.specs.declared.checks.Flaw.{Flaw}
use Rattle.lwkt_code.specs.declared.steps.Step.{Step}
use Rattle.lwkt_code.specs.declared.steps.Step.TheVariants.{Fixed, Make, Set, Fault, Unless, Goto, Count, Again, Assert}
use Rattle.lwkt_code.specs.Flaws.{flaw_of, flaw_of_jump, flaw_of_cond, flaw_of_counter}
use Rattle.lwkt_code.specs.Accepted.{leads_to, IsOneOf, IsInside}
use Rattle.lwkt_code.specs.Marks.{Opens, IsFirstCircle}
use Rattle.lwkt_code.specs.Programs.{flaw_at, IsFlawless, IsSound, IsWrong, circle_of}
use Rattle.lwkt_code.proofs.Marking.{accepted}

or_none : (p q : Option Flaw) → option_or p q ≡ None → q ≡ None
or_none None q e = e
or_none (Some f) q e = absurd (cc)

jump_inside : (n to : ℕ) → flaw_of_jump n to ≡ None → to ≤ n
jump_inside n to e = grind (arith, nat_tests)

one_next : (n at to : ℕ) → at < n → (to ≡ at + 1) ⊎ ⊥ → to ≤ n
one_next n at to w (inl e) = omega arith
one_next n at to w (inr e) = absurd e

one_jump : (n x to : ℕ) → flaw_of_jump n x ≡ None → (to ≡ x) ⊎ ⊥ → to ≤ n
one_jump n x to f (inl e) = let l = jump_inside n x f in omega arith
one_jump n x to f (inr e) = absurd e

inside_of : (n at to : ℕ) (o : Option Step) → option_and_then (flaw_of n) o ≡ None → ((step : Step) → o ≡ Some step → at < n) → IsOneOf to (leads_to o at) → to ≤ n
inside_of n at to None f w h = absurd h
inside_of n at to (Some (Fixed ask)) f w h = absurd h
inside_of n at to (Some (Make wish places)) f w h = absurd h
inside_of n at to (Some (Set v e)) f w h = one_next n at to (w (Set v e) refl) h
inside_of n at to (Some (Fault v)) f w h = one_next n at to (w (Fault v) refl) h
inside_of n at to (Some (Unless test c x)) f w (inl e) = let l = w (Unless test c x) refl in omega arith
inside_of n at to (Some (Unless test c x)) f w (inr h) = one_jump n x to (or_none (flaw_of_cond c) (flaw_of_jump n x) f) h
inside_of n at to (Some (Goto jump x)) f w h = one_jump n x to f h
inside_of n at to (Some (Count k m)) f w h = one_next n at to (w (Count k m) refl) h
inside_of n at to (Some (Again k x)) f w (inl e) = let l = w (Again k x) refl in omega arith
inside_of n at to (Some (Again k x)) f w (inr h) = one_jump n x to (or_none (flaw_of_counter k) (flaw_of_jump n x) f) h
inside_of n at to (Some (Assert c m)) f w h = one_next n at to (w (Assert c m) refl) h

pub flawless_inside : (steps : List Step) → IsFlawless steps → IsInside steps
flawless_inside steps f at to h = inside_of (length steps) at to (slice_get steps at) (f at) (λ step e. slice_get_within steps at step e) h

past_flawless : (n : ℕ) (o : Option Step) → o ≡ None → option_and_then (flaw_of n) o ≡ None
past_flawless n o e = rw e refl

pub all_flawless : (steps : List Step) → ((k : ℕ) → k < length steps → flaw_at steps k ≡ None) → IsFlawless steps
all_flawless steps h k = ⊎_elim (λ w. h k w) (λ g. past_flawless (length steps) (slice_get steps k) (slice_get_past steps k g)) (cases_lt k (length steps))

-- steps that are right by themselves, and from which no way without an ask leads back, are a program
sound : (steps : List Step) → ((k : ℕ) → k < length steps → flaw_at steps k ≡ None) → ((k : ℕ) → k < length steps → Opens steps k) → IsSound steps
sound steps f o = let a = all_flawless steps f in record { flawless = a; accepted = accepted steps (flawless_inside steps a) o }

pub found_wrong : (steps : List Step) (found : Option (ℕ × ℕ)) → ((k : ℕ) → k < length steps → flaw_at steps k ≡ None)
    → MatchOption found ((k : ℕ) → k < length steps → Opens steps k) (λ r. IsFirstCircle steps r.0 r.1) → MatchOption (circle_of found) (IsSound steps) (IsWrong steps)
found_wrong steps None f h = sound steps f h
found_wrong steps (Some circle) f h = (all_flawless steps f, h.circle)
