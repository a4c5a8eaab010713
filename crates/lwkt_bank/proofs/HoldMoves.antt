use Rattle.std.proofs.Common.{eqb, eq-eqb, ne_eqb, ⊎_elim, ◌≡◌, ◌≢◌, ℕ, zero, suc, ◌+◌, ◌<◌, ◌≤◌, cond, List, refl, ap, sym, ◌∙◌, subst, arith}
use Rattle.std.proofs.lemmas.Bool.{cases_eq}
use Rattle.std.proofs.Math.Path.{fun_ext}
use Rattle.lwkt_base.specs.declared.names.Mode.{Mode}
use Rattle.lwkt_base.specs.declared.names.Mode.TheVariants.{Shared}
use Rattle.lwkt_base.specs.declared.holdings.Held.{Held}
use Rattle.lwkt_base.specs.declared.holdings.Held.TheVariants.{Nothing, Holds}
use Rattle.lwkt_base.specs.Holding.{Holding, references_in, holds_nothing, one_more, one_less, added, removed}
use Rattle.lwkt_table.specs.declared.seats.Deed.{Deed}
use Rattle.lwkt_bank.specs.declared.views.TokenEntry.{TokenEntry}
use Rattle.lwkt_bank.specs.declared.seats.CpuSeat.{CpuSeat}
use Rattle.lwkt_bank.specs.declared.answers.Given.TheVariants.{One, Clean, Written}
use Rattle.lwkt_bank.specs.Views.{count_from}
use Rattle.lwkt_bank.specs.Seats.{holding, Changes}
use Rattle.lwkt_bank.specs.Holdings.{TakingAdds, AgainAdds, GivingRemoves, NothingCounts, AddedCounts}

-- what is held after a call on one token
held_after : (s s' : CpuSeat) (tok : ℕ) (e : TokenEntry) (made : List Deed) (h : Held) → Changes s s' tok e made → e.held ≡ h → (f : Holding) → ((other : ℕ) → f other ≡ cond (eqb other tok) h (holding s other)) → holding s' ≡ f
held_after s s' tok e made h changes is f says = fun_ext (λ other. ⊎_elim
    (λ (same : other ≡ tok).
    let F : ℕ → Type 0 = λ k. holding s' k ≡ h in
    subst F (sym same) (ap (λ (d : TokenEntry). d.held) changes.here ∙ is) ∙ sym (says other ∙ ap (λ b. cond b h (holding s other)) (eq-eqb other tok same)))
    (λ away. ap (λ (d : TokenEntry). d.held) (changes.else_ other away) ∙ sym (says other ∙ ap (λ b. cond b h (holding s other)) (ne_eqb other tok away)))
    (cases_eq other tok))

-- what a holding changed at one token is, whichever way the change is written
at_token : (s : CpuSeat) (tok : ℕ) (g : Held → Held) (h : Held) → g (holding s tok) ≡ h → (other : ℕ) → cond (eqb other tok) (g (holding s other)) (holding s other) ≡ cond (eqb other tok) h (holding s other)
at_token s tok g h is other = ⊎_elim
    (λ (same : other ≡ tok).
    let F : ℕ → Type 0 = λ k. g (holding s k) ≡ h in
    ap (λ b. cond b (g (holding s other)) (holding s other)) (eq-eqb other tok same) ∙ subst F (sym same) is ∙ sym (ap (λ b. cond b h (holding s other)) (eq-eqb other tok same)))
    (λ away. ap (λ b. cond b (g (holding s other)) (holding s other)) (ne_eqb other tok away) ∙ sym (ap (λ b. cond b h (holding s other)) (ne_eqb other tok away)))
    (cases_eq other tok)

pub taking_adds : TakingAdds
taking_adds s s' tok generation mode alone free took =
    held_after s s' tok _ _ (Holds mode 0) took.changes refl (added (holding s) tok mode) (at_token s tok (λ h. one_more h mode) (Holds mode 0) (ap (λ h. one_more h mode) free))

pub again_adds : AgainAdds
again_adds s s' tok stepped = held_after s s' tok _ _ (one_more (holding s tok) Shared) stepped.changes refl (added (holding s) tok Shared) (at_token s tok (λ h. one_more h Shared) (one_more (holding s tok) Shared) refl)

pub giving_removes : GivingRemoves
giving_removes s s' tok One gave = held_after s s' tok _ _ (one_less (holding s tok)) gave.1.changes refl (removed (holding s) tok) (at_token s tok one_less (one_less (holding s tok)) refl)
giving_removes s s' tok Clean gave = held_after s s' tok _ _ (one_less (holding s tok)) gave.2.changes refl (removed (holding s) tok) (at_token s tok one_less (one_less (holding s tok)) refl)
giving_removes s s' tok (Written section) gave = held_after s s' tok _ _ Nothing gave.2.changes refl (removed (holding s) tok) (at_token s tok one_less Nothing (ap one_less gave.0))

nothing_from : (k n : ℕ) → count_from k n holds_nothing ≡ 0
nothing_from k zero = refl
nothing_from k (suc n) = let r = nothing_from (suc k) n in omega arith

pub nothing_counts : NothingCounts
nothing_counts tokens = nothing_from 0 tokens

references_one_more : (h : Held) (mode : Mode) → references_in (one_more h mode) ≡ references_in h + 1
references_one_more Nothing mode = refl
references_one_more (Holds first further) mode = refl

-- tokens below and above the one that changed count as before
same_from : (k n tok : ℕ) (h : Holding) (mode : Mode) → ((j : ℕ) → k ≤ j → j < k + n → j ≢ tok) → count_from k n (added h tok mode) ≡ count_from k n h
same_from k zero tok h mode away = refl
same_from k (suc n) tok h mode away =
    let here = ap (λ b. references_in (cond b (one_more (h k) mode) (h k))) (ne_eqb k tok (away k (omega arith) (omega arith))) in
    let rest = same_from (suc k) n tok h mode (λ j low high. away j (omega arith) (omega arith)) in
    omega arith

added_from : (k n tok : ℕ) (h : Holding) (mode : Mode) → k ≤ tok → tok < k + n → count_from k n (added h tok mode) ≡ count_from k n h + 1
added_from k zero tok h mode low high = absurd (omega arith)
added_from k (suc n) tok h mode low high = ⊎_elim
    (λ (same : k ≡ tok).
    let here = ap (λ b. references_in (cond b (one_more (h k) mode) (h k))) (eq-eqb k tok same) in
    let one = references_one_more (h k) mode in
    let rest = same_from (suc k) n tok h mode (λ j above high' is. absurd (omega arith)) in
    omega arith)
    (λ away.
    let here = ap (λ b. references_in (cond b (one_more (h k) mode) (h k))) (ne_eqb k tok away) in
    let rest = added_from (suc k) n tok h mode (omega arith) (omega arith) in
    omega arith)
    (cases_eq k tok)

pub added_counts : AddedCounts
added_counts tokens tok h mode low = added_from 0 tokens tok h mode (omega arith) (omega arith)
