use Rattle.std.proofs.Common.{◌≡◌, ℕ, ◌<◌, ◌≤◌, List, length, Some, HoldsAt, ap, subst, sym, ◌∙◌}
use Rattle.std.specs.Prelude.{MatchOption, slice_get}
use Rattle.std.proofs.lemmas.Option.{same_Some}
use Rattle.lwkt_plain.specs.declared.letters.Lane.{Lane}
use Rattle.lwkt_plain.specs.declared.states.Mail.{Mail}
use Rattle.lwkt_plain.proofs.Follows.{mail_same}
use Rattle.lwkt_plain.proofs.TableLemmas.{get_some}
use Rattle.lwkt_plain.proofs.parts.same_from.Goals as goal

-- what was looked up
lane_there : (lanes : List Lane) (k : ℕ) (lane : Lane) → (k < length lanes) × HoldsAt (λ l. lane ≡ l) lanes k → slice_get lanes k ≡ Some lane
lane_there lanes k lane found = get_some lanes k lane found.0 (sym (found.1 lane))

pub returns-in-Some-Some : goal.returns-in-Some-Some
returns-in-Some-Some c =
    let cpu = c.args.cpu in
    let lane : Lane = c.in-Some-Some.lane.now in
    let another : Lane = c.in-Some-Some.another.now in
    let own : List Lane = c.as_slice.result.now in
    let others : List Lane = c.as_slice-2.result.now in
    let first : slice_get c.args.one.now.lanes cpu ≡ Some lane = ap (λ (ls : List Lane). slice_get ls cpu) (sym c.as_slice.ensures) ∙ lane_there own cpu lane (subst (λ o. MatchOption o (length own ≤ cpu) (λ x. (cpu < length own) × HoldsAt (λ l. x.now ≡ l) own cpu)) c.in-Some-Some.is-0 c.get.ensures.lookup.3) in
    let second : slice_get c.args.other.now.lanes cpu ≡ Some another = ap (λ (ls : List Lane). slice_get ls cpu) (sym c.as_slice-2.ensures) ∙ lane_there others cpu another (subst (λ o. MatchOption o (length others ≤ cpu) (λ x. (cpu < length others) × HoldsAt (λ l. x.now ≡ l) others cpu)) c.in-Some-Some.is-1 c.get-2.ensures.lookup.3) in (
      (λ yes. mail_same cpu c.args.one.now c.args.other.now c.requires (first ∙ (ap Some (c.same_lane.ensures.0 yes) ∙ sym second))),
      (λ is. c.same_lane.ensures.1 (same_Some lane another (sym first ∙ (ap (λ (m : Mail). slice_get m.lanes cpu) is ∙ second)))),
    )
