-- What is said of a close that differs, where neither a token nor a message does.
use Rattle.std.proofs.Common.{inr, ◌≡◌, ℕ, List, ◌++◌, Bool, false, Result, Ok, Err, OnOk, refl, ap, ◌∙◌, subst}
use Rattle.lwkt_core.specs.Machine.{Machine}
use Rattle.lwkt_core.specs.declared.finals.Final.{Final}
use Rattle.lwkt_checker.specs.Said.{SaysToken, SaysMessage, SaysClose, given_in_all_said}
use Rattle.lwkt_checker.specs.Shown.{Appends, ShowsFirst}

pub says_given : {A E : Type 0} (r : Result A E) (m : Machine) (last : Final) (old mid next new : List ℕ) (found other : Bool) → ShowsFirst (SaysToken m last) old mid found → found ≡ false
    → ShowsFirst (SaysMessage m last) mid next other → other ≡ false → OnOk r (new ≡ next ++ given_in_all_said last) → OnOk r (Appends (SaysClose m last) old new)
says_given (Ok x) m last old mid next new found other tokens none messages neither given =
    let no_token : ShowsFirst (SaysToken m last) old mid false = subst (λ (b : Bool). ShowsFirst (SaysToken m last) old mid b) none tokens in
    let no_message : ShowsFirst (SaysMessage m last) mid next false = subst (λ (b : Bool). ShowsFirst (SaysMessage m last) mid next b) neither messages in
    (given_in_all_said last, (inr (no_token.0, inr (no_message.0, refl)), given ∙ ap (λ (l : List ℕ). l ++ given_in_all_said last) (no_message.1 ∙ no_token.1)))
says_given (Err e) m last old mid next new found other tokens none messages neither given = tt
