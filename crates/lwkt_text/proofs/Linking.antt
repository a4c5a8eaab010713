-- Letting steps lead where they have to, one after the other.
use Rattle.std.proofs.Common.{◌≡◌, ℕ, suc, ◌+◌, ◌<◌, List, [], ◌∷◌, ◌++◌, length, take, drop, get_or, cond, refl, sym, ap, subst, ◌∙◌, arith, Option, Some, None}
use Rattle.std.specs.Prelude.{option_and_then, slice_get}
use Rattle.std.proofs.Math.ListN.{set}
use Rattle.std.proofs.lemmas.List.{append_assoc, drop_more, drop-set-lt, take_more_set}
use Rattle.std.proofs.lemmas.List.Sums.{sum_by-cons}
use Rattle.std.proofs.lemmas.Option.{slice_get-get_or}
use Rattle.lwkt_code.specs.declared.steps.Jump.TheVariants.{Else}
use Rattle.lwkt_code.specs.declared.steps.Step.{Step}
use Rattle.lwkt_code.specs.declared.steps.Step.TheVariants.{Goto}
use Rattle.lwkt_script.specs.Limits.{is_sentence, sentences_in}
use Rattle.lwkt_text.specs.Blocks.{aim_of, aim_in, aimed, linked}

-- as many as before
pub linked_length : (at : ℕ) (ss : List Step) → length (linked at ss) ≡ length ss
linked_length at [] = refl
linked_length at (s ∷ ss) = ap suc (linked_length (at + 1) ss)

-- as many sentences
aimed_sentence : (to : Option ℕ) (s : Step) → is_sentence (aimed to s) ≡ is_sentence s
aimed_sentence None s = refl
aimed_sentence (Some place) (Goto Else to) = refl
aimed_sentence (Some place) s = refl

pub linked_sentences : (at : ℕ) (ss : List Step) → sentences_in (linked at ss) ≡ sentences_in ss
linked_sentences at [] = refl
linked_sentences at (s ∷ ss) =
    let mark : Step → ℕ = λ x. cond (is_sentence x) 1 0 in
    let x : Step = aimed (aim_of at s ss) s in
    let same : mark x ≡ mark s = ap (λ b. cond b 1 0) (aimed_sentence (aim_of at s ss) s) in
    omega (arith, sum_by-cons mark x (linked (at + 1) ss), sum_by-cons mark s ss, same, linked_sentences (at + 1) ss)

-- one step more
pub link_on : (steps total : List Step) (at : ℕ) (s x : Step) → at < length steps → s ≡ get_or steps at s → x ≡ aimed (aim_of at s (drop (at + 1) steps)) s
    → take at steps ++ linked at (drop at steps) ≡ total → take (at + 1) (set steps at x) ++ linked (at + 1) (drop (at + 1) (set steps at x)) ≡ total
link_on steps total at s x within is aims so_far =
    ap (λ (ss : List Step). ss ++ linked (at + 1) (drop (at + 1) (set steps at x))) (take_more_set steps at x within)
    ∙ ap (λ (ss : List Step). (take at steps ++ x ∷ []) ++ linked (at + 1) ss) (drop-set-lt (at + 1) steps at x (omega arith))
    ∙ append_assoc (take at steps) (x ∷ []) (linked (at + 1) (drop (at + 1) steps))
    ∙ ap (λ (y : Step). take at steps ++ y ∷ linked (at + 1) (drop (at + 1) steps)) aims
    ∙ sym (ap (λ (ss : List Step). take at steps ++ linked at ss) (drop_more steps at s within ∙ ap (λ (y : Step). y ∷ drop (at + 1) steps) (sym is)))
    ∙ so_far

-- the same, where it leads being known from the whole list
pub link_step : (steps total : List Step) (at : ℕ) (s x : Step) (to : Option ℕ) → at < length steps → s ≡ get_or steps at s → to ≡ aim_in steps at → x ≡ aimed to s
    → take at steps ++ linked at (drop at steps) ≡ total → take (at + 1) (set steps at x) ++ linked (at + 1) (drop (at + 1) (set steps at x)) ≡ total
link_step steps total at s x to within is leads aims so_far =
    let there : slice_get steps at ≡ Some s = slice_get-get_or steps at s within ∙ ap (λ (y : Step). Some y) (sym is) in
    let same : to ≡ aim_of at s (drop (at + 1) steps) = leads ∙ ap (λ (o : Option Step). option_and_then (λ step. aim_of at step (drop (at + 1) steps)) o) there in
    link_on steps total at s x within is (subst (λ (o : Option ℕ). x ≡ aimed o s) same aims) so_far
