use Rattle.std.proofs.Common.{◌≡◌, ℕ, ◌+◌, ◌<◌, ◌≤◌, List, [], ◌∷◌, ◌++◌, length, length-append, inl, inr, ap, sym, ◌∙◌, subst, arith, get_or, take}
use Rattle.std.proofs.lemmas.List.{take_all, map-append, length-map}
use Rattle.std.proofs.lemmas.Bool.{cases_lt}
use Rattle.std.proofs.lemmas.List.Elements.{All-more, All-from_recursion}
use Rattle.std.proofs.lemmas.Option.{slice_get-get_or}
use Rattle.std.proofs.lemmas.Grind.{common_steps}
use Rattle.lwkt_base.specs.declared.names.Ref.{Ref}
use Rattle.lwkt_base.specs.Refs.{IsLawfulList}
use Rattle.lwkt_base.proofs.RefsLemmas.{IsLawfulList-push}
use Rattle.lwkt_bank.specs.Seats.{id_of}
use Rattle.lwkt_seats.specs.declared.references.LwktReference.{LwktReference}
use Rattle.lwkt_seats.specs.Lists.{ref_of, refs_of, IsReference, IsList, Unlists}
use Rattle.lwkt_seats.proofs.references.list_of.Goals as goal

-- what a slice is read with past its end
abbrev unused : LwktReference
unused = record { token = 0; mode = 0 }

front_more : (refs : List LwktReference) (i : ℕ) (d : LwktReference) → i < length refs → take (i + 1) refs ≡ take i refs ++ (get_or refs i d ∷ [])
front_more refs i d within = grind (arith, common_steps)

nothing_lawful : IsLawfulList []
nothing_lawful = λ tok shared. cc

pub loop-at-init : goal.loop-at-init
loop-at-init c = record {
  listed = c.new-list.ensures;
  is_list = (All-from_recursion (IsReference (id_of c.args.bank.now)) [] tt, omega arith, nothing_lawful);
}

pub loop-at-preserved : goal.loop-at-preserved
loop-at-preserved c =
    let l = c.loop-at in
    let refs = c.args.refs.now in
    let r = get_or refs l.at unused in
    let within : l.at < length refs = c.loop-at-test.true in
    let ok = c.in_default.ensures.ok in
    let listed : c.add_to.new.list ≡ refs_of (take (l.at + 1) refs) = ok.1 ∙ ap (λ (xs : List Ref). xs ++ ref_of r ∷ []) l.invariant.listed ∙ sym (map-append ref_of (take l.at refs) (r ∷ [])) ∙ ap refs_of (sym (front_more refs l.at unused within)) in
    let front = take l.at refs in
    let long : length (take (l.at + 1) refs) ≡ length front + 1 = ap length (front_more refs l.at unused within) ∙ length-append front (r ∷ []) in
    let kept : length l.list ≡ length front = ap length l.invariant.listed ∙ length-map front ref_of in
    let few : length front ≤ 32 = l.invariant.is_list.1 in
    let room : length (take (l.at + 1) refs) ≤ 32 = elim (cases_lt (length front) 32) [
      | inl less ↦ omega (arith, long, less)
      | inr full ↦ absurd (c.in_default.ensures.room (kept ∙ (omega (arith, few, full))))
    ] in
    let F : List Ref → Type 0 = λ xs. IsLawfulList xs in
    let before : IsLawfulList l.list = subst F (sym l.invariant.listed) l.invariant.is_list.2 in
    let follows = c.in_default.ensures.follows in
    let pushed : IsLawfulList (l.list ++ ref_of r ∷ []) = IsLawfulList-push l.list (ref_of r) before (λ exclusive shared. follows (omega (arith, kept, few, c.in_default.ensures.room)) (exclusive, shared)) in
    let lawful : IsLawfulList (refs_of (take (l.at + 1) refs)) = subst F (sym ok.1 ∙ listed) pushed in
    record {
      listed = listed;
      is_list = (All-more (IsReference (id_of c.args.bank.now)) refs l.at unused within l.invariant.is_list.0 ok.0, room, lawful);
    }

pub returns-in-Err-clause-err : goal.returns-in-Err-clause-err
returns-in-Err-clause-err c =
    let l = c.loop-at in
    let refs = c.args.refs.now in
    let F : List Ref → Type 0 = λ xs. Unlists (id_of c.args.bank.now) xs (get_or refs l.at unused) c.in-Err.why in
    (l.invariant.is_list, rw (slice_get-get_or refs l.at unused c.loop-at-test.true) (subst F l.invariant.listed c.in-Err.ensures.err))

pub returns-clause-ok : goal.returns-clause-ok
returns-clause-ok c =
    let l = c.loop-at in
    let refs = c.args.refs.now in
    let end : length refs ≤ l.at = omega (arith, c.loop-at-test.false) in
    let is : take l.at refs ≡ refs = take_all l.at refs end in
    (l.invariant.listed ∙ ap refs_of is, subst (IsList (id_of c.args.bank.now)) is l.invariant.is_list)
