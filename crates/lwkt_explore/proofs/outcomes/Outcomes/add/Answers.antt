use Rattle.std.proofs.Common.{◌≡◌, ◌≤◌, ℕ, length, string_bytes, refl, sym, subst, List, [], ◌∷◌, ◌++◌, ◌∙◌, ap}
use Rattle.std.proofs.lemmas.List.Elements.{All-push}
use Rattle.std.proofs.lemmas.List.Quantifiers.{Any-push}
use Rattle.std.specs.Prelude.{◌≢◌, All, Vec}
use Rattle.std.proofs.lemmas.List.Quantifiers.{all_pairs_push}
use Rattle.std.specs.List.{AllPairs, Any}
use Rattle.std.specs.declared.alloc.Global.{Global}
use Rattle.lwkt_explore.specs.declared.outcomes.Kind.TheVariants.{Ended, Stuck, Cut}
use Rattle.lwkt_explore.specs.declared.outcomes.Outcome.{Outcome}
use Rattle.lwkt_explore.specs.Outcomes.{AreAlike, IsOutcome, IsReportAlong}
use Rattle.lwkt_explore.specs.Searches.{state_after, IsShortestOrder}
use Rattle.lwkt_plain.specs.Deadlocks.{IsStandstill}
use Rattle.lwkt_run.specs.Run.{IsOrderRun}
use Rattle.lwkt_script.specs.declared.scripts.Script.{Script}
use Rattle.lwkt_explore.proofs.EndLemmas.{Any-append, Any-weaker}
use Rattle.lwkt_explore.proofs.outcomes.Outcomes.add.Goals as goal

abbrev is_end : Outcome → Type 0
is_end outcome = outcome.kind ≡ Ended

-- the outcomes are those of before there was room for one more
same : (new room : Vec Outcome Global) (old : List Outcome) → new ≡ room → room.items ≡ old → new.items ≡ old
same new room old is was = ap (λ (v : Vec Outcome Global). v.items) is ∙ was

-- one more is behind those of before
more : (new room old : List Outcome) (one : Outcome) → new ≡ room ++ one ∷ [] → room ≡ old → new ≡ old ++ one ∷ []
more new room old one is was = is ∙ ap (λ (xs : List Outcome). xs ++ one ∷ []) was

-- an outcome along an order has the text of the report of the run along it, and so has one with the same text
reports : (script : Script) (order : List ℕ) (outcome one : Outcome) → IsOutcome script outcome → outcome.order.items ≡ order → string_bytes one.text ≡ string_bytes outcome.text → IsReportAlong script order one
reports script order outcome one is along same =
    let F : List ℕ → Type 0 = λ xs. IsOrderRun script xs is.run in
    record { run = is.run; is_run = subst F along is.is_run; shows = same ∙ is.shows }

pub returns-in_err-outcome-clause-found : goal.returns-in_err-outcome-clause-found
returns-in_err-outcome-clause-found g c =
    let F : List Outcome → Type 0 = λ xs. All (IsOutcome c.args.script.now) xs in
    subst F (sym c.make_room.ensures.all) c.requires.outcomes

pub returns-in_err-outcome-clause-ended : goal.returns-in_err-outcome-clause-ended
returns-in_err-outcome-clause-ended g c =
    let F : List Outcome → Type 0 = λ xs. Any is_end xs in
    λ has. subst F (sym c.make_room.ensures.all) has

pub returns-in_err-make_room-clause-found : goal.returns-in_err-make_room-clause-found
returns-in_err-make_room-clause-found g c =
    let F : List Outcome → Type 0 = λ xs. All (IsOutcome c.args.script.now) xs in
    subst F (sym c.make_room.ensures.all) c.requires.outcomes

pub returns-in_err-make_room-clause-ended : goal.returns-in_err-make_room-clause-ended
returns-in_err-make_room-clause-ended g c =
    let F : List Outcome → Type 0 = λ xs. Any is_end xs in
    λ has. subst F (sym c.make_room.ensures.all) has

pub returns-in-Some-clause-found : goal.returns-in-Some-clause-found
returns-in-Some-clause-found g c =
    let F : List Outcome → Type 0 = λ xs. All (IsOutcome c.args.script.now) xs in
    subst F (sym (same c.count.new.self.all c.make_room.new.self.all c.args.self.now.all.items c.count.ensures.all c.make_room.ensures.all)) c.requires.outcomes

pub returns-in-Some-clause-short : goal.returns-in-Some-clause-short
returns-in-Some-clause-short g c = λ turns few all.
    let F : List Outcome → Type 0 = λ xs. All (λ (outcome : Outcome). length outcome.order.items ≤ turns) xs in
    subst F (sym (same c.count.new.self.all c.make_room.new.self.all c.args.self.now.all.items c.count.ensures.all c.make_room.ensures.all)) all

pub returns-in-Some-clause-whole : goal.returns-in-Some-clause-whole
returns-in-Some-clause-whole g c = λ uncut all.
    let F : List Outcome → Type 0 = λ xs. All (λ (outcome : Outcome). outcome.kind ≢ Cut) xs in
    subst F (sym (same c.count.new.self.all c.make_room.new.self.all c.args.self.now.all.items c.count.ensures.all c.make_room.ensures.all)) all

pub returns-in-Some-clause-ended : goal.returns-in-Some-clause-ended
returns-in-Some-clause-ended g c =
    let F : List Outcome → Type 0 = λ xs. Any is_end xs in
    λ has. subst F (sym (same c.count.new.self.all c.make_room.new.self.all c.args.self.now.all.items c.count.ensures.all c.make_room.ensures.all)) has

pub returns-in-Some-clause-kind : goal.returns-in-Some-clause-kind
returns-in-Some-clause-kind g c =
    let F : Vec Outcome Global → Type 0 = λ v. Any is_end v.items in
    let P : Outcome → Type 0 = λ one. AreAlike one c.in_ok-outcome.outcome in
    λ is. subst F (sym c.count.ensures.all) (Any-weaker P is_end c.make_room.new.self.all.items (λ x same. same.kind ∙ is) c.in-Some.ensures.found)

pub returns-in-Some-clause-told : goal.returns-in-Some-clause-told
returns-in-Some-clause-told g c =
    let script = c.args.script.now in
    let order = c.args.order.items in
    let made = c.in_ok-outcome.outcome in
    let Q : Outcome → Type 0 = IsReportAlong script order in
    let F : Vec Outcome Global → Type 0 = λ v. Any Q v.items in
    let P : Outcome → Type 0 = λ one. AreAlike one made in
    subst F (sym c.count.ensures.all) (Any-weaker P Q c.make_room.new.self.all.items (λ x same. reports script order made x c.in_ok-outcome.ensures.ok c.in_ok-outcome.ensures.order same.text) c.in-Some.ensures.found)

pub returns-in-Some-clause-stays : goal.returns-in-Some-clause-stays
returns-in-Some-clause-stays g c = λ one has.
    let F : List Outcome → Type 0 = λ xs. Any (IsReportAlong c.args.script.now one) xs in
    subst F (sym (same c.count.new.self.all c.make_room.new.self.all c.args.self.now.all.items c.count.ensures.all c.make_room.ensures.all)) has

pub returns-in-None-clause-found : goal.returns-in-None-clause-found
returns-in-None-clause-found g c =
    let P : Outcome → Type 0 = IsOutcome c.args.script.now in
    let F : List Outcome → Type 0 = λ xs. All P xs in
    let old = c.args.self.now.all.items in
    let one = c.in_ok-outcome.outcome in
    subst F (sym (more c.keep.new.self.all.items c.make_room.new.self.all.items old one c.keep.ensures.all c.make_room.ensures.all)) (All-push P old one c.requires.outcomes c.in_ok-outcome.ensures.ok)

pub returns-in-None-clause-short : goal.returns-in-None-clause-short
returns-in-None-clause-short g c = λ turns few all.
    let P : Outcome → Type 0 = λ outcome. length outcome.order.items ≤ turns in
    let F : List Outcome → Type 0 = λ xs. All P xs in
    let G : List ℕ → Type 0 = λ order. length order ≤ turns in
    let old = c.args.self.now.all.items in
    let one = c.in_ok-outcome.outcome in
    subst F (sym (more c.keep.new.self.all.items c.make_room.new.self.all.items old one c.keep.ensures.all c.make_room.ensures.all)) (All-push P old one all (subst G (sym c.in_ok-outcome.ensures.order) few))

pub returns-in-None-clause-whole : goal.returns-in-None-clause-whole
returns-in-None-clause-whole g c = λ uncut all.
    let P : Outcome → Type 0 = λ outcome. outcome.kind ≢ Cut in
    let F : List Outcome → Type 0 = λ xs. All P xs in
    let old = c.args.self.now.all.items in
    let one = c.in_ok-outcome.outcome in
    subst F (sym (more c.keep.new.self.all.items c.make_room.new.self.all.items old one c.keep.ensures.all c.make_room.ensures.all)) (All-push P old one all uncut)

pub returns-in-None-clause-ended : goal.returns-in-None-clause-ended
returns-in-None-clause-ended g c =
    let F : List Outcome → Type 0 = λ xs. Any is_end xs in
    let old = c.args.self.now.all.items in
    let one = c.in_ok-outcome.outcome in
    λ has. subst F (sym (more c.keep.new.self.all.items c.make_room.new.self.all.items old one c.keep.ensures.all c.make_room.ensures.all)) (Any-append is_end old (one ∷ []) has)

pub returns-in-None-clause-kind : goal.returns-in-None-clause-kind
returns-in-None-clause-kind g c =
    let F : List Outcome → Type 0 = λ xs. Any is_end xs in
    let old = c.args.self.now.all.items in
    let one = c.in_ok-outcome.outcome in
    λ is. subst F (sym (more c.keep.new.self.all.items c.make_room.new.self.all.items old one c.keep.ensures.all c.make_room.ensures.all)) (Any-push is_end old one is)

pub returns-in-None-clause-told : goal.returns-in-None-clause-told
returns-in-None-clause-told g c =
    let script = c.args.script.now in
    let order = c.args.order.items in
    let old = c.args.self.now.all.items in
    let one = c.in_ok-outcome.outcome in
    let Q : Outcome → Type 0 = IsReportAlong script order in
    let F : List Outcome → Type 0 = λ xs. Any Q xs in
    subst F (sym (more c.keep.new.self.all.items c.make_room.new.self.all.items old one c.keep.ensures.all c.make_room.ensures.all)) (Any-push Q old one (reports script order one one c.in_ok-outcome.ensures.ok c.in_ok-outcome.ensures.order refl))

pub returns-in-None-clause-stays : goal.returns-in-None-clause-stays
returns-in-None-clause-stays g c = λ along has.
    let Q : Outcome → Type 0 = IsReportAlong c.args.script.now along in
    let F : List Outcome → Type 0 = λ xs. Any Q xs in
    let old = c.args.self.now.all.items in
    let one = c.in_ok-outcome.outcome in
    subst F (sym (more c.keep.new.self.all.items c.make_room.new.self.all.items old one c.keep.ensures.all c.make_room.ensures.all)) (Any-append Q old (one ∷ []) has)

pub returns-in_err-outcome-clause-stays : goal.returns-in_err-outcome-clause-stays
returns-in_err-outcome-clause-stays g c = λ along has.
    let F : List Outcome → Type 0 = λ xs. Any (IsReportAlong c.args.script.now along) xs in
    subst F (sym c.make_room.ensures.all) has

pub returns-in_err-make_room-clause-stays : goal.returns-in_err-make_room-clause-stays
returns-in_err-make_room-clause-stays g c = λ along has.
    let F : List Outcome → Type 0 = λ xs. Any (IsReportAlong c.args.script.now along) xs in
    subst F (sym c.make_room.ensures.all) has

pub returns-in_err-outcome-clause-once : goal.returns-in_err-outcome-clause-once
returns-in_err-outcome-clause-once g c = λ once.
    let F : List Outcome → Type 0 = λ xs. AllPairs (λ one other. AreAlike one other → ⊥) xs in
    subst F (sym c.make_room.ensures.all) once

pub returns-in_err-make_room-clause-once : goal.returns-in_err-make_room-clause-once
returns-in_err-make_room-clause-once g c = λ once.
    let F : List Outcome → Type 0 = λ xs. AllPairs (λ one other. AreAlike one other → ⊥) xs in
    subst F (sym c.make_room.ensures.all) once

pub returns-in-Some-clause-once : goal.returns-in-Some-clause-once
returns-in-Some-clause-once g c = λ once.
    let F : List Outcome → Type 0 = λ xs. AllPairs (λ one other. AreAlike one other → ⊥) xs in
    subst F (sym (same c.count.new.self.all c.make_room.new.self.all c.args.self.now.all.items c.count.ensures.all c.make_room.ensures.all)) once

pub returns-in-None-clause-once : goal.returns-in-None-clause-once
returns-in-None-clause-once g c = λ once.
    let R : Outcome → Outcome → Type 0 = λ one other. AreAlike one other → ⊥ in
    let F : List Outcome → Type 0 = λ xs. AllPairs R xs in
    let room = c.make_room.new.self.all.items in
    subst F (sym c.keep.ensures.all) (all_pairs_push R room c.in_ok-outcome.outcome (subst F (sym c.make_room.ensures.all) once) (λ k d less. c.in-None.ensures.fresh k d less))

pub returns-in_err-outcome-clause-shortest : goal.returns-in_err-outcome-clause-shortest
returns-in_err-outcome-clause-shortest g c = λ is all.
    let F : List Outcome → Type 0 = λ xs. All (λ (one : Outcome). IsShortestOrder c.args.script.now one.order.items) xs in
    subst F (sym c.make_room.ensures.all) all

pub returns-in_err-make_room-clause-shortest : goal.returns-in_err-make_room-clause-shortest
returns-in_err-make_room-clause-shortest g c = λ is all.
    let F : List Outcome → Type 0 = λ xs. All (λ (one : Outcome). IsShortestOrder c.args.script.now one.order.items) xs in
    subst F (sym c.make_room.ensures.all) all

pub returns-in-Some-clause-shortest : goal.returns-in-Some-clause-shortest
returns-in-Some-clause-shortest g c = λ is all.
    let F : List Outcome → Type 0 = λ xs. All (λ (one : Outcome). IsShortestOrder c.args.script.now one.order.items) xs in
    subst F (sym (same c.count.new.self.all c.make_room.new.self.all c.args.self.now.all.items c.count.ensures.all c.make_room.ensures.all)) all

pub returns-in-None-clause-shortest : goal.returns-in-None-clause-shortest
returns-in-None-clause-shortest g c = λ is all.
    let G : List ℕ → Type 0 = IsShortestOrder c.args.script.now in
    let P : Outcome → Type 0 = λ one. G one.order.items in
    let F : List Outcome → Type 0 = λ xs. All P xs in
    let old = c.args.self.now.all.items in
    let one = c.in_ok-outcome.outcome in
    subst F (sym (more c.keep.new.self.all.items c.make_room.new.self.all.items old one c.keep.ensures.all c.make_room.ensures.all)) (All-push P old one all (subst G (sym c.in_ok-outcome.ensures.order) is))

-- the state of a stuck outcome is one that no turn changes
abbrev IsStill : Script → Outcome → Type 0
IsStill script one = one.kind ≡ Stuck → IsStandstill script (state_after script one.order.items)

pub returns-in_err-outcome-clause-stuck : goal.returns-in_err-outcome-clause-stuck
returns-in_err-outcome-clause-stuck g c = λ is all.
    let F : List Outcome → Type 0 = λ xs. All (IsStill c.args.script.now) xs in
    subst F (sym c.make_room.ensures.all) all

pub returns-in_err-make_room-clause-stuck : goal.returns-in_err-make_room-clause-stuck
returns-in_err-make_room-clause-stuck g c = λ is all.
    let F : List Outcome → Type 0 = λ xs. All (IsStill c.args.script.now) xs in
    subst F (sym c.make_room.ensures.all) all

pub returns-in-Some-clause-stuck : goal.returns-in-Some-clause-stuck
returns-in-Some-clause-stuck g c = λ is all.
    let F : List Outcome → Type 0 = λ xs. All (IsStill c.args.script.now) xs in
    subst F (sym (same c.count.new.self.all c.make_room.new.self.all c.args.self.now.all.items c.count.ensures.all c.make_room.ensures.all)) all

pub returns-in-None-clause-stuck : goal.returns-in-None-clause-stuck
returns-in-None-clause-stuck g c = λ is all.
    let script = c.args.script.now in
    let old = c.args.self.now.all.items in
    let one = c.in_ok-outcome.outcome in
    let F : List Outcome → Type 0 = λ xs. All (IsStill script) xs in
    let G : List ℕ → Type 0 = λ order. IsStandstill script (state_after script order) in
    let own : IsStill script one = λ stuck. subst G (sym c.in_ok-outcome.ensures.order) (is (c.in_ok-outcome.ensures.stuck stuck)) in
    subst F (sym (more c.keep.new.self.all.items c.make_room.new.self.all.items old one c.keep.ensures.all c.make_room.ensures.all)) (All-push (IsStill script) old one all own)
