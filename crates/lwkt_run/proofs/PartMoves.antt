-- The events of a processor among others'.
use Rattle.std.proofs.Common.{◌≡◌, ◌≢◌, ℕ, zero, suc, ◌+◌, ◌<◌, ◌==◌, Bool, cond, List, [], ◌∷◌, ◌++◌, refl, ap, sym, ◌∙◌, subst, arith, append-nil, eq-eqb, ne_eqb, Option, Some, None}
use Rattle.std.specs.Prelude.{All, Vec, slice_get}
use Rattle.std.specs.declared.alloc.Global.{Global}
use Rattle.std.proofs.lemmas.List.Elements.{All-nil, All-append, All-head, All-tail, filter-append}
use Rattle.lwkt_core.specs.declared.events.Event.{Event}
use Rattle.lwkt_core.specs.Events.{cpu_of}
use Rattle.lwkt_drive.specs.ShortEvents.{KeptTrace}
use Rattle.lwkt_lane.proofs.PlaceMoves.{some_same}
use Rattle.lwkt_run.specs.Leaving.{events_of_stops}
use Rattle.lwkt_run.specs.TraceParts.{of_cpu, parts_from}

-- the events of a processor among its own, and among another's
pub of_cpu_own : (cpu : ℕ) (es : List Event) → All (λ (e : Event). cpu_of e ≡ cpu) es → of_cpu cpu es ≡ es
of_cpu_own cpu [] own = refl
of_cpu_own cpu (e ∷ es) own =
    let P : Event → Type 0 = λ x. cpu_of x ≡ cpu in
    ap (λ (b : Bool). cond b (e ∷ of_cpu cpu es) (of_cpu cpu es)) (eq-eqb (cpu_of e) cpu (All-head P e es own)) ∙ ap (λ xs. e ∷ xs) (of_cpu_own cpu es (All-tail P e es own))

pub of_cpu_other : (cpu other : ℕ) (es : List Event) → other ≢ cpu → All (λ (e : Event). cpu_of e ≡ other) es → of_cpu cpu es ≡ []
of_cpu_other cpu other [] apart own = refl
of_cpu_other cpu other (e ∷ es) apart own =
    let P : Event → Type 0 = λ x. cpu_of x ≡ other in
    let is : cpu_of e ≡ other = All-head P e es own in
    ap (λ (b : Bool). cond b (e ∷ of_cpu cpu es) (of_cpu cpu es)) (ne_eqb (cpu_of e) cpu (λ same. apart (sym is ∙ same))) ∙ of_cpu_other cpu other es apart (All-tail P e es own)

none_part : (part : List Event) → ◌≡◌ {A = Option (List Event)} None (Some part) → ⊥
none_part part is = cc

-- the part of a processor
pub parts_at : (n : ℕ) (traces : List KeptTrace) (stops : List Event) (k : ℕ) (part : List Event) → slice_get (parts_from n traces stops) k ≡ Some part → (trace : KeptTrace) × ((slice_get traces k ≡ Some trace) × (part ≡ trace.items ++ of_cpu (n + k) stops))
parts_at n [] stops k part at = absurd (none_part part at)
parts_at n (trace ∷ traces) stops zero part at =
    let e : trace.items ++ of_cpu n stops ≡ part = cc in
    let z : n ≡ n + 0 = omega arith in
    (trace, (refl, sym e ∙ ap (λ (j : ℕ). trace.items ++ of_cpu j stops) z))
parts_at n (trace ∷ traces) stops (suc k) part at =
    let x = parts_at (n + 1) traces stops k part at in
    let z : n + 1 + k ≡ n + suc k = omega arith in
    (x.0, (x.1.0, x.1.1 ∙ ap (λ (j : ℕ). x.0.items ++ of_cpu j stops) z))

pub of_cpu_more : (cpu : ℕ) (xs ys zs : List Event) → ys ≡ xs ++ zs → of_cpu cpu ys ≡ of_cpu cpu xs ++ of_cpu cpu zs
of_cpu_more cpu xs ys zs is = ap (of_cpu cpu) is ∙ filter-append (λ (e : Event). cpu_of e == cpu) xs zs

-- each of these stops is of the processor of its number, counted from this one on
abbrev pub AreOwnFrom : ℕ → List (Vec Event Global) → Type 0
AreOwnFrom n stops = (k : ℕ) (stop : Vec Event Global) → slice_get stops k ≡ Some stop → All (λ e. cpu_of e ≡ n + k) stop.items

own_first : (n : ℕ) (stop : Vec Event Global) (stops : List (Vec Event Global)) → AreOwnFrom n (stop ∷ stops) → All (λ (e : Event). cpu_of e ≡ n) stop.items
own_first n stop stops own =
    let z : n + 0 ≡ n = omega arith in
    let F : ℕ → Type 0 = λ i. All (λ (e : Event). cpu_of e ≡ i) stop.items in
    subst F z (own 0 stop refl)

own_rest : (n : ℕ) (stop : Vec Event Global) (stops : List (Vec Event Global)) → AreOwnFrom n (stop ∷ stops) → AreOwnFrom (n + 1) stops
own_rest n stop stops own k next at =
    let z : n + suc k ≡ n + 1 + k = omega arith in
    let F : ℕ → Type 0 = λ i. All (λ (e : Event). cpu_of e ≡ i) next.items in
    subst F z (own (suc k) next at)

-- none of them is of a lower one
none_below : (m n : ℕ) (stops : List (Vec Event Global)) → m < n → AreOwnFrom n stops → of_cpu m (events_of_stops stops) ≡ []
none_below m n [] less own = refl
none_below m n (stop ∷ stops) less own =
    let rest : List Event = events_of_stops stops in
    of_cpu_more m stop.items (stop.items ++ rest) rest refl
    ∙ ap (λ es. es ++ of_cpu m rest) (of_cpu_other m n stop.items (λ same. omega (arith, same, less)) (own_first n stop stops own))
    ∙ none_below m (n + 1) stops (omega (arith, less)) (own_rest n stop stops own)

-- among the events of all stops those of a processor are those of its own
of_cpu_from : (n : ℕ) (stops : List (Vec Event Global)) → AreOwnFrom n stops → (k : ℕ) (stop : Vec Event Global) → slice_get stops k ≡ Some stop → of_cpu (n + k) (events_of_stops stops) ≡ stop.items
of_cpu_from n [] own k stop at = absurd (let e : ◌≡◌ {A = Option (Vec Event Global)} None (Some stop) = at in cc)
of_cpu_from n (first ∷ stops) own zero stop at =
    let rest : List Event = events_of_stops stops in
    let z : n + 0 ≡ n = omega arith in
    let less : n < n + 1 = omega arith in
    let same : first ≡ stop = some_same first stop (Some first) refl at in
    ap (λ (j : ℕ). of_cpu j (first.items ++ rest)) z
    ∙ of_cpu_more n first.items (first.items ++ rest) rest refl
    ∙ ap (λ es. es ++ of_cpu n rest) (of_cpu_own n first.items (own_first n first stops own))
    ∙ ap (λ es. first.items ++ es) (none_below n (n + 1) stops less (own_rest n first stops own))
    ∙ append-nil first.items ∙ ap (λ (v : Vec Event Global). v.items) same
of_cpu_from n (first ∷ stops) own (suc k) stop at =
    let rest : List Event = events_of_stops stops in
    let z : n + suc k ≡ n + 1 + k = omega arith in
    of_cpu_more (n + suc k) first.items (first.items ++ rest) rest refl
    ∙ ap (λ es. es ++ of_cpu (n + suc k) rest) (of_cpu_other (n + suc k) n first.items (λ same. omega (arith, same)) (own_first n first stops own))
    ∙ ap (λ (j : ℕ). of_cpu j rest) z ∙ of_cpu_from (n + 1) stops (own_rest n first stops own) k stop at

pub of_cpu_stops : (stops : List (Vec Event Global)) → ((k : ℕ) (stop : Vec Event Global) → slice_get stops k ≡ Some stop → All (λ e. cpu_of e ≡ k) stop.items) → (k : ℕ) (stop : Vec Event Global) → slice_get stops k ≡ Some stop → of_cpu k (events_of_stops stops) ≡ stop.items
of_cpu_stops stops own k stop at =
    let z : k ≡ 0 + k = omega arith in
    let from : AreOwnFrom 0 stops = λ j next here. (
    let y : j ≡ 0 + j = omega arith in
    let F : ℕ → Type 0 = λ i. All (λ (e : Event). cpu_of e ≡ i) next.items in
    subst F y (own j next here)) in
    ap (λ (j : ℕ). of_cpu j (events_of_stops stops)) z ∙ of_cpu_from 0 stops from k stop at

-- what holds of the events of each stop
pub all_of_stops : (P : Event → Type 0) (stops : List (Vec Event Global)) → ((k : ℕ) (stop : Vec Event Global) → slice_get stops k ≡ Some stop → All P stop.items) → All P (events_of_stops stops)
all_of_stops P [] each = All-nil P
all_of_stops P (stop ∷ stops) each = All-append P stop.items (events_of_stops stops) (each 0 stop refl) (all_of_stops P stops (λ k next at. each (suc k) next at))
