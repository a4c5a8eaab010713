use Rattle.std.proofs.Common.{◌≡◌, ◌≢◌, ℕ, ◌<◌, ◌≤◌, List, [], ◌∷◌, ◌++◌, length, map, set, take, refl, ap, sym, ◌∙◌, subst, arith, All}
use Rattle.std.specs.Prelude.{slice_index}
use Rattle.std.proofs.lemmas.List.Elements.{All-head, All-tail}
use mathlib.Core.Option.{some}
use lib.ListN.{get_elem?}
use Rattle.atomic_table.specs.Table.{opening as table_opening}
use Rattle.lwkt_base.specs.declared.names.CpuId.{CpuId}
use Rattle.lwkt_base.specs.declared.opening_specs.TokSpec.{TokSpec}
use Rattle.lwkt_base.specs.declared.holdings.Held.TheVariants.{Nothing}
use Rattle.lwkt_table.specs.declared.seats.SeatKind.TheVariants.{Clerk, Of}
use Rattle.lwkt_core.specs.declared.tokens.Token.{Token}
use Rattle.lwkt_core.specs.Opening.{opened_token, opening, AreWithin, AllOpenLawfully, IsTokenWithin}
use Rattle.lwkt_core.specs.Machine.{Machine, machine}
use Rattle.lwkt_table.specs.History.{Chronicle}
use Rattle.lwkt_table.proofs.ViewLemmas.{Views-opened, Views-split, Views-joined}
use Rattle.lwkt_bank.specs.declared.views.Plan.{Plan}
use Rattle.lwkt_bank.specs.declared.views.View.{View}
use Rattle.lwkt_bank.specs.Views.{at, seat_cpu, who, page_of, first_view, clerk_after, new_seat, joined, spent}
use Rattle.lwkt_bank.specs.Rule.{Bench}
use Rattle.lwkt_bank.specs.Opened.{plans_of, opening_words, opening_slots}
use Rattle.lwkt_bank.specs.Ledger.{IsDone, first_token, first_machine, Ledger}
use Rattle.lwkt_bank.proofs.GatherMoves.{Rule-split, Rule-join}
use Rattle.lwkt_bank.proofs.OpenMoves.{Rule-opening}

-- the machine that is declared of an opening is the machine at the opening
first_row : (cells : List ℕ) → length cells ≤ 4 → take (length cells) (slice_index cells 0 ∷ slice_index cells 1 ∷ slice_index cells 2 ∷ slice_index cells 3 ∷ []) ≡ cells
first_row [] few = refl
first_row (a ∷ []) few = refl
first_row (a ∷ b ∷ []) few = refl
first_row (a ∷ b ∷ c ∷ []) few = refl
first_row (a ∷ b ∷ c ∷ d ∷ []) few = refl
first_row (a ∷ b ∷ c ∷ d ∷ e ∷ cells) few = absurd (omega arith)

first_tokens : (specs : List TokSpec) → All IsTokenWithin specs → map first_token (plans_of specs) ≡ map opened_token specs
first_tokens [] within = refl
first_tokens (spec ∷ specs) within =
    let row = first_row spec.cells (All-head IsTokenWithin spec specs within).0 in
    let F : List ℕ → Token = λ r. record (opened_token spec) { row = r; first = r } in
    ap (λ (t : Token). t ∷ map first_token (plans_of specs)) (ap F row)
    ∙ ap (λ (ts : List Token). opened_token spec ∷ ts) (first_tokens specs (All-tail IsTokenWithin spec specs within))

pub first_opening : (cpus : ℕ) (specs : List TokSpec) → All IsTokenWithin specs → first_machine (plans_of specs) cpus ≡ opening cpus specs []
first_opening cpus specs within = ap (λ (ts : List Token). machine cpus ts []) (first_tokens specs within)

-- the rule at the opening, with no deed done
pub Ledger-opening : (cpus : ℕ) (specs : List TokSpec) → AreWithin cpus specs [] → AllOpenLawfully specs
    → (ledger : Ledger (plans_of specs) cpus (table_opening (opening_words specs) (opening_slots specs) (first_view (plans_of specs)))) × (ledger.rule.model ≡ opening cpus specs []) × (ledger.chronicle.history ≡ [])
Ledger-opening cpus specs within lawful =
    let first = first_machine (plans_of specs) cpus in
    let r = Rule-opening cpus specs within lawful in
    let c = Views-opened IsDone page_of first (first_view (plans_of specs)) refl in
    let F : Machine → Type 0 = λ m. (q : Chronicle IsDone first (map page_of (first_view (plans_of specs) ∷ [])) m) × (q.history ≡ []) in
    let d = subst F (first_opening cpus specs within.each_token ∙ sym r.1) c in
    (record { rule = r.0; chronicle = d.0 }, r.1, d.1)

-- the clerk makes a seat: no deed is done
pub Ledger-split : (plans : List Plan) (cpus : ℕ) (s : Bench) (id : ℕ) (v : View) (made back : ℕ) (ledger : Ledger plans cpus s) → get_elem? s.views id ≡ some v → v.kind ≡ Clerk made back → made < cpus
    → (after : Ledger plans cpus (record { words = s.words; homes = s.homes; views = set s.views id (clerk_after v) ++ new_seat v ∷ [] })) × (after.rule.model ≡ ledger.rule.model) × (after.chronicle.history ≡ ledger.chronicle.history)
Ledger-split plans cpus s id v made back ledger here kind room =
    let first = first_machine plans cpus in
    let views = set s.views id (clerk_after v) ++ new_seat v ∷ [] in
    let r = Rule-split plans cpus s id v made back ledger.rule here kind room in
    let c = Views-split IsDone page_of first ledger.rule.model s.views ledger.chronicle id v here cpus ledger.rule.seats made back (clerk_after v) (new_seat v) kind refl refl in
    let F : Machine → Type 0 = λ m. (q : Chronicle IsDone first (map page_of views) m) × (q.history ≡ ledger.chronicle.history) in
    let d = subst F (sym r.1) c in
    (record { rule = r.0; chronicle = d.0 }, r.1, d.1)

-- the clerk takes a seat back: no deed is done
pub Ledger-join : (plans : List Plan) (cpus : ℕ) (s : Bench) (id : ℕ) (v : View) (made back other : ℕ) (cpu : CpuId) (w : View) (ledger : Ledger plans cpus s) → get_elem? s.views id ≡ some v → v.kind ≡ Clerk made back
    → other ≢ id → get_elem? s.views other ≡ some w → w.kind ≡ Of cpu → ((tok : ℕ) → tok < length plans → (at w.tokens tok).held ≡ Nothing)
    → (after : Ledger plans cpus (record { words = s.words; homes = s.homes; views = set (set s.views id (joined v w)) other spent })) × (after.rule.model ≡ ledger.rule.model) × (after.chronicle.history ≡ ledger.chronicle.history)
Ledger-join plans cpus s id v made back other cpu w ledger here kind apart there its quiet =
    let first = first_machine plans cpus in
    let views = set (set s.views id (joined v w)) other spent in
    let mine : w.kind ≡ Of (who w) = its ∙ ap Of (sym (ap seat_cpu its)) in
    let r = Rule-join plans cpus s id v made back other cpu w ledger.rule here kind apart there its quiet in
    let c = Views-joined IsDone page_of first ledger.rule.model s.views ledger.chronicle id v here cpus ledger.rule.seats made back other w (who w) (joined v w) spent kind apart there mine refl refl in
    let F : Machine → Type 0 = λ m. (q : Chronicle IsDone first (map page_of views) m) × (q.history ≡ ledger.chronicle.history) in
    let d = subst F (sym r.1) c in
    (record { rule = r.0; chronicle = d.0 }, r.1, d.1)
