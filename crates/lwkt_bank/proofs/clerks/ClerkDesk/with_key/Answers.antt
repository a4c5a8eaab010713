use Rattle.std.proofs.Common.{ap, sym, ◌∙◌, ◌≡◌, ◌≤◌, List, ℕ, length, subst, arith}
use Rattle.atomic_table.specs.Table.{opening}
use Rattle.lwkt_base.specs.declared.laws.Law.TheVariants.{Tally}
use Rattle.lwkt_bank.specs.declared.views.Plan.{Plan}
use Rattle.lwkt_bank.specs.Rule.{plan_at}
use Rattle.lwkt_bank.specs.Ledger.{Ledger}
use Rattle.lwkt_bank.specs.Views.{at, amount, first_view}
use Rattle.lwkt_bank.specs.Notes.{clerk_number}
use Rattle.lwkt_bank.specs.Opened.{plans_of, opening_words, slot_of_spec}
use Rattle.std.proofs.lemmas.List.{length-map}
use Rattle.lwkt_bank.proofs.OpenMoves.{short_plans, single_plans, many_plans}
use Rattle.lwkt_bank.proofs.LedgerMoves.{Ledger-opening}
use Rattle.lwkt_bank.proofs.clerks.ClerkDesk.with_key.Goals as goal

pub table-requires : goal.table-requires
table-requires c =
    let cpus = c.args.key.cpus in
    let F : List Plan → Type 0 = λ ps. Ledger ps cpus (opening c.args.words.now c.args.slots.items (first_view ps)) in
    let G : List ℕ → Type 0 = λ ws. Ledger (plans_of c.args.specs.now) cpus (opening ws c.args.slots.items (first_view (plans_of c.args.specs.now))) in
    let H : List (List ℕ) → Type 0 = λ xs. Ledger (plans_of c.args.specs.now) cpus (opening (opening_words c.args.specs.now) xs (first_view (plans_of c.args.specs.now))) in
    subst F (sym c.requires.plans) (subst G (sym c.requires.words) (subst H (sym c.requires.slots) (Ledger-opening cpus c.args.specs.now c.requires.within c.requires.lawful).0))

pub invariant_of-result : goal.invariant_of-result
invariant_of-result c =
    let specs = c.args.specs.now in
    let t = c.in_ok-table.ensures in
    let r = (Ledger-opening c.args.key.cpus specs c.requires.within c.requires.lawful).0.rule in
    let many : length c.args.key.plans.items ≡ length specs = ap length c.requires.plans ∙ many_plans specs in
    let wide = r.wide in
    let words = ap length c.requires.words in
    let all = many_plans specs in
    let limit = c.requires.within.token_limit in
    let first = t.4 in
    let F : List Plan → Type 0 = λ ps. (tok : ℕ) → (plan_at ps tok).cells ≤ 4 in
    let G : List Plan → Type 0 = λ ps. (tok : ℕ) → (plan_at ps tok).law ≡ Tally → (plan_at ps tok).cells ≡ 1 in
    record {
      key_is = t.5;
      wide = let w = t.0 in omega arith;
      deep = t.1 ∙ ap length c.requires.slots ∙ length-map specs slot_of_spec ∙ sym many;
      few = omega arith;
      few_cpus = c.requires.within.processors;
      short = subst F (sym c.requires.plans) (short_plans specs c.requires.within.each_token);
      single = subst G (sym c.requires.plans) (single_plans specs c.requires.within.each_token);
      seated = t.2;
      counts = ap (λ m. clerk_number m.0.kind) t.4;
      informed = ap (λ m. length m.0.plans) t.4;
      clean = λ tok. (ap (λ m. (at m.0.tokens tok).written) t.4, λ cpu. ap (λ m. amount cpu (at m.0.tokens tok).added) t.4);
    }
