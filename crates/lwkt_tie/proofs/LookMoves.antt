use Rattle.std.proofs.Common.{◌≡◌, ℕ, List, [], refl, sym, subst}
use Rattle.std.specs.Prelude.{slice_index}
use Rattle.std.proofs.lemmas.List.{set-get_or}
use mathlib.Core.Option.{some, none}
use lib.ListN.{get_elem?}
use Rattle.atomic_table.specs.Table.{keeps, step, Enters, Allows, stepped}
use Rattle.lwkt_table.proofs.SeatingLemmas.{set_again}
use Rattle.lwkt_bank.specs.declared.views.Plan.{Plan}
use Rattle.lwkt_bank.specs.declared.views.View.{View}
use Rattle.lwkt_bank.specs.Views.{first_view, spent}
use Rattle.lwkt_bank.specs.Rule.{Bench}
use Rattle.lwkt_bank.specs.Ledger.{Ledger}
use Rattle.lwkt_bank.specs.Laws.{SpentIsNoDeed}
use Rattle.lwkt_tie.specs.Looks.{finds, finds_beside}

-- a new seat may look, and is spent at once
pub enters : SpentIsNoDeed → (plans : List Plan) (cpus known slots word : ℕ) → cpus ≡ known → Enters (Ledger plans cpus) slots word (λ n w. finds known (step slots word 0 0 none) (first_view plans, []) n (w, []))
enters law plans cpus known slots word same = λ s ledger deep small.
    let F : ℕ → Type 0 = λ k. Ledger plans k s in
    (spent, (law plans cpus s ledger).0, record { state = s; ledger = subst F same ledger; is = refl })

-- a seat may look that stays as it is
same_state : (s : Bench) (id i : ℕ) (c : List (ℕ × List ℕ)) (v : View) → get_elem? s.views id ≡ some v → stepped s i (slice_index s.words i) id c v keeps ≡ s
same_state s id i c v here = λ k. record { words = set-get_or s.words i 0 k; homes = s.homes; views = set_again s.views id v here k }

pub allows : (plans : List Plan) (cpus known slots id word : ℕ) (v : View) (c : List (ℕ × List ℕ)) → cpus ≡ known → v.plans ≡ plans → Allows (Ledger plans cpus) slots id (v, c) word (λ n. n) (finds_beside known (step slots word 0 0 none) (v, c))
allows plans cpus known slots id word v c same own = λ s ledger deep here small.
    let F : ℕ → Type 0 = λ k. Ledger plans k s in
    let G : List Plan → Type 0 = λ ps. Ledger ps known s in (
      v,
      keeps,
      tt,
      subst (Ledger plans cpus) (sym (same_state s id word c v here)) ledger,
      (refl, record { state = s; ledger = subst G (sym own) (subst F same ledger); is = refl; at = id; here = here }),
    )
