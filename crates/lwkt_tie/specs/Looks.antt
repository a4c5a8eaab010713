use Rattle.std.specs.Prelude.{◌≡◌, ℕ, List, slice_index}
use mathlib.Core.Option.{some}
use lib.ListN.{get_elem?}
use Rattle.atomic_table.specs.Table.{Me, Step}
use Rattle.lwkt_bank.specs.declared.views.Plan.{Plan}
use Rattle.lwkt_bank.specs.declared.views.View.{View}
use Rattle.lwkt_bank.specs.Rule.{Bench}
use Rattle.lwkt_bank.specs.Ledger.{Ledger}

-- a word of the table is this number in a state of the bank's rule
pub record IsWordNow (plans : List Plan) (cpus word found : ℕ) : Type 0 where
  pub state : Bench
  pub ledger : Ledger plans cpus state
  pub is : found ≡ slice_index state.words word

-- and a seat has this view in that state
pub record IsWordBeside (plans : List Plan) (cpus : ℕ) (v : View) (word found : ℕ) : Type 0 where
  pub state : Bench
  pub ledger : Ledger plans cpus state
  pub is : found ≡ slice_index state.words word
  pub at : ℕ
  pub here : get_elem? state.views at ≡ some v

-- what a load shows that a new seat makes; and one of a seat that stays as it is
abbrev pub finds : ℕ → Step (List ℕ) → Me (List ℕ) View → ℕ → Me (List ℕ) View → Type 0
finds cpus st m n m' = IsWordNow m.0.plans cpus st.word n

abbrev pub finds_beside : ℕ → Step (List ℕ) → Me (List ℕ) View → ℕ → Me (List ℕ) View → Type 0
finds_beside cpus st m n m' = (m' ≡ m) × IsWordBeside m.0.plans cpus m.0 st.word n
