-- Expressions, conditions and sentences by the levels that may stand in them.
use Rattle.std.proofs.Common.{◌≡◌, ℕ, suc, ◌-◌, ◌<◌, Option, None, refl, sym, ◌∙◌, subst, arith}
use Rattle.serde_json.specs.Data.{Data}
use Rattle.lwkt_code.specs.Terms.{Term, Formula}
use Rattle.lwkt_script.specs.Formulas.{both_in, tree_in, term_in, worded, formula_in}

pub no_tree : (deep : ℕ) (d : Data) → deep ≡ 0 → None ≡ tree_in deep d
unfolding tree_in
no_tree deep d e = rw e refl

tree_suc : (deep : ℕ) (d : Data) → tree_in (suc deep) d ≡ both_in (term_in deep) d
unfolding tree_in
tree_suc deep d = refl

tree_later : (deep : ℕ) (d : Data) → 0 < deep → tree_in deep d ≡ both_in (term_in (deep - 1)) d
tree_later deep d w = let e : suc (deep - 1) ≡ deep = omega arith in subst (λ n. tree_in n d ≡ both_in (term_in (deep - 1)) d) e (tree_suc (deep - 1) d)

pub tree : (o : Option Term) (deep : ℕ) (d : Data) → 0 < deep → o ≡ both_in (term_in (deep - 1)) d → o ≡ tree_in deep d
tree o deep d w e = e ∙ sym (tree_later deep d w)

pub no_formula : (deep : ℕ) (d : Data) → deep ≡ 0 → None ≡ formula_in deep d
unfolding formula_in
no_formula deep d e = rw e refl

formula_suc : (deep : ℕ) (d : Data) → formula_in (suc deep) d ≡ worded (formula_in deep) d
unfolding formula_in
formula_suc deep d = refl

formula_later : (deep : ℕ) (d : Data) → 0 < deep → formula_in deep d ≡ worded (formula_in (deep - 1)) d
formula_later deep d w = let e : suc (deep - 1) ≡ deep = omega arith in subst (λ n. formula_in n d ≡ worded (formula_in (deep - 1)) d) e (formula_suc (deep - 1) d)

pub formula : (o : Option Formula) (deep : ℕ) (d : Data) → 0 < deep → o ≡ worded (formula_in (deep - 1)) d → o ≡ formula_in deep d
formula o deep d w e = e ∙ sym (formula_later deep d w)
