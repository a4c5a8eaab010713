-- Expressions and conditions in JSON (own, version 3).
use Rattle.std.specs.Prelude.{ℕ, zero, suc, List, codes, bytes_eq, if◌then◌else◌, Option, Some, None, option_and_then}
use Rattle.std.specs.Option.{option_or}
use Rattle.serde_json.specs.Data.{Data}
use Rattle.serde_json.specs.Find.{at, as_str}
use Rattle.lwkt_code.specs.declared.exprs.Operator.{Operator}
use Rattle.lwkt_code.specs.declared.exprs.Operator.TheVariants.{Plus, Minus, Times, Over, Rest}
use Rattle.lwkt_code.specs.declared.exprs.Comparison.{Comparison}
use Rattle.lwkt_code.specs.declared.exprs.Comparison.TheVariants.{Equal, Unequal, Less, AtMost, More, AtLeast}
use Rattle.lwkt_code.specs.Terms as terms
use Rattle.lwkt_script.specs.Field.{whole, has_items}

infixl 10 ◌>>=◌
abbrev pub ◌>>=◌ : {A B : Type 0} → Option A → (A → Option B) → Option B
o >>= f = option_and_then f o

-- the variable of a word
abbrev pub variable_of : List ℕ → Option ℕ
variable_of word =
    if bytes_eq word (codes "v0") then Some 0 else (
    if bytes_eq word (codes "v1") then Some 1 else (
    if bytes_eq word (codes "v2") then Some 2 else (
    if bytes_eq word (codes "v3") then Some 3 else (
    if bytes_eq word (codes "v4") then Some 4 else (
    if bytes_eq word (codes "v5") then Some 5 else (
    if bytes_eq word (codes "v6") then Some 6 else (
    if bytes_eq word (codes "v7") then Some 7 else None)))))))

-- the operator of a word
abbrev pub operator_of : List ℕ → Option Operator
operator_of word =
    if bytes_eq word (codes "+") then Some Plus else (
    if bytes_eq word (codes "-") then Some Minus else (
    if bytes_eq word (codes "*") then Some Times else (
    if bytes_eq word (codes "/") then Some Over else (
    if bytes_eq word (codes "%") then Some Rest else None))))

-- the comparison of a word
abbrev pub comparison_of : List ℕ → Option Comparison
comparison_of word =
    if bytes_eq word (codes "=") then Some Equal else (
    if bytes_eq word (codes "!=") then Some Unequal else (
    if bytes_eq word (codes "<") then Some Less else (
    if bytes_eq word (codes "<=") then Some AtMost else (
    if bytes_eq word (codes ">") then Some More else (
    if bytes_eq word (codes ">=") then Some AtLeast else None)))))

-- the word of a list
abbrev pub head_word : Data → Option (List ℕ)
head_word d = at 0 d >>= as_str

-- a number or a variable
abbrev pub number_term : Data → Option terms.Term
number_term d = whole d >>= λ n. Some (terms.number n)

abbrev pub variable_term : Data → Option terms.Term
variable_term d = as_str d >>= λ word. variable_of word >>= λ v. Some (terms.variable v)

abbrev pub leaf_in : Data → Option terms.Term
leaf_in d = option_or (number_term d) (variable_term d)

-- an operator with two expressions
abbrev pub item_by : {A : Type 0} → (Data → Option A) → ℕ → Data → Option A
item_by inside i d = at i d >>= inside

abbrev pub operator_in : Data → Option Operator
operator_in d = head_word d >>= operator_of

abbrev pub both_in : (Data → Option terms.Term) → Data → Option terms.Term
both_in inside d = if has_items 3 d then (operator_in d >>= λ op. item_by inside 1 d >>= λ x. item_by inside 2 d >>= λ y. Some (terms.both op x y)) else None

-- such one, in which so many operators may stand in one another
unfoldable pub tree_in : ℕ → Data → Option terms.Term
tree_in zero d = None
tree_in (suc deep) d = both_in (λ e. option_or (leaf_in e) (tree_in deep e)) d

-- an expression: a number, a variable, or an operator with two expressions
abbrev pub term_in : ℕ → Data → Option terms.Term
term_in deep d = option_or (leaf_in d) (tree_in deep d)

-- two expressions that compare so
abbrev pub compare_in : List ℕ → Data → Option terms.Formula
compare_in word d = if has_items 3 d then (comparison_of word >>= λ by. item_by (term_in 16) 1 d >>= λ x. item_by (term_in 16) 2 d >>= λ y. Some (terms.compare by x y)) else None

-- a condition that doesn't hold
abbrev pub not_in : (Data → Option terms.Formula) → Data → Option terms.Formula
not_in inside d = if has_items 2 d then (item_by inside 1 d >>= λ x. Some (terms.none_of x)) else None

-- two conditions
abbrev pub pair_in : (Data → Option terms.Formula) → Data → Option (terms.Formula × terms.Formula)
pair_in inside d = if has_items 3 d then (item_by inside 1 d >>= λ x. item_by inside 2 d >>= λ y. Some (x, y)) else None

-- a condition of this word
abbrev pub cond_formula : (Data → Option terms.Formula) → List ℕ → Data → Option terms.Formula
cond_formula inside word d =
    if bytes_eq word (codes "not") then not_in inside d else (
    if bytes_eq word (codes "and") then (pair_in inside d >>= λ p. Some (terms.each_of p.0 p.1)) else (
    if bytes_eq word (codes "or") then (pair_in inside d >>= λ p. Some (terms.one_of p.0 p.1)) else compare_in word d))

abbrev pub worded : (Data → Option terms.Formula) → Data → Option terms.Formula
worded inside d = head_word d >>= λ word. cond_formula inside word d

-- a condition, in which so many may stand in one another
unfoldable pub formula_in : ℕ → Data → Option terms.Formula
formula_in zero d = None
formula_in (suc deep) d = worded (formula_in deep) d
