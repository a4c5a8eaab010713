-- What the trees of expressions and conditions stand for (own, version 3).
use Rattle.lwkt_code.specs.declared.exprs.ExprTree.{ExprTree}
use Rattle.lwkt_code.specs.declared.exprs.ExprTree.TheVariants.{Number, Variable, Both'}
use Rattle.lwkt_code.specs.declared.exprs.CondTree.{CondTree}
use Rattle.lwkt_code.specs.declared.exprs.CondTree.TheVariants.{Compare, And', Or', Not'}
use Rattle.lwkt_code.specs.Terms.{Term, number, variable, both, Formula, compare, each_of, one_of, none_of}

-- the expression of a tree
abbrev pub term_of : ExprTree → Term
term_of (Number n) = number n
term_of (Variable v) = variable v
term_of (Both' op p a q b) = both op (term_of a) (term_of b)

-- the condition of a tree
abbrev pub formula_of : CondTree → Formula
formula_of (Compare by a b) = compare by a b
formula_of (And' p a q b) = each_of (formula_of a) (formula_of b)
formula_of (Or' p a q b) = one_of (formula_of a) (formula_of b)
formula_of (Not' p a) = none_of (formula_of a)
