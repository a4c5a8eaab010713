-- Expressions and conditions, without the places of their parts in memory (own, version 3).
use Rattle.std.specs.Prelude.{ℕ}
use Rattle.lwkt_code.specs.declared.exprs.Operator.{Operator}
use Rattle.lwkt_code.specs.declared.exprs.Comparison.{Comparison}

-- an expression
pub data Term : Type 0 where
  number : ℕ → Term
  variable : ℕ → Term
  both : Operator → Term → Term → Term

-- a condition: two expressions that compare so, two conditions of which each holds or one, and one that doesn't
pub data Formula : Type 0 where
  compare : Comparison → Term → Term → Formula
  each_of : Formula → Formula → Formula
  one_of : Formula → Formula → Formula
  none_of : Formula → Formula
