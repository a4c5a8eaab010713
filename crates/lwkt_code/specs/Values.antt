-- The values of expressions and conditions: numbers of 64 bits, whose arithmetic wraps (own, version 3).
use Rattle.std.specs.Prelude.{ℕ, ◌+◌, ◌-◌, ◌*◌, ◌/◌, ◌%◌, ◌^◌, ◌==◌, nat_lt, nat_le, Bool, not, ◌&&◌, ◌||◌, List, if◌then◌else◌, slice_index}
use Rattle.lwkt_code.specs.declared.exprs.Operator.{Operator}
use Rattle.lwkt_code.specs.declared.exprs.Operator.TheVariants.{Plus, Minus, Times, Over, Rest}
use Rattle.lwkt_code.specs.declared.exprs.Comparison.{Comparison}
use Rattle.lwkt_code.specs.declared.exprs.Comparison.TheVariants.{Equal, Unequal, Less, AtMost, More, AtLeast}
use Rattle.lwkt_code.specs.Terms.{Term, number, variable, both, Formula, compare, each_of, one_of, none_of}

-- what an operator makes of two numbers; a division by 0 gives 0
abbrev pub applied : Operator → ℕ → ℕ → ℕ
applied Plus x y = (x + y) % 2 ^ 64
applied Minus x y = (x + (2 ^ 64 - y)) % 2 ^ 64
applied Times x y = (x * y) % 2 ^ 64
applied Over x y = if y == 0 then 0 else x / y
applied Rest x y = if y == 0 then 0 else x % y

-- the value of an expression; a variable that isn't there holds 0
abbrev pub value_of : Term → List ℕ → ℕ
value_of (number n) vars = n
value_of (variable v) vars = slice_index vars v
value_of (both op a b) vars = applied op (value_of a vars) (value_of b vars)

-- whether two numbers compare so
abbrev pub compared : Comparison → ℕ → ℕ → Bool
compared Equal x y = x == y
compared Unequal x y = not (x == y)
compared Less x y = nat_lt x y
compared AtMost x y = nat_le x y
compared More x y = nat_lt y x
compared AtLeast x y = nat_le y x

-- whether a condition holds
abbrev pub holds_in : Formula → List ℕ → Bool
holds_in (compare by a b) vars = compared by (value_of a vars) (value_of b vars)
holds_in (each_of a b) vars = holds_in a vars && holds_in b vars
holds_in (one_of a b) vars = holds_in a vars || holds_in b vars
holds_in (none_of a) vars = not (holds_in a vars)
