-- What the trees of claims stand for (own).
use Rattle.lwkt_text.specs.declared.claims.ClaimTree.{ClaimTree}
use Rattle.lwkt_text.specs.declared.claims.ClaimTree.TheVariants.{Fact, And', Or', Not'}
use Rattle.lwkt_text.specs.Statements.{Statement, fact, each_of, one_of, none_of}

-- the claim of a tree
abbrev pub statement_of : ClaimTree → Statement
statement_of (Fact f) = fact f
statement_of (And' p a q b) = each_of (statement_of a) (statement_of b)
statement_of (Or' p a q b) = one_of (statement_of a) (statement_of b)
statement_of (Not' p a) = none_of (statement_of a)
