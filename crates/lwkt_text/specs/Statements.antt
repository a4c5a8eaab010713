-- What is said of an outcome, without the places of its parts in memory (own).
use Rattle.lwkt_text.specs.declared.claims.Fact.{Fact}

-- a claim: a fact, two claims of which each holds or one, and one that doesn't
pub data Statement : Type 0 where
  fact : Fact → Statement
  each_of : Statement → Statement → Statement
  one_of : Statement → Statement → Statement
  none_of : Statement → Statement
