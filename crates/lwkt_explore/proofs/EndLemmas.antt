use Rattle.std.proofs.Common.{List, ◌++◌}
use Rattle.std.specs.Prelude.{◌≡◌, Option, None, Some, true, is_none, IfNone}
use Rattle.std.specs.List.{Any}
use Rattle.std.proofs.lemmas.List.Elements.{Contains-append_left}

-- one of some is one of these and others
pub Any-append : {X : Type 0} (P : X → Type 0) (xs ys : List X) → Any P xs → Any P (xs ++ ys)
Any-append P xs ys any =
    let there = Contains-append_left xs ys any.1 (any.0, any.2, any.3) in
    (there.0, any.1, there.1, there.2, any.4)

-- what follows from a fact holds of one, if the fact does
pub Any-weaker : {X : Type 0} (P Q : X → Type 0) (xs : List X) → ((x : X) → P x → Q x) → Any P xs → Any Q xs
Any-weaker P Q xs more any = (any.0, any.1, any.2, any.3, more any.1 any.4)

-- what holds where there is nothing holds of a value that is nothing
pub none_gives : {A : Type 0} {P : Type 0} (o : Option A) → is_none o ≡ true → IfNone o P → P
none_gives None is holds = holds
none_gives (Some x) is holds = absurd cc
