use Rattle.std.proofs.Common.{◌≡◌, ◌∷◌, [], ◌++◌, ℕ, List, ap, ◌∙◌, arith, replicate, rules}
use Rattle.std.proofs.lemmas.List.{replicate_more}
use Rattle.lwkt_search.specs.declared.rows.TheConstants.{UNTRIED}
use Rattle.lwkt_search.proofs.rows.begin.Goals as goal

pub loop-cpu-init : goal.loop-cpu-init
loop-cpu-init c =
    let none : c.clear.new.self.items ≡ [] = search rules in
    record { within = omega arith; begun = none }

pub loop-cpu-preserved : goal.loop-cpu-preserved
loop-cpu-preserved c = record {
  within = omega arith;
  begun = c.in_ok-push.ensures.items ∙ (ap (λ (xs : List ℕ). xs ++ UNTRIED ∷ []) c.loop-cpu.invariant.begun ∙ replicate_more c.loop-cpu._cpu UNTRIED);
}

pub returns : goal.returns
returns c =
    let all : c.loop-cpu._cpu ≡ c.args.cpus = omega (arith, c.loop-cpu.invariant.within) in
    c.loop-cpu.invariant.begun ∙ ap (λ (n : ℕ). replicate n UNTRIED) all
