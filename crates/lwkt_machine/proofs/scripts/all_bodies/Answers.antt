use Rattle.std.proofs.Common.{◌≡◌, ◌∷◌, [], ◌++◌, List, length, length-append, ap, sym, subst, arith}
use Rattle.std.specs.Prelude.{Vec}
use Rattle.std.specs.declared.alloc.Global.{Global}
use Rattle.std.proofs.lemmas.Grind.{common_steps}
use Rattle.std.proofs.lemmas.Option.{slice_get_within}
use Rattle.lwkt_machine.specs.Bodies.{Scripted}
use Rattle.lwkt_machine.specs.Scripts.{AreBodiesOf}
use Rattle.lwkt_machine.proofs.ScriptMoves.{bodies_more}
use Rattle.lwkt_machine.proofs.scripts.all_bodies.Goals as goal

pub loop-cpu-init : goal.loop-cpu-init
loop-cpu-init c =
    let none = ap length c.new-lists.ensures.items in
    (none, λ k v at. absurd (omega (arith, none, slice_get_within c.new-lists.result.items k v at)))

pub loop-cpu-preserved : goal.loop-cpu-preserved
loop-cpu-preserved c =
    let l = c.loop-cpu in
    let bodies = c.in_ok-bodies_on.field-0 in
    let grown : c.push.new.list.items ≡ l.lists.items ++ bodies ∷ [] = grind (arith, common_steps) in
    let F : List (Vec Scripted Global) → Type 0 = λ lists. AreBodiesOf c.args.threads.now lists in
    (omega (arith, ap length grown, length-append l.lists.items (bodies ∷ []), l.invariant.0), subst F (sym grown) (bodies_more c.args.threads.now l.lists.items bodies l.cpu l.invariant.0 c.in_ok-bodies_on.ensures l.invariant.1))
