use Rattle.std.proofs.Common.{◌≡◌, ℕ, ◌∷◌, [], ◌++◌, List, length, length-append, ap, sym, subst, arith}
use Rattle.std.proofs.lemmas.Grind.{common_steps}
use Rattle.lwkt_port.specs.declared.queues.Port.{Port}
use Rattle.lwkt_port.specs.OpenedPorts.{IsNewPort, AreNew}
use Rattle.lwkt_port.proofs.Begun.{new_more}
use Rattle.lwkt_port.proofs.opened_ports.new_ports.Goals as goal

pub loop-number-preserved : goal.loop-number-preserved
loop-number-preserved c =
    let l = c.loop-number in
    let port = c.in_ok-port.port in
    let grown : c.push.new.list.items ≡ l.ports.items ++ port ∷ [] = grind (arith, common_steps) in
    let long = length-append l.ports.items (port ∷ []) in
    let more = ap length grown in
    let F : ℕ → Type 0 = λ n. IsNewPort c.args.threads n port in
    let G : List Port → Type 0 = λ xs. AreNew c.args.threads xs in
    (omega (arith, long, more, l.invariant.0), subst G (sym grown) (new_more c.args.threads l.ports.items port l.invariant.1 (subst F (sym l.invariant.0) c.in_ok-port.ensures)))
