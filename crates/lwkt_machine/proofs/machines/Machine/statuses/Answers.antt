use Rattle.std.proofs.Common.{◌≡◌, ◌<◌, ◌++◌, ◌∙◌, ap, sym, refl, List, length, take, ℕ, arith, Some}
use Rattle.std.specs.Prelude.{slice_get}
use Rattle.std.specs.List.{enumerate_from, flat_map}
use Rattle.std.proofs.lemmas.Option.{slice_get_read}
use Rattle.lwkt_cpu.specs.Processors.{Processor}
use Rattle.lwkt_machine.specs.declared.statuses.ThreadStatus.{ThreadStatus}
use Rattle.lwkt_machine.specs.Machines.{processors}
use Rattle.lwkt_machine.specs.Statuses.{statuses_on}
use Rattle.lwkt_machine.proofs.DrivenMoves.{processor_at}
use Rattle.lwkt_machine.proofs.ListMoves.{flat_push, enumerate_more}
use Rattle.lwkt_machine.proofs.machines.Machine.statuses.Goals as goal

pub loop-number-preserved : goal.loop-number-preserved
loop-number-preserved g c =
    let l = c.loop-number in
    let driven = c.self.inside.cpus.items in
    let cpus : List (Processor g.row.B.Denot) = processors driven in
    let d = c.index.result.now in
    let f : ℕ × Processor g.row.B.Denot → List ThreadStatus = λ e. statuses_on e.0 e.1 in
    let within : l.number < length driven = omega (arith, c.loop-number-test.true, l.auto, c.len-number-end.ensures, c.self.inside.cpus.ok) in
    let at : slice_get cpus l.number ≡ Some d.cpu = processor_at driven l.number d (slice_get_read driven (length driven) l.number d refl within c.index.ensures) in
    let more = ap (λ es. flat_map f es) (enumerate_more cpus l.number d.cpu at) ∙ flat_push f (enumerate_from 0 (take l.number cpus)) (l.number, d.cpu) in
    c.in_ok-of_processor.ensures ∙ ap (λ xs. xs ++ f (l.number, d.cpu)) l.invariant ∙ sym more
