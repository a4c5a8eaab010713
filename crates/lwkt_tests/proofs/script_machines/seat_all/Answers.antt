use Rattle.std.proofs.Common.{List, arith, sym, subst}
use Rattle.std.specs.Prelude.{All}
use Rattle.std.proofs.lemmas.List.Elements.{All-nil, All-push}
use Rattle.lwkt_bank.specs.Seats.{id_of}
use Rattle.lwkt_cpu.specs.Processors.{Processor}
use Rattle.lwkt_machine.specs.declared.bodies.ScriptBody.{ScriptBody}
use Rattle.lwkt_machine.specs.Machines.{IsOfMachine}
use Rattle.lwkt_tests.proofs.script_machines.seat_all.Goals as goal

pub seat_next-requires-clause-some : goal.seat_next-requires-clause-some
seat_next-requires-clause-some c = omega (arith, c.loop-number-test.true, c.loop-number.auto.number-end, c.len-number-end.ensures, c.loop-number.invariant.left)

pub seat_next-requires-clause-rest : goal.seat_next-requires-clause-rest
seat_next-requires-clause-rest c = c.loop-number.invariant.rest

pub loop-number-init : goal.loop-number-init
loop-number-init c =
    let P : Processor ScriptBody → Type 0 = λ p. IsOfMachine (id_of c.args.bank.now) c.args.book.now p in
    let F : List (Processor ScriptBody) → Type 0 = λ ps. All P ps in
    record { rest = c.requires.rest; left = omega arith; of = subst F (sym c.new-cpus.ensures.items) (All-nil P) }

pub loop-number-preserved : goal.loop-number-preserved
loop-number-preserved c =
    let l = c.loop-number in
    let P : Processor ScriptBody → Type 0 = λ p. IsOfMachine (id_of c.args.bank.now) c.args.book.now p in
    let F : List (Processor ScriptBody) → Type 0 = λ ps. All P ps in
    record {
      rest = c.in_ok-cpu.ensures.rest;
      left = omega (arith, l.invariant.left, c.in_ok-cpu.ensures.fewer);
      of = subst F (sym c.in_ok-push.ensures.items) (All-push P l.cpus.items c.in_ok-cpu.cpu l.invariant.of c.in_ok-cpu.ensures.of);
    }
