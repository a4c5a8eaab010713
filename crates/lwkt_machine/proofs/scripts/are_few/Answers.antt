use Rattle.std.proofs.Common.{◌<◌, ◌≤◌, ◌≡◌, List, ℕ, arith, subst, sym}
use Rattle.lwkt_machine.specs.Scripts.{AreFew}
use Rattle.lwkt_machine.proofs.ScriptMoves.{few_more}
use Rattle.lwkt_script.specs.declared.scripts.ThreadSpec.{ThreadSpec}
use Rattle.lwkt_script.specs.Format.{threads_on}
use Rattle.lwkt_machine.proofs.scripts.are_few.Goals as goal

pub returns-then-threads_on-gt-THREAD_LIMIT-clause-no : goal.returns-then-threads_on-gt-THREAD_LIMIT-clause-no
returns-then-threads_on-gt-THREAD_LIMIT-clause-no c = λ same few.
    let l = c.loop-cpu in
    let s = c.args.script.now in
    let F : List ThreadSpec → Type 0 = λ xs. threads_on l.cpu xs ≤ 16 in
    let within : l.cpu < s.cpus = omega (arith, c.loop-cpu-test.true, l.auto.cpu-end, c.from-cpu-end.ensures) in
    let here : threads_on l.cpu c.as_slice-threads.result.now ≤ 16 = subst F (sym c.as_slice-threads.ensures) (few l.cpu within) in
    absurd (omega (arith, c.if-threads_on-gt-THREAD_LIMIT.true, c.threads_on.ensures, here))

pub loop-cpu-preserved : goal.loop-cpu-preserved
loop-cpu-preserved c =
    let l = c.loop-cpu in
    let here : threads_on l.cpu c.as_slice-threads.result.now ≤ 16 = omega (arith, c.if-threads_on-gt-THREAD_LIMIT.false, c.threads_on.ensures) in
    few_more l.cpu c.as_slice-threads.result.now here l.invariant

pub returns-clause-yes : goal.returns-clause-yes
returns-clause-yes c = λ same.
    let l = c.loop-cpu in
    let s = c.args.script.now in
    let all : l.cpu ≡ s.cpus = omega (arith, c.loop-cpu-test.false, l.auto.cpu-end, c.from-cpu-end.ensures) in
    let F : ℕ → Type 0 = λ n. AreFew n c.as_slice-threads.result.now in
    let G : List ThreadSpec → Type 0 = λ xs. AreFew s.cpus xs in
    subst G c.as_slice-threads.ensures (subst F all l.invariant)
