use Rattle.std.proofs.Common.{◌≡◌, ℕ, length, None, refl, rules, arith, subst, vec_len}
use Rattle.lwkt_port.specs.Chains.{Chain}
use Rattle.lwkt_port.specs.Intakes.{Intake, EmptiesFrom, untaken, clearing}
use Rattle.lwkt_port.specs.Works.{Work, work}
use Rattle.lwkt_port.proofs.Hinting.{clears_none}
use Rattle.lwkt_port.proofs.Passing.{calm_takes}
use Rattle.lwkt_port.proofs.offices.Office.take_in.Goals as goal

pub returns-in_default-clause-takes : goal.returns-in_default-clause-takes
returns-in_default-clause-takes c =
    let o = c.args.self.now in
    let w : Work = work o.counters.room c.args.trace.now in
    let passed = c.pass_empty.new.lanes in
    let x : Intake = untaken w o.counters.ports.items o.lanes.items in
    let y : Intake = untaken w o.counters.ports.items passed.items in
    let F : ℕ → Type 0 = λ n. Chain Intake (EmptiesFrom c.args.limit) n x y in
    let lines : vec_len o.lanes ≡ length o.lanes.items = search rules in
    let none : c.pass_empty.result ≡ None = search rules in
    calm_takes c.args.limit 16 w o.counters.ports.items o.lanes.items y (record { work = w; lanes = passed.items; ports = o.counters.ports.items }) (o.hint c.if-self.false) (o.hands c.if-self-3.false) (subst F lines (c.pass_empty.ensures.none none c.args.limit w o.counters.ports.items)) (clears_none 16 (clearing o.counters c.args.trace.now 16) (omega (arith, o.counters.as_many)) (o.counters.hint c.if-self-2.false)) refl
