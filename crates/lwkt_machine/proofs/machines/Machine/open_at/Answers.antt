use Rattle.std.proofs.Common.{◌≡◌, ◌∙◌, ℕ, List, length, refl, subst, sym, arith}
use Rattle.lwkt_bank.specs.Seats.{id_of, cpus_of}
use Rattle.lwkt_lane.specs.Crossed.{AreLanes}
use Rattle.lwkt_cpu.specs.Processors.{Processor}
use Rattle.lwkt_cpu.proofs.WiringMoves.{wired}
use Rattle.lwkt_machine.specs.Machines.{processors}
use Rattle.lwkt_machine.proofs.DrivenMoves.{long_processors}
use Rattle.lwkt_machine.proofs.TableMoves.{rest_first}
use Rattle.lwkt_machine.proofs.OpenMoves.{opened_whole}
use Rattle.lwkt_machine.proofs.machines.Machine.open_at.Goals as goal

pub seat_all-requires-clause-rest : goal.seat_all-requires-clause-rest
seat_all-requires-clause-rest g c =
    let t = c.args.tables in
    let f = c.in_ok-outs in
    let many : c.len.result ≡ length c.args.bodies.items = omega (arith, c.len.ensures, c.args.bodies.ok) in
    let F : ℕ → Type 0 = λ n. AreLanes n n f.field-0.outs.items f.field-0.ins.items in
    rest_first (length c.args.bodies.items) c.args.tokens.now c.args.messages.now t.bank t.book (record { seats = t.seats; mails = t.mails; outs = f.field-0.outs; ins = f.field-0.ins }) c.requires.bank c.requires.book (subst F many f.ensures)

pub invariant_of-result : goal.invariant_of-result
invariant_of-result g c =
    let t = c.args.tables in
    let made = c.in_ok-cpus in
    let lanes = c.in_ok-outs in
    let cpus : List (Processor g.row.B.Denot) = processors made.cpus.items in
    let many : c.len.result ≡ length c.args.bodies.items = omega (arith, c.len.ensures, c.args.bodies.ok) in
    let joined = wired {B = g.row.B.Denot} c.len.result lanes.field-0.outs.items lanes.field-0.ins.items cpus lanes.ensures made.ensures.lines (long_processors made.cpus.items ∙ made.ensures.as_many ∙ sym many) in
    opened_whole {B = g.row.B.Denot} g.B.Lasting.kept (cpus_of t.bank) (id_of t.bank) t.book c.args.bodies.items made.cpus.items c.requires.bank.processors c.requires.book.cpus_is made.ensures.as_many c.requires.cpus made.ensures.each joined c.requires.kept

pub returns : goal.returns
returns g c =
    let made = c.in_ok-cpus in
    let lanes = c.in_ok-outs in
    let cpus : List (Processor g.row.B.Denot) = processors made.cpus.items in
    let many : c.len.result ≡ length c.args.bodies.items = omega (arith, c.len.ensures, c.args.bodies.ok) in
    let long = long_processors made.cpus.items ∙ made.ensures.as_many in
    record {
      plans = c.requires.bank.plans;
      specs = c.requires.book.specs_is;
      desks_are = c.requires.book.cpus_is;
      as_many = long;
      each = made.ensures.each;
      cpus = refl;
      wired = wired {B = g.row.B.Denot} c.len.result lanes.field-0.outs.items lanes.field-0.ins.items cpus lanes.ensures made.ensures.lines (long ∙ sym many);
    }
