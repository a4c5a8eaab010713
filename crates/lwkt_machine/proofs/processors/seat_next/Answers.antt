use Rattle.std.proofs.Common.{◌≡◌, ◌+◌, ◌∙◌, arith, length, ap, refl, sym, subst, Some}
use Rattle.std.specs.Prelude.{slice_get}
use Rattle.std.proofs.lemmas.Option.{slice_get_read}
use Rattle.lwkt_base.specs.declared.names.CpuId.{CpuId}
use Rattle.lwkt_bank.specs.Seats.{id_of}
use Rattle.lwkt_cpu.specs.Processors.{Processor}
use Rattle.lwkt_machine.specs.Opened.{IsOpenedCpu}
use Rattle.lwkt_machine.proofs.processors.seat_next.Goals as goal

pub returns-clause-ok : goal.returns-clause-ok
returns-clause-ok g c =
    let seats = c.args.rest.now.seats.items in
    let seat = c.index.result.now in
    let there : slice_get seats 0 ≡ Some seat = slice_get_read seats (length seats) 0 seat refl c.requires.some c.index.ensures in
    let first : c.args.number + 0 ≡ c.args.number = omega arith in
    let F : Processor g.row.B.Denot → Type 0 = λ p. IsOpenedCpu {B = g.row.B.Denot} (id_of c.args.bank.now) c.args.book.now c.args.number c.args.bodies.items p in
    record {
      opened = subst F (sym c.new.ensures.cpu) c.in_ok-cpu.ensures.ok;
      fresh = record {
        id = ap (λ (x : CpuId). x.0) (c.new.ensures.id ∙ c.cpu-id.ensures.is) ∙ (c.requires.rest.seats 0 seat there).number ∙ first;
        trace = c.new.ensures.trace;
        drove = c.new.ensures.drove;
        ending = c.new.ensures.ending;
      };
    }
