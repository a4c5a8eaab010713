use Rattle.std.proofs.Common.{ℕ, List, subst}
use Rattle.std.specs.Prelude.{IsTrue, Option}
use Rattle.std.specs.Option.{option_copied}
use Rattle.lwkt.proofs.Servings.{serves_script}
use Rattle.lwkt.proofs.Reporting.{takes_script}
use Rattle.lwkt.specs.Answering.{Streams}
use Rattle.lwkt.specs.Performing.{Performs, order_of}
use Rattle.lwkt.proofs.performing.perform.Goals as goal

pub returns-in_default-clause-serves : goal.returns-in_default-clause-serves
returns-in_default-clause-serves g c =
    let s : Streams = record {
      old = g.O.Write.contents c.args.sink.now.writer.writer;
      new = g.O.Write.contents c.perform_on_script.new.sink.writer.writer;
      failed = c.perform_on_script.new.sink.failed;
      error = c.perform_on_script.new.sink.writer.error;
      flushed = c.perform_on_script.new.sink.flushed;
      before = g.E.Sink.contents c.args.errors.now;
      after = g.E.Sink.contents c.perform_on_script.new.errors;
      lost = g.E.Sink.has_failed c.perform_on_script.new.errors;
    } in
    let Does : Option (List ℕ) → Type 0 = λ order. Performs c.args.request.now.task order (option_copied c.args.name) c.perform_on_script.new.source.failed s.failed (IsTrue s.flushed) (g.I.Read.remaining c.args.source.now.reader.reader) s.old s.new c.perform_on_script.result in
    serves_script c.args.request.now.task (order_of c.args.request.now) (option_copied c.args.name) c.args.by_old_name c.perform_on_script.new.source.failed (g.I.Read.remaining c.args.source.now.reader.reader) s c.perform_on_script.result (takes_script c.args.request.now.task c.in_default.not-Check) (subst Does c.order_of-order.ensures c.perform_on_script.ensures.performs)
