use Rattle.std.proofs.Common.{◌≡◌, List, ℕ, map, string_bytes, subst, sym}
use Rattle.lwkt.specs.Answering.{Streams}
use Rattle.lwkt.specs.Ending.{OwnsThree}
use Rattle.lwkt.proofs.Threes.{by_does, by_words}
use Rattle.lwkt.proofs.answering.answer.Goals as goal

pub returns-in-Ok-clause-three : goal.returns-in-Ok-clause-three
returns-in-Ok-clause-three g c =
    let s : Streams = record {
      old = g.O.Write.contents c.args.sink.now.writer.writer;
      new = g.O.Write.contents c.answer_to.new.sink.writer.writer;
      failed = c.answer_to.new.sink.failed;
      error = c.answer_to.new.sink.writer.error;
      flushed = c.answer_to.new.sink.flushed;
      before = g.E.Sink.contents c.args.errors.now;
      after = g.E.Sink.contents c.answer_to.new.errors;
      lost = g.E.Sink.has_failed c.answer_to.new.errors;
    } in
    by_does (map string_bytes c.as_slice.result.now) c.answer_to.new.source.failed (g.I.Read.remaining c.args.source.now.reader.reader) _ _ s c.answer_to.result c.answer_to.ensures

pub returns-in-Err-clause-three : goal.returns-in-Err-clause-three
returns-in-Err-clause-three g c = subst OwnsThree (sym c.unworded.ensures) (by_words c.in-Err.fault)
