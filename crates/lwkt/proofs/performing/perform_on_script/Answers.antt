use Rattle.std.proofs.Common.{◌≡◌, ◌∙◌, ap, IsTrue, Err, false}
use Rattle.std.specs.Option.{option_copied}
use Rattle.lwkt.proofs.Reporting.{performed, ends_as_stream}
use Rattle.lwkt.proofs.performing.perform_on_script.Goals as goal

pub returns-clause-performs : goal.returns-clause-performs
returns-clause-performs g c =
    performed c.args.origin.task (option_copied c.args.order) (option_copied c.args.origin.path) c.answered_by_name-answer.new.source.failed c.answered_by_name-answer.new.sink.failed c.complain_of.new.sink.failed (IsTrue c.answered_by_name-answer.new.sink.flushed) (IsTrue c.complain_of.new.sink.flushed) (g.I.Read.remaining c.args.source.now.reader.reader) (g.O.Write.contents c.args.sink.now.writer.writer) (g.O.Write.contents c.answered_by_name-answer.new.sink.writer.writer) (g.O.Write.contents c.complain_of.new.sink.writer.writer) c.answered_by_name-answer.result c.ending_of.result
    c.answered_by_name-answer.ensures.answers c.complain_of.ensures.says c.answered_by_name-answer.ensures.blames c.complain_of.ensures.still c.answered_by_name-answer.ensures.flushed c.complain_of.ensures.flushed c.ending_of.ensures

pub returns-clause-failed_source : goal.returns-clause-failed_source
returns-clause-failed_source g c = λ was failed.
    c.ending_of.ensures ∙ ends_as_stream c.args.source.now.failed c.answered_by_name-answer.new.source.failed c.answered_by_name-answer.result (λ unblamed. (c.answered_by_name-answer.ensures.unfailed unblamed).0) was failed

pub returns-clause-failed_sink : goal.returns-clause-failed_sink
returns-clause-failed_sink g c = λ quiet was failed.
    c.ending_of.ensures ∙ ends_as_stream c.args.sink.now.failed c.complain_of.new.sink.failed c.answered_by_name-answer.result (λ unblamed. c.complain_of.ensures.quiet quiet ∙ (c.answered_by_name-answer.ensures.unfailed unblamed).1) was failed
