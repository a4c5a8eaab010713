use Rattle.lwkt_trace.proofs.WrittenTexts.{text_is_of_value, written_read_back}
use Rattle.lwkt_trace.proofs.laws.written_traces_are_read_back.Goals as goal

pub returns-clause-text : goal.returns-clause-text
returns-clause-text c = text_is_of_value

pub returns-clause-bytes : goal.returns-clause-bytes
returns-clause-bytes c = written_read_back
