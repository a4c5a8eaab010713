use Rattle.std.proofs.Common.{◌≡◌, ◌++◌, codes, string_bytes}
use Rattle.std.proofs.lemmas.Result.{on_ok_weaker}
use Rattle.lwkt_report.specs.Report.{line_feed}
use Rattle.lwkt_told.specs.Called.{in_column, program_of, thread_called}
use Rattle.lwkt_told.specs.Told.{list_part, log_part, service_told, state_told}
use Rattle.lwkt_told.proofs.ColumnLemmas.{seven_pieces}
use Rattle.lwkt_told.proofs.tellings.show_thread.Goals as goal

pub returns : goal.returns
returns c =
    let names = c.args.names.now in
    let line = c.args.line.now in
    on_ok_weaker c.push_str-2.result
    (λ is. seven_pieces (string_bytes c.args.out.now) (in_column c.args.width (thread_called names line.id)) (codes "   ") (state_told line.state) (service_told line.service) (list_part names line.list) (log_part names (program_of names c.args.script.now line.id) line.log) line_feed
    (string_bytes c.show_thread_in_column.new.out) (string_bytes c.push_str.new.out) (string_bytes c.show_state.new.out) (string_bytes c.show_service.new.out) (string_bytes c.show_list_of.new.out) (string_bytes c.show_log_of.new.out) (string_bytes c.push_str-2.new.out)
    c.in_ok-show_thread_in_column.ensures c.in_ok-push_str.ensures c.in_ok-show_state.ensures c.in_ok-show_service.ensures c.in_ok-show_list_of.ensures c.in_ok-show_log_of.ensures is)
    c.push_str-2.ensures
