use Rattle.std.proofs.Common.{◌≡◌, codes, string_bytes}
use Rattle.std.proofs.lemmas.Result.{on_ok_weaker}
use Rattle.std.specs.Fmt.{decimal}
use Rattle.lwkt_report.specs.Report.{line_feed}
use Rattle.lwkt_text.specs.Naming.{cells_of}
use Rattle.lwkt_told.specs.Called.{called, in_column}
use Rattle.lwkt_told.specs.Told.{cells_part, tallies_part, record_part}
use Rattle.lwkt_told.proofs.ColumnLemmas.{seven_pieces}
use Rattle.lwkt_told.proofs.tellings.show_token.Goals as goal

pub returns : goal.returns
returns c =
    let names = c.args.names.now in
    let line = c.args.line.now in
    on_ok_weaker c.push_str-2.result
    (λ is. seven_pieces (string_bytes c.args.out.now) (in_column c.args.width (called names.tokens c.args.tok)) (codes "   gen ") (decimal line.generation) (cells_part (cells_of names (record { 0 = c.args.tok })) line.cells) (tallies_part line.tallies) (record_part line.blob) line_feed
    (string_bytes c.show_token_in_column.new.out) (string_bytes c.push_str.new.out) (string_bytes c.put.new.out) (string_bytes c.show_cells_of.new.out) (string_bytes c.show_tallies.new.out) (string_bytes c.show_record_part.new.out) (string_bytes c.push_str-2.new.out)
    c.in_ok-show_token_in_column.ensures c.in_ok-push_str.ensures c.in_ok-put.ensures c.in_ok-show_cells_of.ensures c.in_ok-show_tallies.ensures c.in_ok-show_record_part.ensures is)
    c.push_str-2.ensures
