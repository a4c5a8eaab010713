use Rattle.std.proofs.Common.{refl, ◌∙◌}
use Rattle.lwkt_bank.specs.Views.{wrote_record}
use Rattle.lwkt_bank.specs.Seats.{entry}
use Rattle.lwkt_hold.proofs.ReadMoves.{exclusive_listed, write_record_ran}
use Rattle.lwkt_hold.proofs.RunMoves.{holding_kept}
use Rattle.lwkt_hold.proofs.OutcomeMoves.{kept_still}
use Rattle.lwkt_hold.proofs.holds.Hold.write_blob.Goals as goal

pub write_blob-requires-clause-held : goal.write_blob-requires-clause-held
write_blob-requires-clause-held c = exclusive_listed c.args.self.now.seat c.args.list.now c.args.tok.0 c.requires.held c.in_ok-may_use_record.ensures.ok.2

pub returns-in_err-may_use_record-clause-keeps : goal.returns-in_err-may_use_record-clause-keeps
returns-in_err-may_use_record-clause-keeps c = kept_still c.args.list.now c.args.self.now.seat c.args.trace.now c.requires.held

pub returns-then-len-gt64-clause-keeps : goal.returns-then-len-gt64-clause-keeps
returns-then-len-gt64-clause-keeps c = kept_still c.args.list.now c.args.self.now.seat c.args.trace.now c.requires.held

pub returns-clause-keeps : goal.returns-clause-keeps
returns-clause-keeps c =
    let s = c.args.self.now.seat in
    let e = wrote_record (entry s c.args.tok.0) c.args.blob.now in
    let w = c.write_blob in
    record {
      ran = write_record_ran c.args.list.now s w.new.self c.args.tok e c.cpu-cpu.result c.args.blob.now c.args.trace.now c.note_record_written.new.trace w.ensures refl c.requires.held c.cpu-cpu.ensures.is c.note_record_written.ensures.items c.note_record_written.ensures.longer c.note_record_written.ensures.room;
      held = holding_kept s w.new.self c.args.tok.0 e _ w.ensures refl ∙ c.requires.held;
    }
