use Rattle.std.proofs.Common.{refl, ◌∙◌}
use Rattle.lwkt_bank.specs.Seats.{entry}
use Rattle.lwkt_hold.proofs.ReadMoves.{exclusive_listed, read_record_ran}
use Rattle.lwkt_hold.proofs.RunMoves.{holding_kept}
use Rattle.lwkt_hold.proofs.OutcomeMoves.{kept_still}
use Rattle.lwkt_hold.proofs.holds.Hold.read_blob.Goals as goal

pub read_blob-blob-requires-clause-held : goal.read_blob-blob-requires-clause-held
read_blob-blob-requires-clause-held c = exclusive_listed c.args.self.now.seat c.args.list.now c.args.tok.0 c.requires.held c.in_ok-may_use_record.ensures.ok.2

pub returns-in_err-may_use_record-clause-keeps : goal.returns-in_err-may_use_record-clause-keeps
returns-in_err-may_use_record-clause-keeps c = kept_still c.args.list.now c.args.self.now.seat c.args.trace.now c.requires.held

pub returns-clause-keeps : goal.returns-clause-keeps
returns-clause-keeps c =
    let s = c.args.self.now.seat in
    let e = entry s c.args.tok.0 in
    let r = c.read_blob-blob in
    record {
      ran = read_record_ran c.args.list.now s r.new.self c.args.tok e c.cpu-cpu.result r.result c.args.trace.now c.note_record_read.new.trace r.ensures.changes refl c.requires.held c.cpu-cpu.ensures.is c.note_record_read.ensures.items c.note_record_read.ensures.longer c.note_record_read.ensures.room;
      held = holding_kept s r.new.self c.args.tok.0 e _ r.ensures.changes refl ∙ c.requires.held;
    }
