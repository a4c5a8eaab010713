use Rattle.std.proofs.Common.{vec_len}
use Rattle.lwkt_port.proofs.ClosedPorts.{clearing_none, clearing_more}
use Rattle.lwkt_port.proofs.Serving.{named_head}
use Rattle.lwkt_port.proofs.mailrooms.Mailroom.clear.Goals as goal

pub clear_note-requires-clause-exists : goal.clear_note-requires-clause-exists
clear_note-requires-clause-exists c = let r = c.in-Some.ensures in named_head (vec_len c.loop-done.self.mails) c.loop-done.port c.in-Some.note r.0 r.1 c.loop-done.invariant.named

pub loop-done-preserved : goal.loop-done-preserved
loop-done-preserved c =
    let l = c.loop-done in
    let r = c.in-Some.ensures in
    let e = c.if-clear_note.ensures in
    clearing_more l.done c.args.self.now c.args.trace.now c.args.port.now l.self l.trace l.port c.clear_note.new.self c.clear_note.new.trace c.drop_front.new.port c.in-Some.note r.0 l.invariant r.1 (c.drop_front.ensures c.in-Some.note r.0 r.1) e.clears e.grew_so

pub loop-done-init : goal.loop-done-init
loop-done-init c = clearing_none c.args.self.now c.args.trace.now c.args.port.now c.requires.named
