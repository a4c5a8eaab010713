use Rattle.std.proofs.Common.{arith}
use Rattle.lwkt_hold.specs.Fronts.{IsBetween}
use Rattle.lwkt_hold.proofs.ReadMoves.{ran_still}
use Rattle.lwkt_msg.specs.Desks.{desk_cpu}
use Rattle.lwkt_cpu.specs.Nexts.{kept_list, next_with}
use Rattle.lwkt_cpu.proofs.AskMoves.{ran_left}
use Rattle.lwkt_cpu.proofs.MailMoves.{ran_mail_held}
use Rattle.lwkt_cpu.proofs.MailTraceMoves.{quiet_none, mail_none, given_quiet, got_quiet, tried_quiet, rel_quiet, read_quiet, stored_quiet, added_quiet, record_read_quiet, record_stored_quiet}
use Rattle.lwkt_cpu.proofs.performs.perform.Goals as goal

pub returns-in-Swap-clause-ran : goal.returns-in-Swap-clause-ran
returns-in-Swap-clause-ran c = ran_still (IsBetween c.args.list.now c.swap.new.list) 320 c.args.hold.now.seat c.args.trace.now

pub returns-in-Read-clause-ran : goal.returns-in-Read-clause-ran
returns-in-Read-clause-ran c = ran_left c.args.list.now c.args.list.now 1 c.args.hold.now.seat c.read.new.hold.seat c.args.trace.now c.read.new.trace (omega arith) c.read.ensures.ran

pub returns-in-Write-clause-ran : goal.returns-in-Write-clause-ran
returns-in-Write-clause-ran c = ran_left c.args.list.now c.args.list.now 1 c.args.hold.now.seat c.write.new.hold.seat c.args.trace.now c.write.new.trace (omega arith) c.write.ensures.ran

pub returns-in-Add-clause-ran : goal.returns-in-Add-clause-ran
returns-in-Add-clause-ran c = ran_left c.args.list.now c.args.list.now 1 c.args.hold.now.seat c.add.new.hold.seat c.args.trace.now c.add.new.trace (omega arith) c.add.ensures.ran

pub returns-in-WriteBlob-clause-ran : goal.returns-in-WriteBlob-clause-ran
returns-in-WriteBlob-clause-ran c = ran_left c.args.list.now c.args.list.now 1 c.args.hold.now.seat c.write_blob.new.hold.seat c.args.trace.now c.write_blob.new.trace (omega arith) c.write_blob.ensures.ran

pub returns-in-Send-clause-ran : goal.returns-in-Send-clause-ran
returns-in-Send-clause-ran c = ran_left c.args.list.now c.args.list.now 1 c.args.hold.now.seat c.args.hold.now.seat c.args.trace.now c.send.new.trace (omega arith) (ran_mail_held c.args.list.now (desk_cpu c.args.ports.now.seat) 1 1 c.args.hold.now.seat c.args.trace.now c.send.new.trace (omega arith) c.requires.mine c.requires.ready.held c.send.ensures.grew)

pub returns-in-Do-clause-ran : goal.returns-in-Do-clause-ran
returns-in-Do-clause-ran c = ran_left c.args.list.now (kept_list (next_with c.send_and_wait.result c.send_and_wait.new.last) c.args.list.now) 320 c.args.hold.now.seat c.send_and_wait.new.hold.seat c.args.trace.now c.send_and_wait.new.trace (omega arith) c.send_and_wait.ensures.ran

pub returns-in-Reply-clause-ran : goal.returns-in-Reply-clause-ran
returns-in-Reply-clause-ran c = ran_left c.args.list.now c.args.list.now 1 c.args.hold.now.seat c.args.hold.now.seat c.args.trace.now c.reply.new.trace (omega arith) (ran_mail_held c.args.list.now (desk_cpu c.args.ports.now.seat) 1 1 c.args.hold.now.seat c.args.trace.now c.reply.new.trace (omega arith) c.requires.mine c.requires.ready.held c.reply.ensures.grew)

pub returns-in-Abort-clause-ran : goal.returns-in-Abort-clause-ran
returns-in-Abort-clause-ran c = ran_left c.args.list.now c.args.list.now 1 c.args.hold.now.seat c.args.hold.now.seat c.args.trace.now c.abort.new.trace (omega arith) (ran_mail_held c.args.list.now (desk_cpu c.args.ports.now.seat) 1 1 c.args.hold.now.seat c.args.trace.now c.abort.new.trace (omega arith) c.requires.mine c.requires.ready.held c.abort.ensures.grew)

pub returns-in-DropMsg-clause-ran : goal.returns-in-DropMsg-clause-ran
returns-in-DropMsg-clause-ran c = ran_left c.args.list.now c.args.list.now 1 c.args.hold.now.seat c.args.hold.now.seat c.args.trace.now c.drop_msg.new.trace (omega arith) (ran_mail_held c.args.list.now (desk_cpu c.args.ports.now.seat) 1 1 c.args.hold.now.seat c.args.trace.now c.drop_msg.new.trace (omega arith) c.requires.mine c.requires.ready.held c.drop_msg.ensures.grew)

pub returns-in-IsAborted-clause-ran : goal.returns-in-IsAborted-clause-ran
returns-in-IsAborted-clause-ran c = ran_still (IsBetween c.args.list.now c.args.list.now) 320 c.args.hold.now.seat c.args.trace.now

pub returns-in-IsAborted-clause-traced : goal.returns-in-IsAborted-clause-traced
returns-in-IsAborted-clause-traced c = c.is_aborted.ensures.traced c.args.trace.now.items

pub returns-in-GetPort-clause-ran : goal.returns-in-GetPort-clause-ran
returns-in-GetPort-clause-ran c = ran_left c.args.list.now c.args.list.now 128 c.args.hold.now.seat c.args.hold.now.seat c.args.trace.now c.get_port.new.trace (omega arith) (ran_mail_held c.args.list.now (desk_cpu c.args.ports.now.seat) 128 128 c.args.hold.now.seat c.args.trace.now c.get_port.new.trace (omega arith) c.requires.mine c.requires.ready.held c.get_port.ensures.grew)

pub returns-in-WaitPort-clause-ran : goal.returns-in-WaitPort-clause-ran
returns-in-WaitPort-clause-ran c = ran_left c.args.list.now (kept_list (next_with c.wait_port.result c.wait_port.new.last) c.args.list.now) 320 c.args.hold.now.seat c.wait_port.new.hold.seat c.args.trace.now c.wait_port.new.trace (omega arith) c.wait_port.ensures.ran

pub returns-in-Yield-clause-ran : goal.returns-in-Yield-clause-ran
returns-in-Yield-clause-ran c = ran_left c.args.list.now (kept_list (next_with c.leave_ready.result c.leave_ready.new.last) c.args.list.now) 192 c.args.hold.now.seat c.leave_ready.new.hold.seat c.args.trace.now c.leave_ready.new.trace (omega arith) c.leave_ready.ensures.ran

pub returns-in-Exit-clause-ran : goal.returns-in-Exit-clause-ran
returns-in-Exit-clause-ran c = let l = c.leave in ran_left c.args.list.now (kept_list (next_with l.result c.args.last.now) c.args.list.now) 192 c.args.hold.now.seat l.new.hold.seat c.args.trace.now l.new.trace (omega arith) l.ensures.ran

pub returns-in-Fail-clause-ran : goal.returns-in-Fail-clause-ran
returns-in-Fail-clause-ran c = let l = c.leave-in-Fail in ran_left c.args.list.now (kept_list (next_with l.result c.args.last.now) c.args.list.now) 192 c.args.hold.now.seat l.new.hold.seat c.args.trace.now l.new.trace (omega arith) l.ensures.ran

pub returns-in-Get-clause-traced : goal.returns-in-Get-clause-traced
returns-in-Get-clause-traced c = mail_none c.args.ports.now.seat c.args.trace.now.items c.get.new.trace.items (got_quiet _ _ _ _ _ _ c.args.trace.now c.get.new.trace _ c.get.ensures.gets)

pub returns-in-GetShared-clause-traced : goal.returns-in-GetShared-clause-traced
returns-in-GetShared-clause-traced c = mail_none c.args.ports.now.seat c.args.trace.now.items c.get-in-GetShared.new.trace.items (got_quiet _ _ _ _ _ _ c.args.trace.now c.get-in-GetShared.new.trace _ c.get-in-GetShared.ensures.gets)

pub returns-in-TryGet-clause-traced : goal.returns-in-TryGet-clause-traced
returns-in-TryGet-clause-traced c = mail_none c.args.ports.now.seat c.args.trace.now.items c.try_get.new.trace.items (tried_quiet _ _ _ _ _ _ c.args.trace.now c.try_get.new.trace c.try_get.ensures.tries.0 c.try_get.ensures.tries.1.0)

pub returns-in-Rel-clause-traced : goal.returns-in-Rel-clause-traced
returns-in-Rel-clause-traced c = mail_none c.args.ports.now.seat c.args.trace.now.items c.rel.new.trace.items (rel_quiet _ _ _ _ _ c.args.trace.now c.rel.new.trace c.rel.ensures.rels.0 c.rel.ensures.rels.1.0)

pub returns-in-Swap-clause-traced : goal.returns-in-Swap-clause-traced
returns-in-Swap-clause-traced c = mail_none c.args.ports.now.seat c.args.trace.now.items c.args.trace.now.items (quiet_none c.args.trace.now.items)

pub returns-in-Read-clause-traced : goal.returns-in-Read-clause-traced
returns-in-Read-clause-traced c = mail_none c.args.ports.now.seat c.args.trace.now.items c.read.new.trace.items (read_quiet _ _ _ _ _ _ c.args.trace.now c.read.new.trace c.read.ensures.reads.0 c.read.ensures.reads.1.0)

pub returns-in-Write-clause-traced : goal.returns-in-Write-clause-traced
returns-in-Write-clause-traced c = mail_none c.args.ports.now.seat c.args.trace.now.items c.write.new.trace.items (stored_quiet _ _ _ _ _ _ _ c.args.trace.now c.write.new.trace c.write.ensures.stores.0 c.write.ensures.stores.1.0)

pub returns-in-Add-clause-traced : goal.returns-in-Add-clause-traced
returns-in-Add-clause-traced c = mail_none c.args.ports.now.seat c.args.trace.now.items c.add.new.trace.items (added_quiet _ _ _ _ _ _ c.args.trace.now c.add.new.trace c.add.ensures.adds.0 c.add.ensures.adds.1.0)

pub returns-in-WriteBlob-clause-traced : goal.returns-in-WriteBlob-clause-traced
returns-in-WriteBlob-clause-traced c = mail_none c.args.ports.now.seat c.args.trace.now.items c.write_blob.new.trace.items (record_stored_quiet _ _ _ _ _ _ c.args.trace.now c.write_blob.new.trace c.write_blob.ensures.stores.0 c.write_blob.ensures.stores.1.0)

pub returns-in-Yield-clause-traced : goal.returns-in-Yield-clause-traced
returns-in-Yield-clause-traced c = mail_none c.args.ports.now.seat c.args.trace.now.items c.leave_ready.new.trace.items (given_quiet _ _ _ _ c.args.trace.now c.leave_ready.new.trace _ _ c.leave_ready.ensures.gives_up)

pub returns-in-Exit-clause-traced : goal.returns-in-Exit-clause-traced
returns-in-Exit-clause-traced c = let l = c.leave in mail_none c.args.ports.now.seat c.args.trace.now.items l.new.trace.items (given_quiet _ _ _ _ c.args.trace.now l.new.trace _ _ (l.ensures.gives_up c.args.last.now))

pub returns-in-Fail-clause-traced : goal.returns-in-Fail-clause-traced
returns-in-Fail-clause-traced c = let l = c.leave-in-Fail in mail_none c.args.ports.now.seat c.args.trace.now.items l.new.trace.items (given_quiet _ _ _ _ c.args.trace.now l.new.trace _ _ (l.ensures.gives_up c.args.last.now))

pub returns-in-ReadBlob-clause-ran : goal.returns-in-ReadBlob-clause-ran
returns-in-ReadBlob-clause-ran c = ran_left c.args.list.now c.args.list.now 1 c.args.hold.now.seat c.read_blob.new.hold.seat c.args.trace.now c.read_blob.new.trace (omega arith) c.read_blob.ensures.ran

pub returns-in-ReadBlob-clause-traced : goal.returns-in-ReadBlob-clause-traced
returns-in-ReadBlob-clause-traced c = mail_none c.args.ports.now.seat c.args.trace.now.items c.read_blob.new.trace.items (record_read_quiet _ _ _ _ _ c.args.trace.now c.read_blob.new.trace c.read_blob.ensures.reads.0 c.read_blob.ensures.reads.1.0)
