use denote.Param.Send.{sendable}
use Rattle.lwkt_run.proofs.Crossings.{body_send}
use Rattle.lwkt_tests.proofs.threads.leaves.Goals as goal

pub drive_on_threads-requires-send-B : goal.drive_on_threads-requires-send-B
drive_on_threads-requires-send-B g c κs within = search (sendable, body_send)
