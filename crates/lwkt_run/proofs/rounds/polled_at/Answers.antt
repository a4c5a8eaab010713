use Rattle.lwkt_run.proofs.PollMoves.{body_shown}
use Rattle.lwkt_run.proofs.rounds.polled_at.Goals as goal

pub unwrap-body-requires : goal.unwrap-body-requires
unwrap-body-requires c = body_shown (λ body. body.now) c.args.machine.now c.args.cpu c.args.thread c.body.result c.requires.polled c.body.ensures
