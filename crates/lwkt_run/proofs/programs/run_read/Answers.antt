use Rattle.std.proofs.Common.{false, Some, inr, refl, take}
use Rattle.lwkt_run.specs.Modes.{HasRunBy}
use Rattle.lwkt_run.proofs.ReadMoves.{front_gives, runs_json}
use Rattle.lwkt_run.proofs.RunLemmas.{reports_concluded}
use Rattle.lwkt_run.proofs.ThreadedLemmas.{still_failed}
use Rattle.lwkt_run.proofs.programs.run_read.Goals as goal

pub returns : goal.returns
returns g c = λ bytes gives.
    let old = g.K.Sink.contents c.args.sink.now in
    let mid = g.K.Sink.contents c.conclude-outcome.new.sink in
    let new = g.K.Sink.contents c.finish.new.sink in
    let before = g.K.Sink.has_failed c.conclude-outcome.new.sink in
    let after = g.K.Sink.has_failed c.finish.new.sink in
    let outcome = c.conclude-outcome.result in
    let front = take 1048577 bytes in
    let fits = front_gives bytes c.args.read gives in
    let reports = reports_concluded (HasRunBy c.args.mode) (Some bytes) old mid front front c.done_of_read.result outcome refl refl (c.done_of_read.ensures.ok front fits) (c.done_of_read.ensures.refused front fits) c.conclude-outcome.ensures.concludes in
    let blames = still_failed false before after outcome (λ is. inr (c.conclude-outcome.ensures.stream is)) c.finish.ensures.failed in
    runs_json c.args.mode false after (Some bytes) old mid new outcome c.finish.result reports c.finish.ensures.line blames c.finish.ensures.status
