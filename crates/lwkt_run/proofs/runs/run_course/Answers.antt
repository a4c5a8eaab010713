use Rattle.std.proofs.Common.{◌≡◌, ◌∙◌, ◌++◌, List, ap, refl}
use Rattle.lwkt_core.specs.declared.events.Event.{Event}
use Rattle.lwkt_run.specs.Keeping.{Story}
use Rattle.lwkt_run.specs.Running.{story_in_record}
use Rattle.lwkt_run.specs.declared.runs.TurnsRun.{TurnsRun}
use Rattle.lwkt_run.proofs.CheckedMoves.{runs_by}
use Rattle.lwkt_run.proofs.runs.run_course.Goals as goal

pub returns-clause-ok : goal.returns-clause-ok
returns-clause-ok c =
    let run = c.in_ok-left.field-0 in
    let kept = run.keeper in
    let story : Story = story_in_record kept in
    let shown : TurnsRun = record { trace = c.append.new.self; polls = kept.polls; turns = kept.turns; order = kept.order; closing = c.in_ok-closing.closing } in
    let whole : c.append.new.self.items ≡ story.trace ++ run.stops.items = c.in_ok-append.ensures.ok ∙ ap (λ (es : List Event). story.trace ++ es) c.as_slice.ensures.value in
    runs_by c.args.course c.args.script.now story run.left run.stops.items run.verdict shown c.requires c.in_ok-left.ensures.leaves c.in_ok-closing.ensures whole refl refl refl
