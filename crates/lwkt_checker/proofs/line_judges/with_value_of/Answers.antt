use Rattle.std.proofs.Common.{ℕ, sym, ◌∙◌, ap, subst}
use Rattle.serde_json.specs.View.{view}
use Rattle.lwkt_script.specs.Outcome.{part, IsFaultOf as IsRefused}
use Rattle.lwkt_checker.specs.Line.{value_of}
use Rattle.lwkt_checker.specs.LineFormat.{event_place, with_event, with_closing}
use Rattle.lwkt_checker.proofs.LineJudging.{line_refused, line_is, value_closing, value_event, stated_lifts, refused_lifts, each_lifts}
use Rattle.lwkt_checker.proofs.line_judges.with_value_of.Goals as goal

pub returns-in-Err-clause-refused : goal.returns-in-Err-clause-refused
returns-in-Err-clause-refused c = λ trace knows.
    line_refused trace c.args.line.now c.in-Err.fault (sym knows.closed ∙ c.requires)
    (subst (λ (p : ℕ). IsRefused c.in-Err.fault (part p (value_of c.args.line.now))) (c.event_place.ensures ∙ ap event_place knows.counted) c.in-Err.ensures)

pub returns-then-is_object-clause-stated : goal.returns-then-is_object-clause-stated
returns-then-is_object-clause-stated c =
    let d = view c.in-Ok.value in
    stated_lifts c.with_closing.result c.args.judge (λ t. with_closing t d) c.args.line.now
    (λ trace knows. line_is c.args.judge trace c.args.line.now d c.event_place.result knows c.requires c.event_place.ensures c.in-Ok.ensures ∙ value_closing trace d (sym c.if-is_object.ensures)) c.with_closing.ensures.stated

pub returns-then-is_object-clause-refused : goal.returns-then-is_object-clause-refused
returns-then-is_object-clause-refused c =
    let d = view c.in-Ok.value in
    refused_lifts c.with_closing.result c.args.judge (λ t. with_closing t d) c.args.line.now
    (λ trace knows. line_is c.args.judge trace c.args.line.now d c.event_place.result knows c.requires c.event_place.ensures c.in-Ok.ensures ∙ value_closing trace d (sym c.if-is_object.ensures))
    (each_lifts c.with_closing.result c.args.judge (λ t. with_closing t d) c.with_closing.ensures.refused)

pub returns-clause-stated : goal.returns-clause-stated
returns-clause-stated c =
    let d = view c.in-Ok.value in
    stated_lifts c.with_event.result c.args.judge (λ t. with_event t d) c.args.line.now
    (λ trace knows. line_is c.args.judge trace c.args.line.now d c.event_place.result knows c.requires c.event_place.ensures c.in-Ok.ensures ∙ value_event trace d (sym c.if-is_object.ensures)) c.with_event.ensures.stated

pub returns-clause-refused : goal.returns-clause-refused
returns-clause-refused c =
    let d = view c.in-Ok.value in
    refused_lifts c.with_event.result c.args.judge (λ t. with_event t d) c.args.line.now
    (λ trace knows. line_is c.args.judge trace c.args.line.now d c.event_place.result knows c.requires c.event_place.ensures c.in-Ok.ensures ∙ value_event trace d (sym c.if-is_object.ensures)) c.with_event.ensures.refused
