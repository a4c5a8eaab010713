use Rattle.std.proofs.Common.{◌≡◌, ◌≢◌, ◌+◌, ◌∙◌, ◌∷◌, ◌++◌, ap, sym, true≢false, vec_len, arith}
use Rattle.lwkt_port.proofs.Serving.{named_head, serving_more}
use Rattle.lwkt_port.proofs.Classing.{leaving_chains}
use Rattle.lwkt_port.proofs.Growing.{grew_so_then, grew_so_within}
use Rattle.lwkt_port.proofs.Hinting.{serves_owe}
use Rattle.lwkt_port.specs.declared.gets.Served.{Served}
use Rattle.lwkt_port.specs.declared.gets.Served.TheVariants as served
use Rattle.lwkt_port.specs.Works.{work}
use Rattle.lwkt_port.proofs.mailrooms.Mailroom.serve.Goals as goal

pub serve_note-requires-clause-exists : goal.serve_note-requires-clause-exists
serve_note-requires-clause-exists c = let r = c.in-Some.ensures in named_head (vec_len c.loop-turn.self.mails) c.loop-turn.port c.in-Some.note r.0 r.1 c.loop-turn.invariant.serving.named

pub returns-in-Shown-clause-serves : goal.returns-in-Shown-clause-serves
returns-in-Shown-clause-serves c =
    let l = c.loop-turn in
    let s = l.invariant.serving in
    let r = c.in-Some.ensures in
    let left = c.drop_front-in-Shown.ensures c.in-Some.note r.0 r.1 in (
      record {
        passed = s.passed;
        note = c.in-Some.note;
        between = work l.self l.trace;
        queue_is = s.queue_is ∙ ap (λ q. s.passed ++ q) (r.1 ∙ ap (λ q. c.in-Some.note ∷ q) (sym left.0));
        passes = s.passes;
        shows = c.in-Shown.ensures.serves;
      },
      left.1 ∙ s.closed,
      leaving_chains c.args.port.now l.port c.drop_front-in-Shown.new.port s.order left.2,
    )

pub returns-in-Shown-clause-grew_so : goal.returns-in-Shown-clause-grew_so
returns-in-Shown-clause-grew_so c =
    let l = c.loop-turn in
    let n = c.serve_note.new in
    grew_so_within (l._turn + 1) 128 c.args.self.now n.self c.args.trace.now n.trace (omega (arith, c.count-notes.ensures.few, c.loop-turn-test.true)) (grew_so_then l._turn 1 c.args.self.now l.self n.self c.args.trace.now l.trace n.trace l.invariant.serving.grew_so c.in-Shown.ensures.grew_so)

pub loop-turn-preserved : goal.loop-turn-preserved
loop-turn-preserved c =
    let l = c.loop-turn in
    let r = c.in-Some.ensures in
    let e = c.in-Passed.ensures in record {
      serving = serving_more c.args.thread l._turn c.args.self.now c.args.trace.now c.args.port.now l.self l.trace l.port c.serve_note.new.self c.serve_note.new.trace c.drop_front.new.port c.in-Some.note r.0 l.invariant.serving r.1 (c.drop_front.ensures c.in-Some.note r.0 r.1) e.serves e.grew_so;
      hint = λ unset. absurd (true≢false unset);
    }

pub returns-in-Shown-clause-hint : goal.returns-in-Shown-clause-hint
returns-in-Shown-clause-hint c = λ unset.
    let l = c.loop-turn in
    let outcome : Served = served.Shown c.in-Shown.item in
    let shown : outcome ≢ served.Passed = (λ e. let no : served.Shown c.in-Shown.item ≡ served.Passed = e in absurd (cc)) in
    serves_owe c.args.thread c.in-Some.note (work l.self l.trace) (work c.serve_note.new.self c.serve_note.new.trace) outcome shown c.in-Shown.ensures.serves (l.invariant.hint unset)

pub returns-in-Lost-clause-hint : goal.returns-in-Lost-clause-hint
returns-in-Lost-clause-hint c = λ unset.
    let l = c.loop-turn in
    let lost : served.Lost ≢ served.Passed = (λ e. let no : served.Lost ≡ served.Passed = e in absurd (cc)) in
    serves_owe c.args.thread c.in-Some.note (work l.self l.trace) (work c.serve_note.new.self c.serve_note.new.trace) served.Lost lost c.in-Lost.ensures.serves (l.invariant.hint unset)
