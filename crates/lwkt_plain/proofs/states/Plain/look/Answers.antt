use Rattle.std.proofs.Common.{◌≡◌, ◌<◌, ℕ, ap, sym, ◌∙◌, arith, rules, Option, Some, None}
use Rattle.lwkt_plain.specs.declared.states.Plain.{Plain}
use Rattle.lwkt_plain.specs.Letters.{handled}
use Rattle.lwkt_plain.specs.Places.{port_at, with_port, with_letter}
use Rattle.lwkt_plain.specs.Intakes.{looks, looked, first_note, handles, without_note, shown_by, notes_in}
use Rattle.lwkt_plain.proofs.Receipts.{looks_none, looks_some, looks_next, fewer_after}
use Rattle.lwkt_plain.proofs.states.Plain.look.Goals as goal

pub returns-in-Some-serve : goal.returns-in-Some-serve
returns-in-Some-serve c =
    let p = c.loop-note.self in
    let note = c.in-Some.note in
    let same : c.from.result ≡ c.args.k = search rules in
    let rest : c.take_note.new.self ≡ with_port without_note c.args.c c.args.k p =
    c.take_note.ensures.rest ∙ ap (λ (j : ℕ). with_port without_note c.args.c j p) same in
    let item = c.in-Some-serve.item in
    let first : first_note (port_at p c.args.c c.args.k) ≡ Some note = cc in
    let shown : shown_by c.args.c note p ≡ Some item =
    sym (ap (shown_by c.args.c note) rest) ∙ sym c.serve.ensures.shown ∙ c.in-Some-serve.is in
    let now : c.serve.new.self ≡ handles c.args.c c.args.k (Some c.args.k) note p =
    c.serve.ensures.handled ∙ ap (with_letter (handled c.args.c (Some c.args.k) note) note.msg.0) rest in
    sym c.loop-note.invariant ∙ looks_some c.args.c c.args.k p note item first shown ∙ ap (λ (q : Plain). looked q (Some item)) (sym now)

pub loop-note-smaller : goal.loop-note-smaller
loop-note-smaller c =
    let p = c.loop-note.self in
    let note = c.in-Some.note in
    let same : c.from.result ≡ c.args.k = search rules in
    let rest : c.take_note.new.self ≡ with_port without_note c.args.c c.args.k p =
    c.take_note.ensures.rest ∙ ap (λ (j : ℕ). with_port without_note c.args.c j p) same in
    let first : first_note (port_at p c.args.c c.args.k) ≡ Some note = cc in
    let now : c.serve.new.self ≡ handles c.args.c c.args.k (Some c.args.k) note p =
    c.serve.ensures.handled ∙ ap (with_letter (handled c.args.c (Some c.args.k) note) note.msg.0) rest in
    let fewer = fewer_after c.args.c c.args.k (Some c.args.k) p note first in
    let same = ap (λ (q : Plain). notes_in (port_at q c.args.c c.args.k)) now in
    omega (arith, fewer, same)

pub loop-note-preserved : goal.loop-note-preserved
loop-note-preserved c =
    let p = c.loop-note.self in
    let note = c.in-Some.note in
    let same : c.from.result ≡ c.args.k = search rules in
    let rest : c.take_note.new.self ≡ with_port without_note c.args.c c.args.k p =
    c.take_note.ensures.rest ∙ ap (λ (j : ℕ). with_port without_note c.args.c j p) same in
    let first : first_note (port_at p c.args.c c.args.k) ≡ Some note = cc in
    let none : shown_by c.args.c note p ≡ None =
    sym (ap (shown_by c.args.c note) rest) ∙ sym c.serve.ensures.shown ∙ c.in-None.is in
    let now : c.serve.new.self ≡ handles c.args.c c.args.k (Some c.args.k) note p =
    c.serve.ensures.handled ∙ ap (with_letter (handled c.args.c (Some c.args.k) note) note.msg.0) rest in
    ap (looks c.args.c c.args.k) now ∙ sym (looks_next c.args.c c.args.k p note first none) ∙ c.loop-note.invariant

pub returns : goal.returns
returns c =
    let p = c.loop-note.self in
    let none : first_note (port_at p c.args.c c.args.k) ≡ None = cc in
    let stays : c.take_note.new.self ≡ p = search rules in
    sym c.loop-note.invariant ∙ looks_none c.args.c c.args.k p none ∙ ap (λ (q : Plain). looked q None) (sym stays)
