use Rattle.std.proofs.Common.{◌≡◌, ◌<◌, ◌∙◌, length, refl, sym, rules, vec_len}
use Rattle.lwkt_port.specs.Intakes.{Intake, EmptiesFrom, untaken}
use Rattle.lwkt_port.proofs.Chaining.{chain_none}
use Rattle.lwkt_port.proofs.Dispatching.{line_kept}
use Rattle.lwkt_port.proofs.HandMoves.{hands_put, out_none, found_none}
use Rattle.lwkt_port.proofs.Passing.{passes_more, fronted, found_kept}
use Rattle.lwkt_port.proofs.intakes.pass_empty.Goals as goal

pub loop-sender-init : goal.loop-sender-init
loop-sender-init c = record { passes = λ limit w ports. chain_none Intake (EmptiesFrom limit) (untaken w ports c.args.lanes.now.items); len = refl; named = λ n h. h; hands = λ h. h }

pub loop-sender-preserved : goal.loop-sender-preserved
loop-sender-preserved c =
    let l = c.loop-sender in
    let there : l.sender < length l.lanes.items = search rules in record {
      passes = λ limit w ports. passes_more limit l.sender w ports c.args.lanes.now.items l.lanes.items c.index_mut.result.now c.has_note.new.line there c.index_mut.ensures.value (c.has_note.ensures.none c.if-has_note.false) (l.invariant.passes limit w ports);
      len = l.invariant.len;
      named = λ n h. line_kept n l.lanes.items l.sender c.index_mut.result.now c.has_note.new.line there c.index_mut.ensures.value (c.has_note.ensures.none c.if-has_note.false).kept_same (l.invariant.named n h);
      hands = λ h. hands_put l.lanes.items l.sender c.index_mut.result.now c.has_note.new.line there c.index_mut.ensures.value (out_none c.index_mut.result.now c.has_note.new.line (c.has_note.ensures.none c.if-has_note.false).out_same) (l.invariant.hands h);
    }

pub returns-then-has_note-clause-some : goal.returns-then-has_note-clause-some
returns-then-has_note-clause-some c = λ limit w ports.
    let l = c.loop-sender in
    let there : l.sender < length l.lanes.items = search rules in
    let now : vec_len l.lanes ≡ length l.lanes.items = search rules in
    let before : vec_len c.args.lanes.now ≡ length c.args.lanes.now.items = search rules in
    fronted limit l.sender w ports c.args.lanes.now.items l.lanes.items c.index_mut.result.now c.has_note.new.line there c.index_mut.ensures.value (c.has_note.ensures.found c.if-has_note.true) (sym now ∙ l.invariant.len ∙ before) (l.invariant.passes limit w ports)

pub returns-then-has_note-clause-lines : goal.returns-then-has_note-clause-lines
returns-then-has_note-clause-lines c =
    let l = c.loop-sender in
    let there : l.sender < length l.lanes.items = search rules in record {
      as_many = l.invariant.len;
      named = λ n h. line_kept n l.lanes.items l.sender c.index_mut.result.now c.has_note.new.line there c.index_mut.ensures.value (found_kept c.index_mut.result.now c.has_note.new.line (c.has_note.ensures.found c.if-has_note.true)) (l.invariant.named n h);
      hands = λ h. hands_put l.lanes.items l.sender c.index_mut.result.now c.has_note.new.line there c.index_mut.ensures.value (found_none c.index_mut.result.now c.has_note.new.line (c.has_note.ensures.found c.if-has_note.true)) (l.invariant.hands h);
    }
