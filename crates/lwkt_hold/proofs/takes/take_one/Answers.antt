use Rattle.std.proofs.Common.{true, false, refl, ap, sym, ◌∙◌, [], ◌∷◌, get_or}
use Rattle.lwkt_bank.specs.Views.{load, exchange, more, taken}
use Rattle.lwkt_bank.specs.Deeds.{loads, takes, adds_one}
use Rattle.lwkt_hold.proofs.RunMoves.{changed_steps}
use Rattle.lwkt_bank.specs.Seats.{entry}
use Rattle.std.proofs.lemmas.Bool.{false≢true}
use Rattle.lwkt_base.specs.Holding.{is_held}
use Rattle.lwkt_hold.proofs.ListMoves.{takes_changed, looked_rows, lost_rows}
use Rattle.lwkt_hold.proofs.StillMoves.{looked_same, lost_same}
use Rattle.lwkt_hold.proofs.EventMoves.{again_traced, first_traced}
use Rattle.lwkt_hold.specs.Fronts.{IsFront}
use Rattle.lwkt_core.specs.Takings.{taking}
use Rattle.lwkt_hold.specs.declared.answers.Missed.TheVariants.{Busy, Again, Worn}
use Rattle.lwkt_hold.proofs.TakeMoves.{unused, front_names, held_in_front, free_in_front, few_in_front, again_holds, again_ran, took_holds, took_ran, looked_ran, looked_kept, lost_ran, lost_kept, misses}
use Rattle.lwkt_hold.proofs.takes.take_one.Goals as goal

pub again-requires-clause-held : goal.again-requires-clause-held
again-requires-clause-held c = held_in_front c.args.seat.now c.args.refs.now c.args.at (get_or c.args.refs.now c.args.at unused).tok.0 c.requires.front (front_names c.args.seat.now c.args.refs.now c.args.at (get_or c.args.refs.now c.args.at unused).tok.0 c.held.result c.is_held.result true c.requires.front c.held.ensures c.is_held.ensures c.if-is_held.true)

pub again-requires-clause-few : goal.again-requires-clause-few
again-requires-clause-few c = few_in_front c.args.seat.now c.args.refs.now c.args.at c.requires.front c.requires.within c.requires.short

pub returns-then-is_held-clause-ran : goal.returns-then-is_held-clause-ran
returns-then-is_held-clause-ran c = again_ran c.args.seat.now c.again.new.self c.args.refs.now c.args.at unused c.cpu-cpu.result c.args.trace.now c.note_again.new.trace c.requires.within c.requires.front (front_names c.args.seat.now c.args.refs.now c.args.at (get_or c.args.refs.now c.args.at unused).tok.0 c.held.result c.is_held.result true c.requires.front c.held.ensures c.is_held.ensures c.if-is_held.true) c.again.ensures c.cpu-cpu.ensures.is c.note_again.ensures.items c.note_again.ensures.longer c.note_again.ensures.room

pub returns-then-is_held-clause-taken : goal.returns-then-is_held-clause-taken
returns-then-is_held-clause-taken c = (again_holds c.args.seat.now c.again.new.self c.args.refs.now c.args.at unused c.requires.within c.requires.front (front_names c.args.seat.now c.args.refs.now c.args.at (get_or c.args.refs.now c.args.at unused).tok.0 c.held.result c.is_held.result true c.requires.front c.held.ensures c.is_held.ensures c.if-is_held.true) c.again.ensures).1

pub try_take-requires-clause-free : goal.try_take-requires-clause-free
try_take-requires-clause-free c = free_in_front c.args.seat.now c.args.refs.now c.args.at (get_or c.args.refs.now c.args.at unused).tok.0 c.requires.front (front_names c.args.seat.now c.args.refs.now c.args.at (get_or c.args.refs.now c.args.at unused).tok.0 c.held.result c.is_held.result false c.requires.front c.held.ensures c.is_held.ensures c.if-is_held.false)

pub try_take-requires-clause-few : goal.try_take-requires-clause-few
try_take-requires-clause-few c = few_in_front c.args.seat.now c.args.refs.now c.args.at c.requires.front c.requires.within c.requires.short

pub returns-in-Got-clause-ran : goal.returns-in-Got-clause-ran
returns-in-Got-clause-ran c = took_ran c.args.seat.now c.try_take.new.self c.args.refs.now c.args.at unused c.has_only-alone.result c.in-Got.generation c.cpu-cpu.result (taking c.cpu-cpu.result (get_or c.args.refs.now c.args.at unused).tok (get_or c.args.refs.now c.args.at unused).mode) c.args.trace.now c.note_taken.new.trace c.requires.within c.requires.front (front_names c.args.seat.now c.args.refs.now c.args.at (get_or c.args.refs.now c.args.at unused).tok.0 c.held.result c.is_held.result false c.requires.front c.held.ensures c.is_held.ensures c.if-is_held.false) c.in-Got.ensures c.cpu-cpu.ensures.is refl c.note_taken.ensures.items c.note_taken.ensures.longer c.note_taken.ensures.room

pub returns-in-Got-clause-taken : goal.returns-in-Got-clause-taken
returns-in-Got-clause-taken c = (took_holds c.args.seat.now c.try_take.new.self c.args.refs.now c.args.at unused c.has_only-alone.result c.in-Got.generation c.requires.within c.requires.front (front_names c.args.seat.now c.args.refs.now c.args.at (get_or c.args.refs.now c.args.at unused).tok.0 c.held.result c.is_held.result false c.requires.front c.held.ensures c.is_held.ensures c.if-is_held.false) c.in-Got.ensures).1

pub returns-in-Busy-clause-ran : goal.returns-in-Busy-clause-ran
returns-in-Busy-clause-ran c = looked_ran (IsFront c.args.refs.now) c.args.seat.now c.try_take.new.self (get_or c.args.refs.now c.args.at unused).tok.0 c.in-Busy.word c.args.trace.now c.in-Busy.ensures.1

pub returns-in-Busy-clause-kept : goal.returns-in-Busy-clause-kept
returns-in-Busy-clause-kept c = looked_kept c.args.seat.now c.try_take.new.self (get_or c.args.refs.now c.args.at unused).tok.0 c.in-Busy.word c.in-Busy.ensures.1

pub returns-in-Busy-clause-missed : goal.returns-in-Busy-clause-missed
returns-in-Busy-clause-missed c = misses c.args.seat.now c.try_take.new.self c.args.refs.now c.args.at unused c.has_only-alone.result (Busy c.in-Busy.word) (load (get_or c.args.refs.now c.args.at unused).tok.0 c.in-Busy.word ∷ []) c.requires.within c.has_only-alone.ensures (front_names c.args.seat.now c.args.refs.now c.args.at (get_or c.args.refs.now c.args.at unused).tok.0 c.held.result c.is_held.result false c.requires.front c.held.ensures c.is_held.ensures c.if-is_held.false) (changed_steps c.args.seat.now c.try_take.new.self (get_or c.args.refs.now c.args.at unused).tok.0 _ _ c.in-Busy.ensures.1.changes) (c.in-Busy.ensures.0, refl)

pub returns-in-Again-clause-ran : goal.returns-in-Again-clause-ran
returns-in-Again-clause-ran c = lost_ran (IsFront c.args.refs.now) c.args.seat.now c.try_take.new.self (get_or c.args.refs.now c.args.at unused).tok.0 (get_or c.args.refs.now c.args.at unused).mode c.has_only-alone.result c.args.trace.now c.in-Again.ensures

pub returns-in-Again-clause-kept : goal.returns-in-Again-clause-kept
returns-in-Again-clause-kept c = lost_kept c.args.seat.now c.try_take.new.self (get_or c.args.refs.now c.args.at unused).tok.0 (get_or c.args.refs.now c.args.at unused).mode c.has_only-alone.result c.in-Again.ensures

pub returns-in-Again-clause-missed : goal.returns-in-Again-clause-missed
returns-in-Again-clause-missed c =
    let l = c.in-Again.ensures in
    let r = get_or c.args.refs.now c.args.at unused in
    misses c.args.seat.now c.try_take.new.self c.args.refs.now c.args.at unused c.has_only-alone.result Again (load r.tok.0 l.word ∷ exchange r.tok.0 l.word l.next l.found ∷ []) c.requires.within c.has_only-alone.ensures (front_names c.args.seat.now c.args.refs.now c.args.at (get_or c.args.refs.now c.args.at unused).tok.0 c.held.result c.is_held.result false c.requires.front c.held.ensures c.is_held.ensures c.if-is_held.false) (changed_steps c.args.seat.now c.try_take.new.self r.tok.0 _ _ l.changes) (l.word, l.next, l.found, (l.decided, l.other, refl))

pub returns-in-Worn-clause-ran : goal.returns-in-Worn-clause-ran
returns-in-Worn-clause-ran c = looked_ran (IsFront c.args.refs.now) c.args.seat.now c.try_take.new.self (get_or c.args.refs.now c.args.at unused).tok.0 c.in-Worn.ensures.0 c.args.trace.now c.in-Worn.ensures.1.1

pub returns-in-Worn-clause-kept : goal.returns-in-Worn-clause-kept
returns-in-Worn-clause-kept c = looked_kept c.args.seat.now c.try_take.new.self (get_or c.args.refs.now c.args.at unused).tok.0 c.in-Worn.ensures.0 c.in-Worn.ensures.1.1

pub returns-in-Worn-clause-missed : goal.returns-in-Worn-clause-missed
returns-in-Worn-clause-missed c = misses c.args.seat.now c.try_take.new.self c.args.refs.now c.args.at unused c.has_only-alone.result Worn (load (get_or c.args.refs.now c.args.at unused).tok.0 c.in-Worn.ensures.0 ∷ []) c.requires.within c.has_only-alone.ensures (front_names c.args.seat.now c.args.refs.now c.args.at (get_or c.args.refs.now c.args.at unused).tok.0 c.held.result c.is_held.result false c.requires.front c.held.ensures c.is_held.ensures c.if-is_held.false) (changed_steps c.args.seat.now c.try_take.new.self (get_or c.args.refs.now c.args.at unused).tok.0 _ _ c.in-Worn.ensures.1.1.changes) (c.in-Worn.ensures.0, (c.in-Worn.ensures.1.0, refl))

pub returns-then-is_held-clause-rows : goal.returns-then-is_held-clause-rows
returns-then-is_held-clause-rows c =
    let s = c.args.seat.now in
    let tok = (get_or c.args.refs.now c.args.at unused).tok.0 in
    let held = held_in_front s c.args.refs.now c.args.at tok c.requires.front (front_names c.args.seat.now c.args.refs.now c.args.at (get_or c.args.refs.now c.args.at unused).tok.0 c.held.result c.is_held.result true c.requires.front c.held.ensures c.is_held.ensures c.if-is_held.true) in
    takes_changed s c.again.new.self tok (more (entry s tok)) (adds_one s.cpu tok c.again.ensures.found ∷ []) c.again.ensures.changes (λ was. record { row_is = refl; first_is = refl; blob_is = refl; first_blob_is = refl }) (λ free now. absurd (false≢true (sym free ∙ held)))

pub returns-in-Got-clause-rows : goal.returns-in-Got-clause-rows
returns-in-Got-clause-rows c =
    let s = c.args.seat.now in
    let r = get_or c.args.refs.now c.args.at unused in
    let took = c.in-Got.ensures in
    let free = free_in_front s c.args.refs.now c.args.at r.tok.0 c.requires.front (front_names c.args.seat.now c.args.refs.now c.args.at (get_or c.args.refs.now c.args.at unused).tok.0 c.held.result c.is_held.result false c.requires.front c.held.ensures c.is_held.ensures c.if-is_held.false) in
    takes_changed s c.try_take.new.self r.tok.0 (taken (entry s r.tok.0) took.word r.mode took.row took.blob) (loads s.cpu r.tok.0 took.word ∷ takes s.cpu r.tok.0 r.mode took.word took.next took.word ∷ []) took.changes (λ held. absurd (false≢true (sym (ap is_held free) ∙ held))) (λ none held. (refl, refl))

pub returns-in-Busy-clause-rows : goal.returns-in-Busy-clause-rows
returns-in-Busy-clause-rows c =
    let tok = (get_or c.args.refs.now c.args.at unused).tok.0 in
    let free = free_in_front c.args.seat.now c.args.refs.now c.args.at tok c.requires.front (front_names c.args.seat.now c.args.refs.now c.args.at (get_or c.args.refs.now c.args.at unused).tok.0 c.held.result c.is_held.result false c.requires.front c.held.ensures c.is_held.ensures c.if-is_held.false) in
    looked_rows c.args.seat.now c.try_take.new.self tok c.in-Busy.word free c.in-Busy.ensures.1

pub returns-in-Again-clause-rows : goal.returns-in-Again-clause-rows
returns-in-Again-clause-rows c =
    let r = get_or c.args.refs.now c.args.at unused in
    let free = free_in_front c.args.seat.now c.args.refs.now c.args.at r.tok.0 c.requires.front (front_names c.args.seat.now c.args.refs.now c.args.at (get_or c.args.refs.now c.args.at unused).tok.0 c.held.result c.is_held.result false c.requires.front c.held.ensures c.is_held.ensures c.if-is_held.false) in
    lost_rows c.args.seat.now c.try_take.new.self r.tok.0 r.mode c.has_only-alone.result free c.in-Again.ensures

pub returns-in-Worn-clause-rows : goal.returns-in-Worn-clause-rows
returns-in-Worn-clause-rows c =
    let tok = (get_or c.args.refs.now c.args.at unused).tok.0 in
    let free = free_in_front c.args.seat.now c.args.refs.now c.args.at tok c.requires.front (front_names c.args.seat.now c.args.refs.now c.args.at (get_or c.args.refs.now c.args.at unused).tok.0 c.held.result c.is_held.result false c.requires.front c.held.ensures c.is_held.ensures c.if-is_held.false) in
    looked_rows c.args.seat.now c.try_take.new.self tok c.in-Worn.ensures.0 free c.in-Worn.ensures.1.1

pub returns-then-is_held-clause-traced : goal.returns-then-is_held-clause-traced
returns-then-is_held-clause-traced c = again_traced c.args.refs.now c.args.at unused c.args.seat.now.cpu c.cpu-cpu.result c.args.trace.now c.note_again.new.trace c.requires.within (front_names c.args.seat.now c.args.refs.now c.args.at (get_or c.args.refs.now c.args.at unused).tok.0 c.held.result c.is_held.result true c.requires.front c.held.ensures c.is_held.ensures c.if-is_held.true) c.cpu-cpu.ensures.is c.note_again.ensures.items

pub returns-in-Got-clause-traced : goal.returns-in-Got-clause-traced
returns-in-Got-clause-traced c = first_traced c.args.refs.now c.args.at unused c.args.seat.now.cpu c.cpu-cpu.result (taking c.cpu-cpu.result (get_or c.args.refs.now c.args.at unused).tok (get_or c.args.refs.now c.args.at unused).mode) c.args.trace.now c.note_taken.new.trace c.requires.within (front_names c.args.seat.now c.args.refs.now c.args.at (get_or c.args.refs.now c.args.at unused).tok.0 c.held.result c.is_held.result false c.requires.front c.held.ensures c.is_held.ensures c.if-is_held.false) c.cpu-cpu.ensures.is refl c.note_taken.ensures.items

pub returns-in-Busy-clause-same : goal.returns-in-Busy-clause-same
returns-in-Busy-clause-same c = looked_same c.args.seat.now c.try_take.new.self (get_or c.args.refs.now c.args.at unused).tok.0 c.in-Busy.word c.in-Busy.ensures.1

pub returns-in-Again-clause-same : goal.returns-in-Again-clause-same
returns-in-Again-clause-same c = lost_same c.args.seat.now c.try_take.new.self (get_or c.args.refs.now c.args.at unused).tok.0 (get_or c.args.refs.now c.args.at unused).mode c.has_only-alone.result c.in-Again.ensures

pub returns-in-Worn-clause-same : goal.returns-in-Worn-clause-same
returns-in-Worn-clause-same c = looked_same c.args.seat.now c.try_take.new.self (get_or c.args.refs.now c.args.at unused).tok.0 c.in-Worn.ensures.0 c.in-Worn.ensures.1.1
