use Rattle.std.proofs.Common.{ℕ, subst, ◌-◌, ◌≤◌, List, length, drop, sym, ap, ◌∙◌, arith, length-drop}
use Rattle.std.proofs.lemmas.List.{take_all}
use Rattle.lwkt_core.specs.declared.events.Event.{Event}
use Rattle.lwkt_core.specs.Machine.{Machine}
use Rattle.lwkt_verdict.specs.TurnParts.{after_all, GoesQuietly}
use Rattle.lwkt_verdict.proofs.PartMoves.{after_cut, cut_back, is_unblocked}
use Rattle.lwkt_verdict.proofs.turn_parts.goes_by_ask.Goals as goal

pub returns-then-goes_quietly-clause-moved : goal.returns-then-goes_quietly-clause-moved
returns-then-goes_quietly-clause-moved c = λ yes.
    let part = c.args.part.now in
    let place = c.own_place-place.result in
    let short : length (drop place part) ≤ length part - place = simp length-drop (omega arith) in
    c.goes_from.ensures.moved yes ∙ ap (λ (es : List Event). after_all c.goes_quietly.new.state es) (take_all (length part - place) (drop place part) short) ∙ ap (λ (k : Machine). after_all k (drop place part)) (c.goes_quietly.ensures.moved c.if-goes_quietly.true) ∙ sym (after_cut c.args.state.now part place)

pub returns-then-goes_quietly-clause-unblocked : goal.returns-then-goes_quietly-clause-unblocked
returns-then-goes_quietly-clause-unblocked c = λ yes refused.
    let part = c.args.part.now in
    let place = c.own_place-place.result in
    let m = c.goes_quietly.new.state in
    let unmade = c.goes_from.ensures.unmade yes refused in
    let Q : List Event → Type 0 = λ es. GoesQuietly m es in
    let P : ℕ → Type 0 = λ n. GoesQuietly m (drop n part) in
    is_unblocked m c.args.ask.now part unmade.0 (subst P c.own_place-place.ensures.place (subst Q (cut_back part place) unmade.1))
