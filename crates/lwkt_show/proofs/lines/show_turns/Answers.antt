use Rattle.std.proofs.Common.{◌≤◌, ℕ, List, None, get_or, length, subst, sym}
use Rattle.std.proofs.lemmas.List.{drop_all}
use Rattle.std.specs.Option.{option_copied}
use Rattle.lwkt_verdict.specs.declared.turns.Turn.{Turn}
use Rattle.lwkt_verdict.specs.Run.{poll_of}
use Rattle.lwkt_show.specs.Lines.{is_shown, round_of, processor_of_turn, IsLineIfShown, AreLines, AddsWords}
use Rattle.lwkt_show.proofs.Rows.{no_lines, one_more, shown_as}
use Rattle.lwkt_show.proofs.lines.show_turns.Goals as goal

pub loop-number-preserved : goal.loop-number-preserved
loop-number-preserved c =
    let turn : Turn = record { poll = None; events = 0 } in
    let cpus : ℕ = c.args.run.now.script.now.cpus in
    let n : ℕ = c.loop-number.number in
    let shows : AddsWords (IsLineIfShown (option_copied c.args.names) (is_shown c.args.chosen.first c.args.chosen.last n) n (round_of (option_copied c.args.run.now.order) cpus n) (processor_of_turn (option_copied c.args.run.now.order) cpus n) (poll_of c.args.run.now.polls.now (get_or c.args.run.now.turns.now n turn))) c.loop-number.out c.show_one.new.out =
    shown_as (option_copied c.args.names) c.is_shown.result (is_shown c.args.chosen.first c.args.chosen.last n) c.scene_of-scene.result.number n c.scene_of-scene.result.round (round_of (option_copied c.args.run.now.order) cpus n) c.scene_of-scene.result.cpu (processor_of_turn (option_copied c.args.run.now.order) cpus n) c.scene_of-scene.result.poll (poll_of c.args.run.now.polls.now (get_or c.args.run.now.turns.now n turn)) c.loop-number.out c.show_one.new.out
    c.is_shown.ensures c.scene_of-scene.ensures.number c.scene_of-scene.ensures.round c.scene_of-scene.ensures.cpu c.scene_of-scene.ensures.poll c.show_one.ensures in
    λ final rest. c.loop-number.invariant final (one_more (option_copied c.args.names) c.args.chosen.first c.args.chosen.last (option_copied c.args.run.now.order) cpus c.args.run.now.polls.now n turn c.args.run.now.turns.now c.loop-number.out c.show_one.new.out final c.loop-number-test.true shows rest)

pub returns : goal.returns
returns c =
    let past : length c.args.run.now.turns.now ≤ c.loop-number.number = c.loop-number-test.false in
    let Lines : List Turn → Type 0 = λ turns. AddsWords (AreLines (option_copied c.args.names) c.args.chosen.first c.args.chosen.last (option_copied c.args.run.now.order) c.args.run.now.script.now.cpus c.args.run.now.polls.now c.loop-number.number turns) c.loop-number.out c.loop-number.out in
    c.loop-number.invariant c.loop-number.out
    (subst Lines (sym (drop_all c.loop-number.number c.args.run.now.turns.now past))
    (no_lines (option_copied c.args.names) c.args.chosen.first c.args.chosen.last (option_copied c.args.run.now.order) c.args.run.now.script.now.cpus c.args.run.now.polls.now c.loop-number.number c.loop-number.out))
