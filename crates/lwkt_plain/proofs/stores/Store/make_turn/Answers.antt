use Rattle.std.proofs.Common.{ap, subst, sym, ◌∙◌}
use Rattle.lwkt_plain.proofs.Alikes.{form_sound}
use Rattle.lwkt_plain.specs.Forms.{form}
use Rattle.lwkt_plain.specs.Sound.{IsSound}
use Rattle.lwkt_plain.proofs.StoreMoves.{store_working}
use Rattle.lwkt_plain.proofs.stores.Store.make_turn.Goals as goal

pub returns-clause-base : goal.returns-clause-base
returns-clause-base c =
    let sound : IsSound c.become_form.new.self = subst IsSound (sym c.become_form.ensures) (form_sound c.turn.new.self c.in_ok-turn.ensures.sound) in
    store_working c.args.script.now c.args.self.now c.become_form.new.self c.args.cpu c.requires.store sound (c.become_form.ensures ∙ ap form c.in_ok-turn.ensures.exact) (c.has_counts.ensures.tokens c.if-not-has_counts.false) (c.has_counts.ensures.letters c.if-not-has_counts.false) (c.has_counts.ensures.mails c.if-not-has_counts.false) (c.has_counts.ensures.cpus c.if-not-has_counts.false)
