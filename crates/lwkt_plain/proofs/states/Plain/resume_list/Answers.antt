use Rattle.std.proofs.Common.{◌≡◌, length, ap, sym, ◌∙◌, subst}
use Rattle.lwkt_plain.specs.Sound.{IsSoundList}
use Rattle.lwkt_plain.specs.Tokens.{resume}
use Rattle.lwkt_plain.specs.Turns.{list_at}
use Rattle.lwkt_plain.proofs.Soundness.{list_got, list_fits}
use Rattle.lwkt_plain.proofs.states.Plain.resume_list.Goals as goal

pub resume-requires-clause-fits : goal.resume-requires-clause-fits
resume-requires-clause-fits c =
    let p = c.args.self.now in
    let e : list_at p c.args.c c.args.k ≡ c.refs.result.now =
    list_got p c.args.c c.args.k c.part-cpu.result.now c.part-thread.result.now c.part-cpu.ensures c.part-thread.ensures ∙ sym c.refs.ensures.value in
    subst (IsSoundList (length p.tokens)) e (list_fits p c.args.c c.args.k c.requires.sound c.requires.here c.requires.there)

pub returns-clause-tried : goal.returns-clause-tried
returns-clause-tried c =
    let p = c.args.self.now in
    let e : list_at p c.args.c c.args.k ≡ c.refs.result.now =
    list_got p c.args.c c.args.k c.part-cpu.result.now c.part-thread.result.now c.part-cpu.ensures c.part-thread.ensures ∙ sym c.refs.ensures.value in
    c.resume.ensures ∙ ap (resume (record { 0 = c.args.c }) p.tokens) (sym e)
