use Rattle.std.proofs.Common.{◌≡◌, ℕ, refl, ap, sym, ◌∙◌, subst, arith}
use Rattle.lwkt_base.specs.declared.names.CpuId.{CpuId}
use Rattle.lwkt_base.specs.declared.message_words.MsgWord.{MsgWord}
use Rattle.lwkt_msg.specs.Views.{at}
use Rattle.lwkt_msg.specs.Hands.{IsOwn}
use Rattle.lwkt_msg.specs.Steps.{rest_word}
use Rattle.lwkt_msg.specs.Plays.{IsSat}
use Rattle.lwkt_msg.proofs.Moves.{never}
use Rattle.lwkt_msg.proofs.Calling.{only, own_is, round1, reap_ready, reap_done}
use Rattle.lwkt_msg.proofs.calls.reap.Goals as goal

pub returns-then-not-is_for_reaping-clause-sat : goal.returns-then-not-is_for_reaping-clause-sat
returns-then-not-is_for_reaping-clause-sat c = c.parts.ensures.sat c.args.cpu c.requires.sat

pub returns-then-not-is_for_reaping-clause-answer : goal.returns-then-not-is_for_reaping-clause-answer
returns-then-not-is_for_reaping-clause-answer c = record {
  found = c.parts.result.1;
  looked_at = only c.args.place.now c.parts.new.place c.args.cpu c.args.m c.parts.result.1 c.requires.sat c.parts.ensures.looked;
  why = λ h. never (c.if-not-is_for_reaping.ensures.1 h);
}

pub fetch-requires-clause-sat : goal.fetch-requires-clause-sat
fetch-requires-clause-sat c =
    let F : CpuId → Type 0 = λ x. IsSat x c.parts.new.place in
    subst F (sym (ap (λ (w : MsgWord). w.origin) c.rest.ensures)) (c.parts.ensures.sat c.args.cpu c.requires.sat)

pub fetch-requires-clause-back : goal.fetch-requires-clause-back
fetch-requires-clause-back c =
    let F : CpuId → Type 0 = λ x. IsOwn c.parts.new.place.me.0 x.0 c.args.m in
    let ready = reap_ready c.args.place.now c.parts.new.place c.args.cpu c.args.m c.parts.result.1 c.requires.sat c.parts.ensures.looked c.args.round c.requires.exists (c.if-not-is_for_reaping.ensures.0 refl) in
    (subst F (sym (ap (λ (w : MsgWord). w.origin) c.rest.ensures)) ready.0, ready.1, ready.2, ready.3, ready.4)

pub fetch-requires-clause-word : goal.fetch-requires-clause-word
fetch-requires-clause-word c =
    let is = c.if-not-is_for_reaping.ensures.0 refl in
    let own = own_is c.args.place.now c.parts.new.place c.args.cpu c.args.m c.parts.result.1 c.requires.sat c.parts.ensures.looked is.1 in
    let round_is = round1 c.args.place.now c.parts.new.place c.args.cpu c.args.m c.parts.result.1 c.requires.sat c.parts.ensures.looked own in
    let F : MsgWord → Type 0 = λ w. w ≡ rest_word w.origin (at c.parts.new.place.me.0 c.args.m).round in
    subst F (sym c.rest.ensures) (ap (λ (n : ℕ). rest_word c.args.cpu n) (sym (round_is ∙ is.2)))

pub fetch-requires-clause-fits : goal.fetch-requires-clause-fits
fetch-requires-clause-fits c =
    let is = c.if-not-is_for_reaping.ensures.0 refl in
    let own = own_is c.args.place.now c.parts.new.place c.args.cpu c.args.m c.parts.result.1 c.requires.sat c.parts.ensures.looked is.1 in
    let round_is = round1 c.args.place.now c.parts.new.place c.args.cpu c.args.m c.parts.result.1 c.requires.sat c.parts.ensures.looked own in
    let last = c.parts.ensures.looked.fits.2 in
    omega arith

pub returns-clause-answer : goal.returns-clause-answer
returns-clause-answer c =
    let is = c.if-not-is_for_reaping.ensures.0 refl in
    reap_done c.args.place.now c.parts.new.place c.args.cpu c.args.m c.parts.result.1 c.requires.sat c.parts.ensures.looked c.args.round c.rest.result c.fetch.result c.fetch.new.place.me.0 is c.rest.ensures c.fetch.ensures.view
