use Rattle.std.proofs.Common.{◌≡◌, ◌+◌, ℕ, refl, ap, sym, subst, arith}
use Rattle.lwkt_base.specs.declared.names.CpuId.{CpuId}
use Rattle.lwkt_base.specs.declared.message_words.MsgWord.{MsgWord}
use Rattle.lwkt_msg.specs.declared.views.View.{View}
use Rattle.lwkt_msg.specs.Views.{at, flags_of}
use Rattle.lwkt_msg.specs.Hands.{IsOwn}
use Rattle.lwkt_msg.specs.Steps.{sent_word}
use Rattle.lwkt_msg.specs.Plays.{IsSat}
use Rattle.lwkt_msg.proofs.Moves.{never}
use Rattle.lwkt_msg.proofs.Calling.{unsent_not_home, unsent_last, send_home, round1, own_is, home_held, send_done}
use Rattle.lwkt_msg.proofs.calls.send.Goals as goal

pub returns-then-not-is_home-clause-sat : goal.returns-then-not-is_home-clause-sat
returns-then-not-is_home-clause-sat c = c.parts.ensures.sat c.args.cpu c.requires.sat

pub returns-then-not-is_home-clause-answer : goal.returns-then-not-is_home-clause-answer
returns-then-not-is_home-clause-answer c =
    unsent_not_home c.args.place.now c.parts.new.place c.args.cpu c.args.m c.parts.result.1 c.requires.sat c.parts.ensures.looked (λ h. never (c.if-not-is_home.ensures.1 h))

pub returns-then-word-eq-LAST_ROUND-clause-sat : goal.returns-then-word-eq-LAST_ROUND-clause-sat
returns-then-word-eq-LAST_ROUND-clause-sat c = c.parts.ensures.sat c.args.cpu c.requires.sat

pub returns-then-word-eq-LAST_ROUND-clause-answer : goal.returns-then-word-eq-LAST_ROUND-clause-answer
returns-then-word-eq-LAST_ROUND-clause-answer c =
    unsent_last c.args.place.now c.parts.new.place c.args.cpu c.args.m c.parts.result.1 c.requires.sat c.parts.ensures.looked (c.if-not-is_home.ensures.0 refl) c.if-word-eq-LAST_ROUND.true

pub put-requires-clause-sat : goal.put-requires-clause-sat
put-requires-clause-sat c =
    let F : CpuId → Type 0 = λ x. IsSat x c.parts.new.place in
    subst F (sym (ap (λ (w : MsgWord). w.origin) c.outgoing.ensures)) (c.parts.ensures.sat c.args.cpu c.requires.sat)

pub put-requires-clause-home : goal.put-requires-clause-home
put-requires-clause-home c =
    let F : CpuId → Type 0 = λ x. IsOwn c.parts.new.place.me.0 x.0 c.args.m in
    let home = send_home c.args.place.now c.parts.new.place c.args.cpu c.args.m c.parts.result.1 c.requires.sat c.parts.ensures.looked c.requires.exists (c.if-not-is_home.ensures.0 refl) in
    (subst F (sym (ap (λ (w : MsgWord). w.origin) c.outgoing.ensures)) home.0, home.1, home.2, home.3)

pub put-requires-clause-held : goal.put-requires-clause-held
put-requires-clause-held c = home_held c.args.place.now c.parts.new.place c.args.cpu c.args.m c.parts.result.1 c.requires.sat c.parts.ensures.looked c.requires.exists (c.if-not-is_home.ensures.0 refl)

pub put-requires-clause-word : goal.put-requires-clause-word
put-requires-clause-word c =
    let own = own_is c.args.place.now c.parts.new.place c.args.cpu c.args.m c.parts.result.1 c.requires.sat c.parts.ensures.looked (c.if-not-is_home.ensures.0 refl).1 in
    let round_is : (at c.parts.new.place.me.0 c.args.m).round ≡ c.parts.result.1.round = round1 c.args.place.now c.parts.new.place c.args.cpu c.args.m c.parts.result.1 c.requires.sat c.parts.ensures.looked own in
    let F : MsgWord → Type 0 = λ w. w ≡ sent_word w.origin w.target ((at c.parts.new.place.me.0 c.args.m).round + 1) w.sync (flags_of w) in
    subst F (sym c.outgoing.ensures) (ap (λ (n : ℕ). sent_word c.args.cpu c.args.sending.now.target (n + 1) c.args.sending.now.sync c.args.sending.now.flags) (sym round_is))

pub put-requires-clause-fits : goal.put-requires-clause-fits
put-requires-clause-fits c =
    let own = own_is c.args.place.now c.parts.new.place c.args.cpu c.args.m c.parts.result.1 c.requires.sat c.parts.ensures.looked (c.if-not-is_home.ensures.0 refl).1 in
    let round_is : (at c.parts.new.place.me.0 c.args.m).round ≡ c.parts.result.1.round = round1 c.args.place.now c.parts.new.place c.args.cpu c.args.m c.parts.result.1 c.requires.sat c.parts.ensures.looked own in
    let last = c.parts.ensures.looked.fits.2 in
    let not_last = c.if-word-eq-LAST_ROUND.false in
    let target_is : c.outgoing.result.target.0 ≡ c.args.sending.now.target.0 = ap (λ (w : MsgWord). w.target.0) c.outgoing.ensures in
    let cpus_is : c.parts.new.place.me.0.cpus ≡ c.args.place.now.me.0.cpus = ap (λ (v : View). v.cpus) c.parts.ensures.looked.view_is.1.1 in
    let there = c.requires.target in
    (omega arith, omega arith)

pub returns-clause-answer : goal.returns-clause-answer
returns-clause-answer c =
    let last = c.parts.ensures.looked.fits.2 in
    let not_last = c.if-word-eq-LAST_ROUND.false in
    send_done c.args.place.now c.parts.new.place c.args.cpu c.args.m c.parts.result.1 c.requires.sat c.parts.ensures.looked c.args.sending.now.target c.args.sending.now.call c.args.sending.now.flags c.args.sending.now.sync c.outgoing.result c.written.result c.put.new.place.me.0
    (c.if-not-is_home.ensures.0 refl) (omega arith) c.outgoing.ensures c.written.ensures.is c.put.ensures.view
