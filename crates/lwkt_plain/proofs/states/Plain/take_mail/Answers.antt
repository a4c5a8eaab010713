use Rattle.std.proofs.Common.{◌≡◌, ◌≤◌, sym, ◌∙◌, ap}
use Rattle.lwkt_plain.specs.Intakes.{moves_on, pays_all, receives_all, clears_all, wakes_all}
use Rattle.lwkt_plain.specs.Sound.{frame}
use Rattle.lwkt_plain.proofs.Frames.{moves_on_frame, pays_all_frame, receives_all_frame, clears_all_frame, takes_mail_frame, sound_by, few_letters, few_threads}
use Rattle.lwkt_plain.proofs.states.Plain.take_mail.Goals as goal

pub pay_all-requires : goal.pay_all-requires
pay_all-requires c =
    let p = c.args.self.now in
    let e : c.move_on.new.self ≡ moves_on c.args.c p = c.in_ok-move_on.ensures in
    few_letters c.move_on.new.self (sound_by p c.move_on.new.self (ap frame e ∙ moves_on_frame c.args.c p) c.requires)

pub wake_all-requires : goal.wake_all-requires
wake_all-requires c =
    let p = c.args.self.now in
    let m = moves_on c.args.c p in
    let y = pays_all c.args.c m in
    let r = receives_all c.args.c y in
    let e : c.clear_all.new.self ≡ clears_all c.args.c r =
    c.clear_all.ensures
    ∙ ap (clears_all c.args.c) (c.in_ok-receive_all.ensures ∙ ap (receives_all c.args.c) (c.in_ok-pay_all.ensures ∙ ap (pays_all c.args.c) c.in_ok-move_on.ensures)) in
    few_threads c.clear_all.new.self c.args.c
    (sound_by p c.clear_all.new.self
    (ap frame e ∙ clears_all_frame c.args.c r ∙ receives_all_frame c.args.c y ∙ pays_all_frame c.args.c m ∙ moves_on_frame c.args.c p) c.requires)

pub returns-clause-exact : goal.returns-clause-exact
returns-clause-exact c =
    c.wake_all.ensures
    ∙ ap (wakes_all c.args.c) (c.clear_all.ensures
    ∙ ap (clears_all c.args.c) (c.in_ok-receive_all.ensures ∙ ap (receives_all c.args.c) (c.in_ok-pay_all.ensures ∙ ap (pays_all c.args.c) c.in_ok-move_on.ensures)))

pub returns-clause-sound : goal.returns-clause-sound
returns-clause-sound c =
    let p = c.args.self.now in
    sound_by p c.wake_all.new.self (ap frame (returns-clause-exact c) ∙ takes_mail_frame c.args.c p) c.requires
