use Rattle.std.proofs.Common.{◌≡◌, ◌∙◌, ◌<◌, ℕ, List, length, set, ap, refl, sym, rules, arith}
use Rattle.std.proofs.lemmas.List.{get_or_default}
use Rattle.std.specs.Prelude.{slice_index_or}
use Rattle.lwkt_msg.specs.Desks.{desk_cpu}
use Rattle.lwkt_port.specs.declared.mails.Mail.{Mail}
use Rattle.lwkt_port.specs.Mails.{no_kept_mail, kept_mail_at}
use Rattle.lwkt_port.specs.Withdrawals.{dropped_mail}
use Rattle.lwkt_port.proofs.Withdrawing.{dropped_keeps, untouched_keeps, untouched_for, there_of}
use Rattle.lwkt_port.proofs.Growing.{grew_none, grew_few}
use Rattle.lwkt_port.proofs.mailrooms.Mailroom.withdraw.Goals as goal

-- what is kept of a message was changed at its place, which has its number
dropped_at : (mails : List Mail) (j m : ℕ) (mail : Mail) → j < length mails → mail ≡ slice_index_or mails j mail → j ≡ m → set mails j (dropped_mail mail) ≡ set mails m (dropped_mail (kept_mail_at mails m))
dropped_at mails j m mail there was same =
    let is : mail ≡ kept_mail_at mails j = was ∙ sym (get_or_default mails j no_kept_mail mail there) in
    ap (λ x. set mails j (dropped_mail x)) is ∙ ap (λ k. set mails k (dropped_mail (kept_mail_at mails k))) same

pub invariant_of-self : goal.invariant_of-self
invariant_of-self c =
    let r = c.args.self.now in
    let there : c.args.msg.0 < length r.mails.items = search rules in
    let m : ℕ = c.from-m.result in
    let mail : Mail = c.index_mut.result.now in
    let mails : List Mail = set r.mails.items m (dropped_mail mail) in
    let same : m ≡ c.args.msg.0 = search rules in
    let is = dropped_at r.mails.items m c.args.msg.0 mail (rw same there) c.index_mut.ensures.value same in
    record { kept = dropped_keeps r.seat c.drop_msg.new.self r.mails.items mails c.args.msg c.in-Ok.rec c.in-Ok.ensures.seat c.in-Ok.ensures.answer.1 is there r.kept }

pub returns-in-Err-clause-refused : goal.returns-in-Err-clause-refused
returns-in-Err-clause-refused c =
    let r = c.args.self.now in
    let there : c.args.msg.0 < length r.mails.items = search rules in
    let why = there_of c.in-Err.fault r.seat c.drop_msg.new.self r.mails.items c.args.msg.0 r.kept there c.in-Err.ensures.answer in
    (untouched_for r.seat c.drop_msg.new.self c.args.msg c.in-Err.fault c.requires.own.own why, record { same = c.in-Err.ensures.seat; why = why; mails_same = refl; trace_same = refl })

pub invariant_of-self-in-Err-1 : goal.invariant_of-self-in-Err-1
invariant_of-self-in-Err-1 c =
    let r = c.args.self.now in
    let there : c.args.msg.0 < length r.mails.items = search rules in
    record { kept = untouched_keeps r.seat c.drop_msg.new.self r.mails.items c.args.msg c.in-Err.fault c.in-Err.ensures.seat (there_of c.in-Err.fault r.seat c.drop_msg.new.self r.mails.items c.args.msg.0 r.kept there c.in-Err.ensures.answer) r.kept }

pub returns-in-Err-clause-grew_so : goal.returns-in-Err-clause-grew_so
returns-in-Err-clause-grew_so c =
    let cpu = desk_cpu c.args.self.now.seat in
    let t = c.args.trace.now in record { same = c.in-Err.ensures.seat; len = refl; grew = grew_few cpu 0 1 t t (grew_none cpu t) (omega arith) }
