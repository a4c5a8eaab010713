use Rattle.std.proofs.Common.{◌≡◌, ◌∙◌, ◌+◌, ◌<◌, Bool, ℕ, List, length, set, ap, refl, sym, rules, arith}
use Rattle.std.proofs.lemmas.List.{get_or_default}
use Rattle.std.specs.Prelude.{slice_index_or}
use Rattle.lwkt_base.specs.declared.records.Rec.{Rec}
use Rattle.lwkt_msg.specs.Desks.{desk_cpu}
use Rattle.lwkt_msg.specs.declared.answers.Reaped.TheVariants as reaped_
use Rattle.lwkt_port.specs.declared.mails.Mail.{Mail}
use Rattle.lwkt_port.specs.Deeds.{reaped_mail}
use Rattle.lwkt_port.specs.Mails.{no_kept_mail, kept_mail_at}
use Rattle.lwkt_port.specs.Works.{away_count}
use Rattle.lwkt_port.proofs.Deeding.{reaped_keeps, reaped_away}
use Rattle.lwkt_port.proofs.mailrooms.Mailroom.reap.Goals as goal

-- what is kept of a message was changed at its place, which has its number
reaped_at : (keep : Bool) (rec : Rec) (mails : List Mail) (j m : ℕ) (mail mail' : Mail) → j < length mails → mail ≡ slice_index_or mails j mail → j ≡ m → mail' ≡ reaped_mail keep rec mail → set mails j mail' ≡ set mails m (reaped_mail keep rec (kept_mail_at mails m))
reaped_at keep rec mails j m mail mail' there was same is =
    let old : mail ≡ kept_mail_at mails j = was ∙ sym (get_or_default mails j no_kept_mail mail there) in
    ap (λ x. set mails j x) (is ∙ ap (λ x. reaped_mail keep rec x) old) ∙ ap (λ k. set mails k (reaped_mail keep rec (kept_mail_at mails k))) same

pub invariant_of-self-in-Stale : goal.invariant_of-self-in-Stale
invariant_of-self-in-Stale c =
    let r = c.args.self.now in
    let there : c.args.note.msg.0 < length r.mails.items = search rules in
    record { kept = reaped_keeps c.args.keep c.args.note r.seat c.reap.new.self r.mails.items r.mails.items reaped_.Stale c.in-Stale.ensures.seat c.in-Stale.ensures.answer refl there r.kept }

pub invariant_of-self : goal.invariant_of-self
invariant_of-self c =
    let r = c.args.self.now in
    let there : c.args.note.msg.0 < length r.mails.items = search rules in
    let m : ℕ = c.from-m.result in
    let same : m ≡ c.args.note.msg.0 = search rules in
    let mails : List Mail = set r.mails.items m c.come_home.new.mail in
    let is = reaped_at c.args.keep c.in-Done.rec r.mails.items m c.args.note.msg.0 c.index_mut.result.now c.come_home.new.mail (rw same there) c.index_mut.ensures.value same c.come_home.ensures in
    record { kept = reaped_keeps c.args.keep c.args.note r.seat c.reap.new.self r.mails.items mails (reaped_.Done c.in-Done.rec) c.in-Done.ensures.seat c.in-Done.ensures.answer is there r.kept }

pub returns-in-Done-clause-away : goal.returns-in-Done-clause-away
returns-in-Done-clause-away c =
    let r = c.args.self.now in
    let there : c.args.note.msg.0 < length r.mails.items = search rules in
    let m : ℕ = c.from-m.result in
    let same : m ≡ c.args.note.msg.0 = search rules in
    let mails : List Mail = set r.mails.items m c.come_home.new.mail in
    let is = reaped_at c.args.keep c.in-Done.rec r.mails.items m c.args.note.msg.0 c.index_mut.result.now c.come_home.new.mail (rw same there) c.index_mut.ensures.value same c.come_home.ensures in
    let fewer : away_count mails + 1 ≡ away_count r.mails.items = reaped_away c.args.keep c.args.note (desk_cpu r.seat) r.seat c.reap.new.self r.mails.items mails (reaped_.Done c.in-Done.rec) c.in-Done.ensures.answer is there r.kept in
    omega (arith, fewer, c.trace_reap.ensures.longer)
