-- What is kept of messages fits the seat after a take, a reap, a send and a reply, and how many messages are away then.
use Rattle.std.proofs.Common.{◌≡◌, ⊎_elim, ℕ, ◌+◌, ◌<◌, ◌≤◌, Bool, true, false, true≢false, List, length, set, refl, ap, sym, ◌∙◌, subst, arith}
use Rattle.std.specs.Prelude.{◌⊎◌, IsSome, None, Option}
use Rattle.lwkt_base.specs.declared.faults.Fault.{Fault}
use Rattle.lwkt_base.specs.declared.faults.Fault.TheVariants.{NotOwner}
use Rattle.lwkt_base.specs.declared.names.CpuId.{CpuId}
use Rattle.lwkt_base.specs.declared.names.MsgId.{MsgId}
use Rattle.lwkt_base.specs.declared.records.Call.{Call}
use Rattle.lwkt_base.specs.declared.records.Flags.{Flags}
use Rattle.lwkt_base.specs.declared.records.Rec.{Rec}
use Rattle.lwkt_msg.specs.Views.{spec_at}
use Rattle.lwkt_lane.specs.declared.notes.Note.{Note}
use Rattle.lwkt_msg.specs.declared.answers.Taken.{Taken}
use Rattle.lwkt_msg.specs.declared.answers.Taken.TheVariants as taken
use Rattle.lwkt_msg.specs.declared.answers.Reaped.{Reaped}
use Rattle.lwkt_msg.specs.declared.answers.Reaped.TheVariants as reaped_
use Rattle.lwkt_msg.specs.Desks.{Desk, desk_cpu, messages_of, entry, IsSameDesk}
use Rattle.lwkt_msg.specs.Calls.{TakeMeans, ReapMeans, HasSent, IsUnsent, HasReplied}
use Rattle.lwkt_port.specs.declared.mails.Mail.{Mail}
use Rattle.lwkt_port.specs.declared.deeds.Claim.{Claim}
use Rattle.lwkt_port.specs.declared.deeds.Claim.TheVariants as claim
use Rattle.lwkt_port.specs.Mails.{kept_mail_at, IsMail, AreMails}
use Rattle.lwkt_port.specs.Works.{away_count}
use Rattle.lwkt_port.specs.Deeds.{taken_mail, mails_taken, reaped_mail, mails_reaped, reap_events, sent_mail, replied_mail}
use Rattle.lwkt_port.proofs.Keeping.{own_still, own_before, there_still, all_still, all_put, away_less}

-- a take leaves the origin and whether the message is at home
taken_origin : (who : Claim) (aborted priority : Bool) (round : ℕ) (mail : Mail) → (taken_mail who aborted priority round mail).origin ≡ mail.origin
taken_origin (claim.Thread thread) true priority round mail = refl
taken_origin (claim.Thread thread) false priority round mail = refl
taken_origin claim.Closed aborted priority round mail = refl

taken_home : (who : Claim) (aborted priority : Bool) (round : ℕ) (mail : Mail) → (taken_mail who aborted priority round mail).home ≡ mail.home
taken_home (claim.Thread thread) true priority round mail = refl
taken_home (claim.Thread thread) false priority round mail = refl
taken_home claim.Closed aborted priority round mail = refl

-- what is kept of a message fits the seat that has taken it
fits_taken : (d d' : Desk) (m : ℕ) (mail mail' : Mail) → IsSameDesk d d' → (entry d' m).away ≡ (entry d m).away → (entry d' m).taken ≡ true → mail'.origin ≡ mail.origin → mail'.home ≡ mail.home → IsMail d m mail → IsMail d' m mail'
fits_taken d d' m mail mail' same away is_taken origin home k = record {
  origin_is = origin ∙ k.origin_is ∙ ap (λ s. (spec_at s m).origin) (sym same.specs);
  there = there_still d d' mail mail' same origin k.there;
  at_home = λ h. (own_still d d' m same (k.at_home (sym home ∙ h)).0, away ∙ (k.at_home (sym home ∙ h)).1);
  is_away = λ h own. away ∙ k.is_away (sym home ∙ h) (own_before d d' m same own);
  owed_taken = λ _. is_taken;
  shown_taken = λ _. is_taken;
}

pub taken_keeps : (who : Claim) (note : Note) (d d' : Desk) (mails mails' : List Mail) (answer : Taken) → IsSameDesk d d' → TakeMeans (desk_cpu d) d.view d'.view note.msg.0 note.round answer → mails' ≡ mails_taken who note answer mails → note.msg.0 < length mails → AreMails d mails → AreMails d' mails'
taken_keeps who note d d' mails mails' (taken.Took rec aborted priority) same means is there are =
    let m : ℕ = note.msg.0 in
    let mail : Mail = kept_mail_at mails m in
    let F : List Mail → Type 0 = AreMails d' in
    subst F (sym is) (all_put d d' m mails (taken_mail who aborted priority note.round mail) same means.does.else_same there
    (fits_taken d d' m mail (taken_mail who aborted priority note.round mail) same (ap (λ e. e.away) means.does.here) (ap (λ e. e.taken) means.does.here) (taken_origin who aborted priority note.round mail) (taken_home who aborted priority note.round mail) (are.each m there)) are)
taken_keeps who note d d' mails mails' taken.Stale same means is there are =
    let F : List Mail → Type 0 = AreMails d' in
    let does = means.looked_at.does in
    subst F (sym is) (all_still d d' note.msg.0 mails same does.else_same (ap (λ e. e.away) does.here) (ap (λ e. e.taken) does.here) are)
taken_keeps who note d d' mails mails' taken.Again same means is there are =
    let F : List Mail → Type 0 = AreMails d' in
    subst F (sym is) (all_still d d' note.msg.0 mails same means.does.else_same (ap (λ e. e.away) means.does.here) (ap (λ e. e.taken) means.does.here) are)

-- a message that its origin knows to be away isn't kept as at home
not_home : (d : Desk) (m : ℕ) (mail : Mail) (home : Bool) → mail.home ≡ home → (entry d m).away ≡ true → IsMail d m mail → mail.home ≡ false
not_home d m mail true is away k = absurd (true≢false (sym away ∙ (k.at_home is).1))
not_home d m mail false is away k = is

reaped_origin : (keep : Bool) (rec : Rec) (mail : Mail) → (reaped_mail keep rec mail).origin ≡ mail.origin
reaped_origin true rec mail = refl
reaped_origin false rec mail = refl

reaped_home : (keep : Bool) (rec : Rec) (mail : Mail) → (reaped_mail keep rec mail).home ≡ true
reaped_home true rec mail = refl
reaped_home false rec mail = refl

reaped_owed : (keep : Bool) (rec : Rec) (mail : Mail) → (reaped_mail keep rec mail).owed ≡ mail.owed
reaped_owed true rec mail = refl
reaped_owed false rec mail = refl

reaped_shown : (keep : Bool) (rec : Rec) (mail : Mail) → (reaped_mail keep rec mail).shown ≡ mail.shown
reaped_shown true rec mail = refl
reaped_shown false rec mail = refl

pub reaped_keeps : (keep : Bool) (note : Note) (d d' : Desk) (mails mails' : List Mail) (answer : Reaped) → IsSameDesk d d' → ReapMeans (desk_cpu d) d.view d'.view note.msg.0 note.round answer → mails' ≡ mails_reaped keep note answer mails → note.msg.0 < length mails → AreMails d mails → AreMails d' mails'
reaped_keeps keep note d d' mails mails' (reaped_.Done rec) same means is there are =
    let m : ℕ = note.msg.0 in
    let mail : Mail = kept_mail_at mails m in
    let mail' : Mail = reaped_mail keep rec mail in
    let F : List Mail → Type 0 = AreMails d' in
    let k : IsMail d m mail = are.each m there in
    let still : (entry d' m).taken ≡ (entry d m).taken = ap (λ e. e.taken) means.does.here in
    let O : Option ℕ → Type 0 = IsSome in
    subst F (sym is) (all_put d d' m mails mail' same means.does.else_same there record {
      origin_is = reaped_origin keep rec mail ∙ k.origin_is ∙ ap (λ s. (spec_at s m).origin) (sym same.specs);
      there = there_still d d' mail mail' same (reaped_origin keep rec mail) k.there;
      at_home = λ h. (own_still d d' m same means.own, ap (λ e. e.away) means.does.here);
      is_away = λ h own. absurd (true≢false (sym (reaped_home keep rec mail) ∙ h));
      owed_taken = λ h. still ∙ k.owed_taken (subst O (reaped_owed keep rec mail) h);
      shown_taken = λ h. still ∙ k.shown_taken (subst O (reaped_shown keep rec mail) h);
    } are)
reaped_keeps keep note d d' mails mails' reaped_.Stale same means is there are =
    let F : List Mail → Type 0 = AreMails d' in
    let does = means.looked_at.does in
    subst F (sym is) (all_still d d' note.msg.0 mails same does.else_same (ap (λ e. e.away) does.here) (ap (λ e. e.taken) does.here) are)

-- each message that is reaped is away no more
pub reaped_away : (keep : Bool) (note : Note) (cpu : CpuId) (d d' : Desk) (mails mails' : List Mail) (answer : Reaped) → ReapMeans (desk_cpu d) d.view d'.view note.msg.0 note.round answer → mails' ≡ mails_reaped keep note answer mails → note.msg.0 < length mails → AreMails d mails → away_count mails' + length (reap_events cpu note answer) ≡ away_count mails
reaped_away keep note cpu d d' mails mails' (reaped_.Done rec) means is there are =
    let m : ℕ = note.msg.0 in
    let mail : Mail = kept_mail_at mails m in
    ap (λ l. away_count l + 1) is ∙ away_less mails m (reaped_mail keep rec mail) there (reaped_home keep rec mail) (not_home d m mail mail.home refl means.was_away (are.each m there))
reaped_away keep note cpu d d' mails mails' reaped_.Stale means is there are = ap (λ l. away_count l + 0) is ∙ let e : away_count mails + 0 ≡ away_count mails = omega arith in e

-- a message that is sent is away
pub sent_keeps : (msg : MsgId) (to : CpuId) (call : Call) (flags : Flags) (sync : Bool) (round : ℕ) (d d' : Desk) (mails mails' : List Mail) → IsSameDesk d d' → HasSent (desk_cpu d) d.view d'.view msg.0 to call flags sync round → mails' ≡ set mails msg.0 (sent_mail sync (kept_mail_at mails msg.0)) → msg.0 < length mails → AreMails d mails → AreMails d' mails'
sent_keeps msg to call flags sync round d d' mails mails' same means is there are =
    let m : ℕ = msg.0 in
    let mail : Mail = kept_mail_at mails m in
    let F : List Mail → Type 0 = AreMails d' in
    let k : IsMail d m mail = are.each m there in
    let still : (entry d' m).taken ≡ (entry d m).taken = ap (λ e. e.taken) means.does.here in
    subst F (sym is) (all_put d d' m mails (sent_mail sync mail) same means.does.else_same there record {
      origin_is = k.origin_is ∙ ap (λ s. (spec_at s m).origin) (sym same.specs);
      there = there_still d d' mail (sent_mail sync mail) same refl k.there;
      at_home = λ h. absurd (true≢false (sym h));
      is_away = λ h own. ap (λ e. e.away) means.does.here;
      owed_taken = λ h. still ∙ k.owed_taken h;
      shown_taken = λ h. still ∙ k.shown_taken h;
    } are)

none_some : IsSome {T = ℕ} None → ⊥
none_some h = true≢false (sym h)

-- a message that was replied to is shown to nobody, and nothing is owed
pub replied_keeps : (msg : MsgId) (error outcome : ℕ) (d d' : Desk) (mails mails' : List Mail) → IsSameDesk d d' → HasReplied d.view d'.view msg.0 error outcome → mails' ≡ set mails msg.0 (replied_mail (kept_mail_at mails msg.0)) → msg.0 < length mails → AreMails d mails → AreMails d' mails'
replied_keeps msg error outcome d d' mails mails' same means is there are =
    let m : ℕ = msg.0 in
    let mail : Mail = kept_mail_at mails m in
    let F : List Mail → Type 0 = AreMails d' in
    let k : IsMail d m mail = are.each m there in
    let away : (entry d' m).away ≡ (entry d m).away = ap (λ e. e.away) means.does.here in
    subst F (sym is) (all_put d d' m mails (replied_mail mail) same means.does.else_same there record {
      origin_is = k.origin_is ∙ ap (λ s. (spec_at s m).origin) (sym same.specs);
      there = there_still d d' mail (replied_mail mail) same refl k.there;
      at_home = λ h. (own_still d d' m same (k.at_home h).0, away ∙ (k.at_home h).1);
      is_away = λ h own. away ∙ k.is_away h (own_before d d' m same own);
      owed_taken = λ h. absurd (none_some h);
      shown_taken = λ h. absurd (none_some h);
    } are)

-- a message that was not sent is looked at
pub unsent_keeps : (msg : MsgId) (d d' : Desk) (mails : List Mail) (fault : Fault) → IsSameDesk d d' → IsUnsent (desk_cpu d) d.view d'.view msg.0 fault → AreMails d mails → AreMails d' mails
unsent_keeps msg d d' mails fault same why are =
    let does = why.looked_at.does in
    all_still d d' msg.0 mails same does.else_same (ap (λ e. e.away) does.here) (ap (λ e. e.taken) does.here) are

pub refused_keeps : (msg : MsgId) (d d' : Desk) (mails : List Mail) (fault : Fault) → IsSameDesk d d' → ((messages_of d ≤ msg.0) × (fault ≡ NotOwner) × (d' ≡ d)) ⊎ ((msg.0 < messages_of d) × IsUnsent (desk_cpu d) d.view d'.view msg.0 fault) → AreMails d mails → AreMails d' mails
refused_keeps msg d d' mails fault same why are = ⊎_elim
    (λ (s : (messages_of d ≤ msg.0) × (fault ≡ NotOwner) × (d' ≡ d)). let F : Desk → Type 0 = λ x. AreMails x mails in subst F (sym s.2) are)
    (λ (s : (msg.0 < messages_of d) × IsUnsent (desk_cpu d) d.view d'.view msg.0 fault). unsent_keeps msg d d' mails fault same s.1 are)
    why
