-- What is kept of messages fits the seat again after each step on one of them.
use Rattle.std.proofs.Common.{◌≡◌, ◌≢◌, ℕ, ◌+◌, ◌<◌, true, false, cond, List, length, set, refl, ap, sym, ◌∙◌, subst, arith, length-set, get_or-set_same, get_or-set_other}
use Rattle.std.specs.Prelude.{not}
use Rattle.std.proofs.lemmas.List.Sums.{sum_by-set}
use mathlib.Core.Logic.{dite}
use native.Mathlib.Decide.{ℕ_discrete}
use Rattle.lwkt_msg.specs.Desks.{Desk, desk_cpu, cpus_of, entry, IsSameDesk}
use Rattle.lwkt_msg.specs.Views.{seat_cpu, spec_at}
use Rattle.lwkt_msg.specs.Hands.{IsOwn}
use Rattle.lwkt_port.specs.declared.mails.Mail.{Mail}
use Rattle.lwkt_port.specs.Mails.{no_kept_mail, kept_mail_at, IsMail, AreMails}
use Rattle.lwkt_port.specs.Works.{away_count}

-- a message belongs to the processor of a seat as long as that is the same one
pub own_still : (d d' : Desk) (m : ℕ) → IsSameDesk d d' → IsOwn d.view (desk_cpu d).0 m → IsOwn d'.view (desk_cpu d').0 m
own_still d d' m same own = ap (λ s. (spec_at s m).origin.cpu.0) same.specs ∙ own ∙ ap (λ k. (seat_cpu k).0) (sym same.kind)

pub own_before : (d d' : Desk) (m : ℕ) → IsSameDesk d d' → IsOwn d'.view (desk_cpu d').0 m → IsOwn d.view (desk_cpu d).0 m
own_before d d' m same own = ap (λ s. (spec_at s m).origin.cpu.0) (sym same.specs) ∙ own ∙ ap (λ k. (seat_cpu k).0) same.kind

-- the processor of an origin is there as long as the seat is the same one
pub there_still : (d d' : Desk) (mail mail' : Mail) → IsSameDesk d d' → mail'.origin ≡ mail.origin → mail.origin.cpu.0 < cpus_of d → mail'.origin.cpu.0 < cpus_of d'
there_still d d' mail mail' same origin there =
    let a : mail'.origin.cpu.0 ≡ mail.origin.cpu.0 = ap (λ o. o.cpu.0) origin in
    let b : cpus_of d' ≡ cpus_of d = same.cpus in omega arith

-- what is kept of a message fits as long as the seat knows the same of where it is
pub fits_still : (d d' : Desk) (m : ℕ) (mail : Mail) → IsSameDesk d d' → (entry d' m).away ≡ (entry d m).away → (entry d' m).taken ≡ (entry d m).taken → IsMail d m mail → IsMail d' m mail
fits_still d d' m mail same away taken k = record {
  origin_is = k.origin_is ∙ ap (λ s. (spec_at s m).origin) (sym same.specs);
  there = there_still d d' mail mail same refl k.there;
  at_home = λ h. (own_still d d' m same (k.at_home h).0, away ∙ (k.at_home h).1);
  is_away = λ h own. away ∙ k.is_away h (own_before d d' m same own);
  owed_taken = λ h. taken ∙ k.owed_taken h;
  shown_taken = λ h. taken ∙ k.shown_taken h;
}

-- after a step on one message
pub all_still : (d d' : Desk) (m : ℕ) (mails : List Mail) → IsSameDesk d d' → ((k : ℕ) → k ≢ m → entry d' k ≡ entry d k) → (entry d' m).away ≡ (entry d m).away → (entry d' m).taken ≡ (entry d m).taken → AreMails d mails → AreMails d' mails
all_still d d' m mails same others away taken are = record {
  as_many = are.as_many ∙ ap length (sym same.specs);
  few = are.few;
  each = λ k within. dite (ℕ_discrete k m)
      (λ is. fits_still d d' k (kept_mail_at mails k) same (ap (λ n. (entry d' n).away) is ∙ away ∙ ap (λ n. (entry d n).away) (sym is)) (ap (λ n. (entry d' n).taken) is ∙ taken ∙ ap (λ n. (entry d n).taken) (sym is)) (are.each k within))
      (λ apart. fits_still d d' k (kept_mail_at mails k) same (ap (λ e. e.away) (others k apart)) (ap (λ e. e.taken) (others k apart)) (are.each k within));
}

-- after a step on one message, of which something else is kept then
pub all_put : (d d' : Desk) (m : ℕ) (mails : List Mail) (mail : Mail) → IsSameDesk d d' → ((k : ℕ) → k ≢ m → entry d' k ≡ entry d k) → m < length mails → IsMail d' m mail → AreMails d mails → AreMails d' (set mails m mail)
all_put d d' m mails mail same others there fits are = record {
  as_many = length-set mails m mail ∙ are.as_many ∙ ap length (sym same.specs);
  few = let e : length (set mails m mail) ≡ length mails = length-set mails m mail in omega (arith, are.few);
  each = λ k within. dite (ℕ_discrete k m)
      (λ is. let F : ℕ × Mail → Type 0 = λ x. IsMail d' x.0 x.1 in subst F (λ i. (sym is i, (sym (get_or-set_same mails m mail no_kept_mail there) ∙ ap (λ n. kept_mail_at (set mails m mail) n) (sym is)) i)) fits)
      (λ apart.
      let old : IsMail d k (kept_mail_at mails k) = are.each k (let e : length (set mails m mail) ≡ length mails = length-set mails m mail in omega arith) in
      let F : Mail → Type 0 = λ x. IsMail d' k x in
      subst F (sym (get_or-set_other mails m k mail no_kept_mail apart)) (fits_still d d' k (kept_mail_at mails k) same (ap (λ e. e.away) (others k apart)) (ap (λ e. e.taken) (others k apart)) old));
}

-- how many messages are away, after one has come home
pub away_less : (mails : List Mail) (m : ℕ) (mail : Mail) → m < length mails → mail.home ≡ true → (kept_mail_at mails m).home ≡ false → away_count (set mails m mail) + 1 ≡ away_count mails
away_less mails m mail there home was =
    let f : Mail → ℕ = λ x. cond (not x.home) 1 0 in
    let e : f mail ≡ 0 = ap (λ b. cond (not b) 1 0) home in
    let o : f (kept_mail_at mails m) ≡ 1 = ap (λ b. cond (not b) 1 0) was in
    omega (arith, sum_by-set f mails m mail no_kept_mail there)
