-- A thread has ended: what is kept of the messages that it was shown fits the seat still, and its port is in order.
use Rattle.std.proofs.Common.{◌≡◌, ℕ, ◌<◌, ◌==◌, Bool, true, false, cond, true≢false, List, length, set, refl, ap, sym, ◌∙◌, subst, arith}
use Rattle.std.specs.Prelude.{slice_index_or, All, IsSome, is_some, Option, Some, None}
use Rattle.std.proofs.lemmas.List.Elements.{All-set, All-get_or}
use Rattle.lwkt_msg.specs.Desks.{Desk}
use Rattle.lwkt_port.specs.declared.mails.Mail.{Mail}
use Rattle.lwkt_port.specs.declared.queues.Port.{Port}
use Rattle.lwkt_port.specs.Closings.{gone, mail_after_end, OwesGone, IsClosedPort}
use Rattle.lwkt_port.specs.Mails.{kept_mail_at, IsMail, AreMails}
use Rattle.lwkt_port.specs.Queues.{HasNamed}

none_some : IsSome {T = ℕ} None → ⊥
none_some h = true≢false (sym h)

-- what is kept of a message that is owed a reply, or stays
left_fits_if : (b : Bool) (d : Desk) (m : ℕ) (mail : Mail) → IsSome mail.shown → IsMail d m mail → IsMail d m (cond b (record mail { owed = Some gone; shown = None }) mail)
left_fits_if true d m mail shown k = record {
  origin_is = k.origin_is;
  there = k.there;
  at_home = k.at_home;
  is_away = k.is_away;
  owed_taken = λ _. k.shown_taken shown;
  shown_taken = λ h. absurd (none_some h);
}
left_fits_if false d m mail shown k = k

left_fits : (o : Option ℕ) (d : Desk) (m thread : ℕ) (mail : Mail) → mail.shown ≡ o → IsMail d m mail → IsMail d m (mail_after_end o thread mail)
left_fits None d m thread mail is k = k
left_fits (Some other) d m thread mail is k = left_fits_if (other == thread) d m mail (ap is_some is) k

pub gone_are : (d : Desk) (thread : ℕ) (mails mails' : List Mail) → OwesGone thread (length mails) mails mails' → AreMails d mails → AreMails d mails'
gone_are d thread mails mails' o are = record {
  as_many = o.as_many ∙ are.as_many;
  few = let e : length mails' ≡ length mails = o.as_many in omega (arith, are.few);
  each = λ m there.
      let below : m < length mails = (let e : length mails' ≡ length mails = o.as_many in omega arith) in
      let F : Mail → Type 0 = λ x. IsMail d m x in
      subst F (sym (o.done m below)) (left_fits (kept_mail_at mails m).shown d m thread (kept_mail_at mails m) refl (are.each m below));
}

-- none was looked at yet, and one more
pub owes_none : (thread : ℕ) (mails : List Mail) → OwesGone thread 0 mails mails
owes_none thread mails = record { as_many = refl; done = λ m below. absurd (omega (arith, below)); rest = λ m above. refl }

-- the ports after one was closed
pub closed_named : (n : ℕ) (ports : List Port) (j : ℕ) (old new : Port) → j < length ports → old ≡ slice_index_or ports j old → IsClosedPort old new → All (HasNamed n) ports → All (HasNamed n) (set ports j new)
unfolding HasNamed
closed_named n ports j old new there was closed all =
    let F : Port → Type 0 = HasNamed n in
    let before : HasNamed n old = subst F (sym was) (All-get_or (HasNamed n) ports j old there all) in
    let G : Port → Type 0 = λ x. HasNamed n x in
    All-set (HasNamed n) ports j new (subst G (sym closed) before) all
