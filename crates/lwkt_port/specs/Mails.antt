use Rattle.std.specs.Prelude.{◌≡◌, ℕ, ◌<◌, ◌≤◌, true, false, List, length, slice_index_or, None, IsSome}
use Rattle.lwkt_base.specs.declared.limits.TheConstants.{MESSAGE_LIMIT}
use Rattle.lwkt_msg.specs.Desks.{Desk, desk_cpu, cpus_of, messages_of, entry}
use Rattle.lwkt_msg.specs.Views.{spec_at}
use Rattle.lwkt_msg.specs.Hands.{IsOwn}
use Rattle.lwkt_msg.specs.Calls.{IsHome}
use Rattle.lwkt_port.specs.declared.mails.Mail.{Mail}

-- no message, and what is kept of the message of a number
abbrev pub no_kept_mail : Mail
no_kept_mail = record { origin = record { cpu = record { 0 = 0 }; thread = 0 }; round = 0; urgent = false; done = None; owed = None; shown = None; home = false; sync = false }

abbrev pub kept_mail_at : List Mail → ℕ → Mail
kept_mail_at mails m = slice_index_or mails m no_kept_mail

-- what is kept of a message fits what the seat knows of it: its origin is that of the book; it is at home exactly if the seat has it at rest, and only a message
-- that the seat has taken is shown to a thread or owed a reply (msgport(9); owed replies are own)
pub record IsMail (d : Desk) (m : ℕ) (mail : Mail) : Type 0 where
  pub origin_is : mail.origin ≡ (spec_at d.view.specs m).origin
  pub there : mail.origin.cpu.0 < cpus_of d
  pub at_home : mail.home ≡ true → IsHome d.view (desk_cpu d).0 m
  pub is_away : mail.home ≡ false → IsOwn d.view (desk_cpu d).0 m → (entry d m).away ≡ true
  pub owed_taken : IsSome mail.owed → (entry d m).taken ≡ true
  pub shown_taken : IsSome mail.shown → (entry d m).taken ≡ true

-- the same of all messages of the book
pub record AreMails (d : Desk) (mails : List Mail) : Type 0 where
  pub as_many : length mails ≡ messages_of d
  pub few : length mails ≤ MESSAGE_LIMIT
  pub each : (m : ℕ) → m < length mails → IsMail d m (kept_mail_at mails m)
