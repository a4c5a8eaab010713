-- What becomes of the port of a thread that has ended (own).
use Rattle.std.specs.Prelude.{◌≡◌, ℕ, ◌<◌, ◌≤◌, ◌==◌, true, List, length, Option, Some, None, if◌then◌else◌, Vec}
use Rattle.std.specs.declared.alloc.Global.{Global}
use Rattle.lwkt_core.specs.declared.events.Event.{Event}
use Rattle.lwkt_port.specs.declared.lines.Lane.{Lane}
use Rattle.lwkt_port.specs.declared.mails.Mail.{Mail}
use Rattle.lwkt_port.specs.declared.queues.Port.{Port}
use Rattle.lwkt_port.specs.Mails.{kept_mail_at}
use Rattle.lwkt_port.specs.Chains.{Chain}
use Rattle.lwkt_port.specs.Intakes.{Payer, Pays}
use Rattle.lwkt_port.specs.Lines.{IsRoomed}
use Rattle.lwkt_port.specs.Posts.{Post, ChangesOne, work_of}
use Rattle.lwkt_port.specs.Sendings.{IsElseSame}

-- the error that is replied to a request whose thread has ended (own)
abbrev pub gone : ℕ
gone = 41

-- what is kept of a message that was shown to so and so, after a thread has ended: if it was shown to this one, which hasn't replied,
-- it is owed a reply; any other stays
abbrev pub mail_after_end : Option ℕ → ℕ → Mail → Mail
mail_after_end None thread mail = mail
mail_after_end (Some other) thread mail = if other == thread then record mail { owed = Some gone; shown = None } else mail

abbrev pub gone_mail : ℕ → Mail → Mail
gone_mail thread mail = mail_after_end mail.shown thread mail

-- of so many messages those that were shown to a thread are owed a reply, and every other is kept as it was
pub record OwesGone (thread upto : ℕ) (mails mails' : List Mail) : Type 0 where
  pub as_many : length mails' ≡ length mails
  pub done : (m : ℕ) → m < upto → kept_mail_at mails' m ≡ gone_mail thread (kept_mail_at mails m)
  pub rest : (m : ℕ) → upto ≤ m → kept_mail_at mails' m ≡ kept_mail_at mails m

-- a port is closed, with the notes that it has
abbrev pub IsClosedPort : Port → Port → Type 0
IsClosedPort port port' = port' ≡ record port { closed = true }

-- a thread's port was closed: each message that the thread was shown, and hasn't replied to, is owed a reply
pub record PostCloses (thread : ℕ) (p p' : Post) : Type 0 where
  pub owes : OwesGone thread (length p.mails) p.mails p'.mails
  pub closes : ChangesOne IsClosedPort thread p.ports p'.ports
  pub seat_same : p'.seat ≡ p.seat
  pub lanes_same : p'.lanes ≡ p.lanes
  pub threads_same : p'.threads ≡ p.threads

-- the replies that are owed go out, by message number, as lanes have room: first each sending end moves its note in hand on
pub record PostPays (p p' : Post) (trace trace' : Vec Event Global) : Type 0 where
  pub roomed : List Lane
  pub rooms : Chain (List Lane) (λ i a b. ChangesOne IsRoomed i a b) (length p.lanes) p.lanes roomed
  pub owed : Chain Payer Pays (length p.mails) (record { work = work_of p trace; lanes = roomed }) (record { work = work_of p' trace'; lanes = p'.lanes })
  pub else_same : IsElseSame p p'
