-- How many replies a processor's ports owe, and how many notes they have (own).
use Rattle.std.specs.Prelude.{ℕ, List, count_by, is_some, map, sum, length}
use Rattle.lwkt_lane.specs.Lane.{in_hand}
use Rattle.lwkt_port.specs.declared.lines.Lane.{Lane}
use Rattle.lwkt_port.specs.declared.mails.Mail.{Mail}
use Rattle.lwkt_port.specs.declared.queues.Port.{Port}
use Rattle.lwkt_port.specs.Queues.{queue_of}

-- the number of messages whose reply is owed
abbrev pub owed_count : List Mail → ℕ
owed_count mails = count_by (λ mail. is_some mail.owed) mails

-- the number of sending ends with a note in hand, of notes that are kept for full queues, and of notes in the queues of ports
abbrev pub in_hand_count : List Lane → ℕ
in_hand_count lanes = count_by (λ line. is_some (in_hand line.out)) lanes

abbrev pub kept_count : List Lane → ℕ
kept_count lanes = count_by (λ line. is_some line.kept) lanes

abbrev pub queued_count : List Port → ℕ
queued_count ports = sum (map (λ port. length (queue_of port)) ports)
