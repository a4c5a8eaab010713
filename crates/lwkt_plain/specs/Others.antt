-- What a turn of a processor may change of the parts of others.
use Rattle.std.specs.Prelude.{◌≡◌, ℕ, None, map}
use Rattle.lwkt_core.specs.declared.tokens.Token.{Token}
use Rattle.lwkt_core.specs.Machine.{changed}
use Rattle.lwkt_plain.specs.declared.letters.Letter.{Letter}
use Rattle.lwkt_plain.specs.declared.states.Mail.{Mail}
use Rattle.lwkt_plain.specs.declared.states.Processor.{Processor}
use Rattle.lwkt_plain.specs.declared.states.Thread.{Thread}
use Rattle.lwkt_plain.specs.Places.{empty_lane}

-- a thread without the word that refused its list, and a processor without those of its threads
abbrev pub wordless_thread : Thread → Thread
wordless_thread t = record t { busy = None }

abbrev pub wordless : Processor → Processor
wordless cpu = record cpu { threads = map wordless_thread cpu.threads }

-- the mail of a processor but for what is in the lane from another
abbrev pub mail_but : ℕ → Mail → Mail
mail_but c mail = record mail { lanes = changed (λ lane. empty_lane) mail.lanes c }

-- a processor may have become this one by the form of another's turn: but for such words it is the same
abbrev pub CpuFollows : ℕ → ℕ → Processor → Processor → Type 0
CpuFollows c j old new = (j ≡ c → ⊥) → wordless new ≡ wordless old

-- its mail may have become this by another's turn: but for the lane from that one it is the same
abbrev pub MailFollows : ℕ → ℕ → Mail → Mail → Type 0
MailFollows c j old new = (j ≡ c → ⊥) → mail_but c new ≡ mail_but c old

-- of a token and of a message nothing is known
abbrev pub TokenFollows : ℕ → ℕ → Token → Token → Type 0
TokenFollows c j old new = Unit {0}

abbrev pub LetterFollows : ℕ → ℕ → Letter → Letter → Type 0
LetterFollows c j old new = Unit {0}
