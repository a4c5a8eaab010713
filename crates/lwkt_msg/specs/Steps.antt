use Rattle.std.specs.Prelude.{ℕ, Bool, false, List, [], map}
use Rattle.lwkt_base.specs.declared.names.CpuId.{CpuId}
use Rattle.lwkt_base.specs.declared.records.Flags.{Flags}
use Rattle.lwkt_base.specs.declared.message_words.MsgWord.{MsgWord}
use Rattle.lwkt_base.specs.declared.message_words.MsgState.TheVariants.{Rest, Out}
use Rattle.lwkt_core.specs.Machine.{Machine}
use Rattle.lwkt_msg.specs.Book.{Mail}

-- the parts of the word of a message that is sent, and of one at rest (flags of msgport(9); rounds are own)
abbrev pub sent_word : CpuId → CpuId → ℕ → Bool → Flags → MsgWord
sent_word cpu to round sync flags = record { round = round; state = Out; origin = cpu; target = to; aborted = false; sync = sync; dropable = flags.dropable; abortable = flags.abortable; priority = flags.priority }

abbrev pub rest_word : CpuId → ℕ → MsgWord
rest_word cpu round = record { round = round; state = Rest; origin = cpu; target = record { 0 = 0 }; aborted = false; sync = false; dropable = false; abortable = false; priority = false }

-- the model's machine that a book shows: its messages, and no tokens
abbrev pub machine_of : ℕ → List Mail → Machine
machine_of cpus mails = record { cpus = cpus; tokens = []; messages = map (λ (mail : Mail). mail.msg) mails }
