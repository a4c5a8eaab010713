use Rattle.std.specs.Prelude.{ℕ, ◌+◌, ◌*◌, ◌<◌, ◌^◌}
use Rattle.lwkt_base.specs.declared.message_words.MsgState.{MsgState}
use Rattle.lwkt_base.specs.declared.message_words.MsgState.TheVariants.{Rest, Out, With, Back}
use Rattle.lwkt_base.specs.declared.message_words.MsgWord.{MsgWord}
use Rattle.lwkt_base.specs.TokenWord.{bit}

-- the number of a state in a word (own)
abbrev pub state_number : MsgState → ℕ
state_number Rest = 0
state_number Out = 1
state_number With = 2
state_number Back = 3

-- the word of a message: state, abort request, MSGF_SYNC, MSGF_DROPABLE, MSGF_ABORTABLE, MSGF_PRIORITY, origin, target, round
-- (flags of msgport(9); the places are own)
abbrev pub message_word : MsgWord → ℕ
message_word w = state_number w.state + 4 * bit w.aborted + 8 * bit w.sync + 16 * bit w.dropable + 32 * bit w.abortable + 64 * bit w.priority + 128 * w.origin.0 + 1024 * w.target.0 + 8192 * w.round

-- the parts have room in their bits
abbrev pub MessageFits : MsgWord → Type 0
MessageFits w = (w.origin.0 < 8) × (w.target.0 < 8) × (w.round < 2 ^ 51)
