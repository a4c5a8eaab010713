use Rattle.std.specs.Prelude.{◌≡◌, ℕ, ◌+◌, ◌<◌, ◌≤◌, ◌^◌, ◌&&◌, Bool, false, Some, slice_get, sum_by}
use Rattle.std.specs.List.{list_any}
use Rattle.lwkt_base.specs.declared.names.CpuId.{CpuId}
use Rattle.lwkt_base.specs.declared.names.TokId.{TokId}
use Rattle.lwkt_base.specs.declared.names.Mode.TheVariants.{Exclusive, Shared}
use Rattle.lwkt_base.specs.declared.holdings.Held.{Held}
use Rattle.lwkt_base.specs.declared.holdings.Held.TheVariants.{Nothing, Holds}
use Rattle.lwkt_base.specs.declared.words.TokWord.{TokWord}
use Rattle.lwkt_base.specs.declared.words.Decision.TheVariants.{Take as TakeTo}
use Rattle.lwkt_base.specs.Holding.{is_exclusive}
use Rattle.lwkt_base.specs.TokenWord.{word_of, decision, Fits}
use Rattle.lwkt_core.specs.declared.tokens.Token.{Token}
use Rattle.lwkt_base.specs.declared.limits.TheConstants.{CPU_LIMIT}
use Rattle.lwkt_core.specs.declared.events.Event.TheVariants.{Take, Share}
use Rattle.lwkt_core.specs.Tokens.{held_by, IsSafeToken, TokenNeeds, token_after}
use Rattle.lwkt_core.specs.Machine.{Machine, IsSafe}

-- what a processor's holding adds to the count of the token's word: each shared reference, and each exclusive one but the
-- first (lwkt_token.c)
abbrev pub count_of_held : Held → ℕ
count_of_held Nothing = 0
count_of_held (Holds Shared further) = further + 1
count_of_held (Holds Exclusive further) = further

-- the parts of the word that shows a token (lwkt_token.c; the generation is own)
abbrev pub picture_of : Token → TokWord
picture_of tok = record { generation = tok.generation; count = sum_by count_of_held tok.holders; exclusive = list_any is_exclusive tok.holders; mark = tok.mark }

-- a processor that decides by the word of a token takes it exclusively exactly where Take can happen, and shared exactly
-- where Share can happen and the mark doesn't stop a lone request; the next word is then that of the token after the
-- event (token(9); that the mark stops only lone requests is own)
pub record DecidesByEvents (tok : Token) (cpu : CpuId) (t : TokId) (alone : Bool) : Type 0 where
  pub takes : TokenNeeds tok (Take cpu t) → decision (picture_of tok) Exclusive alone ≡ TakeTo (word_of (picture_of (token_after tok (Take cpu t))))
  pub takes_only : (next : ℕ) → decision (picture_of tok) Exclusive alone ≡ TakeTo next → TokenNeeds tok (Take cpu t)
  pub shares : TokenNeeds tok (Share cpu t) → (tok.mark && alone) ≡ false → decision (picture_of tok) Shared alone ≡ TakeTo (word_of (picture_of (token_after tok (Share cpu t))))
  pub shares_only : (next : ℕ) → decision (picture_of tok) Shared alone ≡ TakeTo next → TokenNeeds tok (Share cpu t) × ((tok.mark && alone) ≡ false)

-- a law: a processor that holds nothing of a safe token and decides by its word decides by the events
abbrev pub DecisionsAreEvents : Type 0
DecisionsAreEvents = (cpus : ℕ) (tok : Token) (cpu : CpuId) (t : TokId) (alone : Bool) → cpus ≤ CPU_LIMIT → IsSafeToken cpus tok → cpu.0 < cpus → held_by tok cpu.0 ≡ Nothing → DecidesByEvents tok cpu t alone

-- a law: the word of each token of a safe machine has room for its parts, and for one reference more
abbrev pub PicturesFit : Type 0
PicturesFit = (m : Machine) (i : ℕ) (tok : Token) → IsSafe m → slice_get m.tokens i ≡ Some tok → Fits (picture_of tok) × (word_of (picture_of tok) + 4 < 2 ^ 64)
