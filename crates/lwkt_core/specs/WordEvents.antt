-- What the steps on a token's word are in the model.
use Rattle.std.specs.Prelude.{◌≡◌, ℕ, ◌<◌, ◌&&◌, Bool, false, Some, Ok, slice_get}
use Rattle.lwkt_base.specs.declared.names.CpuId.{CpuId}
use Rattle.lwkt_base.specs.declared.names.TokId.{TokId}
use Rattle.lwkt_base.specs.declared.sections.Section.{Section}
use Rattle.lwkt_base.specs.declared.holdings.Held.TheVariants.{Nothing}
use Rattle.lwkt_base.specs.TokenWord.{word_of, Fits}
use Rattle.lwkt_core.specs.declared.events.Event.{Event}
use Rattle.lwkt_core.specs.declared.events.Event.TheVariants.{Take, Share, Again, Mark, GiveOne, GiveClean, GiveWritten}
use Rattle.lwkt_core.specs.declared.tokens.Token.{Token}
use Rattle.lwkt_core.specs.Machine.{Machine, IsSafe}
use Rattle.lwkt_core.specs.Picture.{picture_of}
use Rattle.lwkt_core.specs.Tokens.{held_by, TokenNeeds, token_after}
use Rattle.lwkt_core.specs.WordSteps.{exclusive_taken, shared_taken, gained, marked, one_given, clean_given, written_given}

-- the word of the token after an event (own)
abbrev pub word_after : Token → Event → ℕ
word_after tok e = word_of (picture_of (token_after tok e))

-- where an event can happen its step on the token's word is made, and gives the word of the token after the event, but where the
-- mark stops a lone shared request; a step that takes the token is made only where its event can happen (token(9); that the mark
-- stops only lone requests is own)
pub record StepsByEvents (tok : Token) (cpu : CpuId) (t : TokId) : Type 0 where
  pub fits : Fits (picture_of tok)
  pub takes : TokenNeeds tok (Take cpu t) → exclusive_taken (picture_of tok) ≡ Ok (word_after tok (Take cpu t))
  pub takes_only : (next : ℕ) → exclusive_taken (picture_of tok) ≡ Ok next → TokenNeeds tok (Take cpu t)
  pub shares : (alone : Bool) → TokenNeeds tok (Share cpu t) → (tok.mark && alone) ≡ false → shared_taken alone (picture_of tok) ≡ Ok (word_after tok (Share cpu t))
  pub shares_only : (alone : Bool) (next : ℕ) → held_by tok cpu.0 ≡ Nothing → shared_taken alone (picture_of tok) ≡ Ok next → TokenNeeds tok (Share cpu t) × ((tok.mark && alone) ≡ false)
  pub gains : TokenNeeds tok (Again cpu t) → gained (picture_of tok) ≡ Ok (word_after tok (Again cpu t))
  pub marks : marked (picture_of tok) ≡ word_after tok (Mark cpu t)
  pub gives_one : TokenNeeds tok (GiveOne cpu t) → one_given (picture_of tok) ≡ Ok (word_after tok (GiveOne cpu t))
  pub gives_clean : TokenNeeds tok (GiveClean cpu t) → clean_given (picture_of tok) ≡ Ok (word_after tok (GiveClean cpu t))
  pub gives_written : (section : Section) → TokenNeeds tok (GiveWritten cpu t section) → written_given (picture_of tok) ≡ Ok (word_after tok (GiveWritten cpu t section))

-- a theorem: the steps of a processor on the word of a token of a safe machine are its events there
abbrev pub StepsAreEvents : Type 0
StepsAreEvents = (m : Machine) (i : ℕ) (tok : Token) (cpu : CpuId) (t : TokId) → IsSafe m → slice_get m.tokens i ≡ Some tok → cpu.0 < m.cpus → StepsByEvents tok cpu t
