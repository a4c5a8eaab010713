-- What holds of each state that turns lead to.
use Rattle.std.specs.Prelude.{◌≡◌, ◌≢◌, ℕ, ◌<◌, ◌≤◌, List, [], length, map, All, Option, None, IfSome, slice_get, slice_index_or}
use Rattle.std.specs.Option.{option_map_or}
use Rattle.lwkt_base.specs.declared.names.Ref.{Ref}
use Rattle.lwkt_base.specs.declared.holdings.Held.TheVariants.{Nothing}
use Rattle.lwkt_base.specs.declared.limits.TheConstants.{CPU_LIMIT, LAST_ROUND, LIST_LIMIT, MESSAGE_LIMIT, THREAD_LIMIT}
use Rattle.lwkt_base.specs.Holding.{Holding, holding_of}
use Rattle.lwkt_core.specs.declared.tokens.Token.{Token}
use Rattle.lwkt_core.specs.Machine.{machine, IsSafe}
use Rattle.lwkt_core.specs.Tokens.{held_by, IsShort}
use Rattle.lwkt_plain.specs.declared.letters.Letter.{Letter}
use Rattle.lwkt_plain.specs.declared.states.Plain.{Plain}
use Rattle.lwkt_plain.specs.declared.states.Processor.{Processor}
use Rattle.lwkt_plain.specs.declared.states.Thread.{Thread}

-- tokens of the model that are safe, whose records at the beginning of a section are as short as a record has to be
pub record AreSoundTokens (tokens : List Token) : Type 0 where
  pub safe : IsSafe (machine CPU_LIMIT tokens [])
  pub short : All (λ (tok : Token). IsShort tok.first_blob) tokens

-- what a processor holds of each token
abbrev pub holding_in : List Token → ℕ → Holding
holding_in tokens c t = option_map_or (λ tok. held_by tok c) (slice_get tokens t) Nothing

-- a processor holds exactly these references
abbrev pub AreHeld : ℕ → List Ref → List Token → Type 0
AreHeld c refs tokens = (t : ℕ) → holding_in tokens c t ≡ holding_of refs t

-- what a processor does to tokens leaves them sound, as many as before, and held by others as before
pub record KeepsTokens (c : ℕ) (old new : List Token) : Type 0 where
  pub sound : AreSoundTokens new
  pub same : length new ≡ length old
  pub others : (other : ℕ) → other ≢ c → (t : ℕ) → holding_in new other t ≡ holding_in old other t

-- the lists of a processor's threads, and which thread runs
pub record Lists : Type 0 where
  pub running : Option ℕ
  pub lists : List (List Ref)

-- what of a state bears on its tokens and messages: the tokens, the rounds of the messages, and each processor's lists
pub record Frame : Type 0 where
  pub tokens : List Token
  pub rounds : List ℕ
  pub cpus : List Lists

abbrev pub lists_of : Processor → Lists
lists_of cpu = record { running = cpu.running; lists = map (λ (t : Thread). t.list) cpu.threads }

abbrev pub round_of : Letter → ℕ
round_of l = l.word.round

abbrev pub frame : Plain → Frame
frame p = record { tokens = p.tokens; rounds = map round_of p.letters; cpus = map lists_of p.cpus }

-- the references of a processor's running thread, and none where no thread runs
abbrev pub no_lists : Lists
no_lists = record { running = None; lists = [] }

abbrev pub running_refs : Lists → List Ref
running_refs l = option_map_or (λ k. slice_index_or l.lists k []) l.running []

-- the references of lists are to tokens that exist, and there are no more than a list may have
abbrev pub IsSoundList : ℕ → List Ref → Type 0
IsSoundList tokens refs = (length refs ≤ LIST_LIMIT) × All (λ r. r.tok.0 < tokens) refs

pub record AreSoundLists (tokens : ℕ) (l : Lists) : Type 0 where
  pub few : length l.lists ≤ THREAD_LIMIT
  pub each : All (IsSoundList tokens) l.lists
  pub running : IfSome l.running (λ k. k < length l.lists)

pub record IsSoundFrame (f : Frame) : Type 0 where
  pub tokens : AreSoundTokens f.tokens
  pub messages : length f.rounds ≤ MESSAGE_LIMIT
  pub rounds : All (λ round. round ≤ LAST_ROUND) f.rounds
  pub processors : length f.cpus ≤ CPU_LIMIT
  pub each : All (AreSoundLists (length f.tokens)) f.cpus
  pub held : (c : ℕ) → c < CPU_LIMIT → AreHeld c (running_refs (slice_index_or f.cpus c no_lists)) f.tokens

-- a state that turns lead to: its tokens are safe, each processor holds exactly what its running thread has, and all is within limits
abbrev pub IsSound : Plain → Type 0
IsSound p = IsSoundFrame (frame p)
