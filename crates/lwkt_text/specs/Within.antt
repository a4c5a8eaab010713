-- What a text says keeps the limits of the format (own).
use Rattle.std.specs.Prelude.{ℕ, ◌<◌, ◌≤◌, List, length, All, Option, Some, None}
use Rattle.lwkt_base.specs.declared.limits.TheConstants.{MESSAGE_LIMIT, MOST_IDLE, MOST_REPEATS, MOST_TURNS, THREAD_LIMIT, TOKEN_LIMIT}
use Rattle.lwkt_script.specs.declared.scripts.ThreadSpec.{ThreadSpec}
use Rattle.lwkt_script.specs.Format.{threads_on}
use Rattle.lwkt_script.specs.Limits.{IsToken, IsMessage, IsThread, AreCounted}
use Rattle.lwkt_text.specs.declared.drafts.Draft.{Draft}
use Rattle.lwkt_text.specs.declared.declarations.Head.{Head}
use Rattle.lwkt_text.specs.declared.sayings.Said.{Said}
use Rattle.lwkt_text.specs.declared.sayings.Said.TheVariants as saids

-- a head that a script of so many processors may have
pub record IsHead (cpus : ℕ) (h : Head) : Type 0 where
  pub cpu : h.cpu.0 < cpus
  pub some_repeats : 1 ≤ h.repeat
  pub few_repeats : h.repeat ≤ MOST_REPEATS

-- a sentence that a script of so many processors may have
abbrev pub MayBeSaid : ℕ → Said → Type 0
MayBeSaid cpus (saids.Turns n) = (1 ≤ n) × (n ≤ MOST_TURNS)
MayBeSaid cpus (saids.Idle n) = (1 ≤ n) × (n ≤ MOST_IDLE)
MayBeSaid cpus saids.Cpus = Unit {0}
MayBeSaid cpus (saids.Token t) = IsToken t
MayBeSaid cpus (saids.Message m) = IsMessage cpus m
MayBeSaid cpus (saids.Thread h) = IsHead cpus h
MayBeSaid cpus (saids.Do act) = Unit {0}
MayBeSaid cpus (saids.Expect e) = Unit {0}

-- the thread whose steps are said has room behind the others
abbrev pub HasRoomBehind : ℕ → List ThreadSpec → Option Head → Type 0
HasRoomBehind cpus threads None = Unit {0}
HasRoomBehind cpus threads (Some h) = IsHead cpus h × (threads_on h.cpu.0 threads < THREAD_LIMIT)

-- what was said keeps the limits
pub record IsDraft (cpus : ℕ) (d : Draft) : Type 0 where
  pub some_turns : 1 ≤ d.turns
  pub few_turns : d.turns ≤ MOST_TURNS
  pub some_idle : 1 ≤ d.idle
  pub few_idle : d.idle ≤ MOST_IDLE
  pub few_tokens : length d.tokens ≤ TOKEN_LIMIT
  pub tokens : All IsToken d.tokens
  pub few_messages : length d.messages ≤ MESSAGE_LIMIT
  pub messages : All (IsMessage cpus) d.messages
  pub threads : All (IsThread cpus) d.threads
  pub few_threads : (cpu : ℕ) → threads_on cpu d.threads ≤ THREAD_LIMIT
  pub head : HasRoomBehind cpus d.threads d.head
  pub said : AreCounted d.steps d.said
