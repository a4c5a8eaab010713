use Rattle.std.specs.Prelude.{◌≡◌, ℕ, ◌<◌, ◌≤◌, true, List, length, All, slice_get, slice_set, sum_by, IsSomeAnd}
use Rattle.std.specs.Option.{option_map_or}
use Rattle.lwkt_base.specs.declared.limits.TheConstants.{CPU_LIMIT, LIST_LIMIT, MESSAGE_LIMIT, TOKEN_LIMIT}
use Rattle.lwkt_base.specs.Holding.{references_in}
use Rattle.lwkt_core.specs.declared.tokens.Token.{Token}
use Rattle.lwkt_core.specs.declared.messages.Message.{Message}
use Rattle.lwkt_core.specs.declared.events.Event.{Event}
use Rattle.lwkt_core.specs.declared.events.Place.{Place}
use Rattle.lwkt_core.specs.declared.events.Place.TheVariants.{AtToken, AtMessage}
use Rattle.lwkt_core.specs.Events.{cpu_of, place_of, adds_reference}
use Rattle.lwkt_core.specs.Tokens.{held_by, IsSafeToken, TokenNeeds, token_after}
use Rattle.lwkt_core.specs.Messages.{IsSafeMessage, MessageNeeds, message_after}

-- the model's state: so many processors, tokens and messages
pub record Machine : Type 0 where
  pub cpus : ℕ
  pub tokens : List Token
  pub messages : List Message

-- a machine by its parts
abbrev pub machine : ℕ → List Token → List Message → Machine
machine cpus tokens messages = record { cpus = cpus; tokens = tokens; messages = messages }

-- how many references a processor has in all
abbrev pub references_of : List Token → ℕ → ℕ
references_of tokens cpu = sum_by (λ tok. references_in (held_by tok cpu)) tokens

-- the machine is safe: each token and message is, and no processor has more than 32 references
pub record IsSafe (m : Machine) : Type 0 where
  pub processors : m.cpus ≤ CPU_LIMIT
  pub token_limit : length m.tokens ≤ TOKEN_LIMIT
  pub each_token : All (IsSafeToken m.cpus) m.tokens
  pub few : (cpu : ℕ) → references_of m.tokens cpu ≤ LIST_LIMIT
  pub message_limit : length m.messages ≤ MESSAGE_LIMIT
  pub each_message : All (IsSafeMessage m.cpus) m.messages

-- what an event needs of the token or message that it is at, which has to exist
abbrev pub PlaceNeeds : Machine → Event → Place → Type 0
PlaceNeeds m e (AtToken i) = IsSomeAnd (slice_get m.tokens i) (λ tok. TokenNeeds tok e)
PlaceNeeds m e (AtMessage i) = IsSomeAnd (slice_get m.messages i) (λ msg. MessageNeeds m.cpus msg e)

-- what an event needs of the machine
pub record Needs (m : Machine) (e : Event) : Type 0 where
  pub processor : cpu_of e < m.cpus
  pub place : PlaceNeeds m e (place_of e)
  pub room : adds_reference e ≡ true → references_of m.tokens (cpu_of e) < LIST_LIMIT

-- a list with one element changed
abbrev pub changed : {A : Type 0} → (A → A) → List A → ℕ → List A
changed f xs i = option_map_or (λ x. slice_set xs i (f x)) (slice_get xs i) xs

-- what an event leaves at a place
abbrev pub after_at : Machine → Event → Place → Machine
after_at m e (AtToken i) = record m { tokens = changed (λ tok. token_after tok e) m.tokens i }
after_at m e (AtMessage i) = record m { messages = changed (λ msg. message_after msg e) m.messages i }

-- what an event leaves of the machine
abbrev pub after : Machine → Event → Machine
after m e = after_at m e (place_of e)

-- the event can happen in the first machine, and the second is what it leaves
abbrev pub Happens : Machine → Event → Machine → Type 0
Happens m e n = Needs m e × (n ≡ after m e)
