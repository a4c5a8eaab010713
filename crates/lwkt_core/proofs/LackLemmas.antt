-- An event that lacks something can't happen.
use Rattle.std.proofs.Common.{inl, inr, ◌≡◌, ◌↔◌, ◌<◌, ℕ, List, length, refl, sym, ◌∙◌, ap, arith, Option, Some, None, true}
use Rattle.std.specs.Prelude.{slice_get, MatchOption, IsSomeAnd, is_some}
use Rattle.std.proofs.lemmas.Option.{slice_get_past}
use Rattle.std.proofs.lemmas.Bool.{cases_order}
use Rattle.lwkt_base.specs.declared.holdings.Held.{Held}
use Rattle.lwkt_base.specs.declared.holdings.Held.TheVariants.{Nothing, Holds}
use Rattle.lwkt_base.specs.Holding.{is_held, is_exclusive}
use Rattle.lwkt_core.specs.declared.tokens.Token.{Token}
use Rattle.lwkt_core.specs.declared.messages.Message.{Message}
use Rattle.lwkt_core.specs.declared.lacks.Lack.{Lack}
use Rattle.lwkt_core.specs.declared.events.Event.{Event}
use Rattle.lwkt_core.specs.declared.events.Event.TheVariants.{Load, Take, Share, Again, Mark, GiveOne, GiveClean, GiveWritten, Read, Write, ReadBlob, WriteBlob, Send, TakeMsg, DropMsg, Reply, Reap, Abort}
use Rattle.lwkt_core.specs.declared.events.Place.{Place}
use Rattle.lwkt_core.specs.declared.events.Place.TheVariants.{AtToken, AtMessage}
use Rattle.lwkt_core.specs.Events.{place_of}
use Rattle.lwkt_core.specs.Tokens.{held_by, IsNotLastExclusive, TokenNeeds}
use Rattle.lwkt_core.specs.Messages.{MessageNeeds}
use Rattle.lwkt_core.specs.Machine.{Machine, PlaceNeeds, Needs}
use Rattle.lwkt_core.specs.Lacks.{TokenLacks, MessageLacks, PlaceLacks, Lacks, LackRefutes}

-- a reference that may be given back is held
held_to_give : (held : Held) → IsNotLastExclusive held → is_held held ≡ true
held_to_give Nothing may = absurd may
held_to_give (Holds mode further) may = refl

-- a cell with a value is there
cell_there : (row : List ℕ) (cell value : ℕ) → slice_get row cell ≡ Some value → cell < length row
cell_there row cell value is =
    elim (cases_order cell (length row)) [
      | inl same ↦ absurd (let e = sym is ∙ slice_get_past row cell (omega arith) in cc)
      | inr differ ↦ elim differ [
        | inl below ↦ below
        | inr above ↦ absurd (let e = sym is ∙ slice_get_past row cell (omega arith) in cc)
      ]
    ]

token_refutes : (tok : Token) (e : Event) (lack : Lack) → TokenLacks tok e lack → TokenNeeds tok e → ⊥
token_refutes tok (Load cpu t) lack h needs = h
token_refutes tok (Take cpu t) lack h needs = elim h [ inl x ↦ x.1 needs.0 | inr x ↦ x.1.1 needs.1 ]
token_refutes tok (Share cpu t) lack h needs = elim h [ inl x ↦ x.1 needs.0 | inr x ↦ x.1.1 needs.1 ]
token_refutes tok (Again cpu t) lack h needs = h.1 needs
token_refutes tok (Mark cpu t) lack h needs = h
token_refutes tok (GiveOne cpu t) lack h needs = elim h [ inl x ↦ x.1 (held_to_give (held_by tok cpu.0) needs) | inr x ↦ x.1.1 needs ]
token_refutes tok (GiveClean cpu t) lack h needs = elim h [ inl x ↦ x.1 (ap is_exclusive needs.0) | inr y ↦ elim y.1 [ inl x ↦ x.1 needs.0 | inr z ↦ elim z.1 [ inl x ↦ x.1 needs.1.0 | inr x ↦ x.1.1 needs.1.1 ] ] ]
token_refutes tok (GiveWritten cpu t section) lack h needs = elim h [ inl x ↦ x.1 (ap is_exclusive needs.0) | inr y ↦ elim y.1 [ inl x ↦ x.1 needs.0 | inr z ↦ elim z.1 [ inl x ↦ x.1 needs.1 | inr w ↦ elim w.1 [ inl x ↦ x.1 needs.2 | inr x ↦ x.1.1 needs.3 ] ] ] ]
token_refutes tok (Read cpu t cell value) lack h needs = elim h [ inl x ↦ x.1 needs.0 | inr y ↦ elim y.1 [ inl x ↦ x.1 (cell_there tok.row cell value needs.1) | inr x ↦ x.1.1 needs.1 ] ]
token_refutes tok (Write cpu t cell value) lack h needs = elim h [ inl x ↦ x.1 needs.0 | inr y ↦ elim y.1 [ inl x ↦ x.1 needs.1 | inr x ↦ x.1.1 needs.2 ] ]
token_refutes tok (ReadBlob cpu t blob) lack h needs = elim h [ inl x ↦ x.1 needs.0 | inr y ↦ elim y.1 [ inl x ↦ x.1 (ap is_some needs.1) | inr x ↦ x.1.1 needs.1 ] ]
token_refutes tok (WriteBlob cpu t blob) lack h needs = elim h [ inl x ↦ x.1 needs.0 | inr y ↦ elim y.1 [ inl x ↦ x.1 needs.1 | inr x ↦ x.1.1 needs.2 ] ]
token_refutes tok (Send cpu msg to round) lack h needs = needs
token_refutes tok (TakeMsg cpu msg round) lack h needs = needs
token_refutes tok (DropMsg cpu msg) lack h needs = needs
token_refutes tok (Reply cpu msg) lack h needs = needs
token_refutes tok (Reap cpu msg) lack h needs = needs
token_refutes tok (Abort cpu msg) lack h needs = needs

message_refutes : (cpus : ℕ) (msg : Message) (e : Event) (lack : Lack) → MessageLacks cpus msg e lack → MessageNeeds cpus msg e → ⊥
message_refutes cpus msg (Send cpu m to round) lack h needs = elim h [ inl x ↦ x.1 needs.0 | inr y ↦ elim y.1 [ inl x ↦ x.1 needs.1 | inr z ↦ elim z.1 [ inl x ↦ x.1 needs.3 | inr x ↦ x.1.1 needs.2 ] ] ]
message_refutes cpus msg (TakeMsg cpu m round) lack h needs = elim h [ inl x ↦ x.1 needs.0 | inr x ↦ x.1.1 needs.1 ]
message_refutes cpus msg (DropMsg cpu m) lack h needs = h.1 needs
message_refutes cpus msg (Reply cpu m) lack h needs = h.1 needs
message_refutes cpus msg (Reap cpu m) lack h needs = h.1 needs
message_refutes cpus msg (Abort cpu m) lack h needs = h.1 needs
message_refutes cpus msg (Load cpu t) lack h needs = needs
message_refutes cpus msg (Take cpu t) lack h needs = needs
message_refutes cpus msg (Share cpu t) lack h needs = needs
message_refutes cpus msg (Again cpu t) lack h needs = needs
message_refutes cpus msg (Mark cpu t) lack h needs = needs
message_refutes cpus msg (GiveOne cpu t) lack h needs = needs
message_refutes cpus msg (GiveClean cpu t) lack h needs = needs
message_refutes cpus msg (GiveWritten cpu t section) lack h needs = needs
message_refutes cpus msg (Read cpu t cell value) lack h needs = needs
message_refutes cpus msg (Write cpu t cell value) lack h needs = needs
message_refutes cpus msg (ReadBlob cpu t blob) lack h needs = needs
message_refutes cpus msg (WriteBlob cpu t blob) lack h needs = needs

token_part : (o : Option Token) (e : Event) (lack none : Lack) → MatchOption o (lack ≡ none) (λ tok. TokenLacks tok e lack) → IsSomeAnd o (λ tok. TokenNeeds tok e) → ⊥
token_part None e lack none h needs = needs
token_part (Some tok) e lack none h needs = token_refutes tok e lack h needs

message_part : (cpus : ℕ) (o : Option Message) (e : Event) (lack none : Lack) → MatchOption o (lack ≡ none) (λ msg. MessageLacks cpus msg e lack) → IsSomeAnd o (λ msg. MessageNeeds cpus msg e) → ⊥
message_part cpus None e lack none h needs = needs
message_part cpus (Some msg) e lack none h needs = message_refutes cpus msg e lack h needs

place_refutes : (m : Machine) (e : Event) (place : Place) (lack : Lack) → PlaceLacks m e place lack → PlaceNeeds m e place → ⊥
place_refutes m e (AtToken i) lack h needs = token_part (slice_get m.tokens i) e lack _ h needs
place_refutes m e (AtMessage i) lack h needs = message_part m.cpus (slice_get m.messages i) e lack _ h needs

pub refutes : LackRefutes
refutes m e lack h needs = elim h [ inl x ↦ x.1 needs.processor | inr y ↦ elim y.1 [ inl x ↦ x.1 needs.room | inr x ↦ place_refutes m e (place_of e) lack x.1 needs.place ] ]

-- nothing is found exactly where the needs are met
pub found_exactly : (m : Machine) (e : Event) (finding : Option Lack) → MatchOption finding (Needs m e) (λ lack. Lacks m e lack) → (finding ≡ None) ↔ Needs m e
found_exactly m e None h = (λ _. h, λ _. refl)
found_exactly m e (Some lack) h = (λ none. absurd (cc), λ needs. absurd (refutes m e lack h needs))
