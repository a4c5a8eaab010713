-- What the ports remember, so that a call passes over work that isn't there (own): whether a reply may be owed, whether a closed
-- port may have a note, and whether a note may be in hand at a sending end.
use Rattle.std.specs.Prelude.{◌≡◌, ℕ, Bool, true, false, List, [], None, All}
use Rattle.std.specs.Coded.{Coded, Coded-set, code_by, coded×, coded_option, coded_ℕ, coded_bool, →_prop}
use mathlib.Core.Path.{refl}
use Rattle.lwkt_lane.specs.declared.notes.Note.{Note}
use Rattle.lwkt_lane.specs.declared.notes.NoteKind.{NoteKind}
use Rattle.lwkt_lane.specs.declared.notes.NoteKind.TheVariants.{Request, Answer}
use Rattle.lwkt_lane.specs.Lane.{in_hand}
use Rattle.lwkt_port.specs.declared.lines.Lane.{Lane}
use Rattle.lwkt_port.specs.declared.mails.Mail.{Mail}
use Rattle.lwkt_port.specs.declared.queues.Port.{Port}
use Rattle.lwkt_port.specs.Lines.{HasNoneInHand}
use Rattle.lwkt_port.specs.Queues.{queue_of, all-prop}

-- no reply is owed to a message, or to any
abbrev pub IsUnowed : Mail → Type 0
IsUnowed mail = mail.owed ≡ None

abbrev pub OwesNone : List Mail → Type 0
OwesNone mails = All IsUnowed mails

pub owes_none-prop : (owing : Bool) (mails : List Mail) → IsProp (owing ≡ false → OwesNone mails)
owes_none-prop owing mails = →_prop (all-prop IsUnowed (λ mail. Coded-set (coded_option coded_ℕ) mail.owed None) mails)

-- a port has nothing to clear: it isn't closed, or has no note; or none has
abbrev pub IsClear : Port → Type 0
IsClear port = port.closed ≡ true → queue_of port ≡ []

abbrev pub AreClear : List Port → Type 0
AreClear ports = All IsClear ports

-- a code of notes, by what they say of their kind
abbrev is_answer : NoteKind → Bool
is_answer Request = false
is_answer Answer = true

abbrev kind_of : Bool → NoteKind
kind_of false = Request
kind_of true = Answer

kind_back : (kind : NoteKind) → kind_of (is_answer kind) ≡ kind
kind_back Request = refl
kind_back Answer = refl

abbrev coded_kind : Coded NoteKind
coded_kind = code_by Bool coded_bool is_answer kind_of kind_back

abbrev coded_note : Coded Note
coded_note = code_by (ℕ × (ℕ × (ℕ × (NoteKind × Bool)))) (coded× coded_ℕ (coded× coded_ℕ (coded× coded_ℕ (coded× coded_kind coded_bool)))) (λ note. (note.round, (note.msg.0, (note.port, (note.kind, note.urgent))))) (λ t. record { round = t.0; msg = record { 0 = t.1.0 }; port = t.1.1.0; kind = t.1.1.1.0; urgent = t.1.1.1.1 }) (λ _. refl)

-- no note is in hand at any line, where none may be
pub holds_none-prop : (holding : Bool) (lanes : List Lane) → IsProp (holding ≡ false → All HasNoneInHand lanes)
holds_none-prop holding lanes = →_prop (all-prop HasNoneInHand (λ line. Coded-set (coded_option coded_note) (in_hand line.out) None) lanes)
