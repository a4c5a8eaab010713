-- The two queues of a port: one of urgent notes, whose messages were sent with priority, and one of the others. The urgent ones are
-- served first (MSGF_PRIORITY of msgport(9); one queue for each class is own).
use Rattle.std.specs.Prelude.{◌≡◌, ◌⊎◌, ℕ, ◌<◌, Bool, true, false, List, [], ◌∷◌, ◌++◌, length, All, slice_index_or}
use Rattle.std.specs.Coded.{Coded-set, coded_bool, ×_prop, Π_prop, →_prop, le_prop}
use Rattle.lwkt_lane.specs.declared.notes.Note.{Note}
use Rattle.lwkt_port.specs.declared.queues.Port.{Port}
use Rattle.lwkt_port.specs.declared.note_queues.TheConstants.{QUEUE_LIMIT}
use Rattle.lwkt_port.specs.declared.opened_ports.TheConstants.{PORTS}

-- the urgent notes of a port, and the others, the oldest first
abbrev pub urgent_of : Port → List Note
urgent_of port = port.urgent

abbrev pub ordinary_of : Port → List Note
ordinary_of port = port.ordinary

-- the notes of a port, in the order in which they are served
abbrev pub queue_of : Port → List Note
queue_of port = urgent_of port ++ ordinary_of port

-- a note was put at the end of a list of notes that had room, or found it full
abbrev pub IsPut : Note → List Note → List Note → Bool → Type 0
IsPut note queue queue' true = (queue' ≡ queue ++ note ∷ []) × (length queue < QUEUE_LIMIT)
IsPut note queue queue' false = (queue' ≡ queue) × (length queue ≡ QUEUE_LIMIT)

-- a note was put at the end of the queue of its class, or found that full; the other queue stays
abbrev pub IsQueuedAs : Bool → Note → Port → Port → Bool → Type 0
IsQueuedAs true note port port' true = (urgent_of port' ≡ urgent_of port ++ note ∷ []) × (length (urgent_of port) < QUEUE_LIMIT) × (ordinary_of port' ≡ ordinary_of port) × (port'.closed ≡ port.closed)
IsQueuedAs false note port port' true = (ordinary_of port' ≡ ordinary_of port ++ note ∷ []) × (length (ordinary_of port) < QUEUE_LIMIT) × (urgent_of port' ≡ urgent_of port) × (port'.closed ≡ port.closed)
IsQueuedAs true note port port' false = (port' ≡ port) × (length (urgent_of port) ≡ QUEUE_LIMIT)
IsQueuedAs false note port port' false = (port' ≡ port) × (length (ordinary_of port) ≡ QUEUE_LIMIT)

abbrev pub IsQueued : Note → Port → Port → Bool → Type 0
IsQueued note port port' done = IsQueuedAs note.urgent note port port' done

-- notes left a port, of each class from the front of its queue, and others only where no urgent one stayed
pub record LeavesInOrder (port port' : Port) : Type 0 where
  pub urgent : List Note
  pub ordinary : List Note
  pub urgent_is : urgent_of port ≡ urgent ++ urgent_of port'
  pub ordinary_is : ordinary_of port ≡ ordinary ++ ordinary_of port'
  pub urgent_first : (ordinary ≡ []) ⊎ (urgent_of port' ≡ [])

-- the first note of a port left it, so that these are left
abbrev pub HasLeft : List Note → Port → Port → Type 0
HasLeft rest port port' = (queue_of port' ≡ rest) × (port'.closed ≡ port.closed) × LeavesInOrder port port'

-- a note names one of so many messages; and one of the ports too
abbrev pub NamesMessage : ℕ → Note → Type 0
NamesMessage n note = note.msg.0 < n

abbrev pub NamesBoth : ℕ → Note → Type 0
NamesBoth n note = (note.msg.0 < n) × (note.port < PORTS)

-- a note of a class names one of so many messages
abbrev pub Belongs : ℕ → Bool → Note → Type 0
Belongs n urgent note = (note.msg.0 < n) × (note.urgent ≡ urgent)

-- each note of a port names a message, and stands in the queue of its class
unfoldable pub HasNamed : ℕ → Port → Type 0
HasNamed n port = All (Belongs n true) (urgent_of port) × All (Belongs n false) (ordinary_of port)

-- each of these facts has one proof at most
pub all-prop : {A : Type 0} (P : A → Type 0) → ((x : A) → IsProp (P x)) → (xs : List A) → IsProp (All P xs)
all-prop P each xs = Π_prop (λ k. Π_prop (λ d. →_prop (each (slice_index_or xs k d))))

pub belongs-prop : (n : ℕ) (urgent : Bool) (note : Note) → IsProp (Belongs n urgent note)
belongs-prop n urgent note = ×_prop le_prop (Coded-set coded_bool note.urgent urgent)

pub has_named-prop : (n : ℕ) (port : Port) → IsProp (HasNamed n port)
unfolding HasNamed
has_named-prop n port = ×_prop (all-prop (Belongs n true) (belongs-prop n true) (urgent_of port)) (all-prop (Belongs n false) (belongs-prop n false) (ordinary_of port))

pub have_named-prop : (n : ℕ) (ports : List Port) → IsProp (All (HasNamed n) ports)
have_named-prop n ports = all-prop (HasNamed n) (has_named-prop n) ports
