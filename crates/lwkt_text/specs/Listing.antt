-- The names that a text gives, and how many processors it has (own).
use Rattle.std.specs.Prelude.{ℕ, ◌+◌, ◌-◌, ◌<◌, ◌≤◌, ◌==◌, not, nat_le, List, [], ◌∷◌, ◌++◌, length, codes, true, false, if◌then◌else◌, count_by, is_some, ⊤, Result, Ok, Err}
use Rattle.lwkt_base.specs.declared.names.ThreadId.{ThreadId}
use Rattle.lwkt_base.specs.declared.limits.TheConstants.{CPU_LIMIT, MOST_CPUS}
use Rattle.lwkt_text.specs.declared.listings.Listing.{Listing}
use Rattle.lwkt_text.specs.declared.declarations.CellList.{CellList}
use Rattle.lwkt_text.specs.declared.tables.Names.{Names}
use Rattle.lwkt_text.specs.declared.words.Sentence.{Sentence}
use Rattle.lwkt_text.specs.declared.words.Word.{Word}
use Rattle.lwkt_text.specs.declared.wrongs.What.TheVariants as whats
use Rattle.lwkt_text.specs.declared.wrongs.Wrong.{Wrong}
use Rattle.lwkt_text.specs.Looking.{text_at, is_at, demand_at, name_at, number_at}
use Rattle.lwkt_text.specs.Naming.{position}
use Rattle.lwkt_text.specs.Outcome.{◌>>◌}
use Rattle.lwkt_text.specs.Parting.{cells_in}

-- before the first sentence: one processor
abbrev pub no_names : Names
no_names = record { tokens = []; cells = []; messages = []; threads = []; ids = []; vars = []; cpus = 1 }

abbrev pub no_listing : Listing
no_listing = record { names = no_names; is_said = false; faults = [] }

-- there are 1 to 8 processors
abbrev pub HasCpus : Listing → Type 0
HasCpus l = (0 < l.names.cpus) × (l.names.cpus ≤ CPU_LIMIT)

-- word 1 is a name that none of these is
abbrev pub new_name : List (List ℕ) → List Word → Result ⊤ Wrong
new_name names ws = name_at ws 1 >> demand_at ws 1 whats.Twice (not (is_some (position names (text_at ws 1))))

-- the names of cells that were read
abbrev pub names_read : Result CellList Wrong → List (List ℕ)
names_read (Ok cells) = cells.names
names_read (Err wrong) = []

-- one more fault
abbrev pub wrong_noted : Wrong → Listing → Listing
wrong_noted wrong l = record l { faults = l.faults ++ wrong ∷ [] }

abbrev pub token_added : List Word → Names → Names
token_added ws n = record n { tokens = n.tokens ++ (text_at ws 1) ∷ []; cells = n.cells ++ (names_read (cells_in ws)) ∷ [] }

abbrev pub message_added : List Word → Names → Names
message_added ws n = record n { messages = n.messages ++ (text_at ws 1) ∷ [] }

-- the number of the next thread of a processor: how many it has, 255 at most
abbrev pub next_thread : ℕ → List ThreadId → ℕ
next_thread cpu ids = let count = count_by (λ id. id.cpu.0 == cpu) ids in if nat_le count 255 then count else 255

abbrev pub thread_added : List Word → ℕ → Names → Names
thread_added ws cpu n = record n { threads = n.threads ++ (text_at ws 1) ∷ []; ids = n.ids ++ (record { cpu = record { 0 = cpu }; thread = next_thread cpu n.ids }) ∷ [] }

-- a variable of the thread that was named last
abbrev pub var_added : List Word → Names → Names
var_added ws n = record n { vars = n.vars ++ (record { thread = length n.threads - 1; name = text_at ws 1 }) ∷ [] }

-- the processor that a thread's sentence names, 0 where it names none
abbrev pub cpu_read : Result ℕ Wrong → ℕ
cpu_read (Ok cpu) = cpu
cpu_read (Err wrong) = 0

abbrev pub cpu_named : List Word → ℕ
cpu_named ws = cpu_read (number_at ws 3 0 7)

-- where no sentence says how many processors there are, there are those on which threads are
abbrev pub cpu_used : ℕ → Listing → Listing
cpu_used cpu l = if l.is_said then l else (if nat_le (cpu + 1) l.names.cpus then l else record l { names = record l.names { cpus = cpu + 1 } })

-- a thread of a processor is named
abbrev pub thread_used : List Word → ℕ → Listing → Listing
thread_used ws cpu l = cpu_used cpu (record l { names = thread_added ws cpu l.names })

abbrev pub token_listed : Result ⊤ Wrong → List Word → Listing → Listing
token_listed (Ok ok) ws l = record l { names = token_added ws l.names }
token_listed (Err wrong) ws l = wrong_noted wrong l

abbrev pub message_listed : Result ⊤ Wrong → List Word → Listing → Listing
message_listed (Ok ok) ws l = record l { names = message_added ws l.names }
message_listed (Err wrong) ws l = wrong_noted wrong l

abbrev pub thread_listed : Result ⊤ Wrong → List Word → Listing → Listing
thread_listed (Ok ok) ws l = thread_used ws (cpu_named ws) l
thread_listed (Err wrong) ws l = wrong_noted wrong l

-- `cpus N`; what is wrong with it is said where settings are read
abbrev pub cpus_listed : Result ℕ Wrong → Listing → Listing
cpus_listed (Ok cpus) l = record l { names = record l.names { cpus = cpus }; is_said = true }
cpus_listed (Err wrong) l = l

-- what a sentence adds
unfoldable pub sentence_listed : List Word → Listing → Listing
sentence_listed ws l =
    if is_at ws 0 (codes "token") then token_listed (new_name l.names.tokens ws) ws l else (
    if is_at ws 0 (codes "message") then message_listed (new_name l.names.messages ws) ws l else (
    if is_at ws 0 (codes "thread") then thread_listed (new_name l.names.threads ws) ws l else (
    if is_at ws 0 (codes "cpus") then cpus_listed (number_at ws 1 1 MOST_CPUS) l else (
    if is_at ws 0 (codes "var") then record l { names = var_added ws l.names } else l))))

abbrev pub all_listed : List Sentence → Listing → Listing
all_listed [] l = l
all_listed (s ∷ ss) l = all_listed ss (sentence_listed s.words l)
