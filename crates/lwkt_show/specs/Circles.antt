-- Threads that wait for each other's replies (own).
use Rattle.std.specs.Prelude.{ℕ, zero, suc, ◌||◌, Bool, false, if◌then◌else◌, List, [], ◌++◌, length, codes, Option, find, option_map}
use Rattle.std.specs.Option.{option_map_or}
use Rattle.lwkt_base.specs.declared.names.ThreadId.{ThreadId}
use Rattle.lwkt_text.specs.declared.tables.Names.{Names}
use Rattle.lwkt_told.specs.Called.{is_thread}
use Rattle.lwkt_show.specs.declared.circles.Wait.{Wait}
use Rattle.lwkt_show.specs.Words.{thread_said}

-- the thread whose reply a thread waits for
abbrev pub next_of : List Wait → ThreadId → Option ThreadId
next_of waits id = option_map (λ (wait : Wait). wait.to) (find (λ (wait : Wait). is_thread wait.from id) waits)

-- whether at most so many waits lead from a thread to the first one
abbrev pub comes_back : (ThreadId → Option ThreadId) → ThreadId → ℕ → ThreadId → Bool
comes_back next first zero now = false
comes_back next first (suc n) now = option_map_or (λ to. is_thread to first || comes_back next first n to) (next now) false

-- the first thread that waits, through others, for itself
abbrev pub first_of : List Wait → Option ThreadId
first_of waits = option_map (λ (wait : Wait). wait.from) (find (λ (wait : Wait). comes_back (next_of waits) wait.from (length waits) wait.from) waits)

-- ` → B`, where the arrow is that of a picture
abbrev pub arrow_text : Option Names → ThreadId → List ℕ
arrow_text names id = codes " &#8594; " ++ thread_said names id

-- the threads behind a thread, each waited for by the one before it, at most so many and up to the first: ` → B → A`
abbrev pub others_text : Option Names → (ThreadId → Option ThreadId) → ThreadId → ℕ → ThreadId → List ℕ
others_text names next first zero now = []
others_text names next first (suc n) now =
    option_map_or (λ to. arrow_text names to ++ (if is_thread to first then [] else others_text names next first n to)) (next now) []

-- `A → B → A`: each waits for the next one's reply
abbrev pub circle_text : Option Names → List Wait → ThreadId → List ℕ
circle_text names waits first = thread_said names first ++ others_text names (next_of waits) first (length waits) first
