-- What a body asks and logs over all its polls (own).
use Rattle.std.specs.Prelude.{◌≡◌, ℕ, List, [], ◌∷◌, ◌++◌, map, take, slice_get, option_to_list, Option, Some, None}
use Rattle.lwkt_base.specs.declared.asks.Ask.{Ask}
use Rattle.lwkt_base.specs.declared.asks.Answer.{Answer}
use Rattle.lwkt_base.specs.declared.entries.Entry.{Entry}
use Rattle.lwkt_base.specs.declared.limits.TheConstants.{LOG_LIMIT}
use Rattle.lwkt_code.specs.declared.locals.Local.{Local}
use Rattle.lwkt_code.specs.declared.steps.Step.{Step}
use Rattle.lwkt_code.specs.Next.{next, asks_by}
use Rattle.lwkt_code.specs.Programs.{Program, start, listed_program, listed_ask}
use Rattle.lwkt_script.specs.Logs.{failure_of}
use Rattle.lwkt_machine.specs.Bodies.{Scripted, unpolled, entry_by, IsPolled}

-- polls of a body one after another: the answer that it was given at each, and what it asked there
abbrev pub ArePolls : Scripted → List (Answer × Ask) → Scripted → Type 0
ArePolls old [] new = new ≡ old
ArePolls old (q ∷ qs) new = (mid : Scripted) × (IsPolled old q.0 q.1 mid × ArePolls mid qs new)

-- the entries that polls make, from where the body stands and what it asked last: those of the answers, by the asks that they answer, and
-- those of assertions that don't hold
abbrev pub entries_made : List Step → Local → Option Ask → List (Answer × Ask) → List Entry
entries_made steps s asked [] = []
entries_made steps s asked (q ∷ qs) = option_to_list (entry_by steps s asked q.0) ++ option_to_list (failure_of q.1) ++ entries_made steps (next steps s q.0).1 (Some q.1) qs

-- a theorem: the asks of a body are those of its program, by the answers that it was given
abbrev pub AsksAreTheScripts : Type 0
AsksAreTheScripts = (program : Program) (polls : List (Answer × Ask)) (b : Scripted) → ArePolls (unpolled program) polls b → map (λ (q : Answer × Ask). q.1) polls ≡ asks_by program.steps (start program) (map (λ (q : Answer × Ask). q.0) polls)

-- a theorem: a body whose steps are a list of asks makes them in order, so many times over, and then asks Exit, each by the number of polls
-- before it
abbrev pub AsksAreTheLists : Type 0
AsksAreTheLists = (asks : List Ask) (repeat : ℕ) (polls : List (Answer × Ask)) (b : Scripted) → ArePolls (unpolled (listed_program asks repeat)) polls b → (k : ℕ) (q : Answer × Ask) → slice_get polls k ≡ Some q → q.1 ≡ listed_ask repeat asks k

-- a theorem: the log of a body is the first 32 entries that its polls make
abbrev pub LogsAreFirstEntries : Type 0
LogsAreFirstEntries = (program : Program) (polls : List (Answer × Ask)) (b : Scripted) → ArePolls (unpolled program) polls b → b.log ≡ take LOG_LIMIT (entries_made program.steps (start program) None polls)
