-- The steps of a thread in JSON: a word of the table of steps, and what stands behind it.
use Rattle.std.specs.Prelude.{ℕ, ◌+◌, ◌-◌, ◌==◌, ◌&&◌, nat_lt, Bool, List, [], ◌∷◌, true, false, not, if◌then◌else◌, Option, Some, None, option_and_then}
use Rattle.serde_json.specs.Data.{Data}
use Rattle.serde_json.specs.Find.{at, as_str}
use Rattle.lwkt_base.specs.declared.asks.Ask.{Ask}
use Rattle.lwkt_base.specs.declared.records.Flags.{Flags as FlagsOf}
use Rattle.lwkt_base.specs.declared.steps.Part.{Part}
use Rattle.lwkt_base.specs.declared.steps.Part.TheVariants.{Token, Cell, Value, Record, Message, Target, Call, Flags, Code, Outcome}
use Rattle.lwkt_base.specs.declared.steps.PartKind.{PartKind}
use Rattle.lwkt_base.specs.declared.steps.PartKind.TheVariants as kinds
use Rattle.lwkt_base.specs.declared.steps.Verb.{Verb}
use Rattle.lwkt_base.specs.declared.limits.TheConstants.{MOST_CODE}
use Rattle.lwkt_base.specs.Step.{verb_written, part_kinds, is_later as is_later_verb, ask_of}
use Rattle.lwkt_script.specs.declared.versions.Version.{Version}
use Rattle.lwkt_script.specs.Version.{is_later}
use Rattle.lwkt_script.specs.Record.{blob_in}
use Rattle.lwkt_script.specs.Field.{item_count, number, whole}

infixl 10 ◌>>=◌
abbrev pub ◌>>=◌ : {A B : Type 0} → Option A → (A → Option B) → Option B
o >>= f = option_and_then f o

-- item i, the number of a token, a cell, a message, a processor or a thread
abbrev pub small_at : ℕ → Data → Option ℕ
small_at i d = at i d >>= number 0 255

-- item i, a number of 32 bits
abbrev pub code_at : ℕ → Data → Option ℕ
code_at i d = at i d >>= number 0 MOST_CODE

-- item i, any whole number
abbrev pub whole_at : ℕ → Data → Option ℕ
whole_at i d = at i d >>= whole

-- flags: 1 for dropable plus 2 for abortable
abbrev pub flags_under : Bool → ℕ → Option FlagsOf
flags_under priority n =
    if n == 0 then Some (record { dropable = false; abortable = false; priority = priority }) else (
    if n == 1 then Some (record { dropable = true; abortable = false; priority = priority }) else (
    if n == 2 then Some (record { dropable = false; abortable = true; priority = priority }) else (
    if n == 3 then Some (record { dropable = true; abortable = true; priority = priority }) else None)))

-- the same, and in the second version plus 4 for priority
abbrev pub flags_by_number : Version → ℕ → Option FlagsOf
flags_by_number version n = if nat_lt n 4 then flags_under false n else (if is_later version then flags_under true (n - 4) else None)

-- how many items a part of a kind takes
abbrev pub width_of : PartKind → ℕ
width_of kinds.Cell = 2
width_of kinds.Target = 2
width_of kinds.Call = 2
width_of _ = 1

-- the part of a kind from item i on; a record has at most 65 bytes, and one of 65 is too long for every token
abbrev pub step_part : Version → PartKind → ℕ → Data → Option Part
step_part _ kinds.Token i d = small_at i d >>= λ n. Some (Token (record { 0 = n }))
step_part _ kinds.Cell i d = small_at i d >>= λ n. small_at (i + 1) d >>= λ cell. Some (Cell (record { 0 = n }) cell)
step_part _ kinds.Value i d = whole_at i d >>= λ n. Some (Value n)
step_part _ kinds.Record i d = (at i d >>= blob_in 65) >>= λ blob. Some (Record blob)
step_part _ kinds.Message i d = small_at i d >>= λ n. Some (Message (record { 0 = n }))
step_part _ kinds.Target i d = small_at i d >>= λ n. small_at (i + 1) d >>= λ thread. Some (Target (record { cpu = record { 0 = n }; thread = thread }))
step_part _ kinds.Call i d = code_at i d >>= λ op. whole_at (i + 1) d >>= λ arg. Some (Call (record { arg = arg; op = op }))
step_part version kinds.Flags i d = (whole_at i d >>= flags_by_number version) >>= λ flags. Some (Flags flags)
step_part _ kinds.Code i d = code_at i d >>= λ n. Some (Code n)
step_part _ kinds.Outcome i d = whole_at i d >>= λ n. Some (Outcome n)

-- the parts of kinds from item i on, and nothing more in a step of so many items
abbrev pub step_parts : Version → List PartKind → ℕ → ℕ → Data → Option (List Part)
step_parts version [] i count d = if i == count then Some [] else None
step_parts version (kind ∷ kinds) i count d = step_part version kind i d >>= λ part. step_parts version kinds (i + width_of kind) count d >>= λ parts. Some (part ∷ parts)

-- the kind of step that has this word in a version
abbrev pub verb_in : Version → List ℕ → Option Verb
verb_in version word = verb_written word >>= λ verb. if is_later_verb verb && not (is_later version) then None else Some verb

-- the ask of a step of this kind that has so many items
abbrev pub ask_with : Version → Verb → ℕ → Data → Option Ask
ask_with version verb count d = step_parts version (part_kinds verb) 1 count d >>= ask_of verb

-- the ask of a step: a word, and what stands behind it
abbrev pub ask_in : Version → Data → Option Ask
ask_in version d = item_count d >>= λ count. (at 0 d >>= as_str) >>= λ word. verb_in version word >>= λ verb. ask_with version verb count d
