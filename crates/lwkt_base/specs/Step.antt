-- The steps of a thread: their words, and what stands behind each (own).
use Rattle.std.specs.Prelude.{◌≡◌, ◌&&◌, ℕ, Bool, true, false, List, [], ◌∷◌, codes, bytes_eq, Option, Some, None, IfSome, is_some, option_and_then, if◌then◌else◌}
use Rattle.std.specs.List.{find}
use Rattle.lwkt_base.specs.declared.steps.TheConstants.{VERBS}
use Rattle.lwkt_base.specs.declared.asks.Ask.{Ask}
use Rattle.lwkt_base.specs.declared.asks.Ask.TheVariants as asks
use Rattle.lwkt_base.specs.declared.steps.Part.{Part}
use Rattle.lwkt_base.specs.declared.steps.Part.TheVariants.{Token, Cell, Value, Record, Message, Target, Call, Flags, Code, Outcome}
use Rattle.lwkt_base.specs.declared.steps.PartKind.{PartKind}
use Rattle.lwkt_base.specs.declared.steps.PartKind.TheVariants as kinds
use Rattle.lwkt_base.specs.declared.steps.Verb.{Verb}
use Rattle.lwkt_base.specs.declared.steps.Verb.TheVariants.{Get, GetShared, TryGet, Rel, Swap, Read, Write, Add, ReadBlob, WriteBlob, Send, Do, Reply, Abort, IsAborted, DropMsg, GetPort, WaitPort, Yield, Exit, Assert}

-- the table: the word of each kind of step, and the kinds of what stands behind it
abbrev pub row_of : Verb → List ℕ × List PartKind
row_of Get = (codes "get", kinds.Token ∷ [])
row_of GetShared = (codes "gets", kinds.Token ∷ [])
row_of TryGet = (codes "try", kinds.Token ∷ [])
row_of Rel = (codes "rel", kinds.Token ∷ [])
row_of Swap = (codes "swap", [])
row_of Read = (codes "read", kinds.Cell ∷ [])
row_of Write = (codes "write", kinds.Cell ∷ kinds.Value ∷ [])
row_of Add = (codes "add", kinds.Token ∷ kinds.Value ∷ [])
row_of ReadBlob = (codes "rrec", kinds.Token ∷ [])
row_of WriteBlob = (codes "wrec", kinds.Token ∷ kinds.Record ∷ [])
row_of Send = (codes "send", kinds.Message ∷ kinds.Target ∷ kinds.Call ∷ kinds.Flags ∷ [])
row_of Do = (codes "do", kinds.Message ∷ kinds.Target ∷ kinds.Call ∷ [])
row_of Reply = (codes "reply", kinds.Message ∷ kinds.Code ∷ kinds.Outcome ∷ [])
row_of Abort = (codes "abort", kinds.Message ∷ [])
row_of IsAborted = (codes "isab", kinds.Message ∷ [])
row_of DropMsg = (codes "drop", kinds.Message ∷ [])
row_of GetPort = (codes "getport", [])
row_of WaitPort = (codes "wait", [])
row_of Yield = (codes "yield", [])
row_of Exit = (codes "exit", [])
row_of Assert = (codes "assert", kinds.Code ∷ [])

abbrev pub word_of : Verb → List ℕ
word_of verb = (row_of verb).0

abbrev pub part_kinds : Verb → List PartKind
part_kinds verb = (row_of verb).1

-- whether only scripts of the second version have such steps: those at a record
abbrev pub is_later : Verb → Bool
is_later ReadBlob = true
is_later WriteBlob = true
is_later _ = false

-- whether a step of a kind is written as its word and its parts: an assertion isn't, which has a condition
abbrev pub is_written : Verb → Bool
is_written Assert = false
is_written _ = true

-- the kind of step that has this word
abbrev pub verb_named : List ℕ → Option Verb
verb_named word = find (λ verb. bytes_eq (word_of verb) word) VERBS

-- the same, if such steps are written as a word and parts
abbrev pub verb_written : List ℕ → Option Verb
verb_written word = option_and_then (λ verb. if is_written verb then Some verb else None) (verb_named word)

-- the step that stands for an ask
abbrev pub step_of : Ask → Verb × List Part
step_of (asks.Get tok) = (Get, Token tok ∷ [])
step_of (asks.GetShared tok) = (GetShared, Token tok ∷ [])
step_of (asks.TryGet tok) = (TryGet, Token tok ∷ [])
step_of (asks.Rel tok) = (Rel, Token tok ∷ [])
step_of asks.Swap = (Swap, [])
step_of (asks.Read tok cell) = (Read, Cell tok cell ∷ [])
step_of (asks.Write tok cell value) = (Write, Cell tok cell ∷ Value value ∷ [])
step_of (asks.Add tok value) = (Add, Token tok ∷ Value value ∷ [])
step_of (asks.ReadBlob tok) = (ReadBlob, Token tok ∷ [])
step_of (asks.WriteBlob tok blob) = (WriteBlob, Token tok ∷ Record blob ∷ [])
step_of (asks.Send msg to call flags) = (Send, Message msg ∷ Target to ∷ Call call ∷ Flags flags ∷ [])
step_of (asks.Do msg to call) = (Do, Message msg ∷ Target to ∷ Call call ∷ [])
step_of (asks.Reply msg error outcome) = (Reply, Message msg ∷ Code error ∷ Outcome outcome ∷ [])
step_of (asks.Abort msg) = (Abort, Message msg ∷ [])
step_of (asks.IsAborted msg) = (IsAborted, Message msg ∷ [])
step_of (asks.DropMsg msg) = (DropMsg, Message msg ∷ [])
step_of asks.GetPort = (GetPort, [])
step_of asks.WaitPort = (WaitPort, [])
step_of asks.Yield = (Yield, [])
step_of asks.Exit = (Exit, [])
step_of (asks.Fail number) = (Assert, Code number ∷ [])

-- the ask that a step stands for, if its parts are of its kinds
abbrev pub ask_of : Verb → List Part → Option Ask
ask_of Get (Token tok ∷ []) = Some (asks.Get tok)
ask_of GetShared (Token tok ∷ []) = Some (asks.GetShared tok)
ask_of TryGet (Token tok ∷ []) = Some (asks.TryGet tok)
ask_of Rel (Token tok ∷ []) = Some (asks.Rel tok)
ask_of Swap [] = Some asks.Swap
ask_of Read (Cell tok cell ∷ []) = Some (asks.Read tok cell)
ask_of Write (Cell tok cell ∷ Value value ∷ []) = Some (asks.Write tok cell value)
ask_of Add (Token tok ∷ Value value ∷ []) = Some (asks.Add tok value)
ask_of ReadBlob (Token tok ∷ []) = Some (asks.ReadBlob tok)
ask_of WriteBlob (Token tok ∷ Record blob ∷ []) = Some (asks.WriteBlob tok blob)
ask_of Send (Message msg ∷ Target to ∷ Call call ∷ Flags flags ∷ []) = Some (asks.Send msg to call flags)
ask_of Do (Message msg ∷ Target to ∷ Call call ∷ []) = Some (asks.Do msg to call)
ask_of Reply (Message msg ∷ Code error ∷ Outcome outcome ∷ []) = Some (asks.Reply msg error outcome)
ask_of Abort (Message msg ∷ []) = Some (asks.Abort msg)
ask_of IsAborted (Message msg ∷ []) = Some (asks.IsAborted msg)
ask_of DropMsg (Message msg ∷ []) = Some (asks.DropMsg msg)
ask_of GetPort [] = Some asks.GetPort
ask_of WaitPort [] = Some asks.WaitPort
ask_of Yield [] = Some asks.Yield
ask_of Exit [] = Some asks.Exit
ask_of Assert (Code number ∷ []) = Some (asks.Fail number)
ask_of _ _ = None

-- whether a part is of a kind
abbrev pub is_of_kind : PartKind → Part → Bool
is_of_kind kinds.Token (Token tok) = true
is_of_kind kinds.Cell (Cell tok cell) = true
is_of_kind kinds.Value (Value value) = true
is_of_kind kinds.Record (Record blob) = true
is_of_kind kinds.Message (Message msg) = true
is_of_kind kinds.Target (Target to) = true
is_of_kind kinds.Call (Call call) = true
is_of_kind kinds.Flags (Flags flags) = true
is_of_kind kinds.Code (Code error) = true
is_of_kind kinds.Outcome (Outcome outcome) = true
is_of_kind _ _ = false

-- whether parts are of kinds, one by one
abbrev pub fits : List PartKind → List Part → Bool
fits [] [] = true
fits (kind ∷ kinds) (part ∷ parts) = is_of_kind kind part && fits kinds parts
fits _ _ = false

-- the step of an ask stands for that ask
abbrev pub StepsDecideAsks : Type 0
StepsDecideAsks = (ask : Ask) → ask_of (step_of ask).0 (step_of ask).1 ≡ Some ask

-- the ask of a step has that step
abbrev pub AsksDecideSteps : Type 0
AsksDecideSteps = (verb : Verb) (parts : List Part) → IfSome (ask_of verb parts) (λ ask. step_of ask ≡ (verb, parts))

-- each kind of step has a word of its own
abbrev pub WordsNameVerbs : Type 0
WordsNameVerbs = (verb : Verb) → verb_named (word_of verb) ≡ Some verb

-- parts make a step of a kind if they are of its kinds, and only then
abbrev pub PartsFit : Type 0
PartsFit = (verb : Verb) (parts : List Part) → is_some (ask_of verb parts) ≡ fits (part_kinds verb) parts
