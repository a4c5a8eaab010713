use Rattle.std.specs.Prelude.{ℕ, ◌+◌, true, false, List, [], ◌∷◌, ◌++◌, Option, None, Some, codes, take}
use Rattle.std.specs.Fmt.{decimal}
use Rattle.std.specs.List.{flat_map}
use Rattle.lwkt_base.specs.declared.names.Mode.{Mode}
use Rattle.lwkt_base.specs.declared.names.Mode.TheVariants.{Exclusive, Shared}
use Rattle.lwkt_base.specs.declared.names.Ref.{Ref}
use Rattle.lwkt_base.specs.declared.owners.Owner.{Owner}
use Rattle.lwkt_base.specs.declared.owners.Owner.TheVariants.{Rest, Out, With, Back}
use Rattle.lwkt_base.specs.declared.owners.MsgEnd.{MsgEnd}
use Rattle.lwkt_base.specs.declared.threads.ThreadState.{ThreadState}
use Rattle.lwkt_base.specs.declared.threads.ThreadState.TheVariants.{Ready, Waiting, Running, Exited, Faulted}
use Rattle.lwkt_base.specs.Fault.{number_of}
use Rattle.lwkt_base.specs.Hex.{bytes_text}
use Rattle.lwkt_report.specs.declared.closings.Closing.{Closing}
use Rattle.lwkt_report.specs.declared.closings.TokenLine.{TokenLine}
use Rattle.lwkt_base.specs.declared.threads.ThreadLine.{ThreadLine}
use Rattle.lwkt_base.specs.declared.entries.Entry.{Entry}
use Rattle.lwkt_base.specs.declared.limits.TheConstants.{RECORD_LIMIT}
use Rattle.lwkt_base.specs.declared.entries.Entry.TheVariants.{Value, Bytes, Aborted, Request, Reply, NoMessage, Dropped, Refused, Failed}
use Rattle.lwkt_report.specs.declared.closings.Verdict.{Verdict}
use Rattle.lwkt_report.specs.declared.closings.Verdict.TheVariants.{Closed, Lawful, Unlawful}

-- the text of a report; each line is ended by a line feed, and numbers are plain decimal (own)

-- the line feed that ends a line
abbrev pub line_feed : List ℕ
line_feed = 10 ∷ []

-- the texts of some parts, each after a space
abbrev pub spaced : {A : Type 0} → (A → List ℕ) → List A → List ℕ
spaced text parts = flat_map (λ part. codes " " ++ text part) parts

-- the same, or a `-` after a space where there is no part
abbrev pub spaced_or_dash : {A : Type 0} → (A → List ℕ) → List A → List ℕ
spaced_or_dash text [] = codes " -"
spaced_or_dash text (part ∷ parts) = spaced text (part ∷ parts)

-- the lines of some items, numbered from n
abbrev pub numbered_lines : {A : Type 0} → (ℕ → A → List ℕ) → ℕ → List A → List ℕ
numbered_lines line n [] = []
numbered_lines line n (item ∷ items) = line n item ++ numbered_lines line (n + 1) items

-- `tally T A0 A1 ..`, for a Tally token alone
abbrev pub tally_line : ℕ → Option (List ℕ) → List ℕ
tally_line tok None = []
tally_line tok (Some tallies) = codes "tally " ++ decimal tok ++ spaced decimal tallies ++ line_feed

-- the bytes of a record, two digits for each, or `-` for none; a record has at most 64
abbrev pub record_text : List ℕ → List ℕ
record_text blob = bytes_text (take RECORD_LIMIT blob)

-- `record T HEX`, for a token with a record alone
abbrev pub record_line : ℕ → Option (List ℕ) → List ℕ
record_line tok None = []
record_line tok (Some blob) = codes "record " ++ decimal tok ++ codes " " ++ record_text blob ++ line_feed

-- `token T gen G cells C0 C1 ..`, and then its tally line and its record line
abbrev pub token_line : ℕ → TokenLine → List ℕ
token_line tok line =
    codes "token " ++ decimal tok ++ codes " gen " ++ decimal line.generation ++ codes " cells" ++ spaced_or_dash decimal line.cells ++ line_feed ++ tally_line tok line.tallies ++ record_line tok line.blob

-- where a message is
abbrev pub owner_text : Owner → List ℕ
owner_text (Rest origin) = codes "rest"
owner_text (Out origin target) = codes "out"
owner_text (With origin target) = codes "with"
owner_text (Back origin target) = codes "back"

-- `message M round R STATE`
abbrev pub message_line : ℕ → MsgEnd → List ℕ
message_line message end =
    codes "message " ++ decimal message ++ codes " round " ++ decimal end.round ++ codes " " ++ owner_text end.state ++ line_feed

-- what a thread is doing
abbrev pub state_text : ThreadState → List ℕ
state_text Ready = codes "ready"
state_text Waiting = codes "waiting"
state_text Running = codes "running"
state_text Exited = codes "exited"
state_text (Faulted fault) = codes "faulted " ++ decimal (number_of fault)

-- the letter of a mode
abbrev pub mode_text : Mode → List ℕ
mode_text Exclusive = codes "x"
mode_text Shared = codes "s"

-- a reference: the token's number and the mode
abbrev pub ref_text : Ref → List ℕ
ref_text r = decimal r.tok.0 ++ mode_text r.mode

-- an entry of a log: `v=VALUE`, `b=HEX`, `a=0` or `a=1`, `q=MSG:OP:ARG`, `r=MSG:ERROR:RESULT`, `n`, `d=MSG:OP:ARG`, `f=NUMBER` or `x=NUMBER`
abbrev pub entry_text : Entry → List ℕ
entry_text (Value value) = codes "v=" ++ decimal value
entry_text (Bytes blob) = codes "b=" ++ record_text blob
entry_text (Aborted false) = codes "a=0"
entry_text (Aborted true) = codes "a=1"
entry_text (Request message call) = codes "q=" ++ decimal message.0 ++ codes ":" ++ decimal call.op ++ codes ":" ++ decimal call.arg
entry_text (Reply message error outcome) = codes "r=" ++ decimal message.0 ++ codes ":" ++ decimal error ++ codes ":" ++ decimal outcome
entry_text NoMessage = codes "n"
entry_text (Dropped message call) = codes "d=" ++ decimal message.0 ++ codes ":" ++ decimal call.op ++ codes ":" ++ decimal call.arg
entry_text (Refused number) = codes "f=" ++ decimal number
entry_text (Failed number) = codes "x=" ++ decimal number

-- `thread P.T STATE list L log E`
abbrev pub thread_line : ThreadLine → List ℕ
thread_line line =
    codes "thread " ++ decimal line.id.cpu.0 ++ codes "." ++ decimal line.id.thread ++ codes " " ++ state_text line.state ++ codes " list" ++ spaced_or_dash ref_text line.list ++ codes " log" ++ spaced_or_dash entry_text line.log ++ line_feed

-- `closed`, `lawful` or `unlawful INDEX`
abbrev pub verdict_line : Verdict → List ℕ
verdict_line Closed = codes "closed" ++ line_feed
verdict_line Lawful = codes "lawful" ++ line_feed
verdict_line (Unlawful index) = codes "unlawful " ++ decimal index ++ line_feed

-- the lines of a report but the last: the tokens, the messages, the threads
unfoldable pub front_text : Closing → List ℕ
front_text closing =
    numbered_lines token_line 0 closing.tokens.items ++ numbered_lines message_line 0 closing.messages.items ++ flat_map thread_line closing.threads.items

-- the tokens, the messages, the threads, and what is said of the trace
unfoldable pub report_text : Closing → List ℕ
report_text closing =
    numbered_lines token_line 0 closing.tokens.items ++ numbered_lines message_line 0 closing.messages.items ++ flat_map thread_line closing.threads.items ++ verdict_line closing.verdict
