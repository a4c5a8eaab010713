use Rattle.std.proofs.Common.{inl, inr, ◌≡◌, ℕ, ◌<◌, List, [], ◌∷◌, length, drop, get_or, arith, refl, sym, ap, ap₂, ◌∙◌, subst, Option, Some, None}
use Rattle.std.specs.Prelude.{◌⊎◌, ◌↔◌, IsTrue, Bool, true, false, not, ◌==◌, ◌&&◌, is_some, if◌then◌else◌}
use Rattle.std.proofs.lemmas.Bool.{false≢true, and_parts}
use Rattle.lwkt_base.specs.declared.asks.Ask.{Ask}
use Rattle.lwkt_base.specs.declared.asks.Ask.TheVariants.{Get, GetShared, TryGet, Rel, Swap, Read as ReadAsk, Write as WriteAsk, Add as AddAsk, ReadBlob as ReadBlobAsk, WriteBlob as WriteBlobAsk, Send as SendAsk, Do as DoAsk, Reply as ReplyAsk, Abort as AbortAsk, IsAborted, DropMsg as DropAsk, GetPort, WaitPort, Yield, Exit, Fail}
use Rattle.lwkt_base.specs.declared.names.CpuId.{CpuId}
use Rattle.lwkt_base.specs.declared.names.TokId.{TokId}
use Rattle.lwkt_base.specs.declared.asks.Answer.{Answer}
use Rattle.lwkt_base.specs.declared.asks.Answer.TheVariants.{Begin, Done, Value, Bytes, Dropped, Got, NoMsg, Refused}
use Rattle.lwkt_core.specs.declared.events.Event.{Event}
use Rattle.lwkt_core.specs.declared.events.Event.TheVariants.{Load, Take, Share, Again, Mark, GiveOne, GiveClean, GiveWritten, Read, Write, ReadBlob, WriteBlob, Send, TakeMsg, DropMsg, Reply, Reap, Abort}
use Rattle.lwkt_core.specs.Machine.{Machine, Needs, after}
use Rattle.lwkt_verdict.specs.declared.expected.Expected.{Expected}
use Rattle.lwkt_verdict.specs.declared.expected.Expected.TheVariants.{Any, NoRefusal, Refusal, Value as ValueOnly, Bytes as BytesOnly}
use Rattle.lwkt_verdict.specs.Asks.{is_refused, makes_event}
use Rattle.lwkt_core.specs.Values.{cell_at}
use Rattle.lwkt_verdict.specs.Owns.{IsQuiet, agrees, agrees_with_record, is_own, is_read, is_record_read, is_raise}
use Rattle.lwkt_verdict.specs.TurnParts.{GoesQuietly, must_make, may_make, GoesFrom}
use Rattle.lwkt_verdict.specs.Follow.{is_expected}
use Rattle.lwkt_verdict.specs.Followed.{expected_by, expected_without}

-- what is no refusal
not_refused : (b : Bool) → not b ≡ true → b ≡ false
not_refused true is = absurd (false≢true is)
not_refused false is = refl

-- an answer that is this value is no refusal
value_unrefused : (answer : Option Answer) (value : ℕ) → agrees answer value ≡ true → is_refused answer ≡ false
value_unrefused None value is = refl
value_unrefused (Some Begin) value is = refl
value_unrefused (Some Done) value is = refl
value_unrefused (Some (Value v)) value is = refl
value_unrefused (Some (Bytes b)) value is = refl
value_unrefused (Some (Dropped msg rec)) value is = refl
value_unrefused (Some (Got item)) value is = refl
value_unrefused (Some NoMsg) value is = refl
value_unrefused (Some (Refused fault)) value is = absurd (false≢true is)

-- nor is one that is this record
record_unrefused : (answer : Option Answer) (blob : List ℕ) → agrees_with_record answer blob ≡ true → is_refused answer ≡ false
record_unrefused None blob is = refl
record_unrefused (Some Begin) blob is = refl
record_unrefused (Some Done) blob is = refl
record_unrefused (Some (Value v)) blob is = refl
record_unrefused (Some (Bytes b)) blob is = refl
record_unrefused (Some (Dropped msg rec)) blob is = refl
record_unrefused (Some (Got item)) blob is = refl
record_unrefused (Some NoMsg) blob is = refl
record_unrefused (Some (Refused fault)) blob is = absurd (false≢true is)

-- what is no refusal is among the answers of an ask whose event is there
by_flag : (unasked : Bool) (answer : Option Answer) → is_expected (if unasked then Any else NoRefusal) answer ≡ true → (is_refused answer ≡ false) ⊎ (unasked ≡ true)
by_flag true answer is = inr refl
by_flag false answer is = inl (not_refused (is_refused answer) is)

flag_by : (unasked : Bool) (answer : Option Answer) → is_refused answer ≡ false → is_expected (if unasked then Any else NoRefusal) answer ≡ true
flag_by true answer not_so = refl
flag_by false answer not_so = ap not not_so

-- an ask that made this event isn't refused, or the event may have happened unasked
pub unrefused_by : (unasked : Bool) (e : Event) (answer : Option Answer) → is_expected (expected_by unasked e) answer ≡ true → (is_refused answer ≡ false) ⊎ (unasked ≡ true)
unrefused_by unasked (Load cpu t) answer is = by_flag unasked answer is
unrefused_by unasked (Take cpu t) answer is = by_flag unasked answer is
unrefused_by unasked (Share cpu t) answer is = by_flag unasked answer is
unrefused_by unasked (Again cpu t) answer is = by_flag unasked answer is
unrefused_by unasked (Mark cpu t) answer is = by_flag unasked answer is
unrefused_by unasked (GiveOne cpu t) answer is = by_flag unasked answer is
unrefused_by unasked (GiveClean cpu t) answer is = by_flag unasked answer is
unrefused_by unasked (GiveWritten cpu t section) answer is = by_flag unasked answer is
unrefused_by unasked (Read cpu t c value) answer is = inl (value_unrefused answer value is)
unrefused_by unasked (Write cpu t c value) answer is = by_flag unasked answer is
unrefused_by unasked (ReadBlob cpu t blob) answer is = inl (record_unrefused answer blob is)
unrefused_by unasked (WriteBlob cpu t blob) answer is = by_flag unasked answer is
unrefused_by unasked (Send cpu msg to round) answer is = by_flag unasked answer is
unrefused_by unasked (TakeMsg cpu msg round) answer is = by_flag unasked answer is
unrefused_by unasked (DropMsg cpu msg) answer is = by_flag unasked answer is
unrefused_by unasked (Reply cpu msg) answer is = by_flag unasked answer is
unrefused_by unasked (Reap cpu msg) answer is = by_flag unasked answer is
unrefused_by unasked (Abort cpu msg) answer is = by_flag unasked answer is

both : (a b : Bool) → a ≡ true → b ≡ true → (a && b) ≡ true
both true b one other = other
both false b one other = one

-- where an event reads a cell, it does so with any answer that it makes
read_by : (tok cell : ℕ) (unasked : Bool) (answer : Option Answer) (e : Event) → is_read tok cell None e ≡ true → is_expected (expected_by unasked e) answer ≡ true → is_read tok cell answer e ≡ true
read_by tok cell unasked answer (Load cpu t) own is = absurd (false≢true own)
read_by tok cell unasked answer (Take cpu t) own is = absurd (false≢true own)
read_by tok cell unasked answer (Share cpu t) own is = absurd (false≢true own)
read_by tok cell unasked answer (Again cpu t) own is = absurd (false≢true own)
read_by tok cell unasked answer (Mark cpu t) own is = absurd (false≢true own)
read_by tok cell unasked answer (GiveOne cpu t) own is = absurd (false≢true own)
read_by tok cell unasked answer (GiveClean cpu t) own is = absurd (false≢true own)
read_by tok cell unasked answer (GiveWritten cpu t section) own is = absurd (false≢true own)
read_by tok cell unasked answer (Read cpu t c value) own is =
    let place : Bool = t.0 == tok && c == cell in
    both place (agrees answer value) (and_parts place true own).0 is
read_by tok cell unasked answer (Write cpu t c value) own is = absurd (false≢true own)
read_by tok cell unasked answer (ReadBlob cpu t blob) own is = absurd (false≢true own)
read_by tok cell unasked answer (WriteBlob cpu t blob) own is = absurd (false≢true own)
read_by tok cell unasked answer (Send cpu msg to round) own is = absurd (false≢true own)
read_by tok cell unasked answer (TakeMsg cpu msg round) own is = absurd (false≢true own)
read_by tok cell unasked answer (DropMsg cpu msg) own is = absurd (false≢true own)
read_by tok cell unasked answer (Reply cpu msg) own is = absurd (false≢true own)
read_by tok cell unasked answer (Reap cpu msg) own is = absurd (false≢true own)
read_by tok cell unasked answer (Abort cpu msg) own is = absurd (false≢true own)

-- the same of an event that reads a record
record_by : (tok : ℕ) (unasked : Bool) (answer : Option Answer) (e : Event) → is_record_read tok None e ≡ true → is_expected (expected_by unasked e) answer ≡ true → is_record_read tok answer e ≡ true
record_by tok unasked answer (Load cpu t) own is = absurd (false≢true own)
record_by tok unasked answer (Take cpu t) own is = absurd (false≢true own)
record_by tok unasked answer (Share cpu t) own is = absurd (false≢true own)
record_by tok unasked answer (Again cpu t) own is = absurd (false≢true own)
record_by tok unasked answer (Mark cpu t) own is = absurd (false≢true own)
record_by tok unasked answer (GiveOne cpu t) own is = absurd (false≢true own)
record_by tok unasked answer (GiveClean cpu t) own is = absurd (false≢true own)
record_by tok unasked answer (GiveWritten cpu t section) own is = absurd (false≢true own)
record_by tok unasked answer (Read cpu t c value) own is = absurd (false≢true own)
record_by tok unasked answer (Write cpu t c value) own is = absurd (false≢true own)
record_by tok unasked answer (ReadBlob cpu t blob) own is =
    both (t.0 == tok) (agrees_with_record answer blob) (and_parts (t.0 == tok) true own).0 is
record_by tok unasked answer (WriteBlob cpu t blob) own is = absurd (false≢true own)
record_by tok unasked answer (Send cpu msg to round) own is = absurd (false≢true own)
record_by tok unasked answer (TakeMsg cpu msg round) own is = absurd (false≢true own)
record_by tok unasked answer (DropMsg cpu msg) own is = absurd (false≢true own)
record_by tok unasked answer (Reply cpu msg) own is = absurd (false≢true own)
record_by tok unasked answer (Reap cpu msg) own is = absurd (false≢true own)
record_by tok unasked answer (Abort cpu msg) own is = absurd (false≢true own)

-- an event that is an ask's own with no answer yet is so with any answer that it makes
own_by : (m : Machine) (ask : Ask) (unasked : Bool) (answer : Option Answer) (e : Event) → is_own m ask None e ≡ true → is_expected (expected_by unasked e) answer ≡ true → is_own m ask answer e ≡ true
own_by m (ReadAsk tok cell) unasked answer e own is = read_by tok.0 cell unasked answer e own is
own_by m (ReadBlobAsk tok) unasked answer e own is = record_by tok.0 unasked answer e own is
own_by m _ unasked answer e own is = own

-- what isn't so makes no conjunction true
never : (makes has : Bool) → (makes && (has && not true)) ≡ false
never true true = refl
never true false = refl
never false has = refl

-- an ask whose event isn't there needn't have made it, whatever it is answered then
not_made : (makes : Bool) (answer : Option Answer) → is_expected (if makes then Refusal else Any) answer ≡ true → (makes && (is_some answer && not (is_refused answer))) ≡ false
not_made false answer is = refl
not_made true None is = refl
not_made true (Some a) is = ap not is

-- whether an ask is refused or not
refused_or_not : (b : Bool) → (b ≡ true) ⊎ (b ≡ false)
refused_or_not true = inl refl
refused_or_not false = inr refl

-- an ask that is refused needn't have made its event
need_not_make : (ask : Ask) (answer : Option Answer) → is_refused answer ≡ true → must_make ask answer ≡ false
need_not_make ask answer is = ap (λ b. makes_event ask && (is_some answer && not b)) is ∙ never (makes_event ask) (is_some answer)

-- from an ask's own event on, where the ask isn't refused
from_made : (m : Machine) (ask : Ask) (unasked : Bool) (answer : Option Answer) (e : Event) (es : List Event) → makes_event ask ≡ true → is_own m ask None e ≡ true → is_expected (expected_by unasked e) answer ≡ true → is_refused answer ≡ false → Needs m e × GoesQuietly (after m e) es → GoesFrom m ask answer (e ∷ es)
from_made m ask unasked answer e es makes own is not_so happens =
    let may : may_make ask answer ≡ true = both (makes_event ask) (not (is_refused answer)) makes (ap not not_so) in
    inl (may, own_by m ask unasked answer e own is, happens.0, happens.1)

-- from an ask's own event on, whatever the ask is answered
pub from_own : (m : Machine) (ask : Ask) (unasked : Bool) (answer : Option Answer) (e : Event) (es : List Event) → (unasked ≡ true → IsQuiet m e) → makes_event ask ≡ true → is_own m ask None e ≡ true → is_expected (expected_by unasked e) answer ≡ true → Needs m e × GoesQuietly (after m e) es → GoesFrom m ask answer (e ∷ es)
from_own m ask unasked answer e es quiets makes own is happens = elim (unrefused_by unasked e answer is) [
  | inl not_so ↦ from_made m ask unasked answer e es makes own is not_so happens
  | inr quiet ↦ elim (refused_or_not (is_refused answer)) [
    | inl refused ↦ inr (need_not_make ask answer refused, (happens.0, (quiets quiet, happens.1)))
    | inr not_so ↦ from_made m ask unasked answer e es makes own is not_so happens
  ]
]

-- a list by its first item and the others
pub list_is : (events rest : List Event) (e : Event) → 0 < length events → e ≡ get_or events 0 e → rest ≡ drop 1 events → events ≡ e ∷ rest
list_is [] rest e some first others = absurd (omega arith)
list_is (f ∷ es) rest e some first others =
    let others : rest ≡ es = others in
    ap₂ (λ x xs. x ∷ xs) (sym first) (sym others)

-- without an ask's own event
pub from_quiet : (m : Machine) (ask : Ask) (answer : Option Answer) (es : List Event) → is_expected (expected_without ask) answer ≡ true → GoesQuietly m es → GoesFrom m ask answer es
from_quiet m ask answer [] is quiet = not_made (makes_event ask) answer is
from_quiet m ask answer (e ∷ es) is quiet = inr (not_made (makes_event ask) answer is, quiet)

-- where an event reads a cell with an answer, it reads the cell, and the answer is expected of it
read_none : (tok cell : ℕ) (answer : Option Answer) (e : Event) → is_read tok cell answer e ≡ true → is_read tok cell None e ≡ true
read_none tok cell answer (Load cpu t) own = absurd (false≢true own)
read_none tok cell answer (Take cpu t) own = absurd (false≢true own)
read_none tok cell answer (Share cpu t) own = absurd (false≢true own)
read_none tok cell answer (Again cpu t) own = absurd (false≢true own)
read_none tok cell answer (Mark cpu t) own = absurd (false≢true own)
read_none tok cell answer (GiveOne cpu t) own = absurd (false≢true own)
read_none tok cell answer (GiveClean cpu t) own = absurd (false≢true own)
read_none tok cell answer (GiveWritten cpu t section) own = absurd (false≢true own)
read_none tok cell answer (Read cpu t c value) own =
    let place : Bool = t.0 == tok && c == cell in
    both place true (and_parts place (agrees answer value) own).0 refl
read_none tok cell answer (Write cpu t c value) own = absurd (false≢true own)
read_none tok cell answer (ReadBlob cpu t blob) own = absurd (false≢true own)
read_none tok cell answer (WriteBlob cpu t blob) own = absurd (false≢true own)
read_none tok cell answer (Send cpu msg to round) own = absurd (false≢true own)
read_none tok cell answer (TakeMsg cpu msg round) own = absurd (false≢true own)
read_none tok cell answer (DropMsg cpu msg) own = absurd (false≢true own)
read_none tok cell answer (Reply cpu msg) own = absurd (false≢true own)
read_none tok cell answer (Reap cpu msg) own = absurd (false≢true own)
read_none tok cell answer (Abort cpu msg) own = absurd (false≢true own)

record_none : (tok : ℕ) (answer : Option Answer) (e : Event) → is_record_read tok answer e ≡ true → is_record_read tok None e ≡ true
record_none tok answer (Load cpu t) own = absurd (false≢true own)
record_none tok answer (Take cpu t) own = absurd (false≢true own)
record_none tok answer (Share cpu t) own = absurd (false≢true own)
record_none tok answer (Again cpu t) own = absurd (false≢true own)
record_none tok answer (Mark cpu t) own = absurd (false≢true own)
record_none tok answer (GiveOne cpu t) own = absurd (false≢true own)
record_none tok answer (GiveClean cpu t) own = absurd (false≢true own)
record_none tok answer (GiveWritten cpu t section) own = absurd (false≢true own)
record_none tok answer (Read cpu t c value) own = absurd (false≢true own)
record_none tok answer (Write cpu t c value) own = absurd (false≢true own)
record_none tok answer (ReadBlob cpu t blob) own = both (t.0 == tok) true (and_parts (t.0 == tok) (agrees_with_record answer blob) own).0 refl
record_none tok answer (WriteBlob cpu t blob) own = absurd (false≢true own)
record_none tok answer (Send cpu msg to round) own = absurd (false≢true own)
record_none tok answer (TakeMsg cpu msg round) own = absurd (false≢true own)
record_none tok answer (DropMsg cpu msg) own = absurd (false≢true own)
record_none tok answer (Reply cpu msg) own = absurd (false≢true own)
record_none tok answer (Reap cpu msg) own = absurd (false≢true own)
record_none tok answer (Abort cpu msg) own = absurd (false≢true own)

-- an event that is an ask's own with an answer is so with none
own_none : (m : Machine) (ask : Ask) (answer : Option Answer) (e : Event) → is_own m ask answer e ≡ true → is_own m ask None e ≡ true
own_none m (ReadAsk tok cell) answer e own = read_none tok.0 cell answer e own
own_none m (ReadBlobAsk tok) answer e own = record_none tok.0 answer e own
own_none m _ answer e own = own

-- an addition is no read
raise_read : (o : Option ℕ) (tok more : ℕ) (cpu : CpuId) (t : TokId) (c value : ℕ) → is_raise o tok more (Read cpu t c value) ≡ false
raise_read None tok more cpu t c value = refl
raise_read (Some old) tok more cpu t c value = refl

raise_record : (o : Option ℕ) (tok more : ℕ) (cpu : CpuId) (t : TokId) (blob : List ℕ) → is_raise o tok more (ReadBlob cpu t blob) ≡ false
raise_record None tok more cpu t blob = refl
raise_record (Some old) tok more cpu t blob = refl

-- an answer with which a read is an ask's own is its value
read_value : (m : Machine) (ask : Ask) (answer : Option Answer) (cpu : CpuId) (t : TokId) (c value : ℕ) → is_own m ask answer (Read cpu t c value) ≡ true → agrees answer value ≡ true
read_value m (Get tok) answer cpu t c value own = absurd (false≢true own)
read_value m (GetShared tok) answer cpu t c value own = absurd (false≢true own)
read_value m (TryGet tok) answer cpu t c value own = absurd (false≢true own)
read_value m (Rel tok) answer cpu t c value own = absurd (false≢true own)
read_value m Swap answer cpu t c value own = absurd (false≢true own)
read_value m (ReadAsk tok cell) answer cpu t c value own = (and_parts (t.0 == tok.0 && c == cell) (agrees answer value) own).1
read_value m (WriteAsk tok cell v) answer cpu t c value own = absurd (false≢true own)
read_value m (AddAsk tok more) answer cpu t c value own = absurd (false≢true (sym (raise_read (cell_at m tok.0 0) tok.0 more cpu t c value) ∙ own))
read_value m (ReadBlobAsk tok) answer cpu t c value own = absurd (false≢true own)
read_value m (WriteBlobAsk tok b) answer cpu t c value own = absurd (false≢true own)
read_value m (SendAsk m2 to call flags) answer cpu t c value own = absurd (false≢true own)
read_value m (DoAsk m2 to call) answer cpu t c value own = absurd (false≢true own)
read_value m (ReplyAsk m2 error outcome) answer cpu t c value own = absurd (false≢true own)
read_value m (AbortAsk m2) answer cpu t c value own = absurd (false≢true own)
read_value m (IsAborted m2) answer cpu t c value own = absurd (false≢true own)
read_value m (DropAsk m2) answer cpu t c value own = absurd (false≢true own)
read_value m GetPort answer cpu t c value own = absurd (false≢true own)
read_value m WaitPort answer cpu t c value own = absurd (false≢true own)
read_value m Yield answer cpu t c value own = absurd (false≢true own)
read_value m Exit answer cpu t c value own = absurd (false≢true own)
read_value m (Fail number) answer cpu t c value own = absurd (false≢true own)

record_value : (m : Machine) (ask : Ask) (answer : Option Answer) (cpu : CpuId) (t : TokId) (blob : List ℕ) → is_own m ask answer (ReadBlob cpu t blob) ≡ true → agrees_with_record answer blob ≡ true
record_value m (Get tok) answer cpu t blob own = absurd (false≢true own)
record_value m (GetShared tok) answer cpu t blob own = absurd (false≢true own)
record_value m (TryGet tok) answer cpu t blob own = absurd (false≢true own)
record_value m (Rel tok) answer cpu t blob own = absurd (false≢true own)
record_value m Swap answer cpu t blob own = absurd (false≢true own)
record_value m (ReadAsk tok cell) answer cpu t blob own = absurd (false≢true own)
record_value m (WriteAsk tok cell v) answer cpu t blob own = absurd (false≢true own)
record_value m (AddAsk tok more) answer cpu t blob own = absurd (false≢true (sym (raise_record (cell_at m tok.0 0) tok.0 more cpu t blob) ∙ own))
record_value m (ReadBlobAsk tok) answer cpu t blob own = (and_parts (t.0 == tok.0) (agrees_with_record answer blob) own).1
record_value m (WriteBlobAsk tok b) answer cpu t blob own = absurd (false≢true own)
record_value m (SendAsk m2 to call flags) answer cpu t blob own = absurd (false≢true own)
record_value m (DoAsk m2 to call) answer cpu t blob own = absurd (false≢true own)
record_value m (ReplyAsk m2 error outcome) answer cpu t blob own = absurd (false≢true own)
record_value m (AbortAsk m2) answer cpu t blob own = absurd (false≢true own)
record_value m (IsAborted m2) answer cpu t blob own = absurd (false≢true own)
record_value m (DropAsk m2) answer cpu t blob own = absurd (false≢true own)
record_value m GetPort answer cpu t blob own = absurd (false≢true own)
record_value m WaitPort answer cpu t blob own = absurd (false≢true own)
record_value m Yield answer cpu t blob own = absurd (false≢true own)
record_value m Exit answer cpu t blob own = absurd (false≢true own)
record_value m (Fail number) answer cpu t blob own = absurd (false≢true own)

-- an answer with which an event is an ask's own, and which is no refusal, is expected of it
own_expected : (m : Machine) (ask : Ask) (unasked : Bool) (answer : Option Answer) (e : Event) → is_own m ask answer e ≡ true → is_refused answer ≡ false → is_expected (expected_by unasked e) answer ≡ true
own_expected m ask unasked answer (Load cpu t) own not_so = flag_by unasked answer not_so
own_expected m ask unasked answer (Take cpu t) own not_so = flag_by unasked answer not_so
own_expected m ask unasked answer (Share cpu t) own not_so = flag_by unasked answer not_so
own_expected m ask unasked answer (Again cpu t) own not_so = flag_by unasked answer not_so
own_expected m ask unasked answer (Mark cpu t) own not_so = flag_by unasked answer not_so
own_expected m ask unasked answer (GiveOne cpu t) own not_so = flag_by unasked answer not_so
own_expected m ask unasked answer (GiveClean cpu t) own not_so = flag_by unasked answer not_so
own_expected m ask unasked answer (GiveWritten cpu t section) own not_so = flag_by unasked answer not_so
own_expected m ask unasked answer (Read cpu t c value) own not_so = read_value m ask answer cpu t c value own
own_expected m ask unasked answer (Write cpu t c value) own not_so = flag_by unasked answer not_so
own_expected m ask unasked answer (ReadBlob cpu t blob) own not_so = record_value m ask answer cpu t blob own
own_expected m ask unasked answer (WriteBlob cpu t blob) own not_so = flag_by unasked answer not_so
own_expected m ask unasked answer (Send cpu msg to round) own not_so = flag_by unasked answer not_so
own_expected m ask unasked answer (TakeMsg cpu msg round) own not_so = flag_by unasked answer not_so
own_expected m ask unasked answer (DropMsg cpu msg) own not_so = flag_by unasked answer not_so
own_expected m ask unasked answer (Reply cpu msg) own not_so = flag_by unasked answer not_so
own_expected m ask unasked answer (Reap cpu msg) own not_so = flag_by unasked answer not_so
own_expected m ask unasked answer (Abort cpu msg) own not_so = flag_by unasked answer not_so

-- any answer is expected of an event that may have happened unasked
quiet_expected : (m : Machine) (answer : Option Answer) (e : Event) → IsQuiet m e → is_expected (expected_by true e) answer ≡ true
quiet_expected m answer (Load cpu t) quiet = refl
quiet_expected m answer (Take cpu t) quiet = refl
quiet_expected m answer (Share cpu t) quiet = refl
quiet_expected m answer (Again cpu t) quiet = refl
quiet_expected m answer (Mark cpu t) quiet = refl
quiet_expected m answer (GiveOne cpu t) quiet = refl
quiet_expected m answer (GiveClean cpu t) quiet = refl
quiet_expected m answer (GiveWritten cpu t section) quiet = refl
quiet_expected m answer (Read cpu t c value) quiet = absurd quiet
quiet_expected m answer (Write cpu t c value) quiet = refl
quiet_expected m answer (ReadBlob cpu t blob) quiet = absurd quiet
quiet_expected m answer (WriteBlob cpu t blob) quiet = refl
quiet_expected m answer (Send cpu msg to round) quiet = refl
quiet_expected m answer (TakeMsg cpu msg round) quiet = refl
quiet_expected m answer (DropMsg cpu msg) quiet = refl
quiet_expected m answer (Reply cpu msg) quiet = refl
quiet_expected m answer (Reap cpu msg) quiet = refl
quiet_expected m answer (Abort cpu msg) quiet = refl

-- of what is expected, refusals alone are no other
abbrev is_refusal : Expected → Bool
is_refusal Refusal = true
is_refusal Any = false
is_refusal NoRefusal = false
is_refusal (ValueOnly value) = false
is_refusal (BytesOnly blob) = false

other : (x : Expected) → is_refusal x ≡ false → x ≡ Refusal → ⊥
other x apart is = false≢true (sym apart ∙ ap is_refusal is)

flag_open : (unasked : Bool) → (if unasked then Any else NoRefusal) ≡ Refusal → ⊥
flag_open true is = other Any refl is
flag_open false is = other NoRefusal refl is

-- an event that is there expects no refusal alone
pub noted_open : (unasked : Bool) (e : Event) → expected_by unasked e ≡ Refusal → ⊥
noted_open unasked (Load cpu t) is = flag_open unasked is
noted_open unasked (Take cpu t) is = flag_open unasked is
noted_open unasked (Share cpu t) is = flag_open unasked is
noted_open unasked (Again cpu t) is = flag_open unasked is
noted_open unasked (Mark cpu t) is = flag_open unasked is
noted_open unasked (GiveOne cpu t) is = flag_open unasked is
noted_open unasked (GiveClean cpu t) is = flag_open unasked is
noted_open unasked (GiveWritten cpu t section) is = flag_open unasked is
noted_open unasked (Read cpu t c value) is = other (ValueOnly value) refl is
noted_open unasked (Write cpu t c value) is = flag_open unasked is
noted_open unasked (ReadBlob cpu t blob) is = other (BytesOnly blob) refl is
noted_open unasked (WriteBlob cpu t blob) is = flag_open unasked is
noted_open unasked (Send cpu msg to round) is = flag_open unasked is
noted_open unasked (TakeMsg cpu msg round) is = flag_open unasked is
noted_open unasked (DropMsg cpu msg) is = flag_open unasked is
noted_open unasked (Reply cpu msg) is = flag_open unasked is
noted_open unasked (Reap cpu msg) is = flag_open unasked is
noted_open unasked (Abort cpu msg) is = flag_open unasked is

-- what isn't a refusal
need_refusal : (b : Bool) → not b ≡ false → b ≡ true
need_refusal true is = refl
need_refusal false is = absurd (false≢true (sym is))

-- an ask that needn't have made its event can have any answer, or a refusal or none, where it makes one
not_must : (makes : Bool) (answer : Option Answer) → (makes && (is_some answer && not (is_refused answer))) ≡ false → is_expected (if makes then Refusal else Any) answer ≡ true
not_must false answer is = refl
not_must true None is = refl
not_must true (Some a) is = need_refusal (is_refused (Some a)) is

-- from an ask's own event on, each answer with which the events can happen is expected
pub made_expects : (m : Machine) (ask : Ask) (unasked : Bool) (answer : Option Answer) (e : Event) (es : List Event) → (IsQuiet m e → unasked ≡ true) → GoesFrom m ask answer (e ∷ es) → is_expected (expected_by unasked e) answer ≡ true
made_expects m ask unasked answer e es quiets (inl made) = own_expected m ask unasked answer e made.1 (not_refused (is_refused answer) (and_parts (makes_event ask) (not (is_refused answer)) made.0).1)
made_expects m ask unasked answer e es quiets (inr quiet) =
    let F : Bool → Type 0 = λ b. is_expected (expected_by b e) answer ≡ true in
    subst F (sym (quiets quiet.1.1.0)) (quiet_expected m answer e quiet.1.1.0)

-- the same of events of which an ask's own isn't the first
pub unmade_expects : (m : Machine) (ask : Ask) (answer : Option Answer) (e : Event) (es : List Event) → (makes_event ask ≡ true → is_own m ask None e ≡ true → ⊥) → GoesFrom m ask answer (e ∷ es) → is_expected (expected_without ask) answer ≡ true
unmade_expects m ask answer e es apart (inl made) = absurd (apart (and_parts (makes_event ask) (not (is_refused answer)) made.0).0 (own_none m ask answer e made.1))
unmade_expects m ask answer e es apart (inr quiet) = not_must (makes_event ask) answer quiet.0

-- with no answer yet, an ask needn't have made its event
must_none : (ask : Ask) → must_make ask None ≡ false
must_none ask = go (makes_event ask)
  where
    go : (b : Bool) → (b && false) ≡ false
    go true = refl
    go false = refl

-- what can happen with no answer yet, from an ask's own event on, and where that isn't the first
pub made_none : (m : Machine) (ask : Ask) (e : Event) (es : List Event) → makes_event ask ≡ true → is_own m ask None e ≡ true → (Needs m e × GoesQuietly (after m e) es) ↔ GoesFrom m ask None (e ∷ es)
made_none m ask e es makes own = (
  λ happens. inl (both (makes_event ask) true makes refl, own, happens.0, happens.1),
  λ from. elim from [ inl made ↦ (made.2, made.3) | inr quiet ↦ (quiet.1.0, quiet.1.1.1) ],
)

pub unmade_none : (m : Machine) (ask : Ask) (e : Event) (es : List Event) → (makes_event ask ≡ true → is_own m ask None e ≡ true → ⊥) → GoesQuietly m (e ∷ es) ↔ GoesFrom m ask None (e ∷ es)
unmade_none m ask e es apart = (
  λ quiet. inr (must_none ask, quiet),
  λ from. elim from [ inl made ↦ absurd (apart (and_parts (makes_event ask) true made.0).0 made.1) | inr quiet ↦ quiet.1 ],
)

pub empty_none : (m : Machine) (ask : Ask) → GoesQuietly m [] ↔ GoesFrom m ask None []
empty_none m ask = (λ quiet. must_none ask, λ from. tt)

-- where the answers without its event are refusals, the ask makes one
pub unmade_makes : (ask : Ask) → expected_without ask ≡ Refusal → makes_event ask ≡ true
unmade_makes ask is = go (makes_event ask) is
  where
    go : (b : Bool) → (if b then Refusal else Any) ≡ Refusal → b ≡ true
    go true is = refl
    go false is = absurd (other Any refl is)

-- what a part makes happen from an ask's own event on, by its first event and the others
pub own_first : (m : Machine) (ask : Ask) (x : Expected) (e : Event) (events rest : List Event) → events ≡ e ∷ rest → makes_event ask ≡ true → is_own m ask None e ≡ true → ((unasked : Bool) × ((IsTrue unasked ↔ IsQuiet m e) × (x ≡ expected_by unasked e))) → Needs m e × GoesQuietly (after m e) rest → (answer : Option Answer) → is_expected x answer ≡ true ↔ GoesFrom m ask answer events
own_first m ask x e events rest is makes own noted happens answer =
    let by = noted.1.1 in
    let to : is_expected x answer ≡ true → GoesFrom m ask answer events = λ so. (let expected : is_expected (expected_by noted.0 e) answer ≡ true = subst (λ (y : Expected). is_expected y answer ≡ true) by so in
    subst (λ (es : List Event). GoesFrom m ask answer es) (sym is) (from_own m ask noted.0 answer e rest noted.1.0.0 makes own expected happens)) in
    let from : GoesFrom m ask answer events → is_expected x answer ≡ true = λ goes. (let so : GoesFrom m ask answer (e ∷ rest) = subst (λ (es : List Event). GoesFrom m ask answer es) is goes in
    subst (λ (y : Expected). is_expected y answer ≡ true) (sym by) (made_expects m ask noted.0 answer e rest noted.1.0.1 so)) in
    (to, from)

pub own_open : (x : Expected) (e : Event) (m : Machine) → ((unasked : Bool) × ((IsTrue unasked ↔ IsQuiet m e) × (x ≡ expected_by unasked e))) → x ≡ Refusal → ⊥
own_open x e m noted is = noted_open noted.0 e (sym noted.1.1 ∙ is)

-- the same where the first event isn't the ask's own, or there is none
pub other_first : (m : Machine) (ask : Ask) (x : Expected) (events : List Event) → ((e : Event) (rest : List Event) → events ≡ e ∷ rest → makes_event ask ≡ true → is_own m ask None e ≡ true → ⊥) → x ≡ expected_without ask → GoesQuietly m events → (answer : Option Answer) → is_expected x answer ≡ true ↔ GoesFrom m ask answer events
other_first m ask x [] apart by quiet answer = (
  λ so. from_quiet m ask answer [] (subst (λ (y : Expected). is_expected y answer ≡ true) by so) quiet,
  λ goes. subst (λ (y : Expected). is_expected y answer ≡ true) (sym by) (not_must (makes_event ask) answer goes),
)
other_first m ask x (e ∷ es) apart by quiet answer = (
  λ so. from_quiet m ask answer (e ∷ es) (subst (λ (y : Expected). is_expected y answer ≡ true) by so) quiet,
  λ goes. subst (λ (y : Expected). is_expected y answer ≡ true) (sym by) (unmade_expects m ask answer e es (apart e es refl) goes),
)

pub other_none : (m : Machine) (ask : Ask) (events : List Event) → ((e : Event) (rest : List Event) → events ≡ e ∷ rest → makes_event ask ≡ true → is_own m ask None e ≡ true → ⊥) → GoesQuietly m events ↔ GoesFrom m ask None events
other_none m ask [] apart = empty_none m ask
other_none m ask (e ∷ es) apart = unmade_none m ask e es (apart e es refl)

-- what decides both decides the one as the other
pub decides : {A P Q : Type 0} → A ↔ P → P ↔ Q → A ↔ Q
decides a p = ((λ x. p.0 (a.0 x)), (λ q. a.1 (p.1 q)))

-- a list's first item is one
pub same_first : (events rest : List Event) (e f : Event) (es : List Event) → events ≡ e ∷ rest → events ≡ f ∷ es → f ≡ e
same_first events rest e f es one other = cc
