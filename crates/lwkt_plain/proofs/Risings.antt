-- Generations never fall.
use Rattle.std.proofs.Common.{◌≡◌, ◌<◌, ◌≤◌, ◌+◌, ◌-◌, ℕ, zero, suc, List, [], ◌∷◌, ◌++◌, length, take, refl, ap, sym, ◌∙◌, subst, arith, Option, Some, None, Bool, true, false}
use Rattle.std.specs.Prelude.{slice_get, slice_set, if◌then◌else◌, ◌==◌, ◌||◌, not, option_map, nat_le, nat_lt, unwrap_or, IfSome, reverse, drop}
use Rattle.std.specs.Option.{option_map_or}
use Rattle.lwkt_base.specs.declared.names.CpuId.{CpuId}
use Rattle.lwkt_base.specs.declared.names.TokId.{TokId}
use Rattle.lwkt_base.specs.declared.names.Mode.{Mode}
use Rattle.lwkt_base.specs.declared.names.Mode.TheVariants.{Exclusive, Shared}
use Rattle.lwkt_base.specs.declared.names.Ref.{Ref}
use Rattle.lwkt_base.specs.declared.faults.Fault.{Fault}
use Rattle.lwkt_base.specs.declared.faults.Fault.TheVariants.{NotLast}
use Rattle.lwkt_base.specs.declared.asks.Ask.{Ask}
use Rattle.lwkt_base.specs.declared.asks.Ask.TheVariants.{Get, GetShared, TryGet, Rel, Swap, Read as ReadCell, Write as WriteCell, Add, ReadBlob as ReadRecord, WriteBlob as WriteRecord, Send as SendAsk, Do, Reply as ReplyAsk, Abort as AbortAsk, IsAborted, DropMsg as DropAsk, GetPort, WaitPort, Yield, Exit, Fail}
use Rattle.lwkt_base.specs.Refs.{names}
use Rattle.lwkt_core.specs.declared.tokens.Token.{Token}
use Rattle.lwkt_core.specs.declared.events.Event.{Event}
use Rattle.lwkt_core.specs.declared.events.Event.TheVariants.{Load, Take, Share, Again, Mark, GiveOne, GiveClean, GiveWritten, Read, Write, ReadBlob, WriteBlob, Send, TakeMsg, DropMsg, Reply, Reap, Abort}
use Rattle.lwkt_core.specs.declared.events.Place.{Place}
use Rattle.lwkt_core.specs.declared.events.Place.TheVariants.{AtToken, AtMessage}
use Rattle.lwkt_core.specs.Events.{place_of}
use Rattle.lwkt_core.specs.Machine.{machine, changed, after_at}
use Rattle.lwkt_core.specs.Takings.{taking_event}
use Rattle.lwkt_core.specs.Tokens.{token_after}
use Rattle.lwkt_plain.specs.declared.nexts.Miss.{Miss}
use Rattle.lwkt_plain.specs.declared.nexts.Miss.TheVariants.{Busy, Worn}
use Rattle.lwkt_plain.specs.declared.nexts.Missed.{Missed}
use Rattle.lwkt_plain.specs.declared.nexts.Next.{Next}
use Rattle.lwkt_plain.specs.declared.nexts.Next.TheVariants.{Runs}
use Rattle.lwkt_base.specs.declared.asks.Answer.TheVariants.{Done}
use Rattle.lwkt_plain.specs.Tokens.{stepped, miss_of, is_broken, mended, giving_event, given, gave, Gave, give, gives, Tried, tried, takes}
use Rattle.lwkt_plain.specs.TokenAsks.{Asked, asked, refused, unless, get_refusal, had, marked_for, must_switch, get, try_missed, try_get, last_of, front_of, released, rel, swapped, exchanged, tok_at, are_same, read, unless_cell, unless_exclusive, value_of, write, add, add_refusal, has_tally, record_refusal, record_of, read_blob, write_blob}
use Rattle.lwkt_plain.specs.Turns.{token_ask, ref_to}
use Rattle.lwkt_plain.proofs.TokenRelations.{RelatesAt, Relates, relates_same, relates_both, step_relates, give_relates, gives_relates, takes_relates}

-- where a token is now it was, at its generation or behind that
abbrev pub Up : Token → Token → Type 0
Up old new = old.generation ≤ new.generation

abbrev pub RisesAt : Option Token → Option Token → Type 0
RisesAt new old = RelatesAt Up new old

abbrev pub Rises : List Token → List Token → Type 0
Rises old new = Relates Up old new

up_self : (tok : Token) → Up tok tok
up_self tok = omega arith

up_both : (a b c : Token) → Up a b → Up b c → Up a c
up_both a b c one other = omega (arith, one, other)

pub rises_same : (tokens : List Token) → Rises tokens tokens
rises_same tokens = relates_same Up up_self tokens

pub rises_both : (a b c : List Token) → Rises a b → Rises b c → Rises a c
rises_both a b c one other = relates_both Up up_self up_both a b c one other

-- by an event
after_rises : (tok : Token) (e : Event) → tok.generation ≤ (token_after tok e).generation
after_rises tok (Load cpu t) = omega arith
after_rises tok (Take cpu t) = omega arith
after_rises tok (Share cpu t) = omega arith
after_rises tok (Again cpu t) = omega arith
after_rises tok (Mark cpu t) = omega arith
after_rises tok (GiveOne cpu t) = omega arith
after_rises tok (GiveClean cpu t) = omega arith
after_rises tok (GiveWritten cpu t section) = omega arith
after_rises tok (Read cpu t cell value) = omega arith
after_rises tok (Write cpu t cell value) = omega arith
after_rises tok (ReadBlob cpu t blob) = omega arith
after_rises tok (WriteBlob cpu t blob) = omega arith
after_rises tok (Send cpu msg to round) = omega arith
after_rises tok (TakeMsg cpu msg round) = omega arith
after_rises tok (DropMsg cpu msg) = omega arith
after_rises tok (Reply cpu msg) = omega arith
after_rises tok (Reap cpu msg) = omega arith
after_rises tok (Abort cpu msg) = omega arith

pub step_rises : (tokens : List Token) (e : Event) → Rises tokens (stepped tokens e)
step_rises tokens e = step_relates Up up_self tokens e (λ tok. after_rises tok e)

-- by what is given back
mended_if : (cpu : CpuId) (tok : Token) (b : Bool) → (if b then record tok { row = tok.first; blob = tok.first_blob } else tok).generation ≡ tok.generation
mended_if cpu tok true = refl
mended_if cpu tok false = refl

given_rises : (cpu : CpuId) (t : TokId) (tok : Token) → tok.generation ≤ (given cpu t tok).generation
given_rises cpu t tok =
    let same = mended_if cpu tok (is_broken cpu tok) in
    let up = after_rises (mended cpu tok) (giving_event cpu t (mended cpu tok)) in
    omega (arith, same, up)

give_rises : (cpu : CpuId) (g : Gave) (r : Ref) → Rises g.tokens (give cpu g r).tokens
give_rises cpu g r = give_relates Up up_self up_both given_rises cpu g r

pub gives_rises : (cpu : CpuId) (tokens : List Token) (refs : List Ref) → Rises tokens (gives cpu tokens refs).tokens
gives_rises cpu tokens refs = gives_relates Up up_self up_both given_rises cpu tokens refs

-- by a try of a list
pub takes_rises : (cpu : CpuId) (refs rest : List Ref) (tokens : List Token) (front : List Ref) → Rises tokens (takes cpu refs tokens front rest).tokens
takes_rises cpu refs rest tokens front =
    takes_relates Up up_self up_both given_rises (λ cpu' front' r tok. after_rises tok (taking_event cpu' front' r)) cpu refs rest tokens front

-- by an ask
pub record RisesTo (tokens : List Token) (a : Asked) : Type 0 where
  pub rises : Rises tokens a.tokens

stays : (tokens : List Token) (refs : List Ref) (next : Next) → RisesTo tokens (asked tokens refs next)
stays tokens refs next = record { rises = rises_same tokens }

steps : (tokens : List Token) (refs : List Ref) (next : Next) (e : Event) → RisesTo tokens (asked (stepped tokens e) refs next)
steps tokens refs next e = record { rises = step_rises tokens e }

unless_rises : (tokens : List Token) (refs : List Ref) (o : Option Fault) (done : Asked) → RisesTo tokens done → RisesTo tokens (unless tokens refs o done)
unless_rises tokens refs None done so = so
unless_rises tokens refs (Some fault) done so = stays tokens _ _

or_rises : {A : Type 0} (tokens : List Token) (f : A → Asked) (o : Option A) (d : Asked) → ((a : A) → RisesTo tokens (f a)) → RisesTo tokens d → RisesTo tokens (option_map_or f o d)
or_rises tokens f None d some none = none
or_rises tokens f (Some a) d some none = some a

if_rises : (tokens : List Token) (b : Bool) (x y : Asked) → RisesTo tokens x → RisesTo tokens y → RisesTo tokens (if b then x else y)
if_rises tokens true x y one other = one
if_rises tokens false x y one other = other

marked_rises : (mode : Mode) (cpu : CpuId) (tok : TokId) (tokens : List Token) → Rises tokens (marked_for mode cpu tok tokens)
marked_rises Exclusive cpu tok tokens = step_rises tokens (Mark cpu tok)
marked_rises Shared cpu tok tokens = rises_same tokens

switch_rises : (cpu : CpuId) (tokens : List Token) (refs : List Ref) (r : Ref) (why : Miss) → RisesTo tokens (must_switch cpu tokens refs r why)
switch_rises cpu tokens refs r (Busy word) = record { rises = marked_rises r.mode cpu r.tok tokens }
switch_rises cpu tokens refs r Worn = stays tokens _ _

missed_rises : (tokens : List Token) (refs : List Ref) (why : Miss) → RisesTo tokens (try_missed tokens refs why)
missed_rises tokens refs (Busy word) = stays tokens _ _
missed_rises tokens refs Worn = stays tokens _ _

get_rises : (cpu : CpuId) (tokens : List Token) (refs : List Ref) (r : Ref) → RisesTo tokens (get cpu tokens refs r)
get_rises cpu tokens refs r =
    unless_rises tokens refs (get_refusal tokens refs r) _
    (or_rises tokens (must_switch cpu tokens refs r) (miss_of tokens (refs ++ r ∷ []) refs r) (had cpu tokens refs r) (switch_rises cpu tokens refs r) (steps tokens (refs ++ r ∷ []) (Runs Done) (taking_event cpu refs r)))

try_rises : (cpu : CpuId) (tokens : List Token) (refs : List Ref) (r : Ref) → RisesTo tokens (try_get cpu tokens refs r)
try_rises cpu tokens refs r =
    unless_rises tokens refs (get_refusal tokens refs r) _
    (or_rises tokens (try_missed tokens refs) (miss_of tokens (refs ++ r ∷ []) refs r) (had cpu tokens refs r) (missed_rises tokens refs) (steps tokens (refs ++ r ∷ []) (Runs Done) (taking_event cpu refs r)))

rel_rises : (cpu : CpuId) (tokens : List Token) (refs : List Ref) (tok : TokId) → RisesTo tokens (rel cpu tokens refs tok)
rel_rises cpu tokens refs tok =
    if_rises tokens (not (names refs tok.0)) _ _ (stays tokens _ _)
    (or_rises tokens (λ r. if r.tok.0 == tok.0 then released cpu tokens (front_of refs) r else refused tokens refs NotLast) (last_of refs) _
    (λ r. if_rises tokens (r.tok.0 == tok.0) _ _ (record { rises = give_rises cpu (gave tokens false) r }) (stays tokens _ _)) (stays tokens _ _))

swap_rises : (tokens : List Token) (refs : List Ref) → RisesTo tokens (swapped tokens refs)
swap_rises tokens refs =
    if_rises tokens (nat_lt (length refs) 2) _ _ (stays tokens _ _)
    (if_rises tokens (are_same (tok_at refs (length refs - 1)) (tok_at refs (length refs - 2))) _ _ (stays tokens _ _) (stays tokens _ _))

pub ask_rises : (cpu : CpuId) (tokens : List Token) (refs : List Ref) (ask : Ask) → IfSome (token_ask cpu tokens refs ask) (RisesTo tokens)
ask_rises cpu tokens refs (Get tok) = get_rises cpu tokens refs (ref_to tok Exclusive)
ask_rises cpu tokens refs (GetShared tok) = get_rises cpu tokens refs (ref_to tok Shared)
ask_rises cpu tokens refs (TryGet tok) = try_rises cpu tokens refs (ref_to tok Exclusive)
ask_rises cpu tokens refs (Rel tok) = rel_rises cpu tokens refs tok
ask_rises cpu tokens refs Swap = swap_rises tokens refs
ask_rises cpu tokens refs (ReadCell tok cell) = unless_rises tokens refs _ _ (stays tokens _ _)
ask_rises cpu tokens refs (WriteCell tok cell value) = unless_rises tokens refs _ _ (steps tokens refs _ (Write cpu tok cell value))
ask_rises cpu tokens refs (Add tok more) = unless_rises tokens refs _ _ (steps tokens refs _ (Write cpu tok 0 (unwrap_or (value_of tokens tok 0) 0 + more)))
ask_rises cpu tokens refs (ReadRecord tok) = unless_rises tokens refs _ _ (stays tokens _ _)
ask_rises cpu tokens refs (WriteRecord tok bytes) = unless_rises tokens refs _ _ (steps tokens refs _ (WriteBlob cpu tok bytes))
ask_rises cpu tokens refs (SendAsk msg to call flags) = tt
ask_rises cpu tokens refs (Do msg to call) = tt
ask_rises cpu tokens refs (ReplyAsk msg error outcome) = tt
ask_rises cpu tokens refs (AbortAsk msg) = tt
ask_rises cpu tokens refs (IsAborted msg) = tt
ask_rises cpu tokens refs (DropAsk msg) = tt
ask_rises cpu tokens refs GetPort = tt
ask_rises cpu tokens refs WaitPort = tt
ask_rises cpu tokens refs Yield = tt
ask_rises cpu tokens refs Exit = tt
ask_rises cpu tokens refs (Fail number) = tt
