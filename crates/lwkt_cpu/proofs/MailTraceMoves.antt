-- What a trace has of messages: a call on the ports traces what its seat did, and a call on the hold traces nothing of messages.
use Rattle.std.proofs.Common.{inl, inr, ◌≡◌, ℕ, suc, ◌==◌, Bool, true, false, cond, List, [], ◌∷◌, ◌++◌, length, take, refl, ap, sym, ◌∙◌, subst, arith, append_assoc}
use Rattle.std.proofs.lemmas.List.{append-nil, append_cancel_left}
use Rattle.std.proofs.lemmas.List.Elements.{filter-append}
use Rattle.std.specs.Prelude.{All, Option, Some, None, Result, Ok, Err, Vec, filter}
use Rattle.std.specs.declared.alloc.Global.{Global}
use Rattle.lwkt_base.specs.declared.asks.Answer.{Answer}
use Rattle.lwkt_base.specs.declared.faults.Fault.{Fault}
use Rattle.lwkt_base.specs.declared.holdings.Held.{Held}
use Rattle.lwkt_base.specs.declared.holdings.Held.TheVariants.{Nothing, Holds}
use Rattle.lwkt_base.specs.declared.names.CpuId.{CpuId}
use Rattle.lwkt_base.specs.declared.names.Mode.{Mode}
use Rattle.lwkt_base.specs.declared.names.Mode.TheVariants.{Exclusive, Shared}
use Rattle.lwkt_base.specs.declared.names.Ref.{Ref}
use Rattle.lwkt_base.specs.declared.names.TokId.{TokId}
use Rattle.lwkt_base.specs.Holding.{holding_of}
use Rattle.lwkt_core.specs.declared.events.Event.{Event}
use Rattle.lwkt_core.specs.declared.events.Event.TheVariants.{Load, Take, Share, Again, Mark, GiveOne, GiveClean, GiveWritten, Read, Write, ReadBlob, WriteBlob, Send, TakeMsg, DropMsg, Reply, Reap, Abort}
use Rattle.lwkt_table.specs.History.{AreOwn, Grows, events_in}
use Rattle.lwkt_table.proofs.HistoryLemmas.{own-nil, own-append, Grows-append, events_in-append}
use Rattle.lwkt_bank.specs.declared.seats.CpuSeat.{CpuSeat}
use Rattle.lwkt_bank.specs.Seats.{BankId, holding}
use Rattle.lwkt_hold.specs.declared.answers.Acquired.{Acquired}
use Rattle.lwkt_hold.specs.declared.answers.Acquired.TheVariants.{Got, MustSwitch}
use Rattle.lwkt_base.specs.Refs.{names}
use Rattle.lwkt_hold.specs.Givings.{gives, gives_all, Releases, ReleasesAll, ReleasesLast}
use Rattle.lwkt_bank.specs.Views.{RecordOf}
use Rattle.lwkt_hold.specs.Rows.{section_now, write_events, record_write_events}
use Rattle.lwkt_core.specs.Takings.{taking, taking_event, takes_all}
use Rattle.lwkt_hold.specs.Outcomes.{Marks}
use Rattle.lwkt_msg.specs.Desks.{Desk, desk_cpu, past_of}
use Rattle.lwkt_msg.specs.Views.{seat_cpu}
use Rattle.lwkt_port.specs.Traced.{TracesDeeds}
use Rattle.lwkt_port.specs.Works.{IsOfMessages, Grew}
use Rattle.lwkt_port.proofs.Growing.{same_none, same_then}
use Rattle.lwkt_base.specs.declared.asks.Answer.TheVariants.{Done}
use Rattle.lwkt_hold.specs.Misses.{exclusive}
use Rattle.lwkt_cpu.specs.declared.nexts.Next.{Next}
use Rattle.lwkt_cpu.specs.declared.nexts.Next.TheVariants.{Readies}
use Rattle.lwkt_cpu.specs.Calls.{Acquires, Tries, Rels, Reads, Stores, Adds, ReadsRecord, StoresRecord}
use Rattle.lwkt_cpu.specs.Leaving.{GivesUp}
use Rattle.lwkt_cpu.specs.Table.{GoesOnWith, Gets}
use Rattle.lwkt_cpu.specs.Traced.{is_of_message, TracesMail, TracesTokensOnly}

pub quiet_none : (t : List Event) → TracesTokensOnly t t
quiet_none t = record { done = []; trace_is = sym (append-nil t); quiet = refl }

pub quiet_then : (t u v : List Event) → TracesTokensOnly t u → TracesTokensOnly u v → TracesTokensOnly t v
quiet_then t u v first second = record {
  done = first.done ++ second.done;
  trace_is = second.trace_is ∙ ap (λ l. l ++ second.done) first.trace_is ∙ append_assoc t first.done second.done;
  quiet = filter-append is_of_message first.done second.done ∙ ap (λ l. l ++ filter is_of_message second.done) first.quiet ∙ second.quiet;
}

pub quiet_same : (t u : Vec Event Global) → u ≡ t → TracesTokensOnly t.items u.items
quiet_same t u is = let F : Vec Event Global → Type 0 = λ x. TracesTokensOnly t.items x.items in subst F (sym is) (quiet_none t.items)

quiet_one : (t u : List Event) (e : Event) → u ≡ t ++ e ∷ [] → filter is_of_message (e ∷ []) ≡ [] → TracesTokensOnly t u
quiet_one t u e is plain = record { done = e ∷ []; trace_is = is; quiet = plain }

-- what was traced of messages: nothing, one call after another, and a call on the ports
pub mail_none : (d : Desk) (t u : List Event) → TracesTokensOnly t u → TracesMail d d t u
mail_none d t u q = record { same = same_none d; deeds = []; grows = refl; mine = own-nil (desk_cpu d).0; done = q.done; trace_is = q.trace_is; traced = q.quiet }

pub mail_then : (a b c : Desk) (t u v : List Event) → TracesMail a b t u → TracesMail b c u v → TracesMail a c t v
mail_then a b c t u v first second =
    let same : desk_cpu b ≡ desk_cpu a = ap seat_cpu first.same.kind in
    let F : CpuId → Type 0 = λ k. Grows k.0 (past_of b) second.deeds (past_of c) in
    let G : CpuId → Type 0 = λ k. AreOwn k.0 second.deeds in record {
      same = same_then a b c first.same second.same;
      deeds = first.deeds ++ second.deeds;
      grows = Grows-append (desk_cpu a).0 (past_of a) first.deeds (past_of b) second.deeds (past_of c) first.grows (subst F same second.grows);
      mine = own-append (desk_cpu a).0 first.deeds second.deeds first.mine (subst G same second.mine);
      done = first.done ++ second.done;
      trace_is = second.trace_is ∙ ap (λ l. l ++ second.done) first.trace_is ∙ append_assoc t first.done second.done;
      traced = filter-append is_of_message first.done second.done ∙ ap (λ l. l ++ filter is_of_message second.done) first.traced ∙ ap (λ l. events_in first.deeds ++ l) second.traced ∙ sym (events_in-append first.deeds second.deeds);
    }

pub mail_quiet : (a b c : Desk) (t u v : List Event) → TracesMail a b t u → TracesTokensOnly u v → c ≡ b → TracesMail a c t v
mail_quiet a b c t u v first rest is = let F : Desk → Type 0 = λ d. TracesMail a d t v in subst F (sym is) (mail_then a b b t u v first (mail_none b u v rest))

pub quiet_mail : (a b c : Desk) (t u v : List Event) → TracesTokensOnly t u → b ≡ a → TracesMail b c u v → TracesMail a c t v
quiet_mail a b c t u v first is second = let F : Desk → Type 0 = λ d. TracesMail d c u v in mail_then a a c t u v (mail_none a t u first) (subst F is second)

mail_event : (cpu : CpuId) (e : Event) (es : List Event) → IsOfMessages cpu e → filter is_of_message (e ∷ es) ≡ e ∷ filter is_of_message es
mail_event cpu (Load c t) es is = absurd is
mail_event cpu (Take c t) es is = absurd is
mail_event cpu (Share c t) es is = absurd is
mail_event cpu (Again c t) es is = absurd is
mail_event cpu (Mark c t) es is = absurd is
mail_event cpu (GiveOne c t) es is = absurd is
mail_event cpu (GiveClean c t) es is = absurd is
mail_event cpu (GiveWritten c t section) es is = absurd is
mail_event cpu (Read c t i v) es is = absurd is
mail_event cpu (Write c t i v) es is = absurd is
mail_event cpu (ReadBlob c t blob) es is = absurd is
mail_event cpu (WriteBlob c t blob) es is = absurd is
mail_event cpu (Send c m to r) es is = refl
mail_event cpu (TakeMsg c m r) es is = refl
mail_event cpu (DropMsg c m) es is = refl
mail_event cpu (Reply c m) es is = refl
mail_event cpu (Reap c m) es is = refl
mail_event cpu (Abort c m) es is = refl

all_mail : (cpu : CpuId) (es : List Event) → All (IsOfMessages cpu) es → filter is_of_message es ≡ es
all_mail cpu [] all = refl
all_mail cpu (e ∷ es) all = mail_event cpu e es (all 0 e (omega arith)) ∙ ap (λ l. e ∷ l) (all_mail cpu es (λ k d below. all (suc k) d (omega (arith, below))))

pub mail_traced : (cpu : CpuId) (n : ℕ) (a b : Desk) (t u : Vec Event Global) → TracesDeeds a b t.items u.items → Grew cpu n t u → TracesMail a b t.items u.items
mail_traced cpu n a b t u in_trace grew =
    let same : grew.made ≡ events_in in_trace.deeds = append_cancel_left t.items grew.made (events_in in_trace.deeds) (sym grew.trace_is ∙ in_trace.trace_is) in record {
      same = in_trace.same;
      deeds = in_trace.deeds;
      grows = in_trace.grows;
      mine = in_trace.mine;
      done = grew.made;
      trace_is = grew.trace_is;
      traced = all_mail cpu grew.made grew.own ∙ same;
    }

-- a call on the ports that makes no event
pub mail_unmade : (a b : Desk) (t : List Event) → TracesDeeds a b t t → TracesMail a b t t
mail_unmade a b t in_trace = record {
  same = in_trace.same;
  deeds = in_trace.deeds;
  grows = in_trace.grows;
  mine = in_trace.mine;
  done = [];
  trace_is = sym (append-nil t);
  traced = append_cancel_left t [] (events_in in_trace.deeds) (append-nil t ∙ in_trace.trace_is);
}

-- the events of taking and of giving references are none of messages
plain_taking : (cpu : CpuId) (tok : TokId) (mode : Mode) → filter is_of_message (taking cpu tok mode ∷ []) ≡ []
plain_taking cpu tok Exclusive = refl
plain_taking cpu tok Shared = refl

plain_if : (b : Bool) (x y : Event) → filter is_of_message (x ∷ []) ≡ [] → filter is_of_message (y ∷ []) ≡ [] → filter is_of_message (cond b x y ∷ []) ≡ []
plain_if true x y first second = first
plain_if false x y first second = second

plain_takes : (cpu : CpuId) (front : List Ref) (r : Ref) → filter is_of_message (taking_event cpu front r ∷ []) ≡ []
plain_takes cpu front r = plain_if (names front r.tok.0) (Again cpu r.tok) (taking cpu r.tok r.mode) refl (plain_taking cpu r.tok r.mode)

plain_writes : (cpu : CpuId) (tok : TokId) (cell : ℕ) (values : List (Option ℕ)) → filter is_of_message (write_events cpu tok cell values) ≡ []
plain_writes cpu tok cell [] = refl
plain_writes cpu tok cell (None ∷ values) = plain_writes cpu tok (suc cell) values
plain_writes cpu tok cell (Some value ∷ values) = plain_writes cpu tok (suc cell) values

plain_record : (cpu : CpuId) (tok : TokId) (bytes : RecordOf) → filter is_of_message (record_write_events cpu tok bytes) ≡ []
plain_record cpu tok None = refl
plain_record cpu tok (Some bytes) = refl

pub plain_append : (xs ys : List Event) → filter is_of_message xs ≡ [] → filter is_of_message ys ≡ [] → filter is_of_message (xs ++ ys) ≡ []
plain_append xs ys first second = filter-append is_of_message xs ys ∙ ap (λ l. l ++ filter is_of_message ys) first ∙ second

plain_is : (xs ys : List Event) → xs ≡ ys → filter is_of_message ys ≡ [] → filter is_of_message xs ≡ []
plain_is xs ys is plain = ap (λ l. filter is_of_message l) is ∙ plain

plain_releases : (s : CpuSeat) (held : Held) (tok : TokId) (events : List Event) → Releases s held tok events → filter is_of_message events ≡ []
plain_releases s held tok events r = elim r [
  | inl one ↦ plain_is events (GiveOne s.cpu tok ∷ []) one.1 refl
  | inr others ↦ elim others [
    | inl clean ↦ plain_is events (GiveClean s.cpu tok ∷ []) clean.3 refl
    | inr rest ↦ elim rest [
      | inl written ↦ plain_is events (GiveWritten s.cpu tok (section_now s tok) ∷ []) written.3 refl
      | inr broken ↦
          let stores = broken.2 in
          let first = write_events s.cpu tok 0 stores.0 in
          let last = record_write_events s.cpu tok stores.1.0 in
          let clean = GiveClean s.cpu tok ∷ [] in
          plain_is events (first ++ (last ++ clean)) stores.1.1.2 (plain_append first (last ++ clean) (plain_writes s.cpu tok 0 stores.0) (plain_append last clean (plain_record s.cpu tok stores.1.0) refl))
    ]
  ]
]

plain_releases_all : (s : CpuSeat) (front refs : List Ref) (events : List Event) → ReleasesAll s front refs events → filter is_of_message events ≡ []
plain_releases_all s front [] events r = plain_is events [] r refl
plain_releases_all s front (x ∷ refs) events r = plain_is events (r.0 ++ r.1.0) r.1.1.2 (plain_append r.0 r.1.0 (plain_releases_all s (front ++ x ∷ []) refs r.0 r.1.1.0) (plain_releases s (holding_of (front ++ x ∷ []) x.tok.0) x.tok r.1.0 r.1.1.1))

pub plain_takes_all : (cpu : CpuId) (front refs : List Ref) → filter is_of_message (takes_all cpu front refs) ≡ []
plain_takes_all cpu front [] = refl
plain_takes_all cpu front (r ∷ refs) = plain_append (taking_event cpu front r ∷ []) (takes_all cpu (front ++ r ∷ []) refs) (plain_takes cpu front r) (plain_takes_all cpu (front ++ r ∷ []) refs)

plain_gives : (cpu : CpuId) (tok : TokId) (held : Held) → filter is_of_message (gives cpu tok held ∷ []) ≡ []
plain_gives cpu tok Nothing = refl
plain_gives cpu tok (Holds Shared further) = refl
plain_gives cpu tok (Holds Exclusive further) = plain_if (further == 0) (GiveClean cpu tok) (GiveOne cpu tok) refl refl

pub plain_gives_all : (cpu : CpuId) (front refs : List Ref) → filter is_of_message (gives_all cpu front refs) ≡ []
plain_gives_all cpu front [] = refl
plain_gives_all cpu front (r ∷ refs) = plain_append (gives_all cpu (front ++ r ∷ []) refs) (gives cpu r.tok (holding_of (front ++ r ∷ []) r.tok.0) ∷ []) (plain_gives_all cpu (front ++ r ∷ []) refs) (plain_gives cpu r.tok (holding_of (front ++ r ∷ []) r.tok.0))

-- each call on the hold
pub given_quiet : (a b : CpuSeat) (refs : List Ref) (held : ℕ) (t u : Vec Event Global) (meant next : Next Answer) → GivesUp a b refs held t u meant next → TracesTokensOnly t.items u.items
given_quiet a b refs held t u meant next g = record { done = g.done; trace_is = g.traced; quiet = plain_releases_all a [] (take held refs) g.done g.releases }

marked_quiet : (mode : Mode) (cpu : CpuId) (tok : TokId) (t v : Vec Event Global) → Marks mode cpu tok t v → TracesTokensOnly t.items v.items
marked_quiet Exclusive cpu tok t v marks = quiet_one t.items v.items (Mark cpu tok) marks refl
marked_quiet Shared cpu tok t v marks = quiet_same t v marks

acquired_quiet : (bank : BankId) (a b : CpuSeat) (refs now : List Ref) (new : Ref) (t v : Vec Event Global) (result : Result Acquired Fault) → Acquires bank a b refs now new t v result → TracesTokensOnly t.items v.items
acquired_quiet bank a b refs now new t v (Ok Got) acquires = quiet_one t.items v.items (taking_event a.cpu refs new) acquires.ok.traced (plain_takes a.cpu refs new)
acquired_quiet bank a b refs now new t v (Ok (MustSwitch why)) acquires = marked_quiet new.mode a.cpu new.tok t v acquires.ok.marks
acquired_quiet bank a b refs now new t v (Err fault) acquires = quiet_same t v acquires.err.1.silent

went_on_quiet : (mid b : CpuSeat) (refs now : List Ref) (v u : Vec Event Global) (next : Next Answer) (result : Result Acquired Fault) → GoesOnWith mid b refs now v u next result → TracesTokensOnly v.items u.items
went_on_quiet mid b refs now v u next (Ok Got) g = quiet_same v u g.1
went_on_quiet mid b refs now v u next (Ok (MustSwitch why)) g = given_quiet mid b now (length refs) v u (Readies Done) next g
went_on_quiet mid b refs now v u next (Err fault) g = quiet_same v u g.1

pub got_quiet : (bank : BankId) (a b : CpuSeat) (refs now : List Ref) (new : Ref) (t u : Vec Event Global) (next : Next Answer) → Gets bank a b refs now new t u next → TracesTokensOnly t.items u.items
got_quiet bank a b refs now new t u next g = quiet_then t.items g.v.items u.items (acquired_quiet bank a g.mid refs now new t g.v g.result g.acquires) (went_on_quiet g.mid b refs now g.v u next g.result g.goes_on)

pub tried_quiet : (bank : BankId) (a b : CpuSeat) (refs now : List Ref) (tok : TokId) (t u : Vec Event Global) (result : Result (Unit {0}) Fault) → Tries bank a b refs now tok t u result → TracesTokensOnly t.items u.items
tried_quiet bank a b refs now tok t u (Ok x) g = quiet_one t.items u.items (taking_event a.cpu refs (exclusive tok)) g.ok.traced (plain_takes a.cpu refs (exclusive tok))
tried_quiet bank a b refs now tok t u (Err fault) g = quiet_same t u g.err.1.silent

released_quiet : (a b : CpuSeat) (refs now : List Ref) (tok : TokId) (restored : Bool) (t u : List Event) → ReleasesLast a b refs now tok restored t u → TracesTokensOnly t u
released_quiet a b refs now tok restored t u r = record { done = r.done; trace_is = r.traced; quiet = plain_releases a (holding a tok.0) tok r.done r.releases }

pub rel_quiet : (a b : CpuSeat) (refs now : List Ref) (tok : TokId) (t u : Vec Event Global) (result : Result (Unit {0}) Fault) → Rels a b refs now tok t u result → TracesTokensOnly t.items u.items
rel_quiet a b refs now tok t u (Ok x) r = released_quiet a b refs now tok false t.items u.items r.ok
rel_quiet a b refs now tok t u (Err fault) r = elim r.err [
  | inl broken ↦ released_quiet a b refs now tok true t.items u.items broken.1
  | inr same ↦ quiet_same t u same.3
]

pub read_quiet : (bank : BankId) (a b : CpuSeat) (refs : List Ref) (tok : TokId) (cell : ℕ) (t u : Vec Event Global) (result : Result ℕ Fault) → Reads bank a b refs tok cell t u result → TracesTokensOnly t.items u.items
read_quiet bank a b refs tok cell t u (Ok value) r = quiet_one t.items u.items (Read a.cpu tok cell value) r.ok.traced refl
read_quiet bank a b refs tok cell t u (Err fault) r = quiet_same t u r.err.0

pub stored_quiet : (bank : BankId) (a b : CpuSeat) (refs : List Ref) (tok : TokId) (cell value : ℕ) (t u : Vec Event Global) (result : Result (Unit {0}) Fault) → Stores bank a b refs tok cell value t u result → TracesTokensOnly t.items u.items
stored_quiet bank a b refs tok cell value t u (Ok x) r = quiet_one t.items u.items (Write a.cpu tok cell value) r.ok.traced refl
stored_quiet bank a b refs tok cell value t u (Err fault) r = quiet_same t u r.err.silent

pub added_quiet : (bank : BankId) (a b : CpuSeat) (refs : List Ref) (tok : TokId) (k : ℕ) (t u : Vec Event Global) (result : Result (Unit {0}) Fault) → Adds bank a b refs tok k t u result → TracesTokensOnly t.items u.items
added_quiet bank a b refs tok k t u (Ok x) r = quiet_one t.items u.items (Write a.cpu tok 0 _) r.ok.traced refl
added_quiet bank a b refs tok k t u (Err fault) r = quiet_same t u r.err.silent

pub record_read_quiet : (bank : BankId) (a b : CpuSeat) (refs : List Ref) (tok : TokId) (t u : Vec Event Global) (result : Result (List ℕ) Fault) → ReadsRecord bank a b refs tok t u result → TracesTokensOnly t.items u.items
record_read_quiet bank a b refs tok t u (Ok bytes) r = quiet_one t.items u.items (ReadBlob a.cpu tok bytes) r.ok.traced refl
record_read_quiet bank a b refs tok t u (Err fault) r = quiet_same t u r.err.0

pub record_stored_quiet : (bank : BankId) (a b : CpuSeat) (refs : List Ref) (tok : TokId) (bytes : List ℕ) (t u : Vec Event Global) (result : Result (Unit {0}) Fault) → StoresRecord bank a b refs tok bytes t u result → TracesTokensOnly t.items u.items
record_stored_quiet bank a b refs tok bytes t u (Ok x) r = quiet_one t.items u.items (WriteBlob a.cpu tok bytes) r.ok.traced refl
record_stored_quiet bank a b refs tok bytes t u (Err fault) r = quiet_same t u r.err.0
