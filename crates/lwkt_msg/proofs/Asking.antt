use Rattle.std.proofs.Common.{◌≡◌, ◌≢◌, ◌⊎◌, inl, inr, ⊎_elim, ℕ, zero, suc, ◌<◌, Bool, true, false, List, [], ◌∷◌, ◌++◌, length, map, set, get_or, Some, refl, ap, sym, ◌∙◌, subst, arith, append_assoc, append-nil, length-set, get_or-set_other, get_or-set_same}
use Rattle.std.proofs.lemmas.List.Elements.{All-nil, All-push, All-pop}
use lib.ListN.{length-map}
use mathlib.Core.Logic.{dite}
use native.Mathlib.Decide.{ℕ_discrete}
use Rattle.lwkt_base.specs.declared.names.CpuId.{CpuId}
use Rattle.lwkt_base.specs.declared.names.MsgId.{MsgId}
use Rattle.lwkt_base.specs.declared.owners.Owner.{Owner}
use Rattle.lwkt_base.specs.declared.owners.Owner.TheVariants.{Rest, Out, With, Back}
use Rattle.lwkt_base.specs.declared.opening_specs.MsgSpec.{MsgSpec}
use Rattle.lwkt_core.specs.declared.messages.Message.{Message}
use Rattle.lwkt_core.specs.declared.events.Event.{Event}
use Rattle.lwkt_core.specs.declared.events.Event.TheVariants.{Load, Take, Share, Again, Mark, GiveOne, GiveClean, GiveWritten, Read, Write, ReadBlob, WriteBlob, Send, TakeMsg, DropMsg, Reply, Reap, Abort}
use Rattle.lwkt_core.specs.declared.events.Place.TheVariants.{AtMessage}
use Rattle.lwkt_table.specs.declared.seats.Deed.{Deed}
use Rattle.lwkt_core.specs.Events.{place_of}
use Rattle.lwkt_core.specs.Messages.{MessageNeeds, message_after, origin_of, is_away, IsOutTo, IsWith}
use Rattle.lwkt_table.specs.History.{Passes}
use Rattle.lwkt_msg.specs.Views.{named}
use Rattle.lwkt_msg.specs.Book.{Mail, mail_at, no_mail, opened_mail}
use Rattle.lwkt_msg.specs.Ledger.{IsHandedOut, IsLook, IsEvent, IsDone, first_mails}
use Rattle.lwkt_msg.specs.Records.{IsSendOf, IsRequestOf, WasAskedFor, IsAskedSo, HistoryDecidesRequests}
use Rattle.lwkt_msg.proofs.Moves.{never}
use Rattle.lwkt_msg.proofs.Recording.{some_event, same_event, message_in, needs_at, as_many}

-- no deed of these sends the message
abbrev Sends_not : ℕ → Deed → Type 0
Sends_not m d = IsSendOf m d → ⊥

abbrev behind : List Deed → List Deed
behind [] = []
behind (x ∷ xs) = xs

first_is : (a b : Deed) (xs ys : List Deed) → a ∷ xs ≡ b ∷ ys → a ≡ b
first_is a b xs ys h = ap (λ (l : List Deed). get_or l 0 a) h

not_short : (bs since : List Deed) (r : Deed) → [] ≡ bs ++ (r ∷ since) → ⊥
not_short [] since r e = cc
not_short (b ∷ bs) since r e = cc

-- where a list with one deed more is cut at a deed, that is the last one, or the list without it is cut there too
record IsCut (xs : List Deed) (d : Deed) (before : List Deed) (r : Deed) (since : List Deed) : Type 0 where
  rest : List Deed
  front : xs ≡ before ++ (r ∷ rest)
  since_is : since ≡ rest ++ d ∷ []

cut_last : (xs : List Deed) (d : Deed) (before : List Deed) (r : Deed) (since : List Deed) → xs ++ d ∷ [] ≡ before ++ (r ∷ since) → (d ≡ r) ⊎ IsCut xs d before r since
cut_last [] d [] r since h = inl (first_is d r [] since h)
cut_last [] d (b ∷ bs) r since h = absurd (not_short bs since r (ap behind h))
cut_last (x ∷ xs) d [] r since h = inr (record { rest = xs; front = ap (λ (y : Deed). y ∷ xs) (first_is x r (xs ++ d ∷ []) since h); since_is = sym (ap behind h) })
cut_last (x ∷ xs) d (b ∷ bs) r since h = ⊎_elim
    (λ (last : d ≡ r). inl last)
    (λ (cut : IsCut xs d bs r since). inr (record { rest = cut.rest; front = (λ i. first_is x b (xs ++ d ∷ []) (bs ++ (r ∷ since)) h i ∷ cut.front i); since_is = cut.since_is }))
    (cut_last xs d bs r since (ap behind h))

-- a request stays one of this round after a deed that sends nothing, and a deed may be one
asked_longer : (cpu : CpuId) (deeds : List Deed) (m : ℕ) (d : Deed) → Sends_not m d → WasAskedFor cpu deeds m → WasAskedFor cpu (deeds ++ d ∷ []) m
asked_longer cpu deeds m d none w = record {
  before = w.before;
  request = w.request;
  since = w.since ++ d ∷ [];
  parts = ap (λ (l : List Deed). l ++ d ∷ []) w.parts ∙ append_assoc w.before (w.request ∷ w.since) (d ∷ []);
  requests = w.requests;
  same_round = All-push (Sends_not m) w.since d w.same_round none;
}

asked_now : (cpu : CpuId) (deeds : List Deed) (m : ℕ) (d : Deed) → IsRequestOf cpu m d → WasAskedFor cpu (deeds ++ d ∷ []) m
asked_now cpu deeds m d is = record { before = deeds; request = d; since = []; parts = refl; requests = is; same_round = All-nil (Sends_not m) }

-- where there is one after a deed, it is that deed, or the deed sends nothing and there was one before it
asked_before : (cpu : CpuId) (deeds : List Deed) (m : ℕ) (d : Deed) → WasAskedFor cpu (deeds ++ d ∷ []) m → IsRequestOf cpu m d ⊎ (Sends_not m d × WasAskedFor cpu deeds m)
asked_before cpu deeds m d w = ⊎_elim
    (λ (last : d ≡ w.request). inl (ap (λ (x : Deed). x.events) last ∙ w.requests))
    (λ (cut : IsCut deeds d w.before w.request w.since).
    let all = All-pop (Sends_not m) w.since cut.rest (Some d) cut.since_is w.same_round in
    inr (all.1, record { before = w.before; request = w.request; since = cut.rest; parts = cut.front; requests = w.requests; same_round = all.0 }))
    (cut_last deeds d w.before w.request w.since w.parts)

-- a deed that neither sends the message nor asks for it to be aborted
abbrev Is_quiet : ℕ → Deed → Type 0
Is_quiet m d = Sends_not m d × ((cpu : CpuId) → IsRequestOf cpu m d → ⊥)

-- after such a deed the same is so, wherever the message is away
quiet_keeps : (deeds : List Deed) (m : ℕ) (d : Deed) (o p : Owner) (asked : Bool) → Is_quiet m d → is_away o ≡ true → is_away p ≡ true → origin_of p ≡ origin_of o → IsAskedSo deeds m o asked → IsAskedSo (deeds ++ d ∷ []) m p asked
quiet_keeps deeds m d o p asked quiet away still same known = record {
  at_rest = λ home. never (sym home ∙ still);
  away = λ _. (
    λ is. let F : CpuId → Type 0 = λ c. WasAskedFor c (deeds ++ d ∷ []) m in subst F (sym same) (asked_longer (origin_of o) deeds m d quiet.0 ((known.away away).0 is)),
    λ w. ⊎_elim
        (λ (now : IsRequestOf (origin_of p) m d). absurd (quiet.1 (origin_of p) now))
        (λ (before : Sends_not m d × WasAskedFor (origin_of p) deeds m). let F : CpuId → Type 0 = λ c. WasAskedFor c deeds m in (known.away away).1 (subst F same before.1))
        (asked_before (origin_of p) deeds m d w),
  );
}

-- and where it is at rest
rest_keeps : (deeds : List Deed) (m : ℕ) (o : Owner) (asked : Bool) → is_away o ≡ false → asked ≡ false → IsAskedSo deeds m o asked
rest_keeps deeds m o asked home is = record { at_rest = λ _. is; away = λ away. never (sym home ∙ away) }

quiet_same : (deeds : List Deed) (m : ℕ) (d : Deed) (o : Owner) (asked : Bool) → Is_quiet m d → IsAskedSo deeds m o asked → IsAskedSo (deeds ++ d ∷ []) m o asked
quiet_same deeds m d (Rest o) asked quiet known = rest_keeps (deeds ++ d ∷ []) m (Rest o) asked refl (known.at_rest refl)
quiet_same deeds m d (Out o t) asked quiet known = quiet_keeps deeds m d (Out o t) (Out o t) asked quiet refl refl refl known
quiet_same deeds m d (With o t) asked quiet known = quiet_keeps deeds m d (With o t) (With o t) asked quiet refl refl refl known
quiet_same deeds m d (Back o t) asked quiet known = quiet_keeps deeds m d (Back o t) (Back o t) asked quiet refl refl refl known

-- a deed of this event, which is neither, is quiet
quiet_by : (m : ℕ) (d : Deed) (event : Event) → d.events ≡ event ∷ [] → ((cpu to : CpuId) (round : ℕ) → event ≢ Send cpu (named m) to round) → ((cpu : CpuId) → event ≢ Abort cpu (named m)) → Is_quiet m d
quiet_by m d event is no_send no_request = (
  λ s. no_send s.0 s.1 s.2.0 (same_event event (Send s.0 (named m) s.1 s.2.0) (sym is ∙ s.2.1)),
  λ cpu r. no_request cpu (same_event event (Abort cpu (named m)) (sym is ∙ r)),
)

-- whom an event needs is away
out_away : (cpu : CpuId) (o : Owner) → IsOutTo cpu o → is_away o ≡ true
out_away cpu (Rest o) h = absurd h
out_away cpu (Out o t) h = refl
out_away cpu (With o t) h = absurd h
out_away cpu (Back o t) h = absurd h

with_away : (cpu : CpuId) (o : Owner) → IsWith cpu o → is_away o ≡ true
with_away cpu (Rest o) h = absurd h
with_away cpu (Out o t) h = absurd h
with_away cpu (With o t) h = refl
with_away cpu (Back o t) h = absurd h

-- an event of this message
asked_event : (cpus : ℕ) (m : ℕ) (deeds : List Deed) (d : Deed) (msg after : Message) (event : Event) → d.events ≡ event ∷ [] → place_of event ≡ AtMessage m → MessageNeeds cpus msg event → after ≡ message_after msg event
    → IsAskedSo deeds m msg.owner msg.asked → IsAskedSo (deeds ++ d ∷ []) m after.owner after.asked
asked_event cpus m deeds d msg after (Send cpu n to round) is place needs left known =
    let at_m : n ≡ named m = (let same : n.0 ≡ m = ap message_in place in λ i. record { 0 = same i }) in
    let sends : IsSendOf m d = (cpu, to, (round, is ∙ ap (λ (x : MsgId). Send cpu x to round ∷ []) at_m)) in
    let no_request : (c : CpuId) → IsRequestOf c m d → ⊥ = λ c r. let g : Send cpu n to round ≡ Abort c (named m) = same_event (Send cpu n to round) (Abort c (named m)) (sym is ∙ r) in cc in
    let none : msg.asked ≡ false = known.at_rest (ap is_away needs.0) in
    let now : IsAskedSo (deeds ++ d ∷ []) m (Out cpu to) msg.asked = record {
      at_rest = λ home. never (sym home);
      away = λ _. (
        λ asked. never (sym none ∙ asked),
        λ w. ⊎_elim
            (λ (r : IsRequestOf cpu m d). absurd (no_request cpu r))
            (λ (before : Sends_not m d × WasAskedFor cpu deeds m). absurd (before.0 sends))
            (asked_before cpu deeds m d w),
      );
    } in
    subst (λ (x : Message). IsAskedSo (deeds ++ d ∷ []) m x.owner x.asked) (sym left) now
asked_event cpus m deeds d msg after (TakeMsg cpu n round) is place needs left known =
    let quiet = quiet_by m d (TakeMsg cpu n round) is (λ c t r h. let g : TakeMsg cpu n round ≡ Send c (named m) t r = h in absurd cc) (λ c h. let g : TakeMsg cpu n round ≡ Abort c (named m) = h in absurd cc) in
    subst (λ (x : Message). IsAskedSo (deeds ++ d ∷ []) m x.owner x.asked) (sym left) (quiet_keeps deeds m d msg.owner (message_after msg (TakeMsg cpu n round)).owner msg.asked quiet (out_away cpu msg.owner needs.0) refl refl known)
asked_event cpus m deeds d msg after (DropMsg cpu n) is place needs left known = subst (λ (x : Message). IsAskedSo (deeds ++ d ∷ []) m x.owner x.asked) (sym left) (rest_keeps (deeds ++ d ∷ []) m (Rest cpu) false refl refl)
asked_event cpus m deeds d msg after (Reply cpu n) is place needs left known =
    let quiet = quiet_by m d (Reply cpu n) is (λ c t r h. let g : Reply cpu n ≡ Send c (named m) t r = h in absurd cc) (λ c h. let g : Reply cpu n ≡ Abort c (named m) = h in absurd cc) in
    subst (λ (x : Message). IsAskedSo (deeds ++ d ∷ []) m x.owner x.asked) (sym left) (quiet_keeps deeds m d msg.owner (message_after msg (Reply cpu n)).owner msg.asked quiet (with_away cpu msg.owner needs) refl refl known)
asked_event cpus m deeds d msg after (Reap cpu n) is place needs left known = subst (λ (x : Message). IsAskedSo (deeds ++ d ∷ []) m x.owner x.asked) (sym left) (rest_keeps (deeds ++ d ∷ []) m (Rest cpu) false refl refl)
asked_event cpus m deeds d msg after (Abort cpu n) is place needs left known =
    let at_m : n ≡ named m = (let same : n.0 ≡ m = ap message_in place in λ i. record { 0 = same i }) in
    let requests : IsRequestOf (origin_of msg.owner) m d = is ∙ (λ i. Abort (sym needs.0 i) (at_m i) ∷ []) in
    let now : IsAskedSo (deeds ++ d ∷ []) m msg.owner true = record { at_rest = λ home. never (sym home ∙ needs.1); away = λ _. (λ _. asked_now (origin_of msg.owner) deeds m d requests, λ _. refl) } in
    subst (λ (x : Message). IsAskedSo (deeds ++ d ∷ []) m x.owner x.asked) (sym left) now
asked_event cpus m deeds d msg after (Load cpu tok) is place needs left known = absurd needs
asked_event cpus m deeds d msg after (Take cpu tok) is place needs left known = absurd needs
asked_event cpus m deeds d msg after (Share cpu tok) is place needs left known = absurd needs
asked_event cpus m deeds d msg after (Again cpu tok) is place needs left known = absurd needs
asked_event cpus m deeds d msg after (Mark cpu tok) is place needs left known = absurd needs
asked_event cpus m deeds d msg after (GiveOne cpu tok) is place needs left known = absurd needs
asked_event cpus m deeds d msg after (GiveClean cpu tok) is place needs left known = absurd needs
asked_event cpus m deeds d msg after (GiveWritten cpu tok section) is place needs left known = absurd needs
asked_event cpus m deeds d msg after (Read cpu tok cell value) is place needs left known = absurd needs
asked_event cpus m deeds d msg after (Write cpu tok cell value) is place needs left known = absurd needs
asked_event cpus m deeds d msg after (ReadBlob cpu tok blob) is place needs left known = absurd needs
asked_event cpus m deeds d msg after (WriteBlob cpu tok blob) is place needs left known = absurd needs

-- a deed keeps what is known of the requests to abort one message
module _ (cpus m : ℕ) where
  abbrev Asks : List Deed → List Mail → Type 0
  Asks deeds mails = (m < length mails) × IsAskedSo deeds m (mail_at mails m).msg.owner (mail_at mails m).msg.asked

  quiet_look : (d : Deed) → d.events ≡ [] → Is_quiet m d
  quiet_look d none = (λ s. some_event (Send s.0 (named m) s.1 s.2.0) d.events none s.2.1, λ cpu r. some_event (Abort cpu (named m)) d.events none r)

  -- a deed at another message
  quiet_elsewhere : (mails : List Mail) (d : Deed) (after : List Mail) (done : IsDone cpus mails d after) → done.step.at ≢ m → Is_quiet m d
  quiet_elsewhere mails d after done apart = ⊎_elim
      (λ (look : IsLook (mail_at mails done.step.at) d done.step done.after). quiet_look d look.events)
      (λ (event : IsEvent cpus mails done.step.at d done.step done.after).
      quiet_by m d event.event event.events
      (λ c t r h. apart (ap message_in (sym event.place ∙ ap place_of h)))
      (λ c h. apart (ap message_in (sym event.place ∙ ap place_of h))))
      done.what

  asked_step : (deeds : List Deed) (mails : List Mail) (d : Deed) (after : List Mail) → IsDone cpus mails d after → Asks deeds mails → Asks (deeds ++ d ∷ []) after
  asked_step deeds mails d after done p =
      let there : m < length after = let l = ap (λ (xs : List Mail). length xs) done.leaves in let k = length-set mails done.step.at done.after in let h = p.0 in omega arith in (
        there,
        subst (λ (xs : List Mail). F (mail_at xs m)) (sym done.leaves) (dite (ℕ_discrete done.step.at m) here else_),
      )
    where
      F : Mail → Type 0
      F x = IsAskedSo (deeds ++ d ∷ []) m x.msg.owner x.msg.asked

      else_ : done.step.at ≢ m → F (mail_at (set mails done.step.at done.after) m)
      else_ apart = subst F (sym (get_or-set_other mails done.step.at m done.after no_mail (λ h. apart (sym h)))) (quiet_same deeds m d (mail_at mails m).msg.owner (mail_at mails m).msg.asked (quiet_elsewhere mails d after done apart) p.1)

      looked : (mail : Mail) → IsLook mail d done.step done.after → IsAskedSo deeds m mail.msg.owner mail.msg.asked → F done.after
      looked mail look q =
          let still = quiet_same deeds m d mail.msg.owner mail.msg.asked (quiet_look d look.events) q in ⊎_elim
          (λ (same : (d.records ≡ []) × (done.after ≡ mail)). subst F (sym same.1) still)
          (λ (handed : IsHandedOut mail d done.after). subst F (sym handed.leaves) still)
          look.leaves

      kept : done.step.at ≡ m → IsAskedSo deeds m (mail_at mails done.step.at).msg.owner (mail_at mails done.step.at).msg.asked → F done.after
      kept same q = ⊎_elim
          (λ (look : IsLook (mail_at mails done.step.at) d done.step done.after). looked (mail_at mails done.step.at) look q)
          (λ (event : IsEvent cpus mails done.step.at d done.step done.after).
          asked_event cpus m deeds d (mail_at mails done.step.at).msg done.after.msg event.event event.events (event.place ∙ ap AtMessage same) (needs_at cpus mails event.event done.step.at done.there event.place event.happens.0.place) event.msg_is q)
          done.what

      here : done.step.at ≡ m → F (mail_at (set mails done.step.at done.after) m)
      here same =
          let K : ℕ → Type 0 = λ k. F (mail_at (set mails done.step.at done.after) k) in
          let L : ℕ → Type 0 = λ k. IsAskedSo deeds m (mail_at mails k).msg.owner (mail_at mails k).msg.asked in
          subst K same (subst F (sym (get_or-set_same mails done.step.at done.after no_mail done.there)) (kept same (subst L (sym same) p.1)))

  -- and so does a history
  asked_after : (front deeds : List Deed) (mails last : List Mail) → Asks front mails → Passes (IsDone cpus) mails deeds last → Asks (front ++ deeds) last
  asked_after front [] mails last p passes =
      let F : List Mail → Type 0 = λ xs. Asks (front ++ []) xs in
      let G : List Deed → Type 0 = λ xs. Asks xs mails in
      subst F (sym passes) (subst G (sym (append-nil front)) p)
  asked_after front (d ∷ deeds) mails last p passes =
      let G : List Deed → Type 0 = λ xs. Asks xs last in
      subst G (append_assoc front (d ∷ []) deeds) (asked_after (front ++ d ∷ []) deeds passes.0 last (asked_step front mails d passes.0 passes.1.0 p) passes.1.1)

-- of a message as it is declared nobody has asked anything
first_asked : (specs : List MsgSpec) (m n : ℕ) → n < length specs → IsAskedSo [] m (mail_at (map opened_mail specs) n).msg.owner (mail_at (map opened_mail specs) n).msg.asked
first_asked [] m n h = absurd (omega arith)
first_asked (x ∷ xs) m zero h = rest_keeps [] m (opened_mail x).msg.owner (opened_mail x).msg.asked refl refl
first_asked (x ∷ xs) m (suc n) h = first_asked xs m n (omega arith)

pub requests_decided : HistoryDecidesRequests
requests_decided cpus specs history mails passes m there =
    let first : List Mail = first_mails specs in
    let in_first : m < length first = let l = as_many cpus history first mails passes in omega arith in
    let in_specs : m < length specs = let l = length-map specs opened_mail in omega arith in
    (asked_after cpus m [] history first mails (in_first, first_asked specs m m in_specs) passes).1
