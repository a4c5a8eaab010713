-- What asks about tokens leave of sound tokens.
use Rattle.std.proofs.Common.{◌≡◌, ◌≢◌, ◌<◌, ◌≤◌, ◌+◌, ◌-◌, ℕ, zero, suc, List, [], ◌∷◌, ◌++◌, length, get_or, take, drop, reverse, refl, ap, sym, ◌∙◌, subst, arith, Option, Some, None, Bool, true, false}
use Rattle.std.specs.Prelude.{slice_get, All, IsSomeAnd, if◌then◌else◌, ◌==◌, unwrap_or, nat_lt, not, is_some}
use Rattle.std.specs.Option.{option_map_or}
use Rattle.std.proofs.lemmas.Bool.{false≢true, eqb-false, ltb-false}
use Rattle.std.proofs.lemmas.List.{length-append, get_or_append_left, length-take, take_all as whole, take-append-drop}
use Rattle.std.proofs.lemmas.List.Elements.{All-push, All-take, All-nil, All-cons, All-head, All-tail, All-append}
use Rattle.std.proofs.lemmas.Option.{slice_get_within, none-some}
use Rattle.lwkt_base.specs.declared.names.CpuId.{CpuId}
use Rattle.lwkt_base.specs.declared.names.TokId.{TokId}
use Rattle.lwkt_base.specs.declared.names.Mode.{Mode}
use Rattle.lwkt_base.specs.declared.names.Mode.TheVariants.{Exclusive, Shared}
use Rattle.lwkt_base.specs.declared.names.Ref.{Ref}
use Rattle.lwkt_base.specs.declared.faults.Fault.{Fault}
use Rattle.lwkt_base.specs.declared.holdings.Held.{Held}
use Rattle.lwkt_base.specs.declared.limits.TheConstants.{CPU_LIMIT, LIST_LIMIT}
use Rattle.lwkt_base.specs.declared.asks.Answer.{Answer}
use Rattle.lwkt_base.specs.declared.asks.Answer.TheVariants.{Done, Value, Bytes}
use Rattle.lwkt_base.specs.declared.faults.Fault.TheVariants.{NotHeld, NotLast, SharedWrite, TallyOnly, RecordLong, SwapShort, SwapSame}
use Rattle.lwkt_base.specs.declared.limits.TheConstants.{RECORD_LIMIT}
use Rattle.lwkt_base.specs.Holding.{Holding, holding_of}
use Rattle.lwkt_base.specs.Refs.{names, first_mode}
use Rattle.lwkt_base.proofs.RefsLemmas.{holding_of-exchanged, take_two}
use Rattle.lwkt_core.specs.declared.tokens.Token.{Token}
use Rattle.lwkt_core.specs.declared.events.Event.{Event}
use Rattle.lwkt_core.specs.declared.events.Event.TheVariants.{Mark, Write, WriteBlob}
use Rattle.lwkt_core.specs.declared.events.Place.{Place}
use Rattle.lwkt_core.specs.declared.events.Place.TheVariants.{AtToken}
use Rattle.lwkt_core.specs.Events.{cpu_of, place_of}
use Rattle.lwkt_core.specs.Machine.{machine, Needs, PlaceNeeds}
use Rattle.lwkt_core.specs.Tokens.{IsSafeToken, TokenNeeds}
use Rattle.lwkt_plain.specs.declared.nexts.Next.TheVariants.{Runs}
use Rattle.lwkt_plain.specs.declared.nexts.Miss.{Miss}
use Rattle.lwkt_plain.specs.declared.nexts.Miss.TheVariants.{Busy, Worn}
use Rattle.lwkt_plain.specs.Sound.{AreSoundTokens, AreHeld, KeepsTokens, IsSoundList}
use Rattle.lwkt_plain.specs.Tokens.{stepped, miss_of}
use Rattle.lwkt_plain.specs.TokenAsks.{Asked, asked, refused, unless, get_refusal, had, marked_for, must_switch, get, try_missed, try_get, last_of, front_of, released, rel, swapped, exchanged, tok_at, are_same, unless_cell, unless_exclusive, has_tally, value_of, read, write, add_refusal, add, record_of, record_refusal, read_blob, write_blob}
use Rattle.lwkt_plain.specs.Turns.{still_held, GivesWithin}
use Rattle.lwkt_plain.proofs.TokenSteps.{each_at, none_past, event_keeps, held_same, keeps_same, take_keeps, held_next}
use Rattle.lwkt_plain.proofs.AskNeeds.{get_allowed, mark_needs, write_needs, add_needs, record_needs}
use Rattle.lwkt_plain.proofs.AskLists.{last_split, exchanged_is, not_short}
use Rattle.lwkt_plain.proofs.Givings.{give_keeps}

-- tokens and list after an ask, before what comes next comes
pub record AsksSoundly (c : ℕ) (tokens : List Token) (a : Asked) : Type 0 where
  pub keeps : KeepsTokens c tokens a.tokens
  pub held : AreHeld c (still_held a.next a.refs) a.tokens
  pub fits : IsSoundList (length a.tokens) a.refs
  pub within : GivesWithin a.next (length a.refs)

-- an ask that is refused
pub refused_soundly : (c : ℕ) (tokens : List Token) (refs : List Ref) (fault : Fault) → AreSoundTokens tokens → AreHeld c refs tokens → IsSoundList (length tokens) refs → AsksSoundly c tokens (refused tokens refs fault)
refused_soundly c tokens refs fault sound held fits = record { keeps = keeps_same c tokens sound; held = held; fits = fits; within = tt }

unless_soundly : (c : ℕ) (tokens : List Token) (refs : List Ref) (o : Option Fault) (done : Asked) → AreSoundTokens tokens → AreHeld c refs tokens → IsSoundList (length tokens) refs → (o ≡ None → AsksSoundly c tokens done) → AsksSoundly c tokens (unless tokens refs o done)
unless_soundly c tokens refs None done sound held fits so = so refl
unless_soundly c tokens refs (Some fault) done sound held fits so = refused_soundly c tokens refs fault sound held fits

-- an event that changes no holding
pub plain_soundly : (tokens : List Token) (e : Event) (i : ℕ) (tok : Token) (refs : List Ref) → AreSoundTokens tokens → Needs (machine CPU_LIMIT tokens []) e → place_of e ≡ AtToken i → slice_get tokens i ≡ Some tok → ((h : Held) → held_next e h ≡ h) → AreHeld (cpu_of e) refs tokens → KeepsTokens (cpu_of e) tokens (stepped tokens e) × AreHeld (cpu_of e) refs (stepped tokens e)
plain_soundly tokens e i tok refs sound needs place at same held =
    let safe = each_at (IsSafeToken CPU_LIMIT) tokens i tok sound.safe.each_token at in
    let eight = safe.eight_holders in
    let here = needs.processor in
    (event_keeps tokens e i tok sound needs place at, held_same tokens e i tok refs (omega (arith, eight, here)) place at same held)

mark_at : (tokens : List Token) (cpu : CpuId) (t : TokId) (refs : List Ref) (o : Option Token) → slice_get tokens t.0 ≡ o → t.0 < length tokens → cpu.0 < CPU_LIMIT → AreSoundTokens tokens → AreHeld cpu.0 refs tokens → KeepsTokens cpu.0 tokens (stepped tokens (Mark cpu t)) × AreHeld cpu.0 refs (stepped tokens (Mark cpu t))
mark_at tokens cpu t refs None at there here sound held = absurd (none_past tokens t.0 at there)
mark_at tokens cpu t refs (Some tok) at there here sound held = plain_soundly tokens (Mark cpu t) t.0 tok refs sound (mark_needs tokens cpu t tok here at) refl at (λ h. refl) held

marked_soundly : (mode : Mode) (tokens : List Token) (cpu : CpuId) (t : TokId) (refs : List Ref) → t.0 < length tokens → cpu.0 < CPU_LIMIT → AreSoundTokens tokens → AreHeld cpu.0 refs tokens → KeepsTokens cpu.0 tokens (marked_for mode cpu t tokens) × AreHeld cpu.0 refs (marked_for mode cpu t tokens)
marked_soundly Exclusive tokens cpu t refs there here sound held = mark_at tokens cpu t refs (slice_get tokens t.0) refl there here sound held
marked_soundly Shared tokens cpu t refs there here sound held = (keeps_same cpu.0 tokens sound, held)

-- a list with a reference more
pub fits_more : (n : ℕ) (refs : List Ref) (r : Ref) → IsSoundList n refs → length refs ≢ LIST_LIMIT → r.tok.0 < n → IsSoundList n (refs ++ r ∷ [])
fits_more n refs r fits room there =
    let long = length-append refs (r ∷ []) in
    let few = fits.0 in
    (omega (arith, long, few, room), All-push (λ (q : Ref). q.tok.0 < n) refs r fits.1 there)

pub fits_so : (n m : ℕ) (refs : List Ref) → m ≡ n → IsSoundList n refs → IsSoundList m refs
fits_so n m refs same fits = subst (λ (k : ℕ). IsSoundList k refs) (sym same) fits

take_all : (refs : List Ref) (r : Ref) → take (length refs) (refs ++ r ∷ []) ≡ refs
take_all [] r = refl
take_all (x ∷ xs) r = ap (λ (ys : List Ref). x ∷ ys) (take_all xs r)

-- a reference that is asked for
module _ (cpu : CpuId) (tokens : List Token) (refs : List Ref) (r : Ref) (here : cpu.0 < CPU_LIMIT) (sound : AreSoundTokens tokens) (held : AreHeld cpu.0 refs tokens) (fits : IsSoundList (length tokens) refs) where
  had_soundly : IsSoundList (length tokens) (refs ++ r ∷ []) → miss_of tokens (refs ++ r ∷ []) refs r ≡ None → AsksSoundly cpu.0 tokens (had cpu tokens refs r)
  had_soundly more none =
      let one = take_keeps tokens cpu (refs ++ r ∷ []) refs r here sound held more none in
      record { keeps = one.0; held = one.1; fits = fits_so (length tokens) _ (refs ++ r ∷ []) one.0.same more; within = tt }

  switch_soundly : IsSoundList (length tokens) (refs ++ r ∷ []) → r.tok.0 < length tokens → (why : Miss) → AsksSoundly cpu.0 tokens (must_switch cpu tokens refs r why)
  switch_soundly more there Worn = refused_soundly cpu.0 tokens refs _ sound held fits
  switch_soundly more there (Busy word) =
      let one = marked_soundly r.mode tokens cpu r.tok refs there here sound held in
      let long = length-append refs (r ∷ []) in
      record {
        keeps = one.0;
        held = subst (λ (all : List Ref). AreHeld cpu.0 all (marked_for r.mode cpu r.tok tokens)) (sym (take_all refs r)) one.1;
        fits = fits_so (length tokens) _ (refs ++ r ∷ []) one.0.same more;
        within = omega (arith, long);
      }

  get_on : (o : Option Miss) → miss_of tokens (refs ++ r ∷ []) refs r ≡ o → IsSoundList (length tokens) (refs ++ r ∷ []) → r.tok.0 < length tokens → AsksSoundly cpu.0 tokens (option_map_or (must_switch cpu tokens refs r) o (had cpu tokens refs r))
  get_on None none more there = had_soundly more none
  get_on (Some why) missed more there = switch_soundly more there why

  pub get_soundly : AsksSoundly cpu.0 tokens (get cpu tokens refs r)
  get_soundly =
      unless_soundly cpu.0 tokens refs (get_refusal tokens refs r) _ sound held fits
      (λ none. (let may = get_allowed tokens refs r none in get_on (miss_of tokens (refs ++ r ∷ []) refs r) refl (fits_more (length tokens) refs r fits may.1 may.0) may.0))

  missed_soundly : (why : Miss) → AsksSoundly cpu.0 tokens (try_missed tokens refs why)
  missed_soundly (Busy word) = refused_soundly cpu.0 tokens refs _ sound held fits
  missed_soundly Worn = refused_soundly cpu.0 tokens refs _ sound held fits

  try_on : (o : Option Miss) → miss_of tokens (refs ++ r ∷ []) refs r ≡ o → IsSoundList (length tokens) (refs ++ r ∷ []) → AsksSoundly cpu.0 tokens (option_map_or (try_missed tokens refs) o (had cpu tokens refs r))
  try_on None none more = had_soundly more none
  try_on (Some why) missed more = missed_soundly why

  pub try_soundly : AsksSoundly cpu.0 tokens (try_get cpu tokens refs r)
  try_soundly =
      unless_soundly cpu.0 tokens refs (get_refusal tokens refs r) _ sound held fits
      (λ none. (let may = get_allowed tokens refs r none in try_on (miss_of tokens (refs ++ r ∷ []) refs r) refl (fits_more (length tokens) refs r fits may.1 may.0)))

-- a release
released_soundly : (cpu : CpuId) (tokens : List Token) (front : List Ref) (r : Ref) → cpu.0 < CPU_LIMIT → AreSoundTokens tokens → AreHeld cpu.0 (front ++ r ∷ []) tokens → IsSoundList (length tokens) front → AsksSoundly cpu.0 tokens (released cpu tokens front r)
released_soundly cpu tokens front r here sound held fits =
    let one = give_keeps tokens cpu front r here sound held in
    record { keeps = one.0; held = one.1; fits = fits_so (length tokens) _ front one.0.same fits; within = tt }

front_sound : (n : ℕ) (refs : List Ref) → IsSoundList n refs → IsSoundList n (front_of refs)
front_sound n refs fits =
    let few = fits.0 in
    let long = length-take (length refs - 1) refs in
    (omega (arith, few, long), All-take (λ (q : Ref). q.tok.0 < n) (length refs - 1) refs fits.1)

rel_if : (b : Bool) (cpu : CpuId) (tokens : List Token) (refs : List Ref) (r : Ref) (fault : Fault) → cpu.0 < CPU_LIMIT → AreSoundTokens tokens → AreHeld cpu.0 refs tokens → IsSoundList (length tokens) refs → last_of refs ≡ Some r → AsksSoundly cpu.0 tokens (if b then released cpu tokens (front_of refs) r else refused tokens refs fault)
rel_if true cpu tokens refs r fault here sound held fits last =
    released_soundly cpu tokens (front_of refs) r here sound (subst (λ (all : List Ref). AreHeld cpu.0 all tokens) (last_split refs r last) held) (front_sound (length tokens) refs fits)
rel_if false cpu tokens refs r fault here sound held fits last = refused_soundly cpu.0 tokens refs fault sound held fits

rel_on : (o : Option Ref) (cpu : CpuId) (tokens : List Token) (refs : List Ref) (tok : TokId) (fault : Fault) → cpu.0 < CPU_LIMIT → AreSoundTokens tokens → AreHeld cpu.0 refs tokens → IsSoundList (length tokens) refs → last_of refs ≡ o → AsksSoundly cpu.0 tokens (option_map_or (λ r. if r.tok.0 == tok.0 then released cpu tokens (front_of refs) r else refused tokens refs fault) o (refused tokens refs fault))
rel_on None cpu tokens refs tok fault here sound held fits last = refused_soundly cpu.0 tokens refs fault sound held fits
rel_on (Some r) cpu tokens refs tok fault here sound held fits last = rel_if (r.tok.0 == tok.0) cpu tokens refs r fault here sound held fits last

not_soundly : (b : Bool) (c : ℕ) (tokens : List Token) (refs : List Ref) (fault : Fault) (done : Asked) → AreSoundTokens tokens → AreHeld c refs tokens → IsSoundList (length tokens) refs → AsksSoundly c tokens done → AsksSoundly c tokens (if b then refused tokens refs fault else done)
not_soundly true c tokens refs fault done sound held fits so = refused_soundly c tokens refs fault sound held fits
not_soundly false c tokens refs fault done sound held fits so = so

pub rel_soundly : (cpu : CpuId) (tokens : List Token) (refs : List Ref) (tok : TokId) → cpu.0 < CPU_LIMIT → AreSoundTokens tokens → AreHeld cpu.0 refs tokens → IsSoundList (length tokens) refs → AsksSoundly cpu.0 tokens (rel cpu tokens refs tok)
rel_soundly cpu tokens refs tok here sound held fits =
    not_soundly (not (names refs tok.0)) cpu.0 tokens refs NotHeld _ sound held fits (rel_on (last_of refs) cpu tokens refs tok NotLast here sound held fits refl)

-- an ask that changes neither tokens nor the list
same_soundly : (c : ℕ) (tokens : List Token) (refs : List Ref) (answer : Answer) → AreSoundTokens tokens → AreHeld c refs tokens → IsSoundList (length tokens) refs → AsksSoundly c tokens (asked tokens refs (Runs answer))
same_soundly c tokens refs answer sound held fits = record { keeps = keeps_same c tokens sound; held = held; fits = fits; within = tt }

-- an ask by an event that changes no holding
event_soundly : (tokens : List Token) (e : Event) (i : ℕ) (refs : List Ref) (answer : Answer) → AreSoundTokens tokens → Needs (machine CPU_LIMIT tokens []) e → place_of e ≡ AtToken i → ((h : Held) → held_next e h ≡ h) → AreHeld (cpu_of e) refs tokens → IsSoundList (length tokens) refs → AsksSoundly (cpu_of e) tokens (asked (stepped tokens e) refs (Runs answer))
event_soundly tokens e i refs answer sound needs place same held fits = go (slice_get tokens i) refl (subst (λ (p : Place). PlaceNeeds (machine CPU_LIMIT tokens []) e p) place needs.place)
  where
    go : (o : Option Token) → slice_get tokens i ≡ o → IsSomeAnd (slice_get tokens i) (λ t. TokenNeeds t e) → AsksSoundly (cpu_of e) tokens (asked (stepped tokens e) refs (Runs answer))
    go None at there = absurd (subst (λ (o : Option Token). IsSomeAnd o (λ t. TokenNeeds t e)) at there)
    go (Some tok) at there =
        let one = plain_soundly tokens e i tok refs sound needs place at same held in
        record { keeps = one.0; held = one.1; fits = fits_so (length tokens) (length (stepped tokens e)) refs one.0.same fits; within = tt }

-- reads and writes
pub read_soundly : (c : ℕ) (tokens : List Token) (refs : List Ref) (tok : TokId) (cell : ℕ) → AreSoundTokens tokens → AreHeld c refs tokens → IsSoundList (length tokens) refs → AsksSoundly c tokens (read tokens refs tok cell)
read_soundly c tokens refs tok cell sound held fits =
    unless_soundly c tokens refs (unless_cell tokens tok cell (if names refs tok.0 then None else Some NotHeld)) _ sound held fits
    (λ none. same_soundly c tokens refs (Value (unwrap_or (value_of tokens tok cell) 0)) sound held fits)

pub write_soundly : (cpu : CpuId) (tokens : List Token) (refs : List Ref) (tok : TokId) (cell value : ℕ) → cpu.0 < CPU_LIMIT → AreSoundTokens tokens → AreHeld cpu.0 refs tokens → IsSoundList (length tokens) refs → AsksSoundly cpu.0 tokens (write cpu tokens refs tok cell value)
write_soundly cpu tokens refs tok cell value here sound held fits =
    unless_soundly cpu.0 tokens refs (unless_cell tokens tok cell (unless_exclusive (first_mode refs tok.0) SharedWrite (if has_tally tokens tok then Some TallyOnly else None))) _ sound held fits
    (λ none. event_soundly tokens (Write cpu tok cell value) tok.0 refs Done sound (write_needs tokens cpu refs tok cell value SharedWrite TallyOnly here held none) refl (λ h. refl) held fits)

pub add_soundly : (cpu : CpuId) (tokens : List Token) (refs : List Ref) (tok : TokId) (more : ℕ) → cpu.0 < CPU_LIMIT → AreSoundTokens tokens → AreHeld cpu.0 refs tokens → IsSoundList (length tokens) refs → AsksSoundly cpu.0 tokens (add cpu tokens refs tok more)
add_soundly cpu tokens refs tok more here sound held fits =
    unless_soundly cpu.0 tokens refs (add_refusal tokens refs tok (unwrap_or (value_of tokens tok 0) 0 + more)) _ sound held fits
    (λ none. event_soundly tokens (Write cpu tok 0 (unwrap_or (value_of tokens tok 0) 0 + more)) tok.0 refs Done sound (add_needs tokens cpu refs tok more here sound held none) refl (λ h. refl) held fits)

pub read_blob_soundly : (c : ℕ) (tokens : List Token) (refs : List Ref) (tok : TokId) → AreSoundTokens tokens → AreHeld c refs tokens → IsSoundList (length tokens) refs → AsksSoundly c tokens (read_blob tokens refs tok)
read_blob_soundly c tokens refs tok sound held fits =
    unless_soundly c tokens refs (record_refusal tokens refs tok None) _ sound held fits
    (λ none. same_soundly c tokens refs (Bytes (unwrap_or (record_of tokens tok) [])) sound held fits)

pub write_blob_soundly : (cpu : CpuId) (tokens : List Token) (refs : List Ref) (tok : TokId) (bytes : List ℕ) → cpu.0 < CPU_LIMIT → AreSoundTokens tokens → AreHeld cpu.0 refs tokens → IsSoundList (length tokens) refs → AsksSoundly cpu.0 tokens (write_blob cpu tokens refs tok bytes)
write_blob_soundly cpu tokens refs tok bytes here sound held fits =
    unless_soundly cpu.0 tokens refs (record_refusal tokens refs tok (if nat_lt RECORD_LIMIT (length bytes) then Some RecordLong else None)) _ sound held fits
    (λ none. event_soundly tokens (WriteBlob cpu tok bytes) tok.0 refs Done sound (record_needs tokens cpu refs tok bytes RecordLong here held none) refl (λ h. refl) held fits)

-- an exchange
all_split : (P : Ref → Type 0) (xs ys : List Ref) → All P (xs ++ ys) → All P xs × All P ys
all_split P [] ys all = (All-nil P, all)
all_split P (x ∷ xs) ys all =
    let rest = all_split P xs ys (All-tail P x (xs ++ ys) all) in
    (All-cons P x xs (All-head P x (xs ++ ys) all) rest.0, rest.1)

fits_swapped : (n : ℕ) (front : List Ref) (a b : Ref) → IsSoundList n (front ++ (a ∷ b ∷ [])) → IsSoundList n (front ++ (b ∷ a ∷ []))
fits_swapped n front a b fits =
    let P : Ref → Type 0 = λ r. r.tok.0 < n in
    let parts = all_split P front (a ∷ b ∷ []) fits.1 in
    let one = All-head P a (b ∷ []) parts.1 in
    let other = All-head P b [] (All-tail P a (b ∷ []) parts.1) in
    let few = fits.0 in
    let long = length-append front (a ∷ b ∷ []) in
    let same = length-append front (b ∷ a ∷ []) in
    (omega (arith, few, long, same), All-append P front (b ∷ a ∷ []) parts.0 (All-cons P b (a ∷ []) other (All-cons P a [] one (All-nil P))))

swap_if : (d : Bool) (c : ℕ) (tokens : List Token) (front : List Ref) (a b : Ref) → (b.tok.0 == a.tok.0) ≡ d → AreSoundTokens tokens → AreHeld c (front ++ (a ∷ b ∷ [])) tokens → IsSoundList (length tokens) (front ++ (a ∷ b ∷ [])) → AsksSoundly c tokens (if d then refused tokens (front ++ (a ∷ b ∷ [])) SwapSame else asked tokens (exchanged (front ++ (a ∷ b ∷ []))) (Runs Done))
swap_if true c tokens front a b is sound held fits = refused_soundly c tokens (front ++ (a ∷ b ∷ [])) SwapSame sound held fits
swap_if false c tokens front a b is sound held fits =
    let differ : a.tok.0 ≢ b.tok.0 = (λ same. eqb-false b.tok.0 a.tok.0 is (sym same)) in
    let S : List Ref → Type 0 = λ refs. AsksSoundly c tokens (asked tokens refs (Runs Done)) in
    subst S (sym (exchanged_is front a b))
    (same_soundly c tokens (front ++ (b ∷ a ∷ [])) Done sound
    (λ t. held t ∙ sym (ap (λ (h : Holding). h t) (holding_of-exchanged front a b differ))) (fits_swapped (length tokens) front a b fits))

swap_two : (c : ℕ) (tokens : List Token) (front : List Ref) (a b : Ref) → AreSoundTokens tokens → AreHeld c (front ++ (a ∷ b ∷ [])) tokens → IsSoundList (length tokens) (front ++ (a ∷ b ∷ [])) → AsksSoundly c tokens (swapped tokens (front ++ (a ∷ b ∷ [])))
swap_two c tokens front a b sound held fits =
    subst (AsksSoundly c tokens) (sym (not_short tokens front a b)) (swap_if (b.tok.0 == a.tok.0) c tokens front a b refl sound held fits)

no_ref : Ref
no_ref = record { tok = record { 0 = 0 }; mode = Exclusive }

swap_long : (b : Bool) (c : ℕ) (tokens : List Token) (refs : List Ref) → nat_lt (length refs) 2 ≡ b → AreSoundTokens tokens → AreHeld c refs tokens → IsSoundList (length tokens) refs → AsksSoundly c tokens (swapped tokens refs)
swap_long true c tokens refs is sound held fits =
    let F : Bool → Type 0 = λ d. AsksSoundly c tokens (if d then refused tokens refs SwapShort else (if are_same (tok_at refs (length refs - 1)) (tok_at refs (length refs - 2)) then refused tokens refs SwapSame else asked tokens (exchanged refs) (Runs Done))) in
    subst F (sym is) (refused_soundly c tokens refs SwapShort sound held fits)
swap_long false c tokens refs is sound held fits =
    let two : 2 ≤ length refs = ltb-false (length refs) 2 is in
    let front = take (length refs - 2) refs in
    let a = get_or refs (length refs - 2) no_ref in
    let b = get_or refs (length refs - 1) no_ref in
    let split : refs ≡ front ++ (a ∷ b ∷ []) = sym (whole (length refs) refs (omega arith)) ∙ take_two refs (length refs) no_ref two (omega arith) in
    let S : List Ref → Type 0 = λ all. AsksSoundly c tokens (swapped tokens all) in
    subst S (sym split) (swap_two c tokens front a b sound (subst (λ (all : List Ref). AreHeld c all tokens) split held) (subst (IsSoundList (length tokens)) split fits))

pub swap_soundly : (c : ℕ) (tokens : List Token) (refs : List Ref) → AreSoundTokens tokens → AreHeld c refs tokens → IsSoundList (length tokens) refs → AsksSoundly c tokens (swapped tokens refs)
swap_soundly c tokens refs sound held fits = swap_long (nat_lt (length refs) 2) c tokens refs refl sound held fits
