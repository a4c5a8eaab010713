use Rattle.std.proofs.Common.{inl, inr, ◌≡◌, ℕ, ◌+◌, ◌≤◌, Bool, true, false, cond, eqb, List, [], ◌∷◌, ◌++◌, refl, ap, sym, ◌∙◌, subst, arith, append_assoc, length, length-append}
use Rattle.std.specs.Prelude.{All, filter, Vec, vec_len, vec_capacity}
use Rattle.std.specs.List.{AllZip}
use Rattle.std.specs.declared.alloc.Global.{Global}
use Rattle.std.proofs.lemmas.List.{append-nil}
use Rattle.std.proofs.lemmas.List.Elements.{All-append, filter-append, All-from_recursion}
use Rattle.std.proofs.lemmas.Bool.{eqb-true, eqb-false}
use Rattle.std.proofs.Math.Path.{fun_ext}
use Rattle.lwkt_base.specs.declared.holdings.Held.{Held}
use Rattle.lwkt_base.specs.Holding.{Holding}
use Rattle.lwkt_core.specs.declared.events.Event.{Event}
use Rattle.lwkt_base.specs.declared.names.CpuId.{CpuId}
use Rattle.lwkt_table.specs.declared.seats.WordStep.{WordStep}
use Rattle.lwkt_table.specs.declared.seats.Deed.{Deed}
use Rattle.lwkt_table.specs.History.{AreOwn, Grows, steps_by, events_in, steps_in}
use Rattle.lwkt_table.proofs.HistoryLemmas.{own-nil, own-append, Grows-append, events_in-append, steps_in-append, steps_by-grows}
use Rattle.lwkt_core.specs.Events.{cpu_of}
use Rattle.lwkt_bank.specs.declared.views.TokenEntry.{TokenEntry}
use Rattle.lwkt_bank.specs.declared.seats.CpuSeat.{CpuSeat}
use Rattle.lwkt_bank.specs.Seats.{holding, past_of, steps_of, Changes}
use Rattle.lwkt_hold.specs.Steps.{held_after, is_counted, is_of_token, is_on_word, is_look, ShowsEvent, AreTraced}
use Rattle.lwkt_hold.specs.Runs.{Moves, Ran}

-- moves one after the other
pub Moves-append : (P : Holding → Type 0) (xs ys : List Event) (h mid h' : Holding) → Moves P h xs mid → Moves P mid ys h' → Moves P h (xs ++ ys) h'
Moves-append P [] ys h mid h' first second = let F : Holding → Type 0 = λ x. Moves P x ys h' in subst F first second
Moves-append P (e ∷ xs) ys h mid h' first second = (first.0, Moves-append P xs ys (held_after e h) mid h' first.1 second)

-- moves among fewer holdings are moves among more
pub Moves-weaker : (P Q : Holding → Type 0) (xs : List Event) (h h' : Holding) → ((x : Holding) → P x → Q x) → Moves P h xs h' → Moves Q h xs h'
Moves-weaker P Q [] h h' weaker moves = moves
Moves-weaker P Q (e ∷ xs) h h' weaker moves = (weaker (held_after e h) moves.0, Moves-weaker P Q xs (held_after e h) h' weaker moves.1)

-- two lists that fit, one after two others that do
pub AllZip-append : {A B : Type 0} (R : A → B → Type 0) (xs : List A) (ys : List B) (us : List A) (vs : List B) → AllZip R xs ys → AllZip R us vs → AllZip R (xs ++ us) (ys ++ vs)
AllZip-append R [] [] us vs first second = second
AllZip-append R [] (y ∷ ys) us vs first second = absurd first
AllZip-append R (x ∷ xs) [] us vs first second = absurd first
AllZip-append R (x ∷ xs) (y ∷ ys) us vs first second = (first.0, AllZip-append R xs ys us vs first.1 second)

-- how two lists of events are traced
pub AreTraced-append : (xs ys us vs : List Event) → AreTraced xs us → AreTraced ys vs → AreTraced (xs ++ ys) (us ++ vs)
AreTraced-append [] ys us vs first second = let F : List Event → Type 0 = λ es. AreTraced ys (es ++ vs) in subst F (sym first) second
AreTraced-append (e ∷ xs) ys us vs first second = elim first [
  | inl untraced ↦ inl (untraced.0, AreTraced-append xs ys us vs untraced.1 second)
  | inr traced ↦ inr (traced.0, (traced.1.0 ++ vs, (ap (λ es. es ++ vs) traced.1.1.0, AreTraced-append xs ys traced.1.0 vs traced.1.1.1 second)))
]

-- one event is traced, by the processor that did it
pub traced_one : (e ev : Event) → is_look e ≡ false → ev ≡ e → AreTraced (e ∷ []) (ev ∷ [])
traced_one e ev plain is = inr (plain, ([], (ap (λ (x : Event). x ∷ []) is, refl)))

-- the steps of a seat that has done these deeds
pub steps_grown : (s s' : CpuSeat) (deeds : List Deed) → s'.cpu ≡ s.cpu → Grows s.cpu.0 (past_of s) deeds (past_of s') → AreOwn s.cpu.0 deeds → steps_of s' ≡ steps_of s ++ steps_in deeds
steps_grown s s' deeds cpu grows own = ap (λ (k : CpuId). steps_by k.0 (past_of s')) cpu ∙ steps_by-grows s.cpu.0 (past_of s) deeds (past_of s') grows own

pub changed_steps : (s s' : CpuSeat) (tok : ℕ) (e : TokenEntry) (deeds : List Deed) → Changes s s' tok e deeds → steps_of s' ≡ steps_of s ++ steps_in deeds
changed_steps s s' tok e deeds c = steps_grown s s' deeds c.cpu c.grows c.own

pub ran_steps : (P : Holding → Type 0) (most : ℕ) (a b : CpuSeat) (t u : Vec Event Global) (ran : Ran P most a b t u) → steps_of b ≡ steps_of a ++ steps_in ran.deeds
ran_steps P most a b t u ran = steps_grown a b ran.deeds ran.cpu ran.grows ran.mine

-- nothing was done
pub ran_none : (P : Holding → Type 0) (s : CpuSeat) (t : Vec Event Global) → Ran P 0 s s t t
ran_none P s t = record {
  bank = refl;
  cpu = refl;
  deeds = [];
  grows = refl;
  mine = own-nil s.cpu.0;
  done = [];
  trace = sym (append-nil t.items);
  in_trace = refl;
  own = All-from_recursion (λ (e : Event). cpu_of e ≡ s.cpu.0) [] tt;
  traced = tt;
  moves = refl;
  few = omega arith;
  grown = omega arith;
  room = omega arith;
}

-- two in a row
pub ran_then : (P : Holding → Type 0) (m n : ℕ) (a b c : CpuSeat) (t u v : Vec Event Global) → Ran P m a b t u → Ran P n b c u v → Ran P (m + n) a c t v
ran_then P m n a b c t u v first second = record {
  bank = second.bank ∙ first.bank;
  cpu = second.cpu ∙ first.cpu;
  deeds = first.deeds ++ second.deeds;
  grows =
      let F : CpuId → Type 0 = λ k. Grows k.0 (past_of b) second.deeds (past_of c) in
      Grows-append a.cpu.0 (past_of a) first.deeds (past_of b) second.deeds (past_of c) first.grows (subst F first.cpu second.grows);
  mine =
      let F : CpuId → Type 0 = λ k. AreOwn k.0 second.deeds in
      own-append a.cpu.0 first.deeds second.deeds first.mine (subst F first.cpu second.mine);
  in_trace =
      let F : List Event → Type 0 = λ es. AreTraced es (filter is_of_token (first.done ++ second.done)) in
      let G : List Event → Type 0 = λ es. AreTraced (events_in first.deeds ++ events_in second.deeds) es in
      subst F (sym (events_in-append first.deeds second.deeds))
      (subst G (sym (filter-append is_of_token first.done second.done))
      (AreTraced-append (events_in first.deeds) (events_in second.deeds) (filter is_of_token first.done) (filter is_of_token second.done) first.in_trace second.in_trace));
  done = first.done ++ second.done;
  trace = second.trace ∙ ap (λ xs. xs ++ second.done) first.trace ∙ append_assoc t.items first.done second.done;
  own =
      let same : b.cpu.0 ≡ a.cpu.0 = ap (λ x. x.0) first.cpu in
      let F : ℕ → Type 0 = λ k. All (λ (e : Event). cpu_of e ≡ k) second.done in
      All-append (λ (e : Event). cpu_of e ≡ a.cpu.0) first.done second.done first.own (subst F same second.own);
  traced =
      let F : List WordStep → Type 0 = λ xs. AllZip ShowsEvent xs (filter is_on_word (first.done ++ second.done)) in
      let G : List Event → Type 0 = λ ys. AllZip ShowsEvent (filter is_counted (steps_in first.deeds) ++ filter is_counted (steps_in second.deeds)) ys in
      let H : List WordStep → Type 0 = λ xs. AllZip ShowsEvent (filter is_counted xs) (filter is_on_word (first.done ++ second.done)) in
      subst H (sym (steps_in-append first.deeds second.deeds))
      (subst F (sym (filter-append is_counted (steps_in first.deeds) (steps_in second.deeds)))
      (subst G (sym (filter-append is_on_word first.done second.done))
      (AllZip-append ShowsEvent (filter is_counted (steps_in first.deeds)) (filter is_on_word first.done) (filter is_counted (steps_in second.deeds)) (filter is_on_word second.done) first.traced second.traced)));
  moves = Moves-append P first.done second.done (holding a) (holding b) (holding c) first.moves second.moves;
  few = let l = length-append first.done second.done in let x = first.few in let y = second.few in omega arith;
  grown = let l = length-append first.done second.done in let x = first.grown in let y = second.grown in omega arith;
  room = let x = first.room in let y = second.room in omega arith;
}

-- a weaker word on the holdings, and a wider bound
pub ran_weaker : (P Q : Holding → Type 0) (m n : ℕ) (a b : CpuSeat) (t u : Vec Event Global) → ((x : Holding) → P x → Q x) → m ≤ n → Ran P m a b t u → Ran Q n a b t u
ran_weaker P Q m n a b t u weaker wider ran = record {
  bank = ran.bank;
  cpu = ran.cpu;
  deeds = ran.deeds;
  grows = ran.grows;
  mine = ran.mine;
  in_trace = ran.in_trace;
  done = ran.done;
  trace = ran.trace;
  own = ran.own;
  traced = ran.traced;
  moves = Moves-weaker P Q ran.done (holding a) (holding b) weaker ran.moves;
  few = let x = ran.few in omega arith;
  grown = ran.grown;
  room = ran.room;
}

-- a trace that was given more room
pub ran_with_room : (P : Holding → Type 0) (most : ℕ) (a b : CpuSeat) (t u v : Vec Event Global) → u.items ≡ t.items → vec_len u ≡ vec_len t → vec_capacity t ≤ vec_capacity u → Ran P most a b u v → Ran P most a b t v
ran_with_room P most a b t u v same long wider ran = record {
  bank = ran.bank;
  cpu = ran.cpu;
  deeds = ran.deeds;
  grows = ran.grows;
  mine = ran.mine;
  in_trace = ran.in_trace;
  done = ran.done;
  trace = ran.trace ∙ ap (λ xs. xs ++ ran.done) same;
  own = ran.own;
  traced = ran.traced;
  moves = ran.moves;
  few = ran.few;
  grown = ran.grown ∙ ap (λ n. n + length ran.done) long;
  room = let x = ran.room in omega arith;
}

-- what a change of one token does to the holding
pub holding_if : (b : Bool) (x y z : Held) → (b ≡ true → x ≡ y) → (b ≡ false → x ≡ z) → x ≡ cond b y z
holding_if true x y z here away = here refl
holding_if false x y z here away = away refl

pub holding_changed : (s s' : CpuSeat) (tok : ℕ) (e : TokenEntry) (made : List Deed) (f : Held → Held) → Changes s s' tok e made → e.held ≡ f (holding s tok) → holding s' ≡ (λ other. cond (eqb other tok) (f (holding s other)) (holding s other))
holding_changed s s' tok e made f c is = fun_ext (λ other. holding_if (eqb other tok) (holding s' other) (f (holding s other)) (holding s other)
    (λ here. let same : other ≡ tok = eqb-true other tok here in let F : ℕ → Type 0 = λ t. holding s' t ≡ f (holding s t) in subst F (sym same) (ap (λ (x : TokenEntry). x.held) c.here ∙ is))
    (λ away. ap (λ (x : TokenEntry). x.held) (c.else_ other (eqb-false other tok away))))

pub same_if : (b : Bool) (x : Held) → cond b x x ≡ x
same_if true x = refl
same_if false x = refl

-- a change that keeps what the seat holds of the token keeps the holding
pub holding_kept : (s s' : CpuSeat) (tok : ℕ) (e : TokenEntry) (made : List Deed) → Changes s s' tok e made → e.held ≡ holding s tok → holding s' ≡ holding s
holding_kept s s' tok e made c is = holding_changed s s' tok e made (λ x. x) c is ∙ fun_ext (λ other. same_if (eqb other tok) (holding s other))

-- a call without an event
pub ran_quiet : (P : Holding → Type 0) (s s' : CpuSeat) (tok : ℕ) (e : TokenEntry) (deeds : List Deed) (t : Vec Event Global) → Changes s s' tok e deeds → e.held ≡ holding s tok → AreTraced (events_in deeds) [] → filter is_counted (steps_in deeds) ≡ [] → Ran P 0 s s' t t
ran_quiet P s s' tok e deeds t c held untraced none = record {
  bank = c.bank;
  cpu = c.cpu;
  deeds = deeds;
  grows = c.grows;
  mine = c.own;
  done = [];
  trace = sym (append-nil t.items);
  in_trace = untraced;
  own = All-from_recursion (λ (e : Event). cpu_of e ≡ s.cpu.0) [] tt;
  traced = let F : List WordStep → Type 0 = λ xs. AllZip ShowsEvent xs [] in subst F (sym none) tt;
  moves = holding_kept s s' tok e deeds c held;
  few = omega arith;
  grown = omega arith;
  room = omega arith;
}

-- a call with one event
pub ran_step : (P : Holding → Type 0) (s s' : CpuSeat) (tok : ℕ) (e : TokenEntry) (deeds : List Deed) (ev : Event) (t u : Vec Event Global) → Changes s s' tok e deeds → u.items ≡ t.items ++ ev ∷ [] → vec_len u ≡ vec_len t + 1 → vec_capacity t ≤ vec_capacity u → cpu_of ev ≡ s.cpu.0 → AreTraced (events_in deeds) (filter is_of_token (ev ∷ [])) → AllZip ShowsEvent (filter is_counted (steps_in deeds)) (filter is_on_word (ev ∷ [])) → holding s' ≡ held_after ev (holding s) → P (holding s') → Ran P 1 s s' t u
ran_step P s s' tok e deeds ev t u c pushed longer room own in_trace traced moved at_front = record {
  bank = c.bank;
  cpu = c.cpu;
  deeds = deeds;
  grows = c.grows;
  mine = c.own;
  done = ev ∷ [];
  trace = pushed;
  in_trace = in_trace;
  own = All-from_recursion (λ (e : Event). cpu_of e ≡ s.cpu.0) (ev ∷ []) (own, tt);
  traced = traced;
  moves = (let F : Holding → Type 0 = λ x. P x in subst F moved at_front, moved);
  few = omega arith;
  grown = longer;
  room = room;
}
