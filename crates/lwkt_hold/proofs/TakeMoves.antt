use Rattle.std.proofs.Common.{◌≡◌, ◌≢◌, ℕ, ◌+◌, ◌<◌, ◌≤◌, Bool, true, false, cond, eqb, List, [], ◌∷◌, ◌++◌, length, take, get_or, refl, ap, sym, ◌∙◌, subst, arith, length-take, eq-eqb, ne_eqb, inl}
use Rattle.std.specs.Prelude.{filter, Vec, vec_len, vec_capacity, Some, slice_get}
use Rattle.std.specs.List.{AllZip}
use Rattle.std.specs.declared.alloc.Global.{Global}
use Rattle.std.proofs.lemmas.List.{append-nil}
use Rattle.std.proofs.lemmas.Bool.{eqb-true}
use Rattle.std.proofs.lemmas.Option.{slice_get-get_or}
use Rattle.std.proofs.Math.Path.{fun_ext}
use Rattle.lwkt_base.specs.declared.names.CpuId.{CpuId}
use Rattle.lwkt_base.specs.declared.names.TokId.{TokId}
use Rattle.lwkt_base.specs.declared.names.Mode.{Mode}
use Rattle.lwkt_base.specs.declared.names.Mode.TheVariants.{Exclusive, Shared}
use Rattle.lwkt_base.specs.declared.names.Ref.{Ref}
use Rattle.lwkt_base.specs.declared.holdings.Held.{Held}
use Rattle.lwkt_base.specs.declared.holdings.Held.TheVariants.{Nothing, Holds}
use Rattle.lwkt_base.specs.Holding.{Holding, is_held, one_more, added, holding_of}
use Rattle.lwkt_core.specs.declared.events.Event.{Event}
use Rattle.lwkt_core.specs.declared.events.Event.TheVariants.{Again}
use Rattle.lwkt_table.specs.declared.seats.WordStep.{WordStep}
use Rattle.lwkt_core.specs.Events.{cpu_of}
use Rattle.lwkt_bank.specs.declared.views.TokenEntry.{TokenEntry}
use Rattle.lwkt_bank.specs.declared.seats.CpuSeat.{CpuSeat}
use Rattle.lwkt_bank.specs.Views.{count_from, generation_in, looked, taken, more, load, exchange}
use Rattle.lwkt_bank.specs.Deeds.{take_event, loads, takes, loses, adds_one}
use Rattle.lwkt_bank.specs.Seats.{bank_of, tokens_of, entry, holding, references, steps_of, Looked, Took, Lost, Stepped}
use Rattle.lwkt_hold.specs.declared.answers.Missed.{Missed}
use Rattle.lwkt_base.specs.Refs.{is_alone, names}
use Rattle.lwkt_hold.specs.Fronts.{IsFront}
use Rattle.lwkt_core.specs.Takings.{taking}
use Rattle.lwkt_hold.specs.Steps.{held_after, is_counted, is_of_token, is_on_word, is_look, ShowsEvent, AreTraced}
use Rattle.lwkt_hold.specs.Runs.{Ran}
use Rattle.lwkt_hold.specs.Misses.{IsMiss, Misses}
use Rattle.lwkt_base.proofs.HoldingLemmas.{held_named}
use Rattle.lwkt_hold.proofs.HoldingMoves.{holding_of_more, more_in_any_mode, count_of_list}
use Rattle.lwkt_hold.proofs.RunMoves.{traced_one, ran_step, ran_quiet, ran_weaker, holding_changed, holding_kept}

-- a further reference in any mode
added_if : (b : Bool) (held : Held) (mode : Mode) → (b ≡ true → is_held held ≡ true) → cond b (one_more held Shared) held ≡ cond b (one_more held mode) held
added_if true held mode is = more_in_any_mode held mode (is refl)
added_if false held mode is = refl

pub added_in_any_mode : (h : Holding) (tok : ℕ) (mode : Mode) → is_held (h tok) ≡ true → added h tok Shared ≡ added h tok mode
added_in_any_mode h tok mode is = fun_ext (λ other. added_if (eqb other tok) (h other) mode (λ here. ap (λ t. is_held (h t)) (eqb-true other tok here) ∙ is))

not_held : (held : Held) → is_held held ≡ false → held ≡ Nothing
not_held Nothing is = refl
not_held (Holds mode further) is = cc

-- what a front holds of a token, as the seat has it
pub front_names : (s : CpuSeat) (refs : List Ref) (at tok : ℕ) (held : Held) (b r : Bool) → holding s ≡ holding_of (take at refs) → held ≡ holding s tok → b ≡ is_held held → b ≡ r → names (take at refs) tok ≡ r
front_names s refs at tok held b r front traced is so = sym (held_named (take at refs) tok) ∙ sym (ap (λ h. is_held (h tok)) front) ∙ ap is_held (sym traced) ∙ sym is ∙ so

-- the holding of a front names what it names
pub held_in_front : (s : CpuSeat) (refs : List Ref) (at tok : ℕ) → holding s ≡ holding_of (take at refs) → names (take at refs) tok ≡ true → is_held (holding s tok) ≡ true
held_in_front s refs at tok front named = ap (λ h. is_held (h tok)) front ∙ held_named (take at refs) tok ∙ named

pub free_in_front : (s : CpuSeat) (refs : List Ref) (at tok : ℕ) → holding s ≡ holding_of (take at refs) → names (take at refs) tok ≡ false → holding s tok ≡ Nothing
free_in_front s refs at tok front named = not_held (holding s tok) (ap (λ h. is_held (h tok)) front ∙ held_named (take at refs) tok ∙ named)

pub few_in_front : (s : CpuSeat) (refs : List Ref) (at : ℕ) → holding s ≡ holding_of (take at refs) → at < length refs → length refs ≤ 32 → references s < 32
few_in_front s refs at front within short =
    let e : references s ≡ count_from 0 (tokens_of (bank_of s)) (holding_of (take at refs)) = ap (λ h. count_from 0 (tokens_of (bank_of s)) h) front in
    let f = count_of_list (tokens_of (bank_of s)) (take at refs) in
    let g : length (take at refs) ≤ at = simp length-take (omega arith) in
    omega arith

-- the event of a first reference
pub after_taking : (cpu : CpuId) (tok : TokId) (mode : Mode) (h : Holding) → held_after (taking cpu tok mode) h ≡ added h tok.0 mode
after_taking cpu tok Exclusive h = refl
after_taking cpu tok Shared h = refl

pub cpu_of_taking : (cpu : CpuId) (tok : TokId) (mode : Mode) → cpu_of (taking cpu tok mode) ≡ cpu.0
cpu_of_taking cpu tok Exclusive = refl
cpu_of_taking cpu tok Shared = refl

same_taking : (cpu : CpuId) (tok : TokId) (mode : Mode) → taking cpu tok mode ≡ take_event cpu tok mode
same_taking cpu tok Exclusive = refl
same_taking cpu tok Shared = refl

take_is_no_look : (cpu : CpuId) (tok : TokId) (mode : Mode) → is_look (take_event cpu tok mode) ≡ false
take_is_no_look cpu tok Exclusive = refl
take_is_no_look cpu tok Shared = refl

shows_taking : (cpu : CpuId) (tok : TokId) (mode : Mode) (word next : ℕ) → AllZip ShowsEvent (exchange tok.0 word next word ∷ []) (filter is_on_word (taking cpu tok mode ∷ []))
shows_taking cpu tok Exclusive word next = ((refl, (next, refl)), tt)
shows_taking cpu tok Shared word next = ((refl, (next, refl)), tt)

won : (tok word next : ℕ) → filter is_counted (load tok word ∷ exchange tok word next word ∷ []) ≡ exchange tok word next word ∷ []
won tok word next = ap (λ b. cond b (exchange tok word next word ∷ []) []) (eq-eqb word word refl)

lost : (tok word next found : ℕ) → found ≢ word → filter is_counted (load tok word ∷ exchange tok word next found ∷ []) ≡ []
lost tok word next found other = ap (λ b. cond b (exchange tok word next found ∷ []) []) (ne_eqb found word other)

looked_if : (b : Bool) (e : TokenEntry) (g : ℕ) → (cond b e (record e { generation = g; known = []; known_blob = [] })).held ≡ e.held
looked_if true e g = refl
looked_if false e g = refl

pub looked-held : (e : TokenEntry) (word : ℕ) → (looked e word).held ≡ e.held
looked-held e word = looked_if (eqb e.generation (generation_in word)) e (generation_in word)

-- a further reference is taken
pub again_holds : (s s' : CpuSeat) (refs : List Ref) (at : ℕ) (d : Ref) → at < length refs → holding s ≡ holding_of (take at refs) → names (take at refs) (get_or refs at d).tok.0 ≡ true → Stepped s s' (get_or refs at d).tok.0 (more (entry s (get_or refs at d).tok.0)) adds_one → (holding s' ≡ added (holding s) (get_or refs at d).tok.0 Shared) × (holding s' ≡ holding_of (take (at + 1) refs))
again_holds s s' refs at d within front named stepped =
    let r = get_or refs at d in
    let e : holding s' ≡ added (holding s) r.tok.0 Shared = holding_changed s s' r.tok.0 (more (entry s r.tok.0)) (adds_one s.cpu r.tok.0 stepped.found ∷ []) (λ x. one_more x Shared) stepped.changes refl in
    (e, e ∙ added_in_any_mode (holding s) r.tok.0 r.mode (held_in_front s refs at r.tok.0 front named) ∙ ap (λ h. added h r.tok.0 r.mode) front ∙ sym (holding_of_more refs at d within))

pub again_ran : (s s' : CpuSeat) (refs : List Ref) (at : ℕ) (d : Ref) (cpu : CpuId) (t u : Vec Event Global) → at < length refs → holding s ≡ holding_of (take at refs) → names (take at refs) (get_or refs at d).tok.0 ≡ true → Stepped s s' (get_or refs at d).tok.0 (more (entry s (get_or refs at d).tok.0)) adds_one → cpu ≡ s.cpu → u.items ≡ t.items ++ Again cpu (get_or refs at d).tok ∷ [] → vec_len u ≡ vec_len t + 1 → vec_capacity t ≤ vec_capacity u → Ran (IsFront refs) 1 s s' t u
again_ran s s' refs at d cpu t u within front named stepped mine pushed longer room =
    let r = get_or refs at d in
    let e = again_holds s s' refs at d within front named stepped in
    ran_step (IsFront refs) s s' r.tok.0 (more (entry s r.tok.0)) (adds_one s.cpu r.tok.0 stepped.found ∷ []) (Again cpu r.tok) t u stepped.changes pushed longer room (ap (λ (x : CpuId). x.0) mine) (traced_one (Again s.cpu r.tok) (Again cpu r.tok) refl (ap (λ (x : CpuId). Again x r.tok) mine)) ((refl, refl), tt) e.0 (at + 1, e.1)

-- a first reference is taken
pub took_holds : (s s' : CpuSeat) (refs : List Ref) (at : ℕ) (d : Ref) (alone : Bool) (g : ℕ) → at < length refs → holding s ≡ holding_of (take at refs) → names (take at refs) (get_or refs at d).tok.0 ≡ false → Took s s' (get_or refs at d).tok.0 (get_or refs at d).mode alone g → (holding s' ≡ added (holding s) (get_or refs at d).tok.0 (get_or refs at d).mode) × (holding s' ≡ holding_of (take (at + 1) refs))
took_holds s s' refs at d alone g within front named took =
    let r = get_or refs at d in
    let free = free_in_front s refs at r.tok.0 front named in
    let e : holding s' ≡ added (holding s) r.tok.0 r.mode = holding_changed s s' r.tok.0 (taken (entry s r.tok.0) took.word r.mode took.row took.blob) (loads s.cpu r.tok.0 took.word ∷ takes s.cpu r.tok.0 r.mode took.word took.next took.word ∷ []) (λ x. one_more x r.mode) took.changes (ap (λ x. one_more x r.mode) (sym free)) in
    (e, e ∙ ap (λ h. added h r.tok.0 r.mode) front ∙ sym (holding_of_more refs at d within))

taking_of_token : (cpu : CpuId) (tok : TokId) (mode : Mode) → filter is_of_token (taking cpu tok mode ∷ []) ≡ taking cpu tok mode ∷ []
taking_of_token cpu tok Exclusive = refl
taking_of_token cpu tok Shared = refl

pub took_ran : (s s' : CpuSeat) (refs : List Ref) (at : ℕ) (d : Ref) (alone : Bool) (g : ℕ) (cpu : CpuId) (ev : Event) (t u : Vec Event Global) → at < length refs → holding s ≡ holding_of (take at refs) → names (take at refs) (get_or refs at d).tok.0 ≡ false → Took s s' (get_or refs at d).tok.0 (get_or refs at d).mode alone g → cpu ≡ s.cpu → ev ≡ taking cpu (get_or refs at d).tok (get_or refs at d).mode → u.items ≡ t.items ++ ev ∷ [] → vec_len u ≡ vec_len t + 1 → vec_capacity t ≤ vec_capacity u → Ran (IsFront refs) 1 s s' t u
took_ran s s' refs at d alone g cpu ev t u within front named took mine is pushed longer room =
    let r = get_or refs at d in
    let e = took_holds s s' refs at d alone g within front named took in
    let F : List WordStep → Type 0 = λ xs. AllZip ShowsEvent xs (filter is_on_word (taking cpu r.tok r.mode ∷ [])) in
    ran_step (IsFront refs) s s' r.tok.0 (taken (entry s r.tok.0) took.word r.mode took.row took.blob) (loads s.cpu r.tok.0 took.word ∷ takes s.cpu r.tok.0 r.mode took.word took.next took.word ∷ []) (taking cpu r.tok r.mode) t u took.changes (pushed ∙ ap (λ x. t.items ++ x ∷ []) is) longer room
    (cpu_of_taking cpu r.tok r.mode ∙ ap (λ (x : CpuId). x.0) mine)
    (inl (
      refl,
      (let G : List Event → Type 0 = λ es. AreTraced (take_event s.cpu r.tok r.mode ∷ []) es in
          subst G (sym (taking_of_token cpu r.tok r.mode))
          (traced_one (take_event s.cpu r.tok r.mode) (taking cpu r.tok r.mode) (take_is_no_look s.cpu r.tok r.mode) (ap (λ (x : CpuId). taking x r.tok r.mode) mine ∙ same_taking s.cpu r.tok r.mode))),
    ))
    (subst F (sym (won r.tok.0 took.word took.next)) (shows_taking cpu r.tok r.mode took.word took.next))
    (e.0 ∙ sym (after_taking cpu r.tok r.mode (holding s))) (at + 1, e.1)

-- a missed reference
pub looked_ran : (P : Holding → Type 0) (s s' : CpuSeat) (tok word : ℕ) (t : Vec Event Global) → Looked s s' tok word → Ran P 1 s s' t t
looked_ran P s s' tok word t l = ran_weaker P P 0 1 s s' t t (λ x p. p) (omega arith) (ran_quiet P s s' tok (looked (entry s tok) word) (loads s.cpu tok word ∷ []) t l.changes (looked-held (entry s tok) word) (inl (refl, refl)) refl)

pub looked_kept : (s s' : CpuSeat) (tok word : ℕ) → Looked s s' tok word → holding s' ≡ holding s
looked_kept s s' tok word l = holding_kept s s' tok (looked (entry s tok) word) (loads s.cpu tok word ∷ []) l.changes (looked-held (entry s tok) word)

lost_held : (s s' : CpuSeat) (tok : ℕ) (mode : Mode) (alone : Bool) (l : Lost s s' tok mode alone) → (looked (looked (entry s tok) l.word) l.found).held ≡ holding s tok
lost_held s s' tok mode alone l = looked-held (looked (entry s tok) l.word) l.found ∙ looked-held (entry s tok) l.word

pub lost_ran : (P : Holding → Type 0) (s s' : CpuSeat) (tok : ℕ) (mode : Mode) (alone : Bool) (t : Vec Event Global) → Lost s s' tok mode alone → Ran P 1 s s' t t
lost_ran P s s' tok mode alone t l = ran_weaker P P 0 1 s s' t t (λ x p. p) (omega arith) (ran_quiet P s s' tok (looked (looked (entry s tok) l.word) l.found) (loads s.cpu tok l.word ∷ loses s.cpu tok l.word l.next l.found ∷ []) t l.changes (lost_held s s' tok mode alone l) (inl (refl, inl (refl, refl))) (lost tok l.word l.next l.found l.other))

pub lost_kept : (s s' : CpuSeat) (tok : ℕ) (mode : Mode) (alone : Bool) → Lost s s' tok mode alone → holding s' ≡ holding s
lost_kept s s' tok mode alone l = holding_kept s s' tok (looked (looked (entry s tok) l.word) l.found) (loads s.cpu tok l.word ∷ loses s.cpu tok l.word l.next l.found ∷ []) l.changes (lost_held s s' tok mode alone l)

-- the steps of a miss stand in the step list
pub misses : (s s' : CpuSeat) (refs : List Ref) (at : ℕ) (d : Ref) (alone : Bool) (why : Missed) (made : List WordStep) → at < length refs → alone ≡ is_alone refs (get_or refs at d).tok.0 → names (take at refs) (get_or refs at d).tok.0 ≡ false → steps_of s' ≡ steps_of s ++ made → IsMiss (get_or refs at d).tok.0 (get_or refs at d).mode alone why made → Misses s s' refs at why
misses s s' refs at d alone why made within is first steps miss =
    let r = get_or refs at d in
    let got : slice_get refs at ≡ Some r = slice_get-get_or refs at d within in
    let F : Bool → Type 0 = λ b. IsMiss r.tok.0 r.mode b why made in
    record {
      earlier = [];
      missed = made;
      later = [];
      steps = steps ∙ ap (λ xs. steps_of s ++ xs) (sym (append-nil made));
      is_miss = rw got (first, subst F is miss);
    }

-- what a slice is read with past its end
abbrev pub unused : Ref
unused = record { tok = record { 0 = 0 }; mode = Exclusive }
