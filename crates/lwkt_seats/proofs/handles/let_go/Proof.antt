-- `let_go` takes what a handle owns out of it, unless its pointer is null.
use mathlib.Core.Path.{◌≡◌, refl, sym, subst, ◌∙◌}
use mathlib.Core.List.{List, [], ◌∷◌, ◌++◌}
use Prim.Native.Nat.{ℕ}
use lib.Dec.{lit<}
use seplogic.Ra.Ura.{Ura}
use mir.Raw.{raw as bare}
use mir.Syntax.{Body, place, copy, int, w8, aggregate, assign, rv_opd, seq, return}
use mir.Val.{Val, vstruct, of_list, has_ty}
use base.Logic.{SProp, ent, emp, fst∗, never, guard_i}
use base.Fml.{ftrue, fsep}
use prog.Memory.{Memory}
use prog.Routine.{Routine}
use prog.Wp.{WpFn, Tables}
use types.Logic.{Logic, sem}
use contract.Monad.{Fun, fact_use}
use contract.Running.{tables, tables_of}
use sound.WpLaws.{WpFn-mono}
use types.Kit.{at_ret, ‵, raw, given, ◌⊛◌, ◌$◌, ◌∵◌, !, qed, by, move, keep, drop, learn, use0, use1, join, split, fsplit, fpick, fjoin, feq_l, suffices, done}
use types.Part.{whole, sub, agg}
use types.Match.{live}
use types.Run.{stop, fld, bin, lit, of_opd, and_then, no_more, returns, returns_within, enter, first, skips, branches, exec}
use types.ByLocal.{alloc_all, pass_all, free_all, look_at, get, get_in, sets, env}
use denote.Exit.{yes}
use denote.RattleType.{RattleType}
use denote.RawPtr.{Ptr, in_a_block, null_ptr, block_ptr, Testable, tests_null}
use denote.Signature.{plain}
use denote.Steps.{nothing}
use denote.Triple.Spec.{triple_of}
use denote.Triple.Table.{entered}
use denote.Triple.Walked.{says, Stays, stay_dropped, walk_of, ends_at, Goes-dropped, walk_Meets}
use Rattle.core.proofs.alloc.Calls.{token, Fits, handle_tells}
use Rattle.std_alloc.specs.Box.Ownership.{box_owns}
use Rattle.std_alloc.proofs.BoxSteps.Form.{R, τ, word, box_ty, box_typed}
use Rattle.std_alloc.proofs.ResultValues.{and_tt}
use Rattle.std_alloc.proofs.BoxSteps.Steps.{box_in}
use Rattle.std_heap.proofs.GlobalToken.{dealloc_token-Testable}
use Rattle.std_heap.specs.declared.Global.{Global}
use Rattle.std_heap.specs.contracts.Global as Heap
use Rattle.std.specs.contracts.impls.GlobalAllocator.TheImpl.{ghosts}
use Rattle.core.specs.declared.option.Option.{Option}
use Rattle.core.specs.declared.option.Option.TheVariants.{None, Some}
use Rattle.core.specs.contracts.option.Option as OP
use Rattle.core.proofs.option.Made.{Some-of, none_of}
use Rattle.lwkt_seats.specs.Handles.{is_held}
use Rattle.lwkt_seats.specs.contracts.desks.Desk as Desk
use Rattle.lwkt_seats.specs.contracts.raw_boxes.RawBox as parts
use Rattle.lwkt_seats.specs.contracts.handles.LwktHeld as Held
use Rattle.lwkt_seats.proofs.DeskBox.{E}
use Rattle.lwkt_seats.proofs.HeldSteps.{w}
use Rattle.lwkt_seats.specs.contracts.handles.let_go as F
use Rattle.lwkt_seats.specs.contracts.handles.let_go.Key.{name as #self}
use Rattle.lwkt_seats.proofs.handles.let_go.Statement as stated
use Rattle.lwkt_seats.proofs.handles.let_go.Code as code

abbrev rest : Body
rest = seq (assign (place 5 []) (rv_opd (copy (place 3 [])))) (seq (assign (place 6 []) (aggregate (copy (place 5 []) ∷ copy (place 1 []) ∷ []))) (seq (assign (place 0 []) (aggregate (int w8 1 ∷ copy (place 6 []) ∷ []))) return))

abbrev stayed : Stays (F.ended).signature.params (F.ended).kept
stayed = (stay_dropped (plain (λ _. Heap.the_row)) yes, (stay_dropped (plain (λ _. Held.the_row)) yes, tt))

abbrev To : RattleType
To = parts.the_row Desk.the_row Heap.the_row ghosts

module _ {M : Type 1} {𝓤 : Ura M} (𝓛 : Logic 𝓤) (at_mem : Memory → SProp 𝓤) (run : Routine → Fun 𝓤) (𝓣 : Tables 𝓤 𝓛.H) where
  open 𝓛 use {H}

  module _ (z : (walk_of 𝓛 F.ended stayed (F.clauses 𝓛 at_mem run)).Ghost) where
    abbrev Post : Val → SProp 𝓤
    Post = (walk_of 𝓛 F.ended stayed (F.clauses 𝓛 at_mem run)).post z

    none : z.0.3.1.0.desk ≡ None → (hv : Val) → Fits E.al hv → ent 𝓤 (sem 𝓛 ftrue) (WpFn 𝓤 H 𝓣.C 𝓣.Λ code.function (hv ∷ w null_ptr ∷ []) Post)
    none eo hv fa =
        qed 𝓛 (‵ ftrue ∷ []) ∵ drop ! $ enter ! 𝓣.C 𝓣.Λ code.function (hv ∷ w null_ptr ∷ []) _ $ alloc_all ! (λ ls. pass_all ! refl (fa, ((tt, (record { fits = lit< tt }, tt)), tt)) $
        sets ! (of_opd ! (get_in ! (fld ! refl (stop !)) (sub ! 0 refl (whole !)))) refl (tt, record { fits = lit< tt }) $
        sets ! (bin ! (get ! refl) (lit ! tt) (tests_null null_ptr (lit< tt))) refl (tt, tt) $
        first ! $ branches ! (get ! refl)
        (λ t. sets ! (agg ! (and_then ! (lit ! tt) (no_more !))) refl (tt, (record { fits = lit< tt }, tt)) $
        returns_within ! Post refl (look_at ! 0 refl) $ free_all ! refl $
        use0 𝓛 (‵ ((OP.the_row To).own_val None (live 0 (of_list []) ∷ []))) (none_of 𝓛 To) $
        suffices ! _ (ends_at 𝓛 F.ended stayed (F.clauses 𝓛 at_mem run) z (live 0 (of_list [])) None (tt, (tt, tt)) (tt, (tt, tt))) $ says ! eo $
        nothing ! $ nothing ! $ fjoin ! $ nothing ! $ fjoin ! $ join ! $ nothing ! $ join ! $ done !)
        (λ t. absurd t))

    some : (x : Desk.the_row.Denot) (b o : ℕ) (hv : Val) → z.0.3.1.0.desk ≡ Some x → Testable (block_ptr b o) → Fits E.al hv
        → ent 𝓤 (sem 𝓛 (To.own_val (record { ptr = block_ptr b o; alloc = z.0.3.0; value = x }) (word E hv b o ∷ []))) (WpFn 𝓤 H 𝓣.C 𝓣.Λ code.function (hv ∷ w (block_ptr b o) ∷ []) Post)
    some x b o hv eo may fa =
        let made : To.Denot = record { ptr = block_ptr b o; alloc = z.0.3.0; value = x } in
        let v : Val = word E hv b o in
        qed 𝓛 (‵ (To.own_val made (v ∷ [])) ∷ []) ∵ enter ! 𝓣.C 𝓣.Λ code.function (hv ∷ w (block_ptr b o) ∷ []) _ $ alloc_all ! (λ ls. pass_all ! refl (fa, ((tt, (tt, tt)), tt)) $
        use1 𝓛 (‵ ((OP.the_row To).own_val (Some made) (live 1 (of_list (v ∷ [])) ∷ []))) (Some-of 𝓛 To made v) $
        sets ! (of_opd ! (get_in ! (fld ! refl (stop !)) (sub ! 0 refl (whole !)))) refl (tt, tt) $
        sets ! (bin ! (get ! refl) (lit ! tt) (tests_null (block_ptr b o) may)) refl (tt, tt) $
        first ! $ branches ! (get ! refl) (λ t. absurd t)
        (λ t. skips ! $ exec ! 𝓣.C 𝓣.Λ (env code.function.locals ls) rest (at_ret (env code.function.locals ls) Post) $
        sets ! (of_opd ! (get ! refl)) refl (tt, tt) $
        sets ! (agg ! (and_then ! (get ! refl) (and_then ! (get ! refl) (no_more !)))) refl (box_typed E hv b o fa) $
        sets ! (agg ! (and_then ! (lit ! tt) (and_then ! (get ! refl) (no_more !)))) refl (and_tt (has_ty (box_ty E) v) (box_typed E hv b o fa).0, (record { fits = lit< tt }, ((box_typed E hv b o fa).1, tt))) $
        returns ! (look_at ! 0 refl) $ free_all ! refl $
        suffices ! _ (ends_at 𝓛 F.ended stayed (F.clauses 𝓛 at_mem run) z (live 1 (of_list (v ∷ []))) (Some made) (tt, (tt, tt)) (tt, (tt, tt))) $ says ! eo $
        nothing ! $ nothing ! $ fjoin ! $ nothing ! $ fjoin ! $ join ! $ nothing ! $ join ! $ done !))

    held : (o : Option Desk.the_row.Denot) (p : Ptr) (hv : Val) → z.0.3.1.0.desk ≡ o → Fits E.al hv → ent 𝓤 (sem 𝓛 (fsep (Heap.the_row.own_val z.0.3.0 (hv ∷ [])) (is_held p o))) (WpFn 𝓤 H 𝓣.C 𝓣.Λ code.function (hv ∷ w p ∷ []) Post)
    held None p hv eo fa =
        qed 𝓛 (‵ (fsep (Heap.the_row.own_val z.0.3.0 (hv ∷ [])) (is_held p None)) ∷ []) ∵ fsplit ! $ drop ! $ fpick ! (λ e. by ! (subst (λ (q : Ptr). ent 𝓤 (sem 𝓛 ftrue) (WpFn 𝓤 H 𝓣.C 𝓣.Λ code.function (hv ∷ w q ∷ []) Post)) (sym e) (none eo hv fa)))
    held (Some x) p hv eo fa =
        let a : Global = z.0.3.0 in
        qed 𝓛 (‵ (fsep (Heap.the_row.own_val a (hv ∷ [])) (is_held p (Some x))) ∷ []) ∵ fsplit ! $ move ! (1 ∷ []) $ fpick ! (λ c.
        in_a_block ! p (λ q. box_owns (token E.al c) (R E) q x) (fst∗ 𝓤 (never 𝓤) (sem 𝓛 (token E.al c (bare (τ E)) null_ptr))) (λ b o e. fsplit ! $ move ! (1 ∷ []) $
        use1 𝓛 (given (Testable (block_ptr b o)) (‵ (token E.al c (bare (τ E)) (block_ptr b o)))) (fact_use 𝓤 _ (dealloc_token-Testable 𝓛 c (bare (τ E)) (block_ptr b o)) (guard_i 𝓤 (Testable (block_ptr b o)) (sem 𝓛 (token E.al c (bare (τ E)) (block_ptr b o))))) $ learn ! (λ may.
        move ! (1 ∷ 0 ∷ 2 ∷ []) $ box_in E ! (record { ptr = block_ptr b o; alloc = a; value = x }) b o x refl refl $
        by ! (subst (λ (q : Ptr). ent 𝓤 (sem 𝓛 (To.own_val (record { ptr = block_ptr b o; alloc = a; value = x }) (word E hv b o ∷ []))) (WpFn 𝓤 H 𝓣.C 𝓣.Λ code.function (hv ∷ w q ∷ []) Post)) (sym e) (some x b o hv eo may fa)))))

    walk : ent 𝓤 ((walk_of 𝓛 F.ended stayed (F.clauses 𝓛 at_mem run)).pre z) (WpFn 𝓤 H 𝓣.C 𝓣.Λ code.function (z.0.4.0 ++ (z.0.4.1.0 ++ [])) Post)
    walk =
        let a = z.0.3.0 in let d = z.0.3.1.0 in
        qed 𝓛 ((‵ ftrue ⊛ ‵ (fsep (Heap.the_row.own_val a z.0.4.0) (fsep (Held.the_row.own_val d z.0.4.1.0) ftrue))) ∷ raw (emp 𝓤) ∷ []) ∵ split ! $ drop ! $ fsplit ! $
        handle_tells E.al ! a z.0.4.0 (λ hv ea fa. move ! (1 ∷ []) $ fsplit ! $ fsplit ! $
        fpick ! (λ vss. fsplit ! $ feq_l ! (λ ev. fsplit ! $ feq_l ! (λ ep. drop ! $ move ! (2 ∷ 0 ∷ []) $ fjoin ! $ keep ! (0 ∷ []) $
        let ws : z.0.4.1.0 ≡ w d.place ∷ [] = ev ∙ (λ i. vstruct (of_list (ep i ++ [])) ∷ []) in
        by ! (subst (λ (vs : List Val). ent 𝓤 (sem 𝓛 (fsep (Heap.the_row.own_val a (hv ∷ [])) (is_held d.place d.desk))) (WpFn 𝓤 H 𝓣.C 𝓣.Λ code.function (vs ++ (z.0.4.1.0 ++ [])) Post)) (sym ea)
        (subst (λ (us : List Val). ent 𝓤 (sem 𝓛 (fsep (Heap.the_row.own_val a (hv ∷ [])) (is_held d.place d.desk))) (WpFn 𝓤 H 𝓣.C 𝓣.Λ code.function (hv ∷ (us ++ [])) Post)) (sym ws) (held d.desk d.place hv refl fa)))))))

pub let_go_spec : {M : Type 1} → stated.statement M
unfolding tables_of
let_go_spec 𝓤 𝓛 𝓜 𝓡 wired =
    let 𝓣 : Tables 𝓤 𝓛.H = tables_of 𝓤 𝓛.H 𝓜 (tables 𝓤 𝓛.H 𝓜 𝓡 𝓡.env) in
    entered 𝓤 𝓛.H (triple_of 𝓛 F.signature (F.spec 𝓛 𝓜.mem 𝓡.returns)) 𝓣.C 𝓣.Λ #self code.function (code.unfolded 𝓤 𝓛.H 𝓜 𝓡 wired)
    (walk_Meets 𝓛 F.ended stayed (Goes-dropped 𝓛 0 (plain (λ _. Heap.the_row)) yes (λ κs x f. refl), (Goes-dropped 𝓛 0 (plain (λ _. Held.the_row)) yes (λ κs x f. refl), tt)) (F.clauses 𝓛 𝓜.mem 𝓡.returns) (WpFn 𝓤 𝓛.H 𝓣.C 𝓣.Λ code.function) (WpFn-mono 𝓤 𝓛.H 𝓛.laws 𝓣 code.function)
    (walk 𝓛 𝓜.mem 𝓡.returns 𝓣))
