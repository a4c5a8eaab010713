-- `desk` follows the pointer to what is lent, unless it is null.
use mathlib.Core.Path.{◌≡◌, refl, sym, subst, ◌∙◌}
use mathlib.Core.List.{List, [], ◌∷◌, ◌++◌}
use Prim.Native.Nat.{ℕ}
use lib.Dec.{lit<}
use seplogic.Ra.Ura.{Ura}
use mir.Syntax.{Body, place, copy, deref, int, w8, addr_of, aggregate, assign, rv_opd, block, seq, return, static}
use mir.Val.{Val, vptr, vstruct, of_list}
use base.Logic.{SProp, ent, emp, fst∗, never}
use base.Fml.{ftrue, fsep}
use prog.Memory.{Memory}
use prog.Routine.{Routine}
use prog.Wp.{WpFn, Tables}
use types.Logic.{Logic, sem}
use contract.Monad.{Fun}
use contract.Running.{tables, tables_of}
use sound.WpLaws.{WpFn-mono}
use types.Kit.{at_ret, ‵, raw, ◌⊛◌, ◌$◌, ◌∵◌, !, qed, by, keep, drop, use0, use1, join, split, fsplit, fpick, fjoin, feq_l, feq_i, suffices, done}
use types.Part.{whole, sub, agg}
use types.Match.{live}
use types.Run.{stop, fld, bin, lit, of_opd, and_then, no_more, returns, returns_within, enter, first, blocks, skips, branches, exec, addr}
use types.ByLocal.{alloc_all, pass_all, free_all, look_at, get, get_in, sets, sets_last, through, env}
use denote.Exit.{yes}
use denote.RattleType.{RattleType}
use denote.RawPtr.{Ptr, ptr_val, in_a_block, null_ptr, block_ptr, block_of, count_of, Testable, tests_null}
use denote.Ref.{Bor, ShrRef}
use denote.Memory.{hidden_shr}
use denote.Param.{layout}
use denote.Signature.{plain}
use denote.Steps.{nothing}
use denote.Struct.Lending.{lent_at}
use denote.Triple.Spec.{triple_of}
use denote.Triple.Table.{entered}
use denote.Triple.Walked.{says, Stays, stay_dropped, walk_of, ends_at, Goes-dropped, walk_Meets}
use Rattle.core.specs.declared.option.Option.{Option}
use Rattle.core.specs.declared.option.Option.TheVariants.{None, Some}
use Rattle.core.specs.contracts.option.Option as OP
use Rattle.core.proofs.option.Made.{Some-of, none_of}
use Rattle.lwkt_seats.specs.Handles.{is_lent}
use Rattle.lwkt_seats.specs.contracts.desks.Desk as Desk
use Rattle.lwkt_seats.specs.contracts.handles.LwktBank as Bank
use Rattle.lwkt_seats.specs.contracts.handles.LwktBank.desk as F
use Rattle.lwkt_seats.specs.contracts.handles.LwktBank.desk.Key.{name as #self}
use Rattle.lwkt_seats.proofs.handles.LwktBank.desk.Statement as stated
use Rattle.lwkt_seats.proofs.handles.LwktBank.desk.Code as code

abbrev w : Ptr → Val
w p = vstruct (of_list (ptr_val p ∷ []))

abbrev last : Body
last = seq (assign (place 0 []) (rv_opd (copy (place 4 [])))) return

abbrev lends : Body
lends = seq (block (seq (assign (place 5 []) (rv_opd (copy (place 2 [])))) (seq (assign (place 6 []) (addr_of (place 5 (deref (layout Desk.the_row) ∷ [])))) (assign (place 4 []) (aggregate (int w8 1 ∷ copy (place 6 []) ∷ [])))))) last

abbrev stayed : Stays (F.ended).signature.params (F.ended).kept
stayed = (stay_dropped (plain (λ _. Bank.the_row)) yes, tt)

abbrev Lent : RattleType
Lent = ShrRef static [] Desk.the_row

module _ {M : Type 1} {𝓤 : Ura M} (𝓛 : Logic 𝓤) (at_mem : Memory → SProp 𝓤) (run : Routine → Fun 𝓤) (𝓣 : Tables 𝓤 𝓛.H) where
  open 𝓛 use {H}

  module _ (z : (walk_of 𝓛 F.ended stayed (F.clauses 𝓛 at_mem run)).Ghost) where
    abbrev Post : Val → SProp 𝓤
    Post = (walk_of 𝓛 F.ended stayed (F.clauses 𝓛 at_mem run)).post z

    none : z.0.3.0.desk ≡ None → ent 𝓤 (sem 𝓛 ftrue) (WpFn 𝓤 H 𝓣.C 𝓣.Λ code.function (w null_ptr ∷ []) Post)
    none eo =
        qed 𝓛 (‵ ftrue ∷ []) ∵ drop ! $ enter ! 𝓣.C 𝓣.Λ code.function (w null_ptr ∷ []) _ $ alloc_all ! (λ ls. pass_all ! refl ((tt, (record { fits = lit< tt }, tt)), tt) $
        sets ! (of_opd ! (get_in ! (fld ! refl (stop !)) (sub ! 0 refl (whole !)))) refl (tt, record { fits = lit< tt }) $
        sets ! (bin ! (get ! refl) (lit ! tt) (tests_null null_ptr (lit< tt))) refl (tt, tt) $
        first ! $ branches ! (get ! refl)
        (λ t. sets ! (agg ! (and_then ! (lit ! tt) (no_more !))) refl (tt, (record { fits = lit< tt }, tt)) $
        returns_within ! Post refl (look_at ! 0 refl) $ free_all ! refl $
        use0 𝓛 (‵ ((OP.the_row Lent).own_val None (live 0 (of_list []) ∷ []))) (none_of 𝓛 Lent) $
        suffices ! _ (ends_at 𝓛 F.ended stayed (F.clauses 𝓛 at_mem run) z (live 0 (of_list [])) None (tt, tt) (tt, tt)) $ says ! eo $
        nothing ! $ nothing ! $ fjoin ! $ join ! $ nothing ! $ join ! $ done !)
        (λ t. absurd t))

    some : (x : Desk.the_row.Denot) (b o : ℕ) → z.0.3.0.desk ≡ Some x → Testable (block_ptr b o) → ent 𝓤 (sem 𝓛 (hidden_shr Desk.the_row [] x b o)) (WpFn 𝓤 H 𝓣.C 𝓣.Λ code.function (w (block_ptr b o) ∷ []) Post)
    some x b o eo may =
        let v : Val = vptr b o in
        let r : Bor Desk.the_row.Denot = record { ref_ptr = (b, o); now = x } in
        qed 𝓛 (‵ (hidden_shr Desk.the_row [] x b o) ∷ []) ∵ enter ! 𝓣.C 𝓣.Λ code.function (w (block_ptr b o) ∷ []) _ $ alloc_all ! (λ ls. pass_all ! refl ((tt, (tt, tt)), tt) $
        feq_i ! (List Val) (v ∷ []) (v ∷ []) refl $ fjoin ! $
        use1 𝓛 (‵ ((OP.the_row Lent).own_val (Some r) (live 1 (of_list (v ∷ [])) ∷ []))) (Some-of 𝓛 Lent r v) $
        sets ! (of_opd ! (get_in ! (fld ! refl (stop !)) (sub ! 0 refl (whole !)))) refl (tt, tt) $
        sets ! (bin ! (get ! refl) (lit ! tt) (tests_null (block_ptr b o) may)) refl (tt, tt) $
        first ! $ branches ! (get ! refl) (λ t. absurd t)
        (λ t. skips ! $ exec ! 𝓣.C 𝓣.Λ (env code.function.locals ls) lends (at_ret (env code.function.locals ls) Post) $
        first ! $ blocks ! $ sets ! (of_opd ! (get ! refl)) refl (tt, tt) $ sets ! (addr ! (through ! refl (stop !))) refl (tt, tt) $
        sets_last ! (agg ! (and_then ! (lit ! tt) (and_then ! (get ! refl) (no_more !)))) refl (tt, (record { fits = lit< tt }, (tt, tt))) $
        exec ! 𝓣.C 𝓣.Λ (env code.function.locals ls) last (at_ret (env code.function.locals ls) Post) $
        sets ! (of_opd ! (get ! refl)) refl (tt, (record { fits = lit< tt }, (tt, tt))) $
        returns ! (look_at ! 0 refl) $ free_all ! refl $
        suffices ! _ (ends_at 𝓛 F.ended stayed (F.clauses 𝓛 at_mem run) z (live 1 (of_list (v ∷ []))) (Some r) (tt, tt) (tt, tt)) $ says ! eo $
        nothing ! $ nothing ! $ fjoin ! $ join ! $ nothing ! $ join ! $ done !))

    lent : (o : Option Desk.the_row.Denot) (p : Ptr) → z.0.3.0.desk ≡ o → ent 𝓤 (sem 𝓛 (is_lent p o)) (WpFn 𝓤 H 𝓣.C 𝓣.Λ code.function (w p ∷ []) Post)
    lent None p eo =
        qed 𝓛 (‵ (is_lent p None) ∷ []) ∵ fpick ! (λ e. by ! (subst (λ (q : Ptr). ent 𝓤 (sem 𝓛 ftrue) (WpFn 𝓤 H 𝓣.C 𝓣.Λ code.function (w q ∷ []) Post)) (sym e) (none eo)))
    lent (Some x) p eo =
        qed 𝓛 (‵ (is_lent p (Some x)) ∷ []) ∵ fsplit ! $ fpick ! (λ may. drop ! $
        in_a_block ! p (λ q. lent_at Desk.the_row q x []) (fst∗ 𝓤 (never 𝓤) (sem 𝓛 (hidden_shr Desk.the_row [] x (block_of null_ptr) (count_of null_ptr)))) (λ b o e. fsplit ! $ drop ! $
        by ! (subst (λ (q : Ptr). ent 𝓤 (sem 𝓛 (hidden_shr Desk.the_row [] x b o)) (WpFn 𝓤 H 𝓣.C 𝓣.Λ code.function (w q ∷ []) Post)) (sym e) (some x b o eo (subst Testable e may)))))

    walk : ent 𝓤 ((walk_of 𝓛 F.ended stayed (F.clauses 𝓛 at_mem run)).pre z) (WpFn 𝓤 H 𝓣.C 𝓣.Λ code.function (z.0.4.0 ++ []) Post)
    walk =
        let d = z.0.3.0 in
        qed 𝓛 ((‵ ftrue ⊛ ‵ (fsep (Bank.the_row.own_val d z.0.4.0) ftrue)) ∷ raw (emp 𝓤) ∷ []) ∵ split ! $ drop ! $ fsplit ! $ fsplit ! $
        fpick ! (λ vss. fsplit ! $ feq_l ! (λ ev. fsplit ! $ feq_l ! (λ ep. drop ! $ keep ! (0 ∷ []) $
        let ws : z.0.4.0 ≡ w d.place ∷ [] = ev ∙ (λ i. vstruct (of_list (ep i ++ [])) ∷ []) in
        by ! (subst (λ (us : List Val). ent 𝓤 (sem 𝓛 (is_lent d.place d.desk)) (WpFn 𝓤 H 𝓣.C 𝓣.Λ code.function (us ++ []) Post)) (sym ws) (lent d.desk d.place refl)))))

pub desk_spec : {M : Type 1} → stated.statement M
unfolding tables_of
desk_spec 𝓤 𝓛 𝓜 𝓡 wired =
    let 𝓣 : Tables 𝓤 𝓛.H = tables_of 𝓤 𝓛.H 𝓜 (tables 𝓤 𝓛.H 𝓜 𝓡 𝓡.env) in
    entered 𝓤 𝓛.H (triple_of 𝓛 F.signature (F.spec 𝓛 𝓜.mem 𝓡.returns)) 𝓣.C 𝓣.Λ #self code.function (code.unfolded 𝓤 𝓛.H 𝓜 𝓡 wired)
    (walk_Meets 𝓛 F.ended stayed (Goes-dropped 𝓛 0 (plain (λ _. Bank.the_row)) yes (λ κs x f. refl), tt) (F.clauses 𝓛 𝓜.mem 𝓡.returns) (WpFn 𝓤 𝓛.H 𝓣.C 𝓣.Λ code.function) (WpFn-mono 𝓤 𝓛.H 𝓛.laws 𝓣 code.function)
    (walk 𝓛 𝓜.mem 𝓡.returns 𝓣))
