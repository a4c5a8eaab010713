-- The seat comes out of the struct.
use Rattle.atomic_table.proofs.Names.{◌≡◌, List, [], ◌∷◌, ◌++◌, refl, ap, ◌∙◌, a_type, Val, vstruct, vcons, vnil, inst_fn, SProp, emp, ‵, raw, ◌⊛◌, ◌$◌, ◌∵◌, !, qed, by, move, keep, drop, split, fsplit, fsplit3, fjoin, fpick, use0, rewrite, stop, fld, of_opd, returns, enter, alloc_all, pass_all, free_all, look_at, get, get_in, sets, sub, whole, tables, no, RattleType, owns, types_at, plain, nothing, param, layouts, alive, Stays, stay_dropped, walk_of, fact, fact_i, of_list, Is, shows, peeks}
use Rattle.atomic_table.proofs.Walks.{proved, leaves}
use Rattle.atomic_table.proofs.Fields.{token_val, token_told}
use Rattle.core.proofs.alloc.Calls.{Goes-blank}
use Rattle.atomic_table.specs.contracts.shared.Seat as seat
use Rattle.lwkt_table.specs.contracts.Resting as rest
use Rattle.lwkt_table.specs.contracts.Resting.wake.{ended, clauses}
use Rattle.lwkt_table.specs.contracts.Resting.wake.Key.{name as #self}
use Rattle.lwkt_table.proofs.Resting.wake.Statement.{statement}
use Rattle.lwkt_table.proofs.Resting.wake.Code as code

abbrev rest_val : Val
rest_val = vstruct (vcons token_val vnil)

rest_told : (R W : RattleType) (d : (rest.the_row R W).Denot) (vs : List Val) → Is (rest.the_row R W) d vs → vs ≡ rest_val ∷ []
rest_told R W d vs so = let is = so.0 in is.1.0 ∙ ap (λ (ws : List Val). vstruct (of_list (ws ++ [])) ∷ []) (token_told R W is.0.0 is.1.1.0.0)

pub wake_spec : {M : Type 1} → statement M
wake_spec 𝓤 𝓛 𝓜 𝓡 wired T U _ _ =
    let H = 𝓛.H in let 𝓣 = tables 𝓤 H 𝓜 𝓡 𝓡.env in let R : RattleType = param 0 T in let W : RattleType = param 1 U in let En = ended T U in let c = clauses T U 𝓛 𝓜.mem 𝓡.returns in
    let inst = layouts (a_type ∷ a_type ∷ []) (T, (U, tt)) in let fn = inst_fn inst code.function in let Sr : RattleType = seat.the_row R W in let Rr : RattleType = rest.the_row R W in
    let hs : Stays En.signature.params En.kept = (stay_dropped (plain (λ _. Rr)) no, tt) in
    proved 𝓛 En hs c 𝓜 𝓡 (Goes-blank 𝓛 2 (plain (λ _. Rr)) no (λ κs x f. tt), tt) (#self inst) fn (code.unfolded 𝓤 H 𝓜 𝓡 wired (T, (U, tt)))
    (λ κs. ((λ _. rest_val ∷ []), tt)) (λ κs. ((λ x vs so. rest_told R W x vs so), tt)) (λ κs qs bounds a gh are.
    let x : Sr.Denot = a.0.seat in
    let y : (walk_of 𝓛 En hs c).Ghost = ((κs, qs, bounds, a, (rest_val ∷ [], tt)), gh) in let Post : Val → SProp 𝓤 = (walk_of 𝓛 En hs c).post y in
    qed 𝓛 ((raw (alive 𝓛 En.signature κs qs) ⊛ ‵ (owns (types_at En.signature.params κs) a y.0.4)) ∷ raw ((c κs a).requires gh) ∷ []) ∵
    split ! $ move ! (1 ∷ []) $ fsplit ! $ fsplit ! $ fpick ! (λ vss. fsplit3 ! $ drop ! $ peeks ! Sr (Is Sr) (shows 𝓛 Sr) x vss.0 (λ so.
    rewrite ! 0 (λ (ws : List Val). ‵ (Sr.own_val x ws)) (token_told R W vss.0 so.0) refl $ keep ! (0 ∷ 4 ∷ []) $
    enter ! 𝓣.C 𝓣.Λ fn (rest_val ∷ []) Post $ alloc_all ! (λ l. pass_all ! refl ((tt, ((tt, tt), tt)), tt) $
    sets ! (of_opd ! (get_in ! (fld ! refl (stop !)) (sub ! 0 refl (whole !)))) refl (tt, (tt, tt)) $ sets ! (of_opd ! (get ! refl)) refl (tt, (tt, tt)) $
    use0 𝓛 (raw (fact 𝓤 (x ≡ x))) (fact_i 𝓤 (x ≡ x) (emp 𝓤) refl) $ nothing ! $ nothing ! $ fjoin ! $
    returns ! (look_at ! 0 refl) $ free_all ! refl $ keep ! (3 ∷ 0 ∷ 2 ∷ 1 ∷ []) $ by ! (leaves 𝓛 En hs c y token_val x ((tt, tt), tt) (tt, tt))))))
