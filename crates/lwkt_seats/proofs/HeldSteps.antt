-- A handle made of what it owns.
use mathlib.Core.Path.{refl}
use mathlib.Core.List.{List, [], ◌∷◌}
use seplogic.Ra.Ura.{Ura}
use mir.Val.{Val, vstruct, of_list}
use base.Logic.{ent}
use types.Logic.{Logic, sem}
use types.Kit.{‵, ◌$◌, ◌∵◌, !, qed, fjoin, fpack, feq_i, done}
use denote.RattleType.{Valss}
use denote.RawPtr.{Ptr, RawPtr, ptr_val}
use denote.Steps.{nothing}
use denote.Struct.Owning.{shape}
use denote.Struct.Struct.{within}
use Rattle.core.specs.declared.option.Option.{Option}
use Rattle.lwkt_seats.specs.Handles.{is_held}
use Rattle.lwkt_seats.specs.contracts.desks.Desk as Desk
use Rattle.lwkt_seats.specs.contracts.handles.LwktHeld as Held

abbrev pub w : Ptr → Val
w p = vstruct (of_list (ptr_val p ∷ []))

module _ {M : Type 1} {𝓤 : Ura M} (𝓛 : Logic 𝓤) where
  pub held_in : (p : Ptr) (o : Option Desk.the_row.Denot) → ent 𝓤 (sem 𝓛 (is_held p o)) (sem 𝓛 (Held.the_row.own_val (record { place = p; desk = o }) (w p ∷ [])))
  held_in p o =
      qed 𝓛 (‵ (is_held p o) ∷ []) ∵ nothing ! $ feq_i ! (List Val) (ptr_val p ∷ []) (ptr_val p ∷ []) refl $ fjoin ! $
      feq_i ! (List Val) (w p ∷ []) (w p ∷ []) refl $ fjoin ! $
      fpack ! (Valss (RawPtr ∷ [])) (within (shape Held.the_type) (p, tt) (w p ∷ [])) (ptr_val p ∷ [], tt) $ fjoin ! $ done !
