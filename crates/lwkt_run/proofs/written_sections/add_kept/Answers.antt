use Rattle.std.proofs.Common.{◌≡◌, ◌∙◌, ◌+◌, ◌++◌, ◌∷◌, [], List, Vec, Some, None, Option, take, ap, sym, subst, append_assoc}
use Rattle.std.specs.Prelude.{slice_get, option_map}
use Rattle.std.specs.declared.alloc.Global.{Global}
use Rattle.lwkt_base.specs.declared.sections.Section.{Section}
use Rattle.lwkt_core.specs.declared.events.Event.{Event}
use Rattle.lwkt_core.specs.RunSections.{sections_named}
use Rattle.lwkt_drive.specs.declared.gives.Give.{Give}
use Rattle.lwkt_drive.specs.Gives.{give_of}
use Rattle.lwkt_run.proofs.GatherMoves.{none_more, one_more}
use Rattle.lwkt_run.proofs.written_sections.add_kept.Goals as goal
use Rattle.lwkt_run.proofs.written_sections.add_kept.Goals.{in-Some+in_ok-push, in_default}

pub loop-place-preserved : goal.loop-place-preserved
loop-place-preserved c =
    let events : List Event = c.args.trace.now.items in
    let before : List Section = c.args.sections.now.items in
    let so_far : List Section = sections_named (take c.loop-place.place events) in
    let S : Vec Section Global → Type 0 = λ v. v.items ≡ before ++ sections_named (take (c.loop-place.place + 1) events) in
    elim c.match-give.branch [
      | in-Some+in_ok-push w ↦
          let give : Give = w.in-Some.give in
          let is : option_map give_of (slice_get events c.loop-place.place) ≡ Some (Some give) = c.give.ensures ∙ ap (λ (o : Option Give). Some o) w.in-Some.is in
          subst S (sym w.sections-is) (w.in_ok-push.ensures.items ∙ ap (λ (xs : List Section). xs ++ give.section ∷ []) c.loop-place.invariant ∙ append_assoc before so_far (give.section ∷ []) ∙ ap (λ (xs : List Section). before ++ xs) (sym (one_more events c.loop-place.place give is)))
      | in_default w ↦
          let is : option_map give_of (slice_get events c.loop-place.place) ≡ Some None = c.give.ensures ∙ ap (λ (o : Option Give). Some o) w.in_default.is in
          subst S (sym w.sections-is) (c.loop-place.invariant ∙ ap (λ (xs : List Section). before ++ xs) (sym (none_more events c.loop-place.place is)))
    ]
