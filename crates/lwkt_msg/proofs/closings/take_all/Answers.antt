use Rattle.std.proofs.Common.{rules, ◌≡◌, List, [], ◌∷◌, ◌++◌, Some, refl, sym, ◌∙◌, subst}
use Rattle.std.proofs.lemmas.List.Elements.{All-pop}
use Rattle.lwkt_msg.specs.declared.views.View.{View}
use Rattle.lwkt_msg.specs.Desks.{Desk, IsTaking}
use Rattle.lwkt_msg.proofs.Closing.{taking_none, taking_more, taking_all}
use Rattle.lwkt_msg.proofs.closings.take_all.Goals as goal

pub loop-seat-init : goal.loop-seat-init
loop-seat-init c = (refl, refl, c.requires.seats.1, taking_none c.args.cpus c.args.clerk.now.me.0 c.args.seats.items c.requires.clerk.0 c.requires.clerk.1)

pub loop-seat-preserved : goal.loop-seat-preserved
loop-seat-preserved c =
    let inv = c.loop-seat.invariant in
    let left : List Desk = c.pop.new.self.items in
    let seat : Desk = c.in-Some.seat in
    let items : c.loop-seat.seats.items ≡ left ++ seat ∷ [] = c.in-Some.ensures.items in
    let F : List Desk → Type 0 = λ xs. IsTaking c.args.cpus c.args.clerk.now.me.0 c.args.seats.items xs c.loop-seat.clerk.me.0 in
    let G : View → Type 0 = λ w. IsTaking c.args.cpus c.args.clerk.now.me.0 c.args.seats.items left w in (
      c.take_back.ensures.seat.0 ∙ inv.0,
      c.take_back.ensures.seat.1 ∙ inv.1,
      (All-pop (λ (d : Desk). d.table ≡ c.args.top.now.table_id) c.loop-seat.seats.items left (Some seat) items inv.2).0,
      subst G (sym c.take_back.ensures.view) (taking_more c.args.cpus c.args.clerk.now.me.0 c.args.seats.items left seat c.loop-seat.clerk.me.0 (subst F items inv.3)),
    )

pub returns-clause-view : goal.returns-clause-view
returns-clause-view c =
    let none : c.loop-seat.seats.items ≡ [] = search rules in
    let F : List Desk → Type 0 = λ xs. IsTaking c.args.cpus c.args.clerk.now.me.0 c.args.seats.items xs c.loop-seat.clerk.me.0 in
    taking_all c.args.cpus c.args.clerk.now.me.0 c.args.seats.items c.loop-seat.clerk.me.0 (subst F none c.loop-seat.invariant.3)
