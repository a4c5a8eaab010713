use Rattle.std.proofs.Common.{◌≡◌, ◌<◌, ◌∷◌, [], ◌++◌, List, ℕ, length, length-append, map, ap, refl, sym, subst, arith, Some}
use Rattle.std.specs.Prelude.{slice_get}
use Rattle.std.proofs.lemmas.Grind.{common_steps}
use Rattle.std.proofs.lemmas.List.{length-map}
use Rattle.std.proofs.lemmas.Option.{slice_get_read, slice_get_within}
use Rattle.lwkt_bank.specs.Seats.{id_of}
use Rattle.lwkt_lane.specs.Crossed.{IsLeft}
use Rattle.lwkt_lane.proofs.CrossedMoves.{none_gone, first_gone, more_gone}
use Rattle.lwkt_lane.proofs.PlaceMoves.{length_removed}
use Rattle.lwkt_cpu.specs.Processors.{Processor}
use Rattle.lwkt_cpu.specs.Wiring.{HasLines, HaveLines}
use Rattle.lwkt_cpu.proofs.WiringMoves.{lines_later}
use Rattle.lwkt_drive.specs.declared.driven.Driven.{Driven}
use Rattle.lwkt_machine.proofs.SeatMoves.{left_none, left_more}
use Rattle.lwkt_machine.specs.Machines.{processors}
use Rattle.lwkt_machine.specs.Opened.{IsOpenedDriven, AreOpenedCpus}
use Rattle.lwkt_machine.proofs.OpenMoves.{first_few, rest_few, lines_driven, opened_more}
use Rattle.lwkt_machine.proofs.processors.seat_all.Goals as goal

pub seat_next-requires-clause-few : goal.seat_next-requires-clause-few
seat_next-requires-clause-few g c =
    let l = c.loop-number in
    let some : 0 < length l.left.items = omega (arith, c.loop-number-test.true, l.auto.number-end, l.invariant.left_are) in
    first_few {B = g.row.B.Denot} l.left.items c.remove-bodies.result some c.remove-bodies.ensures.value l.invariant.few

pub loop-number-preserved : goal.loop-number-preserved
loop-number-preserved g c =
    let l = c.loop-number in
    let d = c.in_ok-driven.driven in
    let v = c.remove-bodies.result in
    let bank = id_of c.args.bank.now in
    let book = c.args.book.now in
    let lists = c.args.lists.items in
    let outs = c.args.rest.now.outs.items in
    let ins = c.args.rest.now.ins.items in
    let some : 0 < length l.left.items = omega (arith, c.loop-number-test.true, l.auto.number-end, l.invariant.left_are) in
    let first : slice_get l.left.items 0 ≡ Some v = slice_get_read l.left.items (length l.left.items) 0 v refl some c.remove-bodies.ensures.value in
    let grown : c.push.new.list.items ≡ l.cpus.items ++ d ∷ [] = grind (arith, common_steps) in
    let long = length-append l.cpus.items (d ∷ []) in
    let more = ap length grown in
    let F : ℕ → Type 0 = λ n. IsOpenedDriven {B = g.row.B.Denot} bank book n v.items d in
    let G : List (Driven g.row.B.Denot) → Type 0 = λ xs. AreOpenedCpus {B = g.row.B.Denot} bank book lists xs in
    let H : ℕ → Type 0 = λ n. IsLeft n lists l.left.items in
    let J : List (Driven g.row.B.Denot) → Type 0 = λ xs. HaveLines {B = g.row.B.Denot} outs ins (processors {B = g.row.B.Denot} xs) in
    let K : ℕ → Type 0 = λ n. HasLines {B = g.row.B.Denot} outs ins n d.cpu in
    let fewer = length_removed l.left.items some in
    let fewer_left = ap length c.remove-bodies.ensures.items in
    record {
      rest = c.seat_next.ensures.rest;
      lists_are = omega (arith, l.invariant.lists_are, c.seat_next.ensures.fewer, fewer, fewer_left);
      few = rest_few {B = g.row.B.Denot} l.left.items c.remove-bodies.new.self.items some c.remove-bodies.ensures.items l.invariant.few;
      left_are = omega (arith, l.invariant.left_are, fewer, fewer_left);
      made = omega (arith, long, more, l.invariant.made);
      gone = left_more l.number c.args.rest.now l.rest c.seat_next.new.rest l.invariant.gone c.seat_next.ensures.left;
      lists_gone = more_gone l.number lists l.left.items c.remove-bodies.new.self.items l.invariant.lists_gone (first_gone l.left.items c.remove-bodies.new.self.items c.remove-bodies.ensures.items);
      each = subst G (sym grown) (opened_more {B = g.row.B.Denot} bank book lists l.left.items l.cpus.items v d (subst H (sym l.invariant.made) l.invariant.lists_gone) first (subst F (sym l.invariant.made) c.in_ok-driven.ensures.ok) l.invariant.each);
      lines = subst J (sym grown) (lines_driven {B = g.row.B.Denot} outs ins l.cpus.items d (subst K (sym l.invariant.made) (lines_later {B = g.row.B.Denot} l.number outs l.rest.outs.items ins l.rest.ins.items d.cpu l.invariant.gone.outs l.invariant.gone.ins c.in_ok-driven.ensures.lines)) l.invariant.lines);
    }

pub loop-number-init : goal.loop-number-init
loop-number-init g c =
    let none = ap length c.new-cpus.ensures.items in
    let f : Driven g.row.B.Denot → Processor g.row.B.Denot = λ x. x.cpu in
    record {
      rest = c.requires.rest;
      lists_are = c.requires.lists;
      few = c.requires.few;
      left_are = omega arith;
      made = none;
      gone = left_none c.args.rest.now;
      lists_gone = none_gone c.args.lists.items;
      each = λ k v d of at. absurd (omega (arith, none, slice_get_within c.new-cpus.result.items k d at));
      lines = λ k p at. absurd (omega (arith, none, length-map c.new-cpus.result.items f, slice_get_within (map f c.new-cpus.result.items) k p at));
    }

pub returns-clause-lines : goal.returns-clause-lines
returns-clause-lines g c = c.loop-number.invariant.lines
