use Rattle.std.proofs.Common.{◌≡◌, ◌+◌, ◌<◌, refl, ap, sym, ◌∙◌, arith}
use Rattle.std.proofs.lemmas.Bool.{false≢true}
use Rattle.lwkt_base.specs.declared.holdings.Held.{Held}
use Rattle.lwkt_base.specs.Holding.{Holding, is_held, references_in, one_less}
use Rattle.lwkt_bank.specs.Seats.{holding}
use Rattle.lwkt_seats.proofs.BlockMoves.{IsSameSection, ends_none, ends_more, less_counts, held_by_count, free_by_count, removed_here, mine_held, section_then, section_lawful, section_broken, ends_section, ends_broken, ends_lawful}
use Rattle.lwkt_seats.proofs.blocks.give_up.Goals as goal

pub loop-given-init : goal.loop-given-init
loop-given-init c = record {
  each = ends_none c.args.seat.now;
  left = omega arith;
  kept = λ held. (refl, refl, refl);
  broken = λ yes. absurd (false≢true yes);
  lawful = λ no free mine. absurd (false≢true (sym free ∙ mine_held (holding c.args.seat.now c.args.tok.0) mine));
  others = λ other away. refl;
  same = (refl, refl);
}

pub end_one-restored-requires-clause-held : goal.end_one-restored-requires-clause-held
end_one-restored-requires-clause-held c =
    let l = c.loop-given in
    let left = l.invariant.left in
    let total = c.references_of-given-end.ensures.is in
    let more = c.loop-given-test.true in
    held_by_count (holding l.seat c.args.tok.0) (omega (arith, left, total, more))

pub loop-given-preserved : goal.loop-given-preserved
loop-given-preserved c =
    let l = c.loop-given in
    let a = c.args.seat.now in
    let tok = c.args.tok in
    let e = c.end_one-restored in
    let s' = e.new.seat in
    let left = l.invariant.left in
    let total = c.references_of-given-end.ensures.is in
    let more = c.loop-given-test.true in
    let bank = l.invariant.same.0 in
    let some : 0 < references_in (holding l.seat tok.0) = omega (arith, left, total, more) in
    let section : IsSameSection a l.seat tok.0 = l.invariant.kept (held_by_count (holding l.seat tok.0) some) in
    let here : holding s' tok.0 ≡ one_less (holding l.seat tok.0) = ap (λ (h : Holding). h tok.0) e.ensures.given ∙ removed_here (holding l.seat) tok.0 in
    let less : references_in (holding s' tok.0) + 1 ≡ references_in (holding l.seat tok.0) = ap (λ (h : Held). references_in h + 1) here ∙ less_counts (holding l.seat tok.0) some in
    record {
      each = ends_more a l.seat s' tok e.result l.invariant.each e.ensures.does;
      left = omega (arith, left, less);
      kept = λ held. section_then a l.seat s' tok.0 section (ends_section l.seat s' tok.0 e.result e.ensures.does e.ensures.given held);
      broken = λ yes. section_broken a l.seat tok.0 bank section (ends_broken l.seat s' tok.0 e.result e.ensures.does yes);
      lawful = λ no gone mine. section_lawful a l.seat tok.0 bank section (ends_lawful l.seat s' tok.0 e.result e.ensures.does e.ensures.given no gone (section.2 ∙ mine));
      others = λ other away. e.ensures.others other away ∙ l.invariant.others other away;
      same = (e.ensures.same.0 ∙ l.invariant.same.0, e.ensures.same.1 ∙ l.invariant.same.1);
    }

pub returns-clause-gone : goal.returns-clause-gone
returns-clause-gone c =
    let l = c.loop-given in
    let left = l.invariant.left in
    let total = c.references_of-given-end.ensures.is in
    let end = c.loop-given-test.false in
    free_by_count (holding l.seat c.args.tok.0) (omega (arith, left, total, end))

pub returns-clause-lawful : goal.returns-clause-lawful
returns-clause-lawful c =
    let l = c.loop-given in
    let left = l.invariant.left in
    let total = c.references_of-given-end.ensures.is in
    let end = c.loop-given-test.false in
    let free = free_by_count (holding l.seat c.args.tok.0) (omega (arith, left, total, end)) in
    λ no mine. l.invariant.lawful no (ap is_held free) mine
