use Rattle.std.proofs.Common.{◌≡◌, ℕ, ◌+◌, refl, ap, sym, ◌∙◌, subst, arith, inl, inr}
use Rattle.std.specs.Prelude.{Option}
use Rattle.lwkt_base.specs.declared.names.TokId.{TokId}
use Rattle.lwkt_bank.specs.declared.views.TokenEntry.{TokenEntry}
use Rattle.lwkt_bank.specs.Seats.{bank_of, tokens_of}
use Rattle.lwkt_seats.specs.Lists.{IsFirstToBreak}
use Rattle.lwkt_seats.proofs.BlockMoves.{ends_none, ends_after, free_past, free_more, free_all, first_more, section_entry, section_broken, section_lawful, IsSameSection}
use Rattle.lwkt_seats.proofs.blocks.block.Goals as goal

pub loop-tok-init : goal.loop-tok-init
loop-tok-init c = record {
  each = ends_none c.args.seat.now;
  free = λ tok is. elim is [ inl below ↦ absurd (omega (arith, below)) | inr past ↦ free_past c.args.seat.now tok c.cpu.ensures.within past ];
  named = λ tok below mine. absurd (omega (arith, below));
  rest = λ tok after. refl;
  same = (refl, refl);
}

pub loop-tok-preserved : goal.loop-tok-preserved
loop-tok-preserved c =
    let l = c.loop-tok in
    let a = c.args.seat.now in
    let g = c.give_up-restored in
    let s' = g.new.seat in
    let tok : TokId = record { 0 = l.tok } in
    let bank = l.invariant.same.0 in
    let here : IsSameSection a l.seat l.tok = section_entry a l.seat l.tok (l.invariant.rest l.tok (omega arith)) in
    let F : Option TokId → Type 0 = λ f. IsFirstToBreak a (l.tok + 1) f in
    record {
      each = ends_after a l.seat s' l.invariant.each g.ensures.does;
      free = free_more l.seat s' (tokens_of (bank_of a)) l.tok l.invariant.free g.ensures.gone (λ t away. ap (λ (e : TokenEntry). e.held) (g.ensures.others t away));
      named = subst F (sym c.first_restored-first.ensures) (first_more a l.tok l.first g.result tok refl l.invariant.named
          (λ yes. section_broken a l.seat l.tok bank here (g.ensures.broken yes))
          (λ no mine. section_lawful a l.seat l.tok bank here (g.ensures.lawful no (here.2 ∙ mine))));
      rest = λ t after. g.ensures.others t (λ is. absurd (omega (arith, after, is))) ∙ l.invariant.rest t (omega (arith, after));
      same = (g.ensures.same.0 ∙ bank, g.ensures.same.1 ∙ l.invariant.same.1);
    }

pub returns-clause-does : goal.returns-clause-does
returns-clause-does c =
    let l = c.loop-tok in
    let a = c.args.seat.now in
    let tokens = c.tokens-tok-end.ensures.is in
    let of = ap tokens_of c.requires.of in
    let past = c.loop-tok-test.false in
    let within = l.auto.tok-end in
    let end : l.tok ≡ tokens_of (bank_of a) = omega (arith, tokens, of, past, within) in
    let F : ℕ → Type 0 = λ n. IsFirstToBreak a n l.first in
    (free_all l.seat (tokens_of (bank_of a)) l.tok (omega (arith, end)) l.invariant.free, subst F end l.invariant.named, l.invariant.each)
