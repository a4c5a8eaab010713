use Rattle.std.proofs.Common.{◌≡◌, ◌-◌, ◌<◌, ◌≤◌, [], ◌∷◌, ◌++◌, length, refl, ap, sym, ◌∙◌, subst, arith, get_or, take}
use Rattle.lwkt_base.specs.Holding.{holding_of}
use Rattle.lwkt_bank.specs.Seats.{BankId, bank_of, tokens_of}
use Rattle.lwkt_seats.specs.Lists.{GivesUnwritten}
use Rattle.lwkt_seats.proofs.ListMoves.{chain_more, back_held, back_removed, gives_holding, gives_clean, token_there, unused}
use Rattle.lwkt_seats.proofs.resumes.give_front.Goals as goal

pub loop-given-init : goal.loop-given-init
loop-given-init c =
    let e : c.args.count ≡ c.args.count - 0 = omega arith in
    record {
      chain = ([], refl);
      front = c.requires.front ∙ ap (λ n. holding_of (take n c.args.refs.now)) e;
      clean = c.requires.clean;
      same = (refl, refl);
    }

pub give_one-requires-clause-there : goal.give_one-requires-clause-there
give_one-requires-clause-there c =
    let l = c.loop-given in
    let refs = c.args.refs.now in
    let more : l.given < c.args.count = c.loop-given-test.true in
    let whole : c.args.count ≤ length refs = c.requires.within in
    let within : c.args.count - 1 - l.given < length refs = omega (arith, more, whole) in
    let F : BankId → Type 0 = λ b. (get_or refs (c.args.count - 1 - l.given) unused).tok.0 < tokens_of b in
    subst F (sym l.invariant.same.0) (token_there (tokens_of (bank_of c.args.seat.now)) refs (c.args.count - 1 - l.given) within c.requires.there)

pub give_one-requires-clause-held : goal.give_one-requires-clause-held
give_one-requires-clause-held c = let l = c.loop-given in back_held l.seat c.args.refs.now c.args.count l.given c.loop-given-test.true c.requires.within l.invariant.front

pub loop-given-preserved : goal.loop-given-preserved
loop-given-preserved c =
    let l = c.loop-given in
    let tok = (get_or c.args.refs.now (c.args.count - 1 - l.given) unused).tok.0 in
    let s' = c.give_one.new.seat in
    let gives = c.give_one.ensures.gives in
    let held = back_held l.seat c.args.refs.now c.args.count l.given c.loop-given-test.true c.requires.within l.invariant.front in
    record {
      chain = (l.invariant.chain.0 ++ tok ∷ [], chain_more GivesUnwritten l.invariant.chain.0 tok c.args.seat.now l.seat s' l.invariant.chain.1 gives);
      front = gives_holding l.seat s' tok gives ∙ back_removed l.seat c.args.refs.now c.args.count l.given c.loop-given-test.true c.requires.within l.invariant.front;
      clean = gives_clean l.seat s' tok held gives l.invariant.clean;
      same = (c.give_one.ensures.same.0 ∙ l.invariant.same.0, c.give_one.ensures.same.1 ∙ l.invariant.same.1);
    }

pub returns-clause-gives : goal.returns-clause-gives
returns-clause-gives c =
    let l = c.loop-given in
    let none : c.args.count - l.given ≡ 0 = omega (arith, c.loop-given-test.false) in
    (l.invariant.front ∙ ap (λ n. holding_of (take n c.args.refs.now)) none, l.invariant.chain)
