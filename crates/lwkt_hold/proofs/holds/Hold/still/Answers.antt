use Rattle.std.proofs.Common.{◌≡◌, ◌<◌, eqb, List, length, get_or, ap, sym, ◌∙◌, subst, arith}
use Rattle.std.specs.Prelude.{All}
use Rattle.std.proofs.lemmas.Bool.{eqb-true, eqb-false}
use Rattle.std.proofs.lemmas.List.Elements.{All-get_or}
use Rattle.lwkt_base.specs.declared.names.Ref.{Ref}
use Rattle.lwkt_bank.specs.Seats.{bank_of, tokens_of}
use Rattle.lwkt_hold.proofs.TakeMoves.{unused, looked_kept}
use Rattle.lwkt_hold.proofs.StillMoves.{looked_stays, looked_unseen, looked_same, refused_again}
use Rattle.lwkt_hold.proofs.holds.Hold.still.Goals as goal

pub word-found-requires-clause-there : goal.word-found-requires-clause-there
word-found-requires-clause-there c =
    let P : Ref → Type 0 = λ r. r.tok.0 < tokens_of (bank_of c.args.self.now.seat) in
    let F : List Ref → Type 0 = λ xs. All P xs in
    let same : length c.refs-refs.result.now ≡ length c.args.list.now = ap length c.refs-refs.ensures.value in
    let within : c.args.at < length c.refs-refs.result.now = omega (arith, c.requires.within, same) in
    All-get_or P c.refs-refs.result.now c.args.at unused within (subst F (sym c.refs-refs.ensures.value) c.requires.there)

pub returns-clause-stays : goal.returns-clause-stays
returns-clause-stays c =
    let w = c.word-found in
    let same : length c.refs-refs.result.now ≡ length c.args.list.now = ap length c.refs-refs.ensures.value in
    let within : c.args.at < length c.refs-refs.result.now = omega (arith, c.requires.within, same) in
    looked_stays c.args.self.now.seat w.new.self c.refs-refs.result.now c.args.list.now c.args.at unused w.result c.args.word (eqb w.result c.args.word) c.refs-refs.ensures.value within w.ensures (eqb-true w.result c.args.word) (eqb-false w.result c.args.word)

pub returns-clause-refuses : goal.returns-clause-refuses
returns-clause-refuses c = λ on is. refused_again c.args.self.now.seat c.word-found.new.self c.args.list.now c.args.at c.args.word (eqb c.word-found.result c.args.word) (returns-clause-stays c) on is

pub returns-clause-ran : goal.returns-clause-ran
returns-clause-ran c = looked_unseen c.args.self.now.seat c.word-found.new.self (get_or c.refs-refs.result.now c.args.at unused).tok.0 c.word-found.result c.word-found.ensures

pub returns-clause-empty : goal.returns-clause-empty
returns-clause-empty c = looked_kept c.args.self.now.seat c.word-found.new.self (get_or c.refs-refs.result.now c.args.at unused).tok.0 c.word-found.result c.word-found.ensures ∙ c.requires.empty

pub returns-clause-rows : goal.returns-clause-rows
returns-clause-rows c = looked_same c.args.self.now.seat c.word-found.new.self (get_or c.refs-refs.result.now c.args.at unused).tok.0 c.word-found.result c.word-found.ensures
