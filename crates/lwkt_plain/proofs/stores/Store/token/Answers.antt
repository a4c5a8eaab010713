use Rattle.std.proofs.Common.{◌<◌, ◌≤◌, ◌≡◌, length, arith}
use Rattle.lwkt_plain.specs.Stores.{state_of}
use Rattle.lwkt_plain.proofs.StoreLemmas.{code_of, kept_there, tokens_kept}
use Rattle.lwkt_plain.proofs.stores.Store.token.Goals as goal

pub code-requires-clause-there : goal.code-requires-clause-there
code-requires-clause-there c = kept_there c.args.self.now c.args.at c.requires.there

pub bounds-code-0 : goal.bounds-code-0
bounds-code-0 c =
    let s = c.args.self.now in
    let long : length c.code.result.now ≡ 4 = (code_of s c.args.at c.code.result.now c.requires.store (kept_there s c.args.at c.requires.there) c.code.ensures).long in
    omega (arith, long)

pub part-requires-clause-there : goal.part-requires-clause-there
part-requires-clause-there c = let s = c.args.self.now in (code_of s c.args.at c.code.result.now c.requires.store (kept_there s c.args.at c.requires.there) c.code.ensures).known.tokens

pub returns-then-t-width : goal.returns-then-t-width
returns-then-t-width c =
    let s = c.args.self.now in
    let count : length (state_of s c.args.at).tokens ≡ length s.tokens.numbers.items = tokens_kept s c.args.at c.requires.store (kept_there s c.args.at c.requires.there) in
    omega (arith, count)
