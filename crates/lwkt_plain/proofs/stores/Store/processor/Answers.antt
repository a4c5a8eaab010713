use Rattle.std.proofs.Common.{◌≡◌, length, arith}
use Rattle.lwkt_plain.proofs.StoreLemmas.{code_of, kept_there}
use Rattle.lwkt_plain.proofs.stores.Store.processor.Goals as goal

pub code-requires-clause-there : goal.code-requires-clause-there
code-requires-clause-there c = kept_there c.args.self.now c.args.at c.requires.there

pub bounds-code-3 : goal.bounds-code-3
bounds-code-3 c =
    let s = c.args.self.now in
    let long : length c.code.result.now ≡ 4 = (code_of s c.args.at c.code.result.now c.requires.store (kept_there s c.args.at c.requires.there) c.code.ensures).long in
    omega (arith, long)

pub part-requires-clause-there : goal.part-requires-clause-there
part-requires-clause-there c = let s = c.args.self.now in (code_of s c.args.at c.code.result.now c.requires.store (kept_there s c.args.at c.requires.there) c.code.ensures).known.cpus
