use Rattle.std.proofs.Common.{rules}
use Rattle.lwkt_ffi.proofs.arguments.ranged.Goals as goal

pub returns-in_err-range-clause-only : goal.returns-in_err-range-clause-only
returns-in_err-range-clause-only c = λ options chosen rendering rises whole.
    let read = c.range_of.ensures.only options.first options.last chosen.1 in
    search (rules, read)
