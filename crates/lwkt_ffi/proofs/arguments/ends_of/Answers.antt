use Rattle.std.proofs.Common.{rules, arith, ◌<◌}
use Rattle.std.proofs.lemmas.Str.Pattern.{split_once_first, strip_prefix_char}
use Rattle.lwkt_ffi.proofs.arguments.ends_of.Goals as goal

pub returns-in_err-to-clause-only : goal.returns-in_err-to-clause-only
returns-in_err-to-clause-only c = λ none to is.
    let small : 46 < 128 = omega arith in
    let parts = split_once_first 46 c.args.text.now c.split_once.result c.split_once.ensures.cases small in
    let stripped = strip_prefix_char 46 c.in_ok-from.rest.now c.strip_prefix.result c.strip_prefix.ensures.cases small in
    search (rules, parts, stripped)
