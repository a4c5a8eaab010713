use Rattle.std.proofs.Common.{◌≡◌, is_some, codes, rules}
use Rattle.clap.specs.Words.{first_of}
use Rattle.lwkt_request.specs.Tasks.{rows_in}
use Rattle.lwkt_request.specs.Texts.{path_of}
use Rattle.lwkt_request.proofs.tasks.explore_in.Goals as goal

pub returns : goal.returns
returns c =
    let e = c.explored.ensures in
    let some : c.is_some.result ≡ is_some (path_of (first_of (codes "FILE") (rows_in c.args.matches.now))) = search rules in
    rw (c.is_on.ensures, c.is_on-2.ensures, c.value_in.ensures, c.value_in-2.ensures, c.value_in-3.ensures, c.value_in-4.ensures, c.value_in-5.ensures, c.value_in-6.ensures, c.is_on-3.ensures, c.is_on-4.ensures, c.is_on-5.ensures, c.is_on-6.ensures, some) at e
