use Rattle.lwkt_plain.proofs.ShelfLemmas.{grown_lists, lists_more}
use Rattle.lwkt_plain.proofs.TableLemmas.{named_known}
use Rattle.lwkt_plain.proofs.shelves.Shelf.renumber.Goals as goal

pub keep-requires-clause-known : goal.keep-requires-clause-known
keep-requires-clause-known g c = named_known c.renumber.new.table.parts.items c.args.parts.now c.renumber.new.numbers.items c.in_ok-renumber.ensures.named

pub returns-clause-lists : goal.returns-clause-lists
returns-clause-lists g c =
    let s = c.args.self.now in
    let mid = record s { table = c.renumber.new.table; numbers = c.renumber.new.numbers } in
    lists_more s mid c.keep.new.self (grown_lists g.P.Part.hash_of s c.renumber.new.table c.renumber.new.numbers c.requires.lists c.in_ok-renumber.ensures.more) c.in_ok-keep.ensures.more
