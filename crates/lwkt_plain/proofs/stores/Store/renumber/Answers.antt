use Rattle.lwkt_plain.specs.declared.states.Plain.{Plain}
use Rattle.lwkt_plain.proofs.StoreMoves.{AreMoved, AreShelves, store_moved}
use Rattle.lwkt_plain.proofs.stores.Store.renumber.Goals as goal

pub returns-clause-store : goal.returns-clause-store
returns-clause-store c =
    let s = c.args.self.now in
    let work : Plain = s.work in
    let moved : AreMoved s c.renumber.new.self c.renumber-2.new.self c.renumber-3.new.self c.renumber-4.new.self = record {
      of_tokens = c.in_ok-renumber.ensures.lists;
      of_letters = c.in_ok-renumber-2.ensures.lists;
      of_mails = c.in_ok-renumber-3.ensures.lists;
      of_cpus = c.in_ok-renumber-4.ensures.lists;
    } in
    let shelves : AreShelves c.renumber.new.self c.renumber-2.new.self c.renumber-3.new.self c.renumber-4.new.self work = record {
      tokens = c.in_ok-renumber.ensures.shelf;
      letters = c.in_ok-renumber-2.ensures.shelf;
      mails = c.in_ok-renumber-3.ensures.shelf;
      cpus = c.in_ok-renumber-4.ensures.shelf;
    } in
    (store_moved s work c.renumber.new.self c.renumber-2.new.self c.renumber-3.new.self c.renumber-4.new.self moved shelves c.requires.base.states).0

pub returns-clause-kept : goal.returns-clause-kept
returns-clause-kept c =
    let s = c.args.self.now in
    let work : Plain = s.work in
    let moved : AreMoved s c.renumber.new.self c.renumber-2.new.self c.renumber-3.new.self c.renumber-4.new.self = record {
      of_tokens = c.in_ok-renumber.ensures.lists;
      of_letters = c.in_ok-renumber-2.ensures.lists;
      of_mails = c.in_ok-renumber-3.ensures.lists;
      of_cpus = c.in_ok-renumber-4.ensures.lists;
    } in
    let shelves : AreShelves c.renumber.new.self c.renumber-2.new.self c.renumber-3.new.self c.renumber-4.new.self work = record {
      tokens = c.in_ok-renumber.ensures.shelf;
      letters = c.in_ok-renumber-2.ensures.shelf;
      mails = c.in_ok-renumber-3.ensures.shelf;
      cpus = c.in_ok-renumber-4.ensures.shelf;
    } in
    (store_moved s work c.renumber.new.self c.renumber-2.new.self c.renumber-3.new.self c.renumber-4.new.self moved shelves c.requires.base.states).1
