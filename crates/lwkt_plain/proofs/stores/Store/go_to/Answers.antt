use Rattle.lwkt_plain.specs.declared.states.Plain.{Plain}
use Rattle.lwkt_plain.proofs.StoreMoves.{AreMoved, AreShelves, store_moved}
use Rattle.lwkt_plain.proofs.stores.Store.go_to.Goals as goal

pub returns-clause-store : goal.returns-clause-store
returns-clause-store c =
    let s = c.args.self.now in
    let work : Plain = record { tokens = c.go_to.new.parts; letters = c.go_to-2.new.parts; mails = c.go_to-3.new.parts; cpus = c.go_to-4.new.parts } in
    let moved : AreMoved s c.go_to.new.self c.go_to-2.new.self c.go_to-3.new.self c.go_to-4.new.self = record {
      of_tokens = c.in_ok-go_to.ensures.lists;
      of_letters = c.in_ok-go_to-2.ensures.lists;
      of_mails = c.in_ok-go_to-3.ensures.lists;
      of_cpus = c.in_ok-go_to-4.ensures.lists;
    } in
    let shelves : AreShelves c.go_to.new.self c.go_to-2.new.self c.go_to-3.new.self c.go_to-4.new.self work = record {
      tokens = c.in_ok-go_to.ensures.shelf;
      letters = c.in_ok-go_to-2.ensures.shelf;
      mails = c.in_ok-go_to-3.ensures.shelf;
      cpus = c.in_ok-go_to-4.ensures.shelf;
    } in
    (store_moved s work c.go_to.new.self c.go_to-2.new.self c.go_to-3.new.self c.go_to-4.new.self moved shelves c.requires.store.states).0

pub returns-clause-kept : goal.returns-clause-kept
returns-clause-kept c =
    let s = c.args.self.now in
    let work : Plain = record { tokens = c.go_to.new.parts; letters = c.go_to-2.new.parts; mails = c.go_to-3.new.parts; cpus = c.go_to-4.new.parts } in
    let moved : AreMoved s c.go_to.new.self c.go_to-2.new.self c.go_to-3.new.self c.go_to-4.new.self = record {
      of_tokens = c.in_ok-go_to.ensures.lists;
      of_letters = c.in_ok-go_to-2.ensures.lists;
      of_mails = c.in_ok-go_to-3.ensures.lists;
      of_cpus = c.in_ok-go_to-4.ensures.lists;
    } in
    let shelves : AreShelves c.go_to.new.self c.go_to-2.new.self c.go_to-3.new.self c.go_to-4.new.self work = record {
      tokens = c.in_ok-go_to.ensures.shelf;
      letters = c.in_ok-go_to-2.ensures.shelf;
      mails = c.in_ok-go_to-3.ensures.shelf;
      cpus = c.in_ok-go_to-4.ensures.shelf;
    } in
    (store_moved s work c.go_to.new.self c.go_to-2.new.self c.go_to-3.new.self c.go_to-4.new.self moved shelves c.requires.store.states).1
