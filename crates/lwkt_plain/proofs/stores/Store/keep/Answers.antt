use Rattle.std.proofs.Common.{refl}
use Rattle.lwkt_plain.proofs.StoreMoves.{store_kept}
use Rattle.lwkt_plain.proofs.stores.Store.keep.Goals as goal

pub returns-clause-store : goal.returns-clause-store
returns-clause-store c = (store_kept c.args.self.now c.number.new.self _ c.in_ok-number.number c.requires.store c.requires.sound refl c.in_ok-number.ensures.codes c.in_ok-number.ensures.width c.in_ok-number.ensures.numbered).0

pub returns-clause-kept : goal.returns-clause-kept
returns-clause-kept c = (store_kept c.args.self.now c.number.new.self _ c.in_ok-number.number c.requires.store c.requires.sound refl c.in_ok-number.ensures.codes c.in_ok-number.ensures.width c.in_ok-number.ensures.numbered).1
