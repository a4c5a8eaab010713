use Rattle.std.proofs.Common.{Bool, sym, subst}
use Rattle.lwkt_base.specs.declared.names.Mode.{Mode}
use Rattle.lwkt_base.specs.declared.words.Decision.TheVariants.{Take}
use Rattle.lwkt_bank.specs.Plays.{Amid, Exchanges, TakesHands}
use Rattle.lwkt_bank.specs.Seats.{Decides}
use Rattle.lwkt_bank.proofs.CallMoves.{take_asks, share_asks}
use Rattle.lwkt_bank.proofs.steps.swing.Goals as goal

pub compare_exchange-requires : goal.compare_exchange-requires
compare_exchange-requires c =
    let F : Mode → Type 0 = λ m. (alone : Bool) × Decides c.args.old m alone (Take c.args.new) in
    take_asks c.args.bank.now c.args.seat.now c.args.tok.0 c.requires.of c.requires.there c.word_of_token-word.result c.word_of_token-word.ensures c.args.old c.args.new (subst F c.in-Exclusive.is c.requires.decided) c.requires.few

pub compare_exchange-requires-in-Shared : goal.compare_exchange-requires-in-Shared
compare_exchange-requires-in-Shared c =
    let F : Mode → Type 0 = λ m. (alone : Bool) × Decides c.args.old m alone (Take c.args.new) in
    share_asks c.args.bank.now c.args.seat.now c.args.tok.0 c.requires.of c.requires.there c.word_of_token-word.result c.word_of_token-word.ensures c.args.old c.args.new (subst F c.in-Shared.is c.requires.decided) c.requires.free c.requires.few

pub returns-in-Exclusive-clause-exchanges : goal.returns-in-Exclusive-clause-exchanges
returns-in-Exclusive-clause-exchanges c =
    let v = c.args.seat.now.me.0 in
    let F : Mode → Type 0 = λ m. Amid v (λ between. Exchanges m c.args.old c.args.new between c.args.tok.0 v c.compare_exchange.result c.compare_exchange.new.seat.me.0) in
    subst F (sym c.in-Exclusive.is) (c.compare_exchange.ensures.2 c.args.tok.0 c.word_of_token-word.ensures).0

pub returns-in-Exclusive-clause-hands : goal.returns-in-Exclusive-clause-hands
returns-in-Exclusive-clause-hands c =
    let F : Mode → Type 0 = λ m. TakesHands m c.args.old c.args.tok.0 c.compare_exchange.result c.args.seat.now.me c.compare_exchange.new.seat.me in
    let x = c.compare_exchange.ensures.2 c.args.tok.0 c.word_of_token-word.ensures in
    subst F (sym c.in-Exclusive.is) (x.1, x.2)

pub returns-in-Shared-clause-exchanges : goal.returns-in-Shared-clause-exchanges
returns-in-Shared-clause-exchanges c =
    let v = c.args.seat.now.me.0 in
    let F : Mode → Type 0 = λ m. Amid v (λ between. Exchanges m c.args.old c.args.new between c.args.tok.0 v c.compare_exchange-in-Shared.result c.compare_exchange-in-Shared.new.seat.me.0) in
    subst F (sym c.in-Shared.is) (c.compare_exchange-in-Shared.ensures.2.1 c.args.tok.0 c.word_of_token-word.ensures)

pub returns-in-Shared-clause-hands : goal.returns-in-Shared-clause-hands
returns-in-Shared-clause-hands c =
    let F : Mode → Type 0 = λ m. TakesHands m c.args.old c.args.tok.0 c.compare_exchange-in-Shared.result c.args.seat.now.me c.compare_exchange-in-Shared.new.seat.me in
    subst F (sym c.in-Shared.is) c.compare_exchange-in-Shared.ensures.2.0
