use Rattle.std.proofs.Common.{ℕ, ◌<◌, refl, sym, subst}
use Rattle.std.specs.Prelude.{bit_or}
use mathlib.Core.Option.{none}
use Rattle.atomic_table.specs.Table.{step, Allows}
use Rattle.lwkt_base.specs.MessageWord.{message_word}
use Rattle.lwkt_msg.specs.Views.{at, who, requested}
use Rattle.lwkt_msg.specs.Deeds as deed
use Rattle.lwkt_msg.specs.Ledger.{Ledger}
use Rattle.lwkt_msg.specs.Plays.{requests}
use Rattle.lwkt_msg.proofs.Revoking.{request_allowed}
use Rattle.lwkt_msg.proofs.Sitting.{sat_alike, word_inside}
use Rattle.lwkt_msg.proofs.steps.request.Goals as goal

pub fetch_or-requires : goal.fetch_or-requires
fetch_or-requires c =
    let sat = c.requires.sat in
    let z = c.args.top.now.table_id in
    let own = c.requires.own in
    let F : ℕ → Type 0 = λ i. (i < z.words) × Allows (Ledger c.args.top.now.key) z.slots c.args.place.now.id c.args.place.now.me i (λ n. bit_or n 4) (requests (step z.slots i 4 0 none) c.args.place.now.me) in
    let allowed = subst F (sym c.word_of_message.ensures) (word_inside c.args.place.now z c.args.cpu c.args.m sat c.requires.table c.requires.exists, request_allowed c.args.top.now.key c.args.place.now.id c.args.place.now.me c.args.cpu c.args.m sat.kind c.requires.exists z.slots own.0 own.1) in
    (c.requires.table, allowed.0, allowed.1)

pub returns-clause-sat : goal.returns-clause-sat
returns-clause-sat c =
    let m : ℕ = c.args.m in
    let asked = c.fetch_or.ensures.2 m c.word_of_message.ensures in
    sat_alike c.args.place.now c.fetch_or.new.seat c.args.cpu m (requested (at c.args.place.now.me.0 m)) asked.0.view_is.0 (deed.requests (who c.args.place.now.me.0) m (message_word asked.0.met)) c.requires.sat c.fetch_or.ensures.0 asked.0.view_is.1.1 (record { had = refl; away = refl; taken = refl; got = refl }) asked.1

pub returns-clause-view : goal.returns-clause-view
returns-clause-view c = (c.fetch_or.ensures.2 c.args.m c.word_of_message.ensures).0
