use Rattle.std.proofs.Common.{sym, ◌≡◌, ◌<◌, ℕ, List, length, subst}
use Rattle.std.specs.Prelude.{slice_index}
use Rattle.lwkt_base.specs.declared.laws.Law.TheVariants.{Tally}
use Rattle.lwkt_bank.specs.declared.views.Plan.{Plan}
use Rattle.lwkt_bank.specs.declared.kept.Kept.{Kept}
use Rattle.lwkt_bank.specs.declared.rules.Key.{Key}
use Rattle.lwkt_bank.specs.Rule.{plan_at}
use Rattle.lwkt_bank.specs.Closing.{AreRead, Gathering, kept_by}
use Rattle.lwkt_bank.specs.Seats.{id_of_desk}
use Rattle.lwkt_bank.proofs.KeptMoves.{gathering_none, bank_fits, bank_closed}
use Rattle.lwkt_bank.proofs.clerks.ClerkDesk.close_seats.Goals as goal

pub gather-requires-clause-begin : goal.gather-requires-clause-begin
gather-requires-clause-begin c =
    let b = c.args.self in
    let v = b.clerk.me.0 in
    let seats = c.args.seats.items in
    let F : Key → Type 0 = λ k. Gathering (record { table = b.table.shared.table_id; plans = k.plans.items }) v seats seats c.args.room.kept.items 0 in
    let G : List Kept → Type 0 = λ ks. Gathering (id_of_desk b) v seats seats ks 0 in
    subst F (sym b.key_is) (subst G (sym c.requires.room.none.0) (gathering_none (id_of_desk b) v seats c.requires.desk.0 c.requires.desk.1 b.informed c.requires.ready b.clean))

pub values-requires-clause-fits : goal.values-requires-clause-fits
values-requires-clause-fits c =
    let b = c.args.self in
    let F : List Plan → List ℕ → List Kept → Type 0 = λ ps ws ks. ((k : ℕ) → slice_index ws k < 18446744073709551616) → (tok : ℕ) → tok < length ps → (plan_at ps tok).law ≡ Tally → (cpu : ℕ) → kept_by ks tok cpu < 18446744073709551616 in
    let ps = c.as_slice.result.now in
    let ws = c.as_slice-2.result.now in
    subst (λ ks. F ps ws ks) (sym c.as_slice-4.ensures.value) (subst (λ x. F ps x c.gather.new.kept.items) (sym c.as_slice-2.ensures.value) (subst (λ x. F x c.last_words-words.result.0.items c.gather.new.kept.items) (sym c.as_slice.ensures.value)
    (bank_fits b c.gather.new.clerk.id c.gather.new.clerk.me.0 c.last_words-words.result.0.items c.last_words-words.result.1.items c.args.seats.items c.gather.new.kept.items c.last_words-words.ensures.left c.gather.ensures.done c.requires.all)))

pub returns : goal.returns
returns c =
    let b = c.args.self in
    let F : List Plan → List ℕ → List (List ℕ) → List Kept → Type 0 = λ ps ws ss ks. AreRead ps b.key.cpus ws ss ks c.values.result (length ps) in
    let ks = c.as_slice-4.result.now in
    let ss = c.as_slice-3.result.now in
    let ws = c.as_slice-2.result.now in
    let words = c.last_words-words.result.0.items in
    let slots = c.last_words-words.result.1.items in
    let read : F b.key.plans.items words slots c.gather.new.kept.items =
    subst (λ x. F b.key.plans.items words slots x) c.as_slice-4.ensures.value (subst (λ x. F b.key.plans.items words x ks) c.as_slice-3.ensures.value (subst (λ x. F b.key.plans.items x ss ks) c.as_slice-2.ensures.value (subst (λ x. F x ws ss ks) c.as_slice.ensures.value c.values.ensures))) in
    bank_closed b c.gather.new.clerk.id c.gather.new.clerk.me.0 words slots c.args.seats.items c.gather.new.kept.items c.last_words-words.ensures.left c.gather.ensures.done c.requires.all c.values.result read
