use Rattle.std.proofs.Common.{◌≡◌, ℕ, ◌<◌, ◌≤◌, length, arith, ap, subst, sym, ◌∙◌, slice_index_or, List}
use Rattle.lwkt_plain.specs.declared.states.Plain.{Plain}
use Rattle.lwkt_plain.specs.Forms.{form}
use Rattle.lwkt_plain.specs.Sound.{IsSound}
use Rattle.lwkt_plain.specs.Stores.{state_of, kept, form_turn, IsKept}
use Rattle.lwkt_plain.specs.Turns.{turn}
use Rattle.lwkt_plain.proofs.StoreLemmas.{first_at, first_long}
use Rattle.lwkt_plain.proofs.StoreMoves.{no_turn, some_turn, turned_by}
use Rattle.lwkt_plain.proofs.stores.Store.turn.Goals as goal

pub go_to-requires-clause-there : goal.go_to-requires-clause-there
go_to-requires-clause-there c =
    let s = c.args.self.now in
    let count : ℕ = length s.codes.index.links.items in
    omega (arith, c.requires.there, first_long count (state_of s))

pub returns-then-from-len-clause-turned : goal.returns-then-from-len-clause-turned
returns-then-from-len-clause-turned c =
    let s = c.args.self.now in
    let script = c.args.script.now in
    let at = c.args.at in
    let count : ℕ = length s.codes.index.links.items in
    let there : at < count = omega (arith, c.requires.there, first_long count (state_of s)) in
    let state : (d : Plain) → slice_index_or (kept s) at d ≡ state_of s at = λ d. first_at count (state_of s) at d there in
    let none : length c.go_to.new.self.work.cpus ≤ c.args.cpu = omega arith in
    let C : Plain → Type 0 = λ p. length p.cpus ≤ c.args.cpu in
    no_turn script (kept s) (kept c.go_to.new.self) at c.args.cpu c.in_ok-go_to.ensures.kept c.requires.there (λ d. subst C (c.in_ok-go_to.ensures.work ∙ sym (state d)) none)

pub returns-then-from-len-clause-few : goal.returns-then-from-len-clause-few
returns-then-from-len-clause-few c =
    let s = c.args.self.now in
    let script = c.args.script.now in
    let at = c.args.at in
    let count : ℕ = length s.codes.index.links.items in
    let there : at < count = omega (arith, c.requires.there, first_long count (state_of s)) in
    let state : (d : Plain) → slice_index_or (kept s) at d ≡ state_of s at = λ d. first_at count (state_of s) at d there in
    let few = c.requires.store.states.codes.few in
    omega arith

pub make_turn-requires-clause-sound : goal.make_turn-requires-clause-sound
make_turn-requires-clause-sound c =
    let s = c.args.self.now in
    let script = c.args.script.now in
    let at = c.args.at in
    let count : ℕ = length s.codes.index.links.items in
    let there : at < count = omega (arith, c.requires.there, first_long count (state_of s)) in
    let state : (d : Plain) → slice_index_or (kept s) at d ≡ state_of s at = λ d. first_at count (state_of s) at d there in
    subst IsSound (sym c.in_ok-go_to.ensures.work) (c.requires.store.states.sound at there)

pub returns-clause-turned : goal.returns-clause-turned
returns-clause-turned c =
    let s = c.args.self.now in
    let script = c.args.script.now in
    let at = c.args.at in
    let count : ℕ = length s.codes.index.links.items in
    let there : at < count = omega (arith, c.requires.there, first_long count (state_of s)) in
    let state : (d : Plain) → slice_index_or (kept s) at d ≡ state_of s at = λ d. first_at count (state_of s) at d there in
    let cpu = c.args.cpu in
    let here : cpu < length c.go_to.new.self.work.cpus = omega arith in
    let made = c.make_turn.new.self in
    let last = c.renumber.new.self in
    let same : kept last ≡ kept s = c.in_ok-renumber.ensures.kept ∙ (c.in_ok-make_turn.ensures.kept ∙ c.in_ok-go_to.ensures.kept) in
    let before : Plain = c.go_to.new.self.work in
    let work : last.work ≡ form_turn script before cpu = c.in_ok-renumber.ensures.work ∙ (c.in_ok-make_turn.ensures.work ∙ (ap (λ (n : ℕ). form (turn script before n)) c.from-2.ensures ∙ sym (some_turn script before cpu here))) in
    let leads : (d : Plain) → last.work ≡ form_turn script (slice_index_or (kept s) at d) cpu = λ d. work ∙ ap (λ (p : Plain). form_turn script p cpu) (c.in_ok-go_to.ensures.work ∙ sym (state d)) in
    turned_by script (kept s) (kept last) (kept c.keep.new.self) last.work at cpu c.in_ok-number.number same leads c.in_ok-number.ensures.kept
