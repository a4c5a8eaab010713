-- What the events of asks need.
use Rattle.std.proofs.Common.{◌≡◌, ◌≢◌, ◌<◌, ◌≤◌, ◌+◌, ◌-◌, ◌^◌, ℕ, zero, suc, List, [], ◌∷◌, ◌++◌, length, get_or, refl, ap, sym, ◌∙◌, subst, arith, Option, Some, None, Bool, true, false}
use Rattle.std.specs.Prelude.{slice_get, slice_index, All, IsSomeAnd, if◌then◌else◌, ◌==◌, ◌&&◌, not, nat_le, nat_lt, option_and_then, unwrap_or, is_some, sum}
use Rattle.std.specs.Option.{option_map_or}
use Rattle.std.proofs.lemmas.Bool.{eqb-true, eqb-false, leb-false, ltb-false, false≢true}
use Rattle.std.proofs.lemmas.Option.{slice_get_within, none-some, get_or_from_slice_get}
use Rattle.lwkt_base.specs.declared.names.CpuId.{CpuId}
use Rattle.lwkt_base.specs.declared.names.TokId.{TokId}
use Rattle.lwkt_base.specs.declared.names.Mode.{Mode}
use Rattle.lwkt_base.specs.declared.names.Mode.TheVariants.{Exclusive, Shared}
use Rattle.lwkt_base.specs.declared.names.Ref.{Ref}
use Rattle.lwkt_base.specs.declared.faults.Fault.{Fault}
use Rattle.lwkt_base.specs.declared.laws.Law.{Law}
use Rattle.lwkt_base.specs.declared.laws.Law.TheVariants.{Any, Sum, Order, Cap, Tally, Len}
use Rattle.lwkt_base.specs.declared.limits.TheConstants.{CPU_LIMIT, LIST_LIMIT, RECORD_LIMIT}
use Rattle.lwkt_base.specs.Law.{IsTallied}
use Rattle.lwkt_base.specs.Refs.{names, first_mode}
use Rattle.lwkt_core.specs.declared.tokens.Token.{Token}
use Rattle.lwkt_core.specs.declared.events.Event.{Event}
use Rattle.lwkt_core.specs.declared.events.Event.TheVariants.{Mark, Write, WriteBlob}
use Rattle.lwkt_core.specs.declared.events.Place.{Place}
use Rattle.lwkt_core.specs.declared.events.Place.TheVariants.{AtToken}
use Rattle.lwkt_core.specs.Events.{cpu_of, place_of, adds_reference}
use Rattle.lwkt_core.specs.Machine.{machine, Needs, PlaceNeeds}
use Rattle.lwkt_core.specs.Tokens.{MayWrite, HasRecord, IsSafeToken, TokenNeeds}
use Rattle.lwkt_plain.specs.Sound.{AreSoundTokens, AreHeld, IsSoundList}
use Rattle.lwkt_plain.specs.TokenAsks.{is_upgrade, get_refusal, is_tally, has_tally, value_of, unless_cell, unless_exclusive, add_refusal, record_of, record_refusal}
use Rattle.lwkt_plain.proofs.TokenSteps.{each_at}
use Rattle.lwkt_plain.proofs.AskMoves.{exclusive_holder}

-- an event that takes no reference
pub plain_needs : (tokens : List Token) (e : Event) (i : ℕ) (tok : Token) → place_of e ≡ AtToken i → adds_reference e ≡ false → cpu_of e < CPU_LIMIT → slice_get tokens i ≡ Some tok → TokenNeeds tok e → Needs (machine CPU_LIMIT tokens []) e
plain_needs tokens e i tok place adds here at needs = record {
  processor = here;
  place = subst (λ (p : Place). PlaceNeeds (machine CPU_LIMIT tokens []) e p) (sym place) (subst (λ (o : Option Token). IsSomeAnd o (λ t. TokenNeeds t e)) (sym at) needs);
  room = λ more. absurd (false≢true (sym adds ∙ more));
}

pub mark_needs : (tokens : List Token) (cpu : CpuId) (t : TokId) (tok : Token) → cpu.0 < CPU_LIMIT → slice_get tokens t.0 ≡ Some tok → Needs (machine CPU_LIMIT tokens []) (Mark cpu t)
mark_needs tokens cpu t tok here at = plain_needs tokens (Mark cpu t) t.0 tok refl refl here at tt

-- tests that all fail
pub three_not : (a b c : Bool) (x y z : Fault) → (if a then Some x else (if b then Some y else (if c then Some z else None))) ≡ None → (a ≡ false) × (b ≡ false) × (c ≡ false)
three_not true b c x y z none = absurd (none-some x (sym none))
three_not false true c x y z none = absurd (none-some y (sym none))
three_not false false true x y z none = absurd (none-some z (sym none))
three_not false false false x y z none = (refl, refl, refl)

two_not : (a : Bool) (x : Fault) (o : Option Fault) → (if a then Some x else o) ≡ None → (a ≡ false) × (o ≡ None)
two_not true x o none = absurd (none-some x (sym none))
two_not false x o none = (refl, none)

-- a reference that is asked for
pub get_allowed : (tokens : List Token) (refs : List Ref) (r : Ref) → get_refusal tokens refs r ≡ None → (r.tok.0 < length tokens) × (length refs ≢ LIST_LIMIT) × (is_upgrade r.mode (first_mode refs r.tok.0) ≡ false)
get_allowed tokens refs r none =
    let parts = three_not (nat_le (length tokens) r.tok.0) (length refs == LIST_LIMIT) (is_upgrade r.mode (first_mode refs r.tok.0)) _ _ _ none in
    (leb-false (length tokens) r.tok.0 parts.0, eqb-false (length refs) LIST_LIMIT parts.1, parts.2)

-- a cell that is there, of a token that a list has exclusively
exclusive_of : (first : Option Mode) (shared : Fault) (next : Option Fault) → unless_exclusive first shared next ≡ None → (first ≡ Some Exclusive) × (next ≡ None)
exclusive_of None shared next none = absurd (none-some _ (sym none))
exclusive_of (Some Shared) shared next none = absurd (none-some _ (sym none))
exclusive_of (Some Exclusive) shared next none = (refl, none)

some_is : {A : Type 0} (o : Option A) → is_some o ≡ true → (x : A) × (o ≡ Some x)
some_is None is = absurd (false≢true is)
some_is (Some x) is = (x, refl)

some_if : (b : Bool) (o : Option Fault) (x : Fault) → (if b then o else Some x) ≡ None → (b ≡ true) × (o ≡ None)
some_if true o x none = (refl, none)
some_if false o x none = absurd (none-some x (sym none))

pub cell_there : (tokens : List Token) (tok : TokId) (cell : ℕ) (next : Option Fault) → unless_cell tokens tok cell next ≡ None → ((v : ℕ) × (value_of tokens tok cell ≡ Some v)) × (next ≡ None)
cell_there tokens tok cell next none =
    let one = two_not (nat_le (length tokens) tok.0) _ _ none in
    let two = some_if (is_some (value_of tokens tok cell)) next _ one.1 in
    (some_is (value_of tokens tok cell) two.0, two.1)

token_there : (o : Option Token) (cell v : ℕ) → option_and_then (λ (t : Token). slice_get t.row cell) o ≡ Some v → (t : Token) × ((o ≡ Some t) × (slice_get t.row cell ≡ Some v))
token_there None cell v is = absurd (none-some v is)
token_there (Some t) cell v is = (t, (refl, is))

may_write : (law : Law) (old value : ℕ) → is_tally law ≡ false → MayWrite law old value
may_write Any old value isnt = tt
may_write Sum old value isnt = tt
may_write Order old value isnt = tt
may_write Cap old value isnt = tt
may_write Tally old value isnt = absurd (false≢true (sym isnt))
may_write Len old value isnt = tt

may_raise : (law : Law) (old value : ℕ) → old ≤ value → MayWrite law old value
may_raise Any old value le = tt
may_raise Sum old value le = tt
may_raise Order old value le = tt
may_raise Cap old value le = tt
may_raise Tally old value le = le
may_raise Len old value le = tt

not_if : (b : Bool) (x : Fault) → (if b then Some x else None) ≡ None → b ≡ false
not_if true x none = absurd (none-some x (sym none))
not_if false x none = refl

pub write_needs : (tokens : List Token) (cpu : CpuId) (refs : List Ref) (tok : TokId) (cell value : ℕ) (shared only : Fault) → cpu.0 < CPU_LIMIT → AreHeld cpu.0 refs tokens → unless_cell tokens tok cell (unless_exclusive (first_mode refs tok.0) shared (if has_tally tokens tok then Some only else None)) ≡ None → Needs (machine CPU_LIMIT tokens []) (Write cpu tok cell value)
write_needs tokens cpu refs tok cell value shared only here held none =
    let there = cell_there tokens tok cell (unless_exclusive (first_mode refs tok.0) shared (if has_tally tokens tok then Some only else None)) none in
    let t = token_there (slice_get tokens tok.0) cell there.0.0 there.0.1 in
    let first = exclusive_of (first_mode refs tok.0) shared (if has_tally tokens tok then Some only else None) there.1 in
    let untallied : has_tally tokens tok ≡ false = not_if (has_tally tokens tok) only first.1 in
    let law : is_tally t.0.law ≡ false = sym (ap (λ (o : Option Token). option_map_or (λ (x : Token). is_tally x.law) o false) t.1.0) ∙ untallied in
    plain_needs tokens (Write cpu tok cell value) tok.0 t.0 refl refl here t.1.0
    (exclusive_holder tokens cpu.0 tok.0 refs t.0 held first.0 t.1.0, slice_get_within t.0.row cell there.0.0 t.1.1, may_write t.0.law (slice_index t.0.row cell) value law)

-- a Tally token has one cell
tally_row : (law : Law) (param : ℕ) (row tallies : List ℕ) → is_tally law ≡ true → IsTallied law param row tallies → row ≡ (param + sum tallies) ∷ []
tally_row Tally param row tallies is tallied = tallied
tally_row Any param row tallies is tallied = absurd (false≢true is)
tally_row Sum param row tallies is tallied = absurd (false≢true is)
tally_row Order param row tallies is tallied = absurd (false≢true is)
tally_row Cap param row tallies is tallied = absurd (false≢true is)
tally_row Len param row tallies is tallied = absurd (false≢true is)

tally_there : (o : Option Token) → option_map_or (λ (x : Token). is_tally x.law) o false ≡ true → (t : Token) × ((o ≡ Some t) × (is_tally t.law ≡ true))
tally_there None is = absurd (false≢true is)
tally_there (Some t) is = (t, (refl, is))

not_not : (b : Bool) (x : Fault) (o : Option Fault) → (if not b then Some x else o) ≡ None → (b ≡ true) × (o ≡ None)
not_not true x o none = (refl, none)
not_not false x o none = absurd (none-some x (sym none))

pub add_needs : (tokens : List Token) (cpu : CpuId) (refs : List Ref) (tok : TokId) (more : ℕ) → cpu.0 < CPU_LIMIT → AreSoundTokens tokens → AreHeld cpu.0 refs tokens → add_refusal tokens refs tok (unwrap_or (value_of tokens tok 0) 0 + more) ≡ None → Needs (machine CPU_LIMIT tokens []) (Write cpu tok 0 (unwrap_or (value_of tokens tok 0) 0 + more))
add_needs tokens cpu refs tok more here sound held none =
    let sum = unwrap_or (value_of tokens tok 0) 0 + more in
    let one = two_not (nat_le (length tokens) tok.0) _ _ none in
    let first = exclusive_of (first_mode refs tok.0) _ _ one.1 in
    let law = not_not (has_tally tokens tok) _ _ first.1 in
    let t = tally_there (slice_get tokens tok.0) law.0 in
    let safe = each_at (IsSafeToken CPU_LIMIT) tokens tok.0 t.0 sound.safe.each_token t.1.0 in
    let row = tally_row t.0.law t.0.param t.0.row t.0.tallies t.1.1 safe.tallied in
    let long : length t.0.row ≡ 1 = ap length row in
    let value : value_of tokens tok 0 ≡ slice_get t.0.row 0 = ap (λ (o : Option Token). option_and_then (λ (x : Token). slice_get x.row 0) o) t.1.0 in
    let cell : slice_get t.0.row 0 ≡ Some (slice_index t.0.row 0) = ap (λ (xs : List ℕ). slice_get xs 0) row ∙ sym (ap (λ (xs : List ℕ). Some (slice_index xs 0)) row) in
    let old : unwrap_or (value_of tokens tok 0) 0 ≡ slice_index t.0.row 0 = ap (λ (o : Option ℕ). unwrap_or o 0) (value ∙ cell) in
    plain_needs tokens (Write cpu tok 0 sum) tok.0 t.0 refl refl here t.1.0
    (exclusive_holder tokens cpu.0 tok.0 refs t.0 held first.0 t.1.0, omega (arith, long), may_raise t.0.law (slice_index t.0.row 0) sum (omega (arith, old)))

-- a record that is there, of a token that a list has exclusively
record_there : (o : Option Token) → is_some (option_and_then (λ (t : Token). t.blob) o) ≡ true → (t : Token) × ((o ≡ Some t) × (is_some t.blob ≡ true))
record_there None is = absurd (false≢true is)
record_there (Some t) is = (t, (refl, is))

pub record_needs : (tokens : List Token) (cpu : CpuId) (refs : List Ref) (tok : TokId) (bytes : List ℕ) (long : Fault) → cpu.0 < CPU_LIMIT → AreHeld cpu.0 refs tokens → record_refusal tokens refs tok (if nat_lt RECORD_LIMIT (length bytes) then Some long else None) ≡ None → Needs (machine CPU_LIMIT tokens []) (WriteBlob cpu tok bytes)
record_needs tokens cpu refs tok bytes long here held none =
    let one = two_not (nat_le (length tokens) tok.0) _ _ none in
    let two = not_not (is_some (record_of tokens tok)) _ _ one.1 in
    let first = exclusive_of (first_mode refs tok.0) _ _ two.1 in
    let short : length bytes ≤ RECORD_LIMIT = ltb-false RECORD_LIMIT (length bytes) (not_if (nat_lt RECORD_LIMIT (length bytes)) long first.1) in
    let t = record_there (slice_get tokens tok.0) two.0 in
    plain_needs tokens (WriteBlob cpu tok bytes) tok.0 t.0 refl refl here t.1.0 (exclusive_holder tokens cpu.0 tok.0 refs t.0 held first.0 t.1.0, t.1.1, short)

pub no_overflow : (tokens : List Token) (refs : List Ref) (tok : TokId) (n : ℕ) → add_refusal tokens refs tok n ≡ None → n < 2 ^ 64
no_overflow tokens refs tok n none =
    let one = two_not (nat_le (length tokens) tok.0) _ _ none in
    let first = exclusive_of (first_mode refs tok.0) _ _ one.1 in
    let law = not_not (has_tally tokens tok) _ _ first.1 in
    leb-false (2 ^ 64) n (not_if (nat_le (2 ^ 64) n) _ law.1)
