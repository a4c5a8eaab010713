-- How many items and members the JSON reader's lists and maps stand for.
use Rattle.std.proofs.Common.{◌≡◌, ℕ, ◌≤◌, List, length, String, Global, ap, ◌∙◌, arith}
use Rattle.std.proofs.lemmas.List.{length-map}
use Rattle.lwkt_base.specs.declared.asks.Ask.{Ask}
use Rattle.lwkt_code.specs.declared.steps.Step.TheVariants.{Fixed}
use Rattle.lwkt_code.specs.Programs.{Program, listed_program}
use Rattle.serde_json.proofs.Views.{items_len-items_view, members_len-members_view}
use Rattle.serde_json.specs.Events.{items_len, members_len}
use Rattle.serde_json.specs.View.{items_view, members_view}
use Rattle.serde_json.specs.declared.value.Value.{Value}

pub items_counted : (items : List Value) → items_len (items_view items) ≡ length items
items_counted items = items_len-items_view items

pub members_counted : (members : List (String Global × Value)) → members_len (members_view members) ≡ length members
members_counted members = members_len-members_view members

-- the program of a list of asks is as long as they are
pub listed_few : (code : Program) (asks : List Ask) (repeat : ℕ) → code ≡ listed_program asks repeat → length asks ≤ 256 → length code.steps ≤ 768
listed_few code asks repeat is few =
    let e : length code.steps ≡ length asks = ap (λ (p : Program). length p.steps) is ∙ length-map asks (λ ask. Fixed ask) in
    omega arith
