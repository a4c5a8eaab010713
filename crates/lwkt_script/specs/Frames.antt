-- The sentences of a thread of version 3 that hold others (own): which places their steps take, and where these lead.
use Rattle.std.specs.Prelude.{ℕ, zero, suc, ◌+◌, min, List, codes, Bool, true, false, bytes_eq, if◌then◌else◌, Option, Some, None, option_map, unwrap_or}
use Rattle.serde_json.specs.Data.{Data, Items, no_items, item}
use Rattle.serde_json.specs.Find.{at, as_str, as_array}
use Rattle.serde_json.specs.View.{items_view}
use Rattle.lwkt_base.specs.declared.limits.TheConstants.{MOST_REPEATS}
use Rattle.lwkt_code.specs.declared.steps.Step.{Step}
use Rattle.lwkt_code.specs.declared.steps.Step.TheVariants.{Unless, Goto, Count, Again}
use Rattle.lwkt_code.specs.declared.steps.Test.TheVariants.{If, While}
use Rattle.lwkt_code.specs.declared.steps.Jump.TheVariants.{Else, Back, Break, Loop, End}
use Rattle.lwkt_script.specs.declared.frames.Frame.{Frame}
use Rattle.lwkt_script.specs.declared.scopes.Scope.{Scope}
use Rattle.lwkt_script.specs.Field.{has_items, number}
use Rattle.lwkt_script.specs.Formulas.{◌>>=◌}
use Rattle.lwkt_script.specs.Wish.{formula_at, simple_step}

-- the word of a sentence
abbrev pub sentence_word : Data → Option (List ℕ)
sentence_word d = at 0 d >>= as_str

-- item i, a list of sentences
abbrev pub block_at : ℕ → Data → Option Items
block_at i d = at i d >>= as_array

-- how many places the list takes that item i is
abbrev pub size_at : (Items → ℕ) → ℕ → Data → ℕ
size_at size i d = unwrap_or (option_map size (block_at i d)) 0

-- how many places a sentence of this word takes: one, or those of the lists in it with one more at its head, at its `else` and at its end
abbrev pub size_of : (Items → ℕ) → List ℕ → Data → ℕ
size_of size word d =
    if bytes_eq word (codes "if") then (if has_items 4 d then size_at size 2 d + size_at size 3 d + 3 else size_at size 2 d + 2) else (
    if bytes_eq word (codes "while") then size_at size 2 d + 2 else (
    if bytes_eq word (codes "times") then size_at size 2 d + 2 else (
    if bytes_eq word (codes "loop") then size_at size 1 d + 2 else 1)))

abbrev pub size_sum : (Data → ℕ) → Items → ℕ
size_sum size no_items = 0
size_sum size (item d ds) = size d + size_sum size ds

-- how many places a list of sentences takes, as far as 32 bits count: no thread has more
abbrev pub list_size : (Data → ℕ) → Items → ℕ
list_size size ds = min (size_sum size ds) 4294967295

-- how many places a sentence takes that stands in a list in which so many levels may stand
unfoldable pub size_one : ℕ → Data → ℕ
size_one zero d = 0
size_one (suc deep) d = unwrap_or (option_map (λ word. size_of (list_size (size_one deep)) word d) (sentence_word d)) 1

-- how many such a list takes
abbrev pub size_in : ℕ → Items → ℕ
size_in deep ds = list_size (size_one deep) ds

-- a sentence that holds others: its step, the list in it, the step and the list of its `else`, the step of its end, and where the lists stand
pub record Nest : Type 0 where
  pub head : Step
  pub body : Items
  pub other : Option (Step × Items)
  pub end : Step
  pub scope : Scope

-- the same of what the reader has
abbrev pub nest_of : Frame → Nest
nest_of f = record { head = f.head; body = items_view f.body.now.items; other = option_map (λ o. (o.0, items_view o.1.now.items)) f.other; end = f.end; scope = f.scope }

-- `if` at place i
abbrev pub if_alone : (Items → ℕ) → Scope → ℕ → Data → Option Nest
if_alone size scope i d = do
  c ← formula_at 1 d
  body ← block_at 2 d
  let end = i + size body + 1
  Some (record { head = Unless If c end; body = body; other = None; end = Goto End (end + 1); scope = scope })

-- `if` with `else`
abbrev pub if_else : (Items → ℕ) → Scope → ℕ → Data → Option Nest
if_else size scope i d = do
  c ← formula_at 1 d
  body ← block_at 2 d
  other ← block_at 3 d
  let behind = i + size body + 2
  let end = behind + size other
  Some (record { head = Unless If c behind; body = body; other = Some (Goto Else end, other); end = Goto End (end + 1); scope = scope })

abbrev pub if_frame : (Items → ℕ) → Scope → ℕ → Data → Option Nest
if_frame size scope i d = if has_items 4 d then if_else size scope i d else (if has_items 3 d then if_alone size scope i d else None)

-- where the steps of loop j at place i stand, which takes so many places beside its own two
abbrev pub in_loop : Scope → ℕ → ℕ → ℕ → Scope
in_loop scope i j n = record scope { leave = Some (i + n + 2); round = Some j }

-- `while`
abbrev pub while_frame : (Items → ℕ) → Scope → ℕ → ℕ → Data → Option Nest
while_frame size scope i j d = do
  c ← formula_at 1 d
  body ← block_at 2 d
  Some (record { head = Unless While c (i + size body + 2); body = body; other = None; end = Goto Back i; scope = in_loop scope i j (size body) })

-- how many times the list of a `times` is made
abbrev pub times_at : Data → Option ℕ
times_at d = at 1 d >>= number 1 MOST_REPEATS

-- `times`: its count is the number of those that it stands in
abbrev pub times_frame : (Items → ℕ) → Scope → ℕ → ℕ → Data → Option Nest
times_frame size scope i j d = do
  k ← times_at d
  body ← block_at 2 d
  Some (record { head = Count scope.times k; body = body; other = None; end = Again scope.times (i + 1); scope = record (in_loop scope i j (size body)) { times = scope.times + 1 } })

-- `loop`
abbrev pub loop_frame : (Items → ℕ) → Scope → ℕ → ℕ → Data → Option Nest
loop_frame size scope i j d = do
  body ← block_at 1 d
  Some (record { head = Goto Loop (i + 1); body = body; other = None; end = Goto Back i; scope = in_loop scope i j (size body) })

-- sentence j of this word, at place i, if it holds others
abbrev pub frame_of : (Items → ℕ) → Scope → ℕ → ℕ → List ℕ → Data → Option Nest
frame_of size scope i j word d =
    if bytes_eq word (codes "if") then if_frame size scope i d else (
    if bytes_eq word (codes "while") then (if has_items 3 d then while_frame size scope i j d else None) else (
    if bytes_eq word (codes "times") then (if has_items 3 d then times_frame size scope i j d else None) else (
    if has_items 2 d then loop_frame size scope i j d else None)))

-- whether sentences of this word hold others
abbrev pub holds_others : List ℕ → Bool
holds_others word =
    if bytes_eq word (codes "if") then true else (
    if bytes_eq word (codes "while") then true else (
    if bytes_eq word (codes "times") then true else (
    if bytes_eq word (codes "loop") then true else false)))

-- a `break`, which stands in a loop
abbrev pub break_step : Scope → Data → Option Step
break_step scope d = if has_items 1 d then (scope.leave >>= λ to. Some (Goto Break to)) else None

-- the step of a sentence of this word that holds no others
abbrev pub plain_step : Scope → List ℕ → Data → Option Step
plain_step scope word d = if bytes_eq word (codes "break") then break_step scope d else simple_step word d
