-- What reading gives: a value, or the place of the first bad part (own).
use Rattle.std.specs.Prelude.{◌≡◌, ℕ, List, [], ◌∷◌, ◌++◌, Bool, ⊤, if◌then◌else◌, Option, Some, None, Result, Ok, Err}
use Rattle.serde_json.specs.Data.{Data, Items, no_items, item}
use Rattle.lwkt_base.specs.declared.faults.Fault.{Fault}
use Rattle.lwkt_base.specs.declared.faults.Fault.TheVariants.{Memory, Script}

infixl 10 ◌>>=◌
-- what comes next is read only where no bad part came before
abbrev pub ◌>>=◌ : {A B : Type 0} → Result A ℕ → (A → Result B ℕ) → Result B ℕ
(Ok x) >>= f = f x
(Err place) >>= f = Err place

infixl 10 ◌>>◌
abbrev pub ◌>>◌ : {A B : Type 0} → Result A ℕ → Result B ℕ → Result B ℕ
(Ok x) >> rest = rest
(Err place) >> rest = Err place

-- a part that stands at a place
abbrev pub part : {A : Type 0} → ℕ → Option A → Result A ℕ
part place (Some x) = Ok x
part place None = Err place

-- what stands at a place passes a test
abbrev pub demand : ℕ → Bool → Result ⊤ ℕ
demand place ok = if ok then Ok tt else Err place

-- the items of a list one after the other, each read with those before it
abbrev pub each : {A : Type 0} → (List A → Data → Result A ℕ) → List A → Items → Result (List A) ℕ
each f before no_items = Ok before
each f before (item d ds) = f before d >>= λ x. each f (before ++ x ∷ []) ds

-- the fault of a script's bad part; of a want of memory nothing is said, and there is no other fault
abbrev pub IsFaultOf : {Y : Type 0} → Fault → Result Y ℕ → Type 0
IsFaultOf (Script place) read = read ≡ Err place
IsFaultOf (Memory refused) read = Unit {0}
IsFaultOf _ read = ⊥

-- what a reader returned, seen by view, is what reading gives
abbrev pub Gives : {X Y : Type 0} → (X → Y) → Result X Fault → Result Y ℕ → Type 0
Gives view (Ok x) read = read ≡ Ok (view x)
Gives view (Err fault) read = IsFaultOf fault read
