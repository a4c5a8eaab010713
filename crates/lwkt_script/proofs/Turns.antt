-- Reading sentences one after the other, as a loop does, and the program that they make.
use Rattle.std.proofs.Common.{◌≡◌, ℕ, suc, ◌+◌, ◌-◌, ◌<◌, List, ◌∷◌, length, drop, get_or, Result, Ok, Err, refl, sym, ap, ◌∙◌, subst, arith, le-leb}
use Rattle.std.proofs.lemmas.List.{drop_more}
use Rattle.std.proofs.lemmas.Bool.{lt-leb}
use Rattle.serde_json.specs.Data.{Data}
use Rattle.serde_json.specs.View.{view, items_view}
use Rattle.serde_json.specs.declared.value.Value.{Value}
use Rattle.lwkt_base.specs.declared.faults.Fault.{Fault}
use Rattle.lwkt_code.specs.declared.codes.Wrong.{Wrong}
use Rattle.lwkt_code.specs.declared.codes.Wrong.TheVariants.{TooMany, Step as StepIsWrong, Circle}
use Rattle.lwkt_code.specs.Programs.{Program}
use Rattle.lwkt_code.specs.Firsts.{AreClear, IsFirstWrong}
use Rattle.lwkt_script.specs.declared.drafts.Draft.{Draft}
use Rattle.lwkt_script.specs.declared.scopes.Scope.{Scope}
use Rattle.lwkt_script.specs.Frames.{size_in}
use Rattle.lwkt_script.specs.Outcome.{◌>>=◌, Gives}
use Rattle.lwkt_script.specs.Sentences.{sentence, too_deep, turn, sentences, checked, wrong_place}

-- by the levels that may stand in the list
pub turn_none : (deep n : ℕ) (scope : Scope) (draft : Draft) (d : Data) → deep ≡ 0 → turn deep n scope draft d ≡ too_deep n draft
unfolding turn
turn_none deep n scope draft d e = rw e refl

turn_suc : (deep n : ℕ) (scope : Scope) (draft : Draft) (d : Data) → turn (suc deep) n scope draft d ≡ sentence (sentences deep n) (size_in deep) n scope draft d
unfolding turn
turn_suc deep n scope draft d = refl

pub turn_later : (deep n : ℕ) (scope : Scope) (draft : Draft) (d : Data) → 0 < deep → turn deep n scope draft d ≡ sentence (sentences (deep - 1) n) (size_in (deep - 1)) n scope draft d
turn_later deep n scope draft d w =
    let e : suc (deep - 1) ≡ deep = omega arith in
    subst (λ m. turn m n scope draft d ≡ sentence (sentences (deep - 1) n) (size_in (deep - 1)) n scope draft d) e (turn_suc (deep - 1) n scope draft d)

-- the same of what the reader returns
pub no_turn : (r : Result Draft Fault) (deep n : ℕ) (scope : Scope) (draft : Draft) (d : Data) → deep ≡ 0 → Gives (λ (x : Draft). x) r (too_deep n draft) → Gives (λ (x : Draft). x) r (turn deep n scope draft d)
no_turn r deep n scope draft d e h = subst (λ (t : Result Draft ℕ). Gives (λ (x : Draft). x) r t) (sym (turn_none deep n scope draft d e)) h

pub next_turn : (r : Result Draft Fault) (deep n : ℕ) (scope : Scope) (draft : Draft) (d : Data) → 0 < deep → Gives (λ (x : Draft). x) r (sentence (sentences (deep - 1) n) (size_in (deep - 1)) n scope draft d)
    → Gives (λ (x : Draft). x) r (turn deep n scope draft d)
next_turn r deep n scope draft d w h = subst (λ (t : Result Draft ℕ). Gives (λ (x : Draft). x) r t) (sym (turn_later deep n scope draft d w)) h

-- a list with a sentence at its front, read
pub front_turn : (deep n : ℕ) (scope : Scope) (out : Draft) (items : List Value) (i : ℕ) (v : Value) → i < length items → v ≡ get_or items i v
    → sentences deep n scope out (items_view (drop i items)) ≡ (turn deep n scope out (view v) >>= λ next. sentences deep n scope next (items_view (drop (i + 1) items)))
front_turn deep n scope out items i v within is =
    ap (λ (vs : List Value). sentences deep n scope out (items_view vs)) (drop_more items i v within ∙ ap (λ (w : Value). w ∷ drop (i + 1) items) (sym is))

-- after a sentence that was read, the rest is read with it
pub turn_on : (deep n : ℕ) (scope : Scope) (out next : Draft) (items : List Value) (i : ℕ) (v : Value) (total : Result Draft ℕ) → i < length items → v ≡ get_or items i v
    → turn deep n scope out (view v) ≡ Ok next → sentences deep n scope out (items_view (drop i items)) ≡ total → sentences deep n scope next (items_view (drop (i + 1) items)) ≡ total
turn_on deep n scope out next items i v total within is h so_far =
    sym (front_turn deep n scope out items i v within is ∙ ap (λ r. r >>= λ x. sentences deep n scope x (items_view (drop (i + 1) items))) h) ∙ so_far

-- steps that are a program, and steps that aren't
pub checked_made : (n repeat : ℕ) (vars : List ℕ) (draft : Draft) (code : Program) → AreClear draft.steps → code ≡ record { steps = draft.steps; repeat = repeat; vars = vars } → checked n repeat vars draft ≡ Ok code
unfolding checked
checked_made n repeat vars draft code h is = rw (le-leb (length draft.steps) 768 h.few, h.flawless, h.no_circle) (ap (λ (p : Program). Ok p) (sym is))

pub checked_wrong : (n repeat : ℕ) (vars : List ℕ) (draft : Draft) (wrong : Wrong) → IsFirstWrong draft.steps wrong → checked n repeat vars draft ≡ Err (wrong_place n draft.lines wrong)
unfolding checked
checked_wrong n repeat vars draft TooMany h = rw (lt-leb (length draft.steps) 768 h) refl
checked_wrong n repeat vars draft (StepIsWrong at flaw) h = rw (le-leb (length draft.steps) 768 h.0, h.1) refl
checked_wrong n repeat vars draft (Circle begin end) h = rw (le-leb (length draft.steps) 768 h.0, h.1, h.2) refl
