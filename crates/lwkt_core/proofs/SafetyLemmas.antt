use Rattle.std.proofs.Common.{suc, inl, inr, ◌≡◌, ◌≢◌, ◌⊎◌, ◌≤◌, ℕ, Bool, true, List, [], ◌∷◌, Option, Some, None, get_or, refl, ap, sym, ◌∙◌, subst, arith}
use Rattle.std.specs.List.{list_any}
use Rattle.std.specs.Str.{bytes_eq}
use Rattle.std.proofs.lemmas.Slice.Eq.{bytes_eq-Decides}
use Rattle.std.proofs.lemmas.Bool.{cases_Bool, or_cases, false≢true}
use Rattle.std.proofs.lemmas.Option.{same_Some}
use Rattle.lwkt_base.specs.declared.holdings.Held.TheVariants.{Nothing}
use Rattle.lwkt_base.specs.Holding.{is_exclusive}
use Rattle.lwkt_base.specs.Law.{Obeys}
use Rattle.lwkt_base.specs.declared.owners.Owner.{Owner}
use Rattle.lwkt_base.specs.declared.owners.Owner.TheVariants.{Rest, Out, With, Back}
use Rattle.lwkt_core.specs.declared.tokens.Token.{Token}
use Rattle.lwkt_core.specs.Tokens.{IsOpen, IsExclusiveHolder, IsClean, length_of}
use Rattle.lwkt_core.specs.Machine.{IsSafe}
use Rattle.lwkt_core.specs.Messages.{in_out, in_with}
use Rattle.lwkt_core.specs.Safety.{OpeningsAreSafe, RunsStaySafe, HoldersAreCompatible, UnwrittenRowsAreLawful, SendsAreAnsweredOnce}
use Rattle.lwkt_core.proofs.MachineMoves.{IsSafe_left}
use Rattle.lwkt_core.proofs.OpeningLemmas.{IsSafe_opened}
use Rattle.lwkt_core.proofs.PictureLemmas.{IsOpen-from_picture}

pub opened : OpeningsAreSafe
opened cpus tokens messages within lawful = IsSafe_opened cpus tokens messages _ _ refl refl within lawful

pub stays : RunsStaySafe
stays m [] n safe run = subst IsSafe (sym run) safe
stays m (e ∷ events) n safe run = stays run.0 events n (IsSafe_left m run.0 e safe run.1.0.0 run.1.0.1) run.1.1

-- the place of an element that passes a test
place_of_any : {A : Type 0} (p : A → Bool) (d : A) (xs : List A) → list_any p xs ≡ true → (i : ℕ) × (p (get_or xs i d) ≡ true)
place_of_any p d [] some = absurd (false≢true some)
place_of_any p d (x ∷ xs) some =
    elim (or_cases (p x) (list_any p xs) some) [
      | inl here ↦ (0, here)
      | inr later ↦ (let found = place_of_any p d xs later in (suc found.0, found.1))
    ]

-- a token has an exclusive holder, or none
holder_or_open : (tok : Token) → ((cpu : ℕ) × IsExclusiveHolder tok cpu) ⊎ IsOpen tok
holder_or_open tok =
    elim (cases_Bool (list_any is_exclusive tok.holders)) [
      | inl some ↦ inl (place_of_any is_exclusive Nothing tok.holders some)
      | inr none ↦ inr (IsOpen-from_picture tok none)
    ]

pub compatible : HoldersAreCompatible
compatible cpus tok safe =
    elim (holder_or_open tok) [
      | inl holder ↦ inl (holder.0, (holder.1, (λ other apart. safe.compatible holder.0 other holder.1 apart)))
      | inr opened' ↦ inr opened'
    ]

-- two rows are the same, or not
same_row : (xs ys : List ℕ) → (xs ≡ ys) ⊎ (xs ≢ ys)
same_row xs ys =
    let decides = bytes_eq-Decides xs ys in
    elim (cases_Bool (bytes_eq xs ys)) [
      | inl yes' ↦ inl (decides.0 yes')
      | inr no' ↦ inr (λ same. false≢true (sym no' ∙ decides.1 same))
    ]

-- two records are the same, or not
same_blob : (one other : Option (List ℕ)) → (one ≡ other) ⊎ (one ≢ other)
same_blob None None = inl refl
same_blob None (Some ys) = inr (λ same. let e : None ≡ Some ys = same in cc)
same_blob (Some xs) None = inr (λ same. let e : Some xs ≡ None = same in cc)
same_blob (Some xs) (Some ys) = elim (same_row xs ys) [
  | inl same ↦ inl (ap (λ (zs : List ℕ). Some zs) same)
  | inr differ ↦ inr (λ same. differ (same_Some xs ys same))
]

-- nothing is written, or something
clean_or_not : (tok : Token) → IsClean tok ⊎ (¬ IsClean tok)
clean_or_not tok = elim (same_row tok.row tok.first) [
  | inl same ↦ elim (same_blob tok.blob tok.first_blob) [
    | inl alike ↦ inl (same, alike)
    | inr differ ↦ inr (λ clean. differ clean.1)
  ]
  | inr differ ↦ inr (λ clean. differ clean.0)
]

pub unwritten : UnwrittenRowsAreLawful
unwritten cpus tok safe idle =
    let F : List ℕ → Type 0 = λ row. Obeys tok.law tok.param row (length_of tok.blob) in
    let G : Option (List ℕ) → Type 0 = λ blob. Obeys tok.law tok.param tok.first (length_of blob) in
    (subst F (sym settled.0) (subst G (sym settled.1) safe.lawful), safe.tallied)
  where
    settled : IsClean tok
    settled = elim (holder_or_open tok) [
      | inl holder ↦ elim (clean_or_not tok) [
        | inl clean ↦ clean
        | inr written ↦ absurd (idle holder.0 (holder.1, written))
      ]
      | inr opened' ↦ (safe.settled opened', safe.settled_blob opened')
    ]

-- a message is in one state at most once
in_out-le : (owner : Owner) → in_out owner ≤ 1
in_out-le (Rest origin) = omega arith
in_out-le (Out origin target) = omega arith
in_out-le (With origin target) = omega arith
in_out-le (Back origin target) = omega arith

in_with-le : (owner : Owner) → in_with owner ≤ 1
in_with-le (Rest origin) = omega arith
in_with-le (Out origin target) = omega arith
in_with-le (With origin target) = omega arith
in_with-le (Back origin target) = omega arith

pub once : SendsAreAnsweredOnce
once cpus msg safe =
    let taken = safe.taken in
    let replied = safe.replied in
    let some_out = in_out-le msg.owner in
    let some_with = in_with-le msg.owner in (omega arith, omega arith, omega arith, omega arith)
