-- What a thread makes ahead of its next ask, step by step, and things that are kept behind things.
use Rattle.std.proofs.Common.{◌≡◌, ◌<◌, ◌+◌, ◌*◌, ℕ, zero, suc, Bool, true, false, List, [], ◌++◌, length, Option, Some, None, refl, sym, ap, ◌∙◌, arith, append_assoc, append-nil, slice_get, if◌then◌else◌}
use Rattle.std.proofs.lemmas.Bool.{false≢true}
use Rattle.lwkt_base.specs.declared.asks.Ask.{Ask}
use Rattle.lwkt_code.specs.declared.locals.Local.{Local}
use Rattle.lwkt_code.specs.declared.steps.Step.{Step}
use Rattle.lwkt_code.specs.Accepted.{IsAccepted, IsInside, IsRanked}
use Rattle.lwkt_code.specs.Next.{ask_at, moved}
use Rattle.lwkt_code.proofs.Heights.{height, height_few, height_falls}
use Rattle.lwkt_show.specs.declared.walks.Kept.{Kept}
use Rattle.lwkt_show.specs.declared.walks.Made.{Made}
use Rattle.lwkt_show.specs.Computed.{made_by}
use Rattle.lwkt_show.specs.Keeping.{one_or_none, made_or, made_within, made_from, KeepsAll}

same_made : (q : Option Ask) (made : Option Made) (x y : List Made) → (q ≡ None → x ≡ y) → made_or q made x ≡ made_or q made y
same_made (Some ask) made x y f = refl
same_made None made x y f = ap (λ (later : List Made). one_or_none made ++ later) (f refl)

-- more steps than the height change nothing
enough : (steps : List Step) (rank : ℕ → ℕ) → IsInside steps → IsRanked steps rank → (n m : ℕ) (s : Local) → height steps rank s < n → height steps rank s < m → made_within n steps s ≡ made_within m steps s
unfolding made_within
enough steps rank inside falls zero m s a b = absurd (omega arith)
enough steps rank inside falls (suc n) zero s a b = absurd (omega arith)
enough steps rank inside falls (suc n) (suc m) s a b =
    let o = slice_get steps s.at in
    same_made (ask_at o s) (made_by o s.at (moved o s).vars) (made_within n steps (moved o s)) (made_within m steps (moved o s)) (λ e.
    let k = height_falls steps rank inside falls s e in
    enough steps rank inside falls n m (moved o s) (omega arith) (omega arith))

none_made : (q : Option Ask) (made : Option Made) (later : List Made) → q ≡ None → made_or q made later ≡ one_or_none made ++ later
none_made q made later e = rw e refl

some_made : (q : Option Ask) (ask : Ask) (made : Option Made) (later : List Made) → q ≡ Some ask → made_or q made later ≡ []
some_made q ask made later e = rw e refl

-- a step that asks makes nothing
pub made_here : (steps : List Step) (s : Local) (ask : Ask) → ask_at (slice_get steps s.at) s ≡ Some ask → made_from steps s ≡ []
unfolding made_within
made_here steps s ask e =
    let o = slice_get steps s.at in
    some_made (ask_at o s) ask (made_by o s.at (moved o s).vars) (made_within (2 * length steps + 3) steps (moved o s)) e

-- one that asks nothing makes what it does, and then what is made from where it leads
pub made_on : (steps : List Step) (s : Local) → IsAccepted steps → ask_at (slice_get steps s.at) s ≡ None
    → made_from steps s ≡ one_or_none (made_by (slice_get steps s.at) s.at (moved (slice_get steps s.at) s).vars) ++ made_from steps (moved (slice_get steps s.at) s)
unfolding made_within
made_on steps s h e =
    let o = slice_get steps s.at in
    let k = height_falls steps h.rank h.inside h.falls s e in
    let few = height_few steps h.rank s in
    none_made (ask_at o s) (made_by o s.at (moved o s).vars) (made_within (2 * length steps + 3) steps (moved o s)) e
    ∙ ap (λ (later : List Made). one_or_none (made_by o s.at (moved o s).vars) ++ later)
    (enough steps h.rank h.inside h.falls (2 * length steps + 3) (suc (2 * length steps + 3)) (moved o s) (omega arith) (omega arith))

none_behind : (wanted : Bool) (made : List Made) → made ≡ made ++ (if wanted then [] else [])
none_behind true made = sym (append-nil made)
none_behind false made = sym (append-nil made)

twice : (w v : Bool) (old mid new xs ys : List Made) → v ≡ w → mid ≡ old ++ (if w then xs else []) → new ≡ mid ++ (if v then ys else []) → new ≡ old ++ (if w then xs ++ ys else [])
twice true true old mid new xs ys same first second = second ∙ ap (λ (front : List Made). front ++ ys) first ∙ append_assoc old xs ys
twice false false old mid new xs ys same first second = second ∙ append-nil mid ∙ first
twice true false old mid new xs ys same first second = absurd (false≢true same)
twice false true old mid new xs ys same first second = absurd (false≢true (sym same))

-- nothing is kept behind what was
pub keeps_nothing : (kept : Kept) → KeepsAll kept kept []
keeps_nothing kept = record { wanted = refl; lost = λ here. here; behind = λ here. none_behind kept.wanted kept.made.items }

-- things behind things
pub keeps_twice : (old mid new : Kept) (xs ys : List Made) → KeepsAll old mid xs → KeepsAll mid new ys → KeepsAll old new (xs ++ ys)
keeps_twice old mid new xs ys first second = record {
  wanted = second.wanted ∙ first.wanted;
  lost = λ here. first.lost (second.lost here);
  behind = λ here. twice old.wanted mid.wanted old.made.items mid.made.items new.made.items xs ys first.wanted (first.behind (second.lost here)) (second.behind here);
}
