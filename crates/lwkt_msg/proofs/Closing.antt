use Rattle.std.proofs.Common.{◌≡◌, ◌⊎◌, inl, inr, ⊎_elim, Some, None, ℕ, zero, suc, ◌+◌, List, [], ◌∷◌, ◌++◌, length, refl, ap, sym, ◌∙◌, subst, arith, length-append, append-nil, append_assoc, All}
use Rattle.std.specs.Prelude.{slice_get}
use Rattle.std.proofs.lemmas.List.Elements.{All-nil, All-cons}
use mathlib.Core.Option.{some, some-injective}
use lib.ListN.{get_elem?}
use Rattle.lwkt_base.specs.declared.owners.MsgEnd.{MsgEnd}
use Rattle.lwkt_base.specs.declared.message_words.MsgWord.{MsgWord}
use Rattle.lwkt_base.specs.MessageWord.{message_word, MessageFits}
use Rattle.lwkt_table.specs.declared.seats.Chapter.{Chapter}
use Rattle.lwkt_table.specs.declared.seats.SeatKind.TheVariants.{Clerk}
use Rattle.lwkt_table.specs.Seating.{after_back}
use Rattle.lwkt_msg.specs.declared.views.View.{View}
use Rattle.lwkt_msg.specs.Views.{word_at, chapter_of, joined}
use Rattle.lwkt_msg.specs.Desks.{Desk, chapters_of, IsRecalled, IsTaking, HasTakenBack, AreShown, shown_end}

-- no seat is taken back yet
pub taking_none : (cpus : ℕ) (v : View) (seats : List Desk) → v.kind ≡ Clerk cpus 0 → v.chapters ≡ [] → IsTaking cpus v seats seats v
taking_none cpus v seats kind no_chapters = record {
  behind = [];
  in_order = sym (append-nil seats);
  chapters = no_chapters;
  recalled = All-nil (λ (d : Desk). IsRecalled v d);
  back = 0;
  kind = kind;
  as_many = omega arith;
  cpus_is = refl;
  specs_is = refl;
}

-- one seat more is taken back
pub taking_more : (cpus : ℕ) (v : View) (seats left : List Desk) (seat : Desk) (w : View) → IsTaking cpus v seats (left ++ seat ∷ []) w → IsTaking cpus v seats left (joined w seat.view)
taking_more cpus v seats left seat w t = record {
  behind = seat ∷ t.behind;
  in_order = t.in_order ∙ append_assoc left (seat ∷ []) t.behind;
  chapters = ap (λ (cs : List Chapter). chapter_of seat.view ∷ cs) t.chapters;
  recalled = All-cons (λ (d : Desk). IsRecalled (joined w seat.view) d) seat t.behind (0, refl) (λ k x low. let old = t.recalled k x low in (suc old.0, old.1));
  back = t.back + 1;
  kind = ap after_back t.kind;
  as_many = let a = t.as_many in let b = length-append left (seat ∷ []) in omega arith;
  cpus_is = t.cpus_is;
  specs_is = t.specs_is;
}

-- all seats are taken back
pub taking_all : (cpus : ℕ) (v : View) (seats : List Desk) (w : View) → IsTaking cpus v seats [] w → HasTakenBack cpus v seats w
taking_all cpus v seats w t = record {
  chapters = t.chapters ∙ ap chapters_of (sym t.in_order);
  recalled = let F : List Desk → Type 0 = λ ds. All (λ (d : Desk). IsRecalled w d) ds in subst F (sym t.in_order) t.recalled;
  kind = t.kind ∙ ap (λ (n : ℕ). Clerk cpus n) (let a = t.as_many in omega arith);
  cpus_is = t.cpus_is;
  specs_is = t.specs_is;
}

-- what stands in a list with one element more at the end
get_snoc : (xs : List MsgEnd) (x y : MsgEnd) (k : ℕ) → slice_get (xs ++ x ∷ []) k ≡ Some y → (slice_get xs k ≡ Some y) ⊎ ((k ≡ length xs) × (x ≡ y))
get_snoc [] x y zero e = inr (refl, let h : Some x ≡ Some y = e in cc)
get_snoc [] x y (suc k) e = absurd (let h : None ≡ Some y = e in cc)
get_snoc (z ∷ zs) x y zero e = inl e
get_snoc (z ∷ zs) x y (suc k) e = ⊎_elim (λ old. inl old) (λ new. inr (ap suc new.0, new.1)) (get_snoc zs x y k e)

-- one closing value more is that which its word shows
pub shown_more : (m : ℕ) (words : List ℕ) (ends : List MsgEnd) (word : ℕ) (end : MsgEnd) → AreShown m words ends → get_elem? words (word_at m) ≡ some word → ((w : MsgWord) → MessageFits w → message_word w ≡ word → end ≡ shown_end w) → AreShown (m + 1) words (ends ++ end ∷ [])
shown_more m words ends word end shown at_m shows = record {
  as_many = let a = shown.as_many in let b = length-append ends (end ∷ []) in omega arith;
  each = λ k other e n at_k w fits is. ⊎_elim
      (λ (old : slice_get ends k ≡ Some other). shown.each k other old n at_k w fits is)
      (λ (new : (k ≡ length ends) × (end ≡ other)).
      let k_is : k ≡ m = new.0 ∙ shown.as_many in
      let F : ℕ → Type 0 = λ i. get_elem? words (word_at i) ≡ some n in
      let n_is : n ≡ word = some-injective n word (sym (subst F k_is at_k) ∙ at_m) in
      sym new.1 ∙ shows w fits (is ∙ n_is))
      (get_snoc ends end other k e);
}
