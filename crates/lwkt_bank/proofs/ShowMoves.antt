use Rattle.std.proofs.Common.{inl, inr, ◌≡◌, ◌≢◌, ◌⊎◌, ⊎_elim, ℕ, ◌+◌, ◌<◌, ◌≤◌, List, length, set, refl, ap, sym, ◌∙◌, subst, arith}
use Rattle.std.specs.Prelude.{slice_index, is_some}
use Rattle.std.proofs.lemmas.Bool.{cases_eq}
use mathlib.Core.Option.{Option, some, some-injective}
use lib.ListN.{get_elem?}
use Rattle.lwkt_base.specs.declared.names.CpuId.{CpuId}
use Rattle.lwkt_base.specs.declared.holdings.Held.TheVariants.{Nothing}
use Rattle.lwkt_base.specs.TokenWord.{word_of}
use Rattle.lwkt_table.specs.declared.seats.SeatKind.{SeatKind}
use Rattle.lwkt_table.specs.declared.seats.SeatKind.TheVariants.{Clerk, Of, Spent}
use Rattle.lwkt_core.specs.declared.tokens.Token.{Token}
use Rattle.lwkt_core.specs.Tokens.{held_by, tally_of}
use Rattle.lwkt_core.specs.Picture.{picture_of}
use Rattle.lwkt_table.proofs.SeatingLemmas.{at_set, set_here, set_else, inside, total-set}
use Rattle.lwkt_bank.specs.declared.views.Plan.{Plan}
use Rattle.lwkt_bank.specs.declared.views.TokenEntry.{TokenEntry}
use Rattle.lwkt_bank.specs.Views.{amount}
use Rattle.lwkt_bank.specs.Rule.{Seen, Knows, ShowsToken, IsOpeningRow, held_by_kind, in_slot}

-- the number of a processor by which a kind is told apart from others
abbrev pub cpu_in : SeatKind → ℕ
cpu_in (Clerk made back) = 0
cpu_in (Of cpu) = cpu.0
cpu_in Spent = 0

-- the seat of the processor of this number
abbrev pub numbered_seat : ℕ → SeatKind
numbered_seat n = Of (record { 0 = n })

-- what an entry has that another processor, or nobody, holds
abbrev pub IsOthers : Token → ℕ → TokenEntry → Type 0
IsOthers tok cpu d = ((other : ℕ) × ((other ≢ cpu) × (d.held ≡ held_by tok other))) ⊎ (d.held ≡ Nothing)

-- what a step of a processor does to a token, its words and the processor's entry
pub record Turns (plan : Plan) (tok tok' : Token) (cpu : ℕ) (e e' : TokenEntry) (word : ℕ) (cells : ℕ → ℕ) (lies : Option (List ℕ)) : Type 0 where
  pub law : tok'.law ≡ tok.law
  pub param : tok'.param ≡ tok.param
  pub long : length tok'.row ≡ length tok.row
  pub count_word : word ≡ word_of (picture_of tok')
  pub row : (i : ℕ) → i < plan.cells → cells i ≡ slice_index tok'.row i
  pub others : (other : ℕ) → other ≢ cpu → held_by tok' other ≡ held_by tok other
  pub held : e'.held ≡ held_by tok' cpu
  pub tallies : (a : ℕ) → tally_of tok' a + amount a e.added ≡ tally_of tok a + amount a e'.added
  pub sections : tok'.generation + e.written ≡ tok.generation + e'.written
  pub rises : tok.generation ≤ tok'.generation
  pub same_first : tok'.generation ≡ tok.generation → tok'.first ≡ tok.first
  pub slot : in_slot tok' ≡ lies
  pub guard : is_some tok'.blob ≡ is_some tok.blob
  pub same_first_blob : tok'.generation ≡ tok.generation → tok'.first_blob ≡ tok.first_blob
  pub known : Knows tok' e'
  pub others_known : (d : TokenEntry) → IsOthers tok cpu d → Knows tok d → Knows tok' d

-- the words and views show the token after the step
pub Shows-step : (plan : Plan) (home home' : Option (Option (List ℕ))) (lies : Option (List ℕ)) (word : ℕ) (cells : ℕ → ℕ) (views : List Seen) (tok : Token) (j : ℕ) (x y : Seen) (cpu : CpuId) (word' : ℕ) (cells' : ℕ → ℕ) (tok' : Token)
    → ShowsToken plan home word cells views tok → get_elem? views j ≡ some x → x.kind ≡ Of cpu → y.kind ≡ x.kind
    → ((k : ℕ) (z : Seen) (other : CpuId) → get_elem? views k ≡ some z → k ≢ j → z.kind ≡ Of other → other.0 ≢ cpu.0)
    → Turns plan tok tok' cpu.0 x.entry y.entry word' cells' lies → home' ≡ some lies → ShowsToken plan home' word' cells' (set views j y) tok'
Shows-step plan home home' lies word cells views tok j x y cpu word' cells' tok' shows here kind same apart turns home_is = record {
  slot = home_is ∙ ap (λ (o : Option (List ℕ)). some o) (sym turns.slot);
  guard = turns.guard ∙ shows.guard;
  opening_blob = λ at_opening.
      let s = shows.sections in
      let u = turns.rises in
      let still_there : tok.generation ≡ plan.generation = omega arith in
      turns.same_first_blob (at_opening ∙ sym still_there) ∙ shows.opening_blob still_there;
  law = turns.law ∙ shows.law;
  param = turns.param ∙ shows.param;
  long = turns.long ∙ shows.long;
  count_word = turns.count_word;
  row = turns.row;
  held = λ k z e. ⊎_elim
      (λ new. own_held z new.1)
      (λ old. other_held k z old.0 old.1 z.kind refl)
      (at_set views j k y z e);
  seated = λ a. ⊎_elim
      (λ mine. inr (j, (y, (set_here views j y (inside views j x here), same ∙ kind ∙ ap numbered_seat (sym mine)))))
      (λ away. ⊎_elim
      (λ nothing. inl (turns.others a away ∙ nothing))
      (λ there. inr (still a away there.0 there.1.0 there.1.1.0 there.1.1.1))
      (shows.seated a))
      (cases_eq a cpu.0);
  tallies = λ a.
      let t = total-set (λ (z : Seen). amount a z.entry.added) views j x y here in
      let s = shows.tallies a in
      let u = turns.tallies a in
      omega arith;
  sections =
      let t = total-set (λ (z : Seen). z.entry.written) views j x y here in
      let s = shows.sections in
      let u = turns.sections in
      omega arith;
  opening = λ at_opening.
      let s = shows.sections in
      let u = turns.rises in
      let still_there : tok.generation ≡ plan.generation = omega arith in
      subst (λ (first : List ℕ). IsOpeningRow plan first) (sym (turns.same_first (at_opening ∙ sym still_there))) (shows.opening still_there);
  known = λ k z e. ⊎_elim
      (λ new. subst (λ (w : Seen). Knows tok' w.entry) new.1 turns.known)
      (λ old. turns.others_known z.entry (is_others k z old.0 old.1 z.kind refl) (shows.known k z old.1))
      (at_set views j k y z e);
}
  where
    still : (a : ℕ) → a ≢ cpu.0 → (k : ℕ) (z : Seen) → get_elem? views k ≡ some z → z.kind ≡ numbered_seat a → (i : ℕ) × ((w : Seen) × ((get_elem? (set views j y) i ≡ some w) × (w.kind ≡ numbered_seat a)))
    still a away k z e is = ⊎_elim
        (λ it. absurd (
        let F : ℕ → Type 0 = λ n. get_elem? views n ≡ some z in
        let one : x ≡ z = some-injective x z (sym here ∙ subst F it e) in
        away (ap cpu_in (sym is ∙ ap (λ (w : Seen). w.kind) (sym one) ∙ kind))))
        (λ other. (k, (z, (set_else views j k y other ∙ e, is))))
        (cases_eq k j)

    own_held : (z : Seen) → y ≡ z → z.entry.held ≡ held_by_kind tok' z.kind
    own_held z e =
        let kinds : held_by_kind tok' y.kind ≡ held_by tok' cpu.0 = ap (held_by_kind tok') (same ∙ kind) in
        subst (λ (w : Seen). w.entry.held ≡ held_by_kind tok' w.kind) e (turns.held ∙ sym kinds)

    held_so : (k : ℕ) (z : Seen) → get_elem? views k ≡ some z → (kd : SeatKind) → z.kind ≡ kd → z.entry.held ≡ held_by_kind tok kd
    held_so k z e kd is = shows.held k z e ∙ ap (held_by_kind tok) is

    other_held : (k : ℕ) (z : Seen) → k ≢ j → get_elem? views k ≡ some z → (kd : SeatKind) → z.kind ≡ kd → z.entry.held ≡ held_by_kind tok' z.kind
    other_held k z away e (Of other) is = held_so k z e (Of other) is ∙ sym (turns.others other.0 (apart k z other e away is)) ∙ sym (ap (held_by_kind tok') is)
    other_held k z away e (Clerk made back) is = held_so k z e (Clerk made back) is ∙ sym (ap (held_by_kind tok') is)
    other_held k z away e Spent is = held_so k z e Spent is ∙ sym (ap (held_by_kind tok') is)

    is_others : (k : ℕ) (z : Seen) → k ≢ j → get_elem? views k ≡ some z → (kd : SeatKind) → z.kind ≡ kd → IsOthers tok cpu.0 z.entry
    is_others k z away e (Of other) is = inl (other.0, (apart k z other e away is, held_so k z e (Of other) is))
    is_others k z away e (Clerk made back) is = inr (held_so k z e (Clerk made back) is)
    is_others k z away e Spent is = inr (held_so k z e Spent is)
