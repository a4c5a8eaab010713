use Rattle.std.proofs.Common.{◌≡◌, ◌≢◌, ⊎_elim, ℕ, ◌+◌, ◌<◌, ◌≤◌, List, [], length, map, refl, ap, sym, ◌∙◌, subst, arith, Bool, false}
use Rattle.std.specs.Prelude.{All, Some, is_some, slice_index, slice_get}
use Rattle.std.specs.List.{list_any}
use Rattle.std.proofs.lemmas.Bool.{cases_eq}
use mathlib.Core.Option.{Option, some, some-injective}
use lib.ListN.{get_elem?}
use Rattle.lwkt_base.specs.declared.laws.Law.{Law}
use Rattle.lwkt_base.specs.declared.holdings.Held.TheVariants.{Nothing}
use Rattle.lwkt_base.specs.Holding.{is_exclusive, references_in}
use Rattle.lwkt_base.specs.Law.{Obeys, IsTallied}
use Rattle.lwkt_table.specs.declared.seats.SeatKind.{SeatKind}
use Rattle.lwkt_table.specs.declared.seats.SeatKind.TheVariants.{Clerk, Spent}
use Rattle.lwkt_core.specs.declared.tokens.Token.{Token}
use Rattle.lwkt_core.specs.Tokens.{held_by, length_of, IsFree, IsShort}
use Rattle.lwkt_core.specs.Picture.{picture_of}
use Rattle.lwkt_table.proofs.SeatingLemmas.{at_map, of_map, total-only, AreSeated-closed}
use Rattle.lwkt_core.proofs.MachineMoves.{references_le}
use Rattle.lwkt_bank.specs.declared.views.Plan.{Plan}
use Rattle.lwkt_bank.specs.declared.views.TokenEntry.{TokenEntry}
use Rattle.lwkt_bank.specs.declared.views.View.{View}
use Rattle.lwkt_bank.specs.Views.{RecordOf, at, amount, generation_in}
use Rattle.lwkt_bank.specs.Gathered.{IsStill}
use Rattle.lwkt_bank.specs.Rule.{Bench, lies_in, IsOpeningRow, token_word, cell_word, Seen, seen_by, column, Rule, plan_at, token_at}
use Rattle.lwkt_bank.proofs.WordMoves.{count-le, generation-word, picture-open}
use Rattle.lwkt_bank.proofs.RuleMoves.{safe_token, token_is}
use Rattle.lwkt_bank.proofs.ShowMoves.{numbered_seat}

-- a token of a bank whose seats were all taken back
pub record Settled (plan : Plan) (cpus : ℕ) (words : List ℕ) (home : Option (Option (List ℕ))) (tok : ℕ) (tk : Token) (written : ℕ) (added : ℕ → ℕ) (known : TokenEntry) : Type 0 where
  pub row : List ℕ
  pub tallies : List ℕ
  pub long : length row ≡ plan.cells
  pub cells : (i : ℕ) → i < plan.cells → slice_index words (cell_word tok i) ≡ slice_index row i
  pub generation : generation_in (slice_index words (token_word tok)) ≡ plan.generation + written
  pub blob : RecordOf
  pub blob_is : blob ≡ tk.blob
  pub guard : is_some blob ≡ is_some plan.blob
  pub short_blob : IsShort blob
  pub opening_blob : generation_in (slice_index words (token_word tok)) ≡ plan.generation → blob ≡ plan.blob
  pub lay : home ≡ some (lies_in blob false)
  pub lawful : Obeys plan.law plan.param row (length_of blob)
  pub tallied : IsTallied plan.law plan.param row tallies
  pub eight : length tallies ≡ 8
  pub tally : (a : ℕ) → slice_index tallies a ≡ added a
  pub absent : (a : ℕ) → cpus ≤ a → slice_index tallies a ≡ 0
  pub opening : generation_in (slice_index words (token_word tok)) ≡ plan.generation → IsOpeningRow plan row
  pub stands : IsStill known row blob (generation_in (slice_index words (token_word tok)))
  pub law_is : tk.law ≡ plan.law
  pub row_is : row ≡ tk.row
  pub tallies_are : tallies ≡ tk.tallies
  pub generation_is : generation_in (slice_index words (token_word tok)) ≡ tk.generation
  pub free : IsFree tk

-- once the clerk has taken back as many seats as there are processors
pub settled : (plans : List Plan) (cpus : ℕ) (s : Bench) (id : ℕ) (v : View) (made back tok : ℕ) (r : Rule plans cpus s) → get_elem? s.views id ≡ some v → v.kind ≡ Clerk made back → cpus ≤ back → tok < length plans
    → Settled (plan_at plans tok) cpus s.words (get_elem? s.homes tok) tok (token_at r.model tok) (at v.tokens tok).written (λ a. amount a (at v.tokens tok).added) (at v.tokens tok)
settled plans cpus s id v made back tok r here kind all there =
    let shows = r.pictures.each_token tok there in
    let tk = token_at r.model tok in
    let safe = safe_token plans cpus s r tok there in
    let processors = r.pictures.processors in
    let F : Law → Type 0 = λ l. Obeys l (plan_at plans tok).param tk.row (length_of tk.blob) in
    let G : ℕ → Type 0 = λ p. Obeys tk.law p tk.row (length_of tk.blob) in
    let H : List ℕ → Type 0 = λ row. Obeys tk.law tk.param row (length_of tk.blob) in
    let K : RecordOf → Type 0 = λ b. Obeys tk.law tk.param tk.first (length_of b) in
    let blob_first : tk.blob ≡ tk.first_blob = safe.settled_blob (λ c. ap is_exclusive (free c)) in
    let off : list_any is_exclusive tk.holders ≡ false = picture-open tk (λ c. ap is_exclusive (free c)) in
    let row_first : tk.row ≡ tk.first = safe.settled (λ c. ap is_exclusive (free c)) in
    let P : Law → Type 0 = λ l. IsTallied l (plan_at plans tok).param tk.row tk.tallies in
    let Q : ℕ → Type 0 = λ p. IsTallied tk.law p tk.row tk.tallies in
    let word = shows.count_word in
    let few : (other : ℕ) → references_in (held_by tk other) ≤ 32 = λ other. (let h = references_le r.model.tokens other tok tk (token_is plans cpus s r tok there) in let f = r.safe.few other in omega arith) in
    let count = count-le tk r.model.cpus safe few in
    let gen : generation_in (slice_index s.words (token_word tok)) ≡ tk.generation = ap generation_in word ∙ generation-word (picture_of tk) (omega arith) in
    let sections = shows.sections in
    let written = total-only (λ (x : Seen). x.entry.written) (column tok s.views) id (seen_by tok v) (at_map (seen_by tok) s.views id v here) (λ j x e apart. ap (λ (d : TokenEntry). d.written) (spent_entry j x e apart)) in
    record {
      row = tk.row;
      tallies = tk.tallies;
      long = shows.long;
      cells = shows.row;
      generation = omega arith;
      lawful = subst F shows.law (subst G shows.param (subst H (sym row_first) (subst K (sym blob_first) safe.lawful)));
      blob = tk.blob;
      blob_is = refl;
      guard = shows.guard;
      short_blob = safe.short;
      opening_blob = λ same. blob_first ∙ shows.opening_blob (sym gen ∙ same);
      lay = shows.slot ∙ ap (λ (b : Bool). some (lies_in tk.blob b)) off;
      tallied = subst P shows.law (subst Q shows.param safe.tallied);
      eight = safe.eight_tallies;
      law_is = shows.law;
      row_is = refl;
      tallies_are = refl;
      generation_is = gen;
      free = free;
      tally = λ a. shows.tallies a ∙ total-only (λ (x : Seen). amount a x.entry.added) (column tok s.views) id (seen_by tok v) (at_map (seen_by tok) s.views id v here) (λ j x e apart. ap (λ (d : TokenEntry). amount a d.added) (spent_entry j x e apart));
      absent = λ a far. (safe.absent a (omega arith)).1;
      opening = λ same. subst (λ (row : List ℕ). IsOpeningRow (plan_at plans tok) row) (sym row_first) (shows.opening (sym gen ∙ same));
      stands =
          let k = shows.known id (seen_by tok v) (at_map (seen_by tok) s.views id v here) in
          record {
            not_above = let n = k.not_above in omega arith;
            cells = λ same. subst (λ (row : List ℕ). All (λ c. slice_get row c.at ≡ Some c.value) (at v.tokens tok).known) (sym row_first) (k.cells (same ∙ gen));
            records = λ same. subst (λ (b : RecordOf). All (λ bytes. b ≡ Some bytes) (at v.tokens tok).known_blob) (sym blob_first) (k.records (same ∙ gen));
          };
    }
  where
    closed : (j : ℕ) (k : SeatKind) → j ≢ id → get_elem? (map (λ (u : View). u.kind) s.views) j ≡ some k → k ≡ Spent
    closed = (AreSeated-closed cpus (map (λ (u : View). u.kind) s.views) id made back r.seats (at_map (λ (u : View). u.kind) s.views id v here ∙ ap (λ (x : SeatKind). some x) kind) all).2

    spent_entry : (j : ℕ) (x : Seen) → get_elem? (column tok s.views) j ≡ some x → j ≢ id → x.entry ≡ at [] tok
    spent_entry j x e apart =
        let it = of_map (seen_by tok) s.views j x e in
        let gone : it.0.kind ≡ Spent = closed j it.0.kind apart (at_map (λ (u : View). u.kind) s.views j it.0 it.1) in
        ap (λ (y : Seen). y.entry) (sym it.2) ∙ ap (λ es. at es tok) (r.gone j it.0 it.1 gone)

    free : (a : ℕ) → held_by (token_at r.model tok) a ≡ Nothing
    free a = ⊎_elim (λ nothing. nothing) (λ seat. absurd (
        let it = of_map (seen_by tok) s.views seat.0 seat.1.0 seat.1.1.0 in
        let its : it.0.kind ≡ numbered_seat a = ap (λ (y : Seen). y.kind) it.2 ∙ seat.1.1.1 in
        ⊎_elim
        (λ (same : seat.0 ≡ id).
        let F : ℕ → Type 0 = λ n. get_elem? s.views n ≡ some it.0 in
        let one : v ≡ it.0 = some-injective v it.0 (sym here ∙ subst F same it.1) in
        not_clerk made back a (sym kind ∙ ap (λ (u : View). u.kind) one ∙ its))
        (λ away. not_spent a (sym its ∙ closed seat.0 it.0.kind away (at_map (λ (u : View). u.kind) s.views seat.0 it.0 it.1)))
        (cases_eq seat.0 id)))
        ((r.pictures.each_token tok there).seated a)
      where
        not_clerk : (m b n : ℕ) → Clerk m b ≡ numbered_seat n → ⊥
        not_clerk m b n e = cc

        not_spent : (n : ℕ) → numbered_seat n ≡ Spent → ⊥
        not_spent n e = cc
