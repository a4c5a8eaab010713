use Rattle.std.proofs.Common.{map, false, Some, inl, ◌≡◌, ⊎_elim, ℕ, zero, suc, ◌+◌, ◌*◌, ◌<◌, ◌≤◌, List, [], ◌∷◌, ◌++◌, length, get_or, replicate, refl, ap, sym, ◌∙◌, subst, arith, All, None, length-append}
use Rattle.std.specs.Prelude.{slice_index}
use Rattle.std.specs.List.{flat_map}
use Rattle.std.proofs.lemmas.Bool.{cases_lt, false≢true}
use Rattle.std.proofs.Math.ListN.{get_or-eq_default}
use Rattle.std.proofs.lemmas.List.{get_or-map, get_or-append_right, get_or_append_left, length-map}
use mathlib.Core.Option.{Option, some, some-injective, some-ne-none}
use lib.ListN.{get_elem?}
use Rattle.atomic_table.specs.Table.{opening as table_opening}
use Rattle.lwkt_base.specs.declared.names.CpuId.{CpuId}
use Rattle.lwkt_base.specs.declared.laws.Law.TheVariants.{Any, Tally}
use Rattle.lwkt_base.specs.declared.holdings.Held.TheVariants.{Nothing}
use Rattle.lwkt_base.specs.declared.opening_specs.TokSpec.{TokSpec}
use Rattle.lwkt_base.specs.TokenWord.{word_of}
use Rattle.lwkt_table.specs.declared.seats.SeatKind.TheVariants.{Clerk, Spent}
use Rattle.lwkt_core.specs.declared.tokens.Token.{Token}
use Rattle.lwkt_core.specs.Picture.{picture_of}
use Rattle.lwkt_core.specs.Opening.{opened_token, opening, AreWithin, AllOpenLawfully, IsTokenWithin}
use Rattle.lwkt_core.proofs.OpeningLemmas.{IsSafe-opening}
use Rattle.lwkt_table.proofs.SeatingLemmas.{AreSeated-opening, at_map}
use Rattle.lwkt_bank.specs.declared.views.Plan.{Plan}
use Rattle.lwkt_bank.specs.declared.views.View.{View}
use Rattle.lwkt_bank.specs.Views.{RecordOf, blank, first_view, new_seat, one_generation}
use Rattle.lwkt_table.specs.Seating.{next_seat}
use Rattle.lwkt_bank.specs.declared.notes.TokenNote.{TokenNote}
use Rattle.lwkt_bank.specs.Notes.{seat_number, no_note, IsNoted, Keeps}
use Rattle.lwkt_bank.specs.Rule.{token_word, cell_word, law_word, param_word, law_number, Seen, column, held_by_kind, Knows, ShowsToken, lies_in, Rule, plan_at, token_at, no_plan, no_token}
use Rattle.lwkt_bank.specs.Opened.{kept_in, slot_of_spec, opening_slots, plan_of_spec, plans_of, block, opening_words}
use Rattle.lwkt_bank.proofs.GatherMoves.{Knows-blank}

-- what stands for a token past the last
no_spec : TokSpec
no_spec = record { cells = []; law = Any; param = 0; generation = 0; blob = None }

-- the words of all tokens, and those of one
length-blocks : (specs : List TokSpec) → length (flat_map block specs) ≡ 16 * length specs
length-blocks [] = refl
length-blocks (s ∷ specs) = let l = length-append (block s) (flat_map block specs) in let r = length-blocks specs in omega arith

block_at : (specs : List TokSpec) (t j : ℕ) → t < length specs → j < 16 → get_or (flat_map block specs) (16 * t + j) 0 ≡ get_or (block (get_or specs t no_spec)) j 0
block_at [] t j there low = absurd (omega arith)
block_at (s ∷ specs) zero j there low =
    ap (λ (k : ℕ). get_or (block s ++ flat_map block specs) k 0) (omega arith) ∙ get_or_append_left (block s) (flat_map block specs) 0 j (omega arith)
block_at (s ∷ specs) (suc t) j there low =
    get_or-append_right (block s) (flat_map block specs) 16 (16 * suc t + j) 0 refl (omega arith)
    ∙ ap (λ (k : ℕ). get_or (flat_map block specs) k 0) (omega arith)
    ∙ block_at specs t j (omega arith) low

word_at : (specs : List TokSpec) (t j i : ℕ) → t < length specs → j < 16 → i ≡ 16 * t + 1 + j → slice_index (opening_words specs) i ≡ get_or (block (get_or specs t no_spec)) j 0
word_at specs t j i there low is =
    ap (λ (k : ℕ). get_or (0 ∷ flat_map block specs) k 0) (let e : i ≡ suc (16 * t + j) = omega arith in e) ∙ block_at specs t j there low

replicated : {A : Type 0} (n i : ℕ) (a : A) → get_or (replicate n a) i a ≡ a
replicated zero i a = refl
replicated (suc n) zero a = refl
replicated (suc n) (suc i) a = replicated n i a

-- the one view of the opening
first_only : (plans : List Plan) (t k : ℕ) (x : Seen) (P : Seen → Type 0) → get_elem? (column t (first_view plans ∷ [])) k ≡ some x → P (record { kind = Clerk 0 0; entry = blank t }) → P x
first_only plans t zero x P e p = subst P (some-injective (record { kind = Clerk 0 0; entry = blank t }) x e) p
first_only plans t (suc k) x P e p = absurd (some-ne-none x (sym e))

cell_in_plan : (spec : TokSpec) (i : ℕ) → i < 4 → slice_index (plan_of_spec spec).first i ≡ slice_index spec.cells i
cell_in_plan spec zero low = refl
cell_in_plan spec (suc zero) low = refl
cell_in_plan spec (suc (suc zero)) low = refl
cell_in_plan spec (suc (suc (suc zero))) low = refl
cell_in_plan spec (suc (suc (suc (suc i)))) low = absurd (omega arith)

-- what lies in a slot at the opening
lies_home : (blob : RecordOf) → some (kept_in blob) ≡ lies_in blob false
lies_home None = refl
lies_home (Some bytes) = refl

-- an element of a list is there
elem_there : {A : Type 0} (xs : List A) (i : ℕ) (d : A) → i < length xs → get_elem? xs i ≡ some (get_or xs i d)
elem_there [] i d low = absurd (omega arith)
elem_there (x ∷ xs) zero d low = refl
elem_there (x ∷ xs) (suc i) d low = elem_there xs i d (omega arith)

slot_there : (specs : List TokSpec) (t : ℕ) → t < length specs → get_elem? (map (λ (bytes : List ℕ). some bytes) (opening_slots specs)) t ≡ some (some (kept_in (get_or specs t no_spec).blob))
slot_there specs t there = at_map (λ (bytes : List ℕ). some bytes) (opening_slots specs) t (slot_of_spec (get_or specs t no_spec)) (at_map slot_of_spec specs t (get_or specs t no_spec) (elem_there specs t no_spec there))

-- a token at the opening
Shows-opening : (plans : List Plan) (spec : TokSpec) (t word : ℕ) (cells : ℕ → ℕ) (home : Option (Option (List ℕ))) → length spec.cells ≤ 4 → home ≡ some (some (kept_in spec.blob)) → word ≡ one_generation * spec.generation → ((i : ℕ) → i < length spec.cells → cells i ≡ slice_index spec.cells i)
    → ShowsToken (plan_of_spec spec) home word cells (column t (first_view plans ∷ [])) (opened_token spec)
Shows-opening plans spec t word cells home short lay is rows = record {
  slot = lay ∙ ap (λ (o : Option (List ℕ)). some o) (lies_home spec.blob);
  guard = refl;
  law = refl;
  param = refl;
  long = refl;
  count_word = let e : word_of (picture_of (opened_token spec)) ≡ one_generation * spec.generation = omega arith in is ∙ sym e;
  row = rows;
  held = λ k x e. first_only plans t k x (λ y. y.entry.held ≡ held_by_kind (opened_token spec) y.kind) e refl;
  seated = λ cpu. inl (replicated 8 cpu Nothing);
  tallies = λ cpu. replicated 8 cpu 0;
  sections = omega arith;
  opening = λ same i low. sym (cell_in_plan spec i (omega arith));
  opening_blob = λ same. refl;
  known = λ k x e. first_only plans t k x (λ y. Knows (opened_token spec) y.entry) e (Knows-blank (opened_token spec) (blank t) refl refl refl refl);
}

-- the rule at the opening
rule_opening : (cpus : ℕ) (specs : List TokSpec) → AreWithin cpus specs [] → AllOpenLawfully specs → Rule (plans_of specs) cpus (table_opening (opening_words specs) (opening_slots specs) (first_view (plans_of specs)))
rule_opening cpus specs within lawful = record {
  model = opening cpus specs [];
  safe = IsSafe-opening cpus specs [] within lawful;
  pictures = record {
    processors = refl;
    as_many = length-map specs opened_token ∙ sym (length-map specs plan_of_spec);
    no_messages = refl;
    each_token = λ t h.
        let there : t < length specs = (let l = length-map specs plan_of_spec in omega arith) in
        let spec = get_or specs t no_spec in
        let short : length spec.cells ≤ 4 = (within.each_token t no_spec there).0 in
        let F : Plan → Type 0 = λ p. ShowsToken p (get_elem? (map (λ (bytes : List ℕ). some bytes) (opening_slots specs)) t) (slice_index (opening_words specs) (token_word t)) (λ i. slice_index (opening_words specs) (cell_word t i)) (column t (first_view (plans_of specs) ∷ [])) (token_at (opening cpus specs []) t) in
        let G : Token → Type 0 = λ k. ShowsToken (plan_of_spec spec) (get_elem? (map (λ (bytes : List ℕ). some bytes) (opening_slots specs)) t) (slice_index (opening_words specs) (token_word t)) (λ i. slice_index (opening_words specs) (cell_word t i)) (column t (first_view (plans_of specs) ∷ [])) k in
        subst F (sym (get_or-map plan_of_spec specs t no_spec no_plan there)) (subst G (sym (get_or-map opened_token specs t no_spec no_token there))
        (Shows-opening (plans_of specs) spec t (slice_index (opening_words specs) (token_word t)) (λ i. slice_index (opening_words specs) (cell_word t i)) (get_elem? (map (λ (bytes : List ℕ). some bytes) (opening_slots specs)) t) short (slot_there specs t there)
        (word_at specs t 0 (token_word t) there (omega arith) (omega arith))
        (λ i low. word_at specs t (1 + i) (cell_word t i) there (omega arith) (omega arith) ∙ cell_in spec i (omega arith))));
  };
  wide = let b = length-blocks specs in let l = length-map specs plan_of_spec in omega arith;
  zero_word = refl;
  laws = λ t h.
      let there : t < length specs = (let l = length-map specs plan_of_spec in omega arith) in
      let same = get_or-map plan_of_spec specs t no_spec no_plan there in
      (word_at specs t 5 (law_word t) there (omega arith) (omega arith) ∙ ap (λ (p : Plan). law_number p.law) (sym same), word_at specs t 6 (param_word t) there (omega arith) (omega arith) ∙ ap (λ (p : Plan). p.param) (sym same));
  seats = AreSeated-opening cpus;
  informed = λ j v e. inl (only j v e);
  gone = λ j v e was. absurd (let h : Clerk 0 0 ≡ Spent = sym (is_clerk j v e) ∙ was in cc);
}
  where
    is_clerk : (j : ℕ) (v : View) → get_elem? (first_view (plans_of specs) ∷ []) j ≡ some v → v.kind ≡ Clerk 0 0
    is_clerk zero v e = ap (λ (w : View). w.kind) (sym (some-injective (first_view (plans_of specs)) v e))
    is_clerk (suc j) v e = absurd (some-ne-none v (sym e))

    only : (j : ℕ) (v : View) → get_elem? (first_view (plans_of specs) ∷ []) j ≡ some v → v.plans ≡ plans_of specs
    only zero v e = ap (λ (w : View). w.plans) (sym (some-injective (first_view (plans_of specs)) v e))
    only (suc j) v e = absurd (some-ne-none v (sym e))

    cell_in : (spec : TokSpec) (i : ℕ) → i < 4 → get_or (block spec) (1 + i) 0 ≡ slice_index spec.cells i
    cell_in spec zero low = refl
    cell_in spec (suc zero) low = refl
    cell_in spec (suc (suc zero)) low = refl
    cell_in spec (suc (suc (suc zero))) low = refl
    cell_in spec (suc (suc (suc (suc i)))) low = absurd (omega arith)

pub Rule-opening : (cpus : ℕ) (specs : List TokSpec) → AreWithin cpus specs [] → AllOpenLawfully specs → (r : Rule (plans_of specs) cpus (table_opening (opening_words specs) (opening_slots specs) (first_view (plans_of specs)))) × (r.model ≡ opening cpus specs [])
unfolding rule_opening
Rule-opening cpus specs within lawful = (rule_opening cpus specs within lawful, refl)

-- what stands in a plan that is made of an opening
plan_read : (specs : List TokSpec) (tok : ℕ) → tok < length specs → plan_at (plans_of specs) tok ≡ plan_of_spec (get_or specs tok no_spec)
plan_read specs tok there = get_or-map plan_of_spec specs tok no_spec no_plan there

no_plan_there : (specs : List TokSpec) (tok : ℕ) → length specs ≤ tok → plan_at (plans_of specs) tok ≡ no_plan
no_plan_there specs tok beyond = let l = length-map specs plan_of_spec in let far : length (plans_of specs) ≤ tok = omega arith in get_or-eq_default (plans_of specs) no_plan far

pub short_plans : (specs : List TokSpec) → All IsTokenWithin specs → (tok : ℕ) → (plan_at (plans_of specs) tok).cells ≤ 4
short_plans specs within tok = ⊎_elim
    (λ (there : tok < length specs). let e = ap (λ (p : Plan). p.cells) (plan_read specs tok there) in let w = (within tok no_spec there).0 in omega arith)
    (λ (beyond : length specs ≤ tok). let e = ap (λ (p : Plan). p.cells) (no_plan_there specs tok beyond) in omega arith)
    (cases_lt tok (length specs))

pub single_plans : (specs : List TokSpec) → All IsTokenWithin specs → (tok : ℕ) → (plan_at (plans_of specs) tok).law ≡ Tally → (plan_at (plans_of specs) tok).cells ≡ 1
single_plans specs within tok tally = ⊎_elim
    (λ (there : tok < length specs).
    let e = plan_read specs tok there in
    ap (λ (p : Plan). p.cells) e ∙ (within tok no_spec there).1 (sym (ap (λ (p : Plan). p.law) e) ∙ tally))
    (λ (beyond : length specs ≤ tok). absurd (let h : Any ≡ Tally = sym (ap (λ (p : Plan). p.law) (no_plan_there specs tok beyond)) ∙ tally in cc))
    (cases_lt tok (length specs))

pub many_plans : (specs : List TokSpec) → length (plans_of specs) ≡ length specs
many_plans specs = length-map specs plan_of_spec

-- what a new seat keeps is what its view says
pub Keeps-new : (cpu : CpuId) (v w : View) → v.kind ≡ Clerk cpu.0 0 → w ≡ new_seat v → Keeps (replicate 64 no_note) cpu w
Keeps-new cpu v w kind is =
    let F : View → Type 0 = λ x. Keeps (replicate 64 no_note) cpu x in
    subst F (sym is) (record {
      seat = ap (λ k. seat_number (next_seat k)) kind;
      each = λ tok h.
          let G : TokenNote → Type 0 = λ n. IsNoted (plan_at v.plans tok) cpu.0 (blank tok) n in
          subst G (sym (replicated 64 tok no_note)) (record {
            record_touched = λ held. absurd (false≢true held);
            guarded = λ held. absurd (false≢true held);
            short = λ held bytes its. absurd (false≢true held);
            four = refl;
            firsts = refl;
            tally = refl;
            own = λ other away. refl;
            long = λ held. absurd (false≢true held);
            references = refl;
            few = omega arith;
            mode = λ held. absurd (false≢true held);
            touched = λ cell held. absurd (false≢true held);
            stored_to = λ cell inside held. absurd (false≢true held);
            lasts = refl;
            latest = λ cell held stored_to. absurd (false≢true held);
            covered = λ tally held stored_to. absurd (false≢true held);
          });
      within = λ tok held. absurd (false≢true held);
    })
