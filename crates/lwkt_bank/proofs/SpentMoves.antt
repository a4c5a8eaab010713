use Rattle.std.proofs.Common.{inl, inr, ◌≡◌, ⊎_elim, ℕ, List, [], ◌∷◌, ◌++◌, map, refl, ap, sym, subst, arith}
use Rattle.std.specs.Prelude.{slice_index}
use mathlib.Core.Option.{Option}
use lib.ListN.{get_elem?}
use Rattle.lwkt_table.specs.declared.seats.SeatKind.{SeatKind}
use Rattle.lwkt_table.specs.declared.seats.SeatKind.TheVariants.{Spent}
use Rattle.lwkt_core.specs.declared.tokens.Token.{Token}
use Rattle.lwkt_table.specs.Seating.{AreSeated}
use Rattle.lwkt_table.specs.History.{Chronicle}
use Rattle.lwkt_table.proofs.SeatingLemmas.{at_snoc, at_longer, map-snoc, total-snoc}
use Rattle.lwkt_table.proofs.SpentMoves.{seated_more, Views-more}
use Rattle.lwkt_bank.specs.declared.views.Plan.{Plan}
use Rattle.lwkt_bank.specs.declared.views.View.{View}
use Rattle.lwkt_bank.specs.Views.{blank, amount, page_of, spent}
use Rattle.lwkt_bank.specs.Rule.{Bench, token_word, cell_word, Seen, seen_by, column, held_by_kind, Knows, ShowsToken, Rule, plan_at, token_at}
use Rattle.lwkt_bank.specs.Ledger.{IsDone, first_machine}
use Rattle.lwkt_bank.specs.Laws.{SpentIsNoDeed}
use Rattle.lwkt_bank.proofs.GatherMoves.{Knows-blank}

-- a token seen by one spent view more
shows_more : (plan : Plan) (home : Option (Option (List ℕ))) (word : ℕ) (cells : ℕ → ℕ) (views : List Seen) (tok : Token) (t : ℕ) → ShowsToken plan home word cells views tok
    → ShowsToken plan home word cells (views ++ record { kind = Spent; entry = blank t } ∷ []) tok
shows_more plan home word cells views tok t shows =
    let z : Seen = record { kind = Spent; entry = blank t } in
    record {
      slot = shows.slot;
      guard = shows.guard;
      opening_blob = shows.opening_blob;
      law = shows.law;
      param = shows.param;
      long = shows.long;
      count_word = shows.count_word;
      row = shows.row;
      opening = shows.opening;
      held = λ k u e. ⊎_elim (λ old. shows.held k u old) (λ new. subst (λ (w : Seen). w.entry.held ≡ held_by_kind tok w.kind) new.1 refl) (at_snoc views z u k e);
      seated = λ a. ⊎_elim (λ nothing. inl nothing) (λ there. inr (there.0, (there.1.0, (at_longer views (z ∷ []) there.0 there.1.0 there.1.1.0, there.1.1.1)))) (shows.seated a);
      tallies = λ a. let one = total-snoc (λ (w : Seen). amount a w.entry.added) views z in let old = shows.tallies a in omega arith;
      sections = let one = total-snoc (λ (w : Seen). w.entry.written) views z in let old = shows.sections in omega arith;
      known = λ k u e. ⊎_elim (λ old. shows.known k u old) (λ new. subst (λ (w : Seen). Knows tok w.entry) new.1 (Knows-blank tok (blank t) refl refl refl refl)) (at_snoc views z u k e);
    }

-- the table with one spent view more
abbrev with_spent : Bench → Bench
with_spent s = record { words = s.words; homes = s.homes; views = s.views ++ spent ∷ [] }

rule_more : (plans : List Plan) (cpus : ℕ) (s : Bench) → Rule plans cpus s → Rule plans cpus (with_spent s)
rule_more plans cpus s r = record {
  model = r.model;
  safe = r.safe;
  pictures = record {
    processors = r.pictures.processors;
    as_many = r.pictures.as_many;
    no_messages = r.pictures.no_messages;
    each_token = λ tok low.
        let F : List Seen → Type 0 = λ vs. ShowsToken (plan_at plans tok) (get_elem? s.homes tok) (slice_index s.words (token_word tok)) (λ i. slice_index s.words (cell_word tok i)) vs (token_at r.model tok) in
        subst F (sym (map-snoc (seen_by tok) s.views spent))
        (shows_more (plan_at plans tok) (get_elem? s.homes tok) (slice_index s.words (token_word tok)) (λ i. slice_index s.words (cell_word tok i)) (column tok s.views) (token_at r.model tok) tok (r.pictures.each_token tok low));
  };
  wide = r.wide;
  zero_word = r.zero_word;
  laws = r.laws;
  seats =
      let F : List SeatKind → Type 0 = λ ks. AreSeated cpus ks in
      subst F (sym (map-snoc (λ (v : View). v.kind) s.views spent)) (seated_more cpus (map (λ (v : View). v.kind) s.views) r.seats);
  informed = λ j v e. ⊎_elim (λ old. r.informed j v old) (λ new. inr (sym new.1)) (at_snoc s.views spent v j e);
  gone = λ j v e was. ⊎_elim (λ old. r.gone j v old was) (λ new. ap (λ (u : View). u.tokens) (sym new.1)) (at_snoc s.views spent v j e);
}

Rule-more : (plans : List Plan) (cpus : ℕ) (s : Bench) (r : Rule plans cpus s) → (q : Rule plans cpus (with_spent s)) × (q.model ≡ r.model)
unfolding rule_more
Rule-more plans cpus s r = (rule_more plans cpus s r, refl)

-- one spent view more is no deed
pub spent_is_no_deed : SpentIsNoDeed
spent_is_no_deed plans cpus s ledger =
    let first = first_machine plans cpus in
    let r = Rule-more plans cpus s ledger.rule in
    let c = Views-more IsDone page_of first ledger.rule.model s.views spent refl ledger.chronicle in
    let G : _ → Type 0 = λ m. (q : Chronicle IsDone first (map page_of (s.views ++ spent ∷ [])) m) × (q.history ≡ ledger.chronicle.history) in
    let d = subst G (sym r.1) c in
    (record { rule = r.0; chronicle = d.0 }, r.1, d.1)
