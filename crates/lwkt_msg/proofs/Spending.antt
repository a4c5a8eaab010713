use Rattle.std.proofs.Common.{◌≡◌, ⊎_elim, ℕ, List, [], ◌∷◌, ◌++◌, map, length, refl, ap, sym, ◌∙◌, subst}
use mathlib.Core.Option.{some, some-ne-none}
use lib.ListN.{get_elem?}
use Rattle.atomic_table.specs.Table.{State}
use Rattle.lwkt_base.specs.declared.records.Rec.{Rec}
use Rattle.lwkt_table.specs.declared.seats.SeatKind.{SeatKind}
use Rattle.lwkt_table.specs.declared.seats.SeatKind.TheVariants.{Spent}
use Rattle.lwkt_table.specs.Seating.{AreSeated}
use Rattle.lwkt_table.proofs.SeatingLemmas.{at_snoc, map-snoc}
use Rattle.lwkt_table.proofs.SpentMoves.{seated_more, Views-more}
use Rattle.lwkt_table.proofs.GrownMoves.{Views-were_done}
use Rattle.lwkt_msg.specs.declared.views.Key.{Key}
use Rattle.lwkt_msg.specs.declared.views.Recalled.{Recalled}
use Rattle.lwkt_msg.specs.declared.views.View.{View}
use Rattle.lwkt_msg.specs.Views.{at, page_of, spent_view}
use Rattle.lwkt_msg.specs.Book.{Mail, Knows, mail_at, IsBook}
use Rattle.lwkt_msg.specs.Ledger.{IsDone, first_mails, Recalls}
use Rattle.lwkt_msg.specs.Laws.{SpentIsNoDeed, AllMadeAsNoted}
use Rattle.lwkt_msg.proofs.Deciding.{done_decides}

-- the table with one spent view more
abbrev with_spent : State Rec View → State Rec View
with_spent s = record { words = s.words; homes = s.homes; views = s.views ++ spent_view ∷ [] }

nothing_recalled : (i : ℕ) (x : View) (r : Recalled) → spent_view ≡ x → get_elem? x.recalled i ≡ some r → ⊥
nothing_recalled i x r is e = let h : get_elem? [] i ≡ some r = ap (λ (y : View). get_elem? y.recalled i) is ∙ e in some-ne-none r (sym h)

knows_nothing : (mail : Mail) (m : ℕ) → Knows mail Spent (at spent_view m)
knows_nothing mail m = record { as_origin = λ stands. absurd stands; as_target = λ cpu stands. absurd stands }

book_more : (key : Key) (mails : List Mail) (s : State Rec View) → IsBook key mails s → IsBook key mails (with_spent s)
book_more key mails s book = record {
  within = book.within;
  as_many = book.as_many;
  wide = book.wide;
  deep = book.deep;
  zero_word = book.zero_word;
  seated =
      let F : List SeatKind → Type 0 = λ ks. AreSeated key.cpus ks in
      subst F (sym (map-snoc (λ (x : View). x.kind) s.views spent_view)) (seated_more key.cpus (map (λ (x : View). x.kind) s.views) book.seated);
  plans = λ j x d. ⊎_elim (λ old. book.plans j x old) (λ new lives. absurd (lives (ap (λ (y : View). y.kind) (sym new.1)))) (at_snoc s.views spent_view x j d);
  each = λ m within. let kept = book.each m within in record {
    safe = kept.safe;
    origin_is = kept.origin_is;
    opening_is = kept.opening_is;
    is_word = kept.is_word;
    slot = kept.slot;
    unanswered = kept.unanswered;
    each_view = λ j x d.
        let F : View → Type 0 = λ y. Knows (mail_at mails m) y.kind (at y m) in
        ⊎_elim (λ old. kept.each_view j x old) (λ new. subst F new.1 (knows_nothing (mail_at mails m) m)) (at_snoc s.views spent_view x j d);
  };
}

recalls_more : (views : List View) (mails : List Mail) (count : ℕ) → Recalls views mails count → Recalls (views ++ spent_view ∷ []) mails count
recalls_more views mails count recalls = record {
  chapters = λ j i x r d e. ⊎_elim (λ old. recalls.chapters j i x r old e) (λ new. absurd (nothing_recalled i x r new.1 e)) (at_snoc views spent_view x j d);
  knows = λ j i x r m d e within. ⊎_elim (λ old. recalls.knows j i x r m old e within) (λ new. absurd (nothing_recalled i x r new.1 e)) (at_snoc views spent_view x j d);
}

-- one spent view more is no deed
pub spent_is_no_deed : SpentIsNoDeed
spent_is_no_deed key s ledger =
    let q = Views-more (IsDone key.cpus) page_of (first_mails key.specs.items) ledger.rule.mails s.views spent_view refl ledger.chronicle in
    (record { rule = record { mails = ledger.rule.mails; book = book_more key ledger.rule.mails s ledger.rule.book }; chronicle = q.0; recalls = recalls_more s.views ledger.rule.mails (length key.specs.items) ledger.recalls }, refl, q.1)

-- deeds that are noted at once are done one after another
pub all_made_as_noted : AllMadeAsNoted
all_made_as_noted key s ledger id v w cpu deeds i n hands act after here kind still grows own =
    Views-were_done (IsDone key.cpus) page_of (done_decides key.cpus) (first_mails key.specs.items) ledger.rule.mails after.rule.mails key.cpus s.views id v w cpu deeds ledger.rule.book.seated here kind still grows own ledger.chronicle after.chronicle
