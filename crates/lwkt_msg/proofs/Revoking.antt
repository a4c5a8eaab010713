use Rattle.std.proofs.Common.{◌≡◌, ◌≢◌, ℕ, ◌<◌, eqb, true, ◌∷◌, ◌++◌, length, set, get_or, refl, sym, ◌∙◌, subst}
use Rattle.std.specs.Prelude.{bit_or}
use mathlib.Core.Option.{none}
use prog.Atomic.{either}
use Rattle.std.proofs.Common.{inr}
use Rattle.atomic_table.specs.Table.{Me, step, Act, keeps, takes, stepped, carried_after, Valid, Allows}
use Rattle.atomic_table.proofs.Lists.{exchanged}
use Rattle.lwkt_base.specs.declared.names.CpuId.{CpuId}
use Rattle.lwkt_base.specs.declared.records.Rec.{Rec}
use Rattle.lwkt_base.specs.declared.message_words.MsgWord.{MsgWord}
use Rattle.lwkt_base.specs.declared.message_words.MsgState.TheVariants as state
use Rattle.lwkt_base.specs.MessageWord.{message_word, MessageFits}
use Rattle.lwkt_table.specs.declared.seats.Operation.TheVariants as operation
use Rattle.lwkt_table.specs.declared.seats.SeatKind.TheVariants.{Of}
use Rattle.lwkt_core.specs.Messages.{origin_of, target_of}
use Rattle.lwkt_msg.specs.declared.views.MessageEntry.{MessageEntry}
use Rattle.lwkt_msg.specs.declared.views.Key.{Key}
use Rattle.lwkt_msg.specs.declared.views.View.{View}
use Rattle.lwkt_msg.specs.Views.{word_at, slot_at, at, who, noted, dropped, requested}
use Rattle.lwkt_msg.specs.Book.{parts_of, mail_at}
use Rattle.lwkt_msg.specs.Hands.{IsOwn}
use Rattle.lwkt_msg.specs.Steps.{rest_word}
use Rattle.lwkt_msg.specs.Deeds as deed
use Rattle.lwkt_msg.specs.Ledger.{Ledger}
use Rattle.lwkt_msg.specs.Plays.{Recalled, drops_it, HasAsked, requests}
use Rattle.lwkt_msg.proofs.WordFacts.{message_word-injective}
use Rattle.lwkt_msg.proofs.Allowing.{at_word, there, kept, sees, parts_fit, deed_by_who, was_sent}
use Rattle.lwkt_msg.proofs.Leading as lead
use Rattle.lwkt_msg.proofs.StepDeeds as stepping

-- what the origin does with a message that is away: it takes it back, or asks for it to be aborted
module _ (key : Key) (id : ℕ) (me : Me Rec View) (cpu : CpuId) (m : ℕ) (is_seat : me.0.kind ≡ Of cpu) (within : m < length me.0.specs) where
  -- the exchange of a drop
  pub drop_allowed : (slots old new : ℕ) (w : MsgWord) → old ≡ message_word w → new ≡ message_word (rest_word cpu (at me.0 m).round) → MessageFits w → w.state ≡ state.Out → IsOwn me.0 cpu.0 m → (at me.0 m).had ≡ true
      → Allows (Ledger key) slots id me (word_at m) (λ n. either (eqb n old) new n) (drops_it (step slots (word_at m) old new none) me)
  drop_allowed slots old new w old_is new_is fits out own had s ledger deep at_id small =
      exchanged n old new
      (λ x. (v' : View) × (a : Act Rec) × Valid s.homes me.1 a × Ledger key (stepped s (word_at m) x id me.1 v' a) × drops_it (step slots (word_at m) old new none) me n (v', carried_after me.1 a))
      hit miss
    where
      n : ℕ
      n = get_or s.words (word_at m) 0

      here : m < length key.specs.items
      here = there key s id me.0 cpu m ledger.rule at_id is_seat within

      rec : Rec
      rec = (mail_at ledger.rule.mails m).rec

      word : ℕ
      word = message_word (rest_word cpu (at me.0 m).round)

      hit : n ≡ old → (v' : View) × (a : Act Rec) × Valid s.homes me.1 a × Ledger key (stepped s (word_at m) new id me.1 v' a) × drops_it (step slots (word_at m) old new none) me n (v', carried_after me.1 a)
      hit found =
          let t = stepping.drop_is_deed key s id me.0 cpu m ledger at_id is_seat here w me.1 own had (found ∙ old_is) fits out in
          let e' : MessageEntry = dropped (at me.0 m) in
          let v' : View = noted t.between me.0 m e' (deed.drops cpu m (message_word w) word rec) in
          let F : ℕ → Type 0 = λ x. Ledger key record { words = set s.words (word_at m) x; homes = set s.homes (slot_at m) none; views = set s.views id v' } in
          let same = deed_by_who key s ledger id me.0 cpu is_seat me.1 m e' (λ c. deed.drops c m (message_word w) word rec) word (takes (slot_at m) rec) t in
          let owner_is = lead.goes_out key ledger.rule.mails s id me.0 cpu m ledger.rule.book at_id is_seat here w (found ∙ old_is) fits out in
          let shows_it : (k : ℕ) → word_at m ≡ word_at k → (x : MsgWord) → MessageFits x → old ≡ message_word x → Recalled k x old new me n (v', (slot_at m, rec) ∷ me.1)
          = at_word m (λ k. (x : MsgWord) → MessageFits x → old ≡ message_word x → Recalled k x old new me n (v', (slot_at m, rec) ∷ me.1))
          (λ x x_fits is.
          let w_is : w ≡ x = message_word-injective w x fits x_fits (sym old_is ∙ is) in
          record {
            won = λ _. (
              rec,
              record {
                between = t.between;
                others = t.others;
                view_is = same ∙ (λ i. noted t.between me.0 m e' (deed.drops (who me.0) m (message_word (w_is i)) (sym new_is i) rec));
                call_is = sym (lead.knows_own key ledger.rule.mails s id me.0 cpu m ledger.rule.book at_id is_seat here own).call_is;
                sent = was_sent key s m ledger here (origin_of (mail_at ledger.rule.mails m).msg.owner) (target_of (mail_at ledger.rule.mails m).msg.owner) (me.0.past ++ t.between) owner_is t.front;
              },
              refl,
            );
            lost = λ other. absurd (other found);
          }) in
          (v', takes (slot_at m) rec, t.valid, subst F (sym new_is) t.after, shows_it)

      miss : n ≢ old → (v' : View) × (a : Act Rec) × Valid s.homes me.1 a × Ledger key (stepped s (word_at m) n id me.1 v' a) × drops_it (step slots (word_at m) old new none) me n (v', carried_after me.1 a)
      miss other =
          let t = stepping.look_is_deed key s id me.0 cpu m ledger at_id is_seat here (at me.0 m) (operation.Exchange old new) me.1 keeps tt refl (λ known. known) (inr (old, new, (refl, other))) in
          let v' : View = noted t.between me.0 m (at me.0 m) (deed.loses cpu m old new n) in
          let same = deed_by_who key s ledger id me.0 cpu is_seat me.1 m (at me.0 m) (λ c. deed.loses c m old new n) n keeps t in
          let is_word : n ≡ message_word (parts_of (mail_at ledger.rule.mails m)) = (kept key s id me.0 cpu m ledger.rule at_id is_seat within).is_word in (
            v',
            keeps,
            tt,
            t.after,
            at_word m (λ k. (x : MsgWord) → MessageFits x → old ≡ message_word x → Recalled k x old new me n (v', me.1))
                (λ x x_fits is. record {
                  won = λ found. absurd (other found);
                  lost = λ _. (
                    record {
                      other = parts_of (mail_at ledger.rule.mails m);
                      fits = parts_fit key s id me.0 cpu m ledger.rule at_id is_seat within;
                      sees = sees key s id me.0 cpu m ledger.rule at_id is_seat within;
                      differs = λ h. other (is_word ∙ h);
                      view_is = (t.between, (t.others, same ∙ (λ i. noted t.between me.0 m (at me.0 m) (deed.loses (who me.0) m old new (is_word i)))));
                    },
                    refl,
                  );
                }),
          )

  -- the bit of a request to abort
  pub request_allowed : (slots : ℕ) → IsOwn me.0 cpu.0 m → (at me.0 m).away ≡ true → Allows (Ledger key) slots id me (word_at m) (λ n. bit_or n 4) (requests (step slots (word_at m) 4 0 none) me)
  request_allowed slots own away s ledger deep at_id small =
      let n : ℕ = get_or s.words (word_at m) 0 in
      let e' : MessageEntry = requested (at me.0 m) in
      let t = stepping.abort_is_deed key s id me.0 cpu m ledger at_id is_seat (there key s id me.0 cpu m ledger.rule at_id is_seat within) me.1 own away in
      let v' : View = noted t.between me.0 m e' (deed.requests cpu m n) in
      let same = deed_by_who key s ledger id me.0 cpu is_seat me.1 m e' (λ c. deed.requests c m n) (bit_or n 4) keeps t in
      let is_word : n ≡ message_word (parts_of (mail_at ledger.rule.mails m)) = (kept key s id me.0 cpu m ledger.rule at_id is_seat within).is_word in (
        v',
        keeps,
        tt,
        t.after,
        at_word m (λ k. HasAsked k me.0 v' × (me.1 ≡ me.1)) (
          record {
            met = parts_of (mail_at ledger.rule.mails m);
            fits = parts_fit key s id me.0 cpu m ledger.rule at_id is_seat within;
            sees = sees key s id me.0 cpu m ledger.rule at_id is_seat within;
            view_is = (t.between, (t.others, same ∙ (λ i. noted t.between me.0 m e' (deed.requests (who me.0) m (is_word i)))));
          },
          refl,
        ),
      )
