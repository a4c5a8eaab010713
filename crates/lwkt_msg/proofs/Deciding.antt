use Rattle.std.proofs.Common.{◌≡◌, ⊎_elim, ℕ, List, [], ◌∷◌, set, get_or, ap, sym, ◌∙◌, subst}
use Rattle.lwkt_base.specs.declared.names.CpuId.{CpuId}
use Rattle.lwkt_base.specs.declared.owners.Owner.TheVariants.{Out}
use Rattle.lwkt_base.specs.declared.records.Rec.{Rec}
use Rattle.lwkt_base.specs.declared.message_words.MsgWord.{MsgWord}
use Rattle.lwkt_base.specs.MessageWord.{message_word}
use Rattle.lwkt_core.specs.declared.messages.Message.{Message}
use Rattle.lwkt_core.specs.declared.events.Event.{Event}
use Rattle.lwkt_core.specs.declared.events.Event.TheVariants.{Load, Take, Share, Again, Mark, GiveOne, GiveClean, GiveWritten, Read, Write, ReadBlob, WriteBlob, Send, TakeMsg, DropMsg, Reply, Reap, Abort}
use Rattle.lwkt_table.specs.declared.seats.WordStep.{WordStep}
use Rattle.lwkt_table.specs.declared.seats.Deed.{Deed}
use Rattle.lwkt_core.specs.Messages.{message_after}
use Rattle.lwkt_table.specs.History.{IsStepOver}
use Rattle.lwkt_msg.specs.Book.{Mail, parts_of, mail_at}
use Rattle.lwkt_msg.specs.Ledger.{IsRecordOf, IsSentAs, IsHandedOut, IsLook, IsEvent, IsDone}
use Rattle.lwkt_msg.proofs.WordFacts.{flags_in_word}
use Rattle.lwkt_msg.proofs.Recording.{same_record}

-- lists of one element, and of none
one_step : (a b : WordStep) → a ∷ [] ≡ b ∷ [] → a ≡ b
one_step a b h = ap (λ (xs : List WordStep). get_or xs 0 a) h

one_event : (a b : Event) → a ∷ [] ≡ b ∷ [] → a ≡ b
one_event a b h = ap (λ (xs : List Event). get_or xs 0 a) h

no_record : (rs : List Rec) (r : Rec) → rs ≡ [] → rs ≡ r ∷ [] → ⊥
no_record rs r none one = let h : [] ≡ r ∷ [] = sym none ∙ one in cc

no_event : (es : List Event) (e : Event) → es ≡ [] → es ≡ e ∷ [] → ⊥
no_event es e none one = let h : [] ≡ e ∷ [] = sym none ∙ one in cc

-- what a look leaves of a message
looks_alike : (mail a b : Mail) (d : Deed) (step : WordStep) → IsLook mail d step a → IsLook mail d step b → a ≡ b
looks_alike mail a b d step x y = ⊎_elim
    (λ (x_same : (d.records ≡ []) × (a ≡ mail)). ⊎_elim
    (λ (y_same : (d.records ≡ []) × (b ≡ mail)). x_same.1 ∙ sym y_same.1)
    (λ (y_handed : IsHandedOut mail d b). absurd (no_record d.records mail.rec x_same.0 y_handed.records))
    y.leaves)
    (λ (x_handed : IsHandedOut mail d a). ⊎_elim
    (λ (y_same : (d.records ≡ []) × (b ≡ mail)). absurd (no_record d.records mail.rec y_same.0 x_handed.records))
    (λ (y_handed : IsHandedOut mail d b). x_handed.leaves ∙ sym y_handed.leaves)
    y.leaves)
    x.leaves

-- what an event leaves of the record
same_rec : (e : Event) (old a b : Rec) (records : List Rec) → IsRecordOf e old a records → IsRecordOf e old b records → a ≡ b
same_rec (Send cpu msg to round) old a b records x y = same_record a b (sym x.0 ∙ y.0)
same_rec (TakeMsg cpu msg round) old a b records x y = x.1 ∙ sym y.1
same_rec (DropMsg cpu msg) old a b records x y = x.1 ∙ sym y.1
same_rec (Reply cpu msg) old a b records x y = same_record a b (sym x.0 ∙ y.0)
same_rec (Reap cpu msg) old a b records x y = x.1 ∙ sym y.1
same_rec (Abort cpu msg) old a b records x y = x.1 ∙ sym y.1
same_rec (Load cpu tok) old a b records x y = absurd x
same_rec (Take cpu tok) old a b records x y = absurd x
same_rec (Share cpu tok) old a b records x y = absurd x
same_rec (Again cpu tok) old a b records x y = absurd x
same_rec (Mark cpu tok) old a b records x y = absurd x
same_rec (GiveOne cpu tok) old a b records x y = absurd x
same_rec (GiveClean cpu tok) old a b records x y = absurd x
same_rec (GiveWritten cpu tok section) old a b records x y = absurd x
same_rec (Read cpu tok cell value) old a b records x y = absurd x
same_rec (Write cpu tok cell value) old a b records x y = absurd x
same_rec (ReadBlob cpu tok blob) old a b records x y = absurd x
same_rec (WriteBlob cpu tok blob) old a b records x y = absurd x

-- how a message was sent, which its word says while it is away
SentAlike : Mail → Mail → Type 0
SentAlike a b = (a.sync ≡ b.sync) × (a.flags ≡ b.flags)

word_with : Message → Mail → ℕ
word_with msg a = message_word (parts_of (record a { msg = msg }))

out_alike : (msg : Message) (o t : CpuId) (a b : Mail) → word_with (record msg { owner = Out o t }) a ≡ word_with (record msg { owner = Out o t }) b → SentAlike a b
unfolding SentAlike word_with
out_alike msg o t a b e =
    let w : MsgWord = parts_of (record a { msg = record msg { owner = Out o t } }) in
    let h = flags_in_word w a.sync a.flags.dropable a.flags.abortable a.flags.priority b.sync b.flags.dropable b.flags.abortable b.flags.priority e in
    (h.0, λ i. record { dropable = h.1 i; abortable = h.2 i; priority = h.3 i })

kept_alike : (mail a b : Mail) → (a.sync ≡ mail.sync) × (a.flags ≡ mail.flags) → (b.sync ≡ mail.sync) × (b.flags ≡ mail.flags) → SentAlike a b
unfolding SentAlike
kept_alike mail a b x y = (x.0 ∙ sym y.0, x.1 ∙ sym y.1)

sent_alike : (e : Event) (mail a b : Mail) → IsSentAs e mail a → IsSentAs e mail b → a.msg ≡ message_after mail.msg e → b.msg ≡ message_after mail.msg e → message_word (parts_of a) ≡ message_word (parts_of b) → SentAlike a b
unfolding word_with
sent_alike (Send cpu msg to round) mail a b x y a_is b_is words =
    let left : Message = message_after mail.msg (Send cpu msg to round) in
    let a_word : word_with left a ≡ message_word (parts_of a) = ap (λ (k : Message). message_word (parts_of (record a { msg = k }))) (sym a_is) in
    let b_word : message_word (parts_of b) ≡ word_with left b = ap (λ (k : Message). message_word (parts_of (record b { msg = k }))) b_is in
    out_alike left cpu to a b (a_word ∙ (words ∙ b_word))
sent_alike (TakeMsg cpu msg round) mail a b x y a_is b_is words = kept_alike mail a b x y
sent_alike (DropMsg cpu msg) mail a b x y a_is b_is words = kept_alike mail a b x y
sent_alike (Reply cpu msg) mail a b x y a_is b_is words = kept_alike mail a b x y
sent_alike (Reap cpu msg) mail a b x y a_is b_is words = kept_alike mail a b x y
sent_alike (Abort cpu msg) mail a b x y a_is b_is words = kept_alike mail a b x y
sent_alike (Load cpu tok) mail a b x y a_is b_is words = absurd x
sent_alike (Take cpu tok) mail a b x y a_is b_is words = absurd x
sent_alike (Share cpu tok) mail a b x y a_is b_is words = absurd x
sent_alike (Again cpu tok) mail a b x y a_is b_is words = absurd x
sent_alike (Mark cpu tok) mail a b x y a_is b_is words = absurd x
sent_alike (GiveOne cpu tok) mail a b x y a_is b_is words = absurd x
sent_alike (GiveClean cpu tok) mail a b x y a_is b_is words = absurd x
sent_alike (GiveWritten cpu tok section) mail a b x y a_is b_is words = absurd x
sent_alike (Read cpu tok cell value) mail a b x y a_is b_is words = absurd x
sent_alike (Write cpu tok cell value) mail a b x y a_is b_is words = absurd x
sent_alike (ReadBlob cpu tok blob) mail a b x y a_is b_is words = absurd x
sent_alike (WriteBlob cpu tok blob) mail a b x y a_is b_is words = absurd x

-- what an event leaves of a message
events_alike : (cpus : ℕ) (mails : List Mail) (m : ℕ) (a b : Mail) (d : Deed) (step : WordStep) → IsEvent cpus mails m d step a → IsEvent cpus mails m d step b → message_word (parts_of a) ≡ message_word (parts_of b) → a ≡ b
unfolding SentAlike
events_alike cpus mails m a b d step x y words =
    let same : y.event ≡ x.event = one_event y.event x.event (sym y.events ∙ x.events) in
    let mail : Mail = mail_at mails m in
    let y_msg : b.msg ≡ message_after mail.msg x.event = y.msg_is ∙ ap (λ (e : Event). message_after mail.msg e) same in
    let y_sent : IsSentAs x.event mail b = let F : Event → Type 0 = λ e. IsSentAs e mail b in subst F same y.sent_as in
    let y_rec : IsRecordOf x.event mail.rec b.rec d.records = let F : Event → Type 0 = λ e. IsRecordOf e mail.rec b.rec d.records in subst F same y.record_is in
    let msg_is : a.msg ≡ b.msg = x.msg_is ∙ sym y_msg in
    let had_is : a.had ≡ b.had = x.had_is ∙ sym y.had_is in
    let sent = sent_alike x.event mail a b x.sent_as y_sent x.msg_is y_msg words in
    let rec_is : a.rec ≡ b.rec = same_rec x.event mail.rec a.rec b.rec d.records x.record_is y_rec in
    λ i. record { msg = msg_is i; had = had_is i; sync = sent.0 i; flags = sent.1 i; rec = rec_is i }

-- a deed decides what it leaves
pub done_decides : (cpus : ℕ) (mails : List Mail) (d : Deed) (b c : List Mail) → IsDone cpus mails d b → IsDone cpus mails d c → b ≡ c
done_decides cpus mails d b c x y =
    let p : y.step ≡ x.step = one_step y.step x.step (sym y.steps ∙ x.steps) in
    let mail : WordStep → Mail = λ t. mail_at mails t.at in
    let F : WordStep → Type 0 = λ t. IsStepOver (message_word (parts_of (mail_at mails t.at))) (message_word (parts_of y.after)) t in
    let over : IsStepOver (message_word (parts_of (mail_at mails x.step.at))) (message_word (parts_of y.after)) x.step = subst F p y.over in
    let words : message_word (parts_of x.after) ≡ message_word (parts_of y.after) = x.over.leaves ∙ sym over.leaves in
    let same : x.after ≡ y.after = ⊎_elim
    (λ (x_looks : IsLook (mail_at mails x.step.at) d x.step x.after). ⊎_elim
    (λ (y_looks : IsLook (mail_at mails y.step.at) d y.step y.after). let G : WordStep → Type 0 = λ t. IsLook (mail_at mails t.at) d t y.after in looks_alike (mail_at mails x.step.at) x.after y.after d x.step x_looks (subst G p y_looks))
    (λ (y_event : IsEvent cpus mails y.step.at d y.step y.after). absurd (no_event d.events y_event.event x_looks.events y_event.events))
    y.what)
    (λ (x_event : IsEvent cpus mails x.step.at d x.step x.after). ⊎_elim
    (λ (y_looks : IsLook (mail_at mails y.step.at) d y.step y.after). absurd (no_event d.events x_event.event y_looks.events x_event.events))
    (λ (y_event : IsEvent cpus mails y.step.at d y.step y.after). let G : WordStep → Type 0 = λ t. IsEvent cpus mails t.at d t y.after in events_alike cpus mails x.step.at x.after y.after d x.step x_event (subst G p y_event) words)
    y.what)
    x.what in
    x.leaves ∙ ((λ i. set mails (sym p i).at (same i)) ∙ sym y.leaves)
