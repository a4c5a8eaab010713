-- One line of a processor's lanes changes, and the others stay: for sends and replies.
use Rattle.std.proofs.Common.{◌≡◌, ℕ, ◌<◌, List, length, refl, ap, sym, subst}
use Rattle.std.specs.Prelude.{Bool, true, All, IfSome, Option, Some, is_some, Result, Ok, Err, OnOk, IfErr, MatchResult, slice_index_or, slice_set}
use Rattle.lwkt_base.specs.declared.faults.Fault.{Fault}
use Rattle.lwkt_base.specs.declared.faults.Fault.TheVariants.{LaneFull, RoundsOut}
use Rattle.lwkt_base.specs.declared.names.MsgId.{MsgId}
use Rattle.lwkt_msg.specs.Desks.{Desk, cpus_of, entry}
use Rattle.lwkt_port.specs.declared.mails.Mail.{Mail}
use Rattle.lwkt_port.specs.Mails.{kept_mail_at, AreMails}
use Rattle.lwkt_port.specs.declared.deeds.Sending.{Sending}
use Rattle.lwkt_port.specs.declared.lines.Lane.{Lane}
use Rattle.lwkt_port.specs.declared.queues.Port.{Port}
use Rattle.lwkt_lane.specs.declared.notes.Note.{Note}
use Rattle.std.proofs.lemmas.List.Elements.{All-set, All-get_or}
use Rattle.lwkt_port.specs.Posts.{ChangesOne, KeepsNamed}
use Rattle.lwkt_port.specs.Queues.{NamesBoth, HasNamed}
use Rattle.lwkt_port.specs.Sendings.{MaySend, SendsOver, RefusesOver, HasSentNote, WhyUnsent, ReplyMeans, Answers}
use Rattle.lwkt_port.specs.Works.{Work}

-- one thing of a list was changed so
pub changed : (A : Type 0) (R : A → A → Type 0) (i j : ℕ) (xs : List A) (old new : A) → j < length xs → old ≡ slice_index_or xs j old → j ≡ i → R old new → ChangesOne R i xs (slice_set xs j new)
changed A R i j xs old new there was is does =
    let F : ℕ → Type 0 = λ n. ChangesOne R n xs (slice_set xs j new) in
    subst F is record { old = old; new = new; there = there; was = sym was; now = refl; does = does }

-- a thread's message was sent, or not
pub dispatched : (r : Result (Unit {0}) Fault) (s : Sending) (lanes : List Lane) (old new : Lane) (w w' : Work) (j : ℕ) → MaySend s w.mails → j < length lanes → old ≡ slice_index_or lanes j old → j ≡ s.to.cpu.0 → MatchResult r (λ _. SendsOver s old new w w') (λ f. RefusesOver s old new w w' f) → OnOk r (HasSentNote s lanes (slice_set lanes j new) w w')
dispatched (Ok x) s lanes old new w w' j may there was is does = record { may = may; over = changed Lane (λ a b. SendsOver s a b w w') s.to.cpu.0 j lanes old new there was is does }
dispatched (Err e) s lanes old new w w' j may there was is does = tt

refused : (f : Fault) (s : Sending) (lanes : List Lane) (old new : Lane) (w w' : Work) (j : ℕ) → MaySend s w.mails → j < length lanes → old ≡ slice_index_or lanes j old → j ≡ s.to.cpu.0 → RefusesOver s old new w w' f → WhyUnsent s lanes (slice_set lanes j new) w w' f
refused LaneFull s lanes old new w w' j may there was is does = (may, changed Lane (λ a b. RefusesOver s a b w w' LaneFull) s.to.cpu.0 j lanes old new there was is does)
refused RoundsOut s lanes old new w w' j may there was is does = (may, changed Lane (λ a b. RefusesOver s a b w w' RoundsOut) s.to.cpu.0 j lanes old new there was is does)
refused _ s lanes old new w w' j may there was is does = absurd does

pub not_dispatched : (r : Result (Unit {0}) Fault) (s : Sending) (lanes : List Lane) (old new : Lane) (w w' : Work) (j : ℕ) → MaySend s w.mails → j < length lanes → old ≡ slice_index_or lanes j old → j ≡ s.to.cpu.0 → MatchResult r (λ _. SendsOver s old new w w') (λ f. RefusesOver s old new w w' f) → IfErr r (λ f. WhyUnsent s lanes (slice_set lanes j new) w w' f)
not_dispatched (Ok x) s lanes old new w w' j may there was is does = tt
not_dispatched (Err e) s lanes old new w w' j may there was is does = refused e s lanes old new w w' j may there was is does

-- a reply was made over one line of the lanes, or that line is full
pub answered_over : (b : Bool) (msg : MsgId) (error outcome : ℕ) (lanes : List Lane) (old new : Lane) (w w' : Work) (j : ℕ) → j < length lanes → old ≡ slice_index_or lanes j old → j ≡ (kept_mail_at w.mails msg.0).origin.cpu.0 → ReplyMeans msg error outcome old new w w' b → Answers msg error outcome lanes (slice_set lanes j new) w w' b
answered_over b msg error outcome lanes old new w w' j there was is does = changed Lane (λ x y. ReplyMeans msg error outcome x y w w' b) (kept_mail_at w.mails msg.0).origin.cpu.0 j lanes old new there was is does

-- a port of those whose notes name messages
pub port_named : (n : ℕ) (ports : List Port) (j : ℕ) (old : Port) → j < length ports → old ≡ slice_index_or ports j old → All (HasNamed n) ports → HasNamed n old
port_named n ports j old there was all = let F : Port → Type 0 = HasNamed n in subst F (sym was) (All-get_or (HasNamed n) ports j old there all)

-- a shown message is taken
pub shown_is_taken : (d : Desk) (mails : List Mail) (m thread : ℕ) → AreMails d mails → m < length mails → (kept_mail_at mails m).shown ≡ Some thread → (entry d m).taken ≡ true
shown_is_taken d mails m thread are there shown = (are.each m there).shown_taken (ap is_some shown)

-- the line to the processor of a message's origin is there
pub line_is_there : (d : Desk) (mails : List Mail) (m : ℕ) → AreMails d mails → m < length mails → (kept_mail_at mails m).origin.cpu.0 < cpus_of d
line_is_there d mails m are there = (are.each m there).there

-- the notes that lines keep name messages and ports, after one line was changed
pub line_kept : (n : ℕ) (lanes : List Lane) (j : ℕ) (old new : Lane) → j < length lanes → old ≡ slice_index_or lanes j old → new.kept ≡ old.kept → All (KeepsNamed n) lanes → All (KeepsNamed n) (slice_set lanes j new)
line_kept n lanes j old new there was kept all =
    let F : Lane → Type 0 = KeepsNamed n in
    let O : Option Note → Type 0 = λ o. IfSome o (NamesBoth n) in
    let before : KeepsNamed n old = subst F (sym was) (All-get_or (KeepsNamed n) lanes j old there all) in
    All-set (KeepsNamed n) lanes j new (subst O (sym kept) before) all

pub line_named : (n n' : ℕ) (lanes : List Lane) (j : ℕ) (new : Lane) → n' ≡ n → All (KeepsNamed n) lanes → KeepsNamed n' new → All (KeepsNamed n') (slice_set lanes j new)
line_named n n' lanes j new same all named =
    let F : ℕ → Type 0 = λ k. All (KeepsNamed k) lanes in
    All-set (KeepsNamed n') lanes j new named (subst F (sym same) all)
