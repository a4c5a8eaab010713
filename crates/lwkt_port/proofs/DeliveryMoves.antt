-- Where notes are taken in, those that a lane's receiving end had seen before are received first.
use Rattle.std.proofs.Common.{◌≡◌, ⊎_elim, ℕ, zero, suc, ◌+◌, ◌-◌, ◌<◌, ◌≤◌, Bool, true, false, inl, inr, List, [], ◌++◌, length, set, get_or, refl, ap, sym, ◌∙◌, subst, arith, length-set, get_or-set_same, get_or-set_other}
use Rattle.std.proofs.lemmas.Bool.{cases_lt}
use Rattle.std.proofs.lemmas.List.{append-nil, get_or_default}
use mathlib.Core.List.{IsPrefix}
use mathlib.Core.Logic.{dite}
use native.Mathlib.Decide.{ℕ_discrete}
use Rattle.std.specs.Prelude.{◌⊎◌, Option, Some, None, IsSome, is_some}
use Rattle.lwkt_base.specs.declared.names.MsgId.{MsgId}
use Rattle.lwkt_lane.specs.declared.ins.LaneIn.{LaneIn}
use Rattle.lwkt_lane.specs.declared.notes.Note.{Note}
use Rattle.lwkt_lane.specs.Lane.{received, seen_notes}
use Rattle.lwkt_port.specs.declared.handlings.Fate.{Fate}
use Rattle.lwkt_port.specs.declared.lines.Lane.{Lane}
use Rattle.lwkt_port.specs.Chains.{Chain}
use Rattle.lwkt_port.specs.Intakes.{Payer, PaysOwed, Pays, Desks, desks_of, Handles, Pops, EmptiesKept, Intake, EmptiesFrom}
use Rattle.lwkt_port.specs.Laws.{TakesSeen, SeenAreTakenIn}
use Rattle.lwkt_port.specs.Lines.{IsRoomed}
use Rattle.lwkt_port.specs.Mails.{kept_mail_at}
use Rattle.lwkt_port.specs.Posts.{ChangesOne}
use Rattle.lwkt_port.specs.Sendings.{ReplyMeans}
use Rattle.lwkt_port.specs.Works.{Work}
use Rattle.lwkt_port.proofs.Hinting.{chain_keeps}

-- the receiving ends of the second lines are those of the first
record SameEnds (a b : List Lane) : Type 0 where
  as_many : length b ≡ length a
  same : (k : ℕ) (d : Lane) → (get_or b k d).into ≡ (get_or a k d).into

ends_none : (a : List Lane) → SameEnds a a
ends_none a = record { as_many = refl; same = λ k d. refl }

ends_then : (a b c : List Lane) → SameEnds a b → SameEnds b c → SameEnds a c
ends_then a b c p q = record { as_many = q.as_many ∙ p.as_many; same = λ k d. q.same k d ∙ p.same k d }

ends_is : (a b c : List Lane) → c ≡ b → SameEnds a b → SameEnds a c
ends_is a b c is p = let F : List Lane → Type 0 = λ l. SameEnds a l in subst F (sym is) p

-- one line changed, whose receiving end stays
ends_set : (a : List Lane) (i : ℕ) (old new : Lane) → i < length a → get_or a i old ≡ old → new.into ≡ old.into → SameEnds a (set a i new)
ends_set a i old new there was same = record {
  as_many = length-set a i new;
  same = λ k d. dite (ℕ_discrete k i)
      (λ is. ap (λ n. (get_or (set a i new) n d).into) is ∙ ap (λ (l : Lane). l.into) (get_or-set_same a i new d there) ∙ same ∙ ap (λ (l : Lane). l.into) (sym was ∙ get_or_default a i old d there) ∙ sym (ap (λ n. (get_or a n d).into) is))
      (λ apart. ap (λ (l : Lane). l.into) (get_or-set_other a i k new d apart));
}

ends_change : (R : Lane → Lane → Type 0) (i : ℕ) (a b : List Lane) (c : ChangesOne R i a b) → c.new.into ≡ c.old.into → SameEnds a b
ends_change R i a b c same = ends_is a (set a i c.new) b c.now (ends_set a i c.old c.new c.there c.was same)

-- moving notes in hand on, and paying what is owed, leave the receiving ends alone
rooms_ends : (k : ℕ) (x y : List Lane) → Chain (List Lane) (λ i a b. ChangesOne IsRoomed i a b) k x y → SameEnds x y
rooms_ends k x y chain = chain_keeps (List Lane) (λ i a b. ChangesOne IsRoomed i a b) (λ z. SameEnds x z) (λ i a b c p. ends_then x a b p (ends_change IsRoomed i a b c c.does.into_same)) k x y chain (ends_none x)

reply_ends : (msg : MsgId) (error outcome : ℕ) (line line' : Lane) (w w' : Work) (made : Bool) → ReplyMeans msg error outcome line line' w w' made → line'.into ≡ line.into
reply_ends msg error outcome line line' w w' true r = r.posted.into_same
reply_ends msg error outcome line line' w w' false r = r.0.roomed.into_same

owed_ends : (owed : Option ℕ) (m : ℕ) (x y : Payer) → PaysOwed owed m x y → SameEnds x.lanes y.lanes
owed_ends None m x y p = ends_is x.lanes x.lanes y.lanes (ap (λ (z : Payer). z.lanes) p) (ends_none x.lanes)
owed_ends (Some error) m x y p =
    let msg : MsgId = record { 0 = m } in
    ends_change (λ a b. ReplyMeans msg error 0 a b x.work y.work p.0) (kept_mail_at x.work.mails m).origin.cpu.0 x.lanes y.lanes p.1 (reply_ends msg error 0 p.1.old p.1.new x.work y.work p.0 p.1.does)

pay_ends : (k : ℕ) (x y : Payer) → Chain Payer Pays k x y → SameEnds x.lanes y.lanes
pay_ends k x y chain = chain_keeps Payer Pays (λ z. SameEnds x.lanes z.lanes) (λ m a b p q. ends_then x.lanes a.lanes b.lanes q (owed_ends (kept_mail_at a.work.mails m).owed m a b p)) k x y chain (ends_none x.lanes)

-- a lane was emptied, after so many notes were popped from others
popped_seen : (kept : Option Note) (limit had k : ℕ) (line line' : Lane) (x y : Desks) → line'.kept ≡ kept → (p : Pops (limit - had) k line line' x y) → IsPrefix (seen_notes line.into) p.popped ⊎ (IsSome line'.kept ⊎ (limit ≤ had + k))
popped_seen (Some note) limit had k line line' x y is p = inr (inl (ap is_some is))
popped_seen None limit had k line line' x y is p = ⊎_elim
    (λ (fewer : k < limit - had). let F : List Note → Type 0 = λ l. IsPrefix (seen_notes line.into) l in inl (subst F (ap (λ l. p.popped ++ l) (p.emptied fewer is) ∙ append-nil p.popped) p.first))
    (λ (most : limit - had ≤ k). inr (inr (omega (arith, most))))
    (cases_lt k (limit - had))

pops_seen : (limit had k : ℕ) (line line' : Lane) (x y : Desks) → Pops (limit - had) k line line' x y → TakesSeen limit (had + k) line.into line'
pops_seen limit had k line line' x y p = record { popped = p.popped; received_is = p.received_is; rest = popped_seen line'.kept limit had k line line' x y refl p }

empties_seen : (kept : Option Note) (limit had k : ℕ) (line line' : Lane) (x y : Desks) → line.kept ≡ kept → EmptiesKept kept (limit - had) k line line' x y → TakesSeen limit (had + k) line.into line'
empties_seen None limit had k line line' x y is e = pops_seen limit had k line line' x y e
empties_seen (Some note) limit had k line line' x y is e = ⊎_elim
    (λ (s : Handles note x y None × (line' ≡ line) × (k ≡ 0)). record { popped = []; received_is = ap (λ (l : Lane). received l.into) s.1 ∙ sym (append-nil (received line.into)); rest = inr (inl (ap (λ (l : Lane). is_some l.kept) s.1 ∙ ap is_some is)) })
    (λ (s : (z : Desks) × (how : Fate) × Handles note x z (Some how) × Pops (limit - had) k (record line { kept = None }) line' z y). pops_seen limit had k (record line { kept = None }) line' s.0 y s.3)
    e

-- the same end and line by other names, after more notes were popped
seen_is : (limit count count' : ℕ) (into into' : LaneIn) (line line' : Lane) → count ≤ count' → into' ≡ into → line' ≡ line → TakesSeen limit count into line → TakesSeen limit count' into' line'
seen_is limit count count' into into' line line' more ends lines t =
    let F : LaneIn → Type 0 = λ i. TakesSeen limit count' i line' in
    let G : Lane → Type 0 = λ l. TakesSeen limit count' into l in
    let rest : IsPrefix (seen_notes into) t.popped ⊎ (IsSome line.kept ⊎ (limit ≤ count')) = ⊎_elim
    (λ (first : IsPrefix (seen_notes into) t.popped). inl first)
    (λ (held : IsSome line.kept ⊎ (limit ≤ count)). inr (⊎_elim (λ (kept : IsSome line.kept). inl kept) (λ (most : limit ≤ count). inr (omega (arith, most, more))) held))
    t.rest in
    let then : TakesSeen limit count' into line = record { popped = t.popped; received_is = t.received_is; rest = rest } in
    subst F (sym ends) (subst G (sym lines) then)

-- lanes that come later are not touched
later_stay : (limit n : ℕ) (x y : Intake) → Chain Intake (EmptiesFrom limit) n x y → (k : ℕ) (d : Lane) → n ≤ k → get_or y.lanes k d ≡ get_or x.lanes k d
unfolding Chain
later_stay limit zero x y chain k d later = ap (λ (z : Intake). get_or z.lanes k d) chain
later_stay limit (suc n) x y chain k d later =
    let z : Intake = chain.0 in
    let c = chain.2.1 in
    ap (λ l. get_or l k d) c.now ∙ get_or-set_other z.lanes n k c.new d (λ same. omega (arith, same, later)) ∙ later_stay limit n x z chain.1 k d (omega (arith, later))

-- each lane in turn was emptied
chain_seen : (limit n : ℕ) (x y : Intake) → Chain Intake (EmptiesFrom limit) n x y → (k : ℕ) (d : Lane) → k < n → TakesSeen limit y.count (get_or x.lanes k d).into (get_or y.lanes k d)
unfolding Chain
chain_seen limit zero x y chain k d below = absurd (omega (arith, below))
chain_seen limit (suc n) x y chain k d below =
    let z : Intake = chain.0 in
    let e : EmptiesFrom limit n z y = chain.2 in
    let c = e.1 in
    let counts : y.count ≡ z.count + e.0 = e.2 in
    dite (ℕ_discrete k n)
    (λ same.
    let at_y : get_or y.lanes k d ≡ c.new = ap (λ l. get_or l k d) c.now ∙ ap (λ i. get_or (set z.lanes n c.new) i d) same ∙ get_or-set_same z.lanes n c.new d c.there in
    let at_x : get_or x.lanes k d ≡ c.old = sym (later_stay limit n x z chain.1 k d (omega (arith, same))) ∙ ap (λ i. get_or z.lanes i d) same ∙ get_or_default z.lanes n d c.old c.there ∙ c.was in
    seen_is limit (z.count + e.0) y.count c.old.into (get_or x.lanes k d).into c.new (get_or y.lanes k d) (omega (arith, counts)) (ap (λ (l : Lane). l.into) at_x) at_y (empties_seen c.old.kept limit z.count e.0 c.old c.new (desks_of z) (desks_of y) refl c.does))
    (λ apart.
    let at_y : get_or y.lanes k d ≡ get_or z.lanes k d = ap (λ l. get_or l k d) c.now ∙ get_or-set_other z.lanes n k c.new d apart in
    seen_is limit z.count y.count (get_or x.lanes k d).into (get_or x.lanes k d).into (get_or z.lanes k d) (get_or y.lanes k d) (omega (arith, counts)) refl at_y (chain_seen limit n x z chain.1 k d (omega (arith, below, apart))))

pub seen_taken : SeenAreTakenIn
seen_taken limit count x y t k d there =
    let start : Intake = record { work = t.paid.work; lanes = t.paid.lanes; ports = x.ports; count = 0 } in
    let roomed : SameEnds x.lanes t.roomed = rooms_ends (length x.lanes) x.lanes t.roomed t.rooms in
    let paid : SameEnds t.roomed t.paid.lanes = pay_ends (length x.work.mails) (record { work = x.work; lanes = t.roomed }) t.paid t.owed in
    let ends : SameEnds x.lanes t.paid.lanes = ends_then x.lanes t.roomed t.paid.lanes roomed paid in
    let many : length t.paid.lanes ≡ length x.lanes = ends.as_many in
    let counts : count ≡ t.emptied.count = t.count_is in
    let got : TakesSeen limit t.emptied.count (get_or t.paid.lanes k d).into (get_or t.emptied.lanes k d) = chain_seen limit (length t.paid.lanes) start t.emptied t.notes k d (omega (arith, there, many)) in
    seen_is limit t.emptied.count count (get_or t.paid.lanes k d).into (get_or x.lanes k d).into (get_or t.emptied.lanes k d) (get_or y.lanes k d) (omega (arith, counts)) (sym (ends.same k d)) (ap (λ l. get_or l k d) t.lanes_are) got
