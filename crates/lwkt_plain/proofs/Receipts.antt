-- Notes that are received and served, one after another.
use Rattle.std.proofs.Common.{◌≡◌, ℕ, zero, suc, ◌+◌, ◌<◌, ◌≤◌, List, [], ◌∷◌, length, get_or, drop, ap, ◌∙◌, refl, sym, arith, Option, Some, None, false, true, Bool}
use Rattle.std.specs.Prelude.{slice_get}
use Rattle.std.specs.Option.{option_map_or}
use Rattle.std.proofs.lemmas.List.{get_or_past}
use Rattle.std.proofs.lemmas.Option.{none-some}
use Rattle.lwkt_base.specs.declared.asks.Item.{Item}
use Rattle.lwkt_plain.specs.declared.letters.Note.{Note}
use Rattle.lwkt_plain.specs.declared.letters.Port.{Port}
use Rattle.lwkt_plain.specs.declared.states.Mail.{Mail}
use Rattle.lwkt_plain.specs.declared.states.Plain.{Plain}
use Rattle.lwkt_plain.specs.Places.{lane_at, port_at, mail_at, with_port, no_mail, empty_port}
use Rattle.lwkt_plain.specs.Intakes.{Intake, intake, receives, without_first, keeps, comes_in, clears_port, handles, first_note, without_note, notes_in, Looked, looked, looks, looks_within, shown_by}
use Rattle.lwkt_plain.proofs.Changes.{get_or_changed}

-- a note that comes in or not
abbrev pub on_note : ℕ → ℕ → ℕ → Plain → Note → Option Plain → Intake
on_note c s m p note next = option_map_or (λ q. receives c s m q) next (intake m (keeps (Some note) s c (without_first s c p)))

abbrev pub on_first : ℕ → ℕ → ℕ → Plain → Option Note → Intake
on_first c s m p first = option_map_or (λ note. on_note c s m p note (comes_in c note (without_first s c p))) first (intake (suc m) p)

pub more : (c s n m : ℕ) (p : Plain) → n ≡ suc m → receives c s n p ≡ on_first c s m p (slice_get (lane_at p s c).queue 0)
unfolding receives
more c s n m p e = ap (λ k. receives c s k p) e

pub receives_zero : (c s : ℕ) (p : Plain) → receives c s 0 p ≡ intake 0 p
unfolding receives
receives_zero c s p = refl

pub receives_end : (c s n m : ℕ) (p : Plain) → n ≡ suc m → slice_get (lane_at p s c).queue 0 ≡ None → receives c s n p ≡ intake n p
receives_end c s n m p e none = more c s n m p e ∙ ap (on_first c s m p) none ∙ ap (λ k. intake k p) (sym e)

pub receives_full : (c s n m : ℕ) (p : Plain) (note : Note) → n ≡ suc m → slice_get (lane_at p s c).queue 0 ≡ Some note → comes_in c note (without_first s c p) ≡ None → receives c s n p ≡ intake m (keeps (Some note) s c (without_first s c p))
receives_full c s n m p note e first full = more c s n m p e ∙ ap (on_first c s m p) first ∙ ap (on_note c s m p note) full

pub receives_next : (c s n m : ℕ) (p : Plain) (note : Note) (next : Plain) → n ≡ suc m → slice_get (lane_at p s c).queue 0 ≡ Some note → comes_in c note (without_first s c p) ≡ Some next → receives c s n p ≡ receives c s m next
receives_next c s n m p note next e first comes = more c s n m p e ∙ ap (on_first c s m p) first ∙ ap (on_note c s m p note) comes

-- a note of a port that is cleared
abbrev pub on_cleared : ℕ → ℕ → ℕ → Plain → Option Note → Intake
on_cleared c k m p first = option_map_or (λ note. clears_port c k m (handles c k None note p)) first (intake (suc m) p)

pub cleared : (c k n m : ℕ) (p : Plain) → n ≡ suc m → clears_port c k n p ≡ on_cleared c k m p (first_note (port_at p c k))
unfolding clears_port
cleared c k n m p e = ap (λ i. clears_port c k i p) e

pub clears_zero : (c k : ℕ) (p : Plain) → clears_port c k 0 p ≡ intake 0 p
unfolding clears_port
clears_zero c k p = refl

pub clears_end : (c k n m : ℕ) (p : Plain) → n ≡ suc m → first_note (port_at p c k) ≡ None → clears_port c k n p ≡ intake n p
clears_end c k n m p e none = cleared c k n m p e ∙ ap (on_cleared c k m p) none ∙ ap (λ i. intake i p) (sym e)

pub clears_next : (c k n m : ℕ) (p : Plain) (note : Note) → n ≡ suc m → first_note (port_at p c k) ≡ Some note → clears_port c k n p ≡ clears_port c k m (handles c k None note p)
clears_next c k n m p note e first = cleared c k n m p e ∙ ap (on_cleared c k m p) first

-- a port without its first note
fewer_in : (urgent ordinary : List Note) (note : Note) → first_note (record { urgent = urgent; ordinary = ordinary }) ≡ Some note → notes_in (record { urgent = urgent; ordinary = ordinary }) ≡ suc (notes_in (without_note (record { urgent = urgent; ordinary = ordinary })))
fewer_in [] [] note is = cc
fewer_in [] (x ∷ xs) note is = omega arith
fewer_in (x ∷ xs) ordinary note is = omega arith

pub fewer : (port : Port) (note : Note) → first_note port ≡ Some note → notes_in port ≡ suc (notes_in (without_note port))
fewer port note is = fewer_in port.urgent port.ordinary note is

-- the port is there, since it has a note
outside : (p : Plain) (c k : ℕ) (note : Note) → first_note (port_at p c k) ≡ Some note → length p.mails ≤ c → ⊥
outside p c k note is past =
    let e : port_at p c k ≡ empty_port = ap (λ (mail : Mail). get_or mail.ports k empty_port) (get_or_past p.mails c no_mail past) ∙ get_or_past no_mail.ports k empty_port (omega arith) in
    let f : first_note (port_at p c k) ≡ None = ap first_note e in
    none-some note (sym f ∙ is)

outside_ports : (p : Plain) (c k : ℕ) (note : Note) → first_note (port_at p c k) ≡ Some note → length (mail_at p c).ports ≤ k → ⊥
outside_ports p c k note is past =
    let e : port_at p c k ≡ empty_port = get_or_past (mail_at p c).ports k empty_port past in
    let f : first_note (port_at p c k) ≡ None = ap first_note e in
    none-some note (sym f ∙ is)

pub port_without : (p : Plain) (c k : ℕ) (note : Note) → first_note (port_at p c k) ≡ Some note → port_at (with_port without_note c k p) c k ≡ without_note (port_at p c k)
port_without p c k note is =
    let there : c < length p.mails = (let no = outside p c k note is in omega (arith, no)) in
    let port_there : k < length (mail_at p c).ports = (let no = outside_ports p c k note is in omega (arith, no)) in
    ap (λ (mail : Mail). get_or mail.ports k empty_port) (get_or_changed _ p.mails c no_mail there) ∙ get_or_changed without_note (mail_at p c).ports k empty_port port_there

-- notes of a port that are served
abbrev pub on_shown : ℕ → ℕ → ℕ → Plain → Note → Option Item → Looked
on_shown c k m p note item = option_map_or (λ i. looked (handles c k (Some k) note p) (Some i)) item (looks_within m c k (handles c k (Some k) note p))

abbrev pub on_served : ℕ → ℕ → ℕ → Plain → Option Note → Looked
on_served c k m p first = option_map_or (λ note. on_shown c k m p note (shown_by c note p)) first (looked p None)

pub within : (n m c k : ℕ) (p : Plain) → n ≡ suc m → looks_within n c k p ≡ on_served c k m p (first_note (port_at p c k))
unfolding looks_within
within n m c k p e = ap (λ i. looks_within i c k p) e

pub within_zero : (c k : ℕ) (p : Plain) → looks_within 0 c k p ≡ looked p None
unfolding looks_within
within_zero c k p = refl

none_within : (n c k : ℕ) (p : Plain) → first_note (port_at p c k) ≡ None → looks_within n c k p ≡ looked p None
unfolding looks_within
none_within zero c k p none = refl
none_within (suc m) c k p none = ap (on_served c k m p) none

pub looks_none : (c k : ℕ) (p : Plain) → first_note (port_at p c k) ≡ None → looks c k p ≡ looked p None
looks_none c k p none = none_within (notes_in (port_at p c k)) c k p none

pub looks_some : (c k : ℕ) (p : Plain) (note : Note) (item : Item) → first_note (port_at p c k) ≡ Some note → shown_by c note p ≡ Some item → looks c k p ≡ looked (handles c k (Some k) note p) (Some item)
looks_some c k p note item first shown =
    let m = notes_in (without_note (port_at p c k)) in
    within (notes_in (port_at p c k)) m c k p (fewer (port_at p c k) note first) ∙ ap (on_served c k m p) first ∙ ap (on_shown c k m p note) shown

pub fewer_after : (c k : ℕ) (th : Option ℕ) (p : Plain) (note : Note) → first_note (port_at p c k) ≡ Some note → notes_in (port_at p c k) ≡ suc (notes_in (port_at (handles c k th note p) c k))
fewer_after c k th p note first = fewer (port_at p c k) note first ∙ ap (λ port. suc (notes_in port)) (sym (port_without p c k note first))

pub looks_next : (c k : ℕ) (p : Plain) (note : Note) → first_note (port_at p c k) ≡ Some note → shown_by c note p ≡ None → looks c k p ≡ looks c k (handles c k (Some k) note p)
looks_next c k p note first shown =
    let m = notes_in (port_at (handles c k (Some k) note p) c k) in
    within (notes_in (port_at p c k)) m c k p (fewer_after c k (Some k) p note first) ∙ ap (on_served c k m p) first ∙ ap (on_shown c k m p note) shown
