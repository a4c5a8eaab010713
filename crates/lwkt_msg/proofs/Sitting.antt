use Rattle.std.proofs.Common.{◌≡◌, ◌⊎◌, ℕ, ◌+◌, ◌*◌, ◌<◌, true, false, List, [], ◌∷◌, length, refl, ap, sym, ◌∙◌, subst, arith}
use Rattle.atomic_table.specs.Table.{Me, rest}
use Rattle.atomic_table.specs.Seated.{TableId}
use Rattle.atomic_table.specs.declared.shared.Seat.{Seat}
use Rattle.lwkt_base.specs.declared.names.CpuId.{CpuId}
use Rattle.lwkt_base.specs.declared.records.Rec.{Rec}
use Rattle.lwkt_table.specs.declared.seats.Deed.{Deed}
use Rattle.lwkt_core.specs.Opening.{AreWithin}
use Rattle.lwkt_msg.specs.declared.views.MessageEntry.{MessageEntry}
use Rattle.lwkt_msg.specs.declared.views.View.{View}
use Rattle.lwkt_msg.specs.Views.{slot_at, call_of, at, who, noted, looked}
use Rattle.lwkt_msg.specs.Deeds.{loads}
use Rattle.lwkt_msg.specs.Hands.{AreSame, IsOwn, IsInHand, AreHands}
use Rattle.lwkt_msg.specs.Plays.{Looked, IsSat}
use mathlib.Core.Logic.{dite}
use native.Mathlib.Decide.{ℕ_discrete}
use Rattle.lwkt_msg.proofs.Knowing.{at-here, at-else}
use Rattle.lwkt_msg.proofs.Bringing.{AreSame-refl}
use Rattle.lwkt_msg.proofs.Carrying.{IsAlike, hands_same, hands_given, hands_taken}

-- a seat is still that of its processor after a step
pub sat_after : (place place' : Seat Rec View) (cpu : CpuId) (m : ℕ) (e' : MessageEntry) (between : List Deed) (did : Deed) → IsSat cpu place → place'.table_id ≡ place.table_id → place'.me.0 ≡ noted between place.me.0 m e' did → e'.had ≡ (at place.me.0 m).had
    → AreHands (noted between place.me.0 m e' did) cpu.0 place'.me.1 → IsSat cpu place'
sat_after place place' cpu m e' between did sat same view_is had hands =
    let F : View → Type 0 = λ w. AreHands w cpu.0 place'.me.1 in
    let specs_same = ap (λ (w : View). length w.specs) view_is in
    let cpus_same = ap (λ (w : View). w.cpus) view_is in
    let words_same = ap (λ (z : TableId). z.words) same in
    let slots_same = ap (λ (z : TableId). z.slots) same in
    let a = sat.words in
    let b = sat.slots in
    let c = sat.few in
    let d = sat.cpus in
    let f = sat.there in
    record {
      kind = ap (λ (w : View). w.kind) view_is ∙ sat.kind;
      words = omega arith;
      slots = omega arith;
      few = omega arith;
      cpus = omega arith;
      there = omega arith;
      within = subst (λ (x : View). AreWithin x.cpus [] x.specs) (sym view_is) sat.within;
      had = subst H (sym view_is) (λ k within own. still k within own);
      hands = subst F (sym view_is) hands;
    }
  where
    w : View
    w = noted between place.me.0 m e' did

    H : View → Type 0
    H x = (k : ℕ) → k < length x.specs → IsOwn x cpu.0 k → (at x k).had ≡ true

    still : (k : ℕ) → k < length place.me.0.specs → IsOwn place.me.0 cpu.0 k → (at w k).had ≡ true
    still k within own = dite (ℕ_discrete k m)
        (λ is. let G : ℕ → Type 0 = λ n. (at place.me.0 n).had ≡ true in ap (λ (n : ℕ). (at w n).had) is ∙ (ap (λ (x : MessageEntry). x.had) (at-here place.me.0 m e' between did) ∙ (had ∙ subst G is (sat.had k within own))))
        (λ apart. ap (λ (x : MessageEntry). x.had) (at-else place.me.0 m e' between did k apart) ∙ sat.had k within own)

pub sat_looked : (place place' : Seat Rec View) (cpu : CpuId) (m found : ℕ) → IsSat cpu place → place'.table_id ≡ place.table_id → Looked m place.me found place'.me → IsSat cpu place'
sat_looked place place' cpu m found sat same l =
    let d : Deed = loads (who place.me.0) m found in
    sat_after place place' cpu m (looked l.parts (at place.me.0 m)) l.view_is.0 d sat same l.view_is.1.1 refl
    (hands_same place.me.0 m (looked l.parts (at place.me.0 m)) l.view_is.0 d cpu.0 place.me.1 place'.me.1 (record { had = refl; away = refl; taken = refl; got = refl }) sat.hands l.same)

-- a step that gives a record away, and one that takes a record in hand
pub sat_given : (place place' : Seat Rec View) (cpu : CpuId) (m : ℕ) (e' : MessageEntry) (between : List Deed) (did : Deed) (old : Rec) (others : List (ℕ × Rec)) → IsSat cpu place → place'.table_id ≡ place.table_id → place'.me.0 ≡ noted between place.me.0 m e' did
    → place.me.1 ≡ (slot_at m, old) ∷ others → (IsOwn place.me.0 cpu.0 m → e'.had ≡ true → e'.away ≡ true) → e'.taken ≡ false → place'.me.1 ≡ others → e'.had ≡ (at place.me.0 m).had → IsSat cpu place'
sat_given place place' cpu m e' between did old others sat same view_is held away not_taken left had =
    let F : List (ℕ × Rec) → Type 0 = λ c. AreHands place.me.0 cpu.0 c in
    let G : List (ℕ × Rec) → Type 0 = λ c. AreHands (noted between place.me.0 m e' did) cpu.0 c in
    sat_after place place' cpu m e' between did sat same view_is had (subst G (sym left) (hands_given place.me.0 m e' between did cpu.0 old others (subst F held sat.hands) away not_taken))

pub sat_taken : (place place' : Seat Rec View) (cpu : CpuId) (m : ℕ) (e' : MessageEntry) (between : List Deed) (did : Deed) (rec : Rec) → IsSat cpu place → place'.table_id ≡ place.table_id → place'.me.0 ≡ noted between place.me.0 m e' did
    → m < length place.me.0.specs → (IsInHand place.me.0 cpu.0 m → ⊥) → ((IsOwn place.me.0 cpu.0 m × (e'.had ≡ true) × (e'.away ≡ false)) ⊎ (e'.taken ≡ true)) → (e'.taken ≡ true → call_of rec ≡ e'.got)
    → place'.me.1 ≡ (slot_at m, rec) ∷ place.me.1 → e'.had ≡ (at place.me.0 m).had → IsSat cpu place'
sat_taken place place' cpu m e' between did rec sat same view_is within not_yet now call got had =
    let G : List (ℕ × Rec) → Type 0 = λ c. AreHands (noted between place.me.0 m e' did) cpu.0 c in
    sat_after place place' cpu m e' between did sat same view_is had (subst G (sym got) (hands_taken place.me.0 m e' between did cpu.0 rec place.me.1 within sat.hands not_yet now call))

-- a step after which the same is in hand
pub sat_alike : (place place' : Seat Rec View) (cpu : CpuId) (m : ℕ) (e' : MessageEntry) (between : List Deed) (did : Deed) → IsSat cpu place → place'.table_id ≡ place.table_id → place'.me.0 ≡ noted between place.me.0 m e' did
    → IsAlike (at place.me.0 m) e' → place'.me.1 ≡ place.me.1 → IsSat cpu place'
sat_alike place place' cpu m e' between did sat same view_is alike hands =
    let F : List (ℕ × Rec) → Type 0 = λ c. AreSame place.me.1 c in
    sat_after place place' cpu m e' between did sat same view_is alike.had
    (hands_same place.me.0 m e' between did cpu.0 place.me.1 place'.me.1 alike sat.hands (subst F (sym hands) (AreSame-refl place.me.1)))

pub sat_same : (place place' : Seat Rec View) (cpu : CpuId) (m : ℕ) (between : List Deed) (did : Deed) → IsSat cpu place → place'.table_id ≡ place.table_id → place'.me.0 ≡ noted between place.me.0 m (at place.me.0 m) did
    → place'.me.1 ≡ place.me.1 → IsSat cpu place'
sat_same place place' cpu m between did sat same view_is hands = sat_alike place place' cpu m (at place.me.0 m) between did sat same view_is (record { had = refl; away = refl; taken = refl; got = refl }) hands

-- the front after a record was written there
pub wrote : (me then : Me Rec View) (slot at_slot : ℕ) (old rec : Rec) (others : List (ℕ × Rec)) → at_slot ≡ slot → me.1 ≡ (slot, old) ∷ others → then ≡ (me.0, (at_slot, rec) ∷ rest me.1) → then ≡ (me.0, (slot, rec) ∷ others)
wrote me then slot at_slot old rec others same held is =
    is ∙ (ap (λ (k : ℕ). let z : Me Rec View = (me.0, (k, rec) ∷ rest me.1) in z) same ∙ ap (λ (h : List (ℕ × Rec)). let z : Me Rec View = (me.0, (slot, rec) ∷ rest h) in z) held)

-- a word of the table is there
pub word_inside : (place : Seat Rec View) (z : TableId) (cpu : CpuId) (m : ℕ) → IsSat cpu place → place.table_id ≡ z → m < length place.me.0.specs → 16 * m + 1 < z.words
word_inside place z cpu m sat same within =
    let a = sat.words in
    let b = ap (λ (y : TableId). y.words) same in
    omega arith
