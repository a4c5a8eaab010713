-- The ports as they are opened are in order.
use Rattle.std.proofs.Common.{◌≡◌, ℕ, zero, suc, inl, inr, Option, Some, None, ◌++◌, ◌<◌, ◌==◌, Bool, true, false, cond, true≢false, List, [], ◌∷◌, length, map, get_or, refl, ap, sym, ◌∙◌, subst, arith, eq-eqb}
use Rattle.std.proofs.lemmas.Bool.{eqb-true}
use Rattle.std.proofs.lemmas.List.{length-map, get_or-map}
use Rattle.std.proofs.lemmas.List.Elements.{All-nil, All-cons}
use Rattle.std.proofs.lemmas.Option.{slice_get-get_or}
use Rattle.std.specs.Prelude.{◌⊎◌, All, zip, slice_get}
use Rattle.lwkt_base.specs.declared.names.CpuId.{CpuId}
use Rattle.lwkt_base.specs.declared.names.ThreadId.{ThreadId}
use Rattle.lwkt_lane.specs.declared.ins.LaneIn.{LaneIn}
use Rattle.lwkt_lane.specs.declared.outs.LaneOut.{LaneOut}
use Rattle.lwkt_msg.specs.Desks.{Desk, desk_cpu, cpus_of, messages_of, entry, IsSeatOf}
use Rattle.lwkt_base.specs.declared.opening_specs.MsgSpec.{MsgSpec}
use Rattle.lwkt_msg.specs.Views.{seat_cpu, no_spec, spec_at, first_entry, handed}
use Rattle.lwkt_port.specs.declared.lines.Lane.{Lane}
use Rattle.lwkt_port.specs.declared.mails.Mail.{Mail}
use Rattle.lwkt_port.specs.declared.queues.Port.{Port}
use Rattle.lwkt_port.specs.Mails.{no_kept_mail, kept_mail_at, IsMail}
use Rattle.lwkt_port.specs.OpenedPorts.{new_mail, IsNewPort, AreNew, AreNewPorts, new_line, ArePaired, KeepLimits, IsFresh, AreOrigins}
use Rattle.lwkt_port.specs.Posts.{Post, IsPost, KeepsNamed}
use Rattle.lwkt_port.proofs.Classing.{named_empty}

-- the last element of a list that was made longer, and the others
last_or : {A : Type 0} (xs : List A) (y x : A) (k : ℕ) → slice_get (xs ++ y ∷ []) k ≡ Some x → (slice_get xs k ≡ Some x) ⊎ ((length xs ≡ k) × (y ≡ x))
last_or {A} [] y x zero is = inr (refl, (let e : ◌≡◌ {A = Option A} (Some y) (Some x) = is in cc))
last_or {A} [] y x (suc k) is = let e : ◌≡◌ {A = Option A} None (Some x) = is in cc
last_or (z ∷ xs) y x zero is = inl is
last_or (z ∷ xs) y x (suc k) is = elim (last_or xs y x k is) [ inl there ↦ inl there | inr last ↦ inr (ap (λ n. suc n) last.0, last.1) ]

-- one port more
pub new_more : (threads : ℕ) (ports : List Port) (port : Port) → AreNew threads ports → IsNewPort threads (length ports) port → AreNew threads (ports ++ port ∷ [])
new_more threads ports port each new number it at = elim (last_or ports port it number at) [
  | inl there ↦ each number it there
  | inr last ↦
      let F : ℕ → Type 0 = λ n. IsNewPort threads n it in
      let G : Port → Type 0 = λ p. IsNewPort threads (length ports) p in
      subst F last.0 (subst G last.1 new)
]

lines_are : (outs : List LaneOut) (ins : List LaneIn) → length outs ≡ length ins → length (map new_line (zip outs ins)) ≡ length outs
lines_are [] ins e = refl
lines_are (x ∷ xs) [] e = absurd (omega arith)
lines_are (x ∷ xs) (y ∷ ys) e = let more : length (map new_line (zip xs ys)) ≡ length xs = lines_are xs ys (omega arith) in omega arith

lines_keep : (n : ℕ) (outs : List LaneOut) (ins : List LaneIn) → All (KeepsNamed n) (map new_line (zip outs ins))
lines_keep n [] ins = All-nil (KeepsNamed n)
lines_keep n (x ∷ xs) [] = All-nil (KeepsNamed n)
lines_keep n (x ∷ xs) (y ∷ ys) = All-cons (KeepsNamed n) (new_line (x, y)) (map new_line (zip xs ys)) tt (lines_keep n xs ys)

no_thread : ThreadId
no_thread = record { cpu = record { 0 = 0 }; thread = 0 }

-- at the opening no message is away
home_first : (spec : MsgSpec) (own : Bool) → (cond own (handed (first_entry spec)) (first_entry spec)).away ≡ false
home_first spec true = refl
home_first spec false = refl

-- what is kept of a message at the opening fits the seat
new_fits : (cpu : CpuId) (d : Desk) (m : ℕ) (o : ThreadId) → IsSeatOf cpu d → IsFresh d → m < messages_of d → o ≡ (spec_at d.view.specs m).origin → IsMail d m (new_mail cpu o)
new_fits cpu d m o seat fresh within is =
    let mine : (desk_cpu d).0 ≡ cpu.0 = ap (λ k. (seat_cpu k).0) seat.kind in
    let at : o.cpu.0 ≡ (spec_at d.view.specs m).origin.cpu.0 = ap (λ t. t.cpu.0) is in
    let there : (spec_at d.view.specs m).origin.cpu.0 < cpus_of d = seat.origins m within in
    let spec : MsgSpec = spec_at d.view.specs m in
    let home : (entry d m).away ≡ false = ap (λ e. e.away) (fresh m within) ∙ home_first spec (spec.origin.cpu.0 == (desk_cpu d).0) in record {
      origin_is = is;
      there = omega arith;
      at_home = λ h. (sym at ∙ eqb-true o.cpu.0 cpu.0 h ∙ sym mine, home);
      is_away = λ h own. absurd (true≢false (sym (eq-eqb o.cpu.0 cpu.0 (at ∙ own ∙ mine)) ∙ h));
      owed_taken = λ h. absurd (true≢false (sym h));
      shown_taken = λ h. absurd (true≢false (sym h));
    }

pub opened : (cpu : CpuId) (p : Post) (outs : List LaneOut) (ins : List LaneIn) (origins : List ThreadId) → IsSeatOf cpu p.seat → IsFresh p.seat → AreOrigins p.seat origins → KeepLimits p.seat outs ins origins p.threads → ArePaired outs ins p.lanes → AreNewPorts p.threads p.ports → p.mails ≡ map (new_mail cpu) origins → IsPost p
opened cpu p outs ins origins seat fresh are within paired ports mails =
    let n : ℕ = length p.mails in
    let L : List Lane → Type 0 = All (KeepsNamed n) in
    let many : length p.mails ≡ length origins = ap length mails ∙ length-map origins (new_mail cpu) in record {
      lanes_are = ap length paired ∙ lines_are outs ins (within.outs_are ∙ sym within.ins_are) ∙ within.outs_are;
      ports_are = ports.as_many;
      few = within.few;
      mails_are = record {
        as_many = many ∙ within.origins_are;
        few = omega (arith, many, within.origins_are, seat.within.message_limit);
        each = λ m lt.
            let inside : m < length origins = omega arith in
            let exists : m < messages_of p.seat = omega (arith, within.origins_are) in
            let F : Mail → Type 0 = IsMail p.seat m in
            let o : ThreadId = get_or origins m no_thread in
            let at : kept_mail_at p.mails m ≡ new_mail cpu o = ap (λ l. kept_mail_at l m) mails ∙ get_or-map (new_mail cpu) origins m no_thread no_kept_mail inside in
            let origin : o ≡ (spec_at p.seat.view.specs m).origin = ap (λ l. get_or l m no_thread) (are within.origins_are) ∙ get_or-map (λ (spec : MsgSpec). spec.origin) p.seat.view.specs m no_spec no_thread exists in
            subst F (sym at) (new_fits cpu p.seat m o seat fresh exists origin);
      };
      queued = λ k d lt. named_empty n (get_or p.ports k d) (ports.new k (get_or p.ports k d) (slice_get-get_or p.ports k d lt)).0;
      kept = subst L (sym paired) (lines_keep n outs ins);
    }
