-- A note is sent over a line whose note in hand, if there was one, has gone on before.
use Rattle.std.proofs.Common.{◌≡◌, ◌<◌, true≢false, [], ◌∷◌, ◌++◌, length, inl, refl, ap, sym, ◌∙◌, arith}
use Rattle.std.specs.Prelude.{Option, Some, None, IsSome, option_to_list}
use Rattle.lwkt_lane.specs.declared.notes.Note.{Note}
use Rattle.lwkt_lane.specs.Lane.{in_hand, waiting, free}
use Rattle.lwkt_port.specs.declared.lines.Lane.{Lane}
use Rattle.lwkt_port.specs.Lines.{HasNoneInHand, WaitsForRoom, IsRoomed, HasPosted}

-- where no note is in hand none waits
pub none_wait : (line : Lane) → HasNoneInHand line → waiting line.out ≡ 0
none_wait line none = ap (λ (hand : Option Note). length (option_to_list hand)) none

not_some : (hand : Option Note) → hand ≡ None → IsSome hand → ⊥
not_some None none some = true≢false (sym some)
not_some (Some note) none some = absurd (let e : Some note ≡ None = none in cc)

pub none_waits : (line : Lane) → HasNoneInHand line → WaitsForRoom line
none_waits line none = λ some. absurd (not_some (in_hand line.out) none some)

-- where no note is in hand one that is sent has a place if one is known to be free
pub moves_alone : (line line' : Lane) → HasNoneInHand line → (0 < free line.out → HasNoneInHand line') → waiting line.out < free line.out → HasNoneInHand line'
moves_alone line line' none moves more =
    let e : waiting line.out ≡ 0 = none_wait line none in moves (omega (arith, more, e))

-- the note in hand went on, and then a note was sent
pub posted_over : (note : Note) (line between line' : Lane) → IsRoomed line between → HasNoneInHand between → HasPosted note between line' → HasPosted note line line'
posted_over note line between line' r none p = record {
  sent_more = p.sent_more ∙ ap (λ l. l ++ note ∷ []) r.sent_same;
  full = p.full;
  moves = λ more. let e : waiting between.out ≡ 0 = none_wait between none in p.moves (omega (arith, more, e, r.places));
  lane_same = p.lane_same ∙ r.lane_same;
  into_same = p.into_same ∙ r.into_same;
  kept_same = p.kept_same ∙ r.kept_same;
}

-- where no note is in hand there is none to move on
pub room_itself : (line : Lane) → HasNoneInHand line → IsRoomed line line
room_itself line none = record { sent_same = refl; hand = inl none; full = none_waits line none; moves = λ _. none; places = omega arith; lane_same = refl; into_same = refl; kept_same = refl }
