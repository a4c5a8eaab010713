use Rattle.std.proofs.Common.{rules, ◌≡◌, ap, ◌∙◌, Decides, Bool, List}
use Rattle.std.specs.Cmp.Lexicographic.{pointwise}
use Rattle.std.proofs.lemmas.Slice.Eq.{slice_eq-Decides}
use Rattle.lwkt_plain.specs.declared.letters.Note.{Note}
use Rattle.lwkt_plain.specs.contracts.letters.NotePartialEq.TheImpl.{eq-value}
use Rattle.lwkt_plain.proofs.parts.same_some.Goals as goal

note_same : (a b : Note) → Decides (eq-value.it a b) (a ≡ b)
note_same a b = search rules

pub returns : goal.returns
returns c =
    let E : List Note → List Note → Bool = pointwise eq-value.it in
    slice_eq-Decides note_same c.args.one.now c.args.other.now c.eq.result
    c.eq.ensures
