use Rattle.std.proofs.Common.{◌∙◌, sym}
use Rattle.std.proofs.lemmas.Bool.{eqb-true}
use Rattle.std.proofs.lemmas.Slice.Eq.{bytes_eq-Decides}
use Rattle.lwkt_base.proofs.BlobLemmas.{same_by, same_len, same_bytes}
use Rattle.lwkt_base.proofs.blobs.Blob.is_same.Goals as goal

pub returns-then-self-other : goal.returns-then-self-other
returns-then-self-other c =
    let decides = bytes_eq-Decides c.self.inside.bytes c.other.inside.bytes in (
      λ yes'. same_by c.self.inside.bytes c.other.inside.bytes c.self.inside.len c.other.inside.len c.args.self.now c.args.other.now c.self.view_is c.other.view_is c.if-self-other.true (decides.0 (sym c.eq.ensures ∙ yes')),
      λ same. c.eq.ensures ∙ decides.1 (same_bytes c.self.inside.bytes c.other.inside.bytes c.self.inside.len c.other.inside.len c.self.invariant c.other.invariant c.args.self.now c.args.other.now c.self.view_is c.other.view_is same),
    )

pub returns-else-self-other : goal.returns-else-self-other
returns-else-self-other c = (
  λ yes'. absurd (c.if-self-other.false (eqb-true c.self.inside.len c.other.inside.len yes')),
  λ same. absurd (c.if-self-other.false (same_len c.self.inside.bytes c.other.inside.bytes c.self.inside.len c.other.inside.len c.self.invariant c.other.invariant c.args.self.now c.args.other.now c.self.view_is c.other.view_is same)),
)
