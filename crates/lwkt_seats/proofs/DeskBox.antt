-- The parts of a desk own what its box owns.
use mir.Syntax.{impl, tnil, dnil}
use mathlib.Core.List.{[]}
use denote.Signature.{Slot, plain}
use Rattle.std_alloc.proofs.BoxSteps.Form.{Bx}
use Rattle.std_heap.specs.contracts.Global as Heap
use Rattle.std_heap.specs.contracts.GlobalAllocator.TheImpl.{ghosts, dict}
use Rattle.std_heap.proofs.Global.TheLaws as heap
use Rattle.lwkt_seats.specs.contracts.desks.Desk as Desk
use Rattle.lwkt_seats.proofs.desks.Desk.TheLaws as desk
use Rattle.lwkt_seats.specs.contracts.raw_boxes.RawBox as RawBox

abbrev pub E : Bx
E = record { row = Desk.the_row; laws = desk.the_row_laws; al = record { row = Heap.the_row; laws = heap.the_row_laws; g = ghosts; d = dict; drops = impl [] tnil dnil } }

abbrev pub From : Slot 0
From = plain (λ _. RawBox.the_row Desk.the_row Heap.the_row ghosts)
