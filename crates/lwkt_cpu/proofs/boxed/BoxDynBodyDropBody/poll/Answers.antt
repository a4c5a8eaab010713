use Rattle.std.specs.declared.dyn_box.DynBox.{DynBox}
use Rattle.std.specs.declared.alloc.Global.{Global}
use Rattle.lwkt_cpu.proofs.BoxMoves.{same_object}
use Rattle.lwkt_cpu.proofs.boxed.BoxDynBodyDropBody.poll.Goals as goal

pub returns : goal.returns
returns g c =
    let lent = c.deref_box_mut-1 in
    let box = c.args.self.now in
    let D : g.dyn-1.0.I → Type 0 = λ i. (g.dyn-1.0.entry i).0.Denot in
    let make : (i : g.dyn-1.0.I) → D i → DynBox g.dyn-1.0.I Global D = λ i x. record { ptr = box.ptr; vtable = i; alloc = box.alloc; value = x } in
    same_object D (λ i x y. (g.dyn-1.0.entry i).1.polled x c.args.last c.poll.result y) make lent.result.now.0 box.vtable lent.result.now.1 c.poll.new.self box.value lent.ensures.value.1 c.poll.ensures
