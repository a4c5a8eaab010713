use Rattle.std.proofs.Common.{◌≡◌, refl, subst}

-- a value behind a vtable, and the same one by another name of the vtable: what leads from it leads from it there
pub same_object : {I C : Type 0} (D : I → Type 0) (R : (i : I) → D i → D i → Type 0) (make : (i : I) → D i → C) (i j : I) (x z : D i) (y : D j) → ◌≡◌ {A = (k : I) × D k} (i, x) (j, y) → R i x z → (w : D j) × (R j y w × (make i z ≡ make j w))
same_object {I} {C} D R make i j x z y same r = let F : ((k : I) × D k) → Type 0 = λ q. (w : D q.0) × (R q.0 q.1 w × (make i z ≡ make q.0 w)) in subst F same (z, (r, refl))
