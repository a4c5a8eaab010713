use Rattle.std.proofs.Common.{◌≡◌, ◌≢◌, ℕ, List, refl, sym, eq-eqb, ne_eqb}
use Rattle.lwkt_table.specs.declared.seats.Deed.{Deed}
use Rattle.lwkt_msg.specs.declared.views.MessageEntry.{MessageEntry}
use Rattle.lwkt_msg.specs.declared.views.View.{View}
use Rattle.lwkt_msg.specs.Views.{at, entry_in, noted}

-- what is known after a step of its own message, and of any other
pub at-here : (v : View) (m : ℕ) (e : MessageEntry) (between : List Deed) (did : Deed) → at (noted between v m e did) m ≡ e
unfolding at entry_in
at-here v m e between did = rw (eq-eqb m m refl) refl

pub at-else : (v : View) (m : ℕ) (e : MessageEntry) (between : List Deed) (did : Deed) (k : ℕ) → k ≢ m → at (noted between v m e did) k ≡ at v k
unfolding at entry_in
at-else v m e between did k apart = rw (ne_eqb m k (λ same. apart (sym same))) refl

-- a view that differs from another in what it knows of one message, and in its steps
pub record Changes (m : ℕ) (v w : View) : Type 0 where
  pub kind : w.kind ≡ v.kind
  pub cpus : w.cpus ≡ v.cpus
  pub specs : w.specs ≡ v.specs
  pub else_same : (k : ℕ) → k ≢ m → at w k ≡ at v k

pub Changes-noted : (v : View) (m : ℕ) (e : MessageEntry) (between : List Deed) (did : Deed) → Changes m v (noted between v m e did)
Changes-noted v m e between did = record { kind = refl; cpus = refl; specs = refl; else_same = λ k apart. at-else v m e between did k apart }
