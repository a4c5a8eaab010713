use Rattle.std.proofs.Common.{◌≡◌, ℕ, ◌+◌, ◌-◌, ◌<◌, ◌≤◌, length, arith, subst, sym, ◌∙◌, true, HoldsAt}
use Rattle.std.proofs.lemmas.List.{get_or_default, get_or_read}
use Rattle.lwkt_search.specs.Indexes.{bucket_of, IsSought}
use Rattle.lwkt_plain.specs.Tables.{key_at}
use Rattle.lwkt_search.proofs.IndexLemmas.{sought_next, sought_first}
use Rattle.lwkt_plain.proofs.TableLemmas.{key_found}
use Rattle.lwkt_plain.proofs.tables.Table.find.Goals as goal

pub loop-up-init : goal.loop-up-init
loop-up-init g c =
    let hash = g.P.Part.hash_of in
    let parts = c.args.self.now.parts.items in
    let heads = c.args.self.now.index.heads.items in
    let links = c.args.self.now.index.links.items in
    let part = c.args.part.now in
    let is : ℕ → Type 0 = HoldsAt (λ (p : g.row.P.Denot). p ≡ part) parts in
    let bucket = c.bucket_of-bucket.result in
    let count : c.len.result ≡ length heads = omega arith in
    let there : bucket < length heads = omega (arith, c.bucket_of-bucket.ensures.there) in
    let B : ℕ → Type 0 = λ n. bucket ≡ bucket_of n c.args.key in
    let U : ℕ → Type 0 = λ up. IsSought (length heads) (key_at hash parts) c.args.key (length parts) is up in
    let first = sought_first (key_at hash parts) heads links c.args.key bucket (length parts) is (key_found hash parts part c.args.key c.requires.key) c.requires.table.index (subst B count c.bucket_of-bucket.ensures.is) there in
    record { sought = subst U (sym (get_or_read heads bucket c.index-up.result.now there c.index-up.ensures 0)) first }

pub loop-up-preserved : goal.loop-up-preserved
loop-up-preserved g c =
    let hash = g.P.Part.hash_of in
    let parts = c.args.self.now.parts.items in
    let heads = c.args.self.now.index.heads.items in
    let links = c.args.self.now.index.links.items in
    let part = c.args.part.now in
    let is : ℕ → Type 0 = HoldsAt (λ (p : g.row.P.Denot). p ≡ part) parts in
    let up = c.loop-up.up in
    let at = up - 1 in
    let x = c.index.result.now in
    let within : up ≤ length parts = c.loop-up.invariant.sought.within in
    let next : up ≡ at + 1 = omega arith in
    let there : at < length parts = omega arith in
    let U : ℕ → Type 0 = λ up. IsSought (length heads) (key_at hash parts) c.args.key (length parts) is up in
    let long : length links ≡ length parts = c.requires.table.index.long in
    let in_links : at < length links = omega arith in
    let differs : is at → ⊥ = λ so.
    let e : x ≡ part = c.index.ensures ∙ so x in
    let yes : c.is_same.result ≡ true = c.is_same.ensures.1 e in
    cc
    in
    let on = sought_next (key_at hash parts) heads links c.args.key at (length parts) is (key_found hash parts part c.args.key c.requires.key) c.requires.table.index there (subst U next c.loop-up.invariant.sought) differs in
    record { sought = subst U (sym (get_or_read links at c.index-up-in-loop-up.result.now in_links c.index-up-in-loop-up.ensures 0)) on }

pub returns : goal.returns
returns g c = λ k d there e.
    let parts = c.args.self.now.parts.items in
    let low : c.loop-up.up ≤ k = omega arith in
    c.loop-up.invariant.sought.none k low there (λ d'. get_or_default parts k d' d there ∙ e)
