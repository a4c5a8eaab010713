use Rattle.std.proofs.Common.{◌≡◌, ℕ, ◌<◌, ◌++◌, ◌∷◌, [], List, length, arith, ap, subst, ◌∙◌, Vec}
use Rattle.std.specs.declared.alloc.Global.{Global}
use Rattle.lwkt_search.specs.Indexes.{IsAdded}
use Rattle.lwkt_plain.specs.Tables.{IsTable}
use Rattle.lwkt_plain.proofs.TableLemmas.{table_push}
use Rattle.lwkt_plain.proofs.tables.Table.add.Goals as goal

pub returns-clause-table : goal.returns-clause-table
returns-clause-table g c =
    let hash = g.P.Part.hash_of in
    let parts = c.args.self.now.parts.items in
    let wide = c.widen.new.self in
    let part = c.args.part.now in
    let copy = c.in_ok-copy.copy in
    let same : wide.parts.items ≡ parts = ap (λ (v : Vec g.row.P.Denot Global). v.items) c.in_ok-widen.ensures.same in
    let F : List g.row.P.Denot → Type 0 = λ ps. IsTable hash ps wide.index.heads.items wide.index.links.items in
    let was : IsTable hash parts wide.index.heads.items wide.index.links.items = subst F same c.in_ok-widen.ensures.table in
    let pushed : c.push.new.list.items ≡ parts ++ part ∷ [] = c.in_ok-push.ensures.items ∙ (ap (λ (ps : List g.row.P.Denot). ps ++ copy ∷ []) same ∙ ap (λ (p : g.row.P.Denot). parts ++ p ∷ []) c.in_ok-copy.ensures) in
    let K : ℕ → Type 0 = λ k. IsAdded k wide.index.heads.items wide.index.links.items c.add.new.self.heads.items c.add.new.self.links.items in
    let added : IsAdded (hash part) wide.index.heads.items wide.index.links.items c.add.new.self.heads.items c.add.new.self.links.items = subst K c.requires.key c.in_ok-add.ensures in
    let room : length parts < 4294967295 = omega arith in
    table_push hash parts c.push.new.list.items wide.index.heads.items wide.index.links.items c.add.new.self.heads.items c.add.new.self.links.items part was c.requires.fresh added pushed room
