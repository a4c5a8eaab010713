use Rattle.std.proofs.Common.{◌≡◌, ℕ, List, [], ◌∷◌, ◌++◌, ap, subst, ◌∙◌}
use Rattle.lwkt_search.specs.Links.{Link, link_by, links_behind}
use Rattle.lwkt_search.proofs.LinkLemmas.{links_push}
use Rattle.lwkt_search.proofs.links.Links.push.Goals as goal

pub returns : goal.returns
returns c =
    let parents = c.self.inside.parents.items in
    let cpus = c.self.inside.cpus.items in
    let parent = c.args.parent in
    let cpu = c.args.cpu in
    let parents' = c.push.new.list.items in
    let cpus' = c.push-2.new.list.items in
    let one : parents' ≡ parents ++ parent ∷ [] = c.in_ok-push.ensures.items in
    let two : cpus' ≡ cpus ++ cpu ∷ [] = c.in_ok-push-2.ensures.items ∙ ap (λ (xs : List ℕ). xs ++ cpu ∷ []) c.in_ok-reserve.ensures.items in
    let G : List Link → Type 0 = λ ls. links_behind [] parents' cpus' ≡ ls ++ link_by ls parent cpu ∷ [] in
    subst G c.self.view_is (ap (λ (xs : List ℕ). links_behind [] xs cpus') one ∙ (ap (λ (xs : List ℕ). links_behind [] (parents ++ parent ∷ []) xs) two ∙ links_push [] parents cpus parent cpu c.self.invariant))
