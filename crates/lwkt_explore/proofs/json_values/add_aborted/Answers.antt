use Rattle.std.proofs.Common.{◌≡◌, ◌++◌, ℕ, List, OnOk, codes, string_bytes, subst}
use Rattle.lwkt_explore.proofs.json_values.add_aborted.Goals as goal

pub returns : goal.returns
returns c =
    let F : List ℕ → Type 0 = λ word. OnOk c.put.result (string_bytes c.put.new.out ≡ string_bytes c.args.out.now ++ (codes "{\"aborted\":" ++ (word ++ codes "}"))) in
    subst F c.bool_word.ensures c.put.ensures
