use Rattle.std.proofs.Common.{◌≡◌, ◌++◌, List, OnOk, codes, string_bytes, subst}
use Rattle.std.specs.Option.{option_copied}
use Rattle.lwkt_report.specs.declared.closings.TokenLine.{TokenLine}
use Rattle.lwkt_explore.specs.Jsons.{items_json, token_json}
use Rattle.lwkt_explore.proofs.Writing.{then_written}
use Rattle.lwkt_explore.proofs.json_values.add_token_part.Goals as goal

pub returns : goal.returns
returns c =
    let F : List TokenLine → Type 0 = λ lines. OnOk c.add_tokens.result (string_bytes c.add_tokens.new.out ≡ string_bytes c.push_str.new.out ++ items_json (token_json (option_copied c.args.telling)) lines) in
    then_written c.add_tokens.result (string_bytes c.args.out.now) (string_bytes c.push_str.new.out) (string_bytes c.add_tokens.new.out) (codes ",\"tokens\":[") (items_json (token_json (option_copied c.args.telling)) c.args.closing.now.tokens.items)
    c.in_ok-push_str.ensures (subst F c.as_slice.ensures.value c.add_tokens.ensures)
