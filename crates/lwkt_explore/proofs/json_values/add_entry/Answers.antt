use Rattle.std.proofs.Common.{◌≡◌, ◌++◌, rules, subst, sym, OnOk, string_bytes}
use Rattle.std.specs.Option.{option_copied}
use Rattle.lwkt_base.specs.declared.entries.Entry.{Entry}
use Rattle.lwkt_explore.specs.Jsons.{entry_json}
use Rattle.lwkt_explore.proofs.json_values.add_entry.Goals as goal

pub returns-in-Aborted : goal.returns-in-Aborted
returns-in-Aborted c =
    let F : Entry → Type 0 = λ e. OnOk c.add_aborted.result (string_bytes c.add_aborted.new.out ≡ string_bytes c.args.out.now ++ entry_json (option_copied c.args.telling) c.args.n e) in
    subst F (sym c.in-Aborted.is) c.add_aborted.ensures

pub returns-in-NoMessage : goal.returns-in-NoMessage
returns-in-NoMessage c =
    let F : Entry → Type 0 = λ e. OnOk c.push_str-in-NoMessage.result (string_bytes c.push_str-in-NoMessage.new.out ≡ string_bytes c.args.out.now ++ entry_json (option_copied c.args.telling) c.args.n e) in
    subst F (sym c.in-NoMessage.is) c.push_str-in-NoMessage.ensures

pub returns-in-Refused : goal.returns-in-Refused
returns-in-Refused c =
    let F : Entry → Type 0 = λ e. OnOk c.put-in-Refused.result (string_bytes c.put-in-Refused.new.out ≡ string_bytes c.args.out.now ++ entry_json (option_copied c.args.telling) c.args.n e) in
    subst F (sym c.in-Refused.is) (search rules)
