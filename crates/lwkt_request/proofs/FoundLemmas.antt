-- What a parse found, by the rows of its subcommand.
use Rattle.std.proofs.Common.{◌≡◌, List, Option, Some, None, option_map, ap, ap₂, sym, ◌∙◌}
use Rattle.clap.specs.Words.{Row, Text, subcommand_name_of, subcommand_rows_of}
use Rattle.clap.specs.Simple.{subcommand_rows}
use Rattle.clap.specs.declared.parser.matches.ArgMatches.{ArgMatches}
use Rattle.clap.specs.declared.parser.matches.ArgMatches.TheViews.{out-ArgMatches}
use Rattle.lwkt_request.specs.declared.requests.Task.{Task}
use Rattle.lwkt_request.specs.Tasks.{task_in}
use Rattle.lwkt_request.specs.Wishes.{Wish, wish_for, wish_in}

abbrev Sub : Type 0
Sub = Text × List Row

abbrev pair : Text → List Row → Sub
pair name rows = (name, rows)

paired : {B : Type 0} (f : B → Text) (g : B → List Row) (found : Option B) (name : Text) (rows : List Row) → Some name ≡ option_map f found → Some rows ≡ option_map (λ (p : Sub). p.1) (option_map (λ b. pair (f b) (g b)) found) → option_map (λ b. pair (f b) (g b)) found ≡ Some (pair name rows)
paired f g None name rows is_name are_rows = cc
paired f g (Some b) name rows is_name are_rows =
    let one : name ≡ f b = cc in
    let two : rows ≡ g b = cc in
    ap₂ (λ (n : Text) (rs : List Row). Some (pair n rs)) (sym one) (sym two)

named : (m : ArgMatches) (name : Text) (rows : List Row) → Some name ≡ subcommand_name_of m → Some rows ≡ option_map (λ (p : Sub). p.1) (subcommand_rows (out-ArgMatches m).subcommand) → subcommand_rows_of m ≡ Some (pair name rows)
named m name rows is_name are_rows = paired _ _ (out-ArgMatches m).subcommand name rows is_name are_rows

-- the wish, by the task that is asked for
pub by_task : (m : ArgMatches) (name : Text) (rows : List Row) (task : Option Task) → Some name ≡ subcommand_name_of m → Some rows ≡ option_map (λ (p : Sub). p.1) (subcommand_rows (out-ArgMatches m).subcommand) → task ≡ task_in name rows → wish_in (subcommand_rows_of m) ≡ option_map (wish_for rows) task
by_task m name rows task is_name are_rows is_task = ap wish_in (named m name rows is_name are_rows) ∙ ap (option_map (wish_for rows)) (sym is_task)
