-- The command line, as far as a parse reads it (own).
use Rattle.std.specs.Prelude.{◌≡◌, ℕ, List, true, false, Some, codes}
use Rattle.clap.specs.Words.{App, Rule, Shape, Text, app_of, new_app, new_rule, with_rule, with_subcommand}
use Rattle.clap.specs.Simple.{on_top}
use Rattle.clap.specs.declared.builder.action.ArgAction.TheVariants.{SetTrue}
use Rattle.clap.specs.declared.builder.command.Command.{Command}
use Rattle.clap.specs.declared.builder.command.Command.TheViews.{out-Command}

-- an argument that is named behind `--`; `--NAME`, `--NAME VALUE`, and what is no option
abbrev pub named : Text → Rule
named name = record (new_rule name) { long = Some name }

abbrev pub flag : Text → Rule
flag name = record (named name) { action = Some SetTrue }

abbrev pub valued : Text → Rule
valued name = record (named name) { value_names = 1 }

abbrev pub file : Rule
file = new_rule (codes "FILE")

abbrev pub run : App
run = with_rule (with_rule (with_rule (new_app (codes "run")) (flag (codes "threads"))) (flag (codes "numbers"))) file

-- the options that choose the order of a run, and which turns of it are shown
abbrev pub with_turns : App → App
with_turns app = with_rule (with_rule (with_rule app (valued (codes "order"))) (valued (codes "turns"))) (valued (codes "rounds"))

-- those that choose a view
abbrev pub with_views : App → App
with_views app = with_rule (with_rule (with_rule (with_rule app (flag (codes "svg"))) (flag (codes "trace"))) (flag (codes "chains"))) (valued (codes "format"))

abbrev pub show : App
show = with_rule (with_rule (with_views (with_turns (with_rule (new_app (codes "show")) (flag (codes "threads"))))) (flag (codes "numbers"))) file

abbrev pub check : App
check = with_rule (with_rule (new_app (codes "check")) (flag (codes "lines"))) file

abbrev pub text : App
text = with_rule (with_rule (with_rule (with_rule (new_app (codes "text")) (flag (codes "json"))) (flag (codes "text"))) (flag (codes "run"))) file

-- the options that choose how each state is gone on from, and compared
abbrev pub with_ways : App → App
with_ways app = with_rule (with_rule app (flag (codes "plain"))) (flag (codes "careful"))

-- those that bound a search
abbrev pub with_bounds : App → App
with_bounds app = with_rule (with_rule (with_rule (with_rule app (valued (codes "states"))) (valued (codes "turns"))) (valued (codes "memory"))) (valued (codes "seconds"))

-- those of random orders
abbrev pub with_random : App → App
with_random app = with_rule (with_rule app (valued (codes "random"))) (valued (codes "seed"))

-- those that choose how it is written what is found
abbrev pub with_layouts : App → App
with_layouts app = with_rule (with_rule app (flag (codes "numbers"))) (flag (codes "json"))

abbrev pub explore : App
explore =
    with_rule (with_rule (with_layouts (with_rule (with_random (with_bounds (with_ways (new_app (codes "explore")))))
    (flag (codes "progress")))) (flag (codes "all"))) file

-- the program's name isn't among the words, a subcommand is wanted, `help` is no subcommand, and there is a version
abbrev pub with_settings : Shape → Shape
with_settings shape = record shape {
  no_binary_name = true;
  disable_help_subcommand = true;
  subcommand_required = true;
  arg_required_else_help = true;
  has_version = true;
}

abbrev pub top : App
top = on_top with_settings (new_app (codes "lwkt"))

abbrev pub command_line : App
command_line = with_subcommand (with_subcommand (with_subcommand (with_subcommand (with_subcommand top run.top) show.top) check.top) text.top) explore.top

-- the command is this one, no argument of it is one of its subcommands too, and no parse by it has wanted memory
pub record IsBuilt (app : App) (command : Command) : Type 0 where
  pub is : app_of command ≡ app
  pub local : (out-Command command).has_globals ≡ false
  pub whole : (out-Command command).is_broken ≡ false
