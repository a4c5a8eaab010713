-- Requests, with texts in place of strings (own).
use Rattle.std.specs.Prelude.{ℕ, Bool, true, List, Option, None, Some, codes, string_bytes}
use Rattle.std.specs.Option.{option_and_then, option_map}
use Rattle.clap.specs.Words.{Row, Text, first_of}
use Rattle.lwkt_request.specs.declared.requests.Asked.{Asked}
use Rattle.lwkt_request.specs.declared.requests.Asked.TheVariants.{Do}
use Rattle.lwkt_request.specs.declared.requests.Request.{Request}
use Rattle.lwkt_request.specs.declared.requests.Task.{Task}
use Rattle.lwkt_request.specs.declared.requests.Task.TheVariants.{Run}
use Rattle.lwkt_request.specs.declared.requests.Wording.TheVariants.{OldName}
use Rattle.lwkt_request.specs.Tasks.{task_in}
use Rattle.lwkt_request.specs.Texts.{path_of, turns_of}

pub record Wish : Type 0 where
  pub task : Task
  pub order : Option (List ℕ)
  pub path : Option Text

abbrev pub wish_by : Request → Wish
wish_by request = record { task = request.task; order = option_map (λ order. order.items) request.order; path = option_map string_bytes request.path }

-- what is asked for with this task
abbrev pub wish_for : List Row → Task → Wish
wish_for rows task = record { task = task; order = option_map turns_of (first_of (codes "order") rows); path = path_of (first_of (codes "FILE") rows) }

-- what a subcommand asks for, by its name and what was found for its arguments; none if they don't go together
abbrev pub wish_in : Option (Text × List Row) → Option Wish
wish_in found = option_and_then (λ (sub : Text × List Row). option_map (wish_for sub.1) (task_in sub.0 sub.1)) found

-- a run that `lwkt_run` is asked for
abbrev pub run_wish : Bool → Option Text → Wish
run_wish on_threads file = record { task = Run on_threads OldName; order = None; path = path_of file }

-- the request that an answer is, if it is one
abbrev pub wish_of : Asked → Option Wish
wish_of (Do request) = Some (wish_by request)
wish_of _ = None
